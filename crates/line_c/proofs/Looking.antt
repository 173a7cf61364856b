-- A frame that joins the output.
use Rattle.std.proofs.Common.{◌≡◌, ℕ, Bool, true, false, List, ◌++◌, Option, Some, is_some, Bor, map, refl, sym, subst, ap, ◌∙◌}
use Rattle.std.proofs.lemmas.List.{append_assoc}
use Rattle.std.specs.Prelude.{Result, Ok, Err, OnErr, OnOk}
use Rattle.std.specs.Str.Lines.{lines}
use Rattle.crossterm_style.specs.declared.styled_content.StyledContent.{StyledContent}
use Rattle.line_editor.specs.declared.masks.Mask.{Mask}
use Rattle.prompt.specs.Completing.{as_read}
use Rattle.prompt.specs.Frames.{Area, Draws, DrawsFront, IsLineFrame}
use Rattle.prompt.specs.Shown.{PromptRun, Shown, run_of, runs_of}
use Rattle.prompt.specs.Written.{PromptView, look_of, prompt_runs, shown_for}
use Rattle.prompt.specs.declared.asking.Prompt.{Prompt}
use Rattle.line_c.specs.declared.answers.Answer.TheVariants.{GoesOn}
use Rattle.line_c.specs.declared.given.Given.{Given}
use Rattle.line_c.specs.declared.given.Listed.{Listed}
use Rattle.line_c.specs.Answers.{FindsArea, ShowsLine, before_frame, lists, look_at, names_listed}
use Rattle.line_c.specs.Kept.{LineState, whole_prompt}

-- A fact that holds at a value that came.
pub at_ok : {X E : Type 0} {r : Result X E} {x : X} {P : Type 0} → r ≡ Ok x → OnOk r P → P
at_ok {X} {E} {r} {x} {P} is p = subst (λ r. OnOk r P) is p

-- A result isn't both.
pub not_both : {X E : Type 0} {r : Result X E} {x : X} {e : E} → r ≡ Ok x → r ≡ Err e → ⊥
not_both {X} {E} {r} {x} {e} ok err = at_ok ok (subst (λ (r : Result X E). OnOk r ⊥) (sym err) tt)

-- A prompt with these parts, which wraps the line, asks the terminal and prints texts or not.
abbrev pub look_by : List PromptRun → List ℕ → Listed → List (List ℕ) → Option Mask → Bool → Bool → Bool → PromptView
look_by prompt hint which names mask asks wraps prints = record {
  given = as_read;
  prompt = prompt;
  hints = λ _. hint;
  candidates = λ before _. names_listed which before names;
  mask = mask;
  asks = asks;
  wraps = wraps;
  prints = prints;
}

-- How a prompt looks with what a caller has given.
abbrev pub look_with : Prompt Given → Given → PromptView
look_with p g = look_of as_read (λ _. g.hint.now) (λ before _. names_listed g.listed before (map (λ n. n.now) g.names.now)) p

-- A prompt has the parts of a text and of contents behind it.
pub runs_are : (k : LineState) (text : List ℕ) (parts : List (StyledContent (Bor (List ℕ)))) → text ≡ k.prompt → map run_of parts ≡ k.parts → runs_of text parts ≡ whole_prompt k
runs_are k text parts is are =
    ap (λ (t : List ℕ). whole_prompt (record k { prompt = t; parts = map run_of parts })) is ∙ ap (λ (ps : List PromptRun). whole_prompt (record k { parts = ps })) are

-- It looks as the definition says.
pub look_is : (k : LineState) (p : Prompt Given) (g : Given) → prompt_runs p ≡ whole_prompt k → p.mask ≡ k.mask → p.asks ≡ true → p.wraps ≡ true → is_some p.printer ≡ false
    → g.hint.now ≡ k.hint → g.listed ≡ k.listed → map (λ n. n.now) g.names.now ≡ lines k.names → look_with p g ≡ look_at k
look_is k p g runs mask asks wraps prints hint which names =
    let all = map (λ (n : Bor (List ℕ)). n.now) g.names.now in
    ap (λ x. look_by x g.hint.now g.listed all p.mask p.asks p.wraps (is_some p.printer)) runs ∙ ap (λ x. look_by (whole_prompt k) x g.listed all p.mask p.asks p.wraps (is_some p.printer)) hint
    ∙ ap (λ x. look_by (whole_prompt k) k.hint x all p.mask p.asks p.wraps (is_some p.printer)) which ∙ ap (λ x. look_by (whole_prompt k) k.hint k.listed x p.mask p.asks p.wraps (is_some p.printer)) names
    ∙ ap (λ x. look_by (whole_prompt k) k.hint k.listed (lines k.names) x p.asks p.wraps (is_some p.printer)) mask ∙ ap (λ x. look_by (whole_prompt k) k.hint k.listed (lines k.names) k.mask x p.wraps (is_some p.printer)) asks
    ∙ ap (λ x. look_by (whole_prompt k) k.hint k.listed (lines k.names) k.mask true x (is_some p.printer)) wraps
    ∙ ap (λ x. look_by (whole_prompt k) k.hint k.listed (lines k.names) k.mask true true x) prints

-- Bytes grew by a frame, or by a beginning of one.
pub front_of : {X E : Type 0} (r : Result X E) (s : Shown) (a b : Area) (old new out : List ℕ) → OnOk r (Draws s a b (Some old) (Some new)) → OnErr r (DrawsFront s a (Some old) (Some new))
    → old ≡ out → (bytes : List ℕ) × (new ≡ out ++ bytes)
front_of (Ok x) s a b old new out (bytes, grown, frame) stops is = (bytes, grown ∙ ap (λ o. o ++ bytes) is)
front_of (Err e) s a b old new out shows (c, front, rest, grown, frame) is = (front, grown ∙ ap (λ o. o ++ front) is)

-- A frame was begun and drawn.
pub shows_line : (k m l : LineState) → FindsArea k.clears k.area m.area → m.output ≡ k.output ++ before_frame k.clears → m ≡ record k { area = m.area; output = m.output }
    → l ≡ record m { area = l.area; output = l.output } → Draws (shown_for (look_at m) (lists m.listed) m.editor) m.area l.area (Some m.output) (Some l.output)
    → ShowsLine GoesOn k (record l { clears = false })
shows_line k m l finds begun rest_m rest_l (bytes, grown, frame) =
    let front = before_frame k.clears in
    let out : l.output ≡ k.output ++ (front ++ bytes) = grown ∙ ap (λ o. o ++ bytes) begun ∙ append_assoc k.output front bytes in
    let is = ap (λ (x : LineState). record x { clears = false }) rest_l ∙ ap (λ (x : LineState). record x { area = l.area; clears = false; output = l.output }) rest_m
    ∙ ap (λ (o : List ℕ). record k { area = l.area; clears = false; output = o }) out in
    (front ++ bytes, m.area, finds, is, (bytes, refl, subst (λ (x : LineState). IsLineFrame (shown_for (look_at x) (lists x.listed) x.editor) m.area l.area bytes) rest_m frame))
