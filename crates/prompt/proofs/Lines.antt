-- The lines of several calls are those of the events that were taken.
use Rattle.std.proofs.Common.{◌≡◌, ℕ, Bool, true, false, cond, List, [], ◌∷◌, ◌++◌, Option, refl, sym, ap, subst, ◌∙◌, append_assoc, append-nil}
use Rattle.std.specs.declared.time.Duration.{Duration}
use Rattle.crossterm_types.specs.Seen.{Seen}
use Rattle.crossterm_read.specs.Answers.{SourceAnswer}
use Rattle.crossterm_read.specs.History.{Known}
use Rattle.line_editor.specs.Bounds.{is_too_long}
use Rattle.line_editor.specs.States.{EditorState}
use Rattle.line_editor.specs.Turns.{Answer, Going, Clear, Ring, Line, Interrupted, Closed, IsGoing, after_events, answer, event_more, lines_in, lines_of_events, task_of, turned}
use Rattle.prompt.specs.Asking.{LineEnds, GoesOn, unread, further, placed, waited, answer_to, after_event}
use Rattle.prompt.specs.Lines.{Calls, uncalled, called, GivesLines, read_for_line, going_on_events, taken_events}

-- Some events, and then others.
pub after_both : (xs ys : List Seen) (w : EditorState) → after_events (xs ++ ys) w ≡ after_events ys (after_events xs w)
after_both [] ys w = refl
after_both (x ∷ xs) ys w = after_both xs ys (turned x w)

pub lines_both : (xs ys : List Seen) (w : EditorState) → lines_of_events (xs ++ ys) w ≡ lines_of_events xs w ++ lines_of_events ys (after_events xs w)
lines_both [] ys w = refl
lines_both (x ∷ xs) ys w =
    let first = lines_in (answer (task_of x w) w) in
    ap (λ t. first ++ t) (lines_both xs ys (turned x w)) ∙ sym (append_assoc first (lines_of_events xs (turned x w)) (lines_of_events ys (after_events xs (turned x w))))

module _ (given : EditorState → Seen → Seen) where
  taken_first : (long : Bool) (x : Seen) (ys : List Seen) (w : EditorState) (both first more after : List Seen)
      → both ≡ first ++ taken_events given ys (after_events first w) → more ≡ after ++ taken_events given ys (after_events after (turned x w))
      → cond long both (x ∷ more) ≡ cond long first (x ∷ after) ++ taken_events given ys (after_events (cond long first (x ∷ after)) w)
  taken_first true x ys w both first more after h k = h
  taken_first false x ys w both first more after h k = ap (λ t. x ∷ t) k

  taken_both : (xs ys : List Seen) (w : EditorState)
      → taken_events given (xs ++ ys) w ≡ taken_events given xs w ++ taken_events given ys (after_events (taken_events given xs w) w)
  taken_both [] ys w = refl
  taken_both (x ∷ xs) ys w =
      let y : Seen = given w x in
      taken_first (is_too_long (event_more y w) w) y ys w (taken_events given (xs ++ ys) w) (taken_events given xs w) (taken_events given (xs ++ ys) (turned y w))
      (taken_events given xs (turned y w)) (taken_both xs ys w) (taken_both xs ys (turned y w))

  -- What two runs of events give together.
  gives_both : (xs ys : List Seen) (w k z : EditorState) (first more : List (List ℕ)) → GivesLines given xs w first k → GivesLines given ys k more z
      → GivesLines given (xs ++ ys) w (first ++ more) z
  gives_both xs ys w k z first more g h =
      let both = taken_both xs ys w in
      let from : EditorState = after_events (taken_events given xs w) w in
      record {
        come = ap (λ t. lines_of_events t w) both ∙ lines_both (taken_events given xs w) (taken_events given ys from) w
            ∙ ap (λ t. t ++ lines_of_events (taken_events given ys from) from) g.come ∙ ap (λ (x : EditorState). first ++ lines_of_events (taken_events given ys x) x) g.left ∙ ap (λ t. first ++ t) h.come;
        left = ap (λ t. after_events t w) both ∙ after_both (taken_events given xs w) (taken_events given ys from) w ∙ ap (λ (x : EditorState). after_events (taken_events given ys x) x) g.left ∙ h.left;
      }

one_lines : (long : Bool) (e : Seen) (w : EditorState) → lines_of_events (cond long [] (e ∷ [])) w ≡ lines_in (cond long Going (answer (task_of e w) w))
one_lines true e w = refl
one_lines false e w = append-nil (lines_in (answer (task_of e w) w))

one_left : (long : Bool) (e : Seen) (w : EditorState) → after_events (cond long [] (e ∷ [])) w ≡ cond long w (turned e w)
one_left true e w = refl
one_left false e w = refl

-- No line comes out while it goes on.
no_line : (a : Answer) → IsGoing a → lines_in a ≡ []
no_line Going h = refl
no_line Clear h = refl
no_line Ring h = refl
no_line (Line text) h = absurd h
no_line Interrupted h = absurd h
no_line Closed h = absurd h

-- What one event gives.
gives_one : (given : EditorState → Seen → Seen) (e : Seen) (w : EditorState) (a : Answer) → answer_to (given w e) w ≡ a
    → GivesLines given (e ∷ []) w (lines_in a) (after_event (given w e) w)
gives_one given e w a is =
    let y : Seen = given w e in
    record {
      come = one_lines (is_too_long (event_more y w) w) y w ∙ ap lines_in is;
      left = one_left (is_too_long (event_more y w) w) y w;
    }

module _ {S : Type 0} {drawn : S → List SourceAnswer → S → Type 0} {asked : S → List (Option Duration)} {given : EditorState → Seen → Seen} where
  -- While a line goes on no line comes out.
  gives_none : {v : Known S} {w : EditorState} {p : Known S} {k : EditorState} → (goes : GoesOn drawn asked given v w p k) → GivesLines given (going_on_events goes) w [] k
  gives_none unread = record { come = refl; left = refl }
  gives_none {w = w} (further p q k e goes reads going) =
      let P : List (List ℕ) → Type 0 = λ t. GivesLines given (e ∷ []) k t (after_event (given k e) k) in
      gives_both given (going_on_events goes) (e ∷ []) w k (after_event (given k e) k) [] [] (gives_none goes)
      (subst P (no_line (answer_to (given k e) k) going) (gives_one given e k (answer_to (given k e) k) refl))
  gives_none (placed p q k goes asks) = gives_none goes
  gives_none (waited p q k goes waits) = gives_none goes

  -- What a line's events give.
  gives_end : {v u : Known S} {w z : EditorState} {a : Answer} → (ends : LineEnds drawn asked given v w a u z) → GivesLines given (read_for_line ends) w (lines_in a) z
  gives_end {w = w} {z = z} {a = a} ends =
      let P : EditorState → Type 0 = λ x. GivesLines given (read_for_line ends) w (lines_in a) x in
      subst P (sym ends.left) (gives_both given (going_on_events ends.goes) (ends.event ∷ []) w ends.line (after_event (given ends.line ends.event) ends.line) [] (lines_in a)
      (gives_none ends.goes) (gives_one given ends.event ends.line a ends.ends))

  -- What the events of some calls give.
  pub gives_lines : {v : Known S} {w : EditorState} {u : Known S} {z : EditorState} {events : List Seen} {lines : List (List ℕ)} → Calls drawn asked given v w u z events lines
      → GivesLines given events w lines z
  gives_lines uncalled = record { come = refl; left = refl }
  gives_lines {w = w} (called p q k l events lines a before ends) = gives_both given events (read_for_line ends) w k l lines (lines_in a) (gives_lines before) (gives_end ends)
