-- Words in another case.
use Rattle.std.proofs.Common.{◌≡◌, Bool, ◌==◌, ℕ, true, false, refl, List, [], ◌∷◌, ◌++◌, sym, ap, ◌∙◌, inl, inr, append_assoc}
use Rattle.std.proofs.lemmas.Bool.{and_from, and_parts, cases_Bool}
use Rattle.std.proofs.lemmas.Str.{chars-append}
use Rattle.std.specs.Prelude.{encode_utf8}
use Rattle.std.specs.Char.Unicode.ToLowercase.{to_lowercase}
use Rattle.std.specs.Char.Unicode.ToUppercase.{to_uppercase}
use Rattle.std.specs.Str.{chars, IsUtf8}
use Rattle.unicode_segmentation.proofs.TextLemmas.{chars-encode_utf8}
use Rattle.line_editor.specs.declared.actions.Case.{Case}
use Rattle.line_editor.specs.declared.actions.Case.TheVariants.{Upper, Lower, Title}
use Rattle.line_editor.specs.declared.places.Stop.TheVariants.{WordEnd}
use Rattle.line_editor.specs.declared.places.Target.TheVariants.{Forward}
use Rattle.line_editor.specs.Cases.{case_behind, cased, in_case, only_shown, recased}
use Rattle.line_editor.specs.Edits.{cut_text, line_with}
use Rattle.line_editor.specs.Places.{target_place}
use Rattle.line_editor.specs.Shown.{AreIn, comes_in, is_shown}
use Rattle.line_editor.specs.Splits.{Split}
use Rattle.line_editor.specs.States.{EditorState, case_cut, changed}

-- ---- what comes into a line stays so

in-shown : (multiline : Bool) (c : ℕ) → is_shown c ≡ true → comes_in multiline c ≡ true
in-shown false c h = h
in-shown true c h = elim (cases_Bool (c == 10)) [ inl feed ↦ rw feed refl | inr other ↦ rw other h ]

module _ (multiline : Bool) where
  only-shown : (c : ℕ) (chars : List ℕ) → comes_in multiline c ≡ true → comes_in multiline (only_shown c chars) ≡ true
  only-shown c [] h = h
  only-shown c (d ∷ []) h = elim (cases_Bool (is_shown d)) [ inl here ↦ rw here (in-shown multiline d here) | inr not_here ↦ rw not_here h ]
  only-shown c (d ∷ e ∷ chars) h = h

  in_case-shown : (case : Case) (c : ℕ) → comes_in multiline c ≡ true → comes_in multiline (in_case case c) ≡ true
  in_case-shown Upper c h = only-shown c (to_uppercase c) h
  in_case-shown Lower c h = only-shown c (to_lowercase c) h
  in_case-shown Title c h = only-shown c (to_uppercase c) h

  pub cased-shown : (case : Case) (text : List ℕ) → AreIn multiline text → AreIn multiline (cased case text)
  cased-shown case [] h = h
  cased-shown case (c ∷ text) h =
      let parts = and_parts _ _ h in
      and_from _ _ (in_case-shown case c parts.0) (cased-shown (case_behind case c) text parts.1)

-- ---- a text is brought into a case

-- One character more.
pub cased-pushed : (case next : Case) (all old new rest back : List ℕ) (c x : ℕ) → all ≡ chars old ++ cased case (chars rest) → chars rest ≡ c ∷ chars back
    → x ≡ in_case case c → next ≡ case_behind case c → new ≡ old ++ encode_utf8 x → IsUtf8 old → IsUtf8 (encode_utf8 x) → all ≡ chars new ++ cased next (chars back)
cased-pushed case next all old new rest back c x e f is on g u v =
    let pushed : chars new ≡ chars old ++ x ∷ [] = ap chars g ∙ chars-append old (encode_utf8 x) u ∙ ap (λ t. chars old ++ t) (chars-encode_utf8 x v) in
    let first : cased case (chars rest) ≡ x ∷ cased next (chars back) =
    ap (cased case) f ∙ ap (λ n. n ∷ cased (case_behind case c) (chars back)) (sym is) ∙ ap (λ k. x ∷ cased k (chars back)) (sym on) in
    e ∙ ap (λ t. chars old ++ t) first ∙ sym (append_assoc (chars old) (x ∷ []) (cased next (chars back))) ∙ ap (λ t. t ++ cased next (chars back)) (sym pushed)

-- What comes of it in an editor.
module _ (case : Case) (w : EditorState) (d : Split) (word : List ℕ) (same : w.line ≡ d) (e : word ≡ cut_text (Forward WordEnd) d) where
  is_cut : word ≡ cut_text (Forward WordEnd) w.line
  is_cut = e ∙ ap (cut_text (Forward WordEnd)) (sym same)

  pub case_some : (c : ℕ) (rest : List ℕ) → word ≡ c ∷ rest → (line : Split) → line ≡ line_with d (cased case word) (target_place (Forward WordEnd) d)
      → changed line w ≡ case_cut case (cut_text (Forward WordEnd) w.line) w
  case_some c rest some line f =
      let whole : line ≡ recased case w.line =
      f ∙ ap (λ t. line_with d (cased case t) (target_place (Forward WordEnd) d)) e ∙ ap (recased case) (sym same) in
      ap (λ (l : Split). changed l w) whole ∙ sym (ap (λ t. case_cut case t w) (sym is_cut ∙ some))
