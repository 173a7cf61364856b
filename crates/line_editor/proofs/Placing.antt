-- Moves to the ends of a line.
use Rattle.std.proofs.Common.{◌≡◌, ◌≤◌, ℕ, List, [], ◌∷◌, ◌++◌, length, reverse, take, drop, refl, sym, ap, ◌∙◌, arith, append_assoc, append-nil, take-append-drop}
use Rattle.std.proofs.lemmas.List.{drop_all, reverse-append, reverse-reverse}
use Rattle.std.specs.Str.{chars, IsUtf8, IsCharBoundary}
use Rattle.unicode_segmentation.specs.Segments.{chars_before, chars_from}
use Rattle.line_editor.specs.declared.places.Stop.{Stop}
use Rattle.line_editor.specs.declared.places.Stop.TheVariants.{Edge}
use Rattle.line_editor.specs.declared.places.Target.{Target}
use Rattle.line_editor.specs.declared.places.Target.TheVariants.{Back, Forward}
use Rattle.line_editor.specs.Splits.{ahead, last_stop, split_at}
use Rattle.line_editor.specs.Places.{back_from, forward_from, stops, target_place}
use Rattle.line_editor.proofs.Settling.{text_of-split_at}
use Rattle.line_editor.proofs.Stepping.{chars_before-start, chars_from-end}

-- Back from the start is the start.
pub place-start : (target : Target) (stop : Stop) (text : List ℕ) (at : ℕ) → target ≡ Back stop → at ≡ 0 → split_at text 0 ≡ target_place target (split_at text at)
place-start target stop text at back zero = rw (back, zero, chars_before-start text) refl

-- On from the end is the end.
pub place-end : (target : Target) (stop : Stop) (text : List ℕ) (at : ℕ) → target ≡ Forward stop → length text ≤ at → split_at text at ≡ target_place target (split_at text at)
place-end target stop text at on end = rw (on, chars_from-end text at end) refl

-- An edge stops nowhere.
shift : (c : ℕ) (before after : List ℕ) → reverse before ++ (c ∷ after) ≡ reverse (c ∷ before) ++ after
shift c before after = sym (append_assoc (reverse before) (c ∷ []) after) ∙ ap (λ t. t ++ after) (sym (reverse-append (c ∷ []) before))

last-edge : (before after : List ℕ) → last_stop (stops Edge) before after ≡ record { before = []; after = reverse before ++ after }
last-edge [] after = refl
last-edge (c ∷ before) after = last-edge before (c ∷ after) ∙ ap (λ (t : List ℕ). record { before = []; after = t }) (shift c before after)

ahead-edge : (before after : List ℕ) → ahead (stops Edge) before after ≡ record { before = reverse after ++ before; after = [] }
ahead-edge before [] = refl
ahead-edge before (c ∷ after) = ahead-edge (c ∷ before) after ∙ ap (λ (t : List ℕ). record { before = t; after = [] }) (shift c after before)

back-edge : (before after : List ℕ) → back_from (stops Edge) before after ≡ record { before = []; after = reverse before ++ after }
back-edge [] after = refl
back-edge (c ∷ before) after = last-edge before (c ∷ after) ∙ ap (λ (t : List ℕ). record { before = []; after = t }) (shift c before after)

forward-edge : (before after : List ℕ) → forward_from (stops Edge) before after ≡ record { before = reverse after ++ before; after = [] }
forward-edge before [] = refl
forward-edge before (c ∷ after) = ahead-edge (c ∷ before) after ∙ ap (λ (t : List ℕ). record { before = t; after = [] }) (shift c after before)

-- The edges of a text are its ends.
module _ (target : Target) (text : List ℕ) (at : ℕ) (u : IsUtf8 text) (b : IsCharBoundary text at) where
  pub start-edge : target ≡ Back Edge → split_at text 0 ≡ target_place target (split_at text at)
  start-edge e =
      let none : split_at text 0 ≡ record { before = []; after = chars text } =
      ap (λ (t : List ℕ). record { before = t; after = chars text }) (chars_before-start text) in
      none ∙ ap (λ (t : List ℕ). record { before = []; after = t }) (sym (text_of-split_at text at u b))
      ∙ sym (back-edge (chars_before text at) (chars_from text at)) ∙ ap (λ (t : Target). target_place t (split_at text at)) (sym e)

  pub end-edge : target ≡ Forward Edge → split_at text (length text) ≡ target_place target (split_at text at)
  end-edge e =
      let nothing : drop (length text) text ≡ [] = drop_all (length text) text (omega arith) in
      let all : take (length text) text ≡ text =
      sym (append-nil (take (length text) text)) ∙ ap (λ t. take (length text) text ++ t) (sym nothing) ∙ take-append-drop (length text) text in
      let front : chars_before text (length text) ≡ reverse (chars_from text at) ++ chars_before text at =
      ap (λ t. reverse (chars t)) all ∙ ap reverse (sym (text_of-split_at text at u b)) ∙ reverse-append (reverse (chars_before text at)) (chars_from text at)
      ∙ ap (λ t. reverse (chars_from text at) ++ t) (reverse-reverse (chars_before text at)) in
      ap (λ (t : List ℕ). record { before = t; after = chars_from text (length text) }) front
      ∙ ap (λ (t : List ℕ). record { before = reverse (chars_from text at) ++ chars_before text at; after = t }) (chars_from-end text (length text) (omega arith))
      ∙ sym (forward-edge (chars_before text at) (chars_from text at)) ∙ ap (λ (t : Target). target_place t (split_at text at)) (sym e)
