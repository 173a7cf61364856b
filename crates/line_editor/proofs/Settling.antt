-- A cursor that is brought to a stop is between two clusters.
use Rattle.std.proofs.Common.{◌≡◌, ℕ, ◌≤◌, true, List, [], ◌∷◌, ◌++◌, length, reverse, take, drop, slice_range, refl, sym, subst, ap, ◌∙◌, inl, inr, arith, take_at, drop_at, length-append, length-drop, ◌-◌, take-append-drop}
use Rattle.std.proofs.lemmas.Bool.{cases_Bool, and_parts, false≢true}
use Rattle.std.proofs.lemmas.List.{length-reverse, reverse-append, reverse-reverse}
use Rattle.std.proofs.lemmas.List.Folds.{drop_split}
use Rattle.unicode_segmentation.proofs.TextLemmas.{take_split}
use Rattle.std.proofs.lemmas.Str.{chars-append, chars-nil, IsUtf8-between, IsUtf8-take, IsUtf8-drop, IsCharBoundary-at_seam}
use Rattle.std.specs.Str.{chars, IsUtf8, IsCharBoundary}
use Rattle.unicode_segmentation.specs.Grapheme.{is_grapheme_break}
use Rattle.unicode_segmentation.specs.Segments.{Rule, chars_before, chars_from}
use Rattle.line_editor.specs.declared.places.Stop.{Stop}
use Rattle.line_editor.specs.declared.places.Stop.TheVariants.{Cluster, WordStart, WordEnd, Blank, Edge}
use Rattle.line_editor.specs.declared.places.Target.{Target}
use Rattle.line_editor.specs.declared.places.Target.TheVariants.{Back, Forward}
use Rattle.line_editor.specs.Splits.{Split, ahead, last_stop, split_at, line_text}
use Rattle.line_editor.specs.Edits.{IsSettled, empty_line, from_to, line_with}
use Rattle.line_editor.specs.Places.{back_from, is_between, forward_from, target_place, stops}

pub between-start : (after : List ℕ) → is_between [] after ≡ true
unfolding is_grapheme_break
between-start after = refl

pub between-end : (before : List ℕ) → is_between before [] ≡ true
unfolding is_grapheme_break
between-end [] = refl
between-end (c ∷ before) = refl

-- A rule holds between clusters alone.
abbrev pub Keeps : Rule → Type 0
Keeps r = (before after : List ℕ) → r before after ≡ true → is_between before after ≡ true

pub stops-Keeps : (stop : Stop) → Keeps (stops stop)
stops-Keeps Cluster before after h = h
stops-Keeps WordStart before after h = (and_parts _ _ h).0
stops-Keeps WordEnd before after h = (and_parts _ _ h).0
stops-Keeps Blank before after h = (and_parts _ _ h).0
stops-Keeps Edge before after h = absurd (false≢true h)

pub ahead-IsSettled : (r : Rule) → Keeps r → (before after : List ℕ) → IsSettled (ahead r before after)
ahead-IsSettled r keeps before [] = between-end before
ahead-IsSettled r keeps before (c ∷ after) =
    elim (cases_Bool (r before (c ∷ after))) [
      | inl here ↦ rw here (keeps before (c ∷ after) here)
      | inr not_here ↦ rw not_here (ahead-IsSettled r keeps (c ∷ before) after)
    ]

pub behind-IsSettled : (r : Rule) → Keeps r → (before after : List ℕ) → IsSettled (last_stop r before after)
behind-IsSettled r keeps [] after = between-start after
behind-IsSettled r keeps (c ∷ before) after =
    elim (cases_Bool (r (c ∷ before) after)) [
      | inl here ↦ rw here (keeps (c ∷ before) after here)
      | inr not_here ↦ rw not_here (behind-IsSettled r keeps before (c ∷ after))
    ]

pub back_from-IsSettled : (r : Rule) → Keeps r → (before after : List ℕ) → IsSettled (back_from r before after)
back_from-IsSettled r keeps [] after = between-start after
back_from-IsSettled r keeps (c ∷ before) after = behind-IsSettled r keeps before (c ∷ after)

pub forward_from-IsSettled : (r : Rule) → Keeps r → (before after : List ℕ) → IsSettled (forward_from r before after)
forward_from-IsSettled r keeps before [] = between-end before
forward_from-IsSettled r keeps before (c ∷ after) = ahead-IsSettled r keeps (c ∷ before) after

pub place-IsSettled : (target : Target) (d : Split) → IsSettled (target_place target d)
place-IsSettled (Back stop) d = back_from-IsSettled (stops stop) (stops-Keeps stop) d.before d.after
place-IsSettled (Forward stop) d = forward_from-IsSettled (stops stop) (stops-Keeps stop) d.before d.after

-- A text, wherever its cursor is.
pub text_of-split_at : (text : List ℕ) (at : ℕ) → IsUtf8 text → IsCharBoundary text at → line_text (split_at text at) ≡ chars text
text_of-split_at text at u b =
    ap (λ t. t ++ chars (drop at text)) (reverse-reverse (chars (take at text)))
    ∙ sym (chars-append (take at text) (drop at text) (IsUtf8-take text at u b))
    ∙ ap chars (take-append-drop at text)

-- A text with another one in the place of what is between two places: the cursor behind that.
module _ (text with new : List ℕ) (from to at : ℕ)
    (u : IsUtf8 text) (v : IsUtf8 with) (a : IsCharBoundary text from) (b : IsCharBoundary text to)
    (e : new ≡ (take from text ++ with) ++ drop to text) (f : at ≡ length new - (length text - to)) where
  spliced-at : length (take from text ++ with) ≡ at
  spliced-at =
      let le : to ≤ length text = b.0 in
      omega (arith, f, ap length e, length-append (take from text ++ with) (drop to text), length-drop to text)

  pub spliced-boundary : IsCharBoundary new at
  spliced-boundary =
      let P : ℕ → Type 0 = λ n. IsCharBoundary new n in
      subst P spliced-at (IsCharBoundary-at_seam new (take from text ++ with) (drop to text) e (IsUtf8-drop text to u b))

  pub split_at-spliced : split_at new at ≡ record { before = reverse (chars with) ++ chars_before text from; after = chars_from text to }
  split_at-spliced =
      let front : chars_before new at ≡ reverse (chars with) ++ chars_before text from =
      ap (λ t. reverse (chars t)) (ap (take at) e ∙ take_at (take from text ++ with) (drop to text) at spliced-at)
      ∙ ap reverse (chars-append (take from text) with (IsUtf8-take text from u a)) ∙ reverse-append (chars (take from text)) (chars with) in
      let back : chars_from new at ≡ chars_from text to =
      ap chars (ap (drop at) e ∙ drop_at (take from text ++ with) (drop to text) at spliced-at) in
      rw (front, back) refl

-- A place in a text that a line's cursor may have.
abbrev pub Placed : List ℕ → ℕ → Type 0
Placed text at = IsCharBoundary text at × IsSettled (split_at text at)

pub place-Placed : (target : Target) (d : Split) (text inside : List ℕ) (at : ℕ) → text ≡ inside → IsCharBoundary text at
    → split_at text at ≡ target_place target d → Placed inside at
place-Placed target d text inside at e b f =
    let P : List ℕ → Type 0 = λ t. Placed t at in
    subst P e (b, subst IsSettled (sym f) (place-IsSettled target d))

pub ahead-Placed : (text inside : List ℕ) (at target_place : ℕ) → text ≡ inside → IsCharBoundary text target_place
    → split_at text target_place ≡ ahead is_between (chars_before text at) (chars_from text at) → Placed inside target_place
ahead-Placed text inside at target_place e b f =
    let P : List ℕ → Type 0 = λ t. Placed t target_place in
    subst P e (b, subst IsSettled (sym f) (ahead-IsSettled is_between (stops-Keeps Cluster) (chars_before text at) (chars_from text at)))

pub empty-Placed : (text : List ℕ) → text ≡ [] → Placed text 0
empty-Placed text e =
    let P : List ℕ → Type 0 = λ t. Placed t 0 in
    let nothing : IsCharBoundary [] 0 = (omega arith, λ some. omega (arith, some)) in
    subst P (sym e) (nothing, rw chars-nil (between-start []))

pub split_at-empty : (text : List ℕ) → text ≡ [] → split_at text 0 ≡ empty_line
split_at-empty text e = rw e (rw chars-nil refl)

-- A line whose text was edited.
pub split_at-joined : (text with new inside : List ℕ) (from to at target_place : ℕ) → new ≡ inside
    → IsUtf8 text → IsUtf8 with → IsCharBoundary text from → IsCharBoundary text to
    → inside ≡ (take from text ++ with) ++ drop to text → at ≡ length inside - (length text - to)
    → split_at new target_place ≡ ahead is_between (chars_before new at) (chars_from new at)
    → split_at inside target_place ≡ line_with (split_at text from) (chars with) (split_at text to)
split_at-joined text with new inside from to at target_place same u v a b e f g =
    let P : List ℕ → Type 0 = λ t. split_at t target_place ≡ ahead is_between (chars_before t at) (chars_from t at) in
    subst P same g ∙ ap (λ (d : Split). ahead is_between d.before d.after) (split_at-spliced text with inside from to at u v a b e f)

pub text_at : (text inside : List ℕ) (at : ℕ) (d : Split) → text ≡ inside → IsUtf8 text → IsCharBoundary inside at → split_at inside at ≡ d
    → chars text ≡ line_text d
text_at text inside at d e u b f =
    ap chars e ∙ sym (text_of-split_at inside at (subst IsUtf8 e u) b) ∙ ap line_text f

-- The text between two places.
pub chars-slice_range : (text : List ℕ) (from to : ℕ) → IsUtf8 text → IsCharBoundary text from → IsCharBoundary text to → from ≤ to
    → chars (slice_range text from to) ≡ from_to (split_at text from) (split_at text to)
chars-slice_range text from to u a b le =
    let part = slice_range text from to in
    let v : IsUtf8 part = IsUtf8-between text from to u le a b in
    let last_stop : chars_from text from ≡ chars part ++ chars_from text to = ap chars (drop_split text from to le) ∙ chars-append part (drop to text) v in
    let before : chars_before text to ≡ reverse (chars part) ++ chars_before text from =
    ap (λ t. reverse (chars t)) (take_split text from to le) ∙ ap reverse (chars-append (take from text) part (IsUtf8-take text from u a))
    ∙ reverse-append (chars (take from text)) (chars part) in
    let count : length (chars part) ≡ length (chars_before text to) - length (chars_before text from) =
    omega (arith, ap length before, length-append (reverse (chars part)) (chars_before text from), length-reverse (chars part)) in
    sym (ap (take (length (chars_before text to) - length (chars_before text from))) last_stop ∙ take_at (chars part) (chars_from text to) _ count)
