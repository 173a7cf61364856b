-- What an edit of a text does to the line.
use Rattle.std.proofs.Common.{◌≡◌, ℕ, ◌≤◌, List, [], ◌∷◌, ◌++◌, length, slice_range, refl, sym, subst, ap, ◌∙◌, ◌<◌, take, drop, reverse, arith, length-drop}
use Rattle.std.proofs.lemmas.Str.{chars-append, chars-nil, encodes-chars, IsUtf8-between, IsUtf8-drop}
use lib.Utf8.{encodes}
use Rattle.std.specs.Str.{chars, IsUtf8, IsCharBoundary}
use Rattle.unicode_segmentation.specs.Segments.{chars_before, chars_from}
use Rattle.line_editor.specs.declared.places.Stop.TheVariants.{Cluster}
use Rattle.line_editor.specs.declared.places.Target.{Target}
use Rattle.line_editor.specs.declared.places.Target.TheVariants.{Back, Forward}
use Rattle.line_editor.specs.Splits.{Split, split_at}
use Rattle.line_editor.specs.Edits.{cut_text, reach_end, erased, from_to, line_with, meeting, start_of, transposed}
use Rattle.line_editor.specs.Places.{back_from, is_between, target_place}
use Rattle.line_editor.proofs.Settling.{chars-slice_range}
use Rattle.line_editor.proofs.Stepping.{chars_from-end}

view_of : (text inside : List ℕ) (at : ℕ) (d : Split) → text ≡ inside → split_at inside at ≡ d → split_at text at ≡ d
view_of text inside at d e v = let P : List ℕ → Type 0 = λ t. split_at t at ≡ d in subst P (sym e) v

module _ (target : Target) (text inside : List ℕ) (from to at : ℕ) (d : Split) (e : text ≡ inside) (v : split_at inside at ≡ d)
    (start : split_at text from ≡ start_of target (split_at text at)) (end : split_at text to ≡ reach_end target (split_at text at)) where
  pub erased_as : (with : List ℕ) → with ≡ [] → line_with (split_at text from) (chars with) (split_at text to) ≡ erased target d
  erased_as with none =
      let same = view_of text inside at d e v in
      let first : split_at text from ≡ start_of target d = start ∙ ap (start_of target) same in
      let last : split_at text to ≡ reach_end target d = end ∙ ap (reach_end target) same in
      ap (λ (p : Split). line_with p (chars with) (split_at text to)) first
      ∙ ap (λ (q : Split). line_with (start_of target d) (chars with) q) last
      ∙ ap (λ t. line_with (start_of target d) t (reach_end target d)) (ap chars none ∙ chars-nil)

  pub cut_as : IsUtf8 text → IsCharBoundary text from → IsCharBoundary text to → from ≤ to
      → (part : List ℕ) → part ≡ slice_range text from to → chars part ≡ cut_text target d
  cut_as u a b le part f =
      let same = view_of text inside at d e v in
      ap chars f ∙ chars-slice_range text from to u a b le
      ∙ ap (λ (p : Split). from_to p (split_at text to)) (start ∙ ap (start_of target) same)
      ∙ ap (λ (q : Split). from_to (start_of target d) q) (end ∙ ap (reach_end target) same)

-- Two clusters meet at the cursor if something is behind it.
pub meeting_here : (before after : List ℕ) → (after ≡ [] → ⊥) → meeting before after ≡ record { before = before; after = after }
meeting_here before [] some = absurd (some refl)
meeting_here before (c ∷ after) some = refl

pub meeting_end : (text : List ℕ) (at : ℕ) (m : Split) → length text ≤ at → m ≡ target_place (Back Cluster) (split_at text at)
    → m ≡ meeting (chars_before text at) (chars_from text at)
meeting_end text at m h e =
    let none = chars_from-end text at h in
    e ∙ ap (λ t. back_from is_between (chars_before text at) t) none ∙ ap (λ t. meeting (chars_before text at) t) (sym none)

-- Two clusters in each other's place.
pub transposed_as : (text inside with : List ℕ) (from middle to at : ℕ) (d : Split) → text ≡ inside → split_at inside at ≡ d
    → IsUtf8 text → IsCharBoundary text from → IsCharBoundary text middle → IsCharBoundary text to → from ≤ middle → middle ≤ to
    → with ≡ slice_range text middle to ++ slice_range text from middle
    → split_at text middle ≡ meeting (chars_before text at) (chars_from text at)
    → split_at text from ≡ target_place (Back Cluster) (split_at text middle) → split_at text to ≡ target_place (Forward Cluster) (split_at text middle)
    → line_with (split_at text from) (chars with) (split_at text to) ≡ transposed d
transposed_as text inside with from middle to at d e v u a b z le more f m p q =
    let same = view_of text inside at d e v in
    let meets : split_at text middle ≡ meeting d.before d.after = m ∙ ap (λ (x : Split). meeting x.before x.after) same in
    let parts : chars with ≡ from_to (split_at text middle) (split_at text to) ++ from_to (split_at text from) (split_at text middle) =
    ap chars f ∙ chars-append (slice_range text middle to) (slice_range text from middle) (IsUtf8-between text middle to u more b z)
    ∙ ap (λ t. t ++ chars (slice_range text from middle)) (chars-slice_range text middle to u b z more)
    ∙ ap (λ t. from_to (split_at text middle) (split_at text to) ++ t) (chars-slice_range text from middle u a b le) in
    ap (λ t. line_with (split_at text from) t (split_at text to)) parts
    ∙ ap (λ (x : Split). line_with x (from_to (split_at text middle) (split_at text to) ++ from_to x (split_at text middle)) (split_at text to)) p
    ∙ ap (λ (x : Split). line_with (target_place (Back Cluster) (split_at text middle)) (from_to (split_at text middle) x ++ from_to (target_place (Back Cluster) (split_at text middle)) (split_at text middle)) x) q
    ∙ ap (λ (x : Split). line_with (target_place (Back Cluster) x) (from_to x (target_place (Forward Cluster) x) ++ from_to (target_place (Back Cluster) x) x) (target_place (Forward Cluster) x)) meets

-- Something is behind a place before the end.
pub some_after : (text : List ℕ) (at : ℕ) → IsUtf8 text → IsCharBoundary text at → at < length text → chars_from text at ≡ [] → ⊥
some_after text at u b lt none =
    let back : drop at text ≡ [] = sym (encodes-chars (drop at text) (IsUtf8-drop text at u b)) ∙ ap encodes none in
    omega (arith, ap length back, length-drop at text, lt)

-- What is before the place at which clusters meet.
pub before_meeting : (text inside part : List ℕ) (middle at : ℕ) (d : Split) (c : ℕ) (before : List ℕ) → text ≡ inside → split_at inside at ≡ d
    → split_at text middle ≡ meeting (chars_before text at) (chars_from text at) → part ≡ take middle text → reverse (chars part) ≡ c ∷ before
    → (meeting d.before d.after).before ≡ c ∷ before
before_meeting text inside part middle at d c before e v m f some =
    let same = view_of text inside at d e v in
    let meets : split_at text middle ≡ meeting d.before d.after = m ∙ ap (λ (x : Split). meeting x.before x.after) same in
    sym (ap (λ (x : Split). x.before) meets) ∙ ap (λ t. reverse (chars t)) (sym f) ∙ some
