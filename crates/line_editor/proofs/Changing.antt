-- What a change leads to, and what takes it back.
use Rattle.std.proofs.Common.{◌≡◌, ℕ, ◌-◌, ◌≤◌, List, [], ◌∷◌, ◌++◌, length, take, drop, slice_range, refl, sym, subst, ap, ◌∙◌, arith, append_assoc, take_at, drop_at, length-append, length-take-le, length-drop, take-append-drop, append-nil, ◌<◌, slice_index_or}
use Rattle.std.proofs.lemmas.List.{drop_all, reverse-reverse, take-take}
use Rattle.std.specs.List.{insert_slice}
use Rattle.std.proofs.lemmas.List.Folds.{drop_split}
use Rattle.std.proofs.lemmas.Str.{encodes-chars, IsUtf8-append, IsUtf8-take, IsUtf8-drop, IsCharBoundary-at_seam, IsCharBoundary-end, IsCharBoundary-from_take, IsCharBoundary-start}
use Rattle.std.specs.Prelude.{encode_utf8_all, zero, suc}
use Rattle.std.specs.Str.{chars, IsUtf8, IsCharBoundary}
use Rattle.unicode_segmentation.proofs.TextLemmas.{take_split}
use Rattle.line_editor.specs.Bounds.{size}
use Rattle.line_editor.specs.Edits.{IsSettled, line_with}
use Rattle.line_editor.specs.Recent.{rest_of}
use Rattle.line_editor.specs.Shown.{AreRows}
use Rattle.line_editor.specs.Splits.{Split, bytes_before, split_at}
use Rattle.line_editor.specs.inside.Changes.{AllFit, EndsBy, Fits, Splice, TakesBack, line_bytes, ended, first_ended, first_reached, lines_by, reached, spliced}
use Rattle.line_editor.proofs.Settling.{text_of-split_at}

-- The bytes of a line, and how many are before its cursor.
module _ (text : List ℕ) (at : ℕ) (u : IsUtf8 text) (b : IsCharBoundary text at) where
  pub line_bytes-split : line_bytes (split_at text at) ≡ text
  line_bytes-split = ap encode_utf8_all (text_of-split_at text at u b) ∙ encodes-chars text u

  pub before-split : bytes_before (split_at text at) ≡ at
  before-split =
      ap size (reverse-reverse (chars (take at text))) ∙ ap length (encodes-chars (take at text) (IsUtf8-take text at u b))
      ∙ length-take-le at text b.0

  pub line_bytes-line : (d : Split) → split_at text at ≡ d → line_bytes d ≡ text
  line_bytes-line d e = ap line_bytes (sym e) ∙ line_bytes-split

  pub before-line : (d : Split) → split_at text at ≡ d → bytes_before d ≡ at
  before-line d e = ap bytes_before (sym e) ∙ before-split

-- A text with another one in the place of what is between two places, and what takes that back.
module _ (text with new part : List ℕ) (from to end at : ℕ)
    (u : IsUtf8 text) (v : IsUtf8 with) (a : IsCharBoundary text from) (b : IsCharBoundary text to) (le : from ≤ to)
    (e : new ≡ (take from text ++ with) ++ drop to text) (f : part ≡ slice_range text from to) (g : end ≡ length new - (length text - to)) where
  abbrev back : Splice
  back = record { from = from; to = end; text = part; at = at }

  width : length (take from text) ≡ from
  width = length-take-le from text a.0

  both : length (take from text ++ with) ≡ end
  both =
      let within : to ≤ length text = b.0 in
      omega (arith, g, ap length e, length-append (take from text ++ with) (drop to text), length-drop to text, within)

  nested : new ≡ take from text ++ (with ++ drop to text)
  nested = e ∙ append_assoc (take from text) with (drop to text)

  spliced-back : spliced back new ≡ text
  spliced-back =
      let front : take from new ≡ take from text = ap (take from) nested ∙ take_at (take from text) (with ++ drop to text) from width in
      let rest : drop end new ≡ drop to text =
      ap (drop end) e ∙ drop_at (take from text ++ with) (drop to text) end both in
      ap (λ t. (t ++ part) ++ drop end new) front ∙ ap (λ t. (take from text ++ part) ++ t) rest
      ∙ ap (λ t. (take from text ++ t) ++ drop to text) f ∙ ap (λ t. t ++ drop to text) (sym (take_split text from to le))
      ∙ take-append-drop to text

  new-from : IsCharBoundary new from
  new-from =
      let P : ℕ → Type 0 = λ n. IsCharBoundary new n in
      subst P width (IsCharBoundary-at_seam new (take from text) (with ++ drop to text) nested (IsUtf8-append with (drop to text) v (IsUtf8-drop text to u b)))

  new-to : IsCharBoundary new end
  new-to =
      let P : ℕ → Type 0 = λ n. IsCharBoundary new n in
      subst P both (IsCharBoundary-at_seam new (take from text ++ with) (drop to text) e (IsUtf8-drop text to u b))

  pub takes_back : (d w : Split) → split_at text at ≡ d → IsCharBoundary text at → IsSettled (split_at text at) → AreRows (chars text)
      → line_bytes w ≡ new → TakesBack back d w
  takes_back d w is place settled shown same =
      let P : List ℕ → Type 0 = λ t. IsUtf8 t × IsCharBoundary t at × IsSettled (split_at t at) × AreRows (chars t) × (line_bytes d ≡ t) × (split_at t at ≡ d) in
      let facts : P (spliced back new) = subst P (sym spliced-back) (u, place, settled, shown, line_bytes-line text at u place d is, is) in
      let made : (Fits new back × (spliced back new ≡ line_bytes d) × (split_at (spliced back new) at ≡ d)) = (
        record { order = omega (arith, width, both, length-append (take from text) with); from = new-from; to = new-to; utf8 = facts.0; at = facts.1; settled = facts.2; shown = facts.3 },
        sym facts.4,
        facts.5,
      ) in
      let Q : List ℕ → Type 0 = λ t. Fits t back × (spliced back t ≡ line_bytes d) × (split_at (spliced back t) at ≡ d) in
      let there : Q (line_bytes w) = subst Q (sym same) made in
      record { fits = there.0; text = there.1; line = there.2 }

-- Some of the changes.
pub lines_by-take : (n : ℕ) (text : List ℕ) (changes : List Splice) → lines_by text (take n changes) ≡ take n (lines_by text changes)
lines_by-take zero text changes = refl
lines_by-take (suc n) text [] = refl
lines_by-take (suc n) text (c ∷ changes) = ap (λ t. split_at (spliced c text) c.at ∷ t) (lines_by-take n (spliced c text) changes)

pub AllFit-take : (n : ℕ) (text : List ℕ) (changes : List Splice) → AllFit text changes → AllFit text (take n changes)
AllFit-take zero text changes h = tt
AllFit-take (suc n) text [] h = tt
AllFit-take (suc n) text (c ∷ changes) h = (h.0, AllFit-take n (spliced c text) changes h.1)

-- One change more.
module _ (c : Splice) (d w : Split) (h : TakesBack c d w) (changes : List Splice) where
  pub fit_more : AllFit (line_bytes d) changes → AllFit (line_bytes w) (c ∷ changes)
  fit_more f = let P : List ℕ → Type 0 = λ t. AllFit t changes in (h.fits, subst P (sym h.text) f)

  pub lines_more : lines_by (line_bytes w) (c ∷ changes) ≡ d ∷ lines_by (line_bytes d) changes
  lines_more = ap (λ (l : Split). l ∷ lines_by (spliced c (line_bytes w)) changes) h.line ∙ ap (λ t. d ∷ lines_by t changes) h.text

-- A change that is done leads on to those behind it.
pub line_bytes-done : (text : List ℕ) (c : Splice) → Fits text c → line_bytes (split_at (spliced c text) c.at) ≡ spliced c text
line_bytes-done text c h = line_bytes-split (spliced c text) c.at h.utf8 h.at

-- A text whose front and back are those of another one, and a change of that one, as one of this.
module _ (text new : List ℕ) (at end : ℕ) (c : Splice) (front : take at new ≡ take at text) (last : drop end new ≡ drop at text)
    (le : c.to ≤ at) (on : at ≤ end) (fits : Fits text c) (u : IsUtf8 text) (v : IsUtf8 new) (b : IsCharBoundary new end) where
  abbrev grown : Splice
  grown = ended end (reached text at c)

  first : take c.from new ≡ take c.from text
  first = sym (take-take c.from at new (omega (arith, le, fits.order))) ∙ ap (take c.from) front ∙ take-take c.from at text (omega (arith, le, fits.order))

  spliced-grown : spliced grown new ≡ spliced c text
  spliced-grown =
      let mid = slice_range text c.to at in
      ap (λ t. (t ++ (c.text ++ mid)) ++ drop end new) first
      ∙ ap (λ t. (take c.from text ++ (c.text ++ mid)) ++ t) last
      ∙ ap (λ t. t ++ drop at text) (sym (append_assoc (take c.from text) c.text mid))
      ∙ append_assoc (take c.from text ++ c.text) mid (drop at text)
      ∙ ap (λ t. (take c.from text ++ c.text) ++ t) (sym (drop_split text c.to at le))

  pub grown-Fits : Fits new grown
  grown-Fits =
      let within : c.from ≤ length new = omega (arith, le, on, fits.order, b.0) in
      let P : List ℕ → Type 0 = λ t. IsUtf8 t × IsCharBoundary t c.at × IsSettled (split_at t c.at) × AreRows (chars t) in
      let facts : P (spliced grown new) = subst P (sym spliced-grown) (fits.utf8, fits.at, fits.settled, fits.shown) in
      record {
        order = omega (arith, le, on, fits.order);
        from = IsCharBoundary-from_take new c.from v within (subst IsUtf8 (sym first) (IsUtf8-take text c.from u fits.from));
        to = b;
        utf8 = facts.0;
        at = facts.1;
        settled = facts.2;
        shown = facts.3;
      }

module _ (text new : List ℕ) (at end : ℕ) (front : take at new ≡ take at text) (last : drop end new ≡ drop at text)
    (on : at ≤ end) (u : IsUtf8 text) (v : IsUtf8 new) (b : IsCharBoundary new end) where
  pub grown-AllFit : (changes : List Splice) → EndsBy at changes → AllFit text changes → AllFit new (first_ended end (first_reached text at changes))
  grown-AllFit [] le h = tt
  grown-AllFit (c ∷ changes) le h =
      let P : List ℕ → Type 0 = λ t. AllFit t changes in (
        grown-Fits text new at end c front last le on h.0 u v b,
        subst P (sym (spliced-grown text new at end c front last le on h.0 u v b)) h.1,
      )

  pub grown-lines : (changes : List Splice) → EndsBy at changes → AllFit text changes
      → lines_by new (first_ended end (first_reached text at changes)) ≡ lines_by text changes
  grown-lines [] le h = refl
  grown-lines (c ∷ changes) le h =
      ap (λ t. split_at t c.at ∷ lines_by t changes) (spliced-grown text new at end c front last le on h.0 u v b)

pub ended-reached : (text : List ℕ) (at : ℕ) (changes : List Splice) → first_ended at (first_reached text at changes) ≡ first_reached text at changes
ended-reached text at [] = refl
ended-reached text at (c ∷ changes) = refl

pub ends-grown : (text : List ℕ) (at end place : ℕ) (changes : List Splice) → end ≤ place
    → EndsBy place (first_ended end (first_reached text at changes))
ends-grown text at end place [] le = tt
ends-grown text at end place (c ∷ changes) le = le

-- The same changes, of a line's own text.
module _ (text : List ℕ) (at : ℕ) (d : Split) (u : IsUtf8 text) (b : IsCharBoundary text at) (here : split_at text at ≡ d) where
  pub Fits-here : (c s : Splice) → c ≡ s → Fits (line_bytes d) s → Fits text c
  Fits-here c s e h =
      let P : List ℕ → Type 0 = λ t. Fits t s in
      let Q : Splice → Type 0 = λ x. Fits text x in
      subst Q (sym e) (subst P (line_bytes-line text at u b d here) h)

  pub boundary-here : (place : ℕ) → IsCharBoundary (line_bytes d) place → IsCharBoundary text place
  boundary-here place h = let P : List ℕ → Type 0 = λ t. IsCharBoundary t place in subst P (line_bytes-line text at u b d here) h

  pub done-here : (new : List ℕ) (c s : Splice) → c ≡ s → new ≡ spliced c text
      → split_at new c.at ≡ split_at (spliced s (line_bytes d)) s.at
  done-here new c s e f =
      ap (λ t. split_at t c.at) f ∙ ap (λ (x : Splice). split_at (spliced x text) x.at) e
      ∙ ap (λ t. split_at (spliced s t) s.at) (sym (line_bytes-line text at u b d here))

  pub boundary-there : (place : ℕ) → IsCharBoundary text place → IsCharBoundary (line_bytes d) place
  boundary-there place h = let P : List ℕ → Type 0 = λ t. IsCharBoundary t place in subst P (sym (line_bytes-line text at u b d here)) h

  pub place-there : split_at (line_bytes d) at ≡ d
  place-there = ap (λ t. split_at t at) (line_bytes-line text at u b d here) ∙ here

  pub joined-there : (from to : ℕ) (with : List ℕ)
      → line_with (split_at text from) with (split_at text to) ≡ line_with (split_at (line_bytes d) from) with (split_at (line_bytes d) to)
  joined-there from to with = ap (λ t. line_with (split_at t from) with (split_at t to)) (sym (line_bytes-line text at u b d here))

  pub inserted-there : (with : List ℕ) → insert_slice text at with ≡ insert_slice (line_bytes d) (bytes_before d) with
  inserted-there with =
      ap (λ t. insert_slice t at with) (sym (line_bytes-line text at u b d here))
      ∙ ap (λ n. insert_slice (line_bytes d) n with) (sym (before-line text at u b d here))

-- A line in place of a whole other one.
pub whole_back : (text with part : List ℕ) (end at : ℕ) (d w : Split) → IsUtf8 text → IsUtf8 with → part ≡ text → end ≡ length with
    → split_at text at ≡ d → IsCharBoundary text at → IsSettled (split_at text at) → AreRows (chars text) → line_bytes w ≡ with
    → TakesBack (record { from = 0; to = end; text = part; at = at }) d w
whole_back text with part end at d w u v f g is place settled shown same =
    let all : drop (length text) text ≡ [] = drop_all (length text) text (omega arith) in
    let e : with ≡ (take 0 text ++ with) ++ drop (length text) text = sym (ap (λ t. (take 0 text ++ with) ++ t) all ∙ append-nil with) in
    let n : length text ≡ length text - 0 = omega arith in
    let h : part ≡ slice_range text 0 (length text) =
    f ∙ sym (take_at text [] (length text) refl) ∙ ap (take (length text)) (append-nil text) ∙ ap (λ n. take n text) n in
    takes_back text with with part 0 (length text) end at u v (IsCharBoundary-start text u) (IsCharBoundary-end text) (omega arith) e h
    (omega (arith, g)) d w is place settled shown same

-- The first of some changes, and the others.
pub first_item : {X : Type 0} (items : List X) (x : X) → 0 < length items → x ≡ slice_index_or items 0 x → items ≡ x ∷ drop 1 items
first_item [] x some e = absurd (omega (arith, some))
first_item (y ∷ items) x some e = ap (λ z. z ∷ items) (sym e)

module _ (text : List ℕ) (items rest : List Splice) (c : Splice) (w : Split) (e : items ≡ c ∷ rest) (f : AllFit text items)
    (n : w ≡ split_at (spliced c text) c.at) where
  after-done : line_bytes w ≡ spliced c text
  after-done = ap line_bytes n ∙ line_bytes-done text c (subst (AllFit text) e f).0

  pub lines-done : lines_by (line_bytes w) rest ≡ rest_of (lines_by text items)
  lines-done = ap (λ t. lines_by t rest) after-done ∙ sym (ap (λ l. rest_of (lines_by text l)) e)

  pub fit-done : AllFit (line_bytes w) rest
  fit-done = let P : List ℕ → Type 0 = λ t. AllFit t rest in subst P (sym after-done) (subst (AllFit text) e f).1
