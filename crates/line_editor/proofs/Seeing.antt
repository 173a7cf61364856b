-- What is seen of a line, and how many columns it takes.
use Rattle.std.proofs.Common.{◌≡◌, ℕ, ◌+◌, ◌-◌, ◌<◌, ◌≤◌, true, List, [], ◌∷◌, ◌++◌, length, reverse, refl, sym, ap, ◌∙◌, inl, inr, arith, append_assoc, length-append, leb, slice_range, subst}
use Rattle.std.proofs.lemmas.Bool.{cases_Bool, leb-true}
use Rattle.std.proofs.lemmas.List.{length-reverse, reverse-append, reverse-reverse}
use Rattle.std.specs.Str.{chars, IsUtf8, IsCharBoundary}
use Rattle.unicode_segmentation.specs.Segments.{chars_before, chars_from}
use Rattle.line_editor.specs.Splits.{Split, split_at}
use Rattle.line_editor.specs.Edits.{IsSettled, from_to}
use Rattle.line_editor.specs.Places.{is_between}
use Rattle.line_editor.specs.Seen.{IsSeenIn, KeepsClusters}
use Rattle.line_editor.specs.Views.{Start, width_of, columns_of, end_seen, furthest, last_seen, place_or, seen_text, start, start_at, start_or}
use Rattle.line_editor.proofs.Furthest.{columns-append, last_seen-far, start-far}
use Rattle.line_editor.proofs.Keeping.{IsFrom, IsFrom-last, IsFrom-none, IsFrom-one, from_to-IsFrom, text_of-IsFrom}
use Rattle.line_editor.proofs.Settling.{chars-slice_range}
use Rattle.line_editor.proofs.Stepping.{chars_before-start, chars_from-end}

-- Nothing is before the start, nor behind the end.
pub furthest-start : (room used at : ℕ) (text : List ℕ) (best : Start) → at ≤ 0
    → furthest room used (chars_before text at) (chars_from text at) best ≡ best
furthest-start room used at text best h =
    let zero : at ≡ 0 = omega arith in
    ap (λ n. furthest room used (chars_before text n) (chars_from text n) best) zero
    ∙ ap (λ t. furthest room used t (chars_from text 0) best) (chars_before-start text)

pub last_seen-end : (room used at : ℕ) (text : List ℕ) (best : Split) → length text ≤ at
    → last_seen room used (chars_before text at) (chars_from text at) best ≡ best
last_seen-end room used at text best h = ap (λ t. last_seen room used (chars_before text at) t best) (chars_from-end text at h)

-- A start from which so many columns are before the cursor, for which there is room.
abbrev pub Holds : ℕ → Split → Start → Type 0
Holds room d s = (part : List ℕ) × IsFrom s.place d part × (width_of part ≡ s.column) × (s.column ≤ room)

holds-or : (room : ℕ) (d : Split) (s best : Start) → Holds room d s → Holds room d best → Holds room d (start_or s best)
holds-or room d s best h k =
    elim (cases_Bool (is_between s.place.before s.place.after)) [ inl here ↦ rw here h | inr not_here ↦ rw not_here k ]

furthest-Holds : (room : ℕ) (d : Split) (before after part : List ℕ) (used : ℕ) (best : Start) → IsFrom (record { before = before; after = after }) d part
    → width_of part ≡ used → Holds room d best → Holds room d (furthest room used before after best)
furthest-Holds room d [] after part used best h e k = k
furthest-Holds room d (c ∷ before) after part used best h e k =
    elim (cases_Bool (leb (used + columns_of c) room)) [
      | inl here ↦ rw here (
          let more : IsFrom (record { before = before; after = c ∷ after }) d (c ∷ part) = IsFrom-one (record { before = before; after = after }) d c part before h in
          let f : width_of (c ∷ part) ≡ used + columns_of c = omega (arith, e) in
          let s : Start = record { place = record { before = before; after = c ∷ after }; column = used + columns_of c } in
          furthest-Holds room d before (c ∷ after) (c ∷ part) (used + columns_of c) (start_or s best) more f
          (holds-or room d s best (c ∷ part, more, f, leb-true (used + columns_of c) room here) k))
      | inr not_here ↦ rw not_here k
    ]

-- A place up to which there are so many columns, for which there is room.
abbrev pub Ends : ℕ → ℕ → Split → Split → Type 0
Ends room column d q = (part : List ℕ) × IsFrom d q part × (column + width_of part ≤ room)

ends-or : (room column : ℕ) (d q best : Split) → Ends room column d q → Ends room column d best → Ends room column d (place_or q best)
ends-or room column d q best h k =
    elim (cases_Bool (is_between q.before q.after)) [ inl here ↦ rw here h | inr not_here ↦ rw not_here k ]

last_seen-Ends : (room column : ℕ) (d : Split) (before after part : List ℕ) (used : ℕ) (best : Split) → IsFrom d (record { before = before; after = after }) part
    → column + width_of part ≡ used → Ends room column d best → Ends room column d (last_seen room used before after best)
last_seen-Ends room column d before [] part used best h e k = k
last_seen-Ends room column d before (c ∷ after) part used best h e k =
    elim (cases_Bool (leb (used + columns_of c) room)) [
      | inl here ↦ rw here (
          let more : IsFrom d (record { before = c ∷ before; after = after }) (part ++ c ∷ []) = IsFrom-last d c part before after h in
          let f : column + width_of (part ++ c ∷ []) ≡ used + columns_of c = omega (arith, e, columns-append part (c ∷ [])) in
          let q : Split = record { before = c ∷ before; after = after } in
          last_seen-Ends room column d (c ∷ before) after (part ++ c ∷ []) (used + columns_of c) (place_or q best) more f
          (ends-or room column d q best (part ++ c ∷ [], more, omega (arith, f, leb-true (used + columns_of c) room here)) k))
      | inr not_here ↦ rw not_here k
    ]

-- Two parts side by side.
IsFrom-join : (p d q : Split) (a b : List ℕ) → IsFrom p d a → IsFrom d q b → IsFrom p q (a ++ b)
IsFrom-join p d q a b h k = record {
  before = k.before ∙ ap (λ t. reverse b ++ t) h.before ∙ sym (append_assoc (reverse b) (reverse a) p.before)
      ∙ ap (λ t. t ++ p.before) (sym (reverse-append a b));
  after = h.after ∙ ap (λ t. a ++ t) k.after ∙ sym (append_assoc a b q.after);
}

pub fits : (room : ℕ) (d : Split) → IsSeenIn room d
fits room d some =
    let begin = furthest-Holds (room - 1) d d.before d.after [] 0 (record { place = d; column = 0 }) (IsFrom-none d) refl
    ([], IsFrom-none d, refl, omega arith) in
    let s = start room d in
    let less : s.column < room = omega (arith, begin.3, some) in
    let end = last_seen-Ends room s.column d d.before d.after [] s.column d (IsFrom-none d) (omega arith) ([], IsFrom-none d, omega (arith, less)) in
    let whole : seen_text room d ≡ begin.0 ++ end.0 = from_to-IsFrom s.place (end_seen room s.column d) (begin.0 ++ end.0) (IsFrom-join s.place d _ begin.0 end.0 begin.1 end.1) in
    record {
      cursor = less;
      text = omega (arith, ap width_of whole, columns-append begin.0 end.0, begin.2, end.2);
      left = begin.0;
      right = end.0;
      whole = whole;
      place = begin.2;
      before = (reverse s.place.before, ap reverse begin.1.before ∙ reverse-append (reverse begin.0) s.place.before ∙ ap (λ t. reverse s.place.before ++ t) (reverse-reverse begin.0));
      after = ((end_seen room s.column d).after, end.1.after);
      most_before = λ front part e h lt. omega (
        arith,
        start-far room d front part e h (omega (arith, lt)),
        ap length begin.1.before,
        length-append (reverse begin.0) s.place.before,
        length-reverse begin.0,
        ap length e,
        length-append front part,
        length-reverse d.before,
      );
      most_after = λ part back e h le.
          let P : List ℕ → Type 0 = λ t. length (last_seen room s.column d.before t d).after ≤ length back in
          let far = last_seen-far room s.column d.before part back d (λ _. ap (λ t. record { before = d.before; after = t }) e) h le in
          let all : P d.after = subst P (sym e) far in
          omega (arith, all, ap length end.1.after, length-append end.0 (end_seen room s.column d).after, ap length e, length-append part back);
    }

-- ---- both ends

or-IsSettled : (s best : Start) → IsSettled best.place → IsSettled (start_or s best).place
or-IsSettled s best h = elim (cases_Bool (is_between s.place.before s.place.after)) [ inl here ↦ rw here here | inr not_here ↦ rw not_here h ]

furthest-IsSettled : (room used : ℕ) (before after : List ℕ) (best : Start) → IsSettled best.place → IsSettled (furthest room used before after best).place
furthest-IsSettled room used [] after best h = h
furthest-IsSettled room used (c ∷ before) after best h =
    let s : Start = record { place = record { before = before; after = c ∷ after }; column = used + columns_of c } in
    elim (cases_Bool (leb (used + columns_of c) room)) [
      | inl here ↦ rw here (furthest-IsSettled room (used + columns_of c) before (c ∷ after) (start_or s best) (or-IsSettled s best h))
      | inr not_here ↦ rw not_here h
    ]

place-or-IsSettled : (q best : Split) → IsSettled best → IsSettled (place_or q best)
place-or-IsSettled q best h = elim (cases_Bool (is_between q.before q.after)) [ inl here ↦ rw here here | inr not_here ↦ rw not_here h ]

last_seen-IsSettled : (room used : ℕ) (before after : List ℕ) (best : Split) → IsSettled best → IsSettled (last_seen room used before after best)
last_seen-IsSettled room used before [] best h = h
last_seen-IsSettled room used before (c ∷ after) best h =
    let q : Split = record { before = c ∷ before; after = after } in
    elim (cases_Bool (leb (used + columns_of c) room)) [
      | inl here ↦ rw here (last_seen-IsSettled room (used + columns_of c) (c ∷ before) after (place_or q best) (place-or-IsSettled q best h))
      | inr not_here ↦ rw not_here h
    ]

pub keeps_clusters : (room : ℕ) (d : Split) → KeepsClusters room d
keeps_clusters room d settled =
    let begin = furthest-Holds (room - 1) d d.before d.after [] 0 (record { place = d; column = 0 }) (IsFrom-none d) refl
    ([], IsFrom-none d, refl, omega arith) in
    let s = start room d in
    let p = s.place in
    let q = end_seen room s.column d in
    let end = last_seen-Ends room s.column d d.before d.after [] s.column d (IsFrom-none d) (omega arith) ([], IsFrom-none d, omega (arith, begin.3)) in
    let all = IsFrom-join p d q begin.0 end.0 begin.1 end.1 in
    let part : seen_text room d ≡ begin.0 ++ end.0 = from_to-IsFrom p q (begin.0 ++ end.0) all in
    let behind : p.after ≡ seen_text room d ++ q.after = all.after ∙ ap (λ t. t ++ q.after) (sym part) in
    let ahead : q.before ≡ reverse (reverse p.before ++ seen_text room d) =
    all.before ∙ ap (λ t. reverse t ++ p.before) (sym part)
    ∙ sym (reverse-append (reverse p.before) (seen_text room d) ∙ ap (λ t. reverse (seen_text room d) ++ t) (reverse-reverse p.before)) in
    let starts = furthest-IsSettled (room - 1) 0 d.before d.after (record { place = d; column = 0 }) settled in
    let stops = last_seen-IsSettled room s.column d.before d.after d settled in
    let P : List ℕ → Type 0 = λ t. is_between t (seen_text room d ++ q.after) ≡ true in
    let Q : List ℕ → Type 0 = λ t. is_between p.before t ≡ true in
    let R : List ℕ → Type 0 = λ t. is_between t q.after ≡ true in
    record {
      front = reverse p.before;
      back = q.after;
      text = text_of-IsFrom p d begin.0 begin.1 ∙ ap (λ t. reverse p.before ++ t) behind;
      begins = subst P (sym (reverse-reverse p.before)) (subst Q behind starts);
      ends = subst R ahead stops;
    }

-- The text between both places is what is seen.
pub seen_as : (text inside part : List ℕ) (room at to : ℕ) (s : ℕ × ℕ) (d : Split) → text ≡ inside → split_at inside at ≡ d
    → IsUtf8 text → IsCharBoundary text s.0 → IsCharBoundary text to → s.0 ≤ to → part ≡ slice_range text s.0 to
    → start_at text s ≡ start room (split_at text at) → split_at text to ≡ end_seen room s.1 (split_at text at)
    → chars part ≡ seen_text room d
seen_as text inside part room at to s d e v u a b le f g h =
    let P : List ℕ → Type 0 = λ t. split_at t at ≡ d in
    let same : split_at text at ≡ d = subst P (sym e) v in
    let begin : start_at text s ≡ start room d = g ∙ ap (start room) same in
    let end : split_at text to ≡ end_seen room (start room d).column d =
    h ∙ ap (end_seen room s.1) same ∙ ap (λ (x : Start). end_seen room x.column d) begin in
    ap chars f ∙ chars-slice_range text s.0 to u a b le
    ∙ ap (λ (x : Start). from_to x.place (split_at text to)) begin
    ∙ ap (λ q. from_to (start room d).place q) end
