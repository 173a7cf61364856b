-- Words that are exchanged or taken, and white space that is erased.
use Rattle.std.proofs.Common.{◌≡◌, ℕ, ◌-◌, ◌<◌, ◌≤◌, true, false, List, [], ◌∷◌, ◌++◌, length, reverse, refl, sym, subst, ap, ◌∙◌, inl, inr, arith, append_assoc, slice_index_or, slice_range}
use Rattle.std.proofs.lemmas.Bool.{and_from, and_parts, cases_Bool, leb-true}
use Rattle.std.proofs.lemmas.List.{reverse-append, reverse-reverse}
use Rattle.std.proofs.lemmas.Str.{chars-append, chars-nil, encodes-chars, IsUtf8-between}
use Rattle.std.specs.Prelude.{◌⊎◌, if◌then◌else◌, Option, Some, None, encode_utf8_all, nat_le, nat_lt, ◌&&◌, slice_get, suc, zero}
use Rattle.std.specs.Char.{is_whitespace}
use Rattle.std.specs.List.{AllByRecursion}
use Rattle.std.specs.Str.{chars, IsCharBoundary, IsUtf8}
use Rattle.unicode_segmentation.proofs.TextLemmas.{encode_utf8_nonempty}
use Rattle.unicode_segmentation.specs.Segments.{chars_before, chars_from}
use Rattle.line_editor.specs.declared.actions.Case.{Case}
use Rattle.line_editor.specs.declared.last.Last.{Last}
use Rattle.line_editor.specs.declared.last.Last.TheVariants.{Killed, Other, Seeking, Walked, Yanked}
use Rattle.line_editor.specs.declared.last.Seek.{Seek}
use Rattle.line_editor.specs.declared.limits.Limits.{Limits}
use Rattle.line_editor.specs.declared.places.Stop.TheVariants.{Blank, WordEnd, WordStart}
use Rattle.line_editor.specs.declared.places.Target.TheVariants.{Back, Forward}
use Rattle.line_editor.specs.Bounded.{IsHeld, IsKept}
use Rattle.line_editor.specs.Bounds.{cased_more, size}
use Rattle.line_editor.specs.Cases.{cased, recased}
use Rattle.line_editor.specs.Edits.{cut_text, first_end, first_start, from_to, has_two_words, is_beside_blank, last_word, line_with, second_end, second_start, without_blanks, words_swapped, words_transposed}
use Rattle.line_editor.specs.Places.{target_place}
use Rattle.line_editor.specs.Shown.{AreIn, AreRows}
use Rattle.line_editor.specs.Splits.{Split, bytes_before, line_text, split_at}
use Rattle.line_editor.specs.States.{EditorState, case_cut, changed, erase_blanks, is_empty, last_word_of, next_word, taken, taken_to, transpose_words, word_taken_by}
use Rattle.line_editor.specs.Words.{unblanked}
use Rattle.line_editor.specs.inside.Changes.{line_bytes}
use Rattle.line_editor.proofs.Casing.{cased-shown}
use Rattle.line_editor.proofs.Changing.{before-line}
use Rattle.line_editor.proofs.Held.{cut-shown, held-same, size-append}
use Rattle.line_editor.proofs.Keeping.{IsFrom, ends-IsFrom, from_to-IsFrom, keeps_text, text_of-joined}
use Rattle.line_editor.proofs.Settling.{chars-slice_range}
use Rattle.line_editor.proofs.Showing.{shown-append, shown-back, shown-front, shown-part}
use Rattle.line_editor.proofs.Sizing.{size-cons}
use Rattle.line_editor.proofs.Stepping.{chars_before-start}

-- ---- white space

-- There is none before the start of a text.
pub unblanked-start : (text : List ℕ) (at : ℕ) → at ≤ 0 → unblanked (chars_before text at) ≡ chars_before text at
unblanked-start text at h =
    let zero : at ≡ 0 = omega arith in
    rw zero (rw (chars_before-start text) refl)

-- What is left out is the front.
unblanked-rest : (text : List ℕ) → (gone : List ℕ) × (text ≡ gone ++ unblanked text)
unblanked-rest [] = ([], refl)
unblanked-rest (c ∷ text) =
    elim (cases_Bool (is_whitespace c)) [
      | inl blank ↦ rw blank (let rest = unblanked-rest text in (c ∷ rest.0, ap (λ t. c ∷ t) rest.1))
      | inr other ↦ rw other ([], refl)
    ]

-- ---- parts of a line

-- Two parts, one behind the other.
IsFrom-both : (p m q : Split) (a b : List ℕ) → IsFrom p m a → IsFrom m q b → IsFrom p q (a ++ b)
IsFrom-both p m q a b h k = record {
  before = k.before ∙ ap (λ t. reverse b ++ t) h.before ∙ sym (append_assoc (reverse b) (reverse a) p.before) ∙ ap (λ t. t ++ p.before) (sym (reverse-append a b));
  after = h.after ∙ ap (λ t. a ++ t) k.after ∙ sym (append_assoc a b q.after);
}

-- A front of a text that is no longer than another front begins that.
front-of : (a b x y : List ℕ) → a ++ x ≡ b ++ y → size a ≤ size b → (part : List ℕ) × (b ≡ a ++ part) × (x ≡ part ++ y)
front-of [] b x y e le = (b, refl, e)
front-of (c ∷ a) [] x y e le = absurd (omega (arith, le, size-cons c a, encode_utf8_nonempty c))
front-of (c ∷ a) (d ∷ b) x y e le =
    let heads : c ≡ d = ap (λ t. head-or c t) e in
    let tails : a ++ x ≡ b ++ y = ap tail-of e in
    let sizes : size (d ∷ b) ≡ size (c ∷ b) = ap (λ n. size (n ∷ b)) (sym heads) in
    let rest = front-of a b x y tails (omega (arith, le, sizes, size-cons c a, size-cons c b)) in
    (rest.0, ap (λ n. n ∷ b) (sym heads) ∙ ap (λ t. c ∷ t) rest.1, rest.2)
  where
    head-or : ℕ → List ℕ → ℕ
    head-or n [] = n
    head-or n (x ∷ xs) = x

    tail-of : List ℕ → List ℕ
    tail-of [] = []
    tail-of (x ∷ xs) = xs

-- Of two places of a text, one is before the other.
between : (p q : Split) → line_text p ≡ line_text q → bytes_before p ≤ bytes_before q → (part : List ℕ) × IsFrom p q part
between p q e le =
    let rest = front-of (reverse p.before) (reverse q.before) p.after q.after e le in (
      rest.0,
      record {
        before = sym (reverse-reverse q.before) ∙ ap reverse rest.1 ∙ reverse-append (reverse p.before) rest.0 ∙ ap (λ t. reverse rest.0 ++ t) (reverse-reverse p.before);
        after = rest.2;
      },
    )

module _ (limits : Limits) where
  -- A text in place of a part of a line.
  held-between : (p q : Split) (old new : List ℕ) → IsFrom p q old → IsHeld limits p → AreIn limits.multiline new → size new - size old ≤ limits.bytes - size (line_text p)
      → IsHeld limits (line_with p new q)
  held-between p q old new from h k few =
      let front = reverse p.before in
      let parts : line_text p ≡ front ++ (old ++ q.after) = ap (λ t. front ++ t) from.after in
      let all = held-same limits (front ++ (old ++ q.after)) (line_text p) (sym parts) h in
      held-same limits (line_text (line_with p new q)) (front ++ (new ++ q.after)) (text_of-joined p new q) (
        shown-append limits.multiline front (new ++ q.after) (shown-front limits.multiline front (old ++ q.after) all.0) (shown-append limits.multiline new q.after k (shown-back limits.multiline old q.after (shown-back limits.multiline front (old ++ q.after) all.0))),
        omega (arith, few, h.1, ap size parts, size-append front (old ++ q.after), size-append old q.after, size-append front (new ++ q.after), size-append new q.after),
      )

  pub held-recased : (case : Case) (d : Split) → IsHeld limits d → cased_more case (cut_text (Forward WordEnd) d) ≤ limits.bytes - size (line_text d)
      → IsHeld limits (recased case d)
  held-recased case d h few =
      let word = cut_text (Forward WordEnd) d in
      let q = target_place (Forward WordEnd) d in
      let ends = ends-IsFrom (Forward WordEnd) d in
      let from : IsFrom d q word = subst (IsFrom d q) (sym (from_to-IsFrom d q ends.0 ends.1)) ends.1 in
      held-between d q word (cased case word) from h (cased-shown limits.multiline case word (cut-shown limits (Forward WordEnd) d h)) few

  module _ (d : Split) (h : IsHeld limits d) (two : has_two_words d ≡ true) where
    held-exchanged : IsHeld limits (words_transposed d)
    held-exchanged =
        let e2 = second_end d in
        let b2 = second_start d in
        let b1 = first_start d in
        let e1 = first_end d in
        let order = leb-true (bytes_before e1) (bytes_before b2) (and_parts _ _ two).1 in
        let text2 : line_text e2 ≡ line_text d = keeps_text (Forward WordEnd) d in
        let start2 : line_text b2 ≡ line_text e2 = keeps_text (Back WordStart) e2 in
        let start1 : line_text b1 ≡ line_text b2 = keeps_text (Back WordStart) b2 in
        let end1 : line_text e1 ≡ line_text b1 = keeps_text (Forward WordEnd) b1 in
        let first = ends-IsFrom (Forward WordEnd) b1 in
        let second = ends-IsFrom (Back WordStart) e2 in
        let gap = between e1 b2 (end1 ∙ start1) order in
        let x = from_to b1 e1 in
        let y = from_to b2 e2 in
        let z = from_to e1 b2 in
        let is_x : IsFrom b1 e1 x = subst (IsFrom b1 e1) (sym (from_to-IsFrom b1 e1 first.0 first.1)) first.1 in
        let is_y : IsFrom b2 e2 y = subst (IsFrom b2 e2) (sym (from_to-IsFrom b2 e2 second.0 second.1)) second.1 in
        let is_z : IsFrom e1 b2 z = subst (IsFrom e1 b2) (sym (from_to-IsFrom e1 b2 gap.0 gap.1)) gap.1 in
        let whole : IsFrom b1 e2 ((x ++ z) ++ y) = IsFrom-both b1 b2 e2 (x ++ z) y (IsFrom-both b1 e1 b2 x z is_x is_z) is_y in
        let all = held-same limits (line_text b1) (line_text d) (start1 ∙ start2 ∙ text2) h in
        let old : AreIn limits.multiline ((x ++ z) ++ y) =
        shown-front limits.multiline ((x ++ z) ++ y) e2.after (shown-back limits.multiline (reverse b1.before) (((x ++ z) ++ y) ++ e2.after) (subst (AreIn limits.multiline) (ap (λ t. reverse b1.before ++ t) whole.after) all.0)) in
        let left = shown-front limits.multiline (x ++ z) y old in
        held-between b1 e2 ((x ++ z) ++ y) (y ++ (z ++ x)) whole all
        (shown-append limits.multiline y (z ++ x) (shown-back limits.multiline (x ++ z) y old) (shown-append limits.multiline z x (shown-back limits.multiline x z left) (shown-front limits.multiline x z left)))
        (omega (arith, size-append (x ++ z) y, size-append x z, size-append y (z ++ x), size-append z x))

  pub held-words : (d : Split) → IsHeld limits d → has_two_words d ≡ true → IsHeld limits (words_transposed d)
  held-words d h two = held-exchanged d h two

  pub held-unblanked : (d : Split) → IsHeld limits d → IsHeld limits (without_blanks d)
  held-unblanked d h =
      let left = unblanked-rest d.before in
      let right = unblanked-rest d.after in
      let before = unblanked d.before in
      let after = unblanked d.after in
      let old = reverse left.0 ++ right.0 in
      let p : Split = record { before = before; after = reverse left.0 ++ (right.0 ++ after) } in
      let q : Split = record { before = reverse old ++ before; after = after } in
      let same : line_text p ≡ line_text d =
      sym (ap (λ t. reverse t ++ d.after) left.1 ∙ ap (λ t. t ++ d.after) (reverse-append left.0 before)
      ∙ append_assoc (reverse before) (reverse left.0) d.after ∙ ap (λ t. reverse before ++ (reverse left.0 ++ t)) right.1) in
      held-between p q old [] (record { before = refl; after = sym (append_assoc (reverse left.0) right.0 after) })
      (held-same limits (line_text p) (line_text d) same h) refl (omega arith)

-- ---- the last word of a line

module _ (limits : Limits) where
  abbrev Are : List ℕ → Type 0
  Are text = AreIn limits.multiline text

  reverse-shown : (text : List ℕ) → Are text → Are (reverse text)
  reverse-shown [] h = h
  reverse-shown (c ∷ text) h =
      let parts = and_parts _ _ h in
      subst Are (sym (reverse-append (c ∷ []) text)) (shown-append limits.multiline (reverse text) (c ∷ []) (reverse-shown text parts.1) (and_from _ _ parts.0 refl))

  unblanked-shown : (text : List ℕ) → Are text → Are (unblanked text)
  unblanked-shown text h =
      let rest = unblanked-rest text in
      shown-back limits.multiline rest.0 (unblanked text) (subst Are rest.1 h)

  last_word-shown : (d : Split) → IsHeld limits d → Are (last_word d)
  last_word-shown d h =
      let cut = cut_text (Back Blank) d in
      reverse-shown (unblanked (reverse cut)) (unblanked-shown (reverse cut) (reverse-shown cut (cut-shown limits (Back Blank) d h)))

  pub word-shown : (lines : List Split) (at : ℕ) → AllByRecursion (IsKept limits) lines → Are (last_word_of (slice_get lines at))
  word-shown [] at h = refl
  word-shown (d ∷ lines) zero h = last_word-shown d h.0.0
  word-shown (d ∷ lines) (suc at) h = word-shown lines at h.1

-- The last word of the line at a place, or none.
pub word_found : (lines : List Split) (at : ℕ) (d : Split) → at < length lines → d ≡ slice_index_or lines at d → last_word d ≡ last_word_of (slice_get lines at)
word_found [] at d lt e = absurd (omega (arith, lt))
word_found (x ∷ lines) zero d lt e = ap (λ (y : Split). last_word y) e
word_found (x ∷ lines) (suc at) d lt e = word_found lines at d (omega (arith, lt)) e

pub word_missed : (lines : List Split) (at : ℕ) → length lines ≤ at → [] ≡ last_word_of (slice_get lines at)
word_missed [] at le = refl
word_missed (x ∷ lines) zero le = absurd (omega (arith, le))
word_missed (x ∷ lines) (suc at) le = word_missed lines at (omega (arith, le))

-- ---- what comes of the actions in an editor

-- A line's text, in bytes.
pub text-bytes : (text : List ℕ) (d : Split) → IsUtf8 text → chars text ≡ line_text d → text ≡ line_bytes d
text-bytes text d u e = sym (encodes-chars text u) ∙ ap encode_utf8_all e

pub line_with-same : (a p : Split) (t u : List ℕ) (b q : Split) → a ≡ p → t ≡ u → b ≡ q → line_with a t b ≡ line_with p u q
line_with-same a p t u b q e f g = ap (λ (x : Split). line_with x t b) e ∙ ap (λ x. line_with p x b) f ∙ ap (λ (x : Split). line_with p u x) g

-- The places of two words in a text.
module _ (text : List ℕ) (d : Split) (u : IsUtf8 text) (from_first to_first from_second to_second : ℕ)
    (a : split_at text from_first ≡ first_start d) (b : split_at text to_first ≡ first_end d)
    (x : split_at text from_second ≡ second_start d) (y : split_at text to_second ≡ second_end d)
    (ba : IsCharBoundary text from_first) (bb : IsCharBoundary text to_first) (bx : IsCharBoundary text from_second) (by : IsCharBoundary text to_second) where
  pub words_are : (nat_lt from_first from_second && nat_le to_first from_second) ≡ has_two_words d
  words_are =
      ap (λ n. nat_lt n from_second && nat_le to_first from_second) (sym (before-line text from_first u ba (first_start d) a))
      ∙ ap (λ n. nat_lt (bytes_before (first_start d)) n && nat_le to_first n) (sym (before-line text from_second u bx (second_start d) x))
      ∙ ap (λ n. nat_lt (bytes_before (first_start d)) (bytes_before (second_start d)) && nat_le n (bytes_before (second_start d))) (sym (before-line text to_first u bb (first_end d) b))

  module _ (first : from_first ≤ to_first) (gap : to_first ≤ from_second) (second : from_second ≤ to_second) (new : List ℕ)
      (e : new ≡ slice_range text from_second to_second ++ (slice_range text to_first from_second ++ slice_range text from_first to_first)) where
    parts : chars new ≡ chars (slice_range text from_second to_second) ++ (chars (slice_range text to_first from_second) ++ chars (slice_range text from_first to_first))
    parts =
        ap chars e
        ∙ chars-append (slice_range text from_second to_second) (slice_range text to_first from_second ++ slice_range text from_first to_first) (IsUtf8-between text from_second to_second u second bx by)
        ∙ ap (λ t. chars (slice_range text from_second to_second) ++ t) (chars-append (slice_range text to_first from_second) (slice_range text from_first to_first) (IsUtf8-between text to_first from_second u gap bb bx))

    pub swapped_as : chars new ≡ words_swapped d
    swapped_as =
        let one : chars (slice_range text from_second to_second) ≡ from_to (second_start d) (second_end d) =
        chars-slice_range text from_second to_second u bx by second ∙ ap (λ (p : Split). from_to p (split_at text to_second)) x ∙ ap (λ (q : Split). from_to (second_start d) q) y in
        let two : chars (slice_range text to_first from_second) ≡ from_to (first_end d) (second_start d) =
        chars-slice_range text to_first from_second u bb bx gap ∙ ap (λ (p : Split). from_to p (split_at text from_second)) b ∙ ap (λ (q : Split). from_to (first_end d) q) x in
        let three : chars (slice_range text from_first to_first) ≡ from_to (first_start d) (first_end d) =
        chars-slice_range text from_first to_first u ba bb first ∙ ap (λ (p : Split). from_to p (split_at text to_first)) a ∙ ap (λ (q : Split). from_to (first_start d) q) b in
        parts ∙ ap (λ t. t ++ (chars (slice_range text to_first from_second) ++ chars (slice_range text from_first to_first))) one
        ∙ ap (λ t. from_to (second_start d) (second_end d) ++ (t ++ chars (slice_range text from_first to_first))) two
        ∙ ap (λ t. from_to (second_start d) (second_end d) ++ (from_to (first_end d) (second_start d) ++ t)) three

    pub swapped-shown : AreRows (chars text) → AreRows (chars new)
    swapped-shown h =
        let piece = λ (i j : ℕ) (p : IsCharBoundary text i) (q : IsCharBoundary text j) (le : i ≤ j). shown-part true text u h i j p q le (slice_range text i j) refl in
        subst AreRows (sym parts) (shown-append true (chars (slice_range text from_second to_second)) (chars (slice_range text to_first from_second) ++ chars (slice_range text from_first to_first))
        (piece from_second to_second bx by second)
        (shown-append true (chars (slice_range text to_first from_second)) (chars (slice_range text from_first to_first)) (piece to_first from_second bb bx gap) (piece from_first to_first ba bb first)))

module _ (w : EditorState) (d : Split) (same : w.line ≡ d) where
  pub words_none : has_two_words d ≡ false → w ≡ transpose_words w
  words_none none = sym (by w.line (ap has_two_words same ∙ none))
    where
      by : (l : Split) → has_two_words l ≡ false → (if has_two_words l then changed (words_transposed l) w else w) ≡ w
      by l e = rw e refl

  pub words_some : has_two_words d ≡ true → (line : Split) → line ≡ words_transposed d → changed line w ≡ transpose_words w
  words_some two line f = ap (λ (l : Split). changed l w) (f ∙ ap words_transposed (sym same)) ∙ sym (by w.line (ap has_two_words same ∙ two))
    where
      by : (l : Split) → has_two_words l ≡ true → (if has_two_words l then changed (words_transposed l) w else w) ≡ changed (words_transposed l) w
      by l e = rw e refl

-- White space is erased.
pub blanks_some : (w : EditorState) (d : Split) → w.line ≡ d → is_beside_blank w.line ≡ true → (line : Split) → line ≡ without_blanks d → changed line w ≡ erase_blanks w
blanks_some w d same some line f = ap (λ (l : Split). changed l w) (f ∙ ap without_blanks (sym same)) ∙ sym (rw some refl)

pub blanks_as : (text : List ℕ) (from to at : ℕ) (d : Split) → split_at text at ≡ d → chars_before text from ≡ unblanked (chars_before text at)
    → chars_from text to ≡ unblanked (chars_from text at) → line_with (split_at text from) (chars []) (split_at text to) ≡ without_blanks d
blanks_as text from to at d here e f =
    ap (λ t. line_with (split_at text from) t (split_at text to)) chars-nil
    ∙ ap (λ t. line_with (record { before = t; after = [] }) [] (split_at text to)) (e ∙ ap (λ (x : Split). unblanked x.before) here)
    ∙ ap (λ t. line_with (record { before = unblanked d.before; after = [] }) [] (record { before = []; after = t })) (f ∙ ap (λ (x : Split). unblanked x.after) here)

-- No word was taken last.
pub taken-none : (last : Last) (w : EditorState) → (last ≡ Other) ⊎ ((last ≡ Walked) ⊎ ((last ≡ Killed) ⊎ ((last ≡ Yanked) ⊎ ((s : Seek) × (last ≡ Seeking s))))) → [] ≡ word_taken_by last w
taken-none last w (inl is) = rw is refl
taken-none last w (inr (inl is)) = rw is refl
taken-none last w (inr (inr (inl is))) = rw is refl
taken-none last w (inr (inr (inr (inl is)))) = rw is refl
taken-none last w (inr (inr (inr (inr is)))) = rw is.1 refl

-- ---- the history stays

pub case_history : (case : Case) (text : List ℕ) (w : EditorState) → (case_cut case text w).history ≡ w.history
case_history case [] w = refl
case_history case (c ∷ text) w = refl

pub words_history : (w : EditorState) → (transpose_words w).history ≡ w.history
words_history w = elim (cases_Bool (has_two_words w.line)) [ inl two ↦ rw two refl | inr none ↦ rw none refl ]

pub blanks_history : (w : EditorState) → (erase_blanks w).history ≡ w.history
blanks_history w = elim (cases_Bool (is_beside_blank w.line)) [ inl some ↦ rw some refl | inr none ↦ rw none refl ]

pub taken_history : (o : Option (List ℕ)) (w : EditorState) → (taken_to o w).history ≡ w.history
taken_history None w = refl
taken_history (Some before) w = elim (cases_Bool (is_empty (taken w) && is_empty (next_word w))) [ inl none ↦ rw none refl | inr some ↦ rw some refl ]
