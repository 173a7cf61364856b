-- The tests of the grammar say what its definitions say, and no whole sequence begins another.
use Rattle.std.proofs.Common.{◌≤◌, ◌≡◌, ◌≢◌, ◌==◌, ◌⊎◌, inl, inr, ℕ, Bool, true, false, cond, ◌&&◌, ◌||◌, List, [], ◌∷◌, ◌++◌, refl, ap, sym, ◌∙◌, arith, length, ◌<◌, zero, suc, subst, drop, append_assoc}
use Rattle.std.specs.Prelude.{nat_le}
use Rattle.std.proofs.lemmas.Bool.{false≢true, cases_Bool, eq-eqb, eqb-true, and_parts}
use Rattle.std.proofs.lemmas.Bool.Decides.{nat_tests, eqb_tells}
use Rattle.std.specs.List.{AllByRecursion}
use Rattle.crossterm_parse.specs.Marked.{Marked, bytes_of}
use Rattle.crossterm_parse.specs.Bytes.{is_digit}
use Rattle.crossterm_parse.specs.Grammar.{begins, IsDigit, EndsNumbered, IsAlone, EndsNoMouse, EndsNoReply, HasNoEnd, EndsReply, IsLead, IsContinuing, continuing_after, CharacterShape, single, broken, Shape, text, two_escapes, with_escape, after_ss3, after_csi, linux_key, x10, mouse, reply, numbered, paste, paste_mark, paste_start, paste_end, BeginsPaused, Whole, key, sequence}
use Rattle.crossterm_parse.specs.Recognizer.{is_nil, is_one, is_three, is_final, is_reply_end, is_mouse_end, ends_numbered, ends_reply, ends_mouse, ends_private, ends_paste, ends_digit, ends_csi, is_lead, is_continuing, further_after, ends_character, is_character, ends_escape, is_shape, is_whole}
use Rattle.crossterm_parse.specs.Grammar as grammar
use Rattle.crossterm_parse.specs.Division.{IsPrefixFree}
use Rattle.crossterm_parse.proofs.PasteLaws.{begins_is, begins_from, paste_true, Pasted, true_paste, not_mark}
use Rattle.crossterm_parse.proofs.EndLaws.{chosen, true_nil, TestsEnds, ended, Ends, true_ends, Closes, nil_closes, choice_closes, ends_close}

-- whether a byte is one of some in a row, and what that says
pub within_true : {low high : ℕ} (b : ℕ) → (low ≤ b) × (b ≤ high) → (nat_le low b && nat_le b high) ≡ true
within_true b h = grind (arith, nat_tests)

pub true_within : {low high : ℕ} (b : ℕ) → (nat_le low b && nat_le b high) ≡ true → (low ≤ b) × (b ≤ high)
true_within b h = grind (arith, nat_tests)

within_false : {low high : ℕ} (b : ℕ) → ¬ ((low ≤ b) × (b ≤ high)) → (nat_le low b && nat_le b high) ≡ false
within_false b h = grind (arith, nat_tests)

pub not_within : {low high : ℕ} (b : ℕ) → (nat_le low b && nat_le b high) ≡ false → ¬ ((low ≤ b) × (b ≤ high))
not_within b h = grind (arith, nat_tests)

pub final_tested : TestsEnds (λ b. ¬ EndsNumbered b) is_final
final_tested = record { fails = λ b. within_false b; none = λ b. not_within b }

one_more : (lead : ℕ) → continuing_after lead ≡ suc (further_after lead)
one_more lead = go (nat_le lead 0xDF) (nat_le lead 0xEF) where
  go : (s t : Bool) → cond s 1 (cond t 2 3) ≡ suc (cond s 0 (cond t 1 2))
  go true t = refl
  go false true = refl
  go false false = refl

all_continue : (n : ℕ) (more : List ℕ) → AllByRecursion IsContinuing more → length more ≡ suc n → ends_character n more ≡ true
all_continue n [] h l = absurd (omega arith)
all_continue zero (b ∷ []) h l = refl
all_continue zero (b ∷ c ∷ bs) h l = absurd (omega arith)
all_continue (suc n) (b ∷ bs) h l = rw (within_true b h.0) (all_continue n bs h.1 (omega arith))

breaks_off : (n : ℕ) (more : List ℕ) (b : ℕ) → AllByRecursion IsContinuing more → length more < suc n → ¬ IsContinuing b → ends_character n (more ++ b ∷ []) ≡ true
breaks_off zero [] b h l k = refl
breaks_off (suc n) [] b h l k = rw (within_false b k)
breaks_off zero (c ∷ more) b h l k = absurd (omega arith)
breaks_off (suc n) (c ∷ more) b h l k = rw (within_true c h.0) (breaks_off n more b h.1 (omega arith) k)

character_true : (bytes : List ℕ) → CharacterShape bytes → is_character bytes ≡ true
character_true bytes (single b ne not e) = rw (e, within_false b not)
character_true bytes (grammar.CharacterShape.character lead more is all l e) = rw (e, within_true lead is) (all_continue (further_after lead) more all (l ∙ one_more lead))
character_true bytes (broken lead b more is all l k e) = rw (e, within_true lead is) (breaks_off (further_after lead) more b all (subst (λ (n : ℕ). length more < n) (one_more lead) l) k)

-- a character doesn't begin with an escape
not_escape : (b : ℕ) (rest : List ℕ) → CharacterShape (b ∷ rest) → (b == 27) ≡ false
not_escape b rest (single c ne not e) = let is : b ≡ c = cc in grind (arith, nat_tests)
not_escape b rest (grammar.CharacterShape.character lead more is all l e) = let same : b ≡ lead = cc in grind (arith, nat_tests)
not_escape b rest (broken lead c more is all l k e) = let same : b ≡ lead = cc in grind (arith, nat_tests)

as_shape : (bytes : List ℕ) → CharacterShape bytes → is_shape bytes ≡ true
as_shape [] c = character_true [] c
as_shape (b ∷ bs) c = rw (not_escape b bs c) (character_true (b ∷ bs) c)

-- a byte after `ESC [` that doesn't ask for more
alone_true : (b : ℕ) → IsAlone b → ends_csi (b ∷ []) ≡ true
alone_true b (n, m, k, l, d) =
    let s : (b == 91) ≡ false = grind (arith, nat_tests) in
    let t : (b == 77) ≡ false = grind (arith, nat_tests) in
    let u : (b == 60) ≡ false = grind (arith, nat_tests) in
    let v : (b == 63) ≡ false = grind (arith, nat_tests) in
    rw (s, t, u, v, within_false b d)

-- a digit is none of the bytes that `ESC [` chooses by
pub digit_apart : (d : ℕ) → IsDigit d → ((d == 91) ≡ false) × ((d == 77) ≡ false) × ((d == 60) ≡ false) × ((d == 63) ≡ false) × (is_digit d ≡ true)
digit_apart d h = (grind (arith, nat_tests), grind (arith, nat_tests), grind (arith, nat_tests), grind (arith, nat_tests), within_true d h)

digit_csi : (d : ℕ) (bs : List ℕ) → IsDigit d → ends_csi (d ∷ bs) ≡ ends_digit (d ∷ bs)
digit_csi d bs h = let t = digit_apart d h in rw (t.0, t.1, t.2, t.3, t.4)

neither : (b m n : ℕ) → b ≢ m → b ≢ n → (b == m || b == n) ≡ false
neither b m n h k =
    let s : (b == m) ≡ false = grind (arith, nat_tests) in
    let t : (b == n) ≡ false = grind (arith, nat_tests) in
    rw (s, t)

pub no_reply : (b : ℕ) → EndsNoReply b → is_reply_end b ≡ false
no_reply b h = neither b 99 117 h.0 h.1

pub no_mouse_end : (b : ℕ) → EndsNoMouse b → is_mouse_end b ≡ false
no_mouse_end b h = neither b 77 109 h.0 h.1

or_either : (s t : Bool) → s || t ≡ true → (s ≡ true) ⊎ (t ≡ true)
or_either true t h = inl refl
or_either false t h = inr h

or_none : (s t : Bool) → s || t ≡ false → (s ≡ false) × (t ≡ false)
or_none true t h = absurd (false≢true (sym h))
or_none false t h = (refl, h)

-- one of two bytes, or none of them
one_of : (b x y : ℕ) → b == x || b == y ≡ true → (b ≡ x) ⊎ (b ≡ y)
one_of b x y h = elim (or_either (b == x) (b == y) h) [ inl t ↦ inl (eqb-true b x t) | inr t ↦ inr (eqb-true b y t) ]

pub is_one_of : (b x y : ℕ) → (b ≡ x) ⊎ (b ≡ y) → b == x || b == y ≡ true
is_one_of b x y (inl e) = rw (eq-eqb b x e)
is_one_of b x y (inr e) = go (b == x) where
  go : (t : Bool) → t || b == y ≡ true
  go true = refl
  go false = eq-eqb b y e

none_of : (b x y : ℕ) → b == x || b == y ≡ false → (b ≢ x) × (b ≢ y)
none_of b x y h = let n = or_none (b == x) (b == y) h in (let s = n.0 in grind (arith, nat_tests), let s = n.1 in grind (arith, nat_tests))

pub not_reply_end : (b : ℕ) → is_reply_end b ≡ false → EndsNoReply b
not_reply_end b h = none_of b 99 117 h

pub not_mouse_end : (b : ℕ) → is_mouse_end b ≡ false → EndsNoMouse b
not_mouse_end b h = none_of b 77 109 h

pub reply_tested : TestsEnds EndsNoReply is_reply_end
reply_tested = record { fails = no_reply; none = not_reply_end }

pub mouse_tested : TestsEnds EndsNoMouse is_mouse_end
mouse_tested = record { fails = no_mouse_end; none = not_mouse_end }

pub private_true : (w : List ℕ) (f : ℕ) → HasNoEnd w → EndsReply w f → ends_private (w ++ f ∷ []) ≡ true
private_true [] f none (inl e) = rw e
private_true [] f none (inr e) = absurd (e.1 refl)
private_true (b ∷ w) f none (inl e) = let s : (b == 99) ≡ false = (let n = none.0 in grind (arith, nat_tests)) in rw s (ended EndsNoReply is_reply_end reply_tested w f none.1 (is_one_of f 99 117 (inl e)))
private_true (b ∷ w) f none (inr e) = let s : (b == 99) ≡ false = (let n = none.0 in grind (arith, nat_tests)) in rw s (ended EndsNoReply is_reply_end reply_tested w f none.1 (is_one_of f 99 117 (inr e.0)))

pub shape_true : (bytes : List ℕ) → Shape bytes → is_shape bytes ≡ true
shape_true bytes (text c) = as_shape bytes c
shape_true bytes (two_escapes e) = rw e
shape_true bytes (with_escape b rest not_o not_bracket c e) = rw e (
    let s : (b == 79) ≡ false = grind (arith, nat_tests) in
    let t : (b == 91) ≡ false = grind (arith, nat_tests) in
    rw (s, t, not_escape b rest c) (character_true (b ∷ rest) c))
shape_true bytes (after_ss3 b e) = rw e
shape_true bytes (after_csi b alone e) = rw e (alone_true b alone)
shape_true bytes (linux_key b e) = rw e
shape_true bytes (reply w f none ends e) = rw e (private_true w f none ends)
shape_true bytes (x10 a b c e) = rw e
shape_true bytes (mouse w f none ends e) = rw e (ended EndsNoMouse is_mouse_end mouse_tested w f none (is_one_of f 77 109 ends))
shape_true bytes (numbered d f w is nf l ne e) = rw e (digit_csi d (w ++ f ∷ []) is
    ∙ rw (not_mark d f w nf (λ (h : d ∷ (w ++ f ∷ []) ≡ paste_mark). ne (e ∙ ap (λ (ys : List ℕ). 27 ∷ 91 ∷ ys) h))) (ended (λ b. ¬ EndsNumbered b) is_final final_tested w f nf (within_true f l)))
shape_true bytes (paste within first e) = rw e (paste_true within first)

true_one : (bs : List ℕ) → is_one bs ≡ true → (b : ℕ) × (bs ≡ b ∷ [])
true_one [] h = absurd (false≢true h)
true_one (b ∷ bs) h = (b, ap (λ (ys : List ℕ). b ∷ ys) (true_nil bs h))

-- what ended a character
data Ended (n : ℕ) (bs : List ℕ) : Type 0 where
  full : AllByRecursion IsContinuing bs → length bs ≡ suc n → Ended n bs
  off : (more : List ℕ) (b : ℕ) → AllByRecursion IsContinuing more → length more < suc n → ¬ IsContinuing b → bs ≡ more ++ b ∷ [] → Ended n bs

ended_more : (n b : ℕ) (bs : List ℕ) → IsContinuing b → Ended n bs → Ended (suc n) (b ∷ bs)
ended_more n b bs h (full all l) = full (h, all) (omega arith)
ended_more n b bs h (off more c all l k e) = off (b ∷ more) c (h, all) (omega arith) k (ap (λ (ys : List ℕ). b ∷ ys) e)

one_ended : (n b : ℕ) → ¬ IsContinuing b → Ended n (b ∷ [])
one_ended n b k = off [] b tt (omega arith) k refl

true_ended : (n : ℕ) (bs : List ℕ) → ends_character n bs ≡ true → Ended n bs
true_ended n [] h = absurd (false≢true h)
true_ended zero (b ∷ bs) h = subst (λ (ys : List ℕ). Ended zero (b ∷ ys)) (sym (true_nil bs h)) (go (is_continuing b) refl) where
  go : (t : Bool) → is_continuing b ≡ t → Ended zero (b ∷ [])
  go true c = full (true_within b c, tt) refl
  go false c = one_ended zero b (not_within b c)
true_ended (suc n) (b ∷ bs) h = elim (chosen (is_continuing b) (ends_character n bs) (is_nil bs) true h) [
  | inl w ↦ ended_more n b bs (true_within b w.0) (true_ended n bs w.1)
  | inr w ↦ subst (λ (ys : List ℕ). Ended (suc n) (b ∷ ys)) (sym (true_nil bs w.1)) (one_ended (suc n) b (not_within b w.0))
]

ended_character : (b : ℕ) (bs : List ℕ) → IsLead b → Ended (further_after b) bs → CharacterShape (b ∷ bs)
ended_character b bs is (full all l) = grammar.CharacterShape.character b bs is all (l ∙ sym (one_more b)) refl
ended_character b bs is (off more c all l k e) = broken b c more is all (subst (λ (n : ℕ). length more < n) (sym (one_more b)) l) k (ap (λ (ys : List ℕ). b ∷ ys) e)

true_character : (b : ℕ) (bs : List ℕ) → b ≢ 27 → is_character (b ∷ bs) ≡ true → CharacterShape (b ∷ bs)
true_character b bs ne h = elim (chosen (is_lead b) (ends_character (further_after b) bs) (is_nil bs) true h) [
  | inl w ↦ ended_character b bs (true_within b w.0) (true_ended (further_after b) bs w.1)
  | inr w ↦ single b ne (not_within b w.0) (ap (λ (ys : List ℕ). b ∷ ys) (true_nil bs w.1))
]

ss3_shape : (b : ℕ) (bs : List ℕ) (c : ℕ) → b ≡ 79 → bs ≡ c ∷ [] → Shape (27 ∷ b ∷ bs)
ss3_shape b bs c is e = after_ss3 c (rw (is, e))

ends_later : (b : ℕ) (w : List ℕ) (f : ℕ) → (f ≡ 99) ⊎ (f ≡ 117) → EndsReply (b ∷ w) f
ends_later b w f (inl e) = inl e
ends_later b w f (inr e) = inr (e, λ h. cc)

private_shape : (bs : List ℕ) → ends_private bs ≡ true → Shape (27 ∷ 91 ∷ 63 ∷ bs)
private_shape [] h = absurd (false≢true h)
private_shape (b ∷ bs) h = elim (chosen (b == 99) (is_nil bs) (ends_reply bs) true h) [
  | inl w ↦ reply [] b tt (inl (eqb-true b 99 w.0)) (ap (λ (ys : List ℕ). 27 ∷ 91 ∷ 63 ∷ b ∷ ys) (true_nil bs w.1))
  | inr w ↦ let later = true_ends EndsNoReply is_reply_end reply_tested bs w.1 in
      reply (b ∷ later.before) later.last (let n = w.0 in grind (arith, nat_tests), later.none_before) (ends_later b later.before later.last (one_of later.last 99 117 later.closed))
      (ap (λ (ys : List ℕ). 27 ∷ 91 ∷ 63 ∷ b ∷ ys) later.is)
]

numbered_shape : (b : ℕ) (bs : List ℕ) → IsDigit b → begins paste_mark (b ∷ bs) ≡ false → Ends (λ b. ¬ EndsNumbered b) is_final bs → Shape (27 ∷ 91 ∷ b ∷ bs)
numbered_shape b bs d n later = numbered b later.last later.before d later.none_before (true_within later.last later.closed)
    (λ (e : 27 ∷ 91 ∷ b ∷ bs ≡ paste_start). false≢true (sym n ∙ begins_from paste_mark (b ∷ bs) [] (ap (drop 2) e)))
    (ap (λ (ys : List ℕ). 27 ∷ 91 ∷ b ∷ ys) later.is)

paste_shape : (b : ℕ) (bs : List ℕ) → begins paste_mark (b ∷ bs) ≡ true → Pasted (drop 3 bs) → Shape (27 ∷ 91 ∷ b ∷ bs)
paste_shape b bs h p = paste p.text p.first (ap (λ (ys : List ℕ). 27 ∷ 91 ∷ ys) (begins_is paste_mark (b ∷ bs) h ∙ ap (λ (ys : List ℕ). paste_mark ++ ys) p.is))

digit_shape : (b : ℕ) (bs : List ℕ) → IsDigit b → ends_digit (b ∷ bs) ≡ true → Shape (27 ∷ 91 ∷ b ∷ bs)
digit_shape b bs d h = elim (chosen (begins paste_mark (b ∷ bs)) (ends_paste (drop 3 bs)) (ends_numbered bs) true h) [
  | inl v ↦ paste_shape b bs v.0 (true_paste (drop 3 bs) v.1)
  | inr v ↦ numbered_shape b bs d v.0 (true_ends (λ b. ¬ EndsNumbered b) is_final final_tested bs v.1)
]

linux_shape : (b : ℕ) (bs : List ℕ) (c : ℕ) → b ≡ 91 → bs ≡ c ∷ [] → Shape (27 ∷ 91 ∷ b ∷ bs)
linux_shape b bs c is e = linux_key c (rw (is, e))

mouse_shape : (bs : List ℕ) → Ends EndsNoMouse is_mouse_end bs → Shape (27 ∷ 91 ∷ 60 ∷ bs)
mouse_shape bs later = mouse later.before later.last later.none_before (one_of later.last 77 109 later.closed) (ap (λ (ys : List ℕ). 27 ∷ 91 ∷ 60 ∷ ys) later.is)

x10_shape : (bs : List ℕ) → is_three bs ≡ true → Shape (27 ∷ 91 ∷ 77 ∷ bs)
x10_shape [] h = absurd (false≢true h)
x10_shape (a ∷ []) h = absurd (false≢true h)
x10_shape (a ∷ b ∷ bs) h = let one = true_one bs h in x10 a b one.0 (ap (λ (ys : List ℕ). 27 ∷ 91 ∷ 77 ∷ a ∷ b ∷ ys) one.1)

-- if the first byte is none of those: a digit or another
true_other : (b : ℕ) (bs : List ℕ) → b ≢ 91 → b ≢ 77 → b ≢ 60 → b ≢ 63 → cond (is_digit b) (ends_digit (b ∷ bs)) (is_nil bs) ≡ true → Shape (27 ∷ 91 ∷ b ∷ bs)
true_other b bs n m k l h = elim (chosen (is_digit b) (ends_digit (b ∷ bs)) (is_nil bs) true h) [
  | inl u ↦ digit_shape b bs (true_within b u.0) u.1
  | inr u ↦ after_csi b (n, m, k, l, not_within b u.0) (ap (λ (ys : List ℕ). 27 ∷ 91 ∷ b ∷ ys) (true_nil bs u.1))
]

differs : (b c : ℕ) → (b == c) ≡ false → b ≢ c
differs b c h = grind (arith, nat_tests)

true_csi : (bs : List ℕ) → ends_csi bs ≡ true → Shape (27 ∷ 91 ∷ bs)
true_csi [] h = absurd (false≢true h)
true_csi (b ∷ bs) h = elim (chosen (b == 91) _ _ true h) [
  | inl w ↦ let one = true_one bs w.1 in linux_shape b bs one.0 (eqb-true b 91 w.0) one.1
  | inr w ↦ elim (chosen (b == 77) _ _ true w.1) [
    | inl v ↦ let is : b ≡ 77 = eqb-true b 77 v.0 in rw is (x10_shape bs v.1)
    | inr v ↦ elim (chosen (b == 60) _ _ true v.1) [
      | inl u ↦ let is : b ≡ 60 = eqb-true b 60 u.0 in rw is (mouse_shape bs (true_ends EndsNoMouse is_mouse_end mouse_tested bs u.1))
      | inr u ↦ elim (chosen (b == 63) _ _ true u.1) [
        | inl t ↦ let is : b ≡ 63 = eqb-true b 63 t.0 in rw is (private_shape bs t.1)
        | inr t ↦ true_other b bs (differs b 91 w.0) (differs b 77 v.0) (differs b 60 u.0) (differs b 63 t.0) t.1
      ]
    ]
  ]
]

true_escape : (bs : List ℕ) → ends_escape bs ≡ true → Shape (27 ∷ bs)
true_escape [] h = absurd (false≢true h)
true_escape (b ∷ bs) h =
    elim (chosen (b == 79) (is_one bs) (cond (b == 91) (ends_csi bs) (cond (b == 27) (is_nil bs) (is_character (b ∷ bs)))) true h) [
      | inl w ↦ let one = true_one bs w.1 in
          let is : b ≡ 79 = grind (arith, nat_tests, w.0) in
          ss3_shape b bs one.0 is one.1
      | inr w ↦ elim (chosen (b == 91) (ends_csi bs) (cond (b == 27) (is_nil bs) (is_character (b ∷ bs))) true w.1) [
        | inl v ↦ let is : b ≡ 91 = grind (arith, nat_tests, v.0) in rw is (true_csi bs v.1)
        | inr v ↦
            let not_o : b ≢ 79 = grind (arith, nat_tests, w.0) in
            let not_bracket : b ≢ 91 = grind (arith, nat_tests, v.0) in
            elim (chosen (b == 27) (is_nil bs) (is_character (b ∷ bs)) true v.1) [
              | inl u ↦ let is : b ≡ 27 = grind (arith, nat_tests, u.0) in two_escapes (rw (is, true_nil bs u.1))
              | inr u ↦ let isnt : b ≢ 27 = grind (arith, nat_tests, u.0) in with_escape b bs not_o not_bracket (true_character b bs isnt u.1) refl
            ]
      ]
    ]

pub true_shape : (bytes : List ℕ) → is_shape bytes ≡ true → Shape bytes
true_shape [] h = absurd (false≢true h)
true_shape (b ∷ bs) h =
    elim (chosen (b == 27) (ends_escape bs) (is_character (b ∷ bs)) true h) [
      | inl w ↦ let is : b ≡ 27 = grind (arith, nat_tests, w.0) in rw is (true_escape bs w.1)
      | inr w ↦ let isnt : b ≢ 27 = grind (arith, nat_tests, w.0) in text (true_character b bs isnt w.1)
    ]

one_closes : Closes is_one
one_closes [] x h l = absurd (false≢true h)
one_closes (b ∷ a) x h l = nil_closes a x h l

three_closes : Closes is_three
three_closes [] x h l = absurd (false≢true h)
three_closes (b ∷ []) x h l = absurd (false≢true h)
three_closes (b ∷ c ∷ a) x h l = one_closes a x h l

character_closes : (n : ℕ) → Closes (ends_character n)
character_closes n [] x h l = absurd (false≢true h)
character_closes zero (b ∷ a) x h l = nil_closes a x h l
character_closes (suc n) (b ∷ a) x h l = choice_closes (is_continuing b) (ends_character n) is_nil (character_closes n) nil_closes a x h l

typed_closes : (b : ℕ) → Closes (λ bs. is_character (b ∷ bs))
typed_closes b = choice_closes (is_lead b) (ends_character (further_after b)) is_nil (character_closes (further_after b)) nil_closes

private_closes : Closes ends_private
private_closes [] x h l = absurd (false≢true h)
private_closes (b ∷ a) x h l = choice_closes (b == 99) is_nil ends_reply nil_closes (ends_close is_reply_end) a x h l

paste_closes : Closes ends_paste
paste_closes a x h l =
    let p = true_paste a h in
    let q = true_paste (a ++ x) l in
    q.first p.text x (sym q.is ∙ ap (λ (ys : List ℕ). ys ++ x) p.is ∙ append_assoc p.text paste_end x)

mark_spoils : (c : ℕ) → (c == 48) ≡ true → is_final c ≡ false
mark_spoils c h = let is : c ≡ 48 = eqb-true c 48 h in rw is

further_closes : (c d e : ℕ) → Closes (λ bs. ends_numbered (c ∷ d ∷ e ∷ bs))
further_closes c d e a x h l = ends_close is_final (c ∷ d ∷ e ∷ a) x h l

digit_closes : Closes ends_digit
digit_closes [] x h l = absurd (false≢true h)
digit_closes (b ∷ []) x h l = absurd (false≢true h)
digit_closes (b ∷ c ∷ []) x h l = go (begins paste_mark (b ∷ c ∷ x)) refl l where
  go : (t : Bool) → begins paste_mark (b ∷ c ∷ x) ≡ t → cond t (ends_paste (drop 2 x)) (ends_numbered (c ∷ x)) ≡ true → x ≡ []
  go true t l = let w = and_parts _ (b == 50) t in let v = and_parts _ (c == 48) w.0 in absurd (false≢true (rw (mark_spoils c v.1) at h))
  go false t l = ends_close is_final (c ∷ []) x h l
digit_closes (b ∷ c ∷ d ∷ []) x h l = go (begins paste_mark (b ∷ c ∷ d ∷ x)) refl l where
  go : (t : Bool) → begins paste_mark (b ∷ c ∷ d ∷ x) ≡ t → cond t (ends_paste (drop 1 x)) (ends_numbered (c ∷ d ∷ x)) ≡ true → x ≡ []
  go true t l = let w = and_parts _ (b == 50) t in let v = and_parts _ (c == 48) w.0 in let u = and_parts _ (d == 48) v.0 in absurd (false≢true (rw (mark_spoils c v.1, mark_spoils d u.1) at h))
  go false t l = ends_close is_final (c ∷ d ∷ []) x h l
digit_closes (b ∷ c ∷ d ∷ e ∷ a) x h l =
    choice_closes (begins paste_mark (b ∷ c ∷ d ∷ e ∷ [])) ends_paste (λ bs. ends_numbered (c ∷ d ∷ e ∷ bs)) paste_closes (further_closes c d e) a x h l

parameters_close : (b : ℕ) → Closes (λ bs. ends_digit (b ∷ bs))
parameters_close b a x h l = digit_closes (b ∷ a) x h l

csi_closes : Closes ends_csi
csi_closes [] x h l = absurd (false≢true h)
csi_closes (b ∷ a) x h l =
    choice_closes (b == 91) is_one _ one_closes
    (choice_closes (b == 77) is_three _ three_closes
    (choice_closes (b == 60) ends_mouse _ (ends_close is_mouse_end)
    (choice_closes (b == 63) ends_private _ private_closes
    (choice_closes (is_digit b) (λ bs. ends_digit (b ∷ bs)) is_nil (parameters_close b) nil_closes)))) a x h l

escape_closes : Closes ends_escape
escape_closes [] x h l = absurd (false≢true h)
escape_closes (b ∷ a) x h l =
    choice_closes (b == 79) is_one (λ bs. cond (b == 91) (ends_csi bs) (cond (b == 27) (is_nil bs) (is_character (b ∷ bs)))) one_closes
    (choice_closes (b == 91) ends_csi (λ bs. cond (b == 27) (is_nil bs) (is_character (b ∷ bs))) csi_closes
    (choice_closes (b == 27) is_nil (λ bs. is_character (b ∷ bs)) nil_closes (typed_closes b))) a x h l

-- the first byte isn't an escape with a pause
unpaused_false : (m : Marked) (ms : List Marked) → ¬ BeginsPaused (m ∷ ms) → (m.byte == 27) && m.pause ≡ false
unpaused_false m ms h = elim (eqb_tells m.byte 27) [
  | inl w ↦ rw w.0 (elim (cases_Bool m.pause) [ inl p ↦ absurd (h (w.1, p)) | inr p ↦ p ])
  | inr w ↦ rw w.0
]

no_bytes : (ms : List Marked) → is_nil (bytes_of ms) ≡ true → ms ≡ []
no_bytes [] h = refl
no_bytes (m ∷ ms) h = absurd (false≢true h)

and_true : (m : Marked) → m.byte ≡ 27 → m.pause ≡ true → (m.byte == 27) && m.pause ≡ true
and_true m e f = rw (e, f)

pub mark_is : (m : Marked) (b : ℕ) (p : Bool) → m.byte ≡ b → m.pause ≡ p → m ≡ record { byte = b; raw = m.raw; pause = p }
mark_is m b p e f = rw (← e, ← f)

pub lone : (m : Marked) (ms : List Marked) → ((m.byte == 27) ≡ true) × (m.pause ≡ true) → ms ≡ [] → m ∷ ms ≡ record { byte = 27; raw = m.raw; pause = true } ∷ []
lone m ms h e =
    let is : m.byte ≡ 27 = grind (arith, nat_tests, h.0) in
    let same = mark_is m 27 true is h.1 in
    cc

pub whole_true : (ms : List Marked) → Whole ms → is_whole ms ≡ true
whole_true ms (key raw e) = rw e
whole_true [] (sequence shape unpaused) = shape_true [] shape
whole_true (m ∷ ms) (sequence shape unpaused) = rw (unpaused_false m ms unpaused) (shape_true _ shape)

pub true_whole : (ms : List Marked) → is_whole ms ≡ true → Whole ms
true_whole [] h = absurd (false≢true h)
true_whole (m ∷ ms) h =
    elim (chosen ((m.byte == 27) && m.pause) (is_nil (bytes_of ms)) (is_shape (m.byte ∷ bytes_of ms)) true h) [
      | inl w ↦ key m.raw (lone m ms (and_parts (m.byte == 27) m.pause w.0) (no_bytes ms w.1))
      | inr w ↦ sequence (true_shape _ w.1) (λ (p : (m.byte ≡ 27) × (m.pause ≡ true)). false≢true (sym w.0 ∙ and_true m p.0 p.1))
    ]

-- whether a list is whole is known
pub whole_or_not : (ms : List Marked) → Whole ms ⊎ (Whole ms → ⊥)
whole_or_not ms = elim (cases_Bool (is_whole ms)) [
  | inl t ↦ inl (true_whole ms t)
  | inr f ↦ inr (λ w. false≢true (sym f ∙ whole_true ms w))
]

pub nil_not_whole : Whole [] → ⊥
nil_not_whole w = false≢true (whole_true [] w)

pub bytes_of-append : (a x : List Marked) → bytes_of (a ++ x) ≡ bytes_of a ++ bytes_of x
bytes_of-append [] x = refl
bytes_of-append (m ∷ a) x = ap (λ (ys : List ℕ). m.byte ∷ ys) (bytes_of-append a x)

pub bytes_of_nil : (x : List Marked) → bytes_of x ≡ [] → x ≡ []
bytes_of_nil [] h = refl
bytes_of_nil (m ∷ x) h = absurd cc

-- no whole sequence begins another
pub whole_closes : IsPrefixFree Whole
whole_closes [] more w v = absurd (nil_not_whole w)
whole_closes (m ∷ a) more w v = bytes_of_nil more (
    choice_closes ((m.byte == 27) && m.pause) is_nil (λ bs. is_shape (m.byte ∷ bs)) nil_closes
    (choice_closes (m.byte == 27) ends_escape (λ bs. is_character (m.byte ∷ bs)) escape_closes (typed_closes m.byte))
    (bytes_of a) (bytes_of more) (whole_true (m ∷ a) w) (rw bytes_of-append at (whole_true (m ∷ (a ++ more)) v)))
