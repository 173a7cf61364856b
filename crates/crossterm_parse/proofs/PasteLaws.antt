-- The text of a paste and its first end.
use Rattle.std.proofs.Common.{◌≡◌, ◌==◌, ℕ, Bool, true, false, cond, ◌&&◌, List, [], ◌∷◌, ◌++◌, refl, ap, sym, ◌∙◌, arith, length, drop, inl, inr}
use Rattle.std.proofs.lemmas.Bool.{false≢true, cases_Bool, eq-eqb, eqb-true, and_parts}
use Rattle.std.proofs.lemmas.Bool.Decides.{nat_tests}
use Rattle.std.proofs.lemmas.List.{length-append, nil_from_length}
use Rattle.std.specs.List.{AllByRecursion}
use Rattle.crossterm_parse.specs.Grammar.{begins, EndsNumbered, paste_mark, paste_start, paste_end, EndsFirst}
use Rattle.crossterm_parse.specs.Recognizer.{is_nil, ends_paste}
use Rattle.crossterm_parse.proofs.EndLaws.{chosen, true_nil}

begins_append : (p rest : List ℕ) → begins p (p ++ rest) ≡ true
begins_append [] rest = refl
begins_append (b ∷ p) rest = rw (begins_append p rest) (eq-eqb b b refl)

pub and_false : (t : Bool) → t && false ≡ false
and_false true = refl
and_false false = refl

pub begins_is : (p bs : List ℕ) → begins p bs ≡ true → bs ≡ p ++ drop (length p) bs
begins_is [] bs h = refl
begins_is (q ∷ p) [] h = absurd (false≢true h)
begins_is (q ∷ p) (b ∷ bs) h =
    let w = and_parts (begins p bs) (b == q) h in
    let head : b ≡ q = eqb-true b q w.1 in
    let tail : bs ≡ p ++ drop (length p) bs = begins_is p bs w.0 in
    cc

pub begins_from : (p bs rest : List ℕ) → bs ≡ p ++ rest → begins p bs ≡ true
begins_from p bs rest e = rw e (begins_append p rest)

-- what doesn't go on with a 2 after `ESC [` opens no paste
pub third_apart : (b : ℕ) (bs : List ℕ) → (b == 50) ≡ false → begins paste_start (27 ∷ 91 ∷ b ∷ bs) ≡ false
third_apart b bs h = rw (h, and_false (begins (48 ∷ 48 ∷ 126 ∷ []) bs))

and_true : (t : Bool) → t && true ≡ t
and_true true = refl
and_true false = refl

pub begins_start : (text : List ℕ) → begins paste_start (27 ∷ 91 ∷ text) ≡ begins paste_mark text
begins_start text = and_true (begins paste_mark text && true) ∙ and_true (begins paste_mark text)

nil_true : (bs : List ℕ) → bs ≡ [] → is_nil bs ≡ true
nil_true bs e = rw e

-- a paste's text and the first end after it
pub paste_true : (text : List ℕ) → EndsFirst text → ends_paste (text ++ paste_end) ≡ true
paste_true [] first = refl
paste_true (c ∷ text) first = go (begins paste_end (c ∷ (text ++ paste_end))) refl (paste_true text (λ front back e. first (c ∷ front) back (ap (λ (ys : List ℕ). c ∷ ys) e))) where
  go : (t : Bool) → begins paste_end (c ∷ (text ++ paste_end)) ≡ t → ends_paste (text ++ paste_end) ≡ true
      → cond t (is_nil (drop 5 (text ++ paste_end))) (ends_paste (text ++ paste_end)) ≡ true
  go true b later = nil_true (drop 5 (text ++ paste_end)) (first [] (drop 5 (text ++ paste_end)) (begins_is paste_end (c ∷ (text ++ paste_end)) b))
  go false b later = later

-- a text and its first end
pub record Pasted (bs : List ℕ) : Type 0 where
  pub text : List ℕ
  pub is : bs ≡ text ++ paste_end
  pub first : EndsFirst text

one_end_alone : EndsFirst []
one_end_alone front back e = nil_from_length back (omega (arith, ap length e, length-append front (paste_end ++ back)))

pub true_paste : (bs : List ℕ) → ends_paste bs ≡ true → Pasted bs
true_paste [] h = absurd (false≢true h)
true_paste (b ∷ bs) h = elim (chosen (begins paste_end (b ∷ bs)) (is_nil (drop 5 bs)) (ends_paste bs) true h) [
  | inl w ↦ record {
    text = [];
    is = begins_is paste_end (b ∷ bs) w.0 ∙ ap (λ (ys : List ℕ). paste_end ++ ys) (true_nil (drop 5 bs) w.1);
    first = one_end_alone;
  }
  | inr w ↦ later b bs w.0 (true_paste bs w.1)
] where
  first_later : (b : ℕ) (bs text : List ℕ) → begins paste_end (b ∷ bs) ≡ false → bs ≡ text ++ paste_end → EndsFirst text → EndsFirst (b ∷ text)
  first_later b bs text n is first [] back e = absurd (false≢true (sym n ∙ begins_from paste_end (b ∷ bs) back (ap (λ (ys : List ℕ). b ∷ ys) is ∙ e)))
  first_later b bs text n is first (c ∷ front) back e = first front back cc

  later : (b : ℕ) (bs : List ℕ) → begins paste_end (b ∷ bs) ≡ false → Pasted bs → Pasted (b ∷ bs)
  later b bs n p = record {
    text = b ∷ p.text;
    is = ap (λ (ys : List ℕ). b ∷ ys) p.is;
    first = first_later b bs p.text n p.is p.first;
  }

final_apart : (b : ℕ) → ¬ EndsNumbered b → (b == 126) ≡ false
final_apart b h = grind (arith, nat_tests)

-- a numbered sequence that opens no paste
pub not_mark : (d f : ℕ) (w : List ℕ) → AllByRecursion (λ b. ¬ EndsNumbered b) w → (d ∷ (w ++ f ∷ []) ≡ paste_mark → ⊥) → begins paste_mark (d ∷ (w ++ f ∷ [])) ≡ false
not_mark d f [] nf ne = refl
not_mark d f (c ∷ []) nf ne = refl
not_mark d f (c ∷ e ∷ []) nf ne = elim (cases_Bool (begins paste_mark (d ∷ c ∷ e ∷ f ∷ []))) [
  | inl t ↦ absurd (ne (begins_is paste_mark (d ∷ c ∷ e ∷ f ∷ []) t))
  | inr t ↦ t
]
not_mark d f (c ∷ e ∷ g ∷ w) nf ne = rw (final_apart g nf.1.1.0)
