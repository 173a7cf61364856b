use Rattle.std.proofs.Common.{◌≡◌, ◌≤◌, ◌+◌, ◌*◌, ◌-◌, ◌++◌, ◌∷◌, [], ℕ, List, arith, refl, sym, ap, ◌∙◌, subst, take, true, get_or, rules}
use Rattle.std.proofs.lemmas.List.{take_more}
use Rattle.std.proofs.lemmas.Bool.Decides.{nat_tests}
use Rattle.crossterm_parse.specs.Bytes.{is_digit}
use Rattle.crossterm_parse.specs.inside.InFront.{last_through, number_through}
use Rattle.crossterm_parse.specs.declared.number.Number.TheVariants.{Empty, Value}
use Rattle.crossterm_parse.proofs.WholeLaws.{Digits, digits_more, last_more, value_more}
use Rattle.crossterm_parse.proofs.whole.number_in.Goals as goal

pub loop-i-init : goal.loop-i-init
loop-i-init c = record { digits = tt; none = λ e. refl; some = λ h. absurd (omega (arith, h)); last = refl; small = omega arith }

pub loop-i-preserved : goal.loop-i-preserved
loop-i-preserved c =
    let i = c.loop-i.i in
    let bytes = c.args.bytes.now in
    let v = c.loop-i.value in
    let b = get_or bytes i 0 in
    let before = take i bytes in
    let more : take (i + 1) bytes ≡ before ++ b ∷ [] = take_more bytes i 0 c.loop-i-test.true in
    let digit : is_digit b ≡ true = search rules in
    let high : b ≤ 57 = grind (arith, nat_tests) in
    let same : v * 10 + (b - 48) ≡ v * 10 + c.from.result = ap (λ (d : ℕ). v * 10 + d) (sym c.from.ensures) in
    record {
      digits = subst Digits (sym more) (digits_more before b c.loop-i.invariant.digits digit);
      none = λ none. absurd (omega (arith, none));
      some = λ some. ap (λ (bs : List ℕ). number_through Empty bs) more
          ∙ value_more before b i v digit c.if-value-lt-SIX_DIGITS.true (λ none. (ap (λ (n : ℕ). take n bytes) none, c.loop-i.invariant.none none)) c.loop-i.invariant.some
          ∙ ap (λ (n : ℕ). Value n) same;
      last = ap (λ (bs : List ℕ). last_through 0 bs) more ∙ last_more before 0 b;
      small = omega (arith, high, c.from.ensures, c.if-value-lt-SIX_DIGITS.true);
    }

pub returns-then-i-gt0 : goal.returns-then-i-gt0
returns-then-i-gt0 c = record {
  within = omega arith;
  text = take c.loop-i.i c.args.bytes.now;
  is = take_more c.args.bytes.now c.loop-i.i 0 c.loop-i-test.true;
  digits = c.loop-i.invariant.digits;
  value = c.loop-i.invariant.some (omega arith);
  last = c.loop-i.invariant.last;
}
