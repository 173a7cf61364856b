use Rattle.std.proofs.Common.{rules, ◌+◌, ◌-◌, ◌++◌, ◌∙◌, ℕ, List, ap, sym, subst, take, length, arith}
use Rattle.std.proofs.lemmas.List.{take_rest}
use Rattle.std.proofs.lemmas.Slice.{take-put_mid}
use Rattle.crossterm_c.specs.Text.{TextBeginsWith}
use Rattle.crossterm_c.proofs.TextLaws.{begins_on}
use Rattle.crossterm_c.proofs.text.write_text.Goals as goal

pub loop-place-preserved : goal.loop-place-preserved
loop-place-preserved c =
    let front = c.front_of-read.result.0.now in
    let same = c.copy_from_slice.ensures.after in
    let written = ap (λ (xs : List ℕ). length xs) same in
    let longer = take-put_mid c.loop-place.written (c.loop-place.written + length front - c.loop-place.written) c.loop-place.text c.copy_from_slice.new.self (c.loop-place.written + length front)
    (omega (arith, written)) c.loop-place.invariant.fits ∙ ap (λ (xs : List ℕ). take c.loop-place.written c.loop-place.text ++ xs) same in
    record {
      within = omega (arith, c.front_of-read.ensures.within);
      fits = search rules;
      text = subst (λ (xs : List ℕ). TextBeginsWith c.args.bytes.now xs (c.loop-place.place + c.front_of-read.result.1)) (sym longer)
          (begins_on c.args.bytes.now (take c.loop-place.written c.loop-place.text) front c.loop-place.place c.front_of-read.result.1 c.loop-place.invariant.text
          (subst (λ (xs : List ℕ). TextBeginsWith xs front c.front_of-read.result.1) (take_rest c.args.bytes.now c.loop-place.place) c.front_of-read.ensures.text));
    }
