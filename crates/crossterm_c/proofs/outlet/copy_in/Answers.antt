use Rattle.std.proofs.Common.{rules, ◌++◌, ◌-◌, ◌∙◌, ℕ, List, ap, take, length, arith}
use Rattle.std.proofs.lemmas.Slice.{drop-put_mid, take-put_mid}
use Rattle.crossterm_c.proofs.outlet.copy_in.Goals as goal

pub returns-then-end-slice : goal.returns-then-end-slice
returns-then-end-slice c =
    let same = c.copy_from_slice.ensures.after in
    let size = ap (λ (xs : List ℕ). length xs) same in
    record {
      counted = c.requires;
      room = search rules;
      front = λ l. take-put_mid c.args.place (c.args.end - c.args.place) c.args.slice.now c.copy_from_slice.new.self c.args.end (omega (arith, size)) (omega arith)
          ∙ ap (λ (xs : List ℕ). take c.args.place c.args.slice.now ++ xs) same;
      back = λ l. drop-put_mid c.args.place (c.args.end - c.args.place) c.args.slice.now c.copy_from_slice.new.self c.args.end (omega arith) (omega arith) (omega (arith, size));
    }
