use Rattle.std.proofs.Common.{◌≡◌, ◌+◌, ◌-◌, ◌<◌, ◌≤◌, ◌++◌, drop, length, map, take, ap, ◌∙◌, arith}
use Rattle.std.proofs.lemmas.List.{length-map, length-take-le}
use Rattle.screen.specs.inside.Ascii.{bare_cell}
use Rattle.screen.proofs.Ascii.{many_over}
use Rattle.screen.proofs.texts.write_ascii.Goals as goal

pub returns-clause-cells : goal.returns-clause-cells
returns-clause-cells c =
    let cells = c.args.cells.now in
    let at = c.args.at in
    let text = c.args.text.now in
    let n = c.bare_ascii-count.result in
    let second = c.begin_at.new.cells in
    let of = bare_cell c.args.style in
    let size : length (take n text) ≡ n = length-take-le n text c.bare_ascii-count.ensures.bare.inside in
    let some : 0 < n = omega (arith, c.if-count-eq0.false) in
    let room : at + n ≤ length cells = omega (arith, c.requires.room, c.bare_ascii-count.ensures.few) in
    let all : n - 0 ≡ n = omega arith in
    let letters : take (n - 0) c.as_bytes.result.now ≡ take n text = ap (λ m. take m c.as_bytes.result.now) all ∙ ap (take n) c.as_bytes.ensures.value in
    c.set_ascii.ensures ∙ ap (λ l. take at second ++ (map of l ++ drop (at + length l) second)) letters
    ∙ ap (λ k. take at second ++ (map of (take n text) ++ drop (at + k) second)) size
    ∙ many_over cells c.end_before.new.cells second (map of (take n text)) at n (length-map (take n text) of ∙ size) some room c.end_before.ensures c.begin_at.ensures
