use Rattle.std.proofs.Common.{rules, ◌≡◌, ◌+◌, ◌++◌, ◌≤◌, ◌∷◌, [], true, false, cond, length, take, drop, arith, sym, ap, ◌∙◌}
use Rattle.screen.specs.Grids.{takes_two}
use Rattle.screen.specs.Overwriting.{begun, covered, ended, overwritten}
use Rattle.screen.proofs.Halves.{one_set, two_set}
use Rattle.screen.proofs.overwriting.overwrite.Goals as goal

pub returns-then-is_wide : goal.returns-then-is_wide
returns-then-is_wide c =
    let cells = c.args.cells.now in
    let at = c.args.at in
    let cell = c.args.cell in
    let first = c.end_before.new.cells in
    let second = c.begin_at.new.cells in
    let wide : takes_two cell.symbol ≡ true = search rules in
    let two : c.columns.result ≡ 2 = c.columns.ensures.value ∙ ap (λ b. cond b 2 1) wide in
    let begins : second ≡ take (at + 2) first ++ begun (drop (at + 2) first) = c.begin_at.ensures ∙ ap (λ n. take (at + n) first ++ begun (drop (at + n) first)) two in
    let room : at + 2 ≤ length cells = omega (arith, c.requires, c.columns.ensures.value, two) in
    two_set cells first second at cell c.covered.result room c.end_before.ensures begins
    ∙ ap (λ d. ended (take at cells) ++ (cell ∷ d ∷ begun (drop (at + 2) cells))) (c.covered.ensures ∙ ap covered c.packed_style.ensures)
    ∙ sym (ap (λ b. overwritten cells at (cond b (cell ∷ covered cell.style ∷ []) (cell ∷ []))) wide)

pub returns-else-is_wide : goal.returns-else-is_wide
returns-else-is_wide c =
    let cells = c.args.cells.now in
    let at = c.args.at in
    let cell = c.args.cell in
    let first = c.end_before.new.cells in
    let second = c.begin_at.new.cells in
    let wide : takes_two cell.symbol ≡ false = search rules in
    let one : c.columns.result ≡ 1 = c.columns.ensures.value ∙ ap (λ b. cond b 2 1) wide in
    let begins : second ≡ take (at + 1) first ++ begun (drop (at + 1) first) = c.begin_at.ensures ∙ ap (λ n. take (at + n) first ++ begun (drop (at + n) first)) one in
    let room : at + 1 ≤ length cells = omega (arith, c.requires, c.columns.ensures.value, one) in
    one_set cells first second at cell room c.end_before.ensures begins
    ∙ sym (ap (λ b. overwritten cells at (cond b (cell ∷ covered cell.style ∷ []) (cell ∷ []))) wide)
