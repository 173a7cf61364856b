use Rattle.std.proofs.Common.{rules, ◌≡◌, ◌+◌, ◌<◌, true, false, get_or, if◌then◌else◌, length, sym, ap, ◌∙◌}
use Rattle.std.proofs.lemmas.List.{get_or_default, get_or_past}
use Rattle.screen.specs.Cells.{blank, is_covered, is_wide}
use Rattle.screen.proofs.Squares.{second_covered}
use Rattle.screen.proofs.planning.copy_second.Goals.{else-next-after-via-then-next-after+else-is_covered, else-next-after-via-else-next-after}
use Rattle.screen.proofs.planning.copy_second.Goals as goal

pub returns-then-is_covered-clause-value : goal.returns-then-is_covered-clause-value
returns-then-is_covered-clause-value c =
    let at = c.args.at in
    let after = c.args.after.now in
    let d = c.index-after-next.result in
    let there : at + 1 < length after = search rules in
    let here : get_or after (at + 1) d ≡ d = search rules in
    let two : is_covered d ≡ true = search rules in
    let covered : is_covered (get_or after (at + 1) blank) ≡ true = ap is_covered (sym (get_or_default after (at + 1) d blank there) ∙ here) ∙ two in
    let wide : is_wide (get_or after at blank) ≡ true = sym (second_covered after at c.requires.paired c.requires.at) ∙ covered in
    ap (λ b. if b then at + 1 else at) (sym wide)

pub returns-clause-value : goal.returns-clause-value
returns-clause-value c =
    let at = c.args.at in
    let after = c.args.after.now in
    let covered : is_covered (get_or after (at + 1) blank) ≡ false = elim c.else-next-after.branch [
      | else-next-after-via-then-next-after+else-is_covered w ↦
          let d = w.index-after-next.result in
          let there : at + 1 < length after = search rules in
          let here : get_or after (at + 1) d ≡ d = search rules in
          let one : is_covered d ≡ false = search rules in
          ap is_covered (sym (get_or_default after (at + 1) d blank there) ∙ here) ∙ one
      | else-next-after-via-else-next-after w ↦ ap is_covered (get_or_past after (at + 1) blank (search rules))
    ] in
    let narrow : is_wide (get_or after at blank) ≡ false = sym (second_covered after at c.requires.paired c.requires.at) ∙ covered in
    ap (λ b. if b then at + 1 else at) (sym narrow)
