use Rattle.std.proofs.Common.{rules, ◌≡◌, ◌+◌, ◌-◌, arith, refl, ap, ◌∙◌, take, drop, length, true}
use Rattle.crossterm_parse.specs.Numbered.{sgr_by}
use Rattle.crossterm_parse.specs.Transitions.{empty_parameters}
use Rattle.crossterm_parse.specs.Recognizer.{is_mouse_end}
use Rattle.crossterm_parse.specs.inside.InFront.{in_first, in_second, in_third, kept_of}
use Rattle.crossterm_parse.specs.declared.number.Number.TheVariants.{Empty, Value}
use Rattle.crossterm_parse.specs.declared.readings.Readings.{Readings}
use Rattle.crossterm_parse.specs.declared.state.State.TheVariants.{Sgr}
use Rattle.crossterm_parse.proofs.WholeLaws.{ends_after, number_ends_it, number_opens, reads_first, reads_second, reads_third, report_goes_on, report_whole}
use Rattle.crossterm_parse.proofs.RunLaws.{opens_on}
use Rattle.crossterm_parse.proofs.TakingLaws.{rest_size}
use Rattle.crossterm_parse.proofs.whole.report_in.Goals as goal

pub returns : goal.returns
returns c raw =
    let bytes = c.args.bytes.now in
    let code = c.in_ok-code.code in
    let column = c.in_ok-column.column in
    let row = c.in_ok-row.row in
    let place = code.count + column.count in
    let x = code.value in
    let y = column.value in
    let behind = take (length bytes - code.count) (drop code.count bytes) in
    let last = take (length bytes - place) (drop place bytes) in
    let one = number_opens Sgr report_goes_on in_first reads_first bytes code 0 59 (in_second x Empty) c.in_ok-code.ensures (omega arith) (omega arith) (omega arith) refl in
    let two = number_opens Sgr report_goes_on (in_second x) (reads_second x) behind column 59 59 (in_third x y Empty) c.in_ok-column.ensures (omega arith) (omega arith) (omega arith) refl in
    let ends : is_mouse_end row.end ≡ true = search rules in
    ends_after (Sgr empty_parameters) (Sgr (kept_of (in_third x y Empty) 59)) bytes place raw (record { meaning = c.sgr.result; count = row.count }) (omega (arith, c.in_ok-code.ensures.within, c.in_ok-column.ensures.within, rest_size bytes code.count))
    (opens_on (Sgr empty_parameters) (Sgr (kept_of (in_second x Empty) 59)) (Sgr (kept_of (in_third x y Empty) 59)) bytes code.count column.count one two)
    (number_ends_it Sgr report_goes_on (in_third x y) (reads_third x y) last row 59 raw c.sgr.result c.in_ok-row.ensures
    (report_whole (kept_of (in_third x y (Value row.value)) row.digit) row.end c.sgr.result ends (c.sgr.ensures ∙ ap (λ (r : Readings). sgr_by row.end r) c.three.ensures) raw))
