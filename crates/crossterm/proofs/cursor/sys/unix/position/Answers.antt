use Rattle.std.proofs.Common.{rules, ◌≡◌, None, refl, ◌∙◌}
use Rattle.crossterm.specs.Asking.{not_off, not_on, on_and_off}
use Rattle.crossterm.proofs.cursor.sys.unix.position.Goals as goal

pub returns-in-Err-clause-query : goal.returns-in-Err-clause-query
returns-in-Err-clause-query g c =
    let cooked : c.args.term.now.prior ≡ None = search rules in
    not_on c.in-Err.error cooked (c.in-Err.ensures.asked cooked) (refl, refl) refl (search rules)

pub returns-in-Ok-disable_raw_mode-clause-query : goal.returns-in-Ok-disable_raw_mode-clause-query
returns-in-Ok-disable_raw_mode-clause-query g c =
    let cooked : c.args.term.now.prior ≡ None = search rules in
    on_and_off c.enable_raw_mode.new.self cooked (c.in-Ok.ensures.asked cooked) c.position_raw-place.ensures.query (search rules) (search rules)

pub returns-in-Err-disable_raw_mode-clause-query : goal.returns-in-Err-disable_raw_mode-clause-query
returns-in-Err-disable_raw_mode-clause-query g c =
    let cooked : c.args.term.now.prior ≡ None = search rules in
    not_off c.in-Err-disable_raw_mode.error c.enable_raw_mode.new.self c.position_raw-place.result cooked (c.in-Ok.ensures.asked cooked) c.position_raw-place.ensures.query
    (search rules) (c.in-Err-disable_raw_mode.ensures.refused ∙ c.in-Ok.ensures.ok cooked) refl (search rules)
