use Rattle.std.proofs.Common.{◌≡◌, ◌∙◌, List, refl, ap, subst, arith, true}
use Rattle.std.specs.Prelude.{OnOk}
use Rattle.std.specs.Str.{chars}
use Rattle.line_editor.specs.Shown.{pasted_part}
use Rattle.line_editor.specs.Splits.{Split}
use Rattle.line_editor.proofs.Loading.{line_loaded, room_for}
use Rattle.line_editor.proofs.Showing.{shown-nothing}
use Rattle.line_editor.proofs.history.add_line.Goals as goal

pub of_parts-requires-clause-after : goal.of_parts-requires-clause-after
of_parts-requires-clause-after g c = shown-nothing true _ refl

pub returns : goal.returns
returns g c =
    let P : List Split → Type 0 = λ t. OnOk c.add.result (c.add.new.self ≡ t) in
    let all = pasted_part c.args.limits.multiline (chars c.args.line.now) in
    let room = room_for c.args.limits all (omega (arith, c.pasted_len-len.ensures, c.if-len-eq0.false)) (omega (arith, c.pasted_len-len.ensures, c.if-limits-len.false)) in
    subst P (line_loaded c.args.limits c.as_str.result.now all _ c.args.history.now (ap chars c.as_str.ensures.value ∙ c.in_ok-text.ensures.text) c.in_ok-line.ensures room) c.add.ensures.ok
