use Rattle.std.proofs.Common.{rules, ◌≡◌, ◌≤◌, length, arith, refl, sym}
use Rattle.crossterm_parse.specs.declared.meaning.Meaning.TheVariants.{Key}
use Rattle.crossterm_parse.specs.declared.state.State.TheVariants.{Ground}
use Rattle.crossterm_parse.proofs.RunLaws.{control_on, front_on}
use Rattle.crossterm_parse.proofs.parse.Parser.lone_key.Goals as goal

pub returns-in_default-clause-advances : goal.returns-in_default-clause-advances
returns-in_default-clause-advances g c more =
    let piece = c.args.piece.now in
    let raw = c.args.raw in
    let key = Key c.byte_key.result in
    let ground : c.args.self.now.state ≡ Ground = search rules in
    let some : 1 ≤ length piece = omega arith in
    front_on c.args.self.now piece key raw more 1 ground some (λ w. control_on raw Ground piece key w refl (search rules) (search rules) (sym c.byte_key.ensures))
