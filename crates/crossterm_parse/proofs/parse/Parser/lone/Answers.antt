use Rattle.std.proofs.Common.{rules, ◌≡◌, ◌++◌, [], ◌∷◌, sym, subst, take}
use Rattle.crossterm_types.specs.Seen.{Seen}
use Rattle.crossterm_parse.specs.Marked.{marked}
use Rattle.crossterm_parse.specs.View.{AdvancesOver}
use Rattle.crossterm_parse.specs.declared.state.State.TheVariants.{Ground}
use Rattle.crossterm_parse.proofs.RunLaws.{front_on}
use Rattle.crossterm_parse.proofs.parse.Parser.lone.Goals as goal

pub returns-clause-advances : goal.returns-clause-advances
returns-clause-advances g c more =
    let old = c.args.self.now in
    let piece = c.args.piece.now in
    let raw = c.args.raw in
    let n = c.in_ok-meaning.count in
    let ground : old.state ≡ Ground = search rules in
    subst (λ (e : Seen). AdvancesOver old (record old { waiting = old.waiting ++ e ∷ [] }) (take n (marked piece more raw))) (sym c.from.ensures)
    (front_on old piece c.in_ok-meaning.meaning raw more n ground c.in_ok-meaning.ensures.within c.in_ok-meaning.ensures.puts)
