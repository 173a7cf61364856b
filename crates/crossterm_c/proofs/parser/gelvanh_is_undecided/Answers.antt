use Rattle.std.proofs.Common.{◌∙◌, sym, refl}
use Rattle.std.proofs.lemmas.Bool.{false≢true}
use Rattle.crossterm_parse.proofs.ViewLaws.{ground_only}
use Rattle.crossterm_c.specs.State.{state_at}
use Rattle.crossterm_c.proofs.parser.gelvanh_is_undecided.Goals as goal
use Rattle.crossterm_c.proofs.parser.gelvanh_is_undecided.Goals.{in-Ground, in_default}

pub returns : goal.returns
returns c before represents =
    let only = ground_only (state_at c.args.state.now) before represents in
    elim c.match-matches.branch [
      | in-Ground w ↦ rw w.matches-is (λ h. absurd (false≢true h), λ n. absurd (n (only.0 (sym c.state_of.ensures ∙ w.in-Ground.is))))
      | in_default w ↦ rw w.matches-is (λ h e. w.in_default.not-Ground (c.state_of.ensures ∙ only.1 e), λ n. refl)
    ]
