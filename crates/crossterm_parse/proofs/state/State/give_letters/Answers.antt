use Rattle.std.proofs.Common.{[], map, subst, take}
use Rattle.std.specs.List.{AllByRecursion}
use Rattle.crossterm_parse.specs.Meaning.{typed}
use Rattle.crossterm_parse.specs.Bytes.{IsLetter}
use Rattle.crossterm_parse.proofs.RunLaws.{take_less}
use Rattle.crossterm_parse.proofs.TakingLaws.{all_letters}
use Rattle.crossterm_parse.proofs.state.State.give_letters.Goals as goal

pub returns-clause-puts : goal.returns-clause-puts
returns-clause-puts g c =
    let bytes = c.args.bytes.now in
    let letters = take c.put_letters-count.result bytes in
    let all = subst (AllByRecursion IsLetter) (take_less c.put_letters-count.result c.min-most.result bytes c.put_letters-count.ensures.within) c.put_letters-count.ensures.letters in (
      map typed letters,
      g.met.O.Outlet.given_on c.args.outlet.now c.typed_room.new.outlet c.give_letters.new.self [] (map typed letters) c.typed_room.ensures.given c.give_letters.ensures.given,
      λ w. all_letters c.args.self.now letters w c.requires all,
    )
