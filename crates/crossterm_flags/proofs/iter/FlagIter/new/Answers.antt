use Rattle.std.proofs.Common.{◌≡◌, ◌∙◌, refl}
use Rattle.crossterm_flags.specs.Bits.{bits_of}
use Rattle.crossterm_flags.proofs.TableFacts.{known_from-is}
use Rattle.crossterm_flags.proofs.iter.FlagIter.new.Goals as goal

pub returns : goal.returns
returns g c =
    let exact = g.met.F.FlagSet.exact_law in
    let named : g.F.Flags.set_of c.all.result ≡ bits_of g.F.Flags.table = c.all.ensures exact ∙ known_from-is 0 g.F.Flags.table in
    let kept : g.F.Flags.set_of c.from_bits_retain-unnamed.result ≡ g.F.Flags.set_of c.args.set = c.from_bits_retain-unnamed.ensures exact ∙ c.bits.ensures exact in
    rw (c.remove.ensures exact, named, kept) refl
