use Rattle.std.proofs.Common.{◌⊎◌, ◌++◌, OnOk, encode_utf8, ap, subst}
use Rattle.std.specs.Fmt.{WritesInCalls}
use Rattle.screen.proofs.Written.{characters_text}
use Rattle.screen.proofs.strokes.write_marked.Goals as goal

-- A character and its marks are written one after another.
pub returns : goal.returns
returns g c =
    subst (λ t. OnOk c.write_ansi.result (WritesInCalls g.W.Write.write_str_gives c.args.f.now t c.write_ansi.new.f ⊎ g.W.Write.write_str_gives c.args.f.now t c.write_ansi.new.f))
    (ap (λ l. encode_utf8 c.args.symbol ++ l) (characters_text c.args.marks)) c.write_ansi.ensures.ok
