use Rattle.std.proofs.Common.{rules, inl, inr, ◌≡◌, None}
use Rattle.std.proofs.KnownBytes.{Consumes-trans}
use Rattle.crossterm.specs.Sizes.{both, size_in}
use Rattle.crossterm.proofs.terminal.sys.stty.read_size.Goals as goal

pub returns-in-Err-read_line-clause-err : goal.returns-in-Err-read_line-clause-err
returns-in-Err-read_line-clause-err g c =
    let rest = c.in-Err-read_line.ensures.err in
    inr (inl (c.in-Ok.rows.bytes, rest.0, Consumes-trans _ _ _ _ _ c.in-Ok.ensures.ok rest.1, rest.2))

pub returns-in-None-clause-err : goal.returns-in-None-clause-err
returns-in-None-clause-err g c =
    let unsized : both (size_in c.in-Ok-read_line.columns.bytes) (size_in c.in-Ok.rows.bytes) ≡ None = search rules in
    inr (inr (c.in-Ok.rows.bytes, c.in-Ok-read_line.columns.bytes, Consumes-trans _ _ _ _ _ c.in-Ok.ensures.ok c.in-Ok-read_line.ensures.ok, unsized))
