use Rattle.std.proofs.Common.{[], ℕ, List, Option, subst}
use Rattle.crossterm_command.specs.Writing.{AppendsFront}
use Rattle.prompt.specs.Frames.{erasure, in_lines}
use Rattle.prompt.proofs.Leaving.{first_part, second_part}
use Rattle.prompt.proofs.Sending.{err_of}
use Rattle.prompt.proofs.frames.print_instead.Goals as goal

pub returns-in_err-erase-clause-err : goal.returns-in_err-erase-clause-err
returns-in_err-erase-clause-err g c =
    err_of c.from_residual.result
    ([], first_part (g.W.Write.contents c.args.out.now) (g.W.Write.contents c.erase.new.out) (erasure c.args.rows.now.block.row) (in_lines []) c.in_err-erase.ensures.err)

pub returns-in_err-write_text-clause-err : goal.returns-in_err-write_text-clause-err
returns-in_err-write_text-clause-err g c =
    let old = g.W.Write.contents c.args.out.now in
    let mid = g.W.Write.contents c.erase.new.out in
    let new = g.W.Write.contents c.write_text.new.writer in
    let of : List ℕ = c.text.ensures.0 in
    err_of c.from_residual-in_err-write_text.result (
      of,
      second_part old mid new (erasure c.args.rows.now.block.row) (in_lines of) c.in_ok-erase.ensures.ok
          (subst (AppendsFront mid new) c.text.ensures.1 c.in_err-write_text.ensures.err),
    )
