use Rattle.std.proofs.Common.{[], ◌∷◌, ◌++◌}
use Rattle.std.proofs.KnownBytes.{Appends-kept}
use Rattle.crossterm_command.specs.Tokens.{text_of}
use Rattle.screen.specs.Blocks.{to_row}
use Rattle.prompt.specs.Frames.{hint_erasure, list_erasure}
use Rattle.prompt.proofs.Leaving.{all_four, first_part, fourth_part, second_part, whole_part}
use Rattle.prompt.proofs.Sending.{err_of, ok_of}
use Rattle.prompt.proofs.rows.Rows.leave.Goals as goal

pub returns-in_err-erase_hint-clause-err : goal.returns-in_err-erase_hint-clause-err
returns-in_err-erase_hint-clause-err g c =
    let rows = c.args.self.now in
    let back = text_of (to_row rows.block.row rows.last) ++ (0x0D ∷ 0x0A ∷ list_erasure rows.has_candidates) in
    err_of c.from_residual.result (first_part (g.W.Write.contents c.args.out.now) (g.W.Write.contents c.erase_hint.new.out) (hint_erasure rows.has_hint) back c.in_err-erase_hint.ensures.err)

pub returns-in_err-go_to_last-clause-err : goal.returns-in_err-go_to_last-clause-err
returns-in_err-go_to_last-clause-err g c =
    let rows = c.args.self.now in
    let row = text_of (to_row rows.block.row rows.last) in
    let back = 0x0D ∷ 0x0A ∷ list_erasure rows.has_candidates in
    let old = g.W.Write.contents c.args.out.now in
    let mid = g.W.Write.contents c.erase_hint.new.out in
    let new = g.W.Write.contents c.go_to_last.new.out in
    err_of c.from_residual-in_err-go_to_last.result (second_part old mid new (hint_erasure rows.has_hint) (row ++ back) c.in_ok-erase_hint.ensures.ok
    (first_part mid new row back c.in_err-go_to_last.ensures.err))

pub returns-in_err-write_text-clause-err : goal.returns-in_err-write_text-clause-err
returns-in_err-write_text-clause-err g c =
    let rows = c.args.self.now in
    let row = text_of (to_row rows.block.row rows.last) in
    let list = list_erasure rows.has_candidates in
    let old = g.W.Write.contents c.args.out.now in
    let hint = g.W.Write.contents c.erase_hint.new.out in
    let mid = g.W.Write.contents c.go_to_last.new.out in
    let new = g.W.Write.contents c.write_text.new.writer in
    err_of c.from_residual-in_err-write_text.result (second_part old hint new (hint_erasure rows.has_hint) (row ++ (0x0D ∷ 0x0A ∷ list)) c.in_ok-erase_hint.ensures.ok
    (second_part hint mid new row (0x0D ∷ 0x0A ∷ list) c.in_ok-go_to_last.ensures.ok (first_part mid new (0x0D ∷ 0x0A ∷ []) list c.in_err-write_text.ensures.err)))

pub returns-in_err-erase_list-clause-err : goal.returns-in_err-erase_list-clause-err
returns-in_err-erase_list-clause-err g c =
    let rows = c.args.self.now in
    err_of c.from_residual-in_err-erase_list.result (fourth_part (g.W.Write.contents c.args.out.now) (g.W.Write.contents c.erase_hint.new.out) (g.W.Write.contents c.go_to_last.new.out)
    (g.W.Write.contents c.write_text.new.writer) (g.W.Write.contents c.erase_list.new.out) (hint_erasure rows.has_hint) (text_of (to_row rows.block.row rows.last)) (0x0D ∷ 0x0A ∷ [])
    (list_erasure rows.has_candidates) c.in_ok-erase_hint.ensures.ok c.in_ok-go_to_last.ensures.ok c.in_ok-write_text.ensures.ok c.in_err-erase_list.ensures.err)

pub returns-clause-ok : goal.returns-clause-ok
returns-clause-ok g c =
    let rows = c.args.self.now in
    let list = g.W.Write.contents c.erase_list.new.out in
    let new = g.W.Write.contents c.flush.new.self in
    let down = g.W.Write.contents c.write_text.new.writer in
    ok_of c.flush.result (all_four (g.W.Write.contents c.args.out.now) (g.W.Write.contents c.erase_hint.new.out) (g.W.Write.contents c.go_to_last.new.out) down new
    (hint_erasure rows.has_hint) (text_of (to_row rows.block.row rows.last)) (0x0D ∷ 0x0A ∷ []) (list_erasure rows.has_candidates) c.in_ok-erase_hint.ensures.ok c.in_ok-go_to_last.ensures.ok
    c.in_ok-write_text.ensures.ok (Appends-kept down list new (list_erasure rows.has_candidates) c.in_ok-erase_list.ensures.ok c.flush.ensures.bytes))

pub returns-clause-err : goal.returns-clause-err
returns-clause-err g c =
    let rows = c.args.self.now in
    let list = g.W.Write.contents c.erase_list.new.out in
    let new = g.W.Write.contents c.flush.new.self in
    let down = g.W.Write.contents c.write_text.new.writer in
    let text = list_erasure rows.has_candidates in
    err_of c.flush.result (fourth_part (g.W.Write.contents c.args.out.now) (g.W.Write.contents c.erase_hint.new.out) (g.W.Write.contents c.go_to_last.new.out) down new
    (hint_erasure rows.has_hint) (text_of (to_row rows.block.row rows.last)) (0x0D ∷ 0x0A ∷ []) text c.in_ok-erase_hint.ensures.ok c.in_ok-go_to_last.ensures.ok
    c.in_ok-write_text.ensures.ok (whole_part down new text (Appends-kept down list new text c.in_ok-erase_list.ensures.ok c.flush.ensures.bytes)))
