use Rattle.std.proofs.Common.{rules, ◌≡◌, ◌+◌, ◌==◌, ◌&&◌, not, arith, refl, length, get_or}
use Rattle.crossterm_parse.specs.States.{is_paste}
use Rattle.crossterm_parse.specs.Marked.{marked}
use Rattle.crossterm_parse.proofs.ViewLaws.{advance_none, byte_quiet, byte_free, byte_opens, byte_rests, takes_steps}
use Rattle.crossterm_parse.proofs.TakingLaws.{advance_on, rest_size, stopped}
use Rattle.crossterm_parse.proofs.parse.Parser.advance.Goals as goal
use Rattle.crossterm_parse.proofs.parse.Parser.advance.Goals.{else-place-piece-via-then-place-piece+else-is_paste-pasting, else-place-piece-via-else-place-piece}

pub loop-place-init : goal.loop-place-init
loop-place-init g c = record { within = omega arith; divided = advance_none c.args.self.now; room = omega arith; steps = omega arith; counted = omega arith }

pub returns-then-is_paste-pasting-clause-divided : goal.returns-then-is_paste-pasting-clause-divided
returns-then-is_paste-pasting-clause-divided g c =
    advance_on c.args.self.now c.loop-place.self c.take_part-place.new.self c.args.piece.now c.args.more c.args.raw c.loop-place.place c.take_part-place.result
    c.loop-place.invariant.divided c.take_part-place.ensures.divided

pub returns-then-is_paste-pasting-clause-quiet : goal.returns-then-is_paste-pasting-clause-quiet
returns-then-is_paste-pasting-clause-quiet g c quiet =
    let i = c.loop-place.place in
    let n = c.take_part-place.result in
    let piece = c.args.piece.now in
    let new = c.take_part-place.new.self in
    let ran = advance_on c.args.self.now c.loop-place.self new piece c.args.more c.args.raw i n c.loop-place.invariant.divided c.take_part-place.ensures.divided in
    let none = byte_quiet c.args.self.now new piece c.args.more c.args.raw (i + n) (get_or piece (i + n) 0) (not c.args.more && (i + n + 1 == length piece)) (omega arith) refl refl ran quiet in
    let same : is_paste new.state ≡ is_paste c.loop-place.self.state = search rules in
    absurd ((stopped c.loop-place.self new piece c.args.more c.args.raw i n _ _ (omega arith) same none.0 c.take_part-place.ensures).1 new.text none.1)

pub returns-then-is_paste-pasting-clause-reserved : goal.returns-then-is_paste-pasting-clause-reserved
returns-then-is_paste-pasting-clause-reserved g c room free =
    let i = c.loop-place.place in
    let n = c.take_part-place.result in
    let piece = c.args.piece.now in
    let new = c.take_part-place.new.self in
    let ran = advance_on c.args.self.now c.loop-place.self new piece c.args.more c.args.raw i n c.loop-place.invariant.divided c.take_part-place.ensures.divided in
    let outside = byte_free c.args.self.now new (marked piece c.args.more c.args.raw) (i + n) ran free in
    let same : is_paste new.state ≡ is_paste c.loop-place.self.state = search rules in
    let full = (stopped c.loop-place.self new piece c.args.more c.args.raw i n _ _ (omega arith) same outside c.take_part-place.ensures).0 in
    absurd (omega (arith, room, full, c.take_part-place.ensures.room, c.loop-place.invariant.room))

pub returns-then-is_paste-pasting-clause-stops : goal.returns-then-is_paste-pasting-clause-stops
returns-then-is_paste-pasting-clause-stops g c less quiet =
    let i = c.loop-place.place in
    let n = c.take_part-place.result in
    let piece = c.args.piece.now in
    let new = c.take_part-place.new.self in
    let none = byte_rests new piece c.args.more c.args.raw (i + n) (get_or piece (i + n) 0) (not c.args.more && (i + n + 1 == length piece)) less refl refl quiet in
    let same : is_paste new.state ≡ is_paste c.loop-place.self.state = search rules in
    (stopped c.loop-place.self new piece c.args.more c.args.raw i n _ _ less same none.0 c.take_part-place.ensures).1 new.text none.1

pub returns-then-is_paste-pasting-clause-full : goal.returns-then-is_paste-pasting-clause-full
returns-then-is_paste-pasting-clause-full g c less free =
    let new = c.take_part-place.new.self in
    let same : is_paste new.state ≡ is_paste c.loop-place.self.state = search rules in
    (stopped c.loop-place.self new c.args.piece.now c.args.more c.args.raw c.loop-place.place c.take_part-place.result _ _ less same (byte_opens new _ free) c.take_part-place.ensures).0

pub loop-place-preserved : goal.loop-place-preserved
loop-place-preserved g c =
    let i = c.loop-place.place in
    let n = c.take_part-place.result in
    let piece = c.args.piece.now in
    let size = rest_size piece i in
    record {
      within = omega (arith, size, c.take_part-place.ensures.within);
      divided = advance_on c.args.self.now c.loop-place.self c.take_part-place.new.self piece c.args.more c.args.raw i n c.loop-place.invariant.divided c.take_part-place.ensures.divided;
      room = omega (arith, c.take_part-place.ensures.room, c.loop-place.invariant.room);
      steps = omega (arith, c.take_part-place.ensures.steps (search rules), c.loop-place.invariant.steps);
      counted = omega (arith, c.take_part-place.ensures.counted, c.loop-place.invariant.counted);
    }

pub returns-clause-steps : goal.returns-clause-steps
returns-clause-steps g c all = takes_steps c.args.self.now c.loop-place.self c.args.steps.now c.loop-place.steps _ (omega (arith, c.loop-place.invariant.steps))
