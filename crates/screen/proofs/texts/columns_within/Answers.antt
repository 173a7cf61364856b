use Rattle.std.proofs.Common.{◌≡◌, ◌+◌, ◌-◌, ◌<◌, ◌≤◌, [], ap, ◌∙◌, arith, rules}
use Rattle.std.specs.Str.{chars}
use Rattle.screen.specs.Parts.{text_parts}
use Rattle.screen.specs.Texts.{part_columns}
use Rattle.screen.proofs.Alignments.{counted_all, counted_front, counted_more, counted_none}
use Rattle.screen.proofs.Prints.{part_width}
use Rattle.screen.proofs.texts.columns_within.Goals as goal

pub loop-part-init : goal.loop-part-init
loop-part-init c = record { utf8 = search rules; counted = counted_none (text_parts (chars c.args.text.now)) c.args.room }

pub loop-part-preserved : goal.loop-part-preserved
loop-part-preserved c =
    let first = c.in-Some.ensures.0 in
    let width : c.width-taken.result ≡ part_columns first.front = c.width-taken.ensures.value ∙ part_width c.in-Some.part first.front first.held in
    let more : c.loop-part.used + c.width-taken.result ≡ c.loop-part.used + part_columns first.front = ap (λ k. c.loop-part.used + k) width in
    let fits : part_columns first.front ≤ c.args.room - c.loop-part.used = omega (arith, width, c.if-taken-room.false) in
    record {
      utf8 = search rules;
      counted = counted_more (text_parts (chars c.args.text.now)) (text_parts (chars c.loop-part.rest.now)) (text_parts (chars c.in-Some.back.now)) first.front c.args.room c.loop-part.used _ first.first more fits c.loop-part.invariant.counted;
    }

pub returns-then-taken-room : goal.returns-then-taken-room
returns-then-taken-room c =
    let first = c.in-Some.ensures.0 in
    let width : c.width-taken.result ≡ part_columns first.front = c.width-taken.ensures.value ∙ part_width c.in-Some.part first.front first.held in
    let full : c.args.room - c.loop-part.used < part_columns first.front = omega (arith, width, c.if-taken-room.true) in
    record {
      value = counted_front (text_parts (chars c.args.text.now)) (text_parts (chars c.loop-part.rest.now)) (text_parts (chars c.in-Some.back.now)) first.front c.args.room c.loop-part.used first.first full c.loop-part.invariant.counted;
      few = c.loop-part.invariant.counted.fits;
    }

pub returns : goal.returns
returns c =
    let end : chars c.loop-part.rest.now ≡ [] = search rules in record {
      value = counted_all (text_parts (chars c.args.text.now)) (text_parts (chars c.loop-part.rest.now)) c.args.room c.loop-part.used (ap text_parts end) c.loop-part.invariant.counted;
      few = c.loop-part.invariant.counted.fits;
    }
