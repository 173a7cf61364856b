use Rattle.std.proofs.Common.{rules, ◌≡◌, ◌+◌, ◌==◌, ◌&&◌, not, true, inl, inr, arith, refl, sym, ap, ◌∙◌, length}
use Rattle.std.proofs.lemmas.Bool.{false≢true}
use Rattle.crossterm_parse.specs.States.{is_paste}
use Rattle.crossterm_parse.specs.Putting.{StaysAsItWas}
use Rattle.crossterm_parse.specs.declared.state.State.{State}
use Rattle.crossterm_parse.proofs.ViewLaws.{advance_more, advance_none}
use Rattle.crossterm_parse.proofs.RunLaws.{advance_rest, advance_still}
use Rattle.crossterm_parse.proofs.parse.Parser.take_paste.Goals as goal

pub loop-place-init : goal.loop-place-init
loop-place-init g c = record {
  within = omega arith;
  divided = advance_none c.args.self.now;
  room = omega arith;
  steps = omega arith;
  counted = omega arith;
  over = λ outside. absurd (false≢true (sym outside ∙ c.requires));
}

pub returns-in-Err : goal.returns-in-Err
returns-in-Err g c =
    let ran = advance_rest c.keep_all-place.result c.args.self.now c.loop-place.self c.keep_all-place.new.self c.args.piece.now c.args.more c.args.raw c.loop-place.place
    (omega (arith, c.keep_all-place.ensures.within)) (c.keep_all-place.ensures.puts c.args.raw) c.loop-place.invariant.divided in
    let stays : StaysAsItWas c.keep_all-place.new.self c.put_in_paste.new.self = search rules in
    let pasting : is_paste c.loop-place.self.state ≡ true = search rules in
    let still : is_paste c.put_in_paste.new.self.state ≡ true = ap (λ (s : State). is_paste s) (stays.1 ∙ c.keep_all-place.ensures.state) ∙ pasting in
    record {
      within = omega arith;
      divided = advance_still c.args.self.now c.keep_all-place.new.self c.put_in_paste.new.self _ (stays.1, stays.2, stays.0) ran;
      room = omega (arith, stays.3, c.keep_all-place.ensures.room, c.loop-place.invariant.room);
      counted = omega (arith, c.put_in_paste.ensures.counted, c.keep_all-place.ensures.steps, c.loop-place.invariant.counted);
      steps = λ whole. elim whole [ inl all ↦ absurd (omega (arith, all)) | inr turns ↦ absurd (turns (still ∙ sym c.requires)) ];
      turns = λ turns. absurd (turns (still ∙ sym c.requires));
      full = λ less outside. absurd (false≢true (sym outside ∙ c.requires));
      ends = λ less outside. absurd (false≢true (sym outside ∙ c.requires));
    }

pub loop-place-preserved : goal.loop-place-preserved
loop-place-preserved g c =
    let ran = advance_rest c.keep_all-place.result c.args.self.now c.loop-place.self c.keep_all-place.new.self c.args.piece.now c.args.more c.args.raw c.loop-place.place
    (omega (arith, c.keep_all-place.ensures.within)) (c.keep_all-place.ensures.puts c.args.raw) c.loop-place.invariant.divided in
    let puts = c.put_in_paste.ensures.put (search rules) c.args.raw (not c.args.more && (c.loop-place.place + c.keep_all-place.result + 1 == length c.args.piece.now)) in
    record {
      within = omega arith;
      divided = advance_more c.args.self.now c.keep_all-place.new.self c.put_in_paste.new.self c.args.piece.now c.args.more c.args.raw _ _ _ (omega arith) refl refl
          puts.0 puts.1 puts.2 ran;
      room = omega (arith, c.put_in_paste.ensures.room, c.keep_all-place.ensures.room, c.loop-place.invariant.room);
      steps = search rules;
      counted = omega (arith, c.put_in_paste.ensures.counted, c.keep_all-place.ensures.steps, c.loop-place.invariant.counted);
      over = λ outside. omega arith;
    }

pub returns-then-place-piece : goal.returns-then-place-piece
returns-then-place-piece g c =
    let ran = advance_rest c.keep_all-place.result c.args.self.now c.loop-place.self c.keep_all-place.new.self c.args.piece.now c.args.more c.args.raw c.loop-place.place
    (omega (arith, c.keep_all-place.ensures.within)) (c.keep_all-place.ensures.puts c.args.raw) c.loop-place.invariant.divided in
    let all : c.loop-place.place + c.keep_all-place.result ≡ length c.args.piece.now = search rules in
    record {
      within = omega (arith, all);
      divided = ran;
      room = omega (arith, c.keep_all-place.ensures.room, c.loop-place.invariant.room);
      counted = omega (arith, c.keep_all-place.ensures.steps, c.loop-place.invariant.counted);
      steps = λ whole. omega (arith, c.keep_all-place.ensures.steps, c.keep_all-place.ensures.text, c.loop-place.invariant.steps);
      turns = λ turns. omega (arith, all);
      full = λ less. absurd (omega (arith, less, all));
      ends = λ less. absurd (omega (arith, less, all));
    }
