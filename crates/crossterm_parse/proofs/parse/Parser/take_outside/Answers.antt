use Rattle.std.proofs.Common.{rules, ap, subst, take, refl, false, ◌≡◌, ◌∙◌}
use Rattle.crossterm_parse.specs.Marked.{marked}
use Rattle.crossterm_parse.specs.States.{is_paste}
use Rattle.crossterm_parse.specs.View.{AdvancesOver, ParserView, text_or_empty}
use Rattle.crossterm_parse.proofs.TakingLaws.{beside}
use Rattle.crossterm_parse.proofs.parse.Parser.take_outside.Goals as goal

pub returns : goal.returns
returns g c =
    let outside : is_paste c.args.self.now.state ≡ false = c.requires in
    let inside : is_paste c.self.inside.state ≡ false = ap (λ (p : ParserView). is_paste p.state) c.self.view_is ∙ outside in
    let through = c.take.ensures.divided in
    let new : ParserView = record { waiting = c.take.new.outlet.waiting; state = c.take.new.self; text = text_or_empty c.self.inside.paste; typed = c.take.new.outlet.typed; room = c.take.new.outlet.room } in
    record {
      within = c.take.ensures.front.within;
      divided = subst (λ (p : ParserView). AdvancesOver p new (take c.take.result (marked c.args.piece.now c.args.more c.args.raw))) c.self.view_is
          (beside _ new _ _ inside refl through.1 (through.2 _));
      room = search rules;
      counted = search rules;
      steps = search rules;
      turns = search rules;
      full = search rules;
      ends = search rules;
    }
