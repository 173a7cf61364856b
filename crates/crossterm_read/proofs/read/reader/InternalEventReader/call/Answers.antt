use Rattle.std.proofs.Common.{[], sym, subst, ap, refl, ◌∙◌}
use Rattle.std.specs.Prelude.{Ok, Err}
use Rattle.std.specs.IoError.{error_kind}
use Rattle.crossterm_read.specs.declared.read.call.Call.{Call}
use Rattle.crossterm_read.specs.Replies.{Fault, Faulted, Came, ToPoll, ToTake}
use Rattle.crossterm_read.specs.Calls.{Step, request}
use Rattle.crossterm_read.proofs.read.reader.InternalEventReader.call.Goals as goal

pub returns-in-Err : goal.returns-in-Err
returns-in-Err g c =
    let e = c.in-Err.ensures.step in
    (e.0, Fault (error_kind c.in-Err.error), e.1, subst (λ (k : Call). Step (request k) e.0 c.args.self.now.store c.poll_within.new.self.store (Fault (error_kind c.in-Err.error))) (sym c.in-Poll.is) (Err (error_kind c.in-Err.error), e.2, refl), ap Faulted c.kind.ensures)

pub returns-in-Ok : goal.returns-in-Ok
returns-in-Ok g c =
    let e = c.in-Ok.ensures.step in
    (e.0, ToPoll c.in-Ok.ready, e.1, subst (λ (k : Call). Step (request k) e.0 c.args.self.now.store c.poll_within.new.self.store (ToPoll c.in-Ok.ready)) (sym c.in-Poll.is) (Ok c.in-Ok.ready, e.2, refl), refl)

pub returns-in-Err-read_within : goal.returns-in-Err-read_within
returns-in-Err-read_within g c =
    let e = c.in-Err-read_within.ensures.step in
    (e.0, e.1, e.2, subst (λ (k : Call). Step (request k) e.0 c.args.self.now.store c.read_within.new.self.store e.1) (sym c.in-Read.is) e.3, ap Faulted c.kind-in-Err-read_within.ensures ∙ e.4)

pub returns-in-Ok-read_within : goal.returns-in-Ok-read_within
returns-in-Ok-read_within g c =
    let e = c.in-Ok-read_within.ensures.step in
    (e.0, e.1, e.2, subst (λ (k : Call). Step (request k) e.0 c.args.self.now.store c.read_within.new.self.store e.1) (sym c.in-Read.is) e.3, e.4)

pub returns-in-Take : goal.returns-in-Take
returns-in-Take g c =
    let e = c.take.ensures.step in (
      [],
      ToTake e.0,
      subst (λ (x : g.row.S.Denot). g.S.EventSource.drawn c.args.self.now.source [] x) (sym c.take.ensures.source) (g.met.S.EventSource.none_drawn c.args.self.now.source),
      subst (λ (k : Call). Step (request k) [] c.args.self.now.store c.take.new.self.store (ToTake e.0)) (sym c.in-Take.is) (refl, (e.0, e.1, refl)),
      ap Came e.2,
    )

pub returns-in-Ok-position_within : goal.returns-in-Ok-position_within
returns-in-Ok-position_within g c =
    let e = c.in-Ok-position_within.ensures.step in
    (e.0, e.1, e.2, subst (λ (k : Call). Step (request k) e.0 c.args.self.now.store c.position_within.new.self.store e.1) (sym c.in-Position.is) e.3, e.4)

pub returns-in-Err-position_within : goal.returns-in-Err-position_within
returns-in-Err-position_within g c =
    let e = c.in-Err-position_within.ensures.step in
    (e.0, e.1, e.2, subst (λ (k : Call). Step (request k) e.0 c.args.self.now.store c.position_within.new.self.store e.1) (sym c.in-Position.is) e.3, ap Faulted c.kind-in-Err-position_within.ensures ∙ e.4)

pub returns-in-Ok-keyboard_within : goal.returns-in-Ok-keyboard_within
returns-in-Ok-keyboard_within g c =
    let e = c.in-Ok-keyboard_within.ensures.step in
    (e.0, e.1, e.2, subst (λ (k : Call). Step (request k) e.0 c.args.self.now.store c.keyboard_within.new.self.store e.1) (sym c.in-Keyboard.is) e.3, e.4)

pub returns-in-Err-keyboard_within : goal.returns-in-Err-keyboard_within
returns-in-Err-keyboard_within g c =
    let e = c.in-Err-keyboard_within.ensures.step in
    (e.0, e.1, e.2, subst (λ (k : Call). Step (request k) e.0 c.args.self.now.store c.keyboard_within.new.self.store e.1) (sym c.in-Keyboard.is) e.3, ap Faulted c.kind-in-Err-keyboard_within.ensures ∙ e.4)
