use Rattle.std.specs.Prelude.{◌∷◌, [], All}
use Rattle.std.proofs.Common.{ap, subst, sym, ◌∙◌}
use Rattle.crossterm_read.specs.History.{opened}
use Rattle.crossterm_read.specs.PassViews.{knows}
use Rattle.crossterm_read.specs.Shared.{IsShareOf}
use Rattle.own_terminal.proofs.Shares.{all_apart, last_two}
use Rattle.own_terminal.proofs.session.Session+DeviceSource+I+D+W+C.over_streaming.Goals as goal

pub returns-clause-begins : goal.returns-clause-begins
returns-clause-begins g c =
    let b = c.in_ok-session.ensures.begins in
    let two = last_two (λ e. knows e.pass) c.in_ok-session.shares.items c.pop.new.self.items c.pop-2.new.self.items c.in-Some-Some.events c.in-Some-Some.other (opened b.0 3 0) (opened b.0 3 1)
    c.in-Some-Some.ensures.items c.in-Some-Some.ensures'.items b.5 in
    (opened b.0 3 1, (b.0, b.1, b.2, b.3, b.4, ap (λ k. k ∷ opened b.0 3 1 ∷ []) (c.in_ok-stream-in-Some-Some.ensures.pass.0 ∙ two.0)))

pub returns-clause-shared : goal.returns-clause-shared
returns-clause-shared g c =
    let made = c.in_ok-session.ensures.shared in
    let front = all_apart (λ e. IsShareOf e.reader c.in_ok-session.session.reader) c.pop.new.self.items c.in-Some-Some.other
    (subst (λ l. All (λ e. IsShareOf e.reader c.in_ok-session.session.reader) l) c.in-Some-Some.ensures.items made) in
    let last = all_apart (λ e. IsShareOf e.reader c.in_ok-session.session.reader) c.pop-2.new.self.items c.in-Some-Some.events
    (subst (λ l. All (λ e. IsShareOf e.reader c.in_ok-session.session.reader) l) c.in-Some-Some.ensures'.items front.0) in
    c.in_ok-stream-in-Some-Some.ensures.pass.1 ∙ last.1
