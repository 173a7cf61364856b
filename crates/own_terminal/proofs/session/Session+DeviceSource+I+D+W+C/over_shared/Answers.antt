use Rattle.std.specs.Prelude.{◌≡◌, ◌+◌, All, map}
use Rattle.std.specs.Arc.{arc_value}
use Rattle.std.specs.List.{range_with_len}
use Rattle.std.proofs.Common.{Global, ap, arith, subst, sym, ◌∙◌}
use Rattle.crossterm_read.specs.History.{opened}
use Rattle.crossterm_read.specs.OverScripts.{IsNew}
use Rattle.crossterm_read.specs.PassViews.{knows, pass_number}
use Rattle.crossterm_read.specs.Shared.{IsPassOf, IsShareOf}
use Rattle.crossterm_read.specs.declared.source.DeviceSource.{DeviceSource}
use Rattle.own_terminal.specs.declared.events.Events.{Events}
use Rattle.own_terminal.proofs.Shares.{all_alike, all_but_one, known_apart, some_made}
use Rattle.own_terminal.proofs.session.Session+DeviceSource+I+D+W+C.over_shared.Goals as goal

pub unreachable-requires : goal.unreachable-requires
unreachable-requires g c =
    let numbers = subst (λ n. map pass_number c.in_ok-reader.passes.items ≡ range_with_len 0 n) c.in-Some.ensures.1 c.in_ok-reader.ensures.numbers in
    some_made pass_number (λ e. e.pass) c.args.others c.in_ok-reader.passes.items c.in_ok-shares.shares.items c.in_ok-shares.ensures.passes numbers (omega (arith, c.in_ok-shares.shares.ok, c.in-None.ensures.cases.0))

pub returns-clause-begins : goal.returns-clause-begins
returns-clause-begins g c =
    let new = c.new-source.ensures in
    let source = ap (λ r. r.source) c.new-reader.ensures in
    let reader = c.new-reader.result in
    let passes = c.in_ok-reader.passes.items in
    let count = c.in-Some.ensures.1 in
    let numbers = subst (λ n. map pass_number passes ≡ range_with_len 0 n) count c.in_ok-reader.ensures.numbers in
    let known = subst (λ n. All (λ p. IsPassOf c.in_ok-reader.reader p × (knows p ≡ opened reader n (pass_number p))) passes) count c.in_ok-reader.ensures.passes in
    let apart = known_apart pass_number knows (opened reader (c.args.others + 1)) (λ e. e.pass) c.args.others passes c.pop.new.self.items c.in-Some-pop.field-0
    (subst (λ made. map (λ e. e.pass) made ≡ passes) c.in-Some-pop.ensures.items c.in_ok-shares.ensures.passes) numbers (λ k d h. (known k d h).1) in (
      reader,
      subst IsNew (sym source) (record { waiting = new.waiting; represents = new.represents; untaken = new.untaken }),
      ap (λ s. s.device) source ∙ new.device,
      ap (λ r. r.store) c.new-reader.ensures,
      apart.1,
      apart.0,
    )

pub returns-clause-count : goal.returns-clause-count
returns-clause-count g c =
    let numbers = subst (λ n. map pass_number c.in_ok-reader.passes.items ≡ range_with_len 0 n) c.in-Some.ensures.1 c.in_ok-reader.ensures.numbers in
    all_but_one pass_number (λ e. e.pass) c.args.others c.in_ok-reader.passes.items c.in_ok-shares.shares.items c.pop.new.self.items c.in-Some-pop.field-0
    c.in_ok-shares.ensures.passes numbers c.in-Some-pop.ensures.items

pub returns-clause-shared : goal.returns-clause-shared
returns-clause-shared g c =
    all_alike (λ (e : Events (DeviceSource g.row.I.Denot Global)). (arc_value e.reader.slot).queue.table.shared.table_id) _ c.pop.new.self.items c.in-Some-pop.field-0
    (subst (λ made. All (λ e. IsShareOf e.reader c.in_ok-reader.reader) made) c.in-Some-pop.ensures.items c.in_ok-shares.ensures.shared)
