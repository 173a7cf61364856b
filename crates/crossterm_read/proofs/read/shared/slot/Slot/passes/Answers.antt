use Rattle.std.proofs.Common.{◌≡◌, ◌∷◌, ◌++◌, [], ◌+◌, List, ◌-◌, ℕ, suc, All, map, arith, sym, ap, subst, ◌∙◌}
use Rattle.std.specs.List.{range_with_len}
use Rattle.std.proofs.lemmas.List.{map-append}
use Rattle.std.proofs.lemmas.List.Elements.{All-cons, All-push}
use Rattle.crossbeam_queue.specs.Passes.{view}
use Rattle.crossterm_read.specs.Store.{ReaderState}
use Rattle.crossterm_read.specs.History.{Known, opened}
use Rattle.crossterm_read.specs.PassViews.{IsInSlot, knows, pass_number}
use Rattle.crossterm_read.specs.inside.Slot.{first_pass, one_less, one_more}
use Rattle.crossterm_read.specs.declared.read.shared.pass.Pass.{Pass}
use Rattle.crossterm_read.proofs.Sharing.{sits_first, range_more, made_knows}
use Rattle.crossterm_read.proofs.read.shared.slot.Slot.passes.Goals as goal

pub another-requires-clause-first : goal.another-requires-clause-first
another-requires-clause-first g c =
    let o = c.requires.first.0 in
    let n = c.args.passes in
    let k = c.loop.counter in
    (o, n - 1, n - (k + 1), omega (arith, c.loop-test.true, c.loop.auto.counter), c.loop.invariant.left o c.requires.first.1 ∙ ap (first_pass o (n - 1)) (omega (arith, c.loop-test.true)))

pub loop-preserved : goal.loop-preserved
loop-preserved g c =
    let n = c.args.passes in
    let k = c.loop.counter in
    let i = c.loop.invariant in
    let p : Pass g.row.S.Denot g.row.A.Denot = c.another.result in
    let items = c.in_ok-push.ensures.items in
    let left : (o : ReaderState g.row.S.Denot) → view c.args.first ≡ first_pass o (n - 1) (n - 1) → view c.loop.first ≡ first_pass o (n - 1) (suc (n - (k + 1))) = λ o is. i.left o is ∙ ap (first_pass o (n - 1)) (omega (arith, c.loop-test.true)) in
    let made : (o : ReaderState g.row.S.Denot) → view c.args.first ≡ first_pass o (n - 1) (n - 1) → (knows p ≡ opened o n (pass_number p)) × (pass_number p ≡ k) = λ o is.
    made_knows (knows p) o n k (omega (arith, c.loop-test.true)) (omega (arith, c.loop.auto.counter)) (c.another.ensures.pass ∙ ap one_more (left o is)) in
    let here : k ≡ 1 + (k - 1) = omega (arith, c.loop.auto.counter) in
    let grown : suc (k - 1) ≡ k + 1 - 1 = omega (arith, c.loop.auto.counter) in
    record {
      slot_pass = c.another.ensures.slot_pass;
      left = λ o is. c.another.ensures.left ∙ ap one_less (left o is);
      numbers = ap (map pass_number) items ∙ map-append pass_number c.loop.made.items (p ∷ []) ∙ ap (λ l. l ++ pass_number p ∷ []) i.numbers ∙ ap (λ (m : ℕ). range_with_len 1 (k - 1) ++ m ∷ []) ((made c.requires.first.0 c.requires.first.1).1 ∙ here)
          ∙ sym (range_more 1 (k - 1)) ∙ ap (range_with_len 1) grown;
      made = λ o is.
          let P : Pass g.row.S.Denot g.row.A.Denot → Type 0 = λ q. IsInSlot c.args.self.now.queue q × (knows q ≡ opened o n (pass_number q)) in
          subst (λ (l : List (Pass g.row.S.Denot g.row.A.Denot)). All P l) (sym items)
          (All-push P c.loop.made.items p (i.made o is) ((c.another.ensures.table, ap (λ (v : Known g.row.S.Denot). v.has) (made o is).0), (made o is).0));
    }

pub in_slot-requires-clause-sits : goal.in_slot-requires-clause-sits
in_slot-requires-clause-sits g c =
    let o = c.requires.first.0 in
    sits_first _ o (c.args.passes - 1) (c.loop.invariant.left o c.requires.first.1 ∙ ap (first_pass o (c.args.passes - 1)) (omega (arith, c.loop-test.false)))

pub in_slot-requires-clause-idle : goal.in_slot-requires-clause-idle
in_slot-requires-clause-idle g c = let o = c.requires.first.0 in ap (λ (v : Known g.row.S.Denot). v.mine) (c.loop.invariant.left o c.requires.first.1)

pub returns-clause-numbers : goal.returns-clause-numbers
returns-clause-numbers g c =
    let o = c.requires.first.0 in
    let n = c.args.passes in
    let p : Pass g.row.S.Denot g.row.A.Denot = c.in_slot.result in
    let k = c.loop.counter in
    let same : knows p ≡ first_pass o (n - 1) (n - k) = ap (λ s. view s) c.in_slot.ensures ∙ c.loop.invariant.left o c.requires.first.1 in
    let first : pass_number p ≡ 0 = ap (λ (v : Known g.row.S.Denot). v.number) same in
    let all : k - 1 ≡ n - 1 = omega (arith, c.loop-test.false, c.loop.auto.counter-end, c.loop.auto.counter, c.if-passes-eq0.false) in
    let whole : suc (n - 1) ≡ n = omega (arith, c.if-passes-eq0.false) in
    ap (map pass_number) c.in_ok-insert.ensures.items ∙ ap (λ (m : ℕ). m ∷ map pass_number c.loop.made.items) first ∙ ap (λ l. 0 ∷ l) (c.loop.invariant.numbers ∙ ap (range_with_len 1) all)
    ∙ ap (range_with_len 0) whole

pub returns-clause-passes : goal.returns-clause-passes
returns-clause-passes g c = λ o is.
    let n = c.args.passes in
    let P : Pass g.row.S.Denot g.row.A.Denot → Type 0 = λ q. IsInSlot c.args.self.now.queue q × (knows q ≡ opened o n (pass_number q)) in
    let p : Pass g.row.S.Denot g.row.A.Denot = c.in_slot.result in
    let same : knows p ≡ first_pass o (n - 1) 0 = ap (λ s. view s) c.in_slot.ensures ∙ c.loop.invariant.left o is ∙ ap (first_pass o (n - 1)) (omega (arith, c.loop-test.false)) in
    let first : knows p ≡ opened o n (pass_number p) = same ∙ ap (λ (t : ℕ). opened o t 0) (omega (arith, c.if-passes-eq0.false)) ∙ ap (opened o n) (sym (ap (λ (v : Known g.row.S.Denot). v.number) same)) in
    subst (λ (l : List (Pass g.row.S.Denot g.row.A.Denot)). All P l) (sym c.in_ok-insert.ensures.items)
    (All-cons P p c.loop.made.items ((ap (λ s. s.table_id) c.in_slot.ensures ∙ c.loop.invariant.slot_pass.0, ap (λ (v : Known g.row.S.Denot). v.has) same), first) (c.loop.invariant.made o is))
