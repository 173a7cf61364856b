use Rattle.std.proofs.Common.{◌≡◌, ◌∙◌, ◌≤◌, ◌<◌, ◌++◌, ℕ, List, ◌∷◌, Option, None, Some, length, map, drop, ap, sym, subst, arith}
use Rattle.std.proofs.lemmas.List.{drop_all, length-map}
use Rattle.std.specs.Iterator.{MakesProgress, YieldsFirstBy, item_count}
use Rattle.bitflags.specs.Sets.{Row}
use Rattle.crossterm_flags.specs.Bits.{contained, unless_empty}
use Rattle.crossterm_flags.proofs.TableFacts.{part-here, part-later}
use Rattle.crossterm_flags.proofs.iter.FlagIterIterator.next.Goals as goal

-- one fewer is left
shorter : (x : ℕ) (rest parts : List ℕ) → parts ≡ x ∷ rest → length rest < length parts
shorter x rest parts e = let size = ap length e in omega arith

progress : {F : Type 0} (set_of : F → ℕ) (can : List ℕ → Type 0) (all : (l : List ℕ) → can l) (before after : List ℕ) (r : Option F) → YieldsFirstBy set_of (λ rest. rest) before r after
    → MakesProgress can (item_count {A = ℕ} (λ rest. rest)) before r after
progress set_of can all before after None y = record { on = λ finite. tt; keeps = tt; rests = λ finite. finite }
progress set_of can all before after (Some x) y = record { on = λ finite. (all after, finite, shorter (set_of x) after before y); keeps = all after; rests = λ finite. tt }

-- past the end no constant is left
none_left : {X : Type 0} (view : X → Row) (flags : List X) (table : List Row) (place set : ℕ) (more : List ℕ) → map view flags ≡ table → length flags ≤ place
    → contained (drop place table) set ++ more ≡ more
none_left view flags table place set more rows end =
    let size : length table ≡ length flags = ap length (sym rows) ∙ length-map flags view in
    ap (λ rest. contained rest set ++ more) (drop_all place table (omega arith))

pub loop-self-init : goal.loop-self-init
loop-self-init g c = c.self.view_is

pub returns-then-has_part-clause-steps : goal.returns-then-has_part-clause-steps
returns-then-has_part-clause-steps g c =
    let exact = g.met.F.FlagSet.exact_law in
    let is_bits = c.bits-bits.ensures exact ∙ ap g.F.Flags.set_of c.value.ensures in
    let here = part-here (λ f. (f.name.now, g.F.Flags.set_of f.value)) _ _ _ _ _ _ _ _ (c.flags-flags.ensures exact) c.loop-self-test.true c.index-flags-self.is is_bits c.loop-self.invariant (sym c.has_part.ensures ∙ c.if-has_part.true) in
    rw (c.from_bits_retain.ensures exact) here

pub loop-self-preserved : goal.loop-self-preserved
loop-self-preserved g c =
    let exact = g.met.F.FlagSet.exact_law in
    let is_bits = c.bits-bits.ensures exact ∙ ap g.F.Flags.set_of c.value.ensures in
    part-later (λ f. (f.name.now, g.F.Flags.set_of f.value)) _ _ _ _ _ _ _ _ (c.flags-flags.ensures exact) c.loop-self-test.true c.index-flags-self.is is_bits c.loop-self.invariant (sym c.has_part.ensures ∙ c.if-has_part.false)

pub returns-then-has_part-clause-goes : goal.returns-then-has_part-clause-goes
returns-then-has_part-clause-goes g c =
    let fewer = shorter _ _ _ (returns-then-has_part-clause-steps g c) in
    record { on = λ finite. (tt, finite, fewer); keeps = tt; rests = λ finite. tt }

pub returns-clause-steps : goal.returns-clause-steps
returns-clause-steps g c =
    let left = c.loop-self.self-inside in
    let set_of = g.F.Flags.set_of in
    let rows = c.flags-flags.ensures g.met.F.FlagSet.exact_law in
    let before = sym (none_left (λ f. (f.name.now, set_of f.value)) _ _ left.place (set_of left.set) (unless_empty (set_of left.unnamed)) rows c.loop-self-test.false) ∙ c.loop-self.invariant in
    let after = sym (none_left (λ f. (f.name.now, set_of f.value)) _ _ left.place (set_of left.set) (unless_empty (set_of c.take_set.new.set)) rows c.loop-self-test.false) in
    subst (λ (l : List ℕ). YieldsFirstBy set_of (λ rest. rest) l c.take_set.result (contained (drop left.place g.F.Flags.table) (set_of left.set) ++ unless_empty (set_of c.take_set.new.set))) before
    (subst (λ (l : List ℕ). YieldsFirstBy set_of (λ rest. rest) (unless_empty (set_of left.unnamed)) c.take_set.result l) after c.take_set.ensures)

pub returns-clause-goes : goal.returns-clause-goes
returns-clause-goes g c = progress g.F.Flags.set_of _ (λ l. tt) c.args.self.now _ c.take_set.result (returns-clause-steps g c)
