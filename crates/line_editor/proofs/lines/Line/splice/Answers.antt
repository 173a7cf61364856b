use Rattle.std.proofs.Common.{◌∙◌, ◌-◌, List, ℕ, ap, arith, length, subst, sym, true}
use Rattle.std.proofs.lemmas.Str.{IsUtf8-string_bytes}
use Rattle.std.specs.Str.{IsCharBoundary, chars}
use Rattle.std.specs.String.{string_bytes}
use Rattle.line_editor.proofs.Changing.{before-split, boundary-here, line_bytes-split, joined-there, takes_back}
use Rattle.line_editor.proofs.Settling.{ahead-Placed, spliced-boundary, split_at-joined}
use Rattle.line_editor.proofs.Showing.{shown-spliced}
use Rattle.line_editor.proofs.lines.Line.splice.Goals as goal

pub overflow_sub-behind : goal.overflow_sub-behind
overflow_sub-behind g c =
    let within = (boundary-here (string_bytes c.self.inside.text) c.self.inside.at c.args.self.now (IsUtf8-string_bytes c.self.inside.text) c.self.invariant.0 c.self.view_is c.args.to c.requires.to).0 in
    omega (arith, within, ap length c.as_str-whole.ensures.value)

pub swap-requires-clause-from : goal.swap-requires-clause-from
swap-requires-clause-from g c = boundary-here (string_bytes c.self.inside.text) c.self.inside.at c.args.self.now (IsUtf8-string_bytes c.self.inside.text) c.self.invariant.0 c.self.view_is c.args.from c.requires.from

pub swap-requires-clause-to : goal.swap-requires-clause-to
swap-requires-clause-to g c = boundary-here (string_bytes c.self.inside.text) c.self.inside.at c.args.self.now (IsUtf8-string_bytes c.self.inside.text) c.self.invariant.0 c.self.view_is c.args.to c.requires.to

pub ahead-self-inside-requires : goal.ahead-self-inside-requires
ahead-self-inside-requires g c =
    let text = string_bytes c.self.inside.text in
    let new = string_bytes c.swap.new.text in
    let at = length c.as_str-whole-2.result.now - (length c.as_str-whole.result.now - c.args.to) in
    let ends = ap (λ n. n - (length c.as_str-whole.result.now - c.args.to)) (ap length c.as_str-whole-2.ensures.value)
    ∙ ap (λ n. length new - (n - c.args.to)) (ap length c.as_str-whole.ensures.value) in
    let P : List ℕ → Type 0 = λ t. IsCharBoundary t at in
    subst P (sym c.as_str-whole-2.ensures.value) (spliced-boundary text c.args.with.now new c.args.from c.args.to at (IsUtf8-string_bytes c.self.inside.text) c.utf8.with
    (boundary-here (string_bytes c.self.inside.text) c.self.inside.at c.args.self.now (IsUtf8-string_bytes c.self.inside.text) c.self.invariant.0 c.self.view_is c.args.from c.requires.from) (boundary-here (string_bytes c.self.inside.text) c.self.inside.at c.args.self.now (IsUtf8-string_bytes c.self.inside.text) c.self.invariant.0 c.self.view_is c.args.to c.requires.to) c.in_ok-removed.ensures.ok ends)

pub invariant_of-self-2 : goal.invariant_of-self-2
invariant_of-self-2 g c =
    let moved = c.ahead-self-inside.ensures in
    let placed = ahead-Placed _ _ _ _ c.as_str-whole-2.ensures.value moved.boundary moved.first in (
      placed.0,
      placed.1,
      shown-spliced true (string_bytes c.self.inside.text) c.args.with.now _ c.args.from c.args.to (IsUtf8-string_bytes c.self.inside.text) c.utf8.with
          (boundary-here (string_bytes c.self.inside.text) c.self.inside.at c.args.self.now (IsUtf8-string_bytes c.self.inside.text) c.self.invariant.0 c.self.view_is c.args.from c.requires.from) (boundary-here (string_bytes c.self.inside.text) c.self.inside.at c.args.self.now (IsUtf8-string_bytes c.self.inside.text) c.self.invariant.0 c.self.view_is c.args.to c.requires.to) c.self.invariant.2 c.requires.with c.in_ok-removed.ensures.ok,
    )

pub returns-clause-ok : goal.returns-clause-ok
returns-clause-ok g c =
    let text = string_bytes c.self.inside.text in
    let new = string_bytes c.swap.new.text in
    let ends = ap (λ n. n - (length c.as_str-whole.result.now - c.args.to)) (ap length c.as_str-whole-2.ensures.value)
    ∙ ap (λ n. length new - (n - c.args.to)) (ap length c.as_str-whole.ensures.value) in
    split_at-joined text c.args.with.now _ new c.args.from c.args.to _ _ c.as_str-whole-2.ensures.value (IsUtf8-string_bytes c.self.inside.text) c.utf8.with
    (boundary-here (string_bytes c.self.inside.text) c.self.inside.at c.args.self.now (IsUtf8-string_bytes c.self.inside.text) c.self.invariant.0 c.self.view_is c.args.from c.requires.from) (boundary-here (string_bytes c.self.inside.text) c.self.inside.at c.args.self.now (IsUtf8-string_bytes c.self.inside.text) c.self.invariant.0 c.self.view_is c.args.to c.requires.to) c.in_ok-removed.ensures.ok ends c.ahead-self-inside.ensures.first
    ∙ joined-there text c.self.inside.at c.args.self.now (IsUtf8-string_bytes c.self.inside.text) c.self.invariant.0 c.self.view_is c.args.from c.args.to (chars c.args.with.now)

pub returns-clause-back : goal.returns-clause-back
returns-clause-back g c =
    let text = string_bytes c.self.inside.text in
    let new = string_bytes c.swap.new.text in
    let ends = ap (λ n. n - (length c.as_str-whole.result.now - c.args.to)) (ap length c.as_str-whole-2.ensures.value)
    ∙ ap (λ n. length new - (n - c.args.to)) (ap length c.as_str-whole.ensures.value) in
    takes_back text c.args.with.now new _ c.args.from c.args.to _ c.self.inside.at (IsUtf8-string_bytes c.self.inside.text) c.utf8.with
    (boundary-here (string_bytes c.self.inside.text) c.self.inside.at c.args.self.now (IsUtf8-string_bytes c.self.inside.text) c.self.invariant.0 c.self.view_is c.args.from c.requires.from) (boundary-here (string_bytes c.self.inside.text) c.self.inside.at c.args.self.now (IsUtf8-string_bytes c.self.inside.text) c.self.invariant.0 c.self.view_is c.args.to c.requires.to) c.requires.order c.in_ok-removed.ensures.ok c.in_ok-removed.ensures.removed ends
    _ _ c.self.view_is c.self.invariant.0 c.self.invariant.1 c.self.invariant.2
    (line_bytes-split new _ (IsUtf8-string_bytes c.swap.new.text) (invariant_of-self-2 g c).0)

pub returns-clause-end : goal.returns-clause-end
returns-clause-end g c =
    let new = string_bytes c.swap.new.text in
    let same = before-split new _ (IsUtf8-string_bytes c.swap.new.text) (invariant_of-self-2 g c).0 in
    let on = c.ahead-self-inside.ensures.on in
    omega (arith, same, on)
