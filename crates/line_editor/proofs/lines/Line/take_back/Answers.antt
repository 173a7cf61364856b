use Rattle.std.proofs.Common.{◌∙◌, ◌-◌, ◌++◌, List, ℕ, ap, arith, drop, length, subst, sym, take}
use Rattle.std.proofs.lemmas.Str.{IsUtf8-string_bytes}
use Rattle.std.specs.Str.{chars, IsCharBoundary}
use Rattle.std.specs.String.{string_bytes}
use Rattle.line_editor.specs.Edits.{IsSettled}
use Rattle.line_editor.specs.Shown.{AreRows}
use Rattle.line_editor.specs.Splits.{split_at}
use Rattle.line_editor.proofs.Changing.{Fits-here, line_bytes-split, done-here, takes_back}
use Rattle.line_editor.proofs.lines.Line.take_back.Goals as goal

pub overflow_sub-behind : goal.overflow_sub-behind
overflow_sub-behind g c =
    let fits = Fits-here (string_bytes c.self.inside.text) c.self.inside.at c.args.self.now (IsUtf8-string_bytes c.self.inside.text) c.self.invariant.0 c.self.view_is
    _ c.args.change.now c.change.view_is c.requires in
    let within = fits.to.0 in
    omega (arith, within, ap length c.as_str-whole.ensures.value)

pub swap-requires-clause-order : goal.swap-requires-clause-order
swap-requires-clause-order g c =
    let fits = Fits-here (string_bytes c.self.inside.text) c.self.inside.at c.args.self.now (IsUtf8-string_bytes c.self.inside.text) c.self.invariant.0 c.self.view_is
    _ c.args.change.now c.change.view_is c.requires in
    fits.order

pub swap-requires-clause-from : goal.swap-requires-clause-from
swap-requires-clause-from g c =
    let fits = Fits-here (string_bytes c.self.inside.text) c.self.inside.at c.args.self.now (IsUtf8-string_bytes c.self.inside.text) c.self.invariant.0 c.self.view_is
    _ c.args.change.now c.change.view_is c.requires in
    fits.from

pub swap-requires-clause-to : goal.swap-requires-clause-to
swap-requires-clause-to g c =
    let fits = Fits-here (string_bytes c.self.inside.text) c.self.inside.at c.args.self.now (IsUtf8-string_bytes c.self.inside.text) c.self.invariant.0 c.self.view_is
    _ c.args.change.now c.change.view_is c.requires in
    fits.to

pub invariant_of-self-2 : goal.invariant_of-self-2
invariant_of-self-2 g c =
    let fits = Fits-here (string_bytes c.self.inside.text) c.self.inside.at c.args.self.now (IsUtf8-string_bytes c.self.inside.text) c.self.invariant.0 c.self.view_is
    _ c.args.change.now c.change.view_is c.requires in
    let at = c.change.inside.at in
    let P : List ℕ → Type 0 = λ t. IsCharBoundary t at × IsSettled (split_at t at) × AreRows (chars t) in
    let text = string_bytes c.self.inside.text in
    let made = c.in_ok-removed.ensures.ok ∙ ap (λ t. (take c.change.inside.from text ++ t) ++ drop c.change.inside.to text) c.as_str-with.ensures.value in
    subst P (sym made) (fits.at, fits.settled, fits.shown)

pub returns-clause-ok : goal.returns-clause-ok
returns-clause-ok g c =
    let text = string_bytes c.self.inside.text in
    let made = c.in_ok-removed.ensures.ok ∙ ap (λ t. (take c.change.inside.from text ++ t) ++ drop c.change.inside.to text) c.as_str-with.ensures.value in
    done-here text c.self.inside.at c.args.self.now (IsUtf8-string_bytes c.self.inside.text) c.self.invariant.0 c.self.view_is _ _ c.args.change.now c.change.view_is made

pub returns-clause-back : goal.returns-clause-back
returns-clause-back g c =
    let fits = Fits-here (string_bytes c.self.inside.text) c.self.inside.at c.args.self.now (IsUtf8-string_bytes c.self.inside.text) c.self.invariant.0 c.self.view_is
    _ c.args.change.now c.change.view_is c.requires in
    let text = string_bytes c.self.inside.text in
    let new = string_bytes c.swap.new.text in
    let ends = ap (λ n. n - (length c.as_str-whole.result.now - c.change.inside.to)) (ap length c.as_str-whole-2.ensures.value)
    ∙ ap (λ n. length new - (n - c.change.inside.to)) (ap length c.as_str-whole.ensures.value) in
    takes_back text c.as_str-with.result.now new _ c.change.inside.from c.change.inside.to _ c.self.inside.at (IsUtf8-string_bytes c.self.inside.text) c.as_str-with.utf8
    fits.from fits.to fits.order c.in_ok-removed.ensures.ok c.in_ok-removed.ensures.removed ends _ _ c.self.view_is c.self.invariant.0 c.self.invariant.1 c.self.invariant.2
    (line_bytes-split new c.change.inside.at (IsUtf8-string_bytes c.swap.new.text) (invariant_of-self-2 g c).0)
