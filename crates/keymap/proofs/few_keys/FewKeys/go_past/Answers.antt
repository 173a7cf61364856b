use Rattle.std.proofs.Common.{◌≤◌, ◌-◌, length, take, drop, ap, ◌∙◌, arith}
use Rattle.keymap.proofs.Giving.{past_is, take_short}
use Rattle.keymap.proofs.few_keys.FewKeys.go_past.Goals as goal

pub returns : goal.returns
returns c =
    let view = ap length c.self.view_is in
    let short = take_short c.self.inside.count c.self.inside.keys in
    let requires = c.requires in
    let enough : c.args.count ≤ c.self.inside.count = omega arith in
    let invariant = c.self.invariant in
    let fits : c.self.inside.count ≤ length c.self.inside.keys = omega arith in
    ap (λ ks. take (c.self.inside.count - c.args.count) ks) c.rotate_left.ensures.after ∙ past_is c.self.inside.count c.args.count c.self.inside.keys enough fits ∙ ap (drop c.args.count) c.self.view_is
