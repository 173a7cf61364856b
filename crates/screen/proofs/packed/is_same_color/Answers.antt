use Rattle.std.proofs.Common.{rules, ◌≡◌, ◌+◌, ◌*◌, ◌<◌, sym, ap, ◌∙◌, arith}
use Rattle.screen.specs.inside.Packed.{packed, unpacked}
use Rattle.screen.proofs.packed.is_same_color.Goals as goal

pub returns : goal.returns
returns c =
    let a = c.left.inside in
    let b = c.right.inside in
    let left = c.from_le_bytes-left in
    let right = c.from_le_bytes-right in
    let a0 : a.0 < 256 = search rules in
    let a1 : a.1 < 256 = search rules in
    let a2 : a.2 < 256 = search rules in
    let a3 : a.3 < 256 = search rules in
    let b0 : b.0 < 256 = search rules in
    let b1 : b.1 < 256 = search rules in
    let b2 : b.2 < 256 = search rules in
    let b3 : b.3 < 256 = search rules in (
      λ e.
          let word : left.result ≡ right.result = search rules in
          let kind : a.0 ≡ b.0 = omega (arith, word, left.ensures, right.ensures, a0, a1, a2, a3, b0, b1, b2, b3) in
          let first : a.1 ≡ b.1 = omega (arith, word, left.ensures, right.ensures, a0, a1, a2, a3, b0, b1, b2, b3) in
          let second : a.2 ≡ b.2 = omega (arith, word, left.ensures, right.ensures, a0, a1, a2, a3, b0, b1, b2, b3) in
          let third : a.3 ≡ b.3 = omega (arith, word, left.ensures, right.ensures, a0, a1, a2, a3, b0, b1, b2, b3) in
          let same : a ≡ b = λ i. record { 0 = kind i; 1 = first i; 2 = second i; 3 = third i } in
          sym c.left.view_is ∙ ap unpacked same ∙ c.right.view_is,
      λ e.
          let same : a ≡ b = sym c.left.invariant ∙ ap packed (c.left.view_is ∙ e ∙ sym c.right.view_is) ∙ c.right.invariant in
          let word : left.result ≡ right.result = left.ensures ∙ ap (λ x. x.0 + x.1 * 256 + x.2 * 65536 + x.3 * 16777216) same ∙ sym right.ensures in
          search rules,
    )
