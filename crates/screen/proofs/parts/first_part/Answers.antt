use Rattle.std.proofs.Common.{◌≡◌, ◌<◌, ◌≤◌, [], false, sym, ap, subst, arith, get_or, length}
use Rattle.std.specs.Str.{chars}
use Rattle.screen.specs.declared.parts.Part.{Part}
use Rattle.screen.specs.inside.FirstParts.{IsFirstPart}
use Rattle.screen.proofs.Parting.{first_of_two}
use Rattle.screen.proofs.parts.first_part.Goals as goal

pub returns-then-bytes-lt128-2 : goal.returns-then-bytes-lt128-2
returns-then-bytes-lt128-2 c =
    let text = c.args.text.now in
    let back = c.range.result.now in
    let bytes = c.as_bytes-bytes.ensures.value in
    let two : 2 ≤ length text = omega (arith, c.if-bytes-ge2.true, c.as_bytes-bytes.ensures.len) in
    let first : get_or text 0 0 < 128 = omega (arith, c.if-bytes-lt128.true, ap (λ t. get_or t 0 0) bytes) in
    let second : get_or text 1 0 < 128 = omega (arith, c.if-bytes-lt128-2.true, ap (λ t. get_or t 1 0) bytes) in
    let part : ◌≡◌ {A = Part} (record { symbol = get_or text 0 0; marks = []; is_long = false }) (record { symbol = get_or c.as_bytes-bytes.result.now 0 0; marks = c.none.result; is_long = false }) =
    λ i. record { symbol = get_or (sym bytes i) 0 0; marks = sym c.none.ensures i; is_long = false } in (
      subst (λ p. IsFirstPart (chars text) p (chars back)) part (first_of_two text back c.utf8.text c.range.utf8 two first second c.range.ensures.value),
      omega (arith, c.range.ensures.len, two),
    )
