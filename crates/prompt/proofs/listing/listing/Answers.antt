use Rattle.std.proofs.Common.{◌++◌, ◌+◌, ◌-◌, List, ℕ, map, string_bytes, ap, sym, ◌∙◌, arith}
use Rattle.std.proofs.lemmas.Str.{encode_ascii}
use Rattle.prompt.specs.Shown.{in_columns, per_row, widest}
use Rattle.prompt.proofs.Tabling.{all_listed, begins_row, blanks, goes_on, one_listed}
use Rattle.prompt.proofs.listing.listing.Goals.{then-place-count-eq0+in_ok-push, else-place-count-eq0+in_ok-blanks+in_ok-push_str}
use Rattle.prompt.proofs.listing.listing.Goals as goal

pub loop-place-init : goal.loop-place-init
loop-place-init c =
    let names : List (List ℕ) = map (λ n. n.now) c.args.names.now in
    let columns = sym c.widest-columns.ensures in
    let count = ap (per_row c.args.width) columns ∙ sym c.per_row-count.ensures in
    ap (λ k. in_columns k (widest names) 0 0 names) count ∙ ap (λ w. in_columns c.per_row-count.result w 0 0 names) columns
    ∙ ap (λ t. t ++ in_columns c.per_row-count.result c.widest-columns.result 0 0 names) (sym c.new-text.ensures.bytes)

pub loop-place-preserved : goal.loop-place-preserved
loop-place-preserved c =
    let names = c.args.names.now in
    let count = c.per_row-count.result in
    let columns = c.widest-columns.result in
    let at = c.loop-place.place in
    let gap = c.loop-place.gap in
    let next = c.saturating_sub-gap.ensures ∙ ap (λ k. k + 2 - c.from-in-loop-place.result) c.from.ensures
    ∙ ap (λ k. columns + 2 - k) (c.from-in-loop-place.ensures ∙ c.width_of.ensures) in
    let new = c.in_ok-push_str-2.ensures.bytes in
    elim c.if-place-count-eq0.branch [
      | then-place-count-eq0+in_ok-push w ↦ one_listed count columns at gap names _ _ c.loop-place.invariant _ c.loop-place-test.true _ _ _ _
          (encode_ascii 10 (omega arith) ∙ begins_row count at gap w.if-place-count-eq0.true) (ap string_bytes w.text-is ∙ w.in_ok-push.ensures.bytes) new next
      | else-place-count-eq0+in_ok-blanks+in_ok-push_str w ↦ one_listed count columns at gap names _ _ c.loop-place.invariant _ c.loop-place-test.true _ _ _ _
          (w.as_str.ensures.value ∙ w.in_ok-blanks.ensures.bytes ∙ blanks gap ∙ goes_on count at gap w.if-place-count-eq0.false)
          (ap string_bytes w.text-is ∙ w.in_ok-push_str.ensures.bytes) new next
    ]

pub returns : goal.returns
returns c = all_listed c.per_row-count.result c.widest-columns.result c.loop-place.place c.loop-place.gap c.args.names.now _ _ c.loop-place.invariant c.loop-place-test.false
