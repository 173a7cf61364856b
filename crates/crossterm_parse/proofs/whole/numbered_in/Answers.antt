use Rattle.std.proofs.Common.{rules, ◌+◌, ◌-◌, arith, refl, subst, sym, take, drop, length}
use Rattle.crossterm_parse.specs.inside.InFront.{AreNumbers, in_kind, in_second, kept_of}
use Rattle.crossterm_parse.specs.declared.number.Number.TheVariants.{Empty}
use Rattle.crossterm_parse.specs.declared.state.State.TheVariants.{Csi}
use Rattle.crossterm_parse.proofs.WholeLaws.{first_field, last_number, number_goes_on, number_opens, one_number, opened, reads_kind, reads_second}
use Rattle.crossterm_parse.proofs.RunLaws.{opens_on}
use Rattle.crossterm_parse.proofs.TakingLaws.{rest_size}
use Rattle.crossterm_parse.proofs.whole.numbered_in.Goals as goal
use Rattle.crossterm_parse.proofs.whole.numbered_in.Goals.{then-first-ne59+else-first-eq200, else-first-ne59+in_ok-mask+then-mask-ne58, else-first-ne59+in_ok-mask+else-mask-ne58+in_ok-kind}

pub returns : goal.returns
returns c =
    let bytes = c.args.bytes.now in
    let first = c.in_ok-first.first in
    let x = first.value in
    let read = c.if-first-ne59.end in
    let are : AreNumbers bytes read.0 read.1 read.2 =
    elim c.if-first-ne59.branch [
      | then-first-ne59+else-first-eq200 w ↦
          subst (λ e. AreNumbers bytes e.0 e.1 e.2) (sym w.end-is)
          (one_number bytes first w.one.result c.in_ok-first.ensures (search rules) w.one.ensures)
      | else-first-ne59+in_ok-mask+then-mask-ne58 w ↦
          subst (λ e. AreNumbers bytes e.0 e.1 e.2) (sym w.end-is)
          (last_number (in_second x) (reads_second x) bytes first.count 59 w.in_ok-mask.mask w.two.result c.in_ok-first.ensures.within
          (first_field bytes first c.in_ok-first.ensures (omega arith)) w.in_ok-mask.ensures w.two.ensures)
      | else-first-ne59+in_ok-mask+else-mask-ne58+in_ok-kind w ↦
          let mask = w.in_ok-mask.mask in
          let y = mask.value in
          let behind = take (length bytes - first.count) (drop first.count bytes) in
          let one = first_field bytes first c.in_ok-first.ensures (omega arith) in
          let two = number_opens opened number_goes_on (in_second x) (reads_second x) behind mask 59 58 (in_kind x y Empty) w.in_ok-mask.ensures (omega arith) (omega arith) (omega arith) refl in
          subst (λ e. AreNumbers bytes e.0 e.1 e.2) (sym w.end-is)
          (last_number (in_kind x y) (reads_kind x y) bytes (first.count + mask.count) 58 w.in_ok-kind.kind w.with_kind.result
          (omega (arith, c.in_ok-first.ensures.within, w.in_ok-mask.ensures.within, rest_size bytes first.count))
          (opens_on Csi (opened (kept_of (in_second x Empty) 59)) (opened (kept_of (in_kind x y Empty) 58)) bytes first.count mask.count one two) w.in_ok-kind.ensures w.with_kind.ensures)
    ] in
    c.ended.ensures bytes are
