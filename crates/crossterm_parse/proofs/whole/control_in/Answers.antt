use Rattle.std.proofs.Common.{◌≡◌, ◌<◌, ℕ, Bool, true, arith, refl, length, ap, sym, ◌∙◌, Option}
use Rattle.std.proofs.lemmas.Bool.Decides.{nat_tests}
use Rattle.crossterm_parse.specs.Transitions.{empty_parameters, state_after, Open, Whole}
use Rattle.crossterm_parse.specs.declared.meaning.Meaning.{Meaning}
use Rattle.crossterm_parse.specs.declared.state.State.TheVariants.{Csi, Sgr}
use Rattle.crossterm_parse.proofs.WholeLaws.{ends_at_once, ends_behind}
use Rattle.crossterm_parse.proofs.TakingLaws.{rest_size}
use Rattle.crossterm_parse.proofs.whole.control_in.Goals as goal

pub overflow_add-result : goal.overflow_add-result
overflow_add-result c =
    let bytes = c.args.bytes.now in
    let some : 0 < length bytes = grind (arith, nat_tests) in
    let within = (c.in-Some.ensures true).within in
    omega (arith, some, within, rest_size bytes 1)

pub returns-in-Some : goal.returns-in-Some
returns-in-Some c =
    let bytes = c.args.bytes.now in
    let some : 0 < length bytes = grind (arith, nat_tests) in
    let opens : (raw pause : Bool) → state_after Csi 60 raw pause ≡ Open (Sgr empty_parameters) = λ raw pause. refl in
    ends_behind Csi (Sgr empty_parameters) bytes c.args.raw c.in-Some.report some
    (λ raw pause. ap (λ (b : ℕ). state_after Csi b raw pause) c.in-60.is ∙ opens raw pause) refl (c.in-Some.ensures c.args.raw)

pub returns-in_default : goal.returns-in_default
returns-in_default c =
    let some : 0 < length c.args.bytes.now = grind (arith, nat_tests) in
    ends_at_once Csi c.args.bytes.now c.args.raw c.meaning_after_csi.result some
    (λ pause. c.is_whole.ensures c.if-is_whole.true c.args.raw pause ∙ ap (λ (m : Option Meaning). Whole m) (sym c.meaning_after_csi.ensures))
