use Rattle.std.proofs.Common.{◌≡◌, ◌-◌, ℕ, arith, refl, length, ap, sym, ◌∙◌, Option, slice_index, take, drop}
use Rattle.crossterm_parse.specs.Meaning.{after_ss3}
use Rattle.crossterm_parse.specs.Transitions.{state_after, Whole}
use Rattle.crossterm_parse.specs.declared.meaning.Meaning.{Meaning}
use Rattle.crossterm_parse.specs.declared.state.State.TheVariants.{Escape, Ss3, Csi}
use Rattle.crossterm_parse.proofs.WholeLaws.{ends_at_once, ends_behind}
use Rattle.crossterm_parse.proofs.TakingLaws.{rest_at, rest_size}
use Rattle.crossterm_parse.proofs.whole.sequence_in.Goals as goal

pub returns-in-79 : goal.returns-in-79
returns-in-79 c =
    let bytes = c.args.bytes.now in
    let m = c.meaning_after_ss3.result in
    let whole : Whole (after_ss3 (slice_index bytes 1)) ≡ Whole m = ap (λ (m : Option Meaning). Whole m) (sym c.meaning_after_ss3.ensures) in
    ends_behind Escape Ss3 bytes c.args.raw (record { meaning = m; count = 1 }) (omega arith) (λ raw pause. ap (λ (b : ℕ). state_after Escape b raw pause) c.in-79.is) refl
    (ends_at_once Ss3 (take (length bytes - 1) (drop 1 bytes)) c.args.raw m (omega (arith, rest_size bytes 1)) (λ pause. ap (λ (b : ℕ). Whole (after_ss3 b)) (rest_at bytes 1 0) ∙ whole))

pub returns-in-Some : goal.returns-in-Some
returns-in-Some c =
    ends_behind Escape Csi c.args.bytes.now c.args.raw c.in-Some.sequence (omega arith) (λ raw pause. ap (λ (b : ℕ). state_after Escape b raw pause) c.in-91.is) refl c.in-Some.ensures
