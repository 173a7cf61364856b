use Rattle.std.proofs.Common.{rules, ◌++◌, ◌+◌, ℕ, true, List, [], inr, take, refl, sym, ap, subst, arith, ◌∙◌}
use Rattle.std.proofs.lemmas.List.{append-nil}
use Rattle.crossterm_parse.specs.States.{is_paste}
use Rattle.crossterm_parse.specs.Marked.{marked}
use Rattle.crossterm_parse.specs.View.{AdvancesOver}
use Rattle.crossterm_parse.specs.declared.state.State.{State}
use Rattle.crossterm_parse.proofs.ViewLaws.{advance_none}
use Rattle.crossterm_c.specs.Feeding.{after_paste, view_of}
use Rattle.crossterm_c.proofs.PastingLaws.{paste_closes, paste_more, skipped}
use Rattle.crossterm_c.proofs.feed.feed_paste.Goals as goal

pub loop-place-init : goal.loop-place-init
loop-place-init g c = record {
  within = omega arith;
  pasting = c.requires;
  pastes = λ more raw kept waiting.
      subst (λ (bs : List ℕ). AdvancesOver (view_of c.args.state.now kept waiting) (view_of c.args.state.now bs waiting) []) (sym (append-nil kept)) (advance_none (view_of c.args.state.now kept waiting));
}

pub returns-then-place-piece-clause-pastes : goal.returns-then-place-piece-clause-pastes
returns-then-place-piece-clause-pastes g c more raw kept waiting =
    skipped c.args.state.now c.loop-place.state kept waiting c.args.piece.now more raw c.loop-place.place c.skip_text-place.result (omega (arith, c.skip_text-place.ensures.within))
    (λ before. c.skip_text-place.ensures.puts before waiting) (c.loop-place.invariant.pastes more raw kept waiting)

pub returns-then-not-put_in_paste : goal.returns-then-not-put_in_paste
returns-then-not-put_in_paste g c = record {
  taken = omega arith;
  pastes = λ more raw kept waiting.
      let over = paste_closes c.args.state.now c.loop-place.state kept waiting c.args.piece.now more raw _ _ (omega arith) refl (λ pause. c.put_in_paste.ensures.no (search rules) c.loop-place.invariant.pasting raw pause)
      (skipped c.args.state.now c.loop-place.state kept waiting c.args.piece.now more raw c.loop-place.place c.skip_text-place.result (omega (arith, c.skip_text-place.ensures.within))
      (λ before. c.skip_text-place.ensures.puts before waiting) (c.loop-place.invariant.pastes more raw kept waiting)) in
      subst (λ (s : State). AdvancesOver (view_of c.args.state.now kept waiting)
      (after_paste s (kept ++ take (c.loop-place.place + c.skip_text-place.result + 1) c.args.piece.now) waiting true)
      (take (c.loop-place.place + c.skip_text-place.result + 1) (marked c.args.piece.now more raw))) (sym c.end.ensures) over;
  all = inr refl;
  some = λ _. omega arith;
  ends = λ _. omega arith;
  pasting = ap (λ (s : State). is_paste s) c.end.ensures;
}

pub loop-place-preserved : goal.loop-place-preserved
loop-place-preserved g c = record {
  within = omega arith;
  pasting = c.put_in_paste.ensures.pasting ∙ c.loop-place.invariant.pasting;
  pastes = λ more raw kept waiting.
      paste_more c.args.state.now c.loop-place.state c.put_in_paste.new.self kept waiting c.args.piece.now more raw _ _ (omega arith) refl c.loop-place.invariant.pasting (c.put_in_paste.ensures.pasting ∙ c.loop-place.invariant.pasting)
      (λ pause. c.put_in_paste.ensures.yes (search rules) raw pause)
      (skipped c.args.state.now c.loop-place.state kept waiting c.args.piece.now more raw c.loop-place.place c.skip_text-place.result (omega (arith, c.skip_text-place.ensures.within))
      (λ before. c.skip_text-place.ensures.puts before waiting) (c.loop-place.invariant.pastes more raw kept waiting));
}
