-- Two runs of the same calls over the same answers have one result.
use Rattle.std.proofs.Common.{◌≡◌, inl, inr, ℕ, Bool, true, false, List, [], ◌∷◌, ◌++◌, map, Option, Some, None, Result, Ok, Err, ap, sym, subst, ◌∙◌, append_assoc}
use Rattle.std.proofs.lemmas.Grind.{flat_map-append}
use Rattle.std.specs.List.{AllByRecursion}
use Rattle.std.specs.declared.io.ErrorKind.{ErrorKind}
use Rattle.std.specs.declared.io.ErrorKind.TheVariants.{Other}
use Rattle.crossterm_types.specs.Admitting.{admitted, is_cursor_position}
use Rattle.crossterm_types.specs.Seen.{Seen}
use Rattle.crossterm_parse.specs.Division.{UniqueDivision}
use Rattle.crossterm_parse.specs.Grammar.{Whole}
use Rattle.crossterm_parse.proofs.DivisionLaws as laws
use Rattle.crossterm_parse.proofs.GrammarLaws.{nil_not_whole, whole_closes}
use Rattle.crossterm_read.specs.Answers.{SourceAnswer}
use Rattle.crossterm_read.specs.Calls.{Run, Step, empty, all_answers, request}
use Rattle.crossterm_read.specs.Device.{DeviceAnswer}
use Rattle.crossterm_read.specs.OneResult.{IsNoKeyboardQuery, IsUnrefused, OneResult, OneShown, PastesApart, ShowsUnrefused}
use Rattle.crossterm_read.specs.Outcomes.{Answered, Outcome}
use Rattle.crossterm_read.specs.Queries.{QueryReplies}
use Rattle.crossterm_read.specs.Replies.{Replied, ToTake, Fault, replied, shown}
use Rattle.crossterm_read.specs.Steps.{ReadReplies}
use Rattle.crossterm_read.specs.Store.{EventStore}
use Rattle.crossterm_read.specs.declared.read.call.Call.{Call}
use Rattle.crossterm_read.specs.declared.read.call.Call.TheVariants as call
use Rattle.crossterm_read.proofs.Fronts.{Alike, AreClean, all_apart, all_front, all_outright, outcomes_alike, outright}
use Rattle.crossterm_read.proofs.Happening.{happens_some}
use Rattle.crossterm_read.proofs.Settled.{run_clean, run_settles}

one : UniqueDivision Whole
one = laws.unique_division Whole nil_not_whole whole_closes

-- What was answered, and more, is what is answered outright.
outright_of : (device_answers : List DeviceAnswer) (xs : List SourceAnswer) (d : Answered device_answers xs) → PastesApart device_answers → AreClean xs
    → (rest : List SourceAnswer) × (xs ++ rest ≡ all_outright d.outcomes)
outright_of device_answers xs d apart clean =
    let all = happens_some [] device_answers in
    let parts = all_apart one [] device_answers d.answered d.left d.outcomes all.0 d.undecided all.1 d.answering d.happens all.2 (apart all.0 all.1 all.2) in
    all_front d.outcomes xs d.more parts clean d.delivers

-- Fronts of the same answers go on to one list.
abbrev Joins : List SourceAnswer → List SourceAnswer → Type 0
Joins xs ys = (a : List SourceAnswer) × (b : List SourceAnswer) × (xs ++ a ≡ ys ++ b)

joins : (xs ys a b : List SourceAnswer) (bs cs : List Outcome) → Alike bs cs → xs ++ a ≡ all_outright bs → ys ++ b ≡ all_outright cs → Joins xs ys
joins xs ys a b bs cs (inl w) e h = (
  a ++ all_outright w.0,
  b,
  sym (append_assoc xs a (all_outright w.0)) ∙ ap (λ (l : List SourceAnswer). l ++ all_outright w.0) e ∙ sym (flat_map-append outright bs w.0) ∙ ap all_outright (sym w.1) ∙ sym h,
)
joins xs ys a b bs cs (inr w) e h = (
  a,
  b ++ all_outright w.0,
  e ∙ ap all_outright w.1 ∙ flat_map-append outright cs w.0 ∙ ap (λ (l : List SourceAnswer). l ++ all_outright w.0) (sym h) ∙ append_assoc ys b (all_outright w.0),
)

pub one_result : OneResult
one_result device_answers calls answers others held kept apart p fine q good =
    let here = outright_of device_answers (all_answers p.drawn) p.answered apart (run_clean calls p.drawn p.replies empty p.last p.run fine) in
    let there = outright_of device_answers (all_answers q.drawn) q.answered apart (run_clean calls q.drawn q.replies empty q.last q.run good) in
    let alike = outcomes_alike one [] device_answers p.answered.answered q.answered.answered p.answered.left q.answered.left p.answered.outcomes q.answered.outcomes p.answered.undecided q.answered.undecided
    p.answered.answering q.answered.answering p.answered.happens q.answered.happens in
    let lists = joins (all_answers p.drawn) (all_answers q.drawn) here.0 there.0 p.answered.outcomes q.answered.outcomes alike here.1 there.1 in
    let both = run_settles calls p.drawn q.drawn p.replies q.replies lists.0 lists.1 empty p.last q.last p.run fine q.run good lists.2 in (
      p.shows ∙ ap (map shown) both.0 ∙ sym q.shows,
      p.left ∙ ap (λ (s : EventStore). map (λ h. h.0) s.held) both.1 ∙ sym q.left,
    )

-- ---- by what callers see alone

of_poll : (p : Result Bool ErrorKind) (r : Replied) → r ≡ replied p → ShowsUnrefused (shown r) → IsUnrefused r
of_poll (Ok b) r e h = subst IsUnrefused (sym e) tt
of_poll (Err kind) r e h = subst IsUnrefused (sym e) (subst (λ (y : Replied). ShowsUnrefused (shown y)) e h)

of_take : (x : Option (Seen × ℕ)) (r : Replied) → r ≡ ToTake x → IsUnrefused r
of_take x r e = subst IsUnrefused (sym e) tt

of_fault : (kind : ErrorKind) (r : Replied) → r ≡ Fault kind → ShowsUnrefused (shown r) → IsUnrefused r
of_fault kind r e h = subst IsUnrefused (sym e) (subst (λ (y : Replied). ShowsUnrefused (shown y)) e h)

of_read : (f : Seen → Bool) (end : Result Bool ErrorKind) (s t : EventStore) (r : Replied) → ReadReplies f end s t r → ShowsUnrefused (shown r) → IsUnrefused r
of_read f (Ok true) s t r a h = of_take a.0 r a.2
of_read f (Ok false) s t r a h = of_take None r a.1
of_read f (Err kind) s t r a h = of_fault kind r a.1 h

of_query : (f : Seen → Bool) (p : Result Bool ErrorKind) (s t : EventStore) (r : Replied) → QueryReplies f p s t r → ShowsUnrefused (shown r) → IsUnrefused r
of_query f (Ok true) s t r a h = of_take (Some a.0) r a.2
of_query f (Ok false) s t r a h = of_fault Other r a.1 h
of_query f (Err kind) s t r a h = of_fault kind r a.1 h

of_step : (c : Call) (zs : List SourceAnswer) (s t : EventStore) (r : Replied) → IsNoKeyboardQuery c → Step (request c) zs s t r → ShowsUnrefused (shown r) → IsUnrefused r
of_step (call.Poll tries f) zs s t r plain a h = of_poll a.0 r a.2 h
of_step (call.Read tries f) zs s t r plain a h = of_read (admitted f) a.0 a.1 t r a.4 h
of_step (call.Take f) zs s t r plain a h = of_read (admitted f) (Ok true) s t r a.1 h
of_step (call.Position tries) zs s t r plain a h = of_query is_cursor_position a.1 a.0 t r a.3 h
of_step (call.Keyboard tries) zs s t r plain a h = absurd plain

of_run : (calls : List Call) (zss : List (List SourceAnswer)) (rs : List Replied) (s t : EventStore) → AllByRecursion IsNoKeyboardQuery calls → Run s calls zss rs t → AllByRecursion ShowsUnrefused (map shown rs)
    → AllByRecursion IsUnrefused rs
of_run [] [] [] s t plain a h = tt
of_run [] (zs ∷ zss) rs s t plain a h = absurd a
of_run [] [] (r ∷ rs) s t plain a h = absurd a
of_run (c ∷ cs) [] rs s t plain a h = absurd a
of_run (c ∷ cs) (zs ∷ zss) [] s t plain a h = absurd a
of_run (c ∷ cs) (zs ∷ zss) (r ∷ rs) s t plain a h = (of_step c zs s a.0 r plain.0 a.1 h.0, of_run cs zss rs a.0 t plain.1 a.2 h.1)

pub one_shown : OneShown
one_shown device_answers calls answers others held kept apart plain p fine q good =
    one_result device_answers calls answers others held kept apart p (of_run calls p.drawn p.replies empty p.last plain p.run (subst (AllByRecursion ShowsUnrefused) p.shows fine))
    q (of_run calls q.drawn q.replies empty q.last plain q.run (subst (AllByRecursion ShowsUnrefused) q.shows good))
