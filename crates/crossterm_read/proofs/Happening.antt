-- What happens, over whole scripts.
use Rattle.std.proofs.Common.{◌≡◌, inl, inr, Bool, false, List, [], ◌∷◌, ◌++◌, refl, ap, sym, subst, ◌∙◌, append-nil, append_assoc}
use Rattle.std.proofs.lemmas.List.Elements.{filter_map-append}
use Rattle.std.specs.List.{filter_map, flat_map}
use Rattle.crossterm_parse.specs.declared.marked.Marked.{Marked}
use Rattle.crossterm_types.specs.Seen.{Seen, Resize}
use Rattle.crossterm_parse.specs.Grammar.{Whole}
use Rattle.crossterm_parse.specs.Meaning.{meaning_of}
use Rattle.crossterm_parse.specs.Division.{Divides, IsUndecided}
use Rattle.crossterm_parse.proofs.DivisionLaws as laws
use Rattle.crossterm_parse.proofs.GrammarLaws.{nil_not_whole, whole_or_not}
use Rattle.crossterm_read.specs.Answers.{SourceAnswer, Gave, Nothing, Failed, gave}
use Rattle.crossterm_read.specs.Device.{DeviceAnswer, Bytes, Resized, Woken, Idle, Fault, marked_bytes}
use Rattle.crossterm_read.specs.Scripted.{AnswersWith}
use Rattle.std.specs.declared.io.ErrorKind.TheVariants.{UnexpectedEof, Interrupted}
use Rattle.crossterm_read.specs.Outcomes.{Outcome, Ended, Single, is_pasting, Produces, Happens, TakenLate, Delivers, DeliversBytes, DeliversAll, Answered, events_of, outcome_events, all_bytes, byte_events, Happened, HappensByDivision}

none_divided : (before : List Marked) → IsUndecided Whole before → Divides Whole (before ++ []) [] before
none_divided before u = record { joined = append-nil before; whole = tt; undecided = u }

abbrev Parts : List Marked → List Marked → List Outcome → List Marked → Type 0
Parts before bytes bs after = (parts : List (List Marked)) × Divides Whole (before ++ bytes) parts after × (flat_map byte_events bs ≡ filter_map meaning_of parts)

single_on : (before bytes : List Marked) (x : SourceAnswer) (bs : List Outcome) (after : List Marked) → Parts before bytes bs after → Parts before bytes (Single x ∷ bs) after
single_on before bytes x bs after p = p

-- an answer without bytes is passed over
passed : (before mid : List Marked) (ws : List DeviceAnswer) (x : SourceAnswer) (bs : List Outcome) (after : List Marked) → mid ≡ before → IsUndecided Whole before
    → (IsUndecided Whole mid → Parts mid (all_bytes ws) bs after) → Parts before (all_bytes ws) (Single x ∷ bs) after
passed before mid ws x bs after e u later =
    single_on before (all_bytes ws) x bs after (subst (λ (l : List Marked). Parts l (all_bytes ws) bs after) e (later (subst (IsUndecided Whole) (sym e) u)))

divided : (before : List Marked) (ws : List DeviceAnswer) (bs : List Outcome) (after : List Marked) → IsUndecided Whole before → Happens before ws bs after → Parts before (all_bytes ws) bs after
divided before [] [] after u h = ([], subst (λ (l : List Marked). Divides Whole (before ++ []) [] l) (sym h) (none_divided before u), refl)
divided before [] (b ∷ bs) after u h = absurd h
divided before (w ∷ ws) [] after u h = absurd h
divided before (Bytes (k ∷ ks) raw ∷ ws) (Ended es pasting ∷ bs) after u h =
    let parts = h.1.0 in
    let p = divided h.0 ws bs after h.1.1.undecided h.2 in (
      parts ++ p.0,
      subst (λ (l : List Marked). Divides Whole l (parts ++ p.0) after) (append_assoc before (marked_bytes (k ∷ ks) raw) (all_bytes ws))
          (laws.divide_join Whole (before ++ marked_bytes (k ∷ ks) raw) (all_bytes ws) parts p.0 h.0 after h.1.1 p.1),
      ap (λ (l : List Seen). l ++ flat_map byte_events bs) h.1.2
          ∙ ap (λ (l : List Seen). filter_map meaning_of parts ++ l) p.2 ∙ sym (filter_map-append meaning_of parts p.0),
    )
divided before (Bytes (k ∷ ks) raw ∷ ws) (Single x ∷ bs) after u h = absurd h.1
divided before (Bytes [] raw ∷ ws) (Ended es pasting ∷ bs) after u h = absurd h.1
divided before (Bytes [] raw ∷ ws) (Single x ∷ bs) after u h = passed before h.0 ws x bs after h.1.1 u (λ v. divided h.0 ws bs after v h.2)
divided before (Resized columns rows ∷ ws) (Ended es pasting ∷ bs) after u h = absurd h.1
divided before (Resized columns rows ∷ ws) (Single x ∷ bs) after u h = passed before h.0 ws x bs after h.1.1 u (λ v. divided h.0 ws bs after v h.2)
divided before (Woken ∷ ws) (Ended es pasting ∷ bs) after u h = absurd h.1
divided before (Woken ∷ ws) (Single x ∷ bs) after u h = passed before h.0 ws x bs after h.1.1 u (λ v. divided h.0 ws bs after v h.2)
divided before (Idle ∷ ws) (Ended es pasting ∷ bs) after u h = absurd h.1
divided before (Idle ∷ ws) (Single x ∷ bs) after u h = passed before h.0 ws x bs after h.1.1 u (λ v. divided h.0 ws bs after v h.2)
divided before (Fault kind ∷ ws) (Ended es pasting ∷ bs) after u h = absurd h.1
divided before (Fault kind ∷ ws) (Single x ∷ bs) after u h = passed before h.0 ws x bs after h.1.1 u (λ v. divided h.0 ws bs after v h.2)

pub happens_by_division : HappensByDivision
happens_by_division ws bs after h = divided [] ws bs after (laws.nil_undecided Whole nil_not_whole) h

pub gave-append : (xs ys : List SourceAnswer) → gave (xs ++ ys) ≡ gave xs ++ gave ys
gave-append [] ys = refl
gave-append (Gave x ∷ xs) ys = ap (λ (l : List Seen). x ∷ l) (gave-append xs ys)
gave-append (Nothing ∷ xs) ys = gave-append xs ys
gave-append (Failed kind ∷ xs) ys = gave-append xs ys

gave_late : (xs : List SourceAnswer) → TakenLate xs → gave xs ≡ []
gave_late [] s = absurd s
gave_late (Gave x ∷ xs) s = absurd s
gave_late (Nothing ∷ xs) s = ap gave s
gave_late (Failed kind ∷ xs) s = gave_late xs s.1

gave_delivers : (pasting : Bool) (es : List Seen) (xs : List SourceAnswer) → Delivers pasting es xs → gave xs ≡ es
gave_delivers pasting [] [] s = refl
gave_delivers pasting [] (x ∷ xs) s = gave_late (x ∷ xs) s.1
gave_delivers pasting (e ∷ es) [] s = absurd s
gave_delivers pasting (e ∷ es) (Gave x ∷ xs) s = ap (λ (y : Seen). y ∷ gave xs) s.0 ∙ ap (λ (l : List Seen). e ∷ l) (gave_delivers pasting es xs s.1)
gave_delivers pasting (e ∷ es) (Nothing ∷ xs) s = absurd s
gave_delivers pasting (e ∷ es) (Failed kind ∷ xs) s = gave_delivers pasting (e ∷ es) xs s.1

gave_bytes : (pasting : Bool) (es : List Seen) (xs : List SourceAnswer) → DeliversBytes pasting es xs → gave xs ≡ es
gave_bytes pasting [] xs (inl none) = ap gave none
gave_bytes pasting [] xs (inr late) = gave_late xs late.1
gave_bytes pasting (e ∷ es) xs s = gave_delivers pasting (e ∷ es) xs s

gave_single : (x : SourceAnswer) (rest : List SourceAnswer) → gave (x ∷ rest) ≡ outcome_events (Single x) ++ gave rest
gave_single (Gave x) rest = refl
gave_single Nothing rest = refl
gave_single (Failed kind) rest = refl

gave_all : (bs : List Outcome) (xs : List SourceAnswer) → DeliversAll bs xs → gave xs ≡ events_of bs
gave_all [] xs s = ap gave s
gave_all (Single x ∷ bs) xs s = ap gave s.1 ∙ gave_single x s.0 ∙ ap (λ (l : List Seen). outcome_events (Single x) ++ l) (gave_all bs s.0 s.2)
gave_all (Ended es pasting ∷ bs) xs s = ap gave s.2 ∙ gave-append s.0 s.1 ∙ ap (λ (l : List Seen). l ++ gave s.1) (gave_bytes pasting es s.0 s.3) ∙ ap (λ (l : List Seen). es ++ l) (gave_all bs s.1 s.4)

produces_some : (before : List Marked) (w : DeviceAnswer) → (b : Outcome) × (mid : List Marked) × Produces before w b mid
produces_some before (Bytes [] raw) = (Single (Failed UnexpectedEof), before, (refl, refl))
produces_some before (Bytes (k ∷ ks) raw) =
    let d = laws.some_division Whole nil_not_whole whole_or_not (before ++ marked_bytes (k ∷ ks) raw) in
    (Ended (filter_map meaning_of d.0) (is_pasting d.1), d.1, (d.0, d.2, refl, refl))
produces_some before (Resized columns rows) = (Single (Gave (Resize columns rows)), before, (refl, refl))
produces_some before Woken = (Single (Failed Interrupted), before, (refl, refl))
produces_some before Idle = (Single Nothing, before, (refl, refl))
produces_some before (Fault kind) = (Single (Failed kind), before, (refl, refl))

pub happens_some : (before : List Marked) (ws : List DeviceAnswer) → (bs : List Outcome) × (after : List Marked) × Happens before ws bs after
happens_some before [] = ([], before, refl)
happens_some before (w ∷ ws) = let b = produces_some before w in let r = happens_some b.1 ws in (b.0 ∷ r.0, r.1, (b.1, b.2, r.2))

-- no event comes past the end
end_produces : (before mid : List Marked) (b : Outcome) → Produces before (Bytes [] false) b mid → (outcome_events b ≡ []) × (mid ≡ before)
end_produces before mid (Ended es pasting) h = absurd h
end_produces before mid (Single x) h = (ap (λ (y : SourceAnswer). outcome_events (Single y)) h.0, h.1)

abbrev Extends : List Marked → List DeviceAnswer → List Outcome → Type 0
Extends before device_answers bs = (cs : List Outcome) × (last : List Marked) × (rest : List Seen) × Happens before device_answers cs last × (events_of cs ≡ events_of bs ++ rest)

extends : (before : List Marked) (device_answers answered left : List DeviceAnswer) (bs : List Outcome) (after : List Marked) → AnswersWith device_answers answered left → Happens before answered bs after → Extends before device_answers bs
extends before device_answers [] left [] after d h = let a = happens_some before device_answers in (a.0, a.1, events_of a.0, a.2, refl)
extends before device_answers [] left (b ∷ bs) after d h = absurd h
extends before device_answers (x ∷ xs) left [] after d h = absurd h
extends before [] (x ∷ xs) left (b ∷ bs) after d h =
    let q = end_produces before h.0 b (subst (λ (w : DeviceAnswer). Produces before w b h.0) d.0 h.1) in
    let r : Extends before [] bs = subst (λ (l : List Marked). Extends l [] bs) q.1 (extends h.0 [] xs left bs after d.1 h.2) in
    (r.0, r.1, r.2, r.3, r.4 ∙ ap (λ (l : List Seen). (l ++ events_of bs) ++ r.2) (sym q.0))
extends before (w ∷ ws) (x ∷ xs) left (b ∷ bs) after d h =
    let r = extends h.0 ws xs left bs after d.1 h.2 in
    (b ∷ r.0, r.1, r.2, (h.0, subst (λ (y : DeviceAnswer). Produces before y b h.0) d.0 h.1, r.3), ap (λ (l : List Seen). outcome_events b ++ l) r.4 ∙ sym (append_assoc (outcome_events b) (events_of bs) r.2))

-- The events among the answers are a front of what happens.
pub answered_front : (device_answers : List DeviceAnswer) (list : List SourceAnswer) → Answered device_answers list → (all : List Seen) × (rest : List Seen) × Happened device_answers all × (all ≡ gave list ++ rest)
answered_front device_answers list t =
    let r = extends [] device_answers t.answered t.left t.outcomes t.undecided t.answering t.happens in (
      events_of r.0,
      gave t.more ++ r.2,
      (r.0, r.1, r.3, refl),
      r.4 ∙ ap (λ (l : List Seen). l ++ r.2) (sym (gave_all t.outcomes (list ++ t.more) t.delivers) ∙ gave-append list t.more) ∙ append_assoc (gave list) (gave t.more) r.2,
    )
