-- Fronts of the same answers: what comes of them, and what is answered if memory isn't refused.
use Rattle.std.proofs.Common.{◌≡◌, ◌≢◌, ◌⊎◌, inl, inr, Bool, false, List, [], ◌∷◌, ◌++◌, map, refl, ap, sym, subst, ◌∙◌, append-nil, append_assoc}
use mathlib.Core.Bool.{true≢false}
use Rattle.std.proofs.lemmas.List.{append_cancel_left}
use Rattle.std.specs.List.{AllByRecursion, filter_map, flat_map}
use Rattle.std.specs.declared.io.ErrorKind.TheVariants.{OutOfMemory}
use Rattle.crossterm_parse.specs.declared.marked.Marked.{Marked}
use Rattle.crossterm_parse.specs.Division.{UniqueDivision}
use Rattle.crossterm_parse.specs.Grammar.{Whole}
use Rattle.crossterm_parse.specs.Meaning.{meaning_of}
use Rattle.crossterm_parse.proofs.DivisionLaws.{two_fronts}
use Rattle.crossterm_types.specs.Seen.{Seen}
use Rattle.crossterm_read.specs.Answers.{SourceAnswer, Gave, Nothing, Failed}
use Rattle.crossterm_read.specs.Device.{DeviceAnswer, Bytes, Resized, Woken, Idle, Fault, marked_bytes}
use Rattle.crossterm_read.specs.OneResult.{IsApart}
use Rattle.crossterm_read.specs.Outcomes.{Ended, Happens, IsAnsweredBy, Outcome, Produces, Single, TakenLate, Delivers, DeliversBytes, DeliversAll, is_pasting}
use Rattle.crossterm_read.specs.Scripted.{AnswersWith}

-- ---- one answer has one outcome

one_answer : (w : DeviceAnswer) (x y : SourceAnswer) → IsAnsweredBy w x → IsAnsweredBy w y → x ≡ y
one_answer (Bytes [] raw) x y d e = d ∙ sym e
one_answer (Bytes (b ∷ bs) raw) x y d e = absurd d
one_answer (Resized columns rows) x y d e = d ∙ sym e
one_answer Woken x y d e = d ∙ sym e
one_answer Idle x y d e = d ∙ sym e
one_answer (Fault kind) x y d e = d ∙ sym e

abbrev Same : Outcome → Outcome → List Marked → List Marked → Type 0
Same b c after other = (b ≡ c) × (after ≡ other)

one_single : (before : List Marked) (w : DeviceAnswer) (x y : SourceAnswer) (after other : List Marked)
    → IsAnsweredBy w x × (after ≡ before) → IsAnsweredBy w y × (other ≡ before) → Same (Single x) (Single y) after other
one_single before w x y after other d e = (ap Single (one_answer w x y d.0 e.0), d.1 ∙ sym e.1)

one_produced : UniqueDivision Whole → (before : List Marked) (w : DeviceAnswer) (b c : Outcome) (after other : List Marked)
    → Produces before w b after → Produces before w c other → Same b c after other
one_produced unique before (Bytes (k ∷ ks) raw) (Ended es pasting) (Ended fs shut) after other d e =
    let u = unique (before ++ marked_bytes (k ∷ ks) raw) d.0 e.0 after other d.1 e.1 in
    let events : es ≡ fs = d.2 ∙ ap (filter_map meaning_of) u.0 ∙ sym e.2 in
    let same : pasting ≡ shut = d.3 ∙ ap is_pasting u.1 ∙ sym e.3 in
    (ap (λ (l : List Seen). Ended l pasting) events ∙ ap (Ended fs) same, u.1)
one_produced unique before (Bytes (k ∷ ks) raw) (Ended es pasting) (Single y) after other d e = absurd e
one_produced unique before (Bytes (k ∷ ks) raw) (Single x) c after other d e = absurd d
one_produced unique before (Bytes [] raw) (Ended es pasting) c after other d e = absurd d
one_produced unique before (Bytes [] raw) (Single x) (Ended fs pasting) after other d e = absurd e
one_produced unique before (Bytes [] raw) (Single x) (Single y) after other d e = one_single before (Bytes [] raw) x y after other d e
one_produced unique before (Resized columns rows) (Ended es pasting) c after other d e = absurd d
one_produced unique before (Resized columns rows) (Single x) (Ended fs pasting) after other d e = absurd e
one_produced unique before (Resized columns rows) (Single x) (Single y) after other d e = one_single before (Resized columns rows) x y after other d e
one_produced unique before Woken (Ended es pasting) c after other d e = absurd d
one_produced unique before Woken (Single x) (Ended fs pasting) after other d e = absurd e
one_produced unique before Woken (Single x) (Single y) after other d e = one_single before Woken x y after other d e
one_produced unique before Idle (Ended es pasting) c after other d e = absurd d
one_produced unique before Idle (Single x) (Ended fs pasting) after other d e = absurd e
one_produced unique before Idle (Single x) (Single y) after other d e = one_single before Idle x y after other d e
one_produced unique before (Fault kind) (Ended es pasting) c after other d e = absurd d
one_produced unique before (Fault kind) (Single x) (Ended fs pasting) after other d e = absurd e
one_produced unique before (Fault kind) (Single x) (Single y) after other d e = one_single before (Fault kind) x y after other d e

-- ---- of two lists of outcomes of the same answers one is a front of the other

abbrev pub Alike : {X : Type 0} → List X → List X → Type 0
Alike {X} bs cs = ((x : List X) × (cs ≡ bs ++ x)) ⊎ ((x : List X) × (bs ≡ cs ++ x))

alike_more : {X : Type 0} (b c : X) (bs cs : List X) → b ≡ c → Alike bs cs → Alike (b ∷ bs) (c ∷ cs)
alike_more b c bs cs e (inl w) = inl (w.0, ap (λ l. c ∷ l) w.1 ∙ ap (λ y. y ∷ (bs ++ w.0)) (sym e))
alike_more b c bs cs e (inr w) = inr (w.0, ap (λ l. b ∷ l) w.1 ∙ ap (λ y. y ∷ (cs ++ w.0)) e)

end_apart : (before : List Marked) (b : Outcome) (mid : List Marked) → Produces before (Bytes [] false) b mid → IsApart b
end_apart before (Ended es pasting) mid p = absurd p
end_apart before (Single x) mid p = tt

module _ (unique : UniqueDivision Whole) where
  pub one_outcomes : (before : List Marked) (ws : List DeviceAnswer) (bs cs : List Outcome) (after other : List Marked)
      → Happens before ws bs after → Happens before ws cs other → bs ≡ cs
  one_outcomes before [] [] [] after other d e = refl
  one_outcomes before [] (b ∷ bs) cs after other d e = absurd d
  one_outcomes before [] [] (c ∷ cs) after other d e = absurd e
  one_outcomes before (w ∷ ws) [] cs after other d e = absurd d
  one_outcomes before (w ∷ ws) (b ∷ bs) [] after other d e = absurd e
  one_outcomes before (w ∷ ws) (b ∷ bs) (c ∷ cs) after other d e =
      let first = one_produced unique before w b c d.0 e.0 d.1 e.1 in
      let rest = one_outcomes d.0 ws bs cs after other d.2 (subst (λ (l : List Marked). Happens l ws cs other) (sym first.1) e.2) in
      ap (λ (x : Outcome). x ∷ bs) first.0 ∙ ap (λ (l : List Outcome). c ∷ l) rest

  -- the first outcomes of two lists, whose first answers are one
  first_alike : (before : List Marked) (v w : DeviceAnswer) (b c : Outcome) (mid other : List Marked) → v ≡ w → Produces before v b mid → Produces before w c other → Same b c mid other
  first_alike before v w b c mid other e d h = one_produced unique before w b c mid other (subst (λ (y : DeviceAnswer). Produces before y b mid) e d) h

  pub outcomes_alike : (before : List Marked) (l ws us k m : List DeviceAnswer) (bs cs : List Outcome) (after other : List Marked) → AnswersWith l ws k → AnswersWith l us m
      → Happens before ws bs after → Happens before us cs other → Alike bs cs
  outcomes_alike before l [] us k m [] cs after other a b d e = inl (cs, refl)
  outcomes_alike before l [] us k m (b ∷ bs) cs after other a h d e = absurd d
  outcomes_alike before l (w ∷ ws) [] k m bs [] after other a b d e = inr (bs, refl)
  outcomes_alike before l (w ∷ ws) [] k m bs (c ∷ cs) after other a b d e = absurd e
  outcomes_alike before l (w ∷ ws) (u ∷ us) k m [] cs after other a b d e = absurd d
  outcomes_alike before l (w ∷ ws) (u ∷ us) k m (b ∷ bs) [] after other a h d e = absurd e
  outcomes_alike before [] (w ∷ ws) (u ∷ us) k m (b ∷ bs) (c ∷ cs) after other a h d e =
      let first = first_alike before w u b c d.0 e.0 (a.0 ∙ sym h.0) d.1 e.1 in
      alike_more b c bs cs first.0 (outcomes_alike d.0 [] ws us k m bs cs after other a.1 h.1 d.2 (subst (λ (y : List Marked). Happens y us cs other) (sym first.1) e.2))
  outcomes_alike before (v ∷ l) (w ∷ ws) (u ∷ us) k m (b ∷ bs) (c ∷ cs) after other a h d e =
      let first = first_alike before w u b c d.0 e.0 (a.0 ∙ sym h.0) d.1 e.1 in
      alike_more b c bs cs first.0 (outcomes_alike d.0 l ws us k m bs cs after other a.1 h.1 d.2 (subst (λ (y : List Marked). Happens y us cs other) (sym first.1) e.2))

  -- bytes that end an event leave no paste open in a front either
  pub all_apart : (before : List Marked) (l ws k : List DeviceAnswer) (bs cs : List Outcome) (after last : List Marked) → AnswersWith l ws k → Happens before ws bs after → Happens before l cs last
      → AllByRecursion IsApart cs → AllByRecursion IsApart bs
  all_apart before l [] k [] cs after last a d e h = tt
  all_apart before l [] k (b ∷ bs) cs after last a d e h = absurd d
  all_apart before l (w ∷ ws) k [] cs after last a d e h = absurd d
  all_apart before [] (w ∷ ws) k (b ∷ bs) cs after last a d e h =
      (end_apart before b d.0 (subst (λ (y : DeviceAnswer). Produces before y b d.0) a.0 d.1), all_apart d.0 [] ws k bs [] after d.0 a.1 d.2 refl tt)
  all_apart before (v ∷ l) (w ∷ ws) k (b ∷ bs) [] after last a d e h = absurd e
  all_apart before (v ∷ l) (w ∷ ws) k (b ∷ bs) (c ∷ cs) after last a d e h =
      let first = first_alike before w v b c d.0 e.0 a.0 d.1 e.1 in
      (subst IsApart (sym first.0) h.0, all_apart d.0 l ws k bs cs after last a.1 d.2 (subst (λ (y : List Marked). Happens y l cs last) (sym first.1) e.2) h.1)

-- ---- what is answered for outcomes if memory isn't refused

abbrev pub outright : Outcome → List SourceAnswer
outright (Ended [] pasting) = Nothing ∷ []
outright (Ended (e ∷ es) pasting) = map Gave (e ∷ es)
outright (Single x) = x ∷ []

abbrev pub all_outright : List Outcome → List SourceAnswer
all_outright bs = flat_map outright bs

-- An answer that doesn't say that memory was refused.
abbrev pub IsClean : SourceAnswer → Type 0
IsClean (Gave x) = Unit {0}
IsClean Nothing = Unit {0}
IsClean (Failed kind) = kind ≢ OutOfMemory

abbrev pub AreClean : List SourceAnswer → Type 0
AreClean xs = AllByRecursion IsClean xs

nil_left : {X : Type 0} (xs ys : List X) → xs ++ ys ≡ [] → xs ≡ []
nil_left [] ys e = refl
nil_left (x ∷ xs) ys e = cc

-- Some answers are a front of these.
abbrev IsFront : List SourceAnswer → List SourceAnswer → Type 0
IsFront xs all = (rest : List SourceAnswer) × (xs ++ rest ≡ all)

front_more : (x y : SourceAnswer) (xs all : List SourceAnswer) → x ≡ y → IsFront xs all → IsFront (x ∷ xs) (y ∷ all)
front_more x y xs all e w = (w.0, ap (λ (z : SourceAnswer). z ∷ (xs ++ w.0)) e ∙ ap (λ (l : List SourceAnswer). y ∷ l) w.1)

late_front : (xs more : List SourceAnswer) → AreClean xs → TakenLate (xs ++ more) → IsFront xs (Nothing ∷ [])
late_front [] more c s = (Nothing ∷ [], refl)
late_front (Gave x ∷ xs) more c s = absurd s
late_front (Nothing ∷ xs) more c s = front_more Nothing Nothing xs [] refl ([], append-nil xs ∙ nil_left xs more s)
late_front (Failed kind ∷ xs) more c s = absurd (c.0 s.0)

late_whole : (xs : List SourceAnswer) → AreClean xs → TakenLate xs → xs ≡ Nothing ∷ []
late_whole [] c s = absurd s
late_whole (Gave x ∷ xs) c s = absurd s
late_whole (Nothing ∷ xs) c s = ap (λ (l : List SourceAnswer). Nothing ∷ l) s
late_whole (Failed kind ∷ xs) c s = absurd (c.0 s.0)

delivers_front : (pasting : Bool) (es : List Seen) (xs more : List SourceAnswer) → pasting ≡ false → AreClean xs → Delivers pasting es (xs ++ more) → IsFront xs (map Gave es)
delivers_front pasting es [] more f c s = (map Gave es, refl)
delivers_front pasting [] (x ∷ xs) more f c s = absurd (true≢false (sym s.0 ∙ f))
delivers_front pasting (e ∷ es) (Gave x ∷ xs) more f c s = front_more (Gave x) (Gave e) xs (map Gave es) (ap Gave s.0) (delivers_front pasting es xs more f c.1 s.1)
delivers_front pasting (e ∷ es) (Nothing ∷ xs) more f c s = absurd s
delivers_front pasting (e ∷ es) (Failed kind ∷ xs) more f c s = absurd (c.0 s.0)

delivers_whole : (pasting : Bool) (es : List Seen) (xs : List SourceAnswer) → pasting ≡ false → AreClean xs → Delivers pasting es xs → xs ≡ map Gave es
delivers_whole pasting [] [] f c s = refl
delivers_whole pasting [] (x ∷ xs) f c s = absurd (true≢false (sym s.0 ∙ f))
delivers_whole pasting (e ∷ es) [] f c s = absurd s
delivers_whole pasting (e ∷ es) (Gave x ∷ xs) f c s = ap (λ (y : Seen). Gave y ∷ xs) s.0 ∙ ap (λ (l : List SourceAnswer). Gave e ∷ l) (delivers_whole pasting es xs f c.1 s.1)
delivers_whole pasting (e ∷ es) (Nothing ∷ xs) f c s = absurd s
delivers_whole pasting (e ∷ es) (Failed kind ∷ xs) f c s = absurd (c.0 s.0)

bytes_front : (pasting : Bool) (es : List Seen) (xs more : List SourceAnswer) → IsApart (Ended es pasting) → AreClean xs → DeliversBytes pasting es (xs ++ more) → IsFront xs (outright (Ended es pasting))
bytes_front pasting [] xs more f c (inl none) = (more, none)
bytes_front pasting [] xs more f c (inr late) = late_front xs more c late.1
bytes_front pasting (e ∷ es) xs more f c s = delivers_front pasting (e ∷ es) xs more f c s

bytes_whole : (pasting : Bool) (es : List Seen) (xs : List SourceAnswer) → IsApart (Ended es pasting) → AreClean xs → DeliversBytes pasting es xs → xs ≡ outright (Ended es pasting)
bytes_whole pasting [] xs f c (inl none) = none
bytes_whole pasting [] xs f c (inr late) = late_whole xs c late.1
bytes_whole pasting (e ∷ es) xs f c s = delivers_whole pasting (e ∷ es) xs f c s

clean_front : (xs more : List SourceAnswer) → AreClean (xs ++ more) → AreClean xs
clean_front [] more c = tt
clean_front (x ∷ xs) more c = (c.0, clean_front xs more c.1)

clean_rest : (xs more : List SourceAnswer) → AreClean (xs ++ more) → AreClean more
clean_rest [] more c = c
clean_rest (x ∷ xs) more c = clean_rest xs more c.1

pub all_front : (bs : List Outcome) (xs more : List SourceAnswer) → AllByRecursion IsApart bs → AreClean xs → DeliversAll bs (xs ++ more) → IsFront xs (all_outright bs)
all_front [] xs more h c s = ([], append-nil xs ∙ nil_left xs more s)
all_front (Single y ∷ bs) [] more h c s = (all_outright (Single y ∷ bs), refl)
all_front (Single y ∷ bs) (x ∷ xs) more h c s =
    let head : x ≡ y = let is = s.1 in cc in
    let tail : xs ++ more ≡ s.0 = let is = s.1 in cc in
    front_more x y xs (all_outright bs) head (all_front bs xs more h.1 c.1 (subst (DeliversAll bs) (sym tail) s.2))
all_front (Ended es pasting ∷ bs) xs more h c s = elim (two_fronts xs s.0 more s.1 s.2) [
  | inl w ↦
      let r = bytes_front pasting es xs w.0 h.0 c (subst (DeliversBytes pasting es) w.1 s.3) in
      (r.0 ++ all_outright bs, sym (append_assoc xs r.0 (all_outright bs)) ∙ ap (λ (l : List SourceAnswer). l ++ all_outright bs) r.1)
  | inr w ↦
      let clean : AreClean (s.0 ++ w.0) = subst AreClean w.1 c in
      let whole = bytes_whole pasting es s.0 h.0 (clean_front s.0 w.0 clean) s.3 in
      let rest : w.0 ++ more ≡ s.1 = append_cancel_left s.0 (w.0 ++ more) s.1 (sym (append_assoc s.0 w.0 more) ∙ ap (λ (l : List SourceAnswer). l ++ more) (sym w.1) ∙ s.2) in
      let r = all_front bs w.0 more h.1 (clean_rest s.0 w.0 clean) (subst (DeliversAll bs) (sym rest) s.4) in (
        r.0,
        ap (λ (l : List SourceAnswer). l ++ r.0) w.1 ∙ append_assoc s.0 w.0 r.0 ∙ ap (λ (l : List SourceAnswer). l ++ (w.0 ++ r.0)) whole ∙ ap (λ (l : List SourceAnswer). outright (Ended es pasting) ++ l) r.1,
      )
]
