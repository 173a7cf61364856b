-- What reads of a recording that ended before its session.
use Rattle.std.proofs.Common.{◌≡◌, ◌⊎◌, inl, inr, ◌+◌, ℕ, List, [], ◌∷◌, ◌++◌, Option, None, ap, refl, sym, subst, ◌∙◌, append-nil, append_assoc}
use Rattle.std.specs.Prelude.{Result}
use Rattle.std.specs.List.{AllByRecursion}
use Rattle.std.proofs.lemmas.List.{map-append}
use Rattle.std.specs.declared.result.Result.TheVariants.{Ok, Err}
use Rattle.crossterm_read.specs.Device.{DeviceAnswer}
use Rattle.recorder.specs.Lines.{entry_answers, line, stamp, text, times_of}
use Rattle.recorder.specs.Reads.{IsEntry, Refusal, Session, nothing, parts, read_after}
use Rattle.recorder.specs.Recording.{Cuts, WritesPrefix, WritesEntries}
use Rattle.recorder.specs.Stopping.{CutsKeep, FailuresTear, FrontsRead}
use Rattle.recorder.specs.declared.reading.Wrong.TheVariants.{Unended}
use Rattle.recorder.specs.declared.recorder.Stop.{Stop}
use Rattle.recorder.proofs.ReadBack.{Without, after_line, all_read_back, at, entry_split, line_read, no_end, no_end_of_stamp, one_part, read_first, stamp_read}
use Rattle.recorder.proofs.Replayings.{are_entries}
use Rattle.crossterm_types.proofs.Lists.{all_front}

-- ---- texts that are cut

-- Within its first line, or behind that line's end.
abbrev Cut : List ℕ → List ℕ → List ℕ → List ℕ → Type 0
Cut first tail front rest = ((more : List ℕ) × (first ≡ front ++ more)) ⊎ ((f : List ℕ) × (front ≡ first ++ 10 ∷ f) × (tail ≡ f ++ rest))

cut_where : (first tail front rest : List ℕ) → first ++ 10 ∷ tail ≡ front ++ rest → Cut first tail front rest
cut_where [] tail [] rest e = inl ([], refl)
cut_where [] tail (b ∷ front) rest e =
    let head : 10 ≡ b = cc in
    let after : tail ≡ front ++ rest = cc in
    inr (front, ap (λ (c : ℕ). c ∷ front) (sym head), after)
cut_where (a ∷ first) tail [] rest e = inl (a ∷ first, refl)
cut_where (a ∷ first) tail (b ∷ front) rest e =
    let head : a ≡ b = cc in
    let after : first ++ 10 ∷ tail ≡ front ++ rest = cc in
    elim (cut_where first tail front rest after) [
      | inl m ↦ inl (m.0, ap (λ (c : ℕ). c ∷ first) head ∙ ap (λ (l : List ℕ). b ∷ l) m.1)
      | inr f ↦ inr (f.0, ap (λ (l : List ℕ). b ∷ l) f.1 ∙ ap (λ (c : ℕ). c ∷ (first ++ 10 ∷ f.0)) (sym head), f.2)
    ]

-- ---- what reads then

abbrev up_to : Session → List (ℕ × DeviceAnswer) → ℕ → Session
up_to s kept end = record { acts = s.acts ++ entry_answers kept; times = s.times ++ times_of kept; end = end }

abbrev Ends : Session → List (ℕ × DeviceAnswer) → Result Session Refusal → Type 0
Ends s es r = ((kept : List (ℕ × DeviceAnswer)) × (rest : List (ℕ × DeviceAnswer)) × (end : ℕ) × (es ≡ kept ++ rest) × (r ≡ Ok (up_to s kept end)))
    ⊎ ((n : ℕ) × (r ≡ Err (record { number = n; reason = Unended })))

abbrev ok : Session → Result Session Refusal
ok s = Ok s

nothing_more : (s : Session) → ok s ≡ ok (up_to s [] s.end)
nothing_more s = ap (λ acts. Ok (record { acts = acts; times = s.times; end = s.end })) (sym (append-nil s.acts))
    ∙ ap (λ times. Ok (record { acts = s.acts ++ []; times = times; end = s.end })) (sym (append-nil s.times))

torn_line : (s : Session) (n : ℕ) (es : List (ℕ × DeviceAnswer)) (front : List ℕ) → Without 10 front → Ends s es (read_after s n (parts 10 front))
torn_line s n es [] a = inl ([], es, s.end, refl, nothing_more s)
torn_line s n es (b ∷ front) a = inr (n, ap (read_after s n) (one_part 10 (b ∷ front) a))

one_more : (s : Session) (e : ℕ × DeviceAnswer) (es : List (ℕ × DeviceAnswer)) (r : Result Session Refusal) → Ends (after_line (at s e.0) e.1) es r → Ends s (e ∷ es) r
one_more s e es r d = elim d [
  | inl k ↦ inl (
    e ∷ k.0,
    k.1,
    k.2,
    ap (λ (l : List (ℕ × DeviceAnswer)). e ∷ l) k.3,
    k.4 ∙ ap (λ acts. Ok (record { acts = acts; times = (s.times ++ e.0 ∷ []) ++ times_of k.0; end = k.2 })) (append_assoc s.acts (e.1 ∷ []) (entry_answers k.0))
        ∙ ap (λ times. Ok (record { acts = s.acts ++ e.1 ∷ entry_answers k.0; times = times; end = k.2 })) (append_assoc s.times (e.0 ∷ []) (times_of k.0)),
  )
  | inr n ↦ inr n
]

within_first : (first front more : List ℕ) → first ≡ front ++ more → Without 10 first → Without 10 front
within_first first front more e a = all_front _ front more (subst (λ (l : List ℕ). Without 10 l) e a)

fronts : (es : List (ℕ × DeviceAnswer)) (s : Session) (n : ℕ) (front rest : List ℕ) → AllByRecursion IsEntry es → text es ≡ front ++ rest → Ends s es (read_after s n (parts 10 front))
fronts [] s n [] rest h e = torn_line s n [] [] tt
fronts [] s n (b ∷ front) rest h e = absurd cc
fronts (e ∷ es) s n front rest h d = elim (cut_where (stamp e.0) (line e.1 ++ 10 ∷ text es) front rest (sym (entry_split e (text es)) ∙ d)) [
  | inl m ↦ torn_line s n (e ∷ es) front (within_first (stamp e.0) front m.0 m.1 (no_end_of_stamp e.0 h.0.0))
  | inr f ↦
      let stamped = ap (λ (l : List ℕ). read_after s n (parts 10 l)) f.1 ∙ read_first s (at s e.0) n (stamp e.0) f.0 (no_end_of_stamp e.0 h.0.0) (stamp_read s e.0 h.0.0) in
      subst (λ r. Ends s (e ∷ es) r) (sym stamped) (elim (cut_where (line e.1) (text es) f.0 rest f.2) [
        | inl m ↦ torn_line (at s e.0) (n + 1) (e ∷ es) f.0 (within_first (line e.1) f.0 m.0 m.1 (no_end e.1 h.0.1))
        | inr g ↦
            let lined = ap (λ (l : List ℕ). read_after (at s e.0) (n + 1) (parts 10 l)) g.1
            ∙ read_first (at s e.0) (after_line (at s e.0) e.1) (n + 1) (line e.1) g.0 (no_end e.1 h.0.1) (line_read (at s e.0) e.1 h.0.1) in
            subst (λ r. Ends s (e ∷ es) r) (sym lined) (one_more s e es _ (fronts es (after_line (at s e.0) e.1) (n + 1 + 1) g.0 rest h.1 g.2))
      ])
]

pub fronts_read : FrontsRead
fronts_read es front rest h e = elim (fronts es nothing 1 front rest h e) [
  | inl k ↦ inl (up_to nothing k.0 k.2, k.4, record { kept = k.0; rest = k.1; split = k.3; acts = refl; times = refl })
  | inr n ↦ inr n
]

-- ---- recorders that stopped

pub cuts_keep : {D W : Type 0} (contents : W → Option (List ℕ)) (answered : D → List DeviceAnswer → D → Type 0) → CutsKeep contents answered
cuts_keep contents answered s t xs before after d =
    let r = d.1 in
    let cut : Cuts (contents s.device.writer) (contents t.device.writer) s.device.room r.entries =
    subst (λ (f : Option Stop). WritesEntries contents None s.device.room s.device.writer r.entries f t.device.room t.device.writer) after
    (subst (λ (f : Option Stop). WritesEntries contents f s.device.room s.device.writer r.entries t.device.stop t.device.room t.device.writer) before r.written) in
    record {
      given = d.0;
      kept = cut.kept;
      rest = entry_answers (cut.next ∷ cut.rest);
      by_device = r.given;
      says = sym r.says ∙ ap entry_answers cut.split ∙ map-append (λ (e : ℕ × DeviceAnswer). e.1) cut.kept (cut.next ∷ cut.rest);
      written = cut.written;
      reads = all_read_back cut.kept (all_front IsEntry cut.kept (cut.next ∷ cut.rest)
          (subst (λ (l : List (ℕ × DeviceAnswer)). AllByRecursion IsEntry l) cut.split (are_entries contents answered s.device t.device d.0 r)));
    }

pub failures_tear : {D W : Type 0} (contents : W → Option (List ℕ)) (answered : D → List DeviceAnswer → D → Type 0) → FailuresTear contents answered
failures_tear contents answered s t xs kind before after d =
    let r = d.1 in
    let failed : WritesPrefix (contents s.device.writer) (contents t.device.writer) s.device.room (text r.entries) =
    subst (λ (f : Option Stop). WritesEntries contents None s.device.room s.device.writer r.entries f t.device.room t.device.writer) after
    (subst (λ (f : Option Stop). WritesEntries contents f s.device.room s.device.writer r.entries t.device.stop t.device.room t.device.writer) before r.written) in
    record {
      given = d.0;
      entries = r.entries;
      by_device = r.given;
      says = r.says;
      written = failed.written;
      reads = fronts_read r.entries failed.written.front failed.written.rest (are_entries contents answered s.device t.device d.0 r) failed.written.split;
    }
