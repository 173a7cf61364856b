-- A recording replays.
use Rattle.std.proofs.Common.{◌≡◌, ◌≢◌, ◌≤◌, ◌<◌, arith, ℕ, ◌+◌, List, [], ◌∷◌, ◌++◌, map, Option, None, false, ap, refl, sym, subst, ◌∙◌, append_assoc}
use Rattle.std.specs.List.{AllByRecursion}
use Rattle.crossterm_read.specs.Answers.{SourceAnswer}
use Rattle.crossterm_read.specs.Calls.{Plays, all_answers}
use Rattle.crossterm_read.specs.Device.{Answering, DeviceAnswer, Bytes, Resized, Woken, Idle, Fault}
use Rattle.crossterm_read.specs.History.{Entry, Runs}
use Rattle.crossterm_read.specs.History as history
use Rattle.crossterm_read.specs.OneResult.{OneResult}
use Rattle.crossterm_read.specs.Outcomes.{IsAnsweredBy}
use Rattle.crossterm_read.specs.Replies.{shown}
use Rattle.crossterm_read.specs.OverScripts.{HistoriesOverScripts, ScriptsReplay}
use Rattle.crossterm_read.specs.Scripted.{AnswersWith, ScriptLeft, ScriptAnswers, faults}
use Rattle.crossterm_read.specs.Store.{ReaderState}
use Rattle.crossterm_read.specs.Sources.{At, DrawnFor, Source, SourceDrawn, Turn, Turns, source_on, waited, again, fresh, other}
use Rattle.recorder.specs.Lines.{entry_answers, times_of}
use Rattle.recorder.specs.Reads.{IsEntry, IsWritable}
use Rattle.recorder.specs.Answering.{recorder_answering}
use Rattle.recorder.specs.Recording.{IsPossible, Recording, Records, Rises, WritesEntries, millis, recorded}
use Rattle.recorder.specs.Replaying.{EndsLast, HistoriesReplay, IsEnd, PlaysAlike, Replayed, Replays}
use Rattle.recorder.specs.declared.recorder.Stop.{Stop}
use Rattle.recorder.proofs.ReadBack.{all_read_back}

-- ---- the end of input, as a script answers it

abbrev plain : DeviceAnswer → DeviceAnswer
plain (Bytes [] raw) = Bytes [] false
plain (Bytes (b ∷ bs) raw) = Bytes (b ∷ bs) raw
plain (Resized columns rows) = Resized columns rows
plain Woken = Woken
plain Idle = Idle
plain (Fault kind) = Fault kind

abbrev plain_all : List DeviceAnswer → List DeviceAnswer
plain_all [] = []
plain_all (w ∷ ws) = plain w ∷ plain_all ws

plain_on : (us vs : List DeviceAnswer) → plain_all (us ++ vs) ≡ plain_all us ++ plain_all vs
plain_on [] vs = refl
plain_on (u ∷ us) vs = ap (λ ws. plain u ∷ ws) (plain_on us vs)

plain_bytes : (bytes : List ℕ) (raw : _) → bytes ≢ [] → plain_all (Bytes bytes raw ∷ []) ≡ Bytes bytes raw ∷ []
plain_bytes [] raw f = absurd (f refl)
plain_bytes (b ∷ bs) raw f = refl

plain_answered : (w : DeviceAnswer) (x : SourceAnswer) → IsAnsweredBy w x → IsAnsweredBy (plain w) x
plain_answered (Bytes [] raw) x h = h
plain_answered (Bytes (b ∷ bs) raw) x h = h
plain_answered (Resized columns rows) x h = h
plain_answered Woken x h = h
plain_answered Idle x h = h
plain_answered (Fault kind) x h = h

plain_turn : (p : At) (ws : List DeviceAnswer) (x : SourceAnswer) (q : At) → Turn p ws x q → Turn p (plain_all ws) x q
plain_turn p ws x q (waited e a b c n f) = waited e a b c (ap plain_all n) f
plain_turn p ws x q (again mid a b n t g) = again mid a b (ap plain_all n) t g
plain_turn p ws x q (fresh bytes raw mid a b some n t g) = fresh bytes raw mid a b some (ap plain_all n ∙ plain_bytes bytes raw some) t g
plain_turn p ws x q (other w a b n h e) = other (plain w) a b (ap plain_all n) (plain_answered w x h) e

plain_turns : (p q : At) (ws : List DeviceAnswer) (xs : List SourceAnswer) → Turns p ws xs q → Turns p (plain_all ws) xs q
plain_turns p q ws [] d = (ap plain_all d.0, d.1)
plain_turns p q ws (x ∷ xs) d =
    (plain_all d.0, plain_all d.1, d.2, ap plain_all d.3 ∙ plain_on d.0 d.1, plain_turn p d.0 x d.2 d.4, plain_turns d.2 q d.1 xs d.5)

-- ---- what a script of the recording answers

only_ends : (ws : List DeviceAnswer) → AllByRecursion IsEnd ws → (recorded ws ≡ []) × AnswersWith [] (plain_all ws) []
only_ends [] h = (refl, refl)
only_ends (Bytes [] raw ∷ ws) h = ((only_ends ws h.1).0, (refl, (only_ends ws h.1).1))
only_ends (Bytes (b ∷ bs) raw ∷ ws) h = absurd h.0
only_ends (Resized columns rows ∷ ws) h = absurd h.0
only_ends (Woken ∷ ws) h = absurd h.0
only_ends (Idle ∷ ws) h = absurd h.0
only_ends (Fault kind ∷ ws) h = absurd h.0

all_given : (ws : List DeviceAnswer) → EndsLast ws → AnswersWith (recorded ws) (plain_all ws) []
all_given [] h = refl
all_given (Bytes [] raw ∷ ws) h =
    subst (λ (l : List DeviceAnswer). AnswersWith l (Bytes [] false ∷ plain_all ws) []) (sym (only_ends ws h).0) (refl, (only_ends ws h).1)
all_given (Bytes (b ∷ bs) raw ∷ ws) h = (refl, all_given ws h)
all_given (Resized columns rows ∷ ws) h = (refl, all_given ws h)
all_given (Woken ∷ ws) h = (refl, all_given ws h)
all_given (Idle ∷ ws) h = (refl, all_given ws h)
all_given (Fault kind ∷ ws) h = (refl, all_given ws h)

writable : (ws : List DeviceAnswer) → AllByRecursion IsPossible ws → AllByRecursion IsWritable (recorded ws)
writable [] h = tt
writable (Bytes [] raw ∷ ws) h = writable ws h.1
writable (Bytes (b ∷ bs) raw ∷ ws) h = (h.0.1, writable ws h.1)
writable (Resized columns rows ∷ ws) h = (h.0, writable ws h.1)
writable (Woken ∷ ws) h = (h.0, writable ws h.1)
writable (Idle ∷ ws) h = (h.0, writable ws h.1)
writable (Fault kind ∷ ws) h = (h.0, writable ws h.1)

-- Times that rise to one that fits into 32 bits fit too.
highest : (low high : ℕ) (times : List ℕ) → Rises low times high → low ≤ high
highest low high [] r = r
highest low high (time ∷ times) r = omega (arith, r.0, highest time high times r.1)

entries_fit : (es : List (ℕ × DeviceAnswer)) (low high : ℕ) → high < 4294967296 → Rises low (times_of es) high → AllByRecursion IsWritable (entry_answers es) → AllByRecursion IsEntry es
entries_fit [] low high l r h = tt
entries_fit (e ∷ es) low high l r h = ((omega (arith, l, highest e.0 high (times_of es) r.1), h.0), entries_fit es e.0 high l r.1 h.1)

short : (nanos : ℕ) → millis nanos < 4294967296
short nanos = omega arith

-- What was recorded fits into lines.
pub are_entries : {D W : Type 0} (contents : W → Option (List ℕ)) (answered : D → List DeviceAnswer → D → Type 0) (s t : Recording D W) (ws : List DeviceAnswer)
    → (r : Records contents answered s ws t) → AllByRecursion IsEntry r.entries
are_entries contents answered s t ws r = entries_fit r.entries (millis s.clock) (millis t.clock) (short t.clock) r.rises
    (subst (λ (l : List DeviceAnswer). AllByRecursion IsWritable l) (sym r.says) (writable ws r.are_answers))

-- The law of scripts is that of the reader's crate.
pub replays : {D W : Type 0} (scripts : ScriptsReplay) (contents : W → Option (List ℕ)) (answered : D → List DeviceAnswer → D → Type 0) → Replays contents answered
replays scripts contents answered s t xs new before after d =
    let ws : List DeviceAnswer = d.0 in
    let es : List (ℕ × DeviceAnswer) = d.1.entries in
    record {
      given = ws;
      entries = es;
      by_device = d.1.given;
      says = d.1.says;
      written = (subst (λ (f : Option Stop). WritesEntries contents None s.device.room s.device.writer es f t.device.room t.device.writer) after
          (subst (λ (f : Option Stop). WritesEntries contents f s.device.room s.device.writer es t.device.stop t.device.room t.device.writer) before d.1.written)).0;
      reads = all_read_back es (are_entries contents answered s.device t.device ws d.1);
      replays = λ ends. scripts
          (record { parser = s.parser; untaken = s.untaken; device = record { left = recorded ws; failed = 0 } })
          (record { parser = t.parser; untaken = t.untaken; device = record { left = []; failed = 0 + faults (plain_all ws) } })
          xs
          (record { waiting = new.waiting; represents = new.represents; untaken = new.untaken }) (
            plain_all ws,
            (all_given ws ends, refl),
            λ mid represents undecided.
                let f = d.2 mid represents undecided in
                (f.0, f.1, f.2, plain_turns _ _ ws xs f.3),
          );
    }

pub plays_alike : {D W : Type 0} (scripts : ScriptsReplay) (one : OneResult) (contents : W → Option (List ℕ)) (answered : D → List DeviceAnswer → D → Type 0) → PlaysAlike contents answered
plays_alike scripts one contents answered s t calls drawn replies last new before after d run =
    let r : Replayed contents answered s.device (all_answers drawn) t.device = replays scripts contents answered s t (all_answers drawn) new before after d in (
      r,
      λ ends.
          let plays : Plays (recorded r.given) calls (map shown replies) (map (λ h. h.0) last.held) =
          record { drawn = drawn; replies = replies; last = last; answered = r.replays ends; run = run; shows = refl; left = refl } in
          (plays, λ apart fine others kept other good. one (recorded r.given) calls (map shown replies) others (map (λ h. h.0) last.held) kept apart plays fine other good),
    )

-- ---- shared readers

-- A script's answers come in two runs as they come in one.
cut_answers : (l k : List DeviceAnswer) (xs ys : List DeviceAnswer) → AnswersWith l (xs ++ ys) k → (m : List DeviceAnswer) × AnswersWith l xs m × AnswersWith m ys k
cut_answers l k [] ys d = (l, refl, d)
cut_answers [] k (x ∷ xs) ys d = let r = cut_answers [] k xs ys d.1 in (r.0, (d.0, r.1), r.2)
cut_answers (w ∷ l) k (x ∷ xs) ys d = let r = cut_answers l k xs ys d.1 in (r.0, (d.0, r.1), r.2)

-- The same source over a script with so much left, and the same reader over it.
abbrev scripted : {D : Type 0} → List DeviceAnswer → ℕ → Source D → Source ScriptLeft
scripted l n s = record { parser = s.parser; untaken = s.untaken; device = record { left = l; failed = n } }

abbrev over : {D : Type 0} → List DeviceAnswer → ℕ → ReaderState (Source D) → ReaderState (Source ScriptLeft)
over l n s = record { store = s.store; room = s.room; source = scripted l n s.source }

-- What a source over a device answered it answers over a script of the same answers.
scripted_drawn : {D : Type 0} (s t : Source D) (ws : List DeviceAnswer) (xs : List SourceAnswer) (l k : List DeviceAnswer) (n : ℕ)
    → DrawnFor s ws xs t → AnswersWith l (plain_all ws) k → SourceDrawn ScriptAnswers (scripted l n s) xs (scripted k (n + faults (plain_all ws)) t)
scripted_drawn s t ws xs l k n d a = (
  plain_all ws,
  (a, refl),
  λ before represents undecided.
      let f = d before represents undecided in
      (f.0, f.1, f.2, plain_turns _ _ ws xs f.3),
)

-- What was drawn in two runs was drawn in one, for the answers of both: the devices are lists of answers here.
abbrev Grows : List DeviceAnswer → List DeviceAnswer → List DeviceAnswer → Type 0
Grows a ws b = a ++ ws ≡ b

grows_on : (a b c xs ys : List DeviceAnswer) → Grows a xs b → Grows b ys c → Grows a (xs ++ ys) c
grows_on a b c xs ys d e = sym (append_assoc a xs ys) ∙ ap (λ (l : List DeviceAnswer). l ++ ys) d ∙ e

abbrev on_list : {D : Type 0} → Source D → List DeviceAnswer → Source (List DeviceAnswer)
on_list s l = record { parser = s.parser; untaken = s.untaken; device = l }

drawn_on : {D : Type 0} (s t u : Source D) (us vs : List DeviceAnswer) (xs ys : List SourceAnswer) → DrawnFor s us xs t → DrawnFor t vs ys u → DrawnFor s (us ++ vs) (xs ++ ys) u
drawn_on s t u us vs xs ys d e =
    let r = source_on Grows grows_on (on_list s []) (on_list t us) (on_list u (us ++ vs)) xs ys (us, refl, d) (vs, refl, e) in
    subst (λ (ws : List DeviceAnswer). DrawnFor s ws (xs ++ ys) u) r.1 r.2

-- A history over a recorder: what its device answered in all of it, and the same history over a script that answers so.
record Noted {D W : Type 0} (contents : W → Option (List ℕ)) (answered : D → List DeviceAnswer → D → Type 0)
    (o t : ReaderState (Source (Recording D W))) (log : List Entry) : Type 0 where
  given : List DeviceAnswer
  records : Records contents answered o.source.device given t.source.device
  drawn : DrawnFor o.source given (history.answers_of log) t.source
  runs : (l k : List DeviceAnswer) (n : ℕ) → AnswersWith l (plain_all given) k → (m : ℕ) × Runs (SourceDrawn ScriptAnswers) (over l n o) log (over k m t)

noted_runs : {D W : Type 0} (contents : W → Option (List ℕ)) (answering : Answering D) (o t : ReaderState (Source (Recording D W))) (log : List Entry)
    → Runs (SourceDrawn (Records contents answering.answered)) o log t → Noted contents answering.answered o t log
noted_runs contents answering o t [] h = record {
  given = [];
  records = subst (λ (y : ReaderState _). Records contents answering.answered o.source.device [] y.source.device) h ((recorder_answering contents answering).none o.source.device);
  drawn = subst (λ (y : ReaderState _). DrawnFor o.source [] [] y.source) h (λ before represents undecided. (before, represents, undecided, (refl, refl)));
  runs = λ l k n a. (n, ap (over l n) h ∙ ap (λ (left : List DeviceAnswer). over left n t) a);
}
noted_runs contents answering o t (e ∷ log) h =
    let r = noted_runs contents answering h.0 t log h.2 in
    let first = h.1.0 in record {
      given = first.0 ++ r.given;
      records = (recorder_answering contents answering).on o.source.device h.0.source.device t.source.device first.0 r.given first.1 r.records;
      drawn = drawn_on o.source h.0.source t.source first.0 r.given e.answers (history.answers_of log) first.2 r.drawn;
      runs = λ l k n a.
          let c = cut_answers l k (plain_all first.0) (plain_all r.given) (subst (λ (ws : List DeviceAnswer). AnswersWith l ws k) (plain_on first.0 r.given) a) in
          let later = r.runs c.0 k (n + faults (plain_all first.0)) c.2 in
          (later.0, (over c.0 (n + faults (plain_all first.0)) h.0, (scripted_drawn o.source h.0.source first.0 e.answers l c.0 n first.2 c.1, h.1.1, h.1.2), later.1));
    }

pub histories_replay : {D W : Type 0} (scripts : ScriptsReplay) (histories : HistoriesOverScripts) (contents : W → Option (List ℕ)) (answering : Answering D) → HistoriesReplay contents answering.answered
unfolding replays
histories_replay scripts histories contents answering o t log new nothing before after runs =
    let r = noted_runs contents answering o t log runs in
    let xs = history.answers_of log in (
      replays scripts contents answering.answered o.source t.source xs new before after (r.given, r.records, r.drawn),
      λ ends.
          let script = r.runs (recorded r.given) [] 0 (all_given r.given ends) in
          (histories (over (recorded r.given) 0 o) (over [] script.0 t) log (record { waiting = new.waiting; represents = new.represents; untaken = new.untaken }) nothing script.1).1,
    )
