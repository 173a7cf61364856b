-- What is asked within a limit of time, in numbers of tries.
use Rattle.std.proofs.Common.{◌≡◌, ◌⊎◌, ℕ, ◌+◌, List, Bool, true, false, Result, Ok, Err, refl, inl, inr, arith, length}
use Rattle.std.specs.List.{AllByRecursion}
use Rattle.std.specs.declared.io.ErrorKind.{ErrorKind}
use Rattle.std.specs.declared.io.ErrorKind.TheVariants.{OutOfMemory}
use Rattle.crossterm_types.specs.Seen.{Seen}
use Rattle.crossterm_types.specs.Admitting.{admitted, is_attributes, is_cursor_position, is_flags_reply}
use Rattle.crossterm_read.specs.Answers.{SourceAnswer}
use Rattle.crossterm_read.specs.Calls.{CountsTries, Poll, Read, Take, Position, Keyboard}
use Rattle.crossterm_read.specs.Queries.{QueryStep, AfterReply, FlagsReplies}
use Rattle.crossterm_read.specs.Replies.{Replied}
use Rattle.crossterm_read.specs.Steps.{Patience, UpTo, Allows, Asks, Fails, Passes, PollStep}
use Rattle.crossterm_read.specs.Store.{EventStore}
use Rattle.crossterm_read.specs.declared.read.reader.AtWake.{AtWake}
use Rattle.crossterm_read.specs.declared.read.reader.AtWake.TheVariants.{Stops, GoesOn}

asks_tries : (wake : AtWake) (f : Seen → Bool) (patience : Patience) (held : List (Seen × ℕ)) (zs : List SourceAnswer) (end : Result Bool ErrorKind) → Asks wake f patience held zs end → (tries : ℕ) × Asks wake f (UpTo tries) held zs end
asks_tries wake f patience held zs (Ok true) (inl h) = (0, inl h)
asks_tries wake f patience held zs (Ok true) (inr h) = (length zs, inr (h.0, h.1, omega arith))
asks_tries wake f patience held zs (Ok false) h = (length zs, (h.0, h.1, refl))
asks_tries wake f patience held zs (Err kind) h = broke h.1
  where
    broke : ((Fails wake f kind zs × Allows patience (length zs)) ⊎ ((kind ≡ OutOfMemory) × AllByRecursion (Passes wake f) zs × Allows patience (length zs + 1))) → (tries : ℕ) × Asks wake f (UpTo tries) held zs (Err kind)
    broke (inl b) = (length zs, (h.0, inl (b.0, omega arith)))
    broke (inr b) = (length zs + 1, (h.0, inr (b.0, b.1, omega arith)))

poll_tries : (patience : Patience) (f : Seen → Bool) (zs : List SourceAnswer) (s t : EventStore) (r : Result Bool ErrorKind) → PollStep patience f zs s t r → (tries : ℕ) × PollStep (UpTo tries) f zs s t r
poll_tries patience f zs s t r p = let a = asks_tries Stops f patience s.held zs p.0 p.1 in (a.0, (p.0, a.1, p.2, p.3))

query_tries : (f : Seen → Bool) (patience : Patience) (zs : List SourceAnswer) (s t : EventStore) (r : Replied) → QueryStep f patience zs s t r → (tries : ℕ) × QueryStep f (UpTo tries) zs s t r
query_tries f patience zs s t r q = let p = poll_tries patience f zs s q.0 q.1 q.2 in (p.0, (q.0, q.1, p.1, q.3))

after_tries : (again : Patience) (zs : List SourceAnswer) (attributes : Bool) (x : Seen × ℕ) (s t : EventStore) (r : Replied) → AfterReply again zs attributes x s t r → (more : ℕ) × AfterReply (UpTo more) zs attributes x s t r
after_tries again zs false x s t r h = let p = poll_tries again is_attributes zs s h.0 h.1 h.2 in (p.0, (h.0, h.1, p.1, h.3))
after_tries again zs true x s t r h = (0, h)

flags_tries : (again : Patience) (zs : List SourceAnswer) (q : Replied) (s t : EventStore) (r : Replied) → FlagsReplies again zs q s t r → (more : ℕ) × FlagsReplies (UpTo more) zs q s t r
flags_tries again zs q s t r (inl h) = let a = after_tries again zs (is_attributes h.0.0) h.0 s t r h.2 in (a.0, inl (h.0, h.1, a.1))
flags_tries again zs q s t r (inr h) = (0, inr h)

pub counts_tries : CountsTries
counts_tries (Poll patience f) zs s t r h = let p = poll_tries patience (admitted f) zs s t h.0 h.1 in (Poll (UpTo p.0) f, (p.0, refl), (h.0, p.1, h.2))
counts_tries (Read patience f) zs s t r h = let a = asks_tries GoesOn (admitted f) patience s.held zs h.0 h.2 in (Read (UpTo a.0) f, (a.0, refl), (h.0, h.1, a.1, h.3, h.4))
counts_tries (Take f) zs s t r h = (Take f, refl, h)
counts_tries (Position patience) zs s t r h = let q = query_tries is_cursor_position patience zs s t r h in (Position (UpTo q.0), (q.0, refl), q.1)
counts_tries (Keyboard patience again) zs s t r h =
    let q = query_tries is_flags_reply patience h.0 s h.2 h.3 h.5 in
    let f = flags_tries again h.1 h.3 h.2 t r h.6 in
    (Keyboard (UpTo q.0) (UpTo f.0), (q.0, f.0, refl), (h.0, h.1, h.2, h.3, h.4, q.1, f.1))
