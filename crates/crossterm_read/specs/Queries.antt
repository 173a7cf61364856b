-- One query of a reader, as a step.
use Rattle.std.specs.Prelude.{◌≡◌, ◌⊎◌, ℕ, Bool, true, false, List, [], ◌++◌, Some, None, Result, Ok, Err}
use Rattle.std.specs.declared.io.ErrorKind.{ErrorKind}
use Rattle.std.specs.declared.io.ErrorKind.TheVariants.{Other}
use Rattle.crossterm_types.specs.Admitting.{is_attributes, is_flags_reply}
use Rattle.crossterm_types.specs.Seen.{Seen}
use Rattle.crossterm_read.specs.Answers.{SourceAnswer}
use Rattle.crossterm_read.specs.Replies.{Replied, ToTake, ToQuery, Fault}
use Rattle.crossterm_read.specs.Store.{EventStore}
use Rattle.crossterm_read.specs.Steps.{Patience, PollStep, TakeReplies}

-- How a query ends after its poll: the reply that came is taken. If none came in time it fails with `Other`.
abbrev pub QueryReplies : (Seen → Bool) → Result Bool ErrorKind → EventStore → EventStore → Replied → Type 0
QueryReplies f (Ok true) s t r = (x : Seen × ℕ) × TakeReplies f s t (Some x) × (r ≡ ToTake (Some x))
QueryReplies f (Ok false) s t r = (t ≡ s) × (r ≡ Fault Other)
QueryReplies f (Err kind) s t r = (t ≡ s) × (r ≡ Fault kind)

-- A query polls for its reply, and takes it.
abbrev pub QueryStep : (Seen → Bool) → Patience → List SourceAnswer → EventStore → EventStore → Replied → Type 0
QueryStep f patience zs s t r = (m : EventStore) × (p : Result Bool ErrorKind) × PollStep patience f zs s m p × QueryReplies f p m t r

-- After the flags came the attributes are taken, if they came too. The flags are the result in any case.
abbrev pub LeftReplies : Result Bool ErrorKind → Seen × ℕ → EventStore → EventStore → Replied → Type 0
LeftReplies (Ok true) x s t r = (y : Seen × ℕ) × TakeReplies is_attributes s t (Some y) × (r ≡ ToQuery x (Some y))
LeftReplies (Ok false) x s t r = (t ≡ s) × (r ≡ ToQuery x None)
LeftReplies (Err kind) x s t r = (t ≡ s) × (r ≡ ToQuery x None)

-- This is the result at once: the source isn't asked again.
abbrev pub IsAnswer : List SourceAnswer → Replied → EventStore → EventStore → Replied → Type 0
IsAnswer zs q s t r = (zs ≡ []) × (t ≡ s) × (r ≡ q)

-- If the attributes came first, they are the result. After the flags it polls for the attributes.
abbrev pub AfterReply : Patience → List SourceAnswer → Bool → Seen × ℕ → EventStore → EventStore → Replied → Type 0
AfterReply again zs false x s t r = (m : EventStore) × (p : Result Bool ErrorKind) × PollStep again is_attributes zs s m p × LeftReplies p x m t r
AfterReply again zs true x s t r = IsAnswer zs (ToTake (Some x)) s t r

-- How a query for the keyboard flags goes on after its first reply. An error ends it.
abbrev pub FlagsReplies : Patience → List SourceAnswer → Replied → EventStore → EventStore → Replied → Type 0
FlagsReplies again zs q s t r =
    ((x : Seen × ℕ) × (q ≡ ToTake (Some x)) × AfterReply again zs (is_attributes x.0) x s t r) ⊎ ((kind : ErrorKind) × (q ≡ Fault kind) × IsAnswer zs (Fault kind) s t r)

-- A query for the keyboard flags: a query for the flags or the attributes, and what follows it.
abbrev pub KeyboardStep : Patience → Patience → List SourceAnswer → EventStore → EventStore → Replied → Type 0
KeyboardStep patience again zs s t r =
    (xs : List SourceAnswer) × (ys : List SourceAnswer) × (m : EventStore) × (q : Replied) × (zs ≡ xs ++ ys) × QueryStep is_flags_reply patience xs s m q × FlagsReplies again ys q m t r
