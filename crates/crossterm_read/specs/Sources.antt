-- The answers of a source, turn by turn, by those of its device.
use Rattle.std.specs.Prelude.{◌≡◌, ◌≢◌, ℕ, Bool, false, List, [], ◌∷◌, ◌++◌, take, refl}
use Rattle.std.specs.List.{AllByRecursion, filter_map}
use Rattle.std.specs.declared.io.ErrorKind.TheVariants.{OutOfMemory}
use Rattle.std.proofs.Common.{subst, sym, ap, ◌∙◌, append_assoc}
use Rattle.crossterm_types.specs.Seen.{Seen}
use Rattle.crossterm_parse.specs.declared.marked.Marked.{Marked}
use Rattle.crossterm_parse.specs.Grammar.{Whole}
use Rattle.crossterm_parse.specs.Marked.{bytes_of}
use Rattle.crossterm_parse.specs.Meaning.{meaning_of}
use Rattle.crossterm_parse.specs.Division.{Divides, IsUndecided}
use Rattle.crossterm_parse.specs.View.{ParserView, Represents, paste_length}
use Rattle.crossterm_read.specs.Answers.{SourceAnswer, Gave, Nothing, Failed}
use Rattle.crossterm_read.specs.Device.{DeviceAnswer, Bytes, marked_bytes}
use Rattle.crossterm_read.specs.Outcomes.{IsAnsweredBy, is_pasting}

-- The state of a source: what it has at hand.
pub record At : Type 0 where
  -- The events that wait.
  pub waiting : List Seen
  -- The bytes that its parser hasn't taken.
  pub untaken : List Marked
  -- The bytes that it took, and that end no sequence yet.
  pub undecided : List Marked
  -- For how many more events there is room.
  pub room : ℕ

-- Behind the undecided bytes these end no event, and no paste is open after them.
abbrev pub EndNoEvent : List Marked → List Marked → Type 0
EndNoEvent undecided bytes = (parts : List (List Marked)) × (rest : List Marked) × Divides Whole (undecided ++ bytes) parts rest
    × (filter_map meaning_of parts ≡ []) × (is_pasting rest ≡ false)

-- Behind the undecided bytes these open no paste, and none was open.
abbrev pub OpenNoPaste : List Marked → List Marked → Type 0
OpenNoPaste undecided bytes = (parts : List (List Marked)) × (rest : List Marked) × Divides Whole (undecided ++ bytes) parts rest
    × AllByRecursion (λ part. is_pasting part ≡ false) parts × (is_pasting rest ≡ false)

-- The parser takes some bytes in front, behind undecided ones.
pub record Takes (undecided bytes : List Marked) (mid : At) : Type 0 where
  pub taken : List Marked
  pub parts : List (List Marked)
  pub cut : bytes ≡ taken ++ mid.untaken
  pub division : Divides Whole (undecided ++ taken) parts mid.undecided
  pub waiting : mid.waiting ≡ filter_map meaning_of parts
  -- Bytes that end no event are taken whole.
  pub quiet : EndNoEvent undecided bytes → mid.untaken ≡ []
  -- The first byte that is left ends an event, or is of a paste.
  pub left : mid.untaken ≢ [] → ¬ EndNoEvent mid.undecided (take 1 mid.untaken)
  -- If no event came, a byte outside a paste is left only if there is no room.
  pub full : mid.waiting ≡ [] → mid.untaken ≢ [] → OpenNoPaste mid.undecided (take 1 mid.untaken) → mid.room ≡ 0

-- The answer if no event came: nothing if all bytes were taken, else that memory was refused.
abbrev pub without_event : List Marked → SourceAnswer
without_event [] = Nothing
without_event (m ∷ ms) = Failed OutOfMemory

-- The first waiting event is given, if there is one.
abbrev pub GivesFirst : List Seen → At → SourceAnswer → At → Type 0
GivesFirst (e ∷ es) mid x q = (x ≡ Gave e) × (q ≡ record mid { waiting = es })
GivesFirst [] mid x q = (x ≡ without_event mid.untaken) × (q ≡ mid)

-- One answer of a source, with what it asked its device for.
pub data Turn (p : At) (ws : List DeviceAnswer) (x : SourceAnswer) (q : At) : Type 0 where
  -- An event waited and is given.
  waited : (e : Seen) → p.waiting ≡ e ∷ q.waiting → q.untaken ≡ p.untaken → q.undecided ≡ p.undecided → ws ≡ [] → x ≡ Gave e → Turn p ws x q
  -- The parser takes bytes that were left.
  again : (mid : At) → p.waiting ≡ [] → p.untaken ≢ [] → ws ≡ [] → Takes p.undecided p.untaken mid → GivesFirst mid.waiting mid x q → Turn p ws x q
  -- The device answers bytes, and the parser takes them.
  fresh : (bytes : List ℕ) (raw : Bool) (mid : At) → p.waiting ≡ [] → p.untaken ≡ [] → bytes ≢ [] → ws ≡ Bytes bytes raw ∷ []
      → Takes p.undecided (marked_bytes bytes raw) mid → GivesFirst mid.waiting mid x q → Turn p ws x q
  -- The device answers without bytes.
  other : (w : DeviceAnswer) → p.waiting ≡ [] → p.untaken ≡ [] → ws ≡ w ∷ [] → IsAnsweredBy w x → q ≡ p → Turn p ws x q

-- Answers one after another.
abbrev pub Turns : At → List DeviceAnswer → List SourceAnswer → At → Type 0
Turns p ws [] q = (ws ≡ []) × (q ≡ p)
Turns p ws (x ∷ xs) q = (us : List DeviceAnswer) × (vs : List DeviceAnswer) × (m : At) × (ws ≡ us ++ vs) × Turn p us x m × Turns m vs xs q

-- A source as its callers see it.
pub record Source (D : Type 0) : Type 0 where
  pub parser : ParserView
  pub untaken : List Marked
  pub device : D

-- The state of a source behind these undecided bytes.
abbrev pub at : {D : Type 0} → Source D → List Marked → At
at s before = record { waiting = s.parser.waiting; untaken = s.untaken; undecided = before; room = s.parser.room }

-- The source gave these answers for those of the device, whatever undecided bytes the parser represented.
abbrev pub DrawnFor : {D : Type 0} → Source D → List DeviceAnswer → List SourceAnswer → Source D → Type 0
DrawnFor s ws xs t = (before : List Marked) → Represents s.parser before → IsUndecided Whole before
    → (after : List Marked) × Represents t.parser after × IsUndecided Whole after × Turns (at s before) ws xs (at t after)

-- The device gave some answers, and the source gave these for them.
abbrev pub SourceDrawn : {D : Type 0} → (D → List DeviceAnswer → D → Type 0) → Source D → List SourceAnswer → Source D → Type 0
SourceDrawn answered s xs t = (ws : List DeviceAnswer) × answered s.device ws t.device × DrawnFor s ws xs t

-- The parser took some of the untaken bytes, whatever undecided ones it represented, and the first event was given.
abbrev pub Hands : {D : Type 0} → Source D → SourceAnswer → Source D → Type 0
Hands s x t = (before : List Marked) → Represents s.parser before → IsUndecided Whole before
    → (after : List Marked) × (mid : At) × Represents t.parser after × IsUndecided Whole after × Takes before s.untaken mid × GivesFirst mid.waiting mid x (at t after)

turns_on : (p q r : At) (us vs : List DeviceAnswer) (xs ys : List SourceAnswer) → Turns p us xs q → Turns q vs ys r → Turns p (us ++ vs) (xs ++ ys) r
turns_on p q r us vs [] ys d e = subst (λ (ws : List DeviceAnswer). Turns p (ws ++ vs) ys r) (sym d.0) (subst (λ (m : At). Turns m vs ys r) d.1 e)
turns_on p q r us vs (x ∷ xs) ys d e =
    (d.0, d.1 ++ vs, d.2, ap (λ (l : List DeviceAnswer). l ++ vs) d.3 ∙ append_assoc d.0 d.1 vs, d.4, turns_on d.2 q r d.1 vs xs ys d.5 e)

-- The text of the open paste has so many bytes.
abbrev pub HasPaste : {D : Type 0} → ℕ → Source D → Type 0
HasPaste count s = (before : List Marked) → Represents s.parser before → count ≡ paste_length (bytes_of before)

-- The two laws of what was drawn from a source, by those of its device.
pub source_none : {D : Type 0} (answered : D → List DeviceAnswer → D → Type 0) → ((s : D) → answered s [] s) → (s : Source D) → SourceDrawn answered s [] s
source_none answered law s = ([], law s.device, λ before represents undecided. (before, represents, undecided, (refl, refl)))

pub source_on : {D : Type 0} (answered : D → List DeviceAnswer → D → Type 0)
    → ((s t u : D) (xs ys : List DeviceAnswer) → answered s xs t → answered t ys u → answered s (xs ++ ys) u)
    → (s t u : Source D) (xs ys : List SourceAnswer) → SourceDrawn answered s xs t → SourceDrawn answered t ys u → SourceDrawn answered s (xs ++ ys) u
source_on answered law s t u xs ys d e = (
  d.0 ++ e.0,
  law s.device t.device u.device d.0 e.0 d.1 e.1,
  λ before represents undecided.
      let f = d.2 before represents undecided in
      let g = e.2 f.0 f.1 f.2 in
      (g.0, g.1, g.2, turns_on (at s before) (at t f.0) (at u g.0) d.0 e.0 xs ys f.3 g.3),
)
