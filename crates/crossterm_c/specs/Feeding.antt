-- What a call does that takes bytes, described as for `Parser::advance`.
use Rattle.std.specs.Prelude.{ℕ, ◌-◌, if◌then◌else◌, Bool, List, [], ◌∷◌, ◌++◌, length, map, take}
use Rattle.crossterm_types.specs.Seen.{Seen}
use Rattle.crossterm_parse.specs.States.{is_paste}
use Rattle.crossterm_parse.specs.declared.marked.Marked.{Marked}
use Rattle.crossterm_parse.specs.Meaning.{pasted}
use Rattle.crossterm_parse.specs.View.{ParserView, AdvancesOver}
use Rattle.crossterm_parse.specs.declared.state.State.{State}
use Rattle.numbers.specs.Event.{event_at}
use Rattle.numbers.specs.declared.event.GelvanhEvent.{GelvanhEvent}

-- The parser as its caller has it. The caller keeps the bytes of an open paste, and `waiting` are the events given so
-- far.
abbrev pub view_of : State → List ℕ → List Seen → ParserView
view_of state kept waiting = record { waiting = waiting; state = state; text = kept; typed = 0; room = 0 }

-- The bytes that a caller keeps of a paste after a call took more, or none if no paste was open before.
abbrev pub kept_with : State → List ℕ → List ℕ → List ℕ
kept_with state kept bytes = if is_paste state then kept ++ bytes else []

-- The bytes that are kept after a call, or none if no paste is open.
abbrev pub kept_after : State → List ℕ → List ℕ
kept_after state kept = if is_paste state then kept else []

-- These bytes were taken and these events given as a parser does that advances, whatever was kept and given before.
-- The bytes that the caller keeps are the text of a paste.
abbrev pub Feeds : State → State → List GelvanhEvent → List ℕ → List Marked → Type 0
Feeds old new given bytes taken = (kept : List ℕ) (waiting : List Seen) →
    AdvancesOver (view_of old kept waiting)
    (view_of new (kept_after new (kept_with old kept bytes)) (waiting ++ map (event_at (kept_with old kept bytes)) given)) taken

-- The parser after more bytes of a paste, all of which the caller keeps. If it is over, its event is given, and
-- nothing is kept.
abbrev pub after_paste : State → List ℕ → List Seen → Bool → ParserView
after_paste state kept waiting over = if over then view_of state [] (waiting ++ pasted (take (length kept - 6) kept) ∷ []) else view_of state kept waiting

-- Bytes of an open paste were taken as a parser does that advances, and the paste is over or goes on.
abbrev pub Pastes : State → State → List ℕ → Bool → List Marked → Type 0
Pastes old new bytes over taken = (kept : List ℕ) (waiting : List Seen) → AdvancesOver (view_of old kept waiting) (after_paste new (kept ++ bytes) waiting over) taken
