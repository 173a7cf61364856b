-- How a matcher takes an event.
use Rattle.std.specs.Prelude.{◌≡◌, ◌&&◌, Bool, true, false, cond, [], ◌∷◌, ◌++◌}
use Rattle.crossterm_types.specs.Seen.{Seen}
use Rattle.crossterm_types.specs.Seen as seen
use Rattle.crossterm_types.specs.declared.event.key.KeyCode.{KeyCode}
use Rattle.crossterm_types.specs.declared.event.key.KeyCode.TheVariants as code
use Rattle.crossterm_types.specs.declared.event.key.KeyEvent.{KeyEvent}
use Rattle.crossterm_types.specs.declared.event.key.KeyEventKind.{KeyEventKind}
use Rattle.crossterm_types.specs.declared.event.key.KeyEventKind.TheVariants.{Press, Repeat, Release}
use Rattle.keymap.specs.Matching.{Matching, IsFed, IsFlushed}
use Rattle.keymap.specs.Outcomes.{Event}
use Rattle.keymap.specs.declared.inside.Way.{Way}
use Rattle.keymap.specs.declared.inside.Way.TheVariants.{Feed, Pass, Follow}

-- Whether a key is a modifier by itself, as Shift.
abbrev pub is_modifier_key : KeyCode → Bool
is_modifier_key (code.Modifier _) = true
is_modifier_key _ = false

-- A pressed or repeated key is fed, and a released one follows a flush. If `passes`, releases and modifier keys are
-- passed on.
abbrev pub way_of_key : Bool → KeyEventKind → KeyEvent → Way
way_of_key passes Press key = cond (passes && is_modifier_key key.code) Pass (Feed key)
way_of_key passes Repeat key = cond (passes && is_modifier_key key.code) Pass (Feed key)
way_of_key passes Release key = cond passes Pass Follow

-- A key is taken as its kind says, and any other event follows a flush.
abbrev pub way_of : Bool → Seen → Way
way_of passes (seen.Key key) = way_of_key passes key.kind key
way_of passes _ = Follow

-- The matcher is flushed, and then the event waits behind all other outcomes.
pub record IsFollowed (m : Matching) (x : Seen) (n : Matching) : Type 0 where
  pub flushed : Matching
  pub flushes : IsFlushed m flushed
  pub follows : n ≡ record flushed { waiting = flushed.waiting ++ Event x ∷ [] }

-- The event waits behind all other outcomes, and nothing else changes.
abbrev pub IsPassed : Matching → Seen → Matching → Type 0
IsPassed m x n = n ≡ record m { waiting = m.waiting ++ Event x ∷ [] }

-- An event is taken one way: a key is fed, the event is passed on, or it follows a flush.
abbrev pub TakesBy : Way → Matching → Seen → Matching → Type 0
TakesBy (Feed key) m x n = IsFed m key n
TakesBy Pass m x n = IsPassed m x n
TakesBy Follow m x n = IsFollowed m x n

-- The matcher takes an event: a key is fed, the event is passed on, or it follows a flush.
abbrev pub TakesEvent : Matching → Seen → Matching → Type 0
TakesEvent m x n = TakesBy (way_of m.passes x) m x n
