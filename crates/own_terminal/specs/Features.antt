-- What is written to a terminal to switch a feature on, and off again.
use Rattle.std.specs.Prelude.{◌≡◌, ◌≢◌, ℕ, List, [], ◌∷◌, ◌++◌, All, codes, length, Option}
use Rattle.std.specs.Io.KnownBytes.{Keeps}
use Rattle.crossterm_command.specs.Controls.{control, reset, set}
use Rattle.crossterm_command.specs.Tokens.{Token, text_of}
use Rattle.crossterm_command.specs.Writing.{AppendsFront}
use Rattle.crossterm.specs.Sequences.{disable_mouse, enable_mouse, push_flags}
use Rattle.own_terminal.specs.declared.feature.Feature.{Feature}
use Rattle.own_terminal.specs.declared.feature.Feature.TheVariants as feature

-- The control functions that switch a feature on.
abbrev pub switches_on : Feature → List Token
switches_on feature.AlternateScreen = set "1049"
switches_on feature.HiddenCursor = reset "25"
switches_on feature.MouseCapture = enable_mouse
switches_on feature.BracketedPaste = set "2004"
switches_on feature.FocusChange = set "1004"
switches_on (feature.Keyboard flags) = push_flags flags.0

-- The control functions that switch a feature off.
abbrev pub switches_off : Feature → List Token
switches_off feature.AlternateScreen = reset "1049"
switches_off feature.HiddenCursor = set "25"
switches_off feature.MouseCapture = disable_mouse
switches_off feature.BracketedPaste = reset "2004"
switches_off feature.FocusChange = reset "1004"
switches_off (feature.Keyboard flags) = control (codes "<1") "u"

-- The text that switches all of the features off, the last one first.
abbrev pub all_switched_off : List Feature → List ℕ
all_switched_off [] = []
all_switched_off (f ∷ fs) = all_switched_off fs ++ text_of (switches_off f)

-- A writer was offered the texts that switch the features off, the last one first, and took each whole or a prefix of
-- it.
abbrev pub EndsOffered : List Feature → Option (List ℕ) → Option (List ℕ) → Type 0
EndsOffered [] old new = Keeps old new
EndsOffered (f ∷ fs) old new = (between : Option (List ℕ)) × EndsOffered fs old between × AppendsFront between new (text_of (switches_off f))

-- The kind of a feature: the feature itself, but for a keyboard without its flags.
abbrev pub without_flags : Feature → Feature
without_flags feature.AlternateScreen = feature.AlternateScreen
without_flags feature.HiddenCursor = feature.HiddenCursor
without_flags feature.MouseCapture = feature.MouseCapture
without_flags feature.BracketedPaste = feature.BracketedPaste
without_flags feature.FocusChange = feature.FocusChange
without_flags (feature.Keyboard _) = feature.Keyboard (record { 0 = 0 })

-- No feature of the list is of this kind.
abbrev pub Lacks : Feature → List Feature → Type 0
Lacks kind fs = All (λ f. without_flags f ≢ without_flags kind) fs

-- The last feature of this kind is at this place of the list.
abbrev pub IsLastAt : Feature → List Feature → ℕ → Type 0
IsLastAt kind fs at = (before after : List Feature) × (last : Feature) × (fs ≡ before ++ last ∷ after) × (length before ≡ at)
    × (without_flags last ≡ without_flags kind) × Lacks kind after

-- The new list is the old one without its last feature of this kind.
abbrev pub LosesLast : Feature → List Feature → List Feature → Type 0
LosesLast kind old new = (before after : List Feature) × (last : Feature) × (old ≡ before ++ last ∷ after) × (new ≡ before ++ after)
    × (without_flags last ≡ without_flags kind) × Lacks kind after
