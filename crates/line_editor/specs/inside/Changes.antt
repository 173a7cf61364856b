-- The changes that lead from a line to the lines before it, and back.
use Rattle.std.specs.Prelude.{◌≡◌, ⊤, ℕ, ◌≤◌, Bool, true, false, List, [], ◌∷◌, ◌++◌, drop, encode_utf8_all, if◌then◌else◌, slice_range, take}
use Rattle.std.specs.Str.{chars, IsCharBoundary, IsUtf8}
use Rattle.line_editor.specs.Edits.{IsSettled}
use Rattle.line_editor.specs.Shown.{AreRows}
use Rattle.line_editor.specs.Splits.{Split, bytes_before, line_text, split_at}
use Rattle.line_editor.specs.States.{DraftState}

-- A change of a text into another one, in bytes of UTF-8: `text` in place of what is between two places. The cursor is at `at` then.
pub record Splice : Type 0 where
  pub from : ℕ
  pub to : ℕ
  pub text : List ℕ
  pub at : ℕ

-- The text that a splice makes of another one.
abbrev pub spliced : Splice → List ℕ → List ℕ
spliced c text = (take c.from text ++ c.text) ++ drop c.to text

-- The bytes of a line's text.
abbrev pub line_bytes : Split → List ℕ
line_bytes d = encode_utf8_all (line_text d)

-- The lines to which splices lead from a text, one after another.
abbrev pub lines_by : List ℕ → List Splice → List Split
lines_by text [] = []
lines_by text (c ∷ changes) = split_at (spliced c text) c.at ∷ lines_by (spliced c text) changes

-- A splice cuts a text between characters, and makes a line of it.
pub record Fits (text : List ℕ) (c : Splice) : Type 0 where
  pub order : c.from ≤ c.to
  pub from : IsCharBoundary text c.from
  pub to : IsCharBoundary text c.to
  pub utf8 : IsUtf8 (spliced c text)
  pub at : IsCharBoundary (spliced c text) c.at
  pub settled : IsSettled (split_at (spliced c text) c.at)
  pub shown : AreRows (chars (spliced c text))

-- Each of the splices fits the text that those before it make.
abbrev pub AllFit : List ℕ → List Splice → Type 0
AllFit text [] = ⊤
AllFit text (c ∷ changes) = Fits text c × AllFit (spliced c text) changes

-- A splice takes a change of a line back.
pub record TakesBack (c : Splice) (before after : Split) : Type 0 where
  pub fits : Fits (line_bytes after) c
  pub text : spliced c (line_bytes after) ≡ line_bytes before
  pub line : split_at (spliced c (line_bytes after)) c.at ≡ before

-- The first of the splices, if there is one, ends no later than at a place.
abbrev pub EndsBy : ℕ → List Splice → Type 0
EndsBy at [] = ⊤
EndsBy at (c ∷ changes) = c.to ≤ at

-- A splice that ends at a later place: what is between is put back as it is.
abbrev pub reached : List ℕ → ℕ → Splice → Splice
reached text at c = record c { to = at; text = c.text ++ slice_range text c.to at }

abbrev pub first_reached : List ℕ → ℕ → List Splice → List Splice
first_reached text at [] = []
first_reached text at (c ∷ changes) = reached text at c ∷ changes

-- A splice that takes the place of all up to a place.
abbrev pub ended : ℕ → Splice → Splice
ended end c = record c { to = end }

abbrev pub first_ended : ℕ → List Splice → List Splice
first_ended end [] = []
first_ended end (c ∷ changes) = ended end c ∷ changes

-- The changes of a line to the others belong to it. A character that was typed last is in the newest change.
pub record AreChanges (line : Split) (past undone : List Splice) (typing : Bool) : Type 0 where
  pub back : AllFit (line_bytes line) past
  pub forth : AllFit (line_bytes line) undone
  pub typed : typing ≡ true → EndsBy (bytes_before line) past

-- The line after a character was typed.
abbrev pub draft_typed : ℕ → Split → DraftState → DraftState
draft_typed steps d w = record { line = d; past = if w.typing then w.past else take steps (w.line ∷ w.past); undone = []; typing = true }

-- The newest line of the past, if there is one.
abbrev pub draft_undone : List Split → DraftState → DraftState
draft_undone [] w = w
draft_undone (d ∷ past) w = record { line = d; past = past; undone = w.line ∷ w.undone; typing = false }

-- The line that was undone last, if there is one.
abbrev pub draft_redone : List Split → DraftState → DraftState
draft_redone [] w = w
draft_redone (d ∷ undone) w = record { line = d; past = w.line ∷ w.past; undone = undone; typing = false }
