-- What a handle keeps: an editor, with the rows in which its line is shown.
use Rattle.std.specs.Prelude.{◌≡◌, ℕ, Bool, true, false, List, ◌∷◌, ◌++◌, Option}
use Rattle.line_editor.specs.States.{EditorState}
use Rattle.line_editor.specs.declared.masks.Mask.{Mask}
use Rattle.line_editor.specs.Turns as turns
use Rattle.line_editor.specs.Turns.{task_of, turned}
use Rattle.crossterm_style.specs.Styles.{no_style}
use Rattle.crossterm_types.specs.Seen.{Seen}
use Rattle.prompt.specs.Frames.{Area, leaving_area, unseen}
use Rattle.prompt.specs.Shown.{PromptRun}
use Rattle.line_c.specs.declared.given.Listed.{Listed}
use Rattle.line_c.specs.declared.given.Listed.TheVariants as listed

-- What a handle keeps. Texts are in UTF-8, but for the accepted line, which is its characters.
pub record LineState : Type 0 where
  pub editor : EditorState
  -- The rows in which the line is shown.
  pub area : Area
  -- The prompt: a text without a style, and the parts behind it.
  pub prompt : List ℕ
  pub parts : List PromptRun
  -- The text that is shown behind the line while the cursor is at its end.
  pub hint : List ℕ
  -- Names in lines, and which of them are listed below the line.
  pub names : List ℕ
  pub listed : Listed
  -- Whether the line was completed last.
  pub completed : Bool
  -- What is shown in the line's place, if nobody is to read it.
  pub mask : Option Mask
  -- The line that was accepted last.
  pub accepted : List ℕ
  -- Whether the next frame clears the window, and is drawn at its top.
  pub clears : Bool
  -- What is still to be written to the terminal.
  pub output : List ℕ

-- All parts of the prompt.
abbrev pub whole_prompt : LineState → List PromptRun
whole_prompt k = record { text = k.prompt; style = no_style } ∷ k.parts

-- The state once something else was done than to complete the line: no names are listed.
abbrev pub unlisted : LineState → LineState
unlisted k = record k { completed = false; listed = listed.Nothing }

-- The area is left: the output goes on with what leaves it.
abbrev pub area_left : LineState → LineState
area_left k = record k { output = k.output ++ leaving_area k.area }

-- What an outcome of the editor makes of the rest. A window is cleared by the next frame. Once the line has ended its
-- area is left, and an accepted line is kept.
abbrev pub after_outcome : turns.Answer → LineState → LineState
after_outcome turns.Going k = k
after_outcome turns.Ring k = k
after_outcome turns.Clear k = record k { clears = true }
after_outcome (turns.Line text) k = record (area_left k) { accepted = text }
after_outcome turns.Interrupted k = area_left k
after_outcome turns.Closed k = area_left k

-- After an event: the editor takes it, and its outcome does the rest.
abbrev pub after_input : Seen → LineState → LineState
after_input e k = after_outcome (turns.answer (task_of e k.editor) k.editor) (record (unlisted k) { editor = turned e k.editor })

-- Nothing is known of the area after it was left or is to be cleared. Otherwise it is as it was.
abbrev pub AreaAfter : turns.Answer → Area → Area → Type 0
AreaAfter turns.Going a b = b ≡ a
AreaAfter turns.Ring a b = b ≡ a
AreaAfter answer a b = b ≡ unseen b.block.room a
