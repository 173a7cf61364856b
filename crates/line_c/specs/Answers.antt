-- What the calls answer, and what each answer says of what is kept.
use Rattle.std.specs.Prelude.{◌≡◌, ◌<◌, ◌≤◌, ℕ, ◌-◌, ◌++◌, ◌==◌, Bool, true, false, drop, encode_utf8_all, length, reverse, take, List, [], ◌∷◌, Option, Some, None, if◌then◌else◌}
use Rattle.std.specs.Str.{IsUtf8, chars}
use Rattle.std.specs.Str.Lines.{lines}
use Rattle.crossterm_style.specs.declared.content_style.ContentStyle.{ContentStyle}
use Rattle.crossterm_types.specs.Seen.{Seen, Paste}
use Rattle.line_editor.specs.declared.fault.EditFault.{EditFault}
use Rattle.line_editor.specs.declared.fault.EditFault.TheVariants as fault
use Rattle.line_editor.specs.declared.limits.Limits.{Limits}
use Rattle.line_editor.specs.Bounds.{is_too_long, size}
use Rattle.line_editor.specs.History.{loaded, saved}
use Rattle.line_editor.specs.States.{EditorState, fresh}
use Rattle.line_editor.specs.Turns as turns
use Rattle.line_editor.specs.Turns.{event_more, task_of, turned}
use Rattle.line_c.specs.declared.answers.Answer.{Answer}
use Rattle.line_c.specs.declared.answers.Answer.TheVariants.{GoesOn, Accepted, Interrupted, Closed, TooLong, NoMemory, Unknown, Rings}
use Rattle.line_c.specs.declared.given.Listed.{Listed}
use Rattle.line_c.specs.declared.given.Listed.TheVariants as listed
use Rattle.line_c.specs.Kept.{AreaAfter, LineState, after_input, unlisted, whole_prompt}
use Rattle.line_editor.specs.declared.masks.Mask.{Mask}
use Rattle.line_editor.specs.declared.masks.Mask.TheVariants as mask
use Rattle.prompt.specs.Completing.{as_read}
use Rattle.prompt.specs.Drawing.{clearing}
use Rattle.prompt.specs.Frames.{Area, Draws, IsNewArea, IsSizeOf, IsUnseen, erasure, resized_area, unseen}
use Rattle.prompt.specs.Shown.{PromptRun}
use Rattle.prompt.specs.Words.{completion_among, word_at_end, names_among}
use Rattle.prompt.specs.Written.{PromptView, shown_for}
use Rattle.screen.specs.Blocks.{without_place}
use Rattle.prompt.specs.Prompts.{has_control}

-- The number of an answer.
abbrev pub answer_number : Answer → ℕ
answer_number GoesOn = 0
answer_number Accepted = 1
answer_number Interrupted = 2
answer_number Closed = 3
answer_number TooLong = 4
answer_number NoMemory = 5
answer_number Unknown = 6
answer_number Rings = 7

-- The answer that says this outcome.
abbrev pub outcome_answer : turns.Answer → Answer
outcome_answer turns.Going = GoesOn
outcome_answer turns.Clear = GoesOn
outcome_answer turns.Ring = Rings
outcome_answer (turns.Line text) = Accepted
outcome_answer turns.Interrupted = Interrupted
outcome_answer turns.Closed = Closed

-- The answer that names a fault.
abbrev pub fault_answer : EditFault → Answer
fault_answer fault.TooLong = TooLong
fault_answer fault.Memory = NoMemory

-- What comes of an event. If the numbers are none, or its text is too long, or memory was refused, nothing has changed.
abbrev pub TakesInput : Option Seen → Answer → LineState → LineState → Type 0
TakesInput None a k l = (a ≡ Unknown) × (l ≡ k)
TakesInput (Some e) TooLong k l = (is_too_long (event_more e k.editor) k.editor ≡ true) × (l ≡ k)
TakesInput (Some e) NoMemory k l = l ≡ k
TakesInput (Some e) a k l =
    (a ≡ outcome_answer (turns.answer (task_of e k.editor) k.editor))
    × (is_too_long (event_more e k.editor) k.editor ≡ false)
    × (l ≡ record (after_input e k) { area = l.area })
    × AreaAfter (turns.answer (task_of e k.editor) k.editor) k.area l.area

-- What comes of a pasted text, in UTF-8: as of a paste that is an event. If memory was refused, the text has room.
abbrev pub TakesText : List ℕ → Answer → LineState → LineState → Type 0
TakesText text a k l =
    TakesInput (Some (Paste text)) a k l × (a ≡ NoMemory → is_too_long (event_more (Paste text) k.editor) k.editor ≡ false)

-- A call returned the number of an answer, which says this of what is kept.
abbrev pub ReturnsAnswer : ℕ → (Answer → LineState → LineState → Type 0) → LineState → LineState → Type 0
ReturnsAnswer n P k l = (a : Answer) × (n ≡ answer_number a) × P a k l

-- A call with a text, which has to be UTF-8: if it isn't, the answer says so, and nothing has changed.
abbrev pub WithText : List ℕ → (Answer → LineState → LineState → Type 0) → Answer → LineState → LineState → Type 0
WithText text P a k l = (IsUtf8 text → P a k l) × (¬ (IsUtf8 text) → (a ≡ Unknown) × (l ≡ k))

-- What comes of something for which memory may be refused, and then nothing has changed: otherwise `done` is what it leads to.
abbrev pub MakesOf : LineState → Answer → LineState → LineState → Type 0
MakesOf done GoesOn k l = l ≡ done
MakesOf done NoMemory k l = l ≡ k
MakesOf done a k l = ⊥

-- Nothing is known of an area that wraps the line in a window of so many columns and rows.
abbrev pub IsAreaOf : ℕ → ℕ → Area → Type 0
IsAreaOf columns rows a = IsNewArea true a × (a.block.width ≡ columns - 1) × (a.most ≡ rows)

-- An editor with these limits and nothing written, in a window of which nothing is known.
pub record IsFresh (limits : Limits) (k : LineState) : Type 0 where
  pub editor : k.editor ≡ fresh limits
  pub area : IsAreaOf 80 24 k.area
  pub texts : (k.prompt ≡ []) × (k.parts ≡ []) × (k.hint ≡ []) × (k.names ≡ []) × (k.accepted ≡ [])
  pub shows : (k.completed ≡ false) × (k.listed ≡ listed.Nothing) × (k.mask ≡ None)
  pub output : (k.clears ≡ false) × (k.output ≡ [])

-- A number of columns or rows: 0 count as so many.
abbrev pub counted : ℕ → ℕ → ℕ
counted count usual = if count == 0 then usual else count

-- A line was begun with a prompt of this text alone, in a window of so many columns and rows. A prompt with a control
-- character is none.
abbrev pub BeginsLine : List ℕ → ℕ → ℕ → Answer → LineState → LineState → Type 0
BeginsLine prompt columns rows GoesOn k l =
    (has_control (chars prompt) ≡ false) × IsAreaOf (counted columns 80) (counted rows 24) l.area
    × (l ≡ record (unlisted k) { prompt = prompt; parts = []; area = l.area; clears = false })
BeginsLine prompt columns rows NoMemory k l = l ≡ k
BeginsLine prompt columns rows Unknown k l = (has_control (chars prompt) ≡ true) × (l ≡ k)
BeginsLine prompt columns rows a k l = ⊥

-- The state with one more part of the prompt, behind the others.
abbrev pub with_part : PromptRun → LineState → LineState
with_part part k = record k { parts = k.parts ++ part ∷ [] }

-- A part was added to the prompt. One with a control character is none.
abbrev pub AddsRun : PromptRun → Answer → LineState → LineState → Type 0
AddsRun part GoesOn k l = (has_control (chars part.text) ≡ false) × (l ≡ with_part part k)
AddsRun part NoMemory k l = l ≡ k
AddsRun part Unknown k l = (has_control (chars part.text) ≡ true) × (l ≡ k)
AddsRun part a k l = ⊥

-- A text was added to the prompt in a style, if the numbers were one.
abbrev pub AddsPart : Option ContentStyle → List ℕ → Answer → LineState → LineState → Type 0
AddsPart None text a k l = (a ≡ Unknown) × (l ≡ k)
AddsPart (Some style) text a k l = AddsRun (record { text = text; style = style }) a k l

-- The window got another size: the output erases the area from its first row on, and nothing is known of it then.
abbrev pub Resizes : ℕ → ℕ → Answer → LineState → LineState → Type 0
Resizes columns rows GoesOn k l =
    (l ≡ record k { area = l.area; output = k.output ++ erasure k.area.block.row })
    × (l.area ≡ resized_area (counted columns 80 - 1) (counted rows 24) l.area.block.room k.area)
Resizes columns rows NoMemory k l = l ≡ k
Resizes columns rows a k l = ⊥

-- What a frame begins with: what clears the window, if it does that.
abbrev pub before_frame : Bool → List ℕ
before_frame clears = if clears then clearing else []

-- What a frame finds of an area: nothing if the window is cleared before, and never the cursor's column.
abbrev pub FindsArea : Bool → Area → Area → Type 0
FindsArea true a b = b ≡ unseen b.block.room a
FindsArea false a b = b ≡ record a { block = without_place a.block }

-- Whether some names are listed.
abbrev pub lists : Listed → Bool
lists listed.Nothing = false
lists listed.All = true
lists listed.Beginning = true

-- The names that are listed: all, or those that begin with the word before the cursor.
abbrev pub names_listed : Listed → List ℕ → List (List ℕ) → List (List ℕ)
names_listed listed.Nothing before names = []
names_listed listed.All before names = names
names_listed listed.Beginning before names = names_among (word_at_end before) names

-- The prompt that shows the line: with the hint, the names that are listed, and what is shown in the line's place.
abbrev pub look_at : LineState → PromptView
look_at k = record {
  given = as_read;
  prompt = whole_prompt k;
  hints = λ _. k.hint;
  candidates = λ before _. names_listed k.listed before (lines k.names);
  mask = k.mask;
  asks = true;
  wraps = true;
  prints = false;
}

-- One frame joined the output: the area shows the line, and nothing else changes. The window is cleared before, if that
-- was due. If memory was refused, the output is as it was, and nothing is known of the area.
abbrev pub ShowsLine : Answer → LineState → LineState → Type 0
ShowsLine GoesOn k l =
    (frame : List ℕ) × (a : Area) × FindsArea k.clears k.area a × (l ≡ record k { area = l.area; clears = false; output = k.output ++ frame })
    × Draws (shown_for (look_at k) (lists k.listed) k.editor) a l.area (Some (before_frame k.clears)) (Some frame)
ShowsLine NoMemory k l = (l ≡ record k { area = l.area }) × IsUnseen l.area × IsSizeOf k.area l.area
ShowsLine a k l = ⊥

-- All of these names are listed below the line.
abbrev pub with_names : List ℕ → LineState → LineState
with_names names k = record k { names = names; listed = listed.All; completed = false }

-- The line was completed by these names: what they have in common behind the word before the cursor was pasted, if
-- anything. At the second time in a row the names that begin with the word are listed.
abbrev pub completed_by : List ℕ → LineState → LineState
completed_by names k = record k { names = names; listed = if k.completed then listed.Beginning else listed.Nothing; completed = true }

-- The same if this text, if any, completes the word.
abbrev pub CompletesBy : Option (List ℕ) → List ℕ → Answer → LineState → LineState → Type 0
CompletesBy None names a k l = MakesOf (completed_by names k) a k l
CompletesBy (Some text) names GoesOn k l =
    (is_too_long (event_more (Paste text) k.editor) k.editor ≡ false) × (l ≡ record (completed_by names k) { editor = turned (Paste text) k.editor })
CompletesBy (Some text) names TooLong k l = (is_too_long (event_more (Paste text) k.editor) k.editor ≡ true) × (l ≡ k)
CompletesBy (Some text) names NoMemory k l = l ≡ k
CompletesBy (Some text) names a k l = ⊥

-- The same by the word before the cursor.
abbrev pub CompletesLine : List ℕ → Answer → LineState → LineState → Type 0
CompletesLine names a k l = CompletesBy (completion_among (word_at_end (encode_utf8_all (reverse k.editor.line.before))) (lines names)) names a k l

-- What a number says of the line: that it is shown, that nothing is shown of it, or a star for each character.
abbrev pub mask_at : ℕ → Option (Option Mask)
mask_at n = if n == 0 then Some None else (if n == 1 then Some (Some mask.Nothing) else (if n == 2 then Some (Some mask.Stars) else None))

-- The line is masked from the next frame on, if the number says how.
abbrev pub MasksAs : Option (Option Mask) → Answer → LineState → LineState → Type 0
MasksAs (Some how) a k l = (a ≡ GoesOn) × (l ≡ record k { mask = how })
MasksAs None a k l = (a ≡ Unknown) × (l ≡ k)

-- The state after a history was taken from a text.
abbrev pub with_history : List ℕ → LineState → LineState
with_history text k = record k { editor = loaded (chars text) k.editor }

-- The state with another text behind the line.
abbrev pub with_hint : List ℕ → LineState → LineState
with_hint text k = record k { hint = text }

-- A text was copied to the front of a slice if it fits, and otherwise the slice is as it was. Either way it is counted,
-- in bytes of UTF-8.
abbrev pub Copies : List ℕ → ℕ → List ℕ → List ℕ → Type 0
Copies text count old new =
    (count ≡ size text)
    × (count ≤ length old → (take count new ≡ encode_utf8_all text) × (drop count new ≡ drop count old))
    × (length old < count → new ≡ old)

-- The history was copied as a text, if memory was had for it.
abbrev pub CopiesHistory : EditorState → Answer → ℕ → ℕ → List ℕ → List ℕ → Type 0
CopiesHistory w GoesOn length_old length_new old new = Copies (saved w.limits.multiline w.history) length_new old new
CopiesHistory w NoMemory length_old length_new old new = (length_new ≡ length_old) × (new ≡ old)
CopiesHistory w a length_old length_new old new = ⊥

-- Bytes were moved from the front of the output to that of a slice: none only if there are none, or no room. What is
-- behind them in the slice may be anything.
pub record Moves (count : ℕ) (old new : List ℕ) (k l : LineState) : Type 0 where
  pub fits : count ≤ length old
  pub moved : take count new ≡ take count k.output
  pub left : l ≡ record k { output = drop count k.output }
  pub none : count ≡ 0 → 0 < length old → k.output ≡ []
