-- The pieces that are written while a line is asked for.
use Rattle.std.specs.Prelude.{◌≡◌, ℕ, ◌≤◌, ◌&&◌, Bool, true, false, if◌then◌else◌, reverse, List, [], ◌∷◌, ◌++◌, Option, Some, None, is_some, encode_utf8_all}
use Rattle.std.specs.Io.KnownBytes.{Appends}
use Rattle.std.specs.declared.io.ErrorKind.{ErrorKind}
use Rattle.std.specs.declared.time.Duration.{Duration}
use Rattle.crossterm_types.specs.Seen.{Seen}
use Rattle.crossterm_types.specs.Seen as seen
use Rattle.crossterm_read.specs.Answers.{SourceAnswer}
use Rattle.crossterm_read.specs.History.{Known}
use Rattle.crossterm.specs.Asking.{position_query}
use Rattle.line_editor.specs.Bounds.{is_too_long}
use Rattle.line_editor.specs.Seeking.{is_ahead, pattern_of}
use Rattle.line_editor.specs.Masks.{masked}
use Rattle.line_editor.specs.declared.limits.Limits.{Limits}
use Rattle.line_editor.specs.declared.masks.Mask.{Mask}
use Rattle.line_editor.specs.Splits.{line_text}
use Rattle.line_editor.specs.States.{EditorState, fresh}
use Rattle.line_editor.specs.Turns.{Answer, Going, Clear, Ring, event_more}
use Rattle.prompt.specs.Asking.{GoesOn, LineEnds, StopsAsking, stopped, broke, refused, answer_to, after_event}
use Rattle.prompt.specs.Completing.{as_read, is_tab}
use Rattle.prompt.specs.Drawing.{clearing, search_text}
use Rattle.prompt.specs.Frames.{Area, IsLineFrame, IsNewArea, bell, erasure, in_lines, leaving_area, resized_area, unseen}
use Rattle.prompt.specs.Lines.{going_on_events}
use Rattle.prompt.specs.Shown.{PromptRun, Shown, runs_of}
use Rattle.prompt.specs.declared.asking.Prompt.{Prompt}

-- A prompt, as it asks for a line. Texts are in UTF-8.
pub record PromptView : Type 0 where
  -- What the editor is given for an event.
  pub given : EditorState → Seen → Seen
  -- The prompt's parts.
  pub prompt : List PromptRun
  -- The hint for a line.
  pub hints : List ℕ → List ℕ
  -- The texts with which a line may go on, by what is before and behind the cursor.
  pub candidates : List ℕ → List ℕ → List (List ℕ)
  -- What is shown in the line's place, if nobody is to read it.
  pub mask : Option Mask
  -- Whether it asks the terminal for the cursor's place, and whether it wraps the line.
  pub asks : Bool
  pub wraps : Bool
  -- Whether it prints texts of other threads above the line.
  pub prints : Bool

-- The parts of a prompt.
abbrev pub prompt_runs : {H : Type 0} → Prompt H → List PromptRun
prompt_runs p = runs_of p.text.now p.parts.now

-- A prompt with these of a helper.
abbrev pub look_of : {H : Type 0} → (EditorState → Seen → Seen) → (List ℕ → List ℕ) → (List ℕ → List ℕ → List (List ℕ)) → Prompt H → PromptView
look_of given hints candidates p = record { given = given; prompt = prompt_runs p; hints = hints; candidates = candidates; mask = p.mask; asks = p.asks; wraps = p.wraps; prints = is_some p.printer }

-- A prompt of these parts, for any reader, which wraps the line, asks the terminal and prints nothing else.
abbrev pub IsNewPrompt : {H : Type 0} → List PromptRun → Prompt H → Type 0
IsNewPrompt runs p = (prompt_runs p ≡ runs) × (p.mask ≡ None) × (p.asks ≡ true) × (p.wraps ≡ true) × (is_some p.printer ≡ false)

-- Two prompts that differ by their helpers alone.
abbrev pub IsPromptLike : {G H : Type 0} → Prompt G → Prompt H → Type 0
IsPromptLike p q = (prompt_runs q ≡ prompt_runs p) × (q.mask ≡ p.mask) × (q.asks ≡ p.asks) × (q.wraps ≡ p.wraps) × (q.printer ≡ p.printer)

-- A prompt of this text without a helper, which wraps the line and asks the terminal.
abbrev pub plain_look : List ℕ → PromptView
plain_look text = record { given = as_read; prompt = runs_of text []; hints = λ _. []; candidates = λ _ _. []; mask = None; asks = true; wraps = true; prints = false }

-- The same prompt for a line that nobody is to read.
abbrev pub hidden_look : {H : Type 0} → Mask → Prompt H → PromptView
hidden_look mask p = record { given = as_read; prompt = prompt_runs p; hints = λ _. []; candidates = λ _ _. []; mask = Some mask; asks = p.asks; wraps = p.wraps; prints = is_some p.printer }

-- What is shown of an editor's line that nobody is to read.
abbrev pub masked_shown : List PromptRun → Mask → EditorState → Shown
masked_shown prompt mask w = record { prompt = prompt; line = masked mask w.line; hint = []; candidates = [] }

-- What is shown while an incremental search goes on: what it looks for is in the prompt's place.
abbrev pub search_shown : List ℕ → EditorState → Shown
search_shown pattern w = record { prompt = runs_of (search_text (is_ahead w.last) (encode_utf8_all pattern)) []; line = w.line; hint = []; candidates = [] }

-- What is shown of any other line: candidates are listed or not.
abbrev pub line_shown : PromptView → Bool → EditorState → Shown
line_shown look lists w = record {
  prompt = look.prompt;
  line = w.line;
  hint = look.hints (encode_utf8_all (line_text w.line));
  candidates = if lists then look.candidates (encode_utf8_all (reverse w.line.before)) (encode_utf8_all w.line.after) else [];
}

-- The same of a line that may be masked, and of one for which a search may go on. Otherwise it is the last argument.
abbrev pub shown_instead : Option Mask → Option (List ℕ) → List PromptRun → EditorState → Shown → Shown
shown_instead (Some mask) pattern prompt w line = masked_shown prompt mask w
shown_instead None (Some pattern) prompt w line = search_shown pattern w
shown_instead None None prompt w line = line

-- What is shown of an editor's line.
abbrev pub shown_for : PromptView → Bool → EditorState → Shown
shown_for look lists w = shown_instead look.mask (pattern_of w) look.prompt w (line_shown look lists w)

-- Whether the first of some events is Tab without a modifier.
abbrev pub begins_with_tab : List Seen → Bool
begins_with_tab [] = false
begins_with_tab (e ∷ es) = is_tab e

-- Whether the first two are.
abbrev pub begins_with_tabs : List Seen → Bool
begins_with_tabs [] = false
begins_with_tabs (e ∷ es) = is_tab e && begins_with_tab es

-- Whether the last one is.
abbrev pub ends_in_tab : List Seen → Bool
ends_in_tab es = begins_with_tab (reverse es)

-- Whether the last two are: then candidates are listed.
abbrev pub ends_in_tabs : List Seen → Bool
ends_in_tabs es = begins_with_tabs (reverse es)

-- Whether an editor is given a text that has no room in its line, for an event.
abbrev pub overflows : PromptView → EditorState → Seen → Bool
overflows look w e = is_too_long (event_more (look.given w e) w) w

-- Whether an event reports another size of the window.
abbrev pub resizes : Seen → Bool
resizes (seen.Resize columns rows) = true
resizes event = false

-- How far a line is shown.
pub data Stage : Type 0 where
  -- The area shows the line. The bell is to ring then, or not.
  Shows : Area → Bool → Stage
  -- The line is to be shown in the area. The bell is to ring then, or not.
  Due : Area → Bool → Stage
  -- The window is to be cleared.
  Clears : Area → Stage
  -- The window of the area has another size, and the terminal was asked for the cursor's place, or not.
  Resized : Area → Bool → Stage

-- From an editor on these events were taken while a line went on. They led to the second editor, and these bytes were
-- written.
pub data Pieces (look : PromptView) (w : EditorState) : List Seen → EditorState → Stage → List ℕ → Type 0 where
  -- Nothing was written yet, and nothing is known of the area.
  nothing_yet : (a : Area) → IsNewArea look.wraps a → Pieces look w [] w (Due a false) []
  -- One frame: the area shows the editor's line, and lists candidates after a second Tab.
  shown : (es : List Seen) (k : EditorState) (a b : Area) (rings : Bool) (bytes frame : List ℕ) → Pieces look w es k (Due a rings) bytes
      → IsLineFrame (shown_for look (ends_in_tabs es) k) a b frame → Pieces look w es k (Shows b rings) (bytes ++ frame)
  -- One more event was taken. The line is to be shown anew, and nothing else is read before.
  moved_on : (es : List Seen) (k : EditorState) (a : Area) (bytes : List ℕ) (e : Seen) → Pieces look w es k (Shows a false) bytes
      → overflows look k e ≡ false → answer_to (look.given k e) k ≡ Going → resizes e ≡ false → Pieces look w (es ++ e ∷ []) (after_event (look.given k e) k) (Due a false) bytes
  -- A search found nothing, or there was none to give up: the bell is to ring, once the line is shown anew.
  missed : (es : List Seen) (k : EditorState) (a : Area) (bytes : List ℕ) (e : Seen) → Pieces look w es k (Shows a false) bytes
      → answer_to (look.given k e) k ≡ Ring → Pieces look w (es ++ e ∷ []) (after_event (look.given k e) k) (Due a true) bytes
  -- A text was too long: the bell is to ring.
  overflowed : (es : List Seen) (k : EditorState) (a : Area) (bytes : List ℕ) (e : Seen) → Pieces look w es k (Shows a false) bytes
      → overflows look k e ≡ true → Pieces look w (es ++ e ∷ []) (after_event (look.given k e) k) (Shows a true) bytes
  -- The bell.
  rung : (es : List Seen) (k : EditorState) (a : Area) (bytes : List ℕ) → Pieces look w es k (Shows a true) bytes → Pieces look w es k (Shows a false) (bytes ++ bell)
  -- The line goes on in an empty window.
  let_clear : (es : List Seen) (k : EditorState) (a : Area) (bytes : List ℕ) (e : Seen) → Pieces look w es k (Shows a false) bytes
      → answer_to (look.given k e) k ≡ Clear → Pieces look w (es ++ e ∷ []) (after_event (look.given k e) k) (Clears a) bytes
  -- The window is cleared, and the cursor is at its top: nothing is known of the area there.
  cleared : (es : List Seen) (k : EditorState) (a : Area) (room : ℕ) (bytes : List ℕ) → Pieces look w es k (Clears a) bytes → Pieces look w es k (Due (unseen room a) false) (bytes ++ clearing)
  -- The window got another size.
  resized : (es : List Seen) (k : EditorState) (a : Area) (bytes : List ℕ) (e : Seen) → Pieces look w es k (Shows a false) bytes
      → overflows look k e ≡ false → answer_to (look.given k e) k ≡ Going → resizes e ≡ true → Pieces look w (es ++ e ∷ []) (after_event (look.given k e) k) (Resized a false) bytes
  -- The query for the cursor's place, or a beginning of it if the writer failed.
  asked : (es : List Seen) (k : EditorState) (a : Area) (bytes front rest : List ℕ) → Pieces look w es k (Resized a false) bytes
      → look.asks ≡ true → position_query ≡ front ++ rest → Pieces look w es k (Resized a true) (bytes ++ front)
  -- The area is erased, from its first row on, or a row above that: the terminal may have wrapped its rows.
  erased : (es : List Seen) (k : EditorState) (a : Area) (bytes : List ℕ) (was : Bool) (rows width most room : ℕ) → Pieces look w es k (Resized a was) bytes
      → a.block.row ≤ rows → Pieces look w es k (Due (resized_area width most room a) false) (bytes ++ erasure rows)
  -- A text of another thread is printed in the area's place, in whole lines. Nothing is known of the area below it.
  printed : (es : List Seen) (k : EditorState) (a : Area) (room : ℕ) (bytes text : List ℕ) → Pieces look w es k (Shows a false) bytes
      → look.prints ≡ true → Pieces look w es k (Due (unseen room a) false) (bytes ++ (erasure a.block.row ++ in_lines text))

-- A writer's bytes grew by what was written while a line went on.
pub record HasWritten (look : PromptView) (w : EditorState) (es : List Seen) (k : EditorState) (stage : Stage) (old new : Option (List ℕ)) : Type 0 where
  pub bytes : List ℕ
  pub appended : Appends old new bytes
  pub writes : Pieces look w es k stage bytes

-- A writer's bytes grew by a beginning of what is written while a line goes on.
pub record HasWrittenFront (look : PromptView) (w : EditorState) (es : List Seen) (k : EditorState) (old new : Option (List ℕ)) : Type 0 where
  pub bytes : List ℕ
  pub rest : List ℕ
  pub stage : Stage
  pub appended : Appends old new bytes
  pub writes : Pieces look w es k stage (bytes ++ rest)

-- A line goes on, and it is shown. The last event was Tab or not, and candidates are listed or not.
pub record GoesOnShown {S : Type 0} (drawn : S → List SourceAnswer → S → Type 0) (asked : S → List (Option Duration)) (look : PromptView) (v : Known S) (w : EditorState) (p : Known S) (k : EditorState) (a : Area) (tabbed lists : Bool) (old new : Option (List ℕ)) : Type 0 where
  pub goes : GoesOn drawn asked look.given v w p k
  pub tabs : ends_in_tab (going_on_events goes) ≡ tabbed
  pub listed : ends_in_tabs (going_on_events goes) ≡ lists
  pub written : HasWritten look w (going_on_events goes) k (Shows a false) old new

-- A line ended, and it was shown before its last event was read. Then the area was left once, as far as the writer went.
pub record LineEndsShown {S : Type 0} (drawn : S → List SourceAnswer → S → Type 0) (asked : S → List (Option Duration)) (look : PromptView) (v : Known S) (w : EditorState) (a : Answer) (u : Known S) (z : EditorState) (old new : Option (List ℕ)) : Type 0 where
  pub ends : LineEnds drawn asked look.given v w a u z
  pub area : Area
  pub bytes : List ℕ
  pub front : List ℕ
  pub rest : List ℕ
  pub writes : Pieces look w (going_on_events ends.goes) ends.line (Shows area false) bytes
  pub leaves : leaving_area area ≡ front ++ rest
  pub appended : Appends old new (bytes ++ front)

-- The events that were taken before an error.
abbrev pub taken_before : {S : Type 0} {drawn : S → List SourceAnswer → S → Type 0} {asked : S → List (Option Duration)} {given : EditorState → Seen → Seen} {v u : Known S} {w z : EditorState} {kind : ErrorKind} → StopsAsking drawn asked given v w kind u z → List Seen
taken_before (stopped goes) = going_on_events goes
taken_before (broke p goes reads) = going_on_events goes
taken_before (refused p e goes reads room is) = going_on_events goes

-- Asking stopped with an error, and a beginning was written of what is written while such a line goes on.
pub record StopsShown {S : Type 0} (drawn : S → List SourceAnswer → S → Type 0) (asked : S → List (Option Duration)) (look : PromptView) (v : Known S) (w : EditorState) (kind : ErrorKind) (u : Known S) (z : EditorState) (old new : Option (List ℕ)) : Type 0 where
  pub stops : StopsAsking drawn asked look.given v w kind u z
  pub written : HasWrittenFront look w (taken_before stops) z old new

-- The limits of an editor that remembers no line.
abbrev pub hidden_limits : Limits
hidden_limits = record { bytes = 65536; lines = 0; steps = 1000; kills = 60; ignore_dups = false; ignore_space = false; multiline = false }

-- A line that nobody is to read ended with this answer. It was typed in an editor of its own.
abbrev pub HiddenLine : {S H : Type 0} → (S → List SourceAnswer → S → Type 0) → (S → List (Option Duration)) → Mask → Prompt H → Known S → Answer → Known S → Option (List ℕ) → Option (List ℕ) → Type 0
HiddenLine drawn ask mask p v a u old new = (z : EditorState) × LineEndsShown drawn ask (hidden_look mask p) v (fresh hidden_limits) a u z old new

-- Asking for such a line stopped with an error of this kind, or memory was refused for the editor, and nothing was done.
abbrev pub HiddenStops : {S H : Type 0} → (S → List SourceAnswer → S → Type 0) → (S → List (Option Duration)) → Mask → Prompt H → Known S → ErrorKind → Known S → Option (List ℕ) → Option (List ℕ) → Type 0
HiddenStops drawn ask mask p v kind u old new = (z : EditorState) × StopsShown drawn ask (hidden_look mask p) v (fresh hidden_limits) kind u z old new
