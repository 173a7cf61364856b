-- What an editor is given for an event that was read: at Tab the text that completes its line.
use Rattle.std.specs.Prelude.{ℕ, ◌==◌, Bool, false, cond, List, encode_utf8_all, reverse, Option, Some, None}
use Rattle.crossterm_types.specs.declared.event.key.KeyCode.{KeyCode}
use Rattle.crossterm_types.specs.declared.event.key.KeyCode.TheVariants as key
use Rattle.crossterm_types.specs.declared.event.key.KeyEventKind.{KeyEventKind}
use Rattle.crossterm_types.specs.declared.event.key.KeyEventKind.TheVariants.{Press, Repeat}
use Rattle.crossterm_types.specs.Seen.{Seen, Key, Paste}
use Rattle.line_editor.specs.States.{EditorState}

-- Whether a key with these modifiers is Tab with none of them, pressed or held.
abbrev pub is_tab_key : KeyCode → ℕ → KeyEventKind → Bool
is_tab_key key.Tab modifiers Press = modifiers == 0
is_tab_key key.Tab modifiers Repeat = modifiers == 0
is_tab_key code modifiers kind = false

-- Whether an event is Tab without a modifier, pressed or held.
abbrev pub is_tab : Seen → Bool
is_tab (Key k) = is_tab_key k.code k.modifiers.0 k.kind
is_tab event = false

-- What an event becomes if this text, if any, completes the line: Tab is a paste of it.
abbrev pub completed : Option (List ℕ) → Seen → Seen
completed None event = event
completed (Some text) event = cond (is_tab event) (Paste text) event

-- What an editor is given for an event, if lines are completed so, by what is before and behind the cursor in UTF-8.
abbrev pub given_by : (List ℕ → List ℕ → Option (List ℕ)) → EditorState → Seen → Seen
given_by completes w event = completed (completes (encode_utf8_all (reverse w.line.before)) (encode_utf8_all w.line.after)) event

-- An editor is given each event as it was read.
abbrev pub as_read : EditorState → Seen → Seen
as_read w event = event
