-- The names of targets and actions, and which texts read as one.
use Rattle.std.specs.Prelude.{◌≡◌, ⊤, ℕ, Bool, ◌==◌, ◌++◌, if◌then◌else◌, nat_lt, codes, List, [], ◌∷◌, length, Option, Some, None}
use Rattle.std.specs.Char.{IsScalar, encode_utf8}
use Rattle.std.specs.List.{after_first, before_first, position_or_len}
use Rattle.std.specs.Option.{option_map, option_or}
use Rattle.std.specs.Str.{chars}
use Rattle.crossterm_flags.specs.Values.{same}
use Rattle.crossterm_flags.specs.Variants.{value_in}
use Rattle.line_editor.specs.declared.actions.Action.{Action}
use Rattle.line_editor.specs.declared.actions.Action.TheVariants.{Insert, Go, Erase, Kill, Yank, YankPop, Transpose, Undo, Redo, Older, Newer, RowUp, RowDown, Search, SearchForward, CaseWord, TransposeWords, EraseBlanks, LastWord}
use Rattle.line_editor.specs.declared.actions.Case.TheVariants.{Upper, Lower, Title}
use Rattle.line_editor.specs.declared.places.Stop.TheVariants.{Cluster, WordStart, WordEnd, Blank, Edge}
use Rattle.line_editor.specs.declared.places.Target.{Target}
use Rattle.line_editor.specs.declared.places.Target.TheVariants.{Back, Forward}

-- ---- how a name is spelled

-- The name of a target, as `word-back`.
abbrev pub target_name : Target → List ℕ
target_name (Back Cluster) = codes "char-back"
target_name (Forward Cluster) = codes "char-forward"
target_name (Back WordStart) = codes "word-back"
target_name (Forward WordStart) = codes "word-start-forward"
target_name (Back WordEnd) = codes "word-end-back"
target_name (Forward WordEnd) = codes "word-forward"
target_name (Back Blank) = codes "blank-back"
target_name (Forward Blank) = codes "blank-forward"
target_name (Back Edge) = codes "line-start"
target_name (Forward Edge) = codes "line-end"

-- The name of a character: `space` for a blank, `newline` for a line feed, otherwise the character itself.
abbrev pub key_char_name : ℕ → List ℕ
key_char_name c = if c == 32 then codes "space" else (if c == 10 then codes "newline" else encode_utf8 c)

-- The name of an action: a verb, and its target or character, as `kill-line-end`.
abbrev pub action_name : Action → List ℕ
action_name (Insert c) = codes "insert-" ++ key_char_name c
action_name (Go target) = codes "go-" ++ target_name target
action_name (Erase target) = codes "erase-" ++ target_name target
action_name (Kill target) = codes "kill-" ++ target_name target
action_name Yank = codes "yank"
action_name YankPop = codes "yank-pop"
action_name Transpose = codes "transpose"
action_name Undo = codes "undo"
action_name Redo = codes "redo"
action_name Older = codes "older"
action_name Newer = codes "newer"
action_name RowUp = codes "row-up"
action_name RowDown = codes "row-down"
action_name Search = codes "search"
action_name SearchForward = codes "search-forward"
action_name (CaseWord Upper) = codes "upcase-word"
action_name (CaseWord Lower) = codes "downcase-word"
action_name (CaseWord Title) = codes "capitalize-word"
action_name TransposeWords = codes "transpose-words"
action_name EraseBlanks = codes "erase-blanks"
action_name LastWord = codes "last-word"

-- ---- what reads as a name

-- The targets by their names.
abbrev pub target_rows : List (List ℕ × Target)
target_rows =
    (codes "char-back", Back Cluster) ∷ (codes "char-forward", Forward Cluster) ∷ (codes "word-back", Back WordStart) ∷
    (codes "word-start-forward", Forward WordStart) ∷ (codes "word-end-back", Back WordEnd) ∷ (codes "word-forward", Forward WordEnd) ∷
    (codes "blank-back", Back Blank) ∷ (codes "blank-forward", Forward Blank) ∷ (codes "line-start", Back Edge) ∷
    (codes "line-end", Forward Edge) ∷ []

-- The actions without a target or a character, by their names.
abbrev pub action_rows : List (List ℕ × Action)
action_rows =
    (codes "yank", Yank) ∷ (codes "yank-pop", YankPop) ∷ (codes "transpose", Transpose) ∷ (codes "undo", Undo) ∷ (codes "redo", Redo) ∷ (codes "older", Older) ∷
    (codes "newer", Newer) ∷ (codes "row-up", RowUp) ∷ (codes "row-down", RowDown) ∷ (codes "search", Search) ∷ (codes "search-forward", SearchForward) ∷
    (codes "upcase-word", CaseWord Upper) ∷ (codes "downcase-word", CaseWord Lower) ∷ (codes "capitalize-word", CaseWord Title) ∷
    (codes "transpose-words", TransposeWords) ∷ (codes "erase-blanks", EraseBlanks) ∷ (codes "last-word", LastWord) ∷ []

-- The character of a text that has exactly one, otherwise `None`.
abbrev pub one_char : List ℕ → Option ℕ
one_char (c ∷ []) = Some c
one_char text = None

-- The character that a text names: its only one, a blank for `space`, or a line feed for `newline`. Otherwise `None`.
abbrev pub char_named : List ℕ → Option ℕ
char_named text = option_or (one_char (chars text)) (if same (codes "space") text then Some 32 else (if same (codes "newline") text then Some 10 else None))

-- The action that a verb and what follows it name, or `None`.
abbrev pub verb_named : List ℕ → List ℕ → Option Action
verb_named verb rest =
    if same (codes "go") verb then option_map Go (value_in target_rows rest)
    else (if same (codes "erase") verb then option_map Erase (value_in target_rows rest)
    else (if same (codes "kill") verb then option_map Kill (value_in target_rows rest)
    else (if same (codes "insert") verb then option_map Insert (char_named rest) else None)))

-- Whether a byte is a hyphen.
abbrev pub is_hyphen : ℕ → Bool
is_hyphen b = b == 45

-- The action that a text names, or `None`: as a whole, or by its verb before the first hyphen.
abbrev pub action_named : List ℕ → Option Action
action_named name =
    option_or (value_in action_rows name)
    (if nat_lt (position_or_len is_hyphen name) (length name) then verb_named (before_first is_hyphen name) (after_first is_hyphen name) else None)

-- ---- reading back

-- The character that an action inserts, if any, is a Unicode scalar value.
abbrev pub HasScalar : Action → Type 0
HasScalar (Insert c) = IsScalar c
HasScalar action = ⊤

-- The name of an action reads as this action.
abbrev pub NameReadsBack : Action → Type 0
NameReadsBack action = HasScalar action → action_named (action_name action) ≡ Some action
