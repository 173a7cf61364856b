-- What a helper that runs `stty` is asked, and what it answers: lines of text.
use Rattle.std.specs.Prelude.{◌≡◌, ◌≢◌, ◌⊎◌, ℕ, List, [], ◌++◌, Option, Some, None, Ok, Err, codes}
use Rattle.std.specs.Io.KnownBytes.{Appends, Consumes}
use Rattle.std.specs.List.{AllByRecursion}
use Rattle.crossterm_command.specs.Writing.{AppendsFront}
use Rattle.crossterm.specs.Modes.{ModeCall, Gets, SetsRaw, Sets, Sizes}
use Rattle.crossterm.specs.Sizes.{both, size_in}
use Rattle.crossterm.specs.declared.terminal.size.WindowSize.{WindowSize}
use Rattle.crossterm.specs.declared.terminal.sys.stty.SttyMode.{SttyMode}

-- A `SttyDevice` as contracts see it: the way to its helper.
pub record Stty (R W : Type 0) : Type 0 where
  -- The reader of its answers.
  pub answers : R
  -- The writer of its requests.
  pub requests : W
  -- The mode that it answered last.
  pub mode : SttyMode
  -- How often something failed.
  pub failures : ℕ

-- A text, and the end of its line.
abbrev pub line_of : List ℕ → List ℕ
line_of text = text ++ codes "\n"

-- A request was written as a line, and these bytes were read for it, if reader and writer say what they read and wrote.
abbrev pub AsksLine : {R W : Type 0} → (R → Option (List ℕ)) → (W → Option (List ℕ)) → List ℕ → List ℕ → Stty R W → Stty R W → Type 0
AsksLine remaining contents request answer s t =
    Appends (contents s.requests) (contents t.requests) (line_of request) × Consumes (remaining s.answers) (remaining t.answers) answer

-- A mode in an answer: neither the empty text nor the word for a refusal.
abbrev pub IsMode : List ℕ → Type 0
IsMode text = (text ≢ []) × (text ≢ codes "failed")

-- A request was written, and the mode that was read for it is the present one.
abbrev pub AsksMode : {R W : Type 0} → (R → Option (List ℕ)) → (W → Option (List ℕ)) → List ℕ → Stty R W → Stty R W → Type 0
AsksMode remaining contents request s t = AsksLine remaining contents request (line_of t.mode.text.bytes) s t × IsMode t.mode.text.bytes

-- Bytes without a line's end among them.
abbrev pub HasNoNewline : List ℕ → Type 0
HasNoNewline bytes = AllByRecursion (λ byte. byte ≢ 10) bytes

-- What was read has no line's end.
abbrev pub ReadsNoLine : Option (List ℕ) → Option (List ℕ) → Type 0
ReadsNoLine old new = (bytes : List ℕ) × Consumes old new bytes × HasNoNewline bytes

-- No line was read, or one that is no mode.
abbrev pub ReadsNoMode : Option (List ℕ) → Option (List ℕ) → Type 0
ReadsNoMode old new = ReadsNoLine old new ⊎ ((text : List ℕ) × Consumes old new (line_of text) × (IsMode text → ⊥))

-- No line was read, only the first of two, or two that are no size.
abbrev pub ReadsNoSize : Option (List ℕ) → Option (List ℕ) → Type 0
ReadsNoSize old new =
    ReadsNoLine old new ⊎ ((rows : List ℕ) × (bytes : List ℕ) × Consumes old new (line_of rows ++ bytes) × HasNoNewline bytes)
    ⊎ ((rows : List ℕ) × (columns : List ℕ) × Consumes old new (line_of rows ++ line_of columns) × (both (size_in columns) (size_in rows) ≡ None))

-- The request, or a beginning of it, was written, and no mode was read for it. The mode is as before.
abbrev pub Unanswered : {R W : Type 0} → (R → Option (List ℕ)) → (W → Option (List ℕ)) → List ℕ → Stty R W → Stty R W → Type 0
Unanswered remaining contents request s t =
    AppendsFront (contents s.requests) (contents t.requests) (line_of request) × ReadsNoMode (remaining s.answers) (remaining t.answers) × (t.mode ≡ s.mode)

-- The request for a size, or a beginning of it, was written, and no size was read for it. The mode is as before.
abbrev pub AsksNoSize : {R W : Type 0} → (R → Option (List ℕ)) → (W → Option (List ℕ)) → Stty R W → Stty R W → Type 0
AsksNoSize remaining contents s t =
    AppendsFront (contents s.requests) (contents t.requests) (line_of (codes "size")) × ReadsNoSize (remaining s.answers) (remaining t.answers) × (t.mode ≡ s.mode)

-- A size was asked for. It is that of the two lines that answered, rows and columns; pixels are 0.
abbrev pub AsksSize : {R W : Type 0} → (R → Option (List ℕ)) → (W → Option (List ℕ)) → Stty R W → WindowSize → Stty R W → Type 0
AsksSize remaining contents s size t = (rows : List ℕ) × (columns : List ℕ) × AsksLine remaining contents (codes "size") (line_of rows ++ line_of columns) s t
    × (both (size_in columns) (size_in rows) ≡ Some (size.columns, size.rows)) × (size.width ≡ 0) × (size.height ≡ 0)

-- The request to set a mode.
abbrev pub set_request : SttyMode → List ℕ
set_request mode = codes "set " ++ mode.text.bytes

-- A call of the device, by what the helper was asked and what was read from it. The present mode isn't asked for. If
-- another mode is read than the one to be set, that is an error, and the other one is present.
abbrev pub stty_answered : {R W : Type 0} → (R → Option (List ℕ)) → (W → Option (List ℕ)) → Stty R W → ModeCall SttyMode → Stty R W → Type 0
stty_answered remaining contents s (Gets (Ok mode)) t = (mode ≡ s.mode) × (t ≡ s)
stty_answered remaining contents s (Gets (Err e)) t = ⊥
stty_answered remaining contents s (SetsRaw mode (Ok _)) t = AsksMode remaining contents (codes "raw") s t
stty_answered remaining contents s (SetsRaw mode (Err e)) t = Unanswered remaining contents (codes "raw") s t
stty_answered remaining contents s (Sets mode (Ok _)) t = AsksMode remaining contents (set_request mode) s t × (t.mode ≡ mode)
stty_answered remaining contents s (Sets mode (Err e)) t =
    Unanswered remaining contents (set_request mode) s t ⊎ (AsksMode remaining contents (set_request mode) s t × (t.mode.text.bytes ≢ mode.text.bytes))
stty_answered remaining contents s (Sizes (Ok size)) t = AsksSize remaining contents s size t × (t.mode ≡ s.mode)
stty_answered remaining contents s (Sizes (Err e)) t = AsksNoSize remaining contents s t
