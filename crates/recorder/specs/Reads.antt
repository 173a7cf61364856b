-- Which lines read as an act, and which texts as a session: acts with their times.
use Rattle.std.specs.Prelude.{◌≡◌, ℕ, ◌+◌, ◌*◌, ◌-◌, ◌&&◌, nat_lt, ◌==◌, Bool, true, false, codes, List, [], ◌∷◌, ◌++◌, map, length, ◌<◌, Option, Some, None, Result, Ok, Err, if◌then◌else◌}
use Rattle.std.specs.List.{slice_split, AllByRecursion}
use Rattle.std.specs.declared.io.ErrorKind.{ErrorKind}
use Rattle.std.specs.declared.io.ErrorKind.TheVariants as kind
use Rattle.hex.specs.Hex.{decode_of, IsBytes}
use Rattle.hex.specs.declared.error.FromHexError.{FromHexError}
use Rattle.crossterm_flags.specs.Values.{same}
use Rattle.crossterm_flags.specs.Variants.{value_in}
use Rattle.crossterm_read.specs.Device.{DeviceAnswer, Bytes, Resized, Woken, Idle, Fault}
use Rattle.recorder.specs.Lines.{entry_answers, error_kinds, lines, named_kinds, text, times_of}
use Rattle.recorder.specs.declared.reading.Wrong.{Wrong}
use Rattle.recorder.specs.declared.reading.Wrong.TheVariants.{Word, Argument, Unended}

-- The parts of a text between bytes of this value.
abbrev pub parts : ℕ → List ℕ → List (List ℕ)
parts c bytes = slice_split (λ b. b == c) bytes

-- The number of digits behind those of `n`, or `None` if a byte isn't a digit or the limit is reached.
abbrev pub limited_after : ℕ → ℕ → List ℕ → Option ℕ
limited_after limit n [] = Some n
limited_after limit n (d ∷ ds) =
    if nat_lt 47 d && (nat_lt d 58 && nat_lt (n * 10 + (d - 48)) limit) then limited_after limit (n * 10 + (d - 48)) ds else None

-- The number of decimal digits, or `None` if there are none, one isn't a digit, or the limit is reached.
abbrev pub read_number : ℕ → List ℕ → Option ℕ
read_number limit ds = if length ds == 0 then None else limited_after limit 0 ds

-- The only word, or `None` if there isn't exactly one.
abbrev pub only : List (List ℕ) → Option (List ℕ)
only (word ∷ []) = Some word
only _ = None

-- The only two words, or `None` if there aren't exactly two.
abbrev pub pair : List (List ℕ) → Option (List ℕ × List ℕ)
pair (first ∷ second ∷ []) = Some (first, second)
pair _ = None

-- The answer of decoded bytes, or the fault `Argument` if they couldn't be decoded.
abbrev pub read_hex : Bool → Result (List ℕ) FromHexError → Result DeviceAnswer Wrong
read_hex raw (Ok bytes) = Ok (Bytes bytes raw)
read_hex raw (Err e) = Err Argument

-- The answer of bytes in hexadecimal digits, or the fault `Argument` if there are no valid digits.
abbrev pub read_hex_bytes : Bool → Option (List ℕ) → Result DeviceAnswer Wrong
read_hex_bytes raw (Some digits) = read_hex raw (decode_of digits)
read_hex_bytes raw None = Err Argument

-- The answer of bytes, whose hexadecimal digits are the only word. Other words are the fault `Argument`.
abbrev pub read_bytes : Bool → List (List ℕ) → Result DeviceAnswer Wrong
read_bytes raw words = read_hex_bytes raw (only words)

-- The answer of a new size, or the fault `Argument` if a number is missing.
abbrev pub read_numbers : Option ℕ → Option ℕ → Result DeviceAnswer Wrong
read_numbers (Some columns) (Some rows) = Ok (Resized columns rows)
read_numbers (Some columns) None = Err Argument
read_numbers None _ = Err Argument

-- The answer of a new size, of two numbers below 65536. Anything else is the fault `Argument`.
abbrev pub read_pair : Option (List ℕ × List ℕ) → Result DeviceAnswer Wrong
read_pair (Some p) = read_numbers (read_number 65536 p.0) (read_number 65536 p.1)
read_pair None = Err Argument

-- The answer of a new size, whose numbers are the only two words. Other words are the fault `Argument`.
abbrev pub read_size : List (List ℕ) → Result DeviceAnswer Wrong
read_size words = read_pair (pair words)

-- The answer of an act that has no other words. With other words it is the fault `Argument`.
abbrev pub read_alone : DeviceAnswer → List (List ℕ) → Result DeviceAnswer Wrong
read_alone w [] = Ok w
read_alone w (word ∷ words) = Err Argument

-- The answer of a fault of this kind, or the fault `Argument` if there is no kind.
abbrev pub read_kind : Option ErrorKind → Result DeviceAnswer Wrong
read_kind (Some k) = Ok (Fault k)
read_kind None = Err Argument

-- The answer of a fault whose kind has this name, or the fault `Argument` if none has.
abbrev pub read_named : Option (List ℕ) → Result DeviceAnswer Wrong
read_named (Some name) = read_kind (value_in (named_kinds error_kinds) name)
read_named None = Err Argument

-- The answer of a fault, whose kind is named by the only word. Without a word, the kind is `Other`.
abbrev pub read_fault : List (List ℕ) → Result DeviceAnswer Wrong
read_fault [] = Ok (Fault kind.Other)
read_fault (word ∷ words) = read_named (only (word ∷ words))

-- The answer of a line's words: the first one says what the others have to be. An unknown first word is the fault
-- `Word`.
abbrev pub read_words : List (List ℕ) → Result DeviceAnswer Wrong
read_words [] = Err Word
read_words (word ∷ words) =
    if same word (codes "piece") then read_bytes false words
    else if same word (codes "raw") then read_bytes true words
    else if same word (codes "resize") then read_size words
    else if same word (codes "wake") then read_alone Woken words
    else if same word (codes "idle") then read_alone Idle words
    else if same word (codes "fault") then read_fault words
    else Err Word

-- The answer that a line reads as. Its words are separated by single blanks.
abbrev pub read_line : List ℕ → Result DeviceAnswer Wrong
read_line bytes = read_words (parts 32 bytes)

-- ---- comments

-- Whether a line is a comment: it begins with `#`.
abbrev pub is_comment : List ℕ → Bool
is_comment [] = false
is_comment (b ∷ bs) = b == 35

-- The time of a comment `# TIME`, in milliseconds below 2 to the 32nd. `None` for other words.
abbrev pub read_time : Option (List ℕ × List ℕ) → Option ℕ
read_time (Some p) = if same p.0 (codes "#") then read_number 4294967296 p.1 else None
read_time None = None

-- The other time, or the given one if there is no other.
abbrev pub or_else : ℕ → Option ℕ → ℕ
or_else time (Some other) = other
or_else time None = time

-- The time after a comment: its own if it has one, otherwise the time before.
abbrev pub time_after : ℕ → List ℕ → ℕ
time_after time bytes = or_else time (read_time (pair (parts 32 bytes)))

-- ---- texts

-- What was read: acts, the time of each, and the last time.
pub record Session : Type 0 where
  pub acts : List DeviceAnswer
  pub times : List ℕ
  pub end : ℕ

-- A session in which nothing was read.
abbrev pub nothing : Session
nothing = record { acts = []; times = []; end = 0 }

-- Why a text doesn't read, and in which of its lines, counted from 1.
pub record Refusal : Type 0 where
  pub number : ℕ
  pub reason : Wrong

-- A session with one more act at its last time, or the fault of the act.
abbrev pub with_act : Session → Result DeviceAnswer Wrong → Result Session Wrong
with_act s (Ok w) = Ok (record { acts = s.acts ++ w ∷ []; times = s.times ++ s.end ∷ []; end = s.end })
with_act s (Err e) = Err e

-- A session after one more line with its end. A comment may change the time, and any other line has to be an act.
abbrev pub read_next : Session → List ℕ → Result Session Wrong
read_next s bytes =
    if is_comment bytes then Ok (record { acts = s.acts; times = s.times; end = time_after s.end bytes }) else with_act s (read_line bytes)

-- Reading goes on after line `n`, or ends with its fault and its number.
abbrev pub read_then : ℕ → Result Session Wrong → (Session → Result Session Refusal) → Result Session Refusal
read_then n (Ok s) rest = rest s
read_then n (Err reason) rest = Err (record { number = n; reason = reason })

-- The session after more lines, numbered from `n`. What is behind the last line end has to be empty, else the fault
-- is `Unended`.
abbrev pub read_after : Session → ℕ → List (List ℕ) → Result Session Refusal
read_after s n [] = Ok s
read_after s n ([] ∷ []) = Ok s
read_after s n ((b ∷ bs) ∷ []) = Err (record { number = n; reason = Unended })
read_after s n (first ∷ more ∷ rest) = read_then n (read_next s first) (λ t. read_after t (n + 1) (more ∷ rest))

-- The session that a text reads as, or the first line at fault.
abbrev pub read_text : List ℕ → Result Session Refusal
read_text bytes = read_after nothing 1 (parts 10 bytes)

-- ---- reading back

-- An answer whose bytes are below 256, and whose sizes are below 65536.
abbrev pub IsWritable : DeviceAnswer → Type 0
IsWritable (Bytes bytes raw) = IsBytes bytes
IsWritable (Resized columns rows) = (columns < 65536) × (rows < 65536)
IsWritable Woken = Unit {0}
IsWritable Idle = Unit {0}
IsWritable (Fault k) = Unit {0}

-- An entry whose time fits into 32 bits, and whose answer has such numbers (`IsWritable`).
abbrev pub IsEntry : ℕ × DeviceAnswer → Type 0
IsEntry e = (e.0 < 4294967296) × IsWritable e.1

-- The time of the last entry, or the given one if there are no entries.
abbrev pub last_time : ℕ → List (ℕ × DeviceAnswer) → ℕ
last_time time [] = time
last_time time (e ∷ es) = last_time e.0 es

-- The session of entries: their answers, their times, and the last time.
abbrev pub session : List (ℕ × DeviceAnswer) → Session
session es = record { acts = entry_answers es; times = times_of es; end = last_time 0 es }

-- The text of entries reads as these entries.
abbrev pub EntriesReadBack : Type 0
EntriesReadBack = (es : List (ℕ × DeviceAnswer)) → AllByRecursion IsEntry es → read_text (text es) ≡ Ok (session es)

-- The time 0 for each answer.
abbrev pub zeros : List DeviceAnswer → List ℕ
zeros ws = map (λ w. 0) ws

-- The lines of answers without times read as these answers, all at the time 0.
abbrev pub LinesReadBack : Type 0
LinesReadBack = (ws : List DeviceAnswer) → AllByRecursion IsWritable ws → read_text (lines ws) ≡ Ok (record { acts = ws; times = zeros ws; end = 0 })
