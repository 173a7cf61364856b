-- The file of a history: which bytes are appended to it. Texts are in UTF-8.
use Rattle.std.specs.Prelude.{◌≡◌, ◌⊎◌, ℕ, ◌-◌, ◌≤◌, ◌==◌, nat_lt, ◌&&◌, ◌||◌, ◌++◌, Bool, true, false, if◌then◌else◌, List, [], ◌∷◌, Option, Some, None, drop, encode_utf8_all, length, slice_index, slice_range, suc, take, zero}
use Rattle.std.specs.Str.{bytes_eq, chars}
use Rattle.std.specs.Io.KnownBytes.{Appends}
use Rattle.line_editor.specs.declared.limits.Limits.{Limits}
use Rattle.line_editor.specs.History.{line_saved}
use Rattle.prompt.specs.declared.troubles.HistoryTrouble.{HistoryTrouble}
use Rattle.prompt.specs.declared.troubles.HistoryTrouble.TheVariants.{Aside, Stuck, Unread, Unwritten}

-- What a program knows of a history's file.
pub record HistoryState : Type 0 where
  -- The texts of lines that have to be appended.
  pub pending : List ℕ
  -- The text of the line that was taken last.
  pub last : List ℕ
  -- Whether it was said that the file can't be read or written.
  pub is_said : Bool

-- Whether a text is empty or begins with a blank that isn't wanted.
abbrev pub is_unwanted : Bool → List ℕ → Bool
is_unwanted ignore_space [] = true
is_unwanted ignore_space (b ∷ rest) = ignore_space && (b == 32)

-- Whether the limits leave a line out: it is empty, begins with a blank that they ignore, or is too long to be loaded.
abbrev pub is_left_out : Limits → List ℕ → Bool
is_left_out limits line = is_unwanted limits.ignore_space line || nat_lt limits.bytes (length line)

-- The text of a line in a history's file, with its line feed.
abbrev pub text_in : Limits → List ℕ → List ℕ
text_in limits line = encode_utf8_all (line_saved limits.multiline (chars line) ++ 10 ∷ [])

-- A text is one more that has to be appended, unless it is the last one once more and the limits ignore that.
abbrev pub with_saved : Limits → List ℕ → HistoryState → HistoryState
with_saved limits text h = if limits.ignore_dups && bytes_eq text h.last then h else record h { pending = h.pending ++ text; last = text }

-- An accepted line is one more, unless the limits leave it out.
abbrev pub with_accepted : Limits → List ℕ → HistoryState → HistoryState
with_accepted limits line h = if is_left_out limits line then h else with_saved limits (text_in limits line) h

-- The last place up to another one at which a line of a text begins.
abbrev pub line_start : List ℕ → ℕ → ℕ
line_start bytes zero = 0
line_start bytes (suc at) = if slice_index bytes at == 10 then suc at else line_start bytes at

-- The length of a text without the line feed at its end, if it has one there.
abbrev pub len_unended : List ℕ → ℕ
len_unended bytes = if slice_index bytes (length bytes - 1) == 10 then length bytes - 1 else length bytes

-- The last line of a text with its line feed, or nothing if the text is empty.
abbrev pub last_line : List ℕ → List ℕ
last_line bytes = if length bytes == 0 then [] else slice_range bytes (line_start bytes (len_unended bytes)) (len_unended bytes) ++ 10 ∷ []

-- A file's bytes grew by the end of its last line, or by nothing.
abbrev pub EndsLastLine : Option (List ℕ) → Option (List ℕ) → Type 0
EndsLastLine old new = (end : List ℕ) × ((end ≡ []) ⊎ (end ≡ 10 ∷ [])) × Appends old new end

-- A file's bytes grew by a front of those that were pending. Some whole lines of that front aren't pending any more, and
-- all else is.
pub record TakesLines (old new : Option (List ℕ)) (before after : List ℕ) : Type 0 where
  pub taken : ℕ
  pub gone : ℕ
  pub grown : Appends old new (take taken before)
  pub few : gone ≤ taken
  pub starts : (gone ≡ 0) ⊎ (gone ≡ line_start before taken)
  pub rest : after ≡ drop gone before

-- A file's bytes grew by all that was pending, and nothing is.
abbrev pub TakesAll : Option (List ℕ) → Option (List ℕ) → List ℕ → List ℕ → Type 0
TakesAll old new before after = Appends old new before × (after ≡ [])

-- A front of it was written so, behind the end of the file's last line.
abbrev pub EndsAndTakes : Option (List ℕ) → Option (List ℕ) → List ℕ → List ℕ → Type 0
EndsAndTakes old new before after = (mid : Option (List ℕ)) × EndsLastLine old mid × TakesLines mid new before after

-- All of it was written so, behind the end of the file's last line.
abbrev pub EndsAndTakesAll : Option (List ℕ) → Option (List ℕ) → List ℕ → List ℕ → Type 0
EndsAndTakesAll old new before after = (mid : Option (List ℕ)) × EndsLastLine old mid × TakesAll mid new before after

-- No byte is lost: all is still pending, or a file grew by what isn't.
pub data LosesNone {F : Type 0} (contents : F → Option (List ℕ)) (before after : List ℕ) : Type 0 where
  unchanged : after ≡ before → LosesNone contents before after
  appended : (old new : F) → EndsAndTakesAll (contents old) (contents new) before after → LosesNone contents before after
  partly : (old new : F) → EndsAndTakes (contents old) (contents new) before after → LosesNone contents before after

-- Whether a trouble lasts, so that it is said once: the file can't be renamed, read or written.
abbrev pub is_lasting : Option HistoryTrouble → Bool
is_lasting None = false
is_lasting (Some (Aside name)) = false
is_lasting (Some (Stuck error)) = true
is_lasting (Some (Unread error)) = true
is_lasting (Some (Unwritten error)) = true
