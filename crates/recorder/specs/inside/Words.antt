-- The words of a line, as the private functions see them.
use Rattle.std.specs.Prelude.{◌≡◌, ◌⊎◌, ◌<◌, ℕ, List, [], ◌∷◌, length, map, Option, Some, None, Result, Ok, Err}
use Rattle.std.specs.Borrow.{Bor}
use Rattle.crossterm_read.specs.Device.{DeviceAnswer}
use Rattle.crossterm_read.specs.declared.source.script.Act.{Act}
use Rattle.recorder.specs.Lines.{act_answer}
use Rattle.recorder.specs.Reads as reads
use Rattle.recorder.specs.Reads.{parts}
use Rattle.recorder.specs.declared.reading.Session.{Session}
use Rattle.recorder.specs.declared.reading.Wrong.{Wrong}
use Rattle.recorder.specs.declared.reading.Wrong.TheVariants.{Memory}

-- The first part and what follows it, or nothing if there is only one part.
abbrev pub CutsAt : ℕ → List ℕ → Option (Bor (List ℕ) × Bor (List ℕ)) → Type 0
CutsAt c bytes None = parts c bytes ≡ bytes ∷ []
CutsAt c bytes (Some x) = (parts c bytes ≡ x.0.now ∷ parts c x.1.now) × (length x.1.now < length bytes)

-- The words of what follows a first one, or none if nothing follows.
abbrev pub words_of : Option (Bor (List ℕ)) → List (List ℕ)
words_of None = []
words_of (Some text) = parts 32 text.now

-- The bytes of a word, if there is one.
abbrev pub now_of : Option (Bor (List ℕ)) → Option (List ℕ)
now_of None = None
now_of (Some word) = Some word.now

-- The bytes of two words, if there are two.
abbrev pub both_now : Option (Bor (List ℕ) × Bor (List ℕ)) → Option (List ℕ × List ℕ)
both_now None = None
both_now (Some x) = Some (x.0.now, x.1.now)

-- What was read, or the same fault, unless memory was refused.
abbrev pub WasRead : {A : Type 0} → Result DeviceAnswer Wrong → Result (Act A) Wrong → Type 0
WasRead r (Ok act) = r ≡ Ok (act_answer act)
WasRead r (Err e) = (e ≡ Memory) ⊎ (r ≡ Err e)

-- What contracts see of a session.
abbrev pub session_of : {A : Type 0} → Session A → reads.Session
session_of s = record { acts = map act_answer s.acts.items; times = s.times.items; end = s.end }
