-- Sequences, of which a terminal's bytes are made. Each shape says at which byte a sequence ends, not what it means.
use Rattle.std.specs.Prelude.{codes, ◌≡◌, ◌≢◌, ◌≤◌, ◌<◌, ℕ, nat_le, if◌then◌else◌, length, Bool, true, List, [], ◌∷◌, ◌++◌, ◌⊎◌, ◌==◌, false, ◌&&◌}
use Rattle.std.specs.Str.{byte}
use Rattle.std.specs.List.{AllByRecursion}
use Rattle.crossterm_parse.specs.Bytes.{ESC}
use Rattle.crossterm_parse.specs.Marked.{Marked, bytes_of}

-- A byte that leads a character of several bytes: C0 to F7.
abbrev pub IsLead : ℕ → Type 0
IsLead b = (0xC0 ≤ b) × (b ≤ 0xF7)

-- A byte that continues a character: 80 to BF (RFC 3629).
abbrev pub IsContinuing : ℕ → Type 0
IsContinuing b = (0x80 ≤ b) × (b ≤ 0xBF)

-- How many bytes continue a character, by its lead byte: 1 up to DF, 2 up to EF, else 3.
abbrev pub continuing_after : ℕ → ℕ
continuing_after lead = if nat_le lead 0xDF then 1 else if nat_le lead 0xEF then 2 else 3

-- The bytes are one character: complete, or broken off by a byte that doesn't continue it.
pub data CharacterShape (bytes : List ℕ) : Type 0 where
  -- A byte by itself.
  single : (b : ℕ) → b ≢ ESC → ¬ IsLead b → bytes ≡ b ∷ [] → CharacterShape bytes
  -- A lead byte and all bytes that continue it.
  character : (lead : ℕ) (more : List ℕ) → IsLead lead → AllByRecursion IsContinuing more → length more ≡ continuing_after lead
      → bytes ≡ lead ∷ more → CharacterShape bytes
  -- A lead byte with too few bytes behind it, and the byte that breaks it off, which belongs to it.
  broken : (lead b : ℕ) (more : List ℕ) → IsLead lead → AllByRecursion IsContinuing more → length more < continuing_after lead → ¬ IsContinuing b
      → bytes ≡ lead ∷ (more ++ b ∷ []) → CharacterShape bytes

-- A digit, `0` to `9`.
abbrev pub IsDigit : ℕ → Type 0
IsDigit b = (byte "0" ≤ b) × (b ≤ byte "9")

-- A final byte, which ends a numbered sequence: 40 to 7E (ECMA-48, 5.4).
abbrev pub EndsNumbered : ℕ → Type 0
EndsNumbered b = (0x40 ≤ b) × (b ≤ 0x7E)

-- A byte that ends `ESC [ b` at once: none of `[`, `M`, `<` and `?`, and no digit.
abbrev pub IsAlone : ℕ → Type 0
IsAlone b = (b ≢ byte "[") × (b ≢ byte "M") × (b ≢ byte "<") × (b ≢ byte "?") × ¬ IsDigit b

-- A byte that doesn't end a mouse report: neither `M` nor `m`.
abbrev pub EndsNoMouse : ℕ → Type 0
EndsNoMouse b = (b ≢ byte "M") × (b ≢ byte "m")

-- A byte that doesn't end a reply: neither `c` nor `u`.
abbrev pub EndsNoReply : ℕ → Type 0
EndsNoReply b = (b ≢ byte "c") × (b ≢ byte "u")

-- Bytes after `ESC [ ?` that don't end a reply: the first isn't `c`, the others are neither `c` nor `u`.
abbrev pub HasNoEnd : List ℕ → Type 0
HasNoEnd [] = Unit {0}
HasNoEnd (b ∷ bs) = (b ≢ byte "c") × AllByRecursion EndsNoReply bs

-- A byte that ends a reply after the bytes `w`: a `c`, or a `u` if `w` isn't empty.
abbrev pub EndsReply : List ℕ → ℕ → Type 0
EndsReply w f = (f ≡ byte "c") ⊎ ((f ≡ byte "u") × (w ≢ []))

-- The bytes that open a paste after `ESC [` (xterm, bracketed paste mode).
abbrev pub paste_mark : List ℕ
paste_mark = codes "200~"

-- The bytes that open a paste: `ESC [ 200~`.
abbrev pub paste_start : List ℕ
paste_start = ESC ∷ byte "[" ∷ paste_mark

-- The bytes that end a paste: `ESC [ 201~`.
abbrev pub paste_end : List ℕ
paste_end = ESC ∷ codes "[201~"

-- In a text with a paste's end behind it, that end is the first one.
abbrev pub EndsFirst : List ℕ → Type 0
EndsFirst text = (front back : List ℕ) → text ++ paste_end ≡ front ++ (paste_end ++ back) → back ≡ []

-- The bytes are one sequence, of one of these shapes.
pub data Shape (bytes : List ℕ) : Type 0 where
  -- A character.
  text : CharacterShape bytes → Shape bytes
  -- Two escapes.
  two_escapes : bytes ≡ ESC ∷ ESC ∷ [] → Shape bytes
  -- An escape and a character: a key with Alt. The character begins with neither `O` nor `[`.
  with_escape : (b : ℕ) (rest : List ℕ) → b ≢ byte "O" → b ≢ byte "[" → CharacterShape (b ∷ rest) → bytes ≡ ESC ∷ b ∷ rest → Shape bytes
  -- `ESC O` (SS3, ECMA-48) and one byte.
  after_ss3 : (b : ℕ) → bytes ≡ ESC ∷ byte "O" ∷ b ∷ [] → Shape bytes
  -- `ESC [` (CSI, ECMA-48) and one byte that ends it at once.
  after_csi : (b : ℕ) → IsAlone b → bytes ≡ ESC ∷ byte "[" ∷ b ∷ [] → Shape bytes
  -- `ESC [ [` and one byte: a function key of the Linux console.
  linux_key : (b : ℕ) → bytes ≡ ESC ∷ byte "[" ∷ byte "[" ∷ b ∷ [] → Shape bytes
  -- `ESC [ M` and three bytes: a mouse report (xterm).
  x10 : (a b c : ℕ) → bytes ≡ ESC ∷ byte "[" ∷ byte "M" ∷ a ∷ b ∷ c ∷ [] → Shape bytes
  -- `ESC [ <`, up to the first `M` or `m`: a mouse report (xterm).
  mouse : (w : List ℕ) (f : ℕ) → AllByRecursion EndsNoMouse w → (f ≡ byte "M") ⊎ (f ≡ byte "m") → bytes ≡ ESC ∷ byte "[" ∷ byte "<" ∷ (w ++ f ∷ []) → Shape bytes
  -- `ESC [ ?`, up to the first `c` or `u`, but not a `u` at once: a reply (xterm, kitty).
  reply : (w : List ℕ) (f : ℕ) → HasNoEnd w → EndsReply w f → bytes ≡ ESC ∷ byte "[" ∷ byte "?" ∷ (w ++ f ∷ []) → Shape bytes
  -- `ESC [` and a digit, up to the first final byte, but not what opens a paste: a numbered sequence (xterm, kitty).
  numbered : (d f : ℕ) (w : List ℕ) → IsDigit d → AllByRecursion (λ b. ¬ EndsNumbered b) w → EndsNumbered f → bytes ≢ paste_start
      → bytes ≡ ESC ∷ byte "[" ∷ d ∷ (w ++ f ∷ []) → Shape bytes
  -- `ESC [ 200~`, up to the first `ESC [ 201~`: a paste (xterm).
  paste : (text : List ℕ) → EndsFirst text → bytes ≡ paste_start ++ (text ++ paste_end) → Shape bytes

-- The first byte is an ESC, and none came behind it at once.
abbrev pub BeginsPaused : List Marked → Type 0
BeginsPaused [] = ⊥
BeginsPaused (m ∷ ms) = (m.byte ≡ ESC) × (m.pause ≡ true)

-- The marked bytes are one whole sequence. A pause matters only behind a first ESC.
pub data Whole (ms : List Marked) : Type 0 where
  -- The Esc key: an ESC with a pause behind it.
  key : (raw : Bool) → ms ≡ record { byte = ESC; raw = raw; pause = true } ∷ [] → Whole ms
  -- A shape that doesn't begin with the Esc key.
  sequence : Shape (bytes_of ms) → ¬ BeginsPaused ms → Whole ms

-- True if the second list begins with the first.
abbrev pub begins : List ℕ → List ℕ → Bool
begins [] bs = true
begins (p ∷ ps) [] = false
begins (p ∷ ps) (b ∷ bs) = begins ps bs && (b == p)
