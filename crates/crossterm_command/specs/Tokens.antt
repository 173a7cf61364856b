-- How a terminal reads bytes: characters in UTF-8, and among them the control functions of ECMA-48 in 7 bits, with this project's profile.
use Rattle.std.specs.Prelude.{◌≡◌, ◌≢◌, ℕ, ◌≤◌, List, [], ◌∷◌, ◌++◌, codes}
use Rattle.std.specs.Char.{IsScalar, encode_utf8}
use Rattle.std.specs.Str.{IsUtf8}
use Rattle.std.specs.List.{AllByRecursion}

-- The end of an operating system command.
pub data OscEnd : Type 0 where
  -- ST: ESC and a backslash.
  St : OscEnd
  -- A bell.
  Bell : OscEnd

-- A token, which a terminal reads at a time.
pub data Token : Type 0 where
  -- A character that isn't ESC, also a control character outside a sequence.
  Char : ℕ → Token
  -- A control sequence: its parameter bytes, its intermediate bytes and its final byte.
  Csi : List ℕ → List ℕ → ℕ → Token
  -- An operating system command: its text in UTF-8, and what ends it.
  Osc : List ℕ → OscEnd → Token
  -- A private function, by its byte.
  Private : ℕ → Token

-- ---- how tokens are spelled

-- The bytes that end an operating system command.
abbrev pub ending : OscEnd → List ℕ
ending St = codes "\u{1b}\\"
ending Bell = codes "\u{7}"

-- The bytes of a token, and then the rest.
abbrev pub spelled : Token → List ℕ → List ℕ
spelled (Char c) rest = encode_utf8 c ++ rest
spelled (Csi parameters intermediates final) rest = codes "\u{1b}[" ++ (parameters ++ (intermediates ++ (final ∷ rest)))
spelled (Osc text end) rest = codes "\u{1b}]" ++ (text ++ (ending end ++ rest))
spelled (Private b) rest = codes "\u{1b}" ++ (b ∷ rest)

-- The bytes of tokens, one after another.
abbrev pub text_of : List Token → List ℕ
text_of [] = []
text_of (t ∷ ts) = spelled t (text_of ts)

-- ---- which tokens there are

-- A parameter byte, 30 to 3F. After ESC it is that of a private function.
abbrev pub IsParameter : ℕ → Type 0
IsParameter b = (0x30 ≤ b) × (b ≤ 0x3F)

-- An intermediate byte, 20 to 2F.
abbrev pub IsIntermediate : ℕ → Type 0
IsIntermediate b = (0x20 ≤ b) × (b ≤ 0x2F)

-- A final byte, 40 to 7E.
abbrev pub IsFinal : ℕ → Type 0
IsFinal b = (0x40 ≤ b) × (b ≤ 0x7E)

-- A character that isn't ESC.
abbrev pub IsPlain : ℕ → Type 0
IsPlain c = c ≢ 0x1B

-- A byte of the text of an operating system command: neither ESC nor a bell.
abbrev pub IsOscText : ℕ → Type 0
IsOscText b = (b ≢ 0x1B) × (b ≢ 0x07)

-- Each part of the token has only the bytes or characters that it may have.
abbrev pub IsWellFormed : Token → Type 0
IsWellFormed (Char c) = IsScalar c × IsPlain c
IsWellFormed (Csi parameters intermediates final) = AllByRecursion IsParameter parameters × AllByRecursion IsIntermediate intermediates × IsFinal final
IsWellFormed (Osc text end) = IsUtf8 text × AllByRecursion IsOscText text
IsWellFormed (Private b) = IsParameter b

-- ---- how bytes are read

-- The bytes read as these tokens: they are well formed, and the bytes are their text.
abbrev pub ReadsAs : List ℕ → List Token → Type 0
ReadsAs bytes ts = AllByRecursion IsWellFormed ts × (text_of ts ≡ bytes)

-- If one text begins with two tokens, they are the same and end at the same place.
abbrev pub TokensArePrefixFree : Type 0
TokensArePrefixFree = (t u : Token) (rest more : List ℕ) → IsWellFormed t → IsWellFormed u → spelled t rest ≡ spelled u more → (t ≡ u) × (rest ≡ more)

-- Bytes read as tokens in one way at most.
abbrev pub UniqueReading : Type 0
UniqueReading = (bytes : List ℕ) (ts us : List Token) → ReadsAs bytes ts → ReadsAs bytes us → ts ≡ us
