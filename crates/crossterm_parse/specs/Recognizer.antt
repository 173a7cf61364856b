-- Tests of the grammar, as its slow program runs them. Each is true of the bytes that a definition of the grammar
-- describes, and of no others.
use Rattle.std.specs.Prelude.{ℕ, zero, suc, ◌==◌, nat_le, if◌then◌else◌, Bool, true, false, ◌&&◌, ◌||◌, List, [], ◌∷◌, drop}
use Rattle.std.specs.Str.{byte}
use Rattle.crossterm_parse.specs.Bytes.{ESC}
use Rattle.crossterm_parse.specs.Grammar.{paste_mark, paste_end}
use Rattle.crossterm_parse.specs.Marked.{Marked, bytes_of}
use Rattle.crossterm_parse.specs.Bytes.{is_digit}
use Rattle.crossterm_parse.specs.Grammar.{begins}

-- True of no bytes.
abbrev pub is_nil : List ℕ → Bool
is_nil [] = true
is_nil (b ∷ bs) = false

-- True of exactly one byte.
abbrev pub is_one : List ℕ → Bool
is_one [] = false
is_one (b ∷ bs) = is_nil bs

-- True if the first byte is a digit.
abbrev pub begins_with_digit : List ℕ → Bool
begins_with_digit [] = false
begins_with_digit (b ∷ bs) = is_digit b

-- True of a final byte: 40 to 7E.
abbrev pub is_final : ℕ → Bool
is_final b = nat_le 0x40 b && nat_le b 0x7E

-- True if the first byte that passes the test is the last byte.
abbrev pub ends_at : (ℕ → Bool) → List ℕ → Bool
ends_at test [] = false
ends_at test (b ∷ bs) = if test b then is_nil bs else ends_at test bs

-- True of `c` and `u`, which end a reply.
abbrev pub is_reply_end : ℕ → Bool
is_reply_end b = b == byte "c" || b == byte "u"

-- True of `M` and `m`, which end a mouse report.
abbrev pub is_mouse_end : ℕ → Bool
is_mouse_end b = b == byte "M" || b == byte "m"

-- True if the first final byte is the last byte.
abbrev pub ends_numbered : List ℕ → Bool
ends_numbered bs = ends_at is_final bs

-- True if the first `c` or `u` is the last byte.
abbrev pub ends_reply : List ℕ → Bool
ends_reply bs = ends_at is_reply_end bs

-- True if the first `M` or `m` is the last byte.
abbrev pub ends_mouse : List ℕ → Bool
ends_mouse bs = ends_at is_mouse_end bs

-- True of exactly three bytes.
abbrev pub is_three : List ℕ → Bool
is_three (a ∷ b ∷ bs) = is_one bs
is_three _ = false

-- True if the bytes after `ESC [ ?` end a reply: as `ends_reply`, but a `u` at once is no end.
abbrev pub ends_private : List ℕ → Bool
ends_private [] = false
ends_private (b ∷ bs) = if b == byte "c" then is_nil bs else ends_reply bs

-- True if the first end of a paste is at the end of the bytes.
abbrev pub ends_paste : List ℕ → Bool
ends_paste [] = false
ends_paste (b ∷ bs) = if begins paste_end (b ∷ bs) then is_nil (drop 5 bs) else ends_paste bs

-- True if the bytes after `ESC [`, from a digit on, end a numbered sequence or a paste.
abbrev pub ends_digit : List ℕ → Bool
ends_digit [] = false
ends_digit (b ∷ bs) = if begins paste_mark (b ∷ bs) then ends_paste (drop 3 bs) else ends_numbered bs

-- True if the bytes after `ESC [` end a sequence.
abbrev pub ends_csi : List ℕ → Bool
ends_csi [] = false
ends_csi (b ∷ bs) =
    if b == byte "[" then is_one bs else
    if b == byte "M" then is_three bs else
    if b == byte "<" then ends_mouse bs else
    if b == byte "?" then ends_private bs else
    if is_digit b then ends_digit (b ∷ bs) else
    is_nil bs

-- True of a byte of C0 to F7, which leads a character.
abbrev pub is_lead : ℕ → Bool
is_lead b = nat_le 0xC0 b && nat_le b 0xF7

-- True of a byte of 80 to BF, which continues a character.
abbrev pub is_continuing : ℕ → Bool
is_continuing b = nat_le 0x80 b && nat_le b 0xBF

-- How many bytes continue a character after the first one that does, by its lead byte.
abbrev pub further_after : ℕ → ℕ
further_after lead = if nat_le lead 0xDF then 0 else if nat_le lead 0xEF then 1 else 2

-- True if the bytes after a lead byte end its character: the last that it needs, or one that doesn't continue it.
abbrev pub ends_character : ℕ → List ℕ → Bool
ends_character n [] = false
ends_character zero (b ∷ bs) = is_nil bs
ends_character (suc n) (b ∷ bs) = if is_continuing b then ends_character n bs else is_nil bs

-- True of one character, complete or broken off.
abbrev pub is_character : List ℕ → Bool
is_character [] = false
is_character (b ∷ bs) = if is_lead b then ends_character (further_after b) bs else is_nil bs

-- True if the bytes after ESC end a sequence.
abbrev pub ends_escape : List ℕ → Bool
ends_escape [] = false
ends_escape (b ∷ bs) = if b == byte "O" then is_one bs else if b == byte "[" then ends_csi bs else if b == ESC then is_nil bs else is_character (b ∷ bs)

-- True of bytes that have a shape.
abbrev pub is_shape : List ℕ → Bool
is_shape [] = false
is_shape (b ∷ bs) = if b == ESC then ends_escape bs else is_character (b ∷ bs)

-- True of a single ESC.
abbrev pub is_lone : List ℕ → Bool
is_lone [] = false
is_lone (b ∷ bs) = (b == ESC) && is_nil bs

-- True if the bytes end a sequence, provided that no front of them did. A pause is behind the last one if `pause` is
-- true.
abbrev pub is_decided : List ℕ → Bool → Bool
is_decided bytes pause = (is_lone bytes && pause) || is_shape bytes

-- True of marked bytes that are a whole sequence.
abbrev pub is_whole : List Marked → Bool
is_whole [] = false
is_whole (m ∷ ms) = if (m.byte == ESC) && m.pause then is_nil (bytes_of ms) else is_shape (m.byte ∷ bytes_of ms)
