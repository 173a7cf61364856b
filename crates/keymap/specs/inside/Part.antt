-- Texts of keys.
use Rattle.std.specs.Prelude.{ℕ, List, ◌++◌, codes}
use Rattle.std.specs.Char.{encode_utf8}
use Rattle.std.specs.Fmt.{decimal}
use Rattle.keymap.specs.declared.spelling.Part.{Part}
use Rattle.keymap.specs.declared.spelling.Part.TheVariants.{Number, Char, Word}

-- The text of a key: `f` and a number, a character, or a word.
abbrev pub part_text : Part → List ℕ
part_text (Number n) = codes "f" ++ decimal n
part_text (Char c) = encode_utf8 c
part_text (Word word) = word.now
