-- What is shown of a line that nobody is to read.
use Rattle.std.specs.Prelude.{length, replicate}
use Rattle.line_editor.specs.declared.masks.Mask.{Mask}
use Rattle.line_editor.specs.declared.masks.Mask.TheVariants as mask
use Rattle.line_editor.specs.Edits.{empty_line, settled}
use Rattle.line_editor.specs.Splits.{Split}

-- What is shown in the place of a line: nothing, or a star for each character. The cursor has as many stars on each side
-- as the line has characters there.
abbrev pub masked : Mask → Split → Split
masked mask.Nothing d = empty_line
masked mask.Stars d = settled (record { before = replicate (length d.before) 42; after = replicate (length d.after) 42 })
