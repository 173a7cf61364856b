use Rattle.std.proofs.Common.{ap, arith, sym, subst, slice_index, ◌≡◌, ◌∙◌, Some, true}
use Rattle.std.specs.Char.{InScalarRange}
use Rattle.bstr.specs.Utf8.{Decoded, code_of_3, continues}
use Rattle.crossterm_parse.proofs.Utf8Laws.{continues_of, three_in_front}
use Rattle.crossterm_parse.proofs.character.short_character_in.Goals as goal

pub returns : goal.returns
returns c =
    let bytes = c.args.bytes.now in
    let b = slice_index bytes 0 in
    let from = c.in_ok-from_u32-2.ensures in
    let code : c.in_ok-from_u32-2.field-0 ≡ code_of_3 b (slice_index bytes 1) (slice_index bytes 2) = omega (arith, from.value.1, c.from-second.ensures, c.from-2.ensures, c.from-3.ensures) in
    let second : continues (slice_index bytes 1) ≡ true = continues_of (slice_index bytes 1) (sym c.is_continuing_byte.ensures ∙ c.if-not-is_continuing_byte.false) in
    let third : continues (slice_index bytes 2) ≡ true = continues_of (slice_index bytes 2) (sym c.is_continuing_byte-else-lead-ge240.ensures ∙ c.if-not-is_continuing_byte-2.false) in
    let is = three_in_front bytes (omega arith) (omega arith) (omega arith) second third (omega (arith, c.if-code-lt2048.false, c.from-second.ensures, c.from-2.ensures, c.from-3.ensures)) (subst InScalarRange (sym from.value.1 ∙ code) from.cases) in
    record {
      char = ap (λ (p : Decoded). p.char) is ∙ ap (λ n. Some n) (sym code);
      sized = ap (λ (p : Decoded). p.size) is;
      long = omega arith;
      within = omega arith;
    }
