use Rattle.std.proofs.Common.{refl, ap, ◌∙◌}
use Rattle.std.proofs.lemmas.Str.{chars-nil}
use Rattle.std.specs.Str.{chars}
use Rattle.line_c.proofs.lines.started.Goals as goal

pub returns : goal.returns
returns c = record {
  editor = c.in_ok-editor.ensures.ok;
  area = (c.in-Ok.ensures.fresh, c.in-Ok.ensures.size.0, c.in-Ok.ensures.size.1);
  texts = (c.new-3.ensures.bytes, c.new-4.ensures.items, c.new-5.ensures.bytes, c.new-6.ensures.bytes, ap chars c.new-7.ensures.bytes ∙ chars-nil);
  shows = (refl, refl, refl);
  output = (refl, c.new-8.ensures.items);
}
