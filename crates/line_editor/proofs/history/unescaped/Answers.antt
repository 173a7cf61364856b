use Rattle.std.proofs.Common.{◌≡◌, ◌++◌, ◌∙◌, false, sym, ap}
use Rattle.std.proofs.lemmas.Str.{IsUtf8-had, chars_from_encodes}
use Rattle.std.specs.Prelude.{encode_utf8_all}
use Rattle.std.specs.Str.{chars}
use Rattle.std.specs.String.{string_bytes}
use Rattle.line_editor.specs.History.{unescaped}
use Rattle.line_editor.proofs.history.unescaped.Goals as goal

pub returns : goal.returns
returns g c =
    sym (chars_from_encodes (unescaped false (chars c.args.text.now)) _ (IsUtf8-had _ c.push_waiting.new.text.ok)
    (c.loop-c.invariant.same ∙ ap (λ t. string_bytes c.loop-c.new ++ encode_utf8_all (unescaped c.loop-c.behind t)) c.in_default.ensures ∙ sym c.in_ok-push_waiting.ensures))
