use Rattle.std.proofs.Common.{◌++◌, ◌∙◌, ap}
use Rattle.std.specs.String.{string_bytes}
use Rattle.line_editor.proofs.Loading.{saved-plain}
use Rattle.line_editor.proofs.history.push_saved.Goals as goal

pub returns-then-not-multiline : goal.returns-then-not-multiline
returns-then-not-multiline g c =
    c.in_ok-push_str.ensures.bytes
    ∙ ap (λ t. string_bytes c.args.text.now ++ t) (saved-plain c.args.multiline c.args.line.now c.if-not-multiline.true c.utf8.line)
