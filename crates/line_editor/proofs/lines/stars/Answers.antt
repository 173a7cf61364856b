use Rattle.std.proofs.Common.{◌≡◌, List, ℕ, IfOk, ap, ◌∙◌, replicate, subst}
use Rattle.std.proofs.lemmas.Iterator.Consumers.{count_from_yields_List}
use Rattle.std.proofs.lemmas.Iterator.{YieldsList-from_chars}
use Rattle.std.specs.String.{string_bytes}
use Rattle.line_editor.proofs.Masking.{repeated}
use Rattle.line_editor.proofs.lines.stars.Goals as goal

pub returns : goal.returns
returns g c =
    let count = count_from_yields_List _ c.count.result c.count.ensures.ran (YieldsList-from_chars c.args.text.now c.utf8.text cc) in
    let P : List ℕ → Type 0 = λ t. IfOk c.repeat.result (λ made. string_bytes made ≡ t) in
    subst P (repeated c.count.result ∙ ap (λ n. replicate n 42) count) c.repeat.ensures.bytes
