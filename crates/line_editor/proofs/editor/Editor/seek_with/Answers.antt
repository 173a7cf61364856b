use Rattle.std.proofs.Common.{◌∙◌, ap}
use Rattle.std.specs.Str.{chars}
use Rattle.line_editor.specs.Seeking.{is_ahead}
use Rattle.line_editor.specs.States.{EditorState}
use Rattle.line_editor.proofs.Looking.{sought_with_as}
use Rattle.line_editor.proofs.editor.Editor.seek_with.Goals as goal

pub returns-clause-ok : goal.returns-clause-ok
returns-clause-ok g c =
    let w = c.args.self.now in
    ap (λ (x : EditorState). record x { search = record x.search { pattern = c.args.pattern } }) c.self-2.view_is
    ∙ sought_with_as w c.seek.new.self c.args.pattern (chars c.text.result.now) c.found_here-found.result c.is_ahead-ahead.result
    c.text.ensures.text (c.is_ahead-ahead.ensures ∙ ap (λ (x : EditorState). is_ahead x.last) c.self.view_is) c.found_here-found.ensures c.in_ok-seek.ensures.ok
