use Rattle.std.proofs.Common.{rules, ◌≡◌, ◌++◌, refl, take}
use Rattle.crossterm_parse.specs.declared.paste.Met.TheVariants.{Nothing}
use Rattle.crossterm_parse.specs.declared.state.State.TheVariants.{Paste}
use Rattle.crossterm_parse.proofs.RunLaws.{paste_run}
use Rattle.crossterm_c.specs.Feeding.{view_of}
use Rattle.crossterm_c.proofs.feed.skip_text.Goals as goal

pub returns-in-Paste-Nothing-clause-puts : goal.returns-in-Paste-Nothing-clause-puts
returns-in-Paste-Nothing-clause-puts g c kept waiting =
    let front = take c.before_escape-count.result c.args.bytes.now in
    let nothing : c.args.state.now ≡ Paste Nothing = search rules in
    paste_run front (view_of c.args.state.now kept waiting) (view_of c.args.state.now (kept ++ front) waiting) c.before_escape-count.ensures.none nothing refl refl refl
