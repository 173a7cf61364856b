use Rattle.std.proofs.Common.{◌∙◌, ap}
use Rattle.crossterm_types.specs.declared.event.KeyModifiers.{KeyModifiers}
use Rattle.crossterm_types.specs.declared.event.key.KeyEvent.{KeyEvent}
use Rattle.crossterm_types.specs.declared.event.key.KeyCode.TheVariants.{Char}
use Rattle.crossterm_parse.specs.Meaning.{pressed_with}
use Rattle.crossterm_parse.specs.declared.meaning.Meaning.TheVariants.{Key}
use Rattle.crossterm_parse.proofs.Ascii.{is_uppercase-ascii}
use Rattle.crossterm_parse.proofs.meaning.ascii_key.Goals as goal
use Rattle.crossterm_parse.proofs.meaning.ascii_key.Goals.{then-is_capital, else-is_capital}

pub returns : goal.returns
returns c =
    let capital = is_uppercase-ascii c.args.byte c.requires.1 in
    let at = λ (m : KeyModifiers). pressed_with (Char c.args.byte) m.0 in
    let key = λ (k : KeyEvent). Key k in
    elim c.if-is_capital.branch [
      | then-is_capital w ↦ rw (capital, ← c.is_capital.ensures, w.if-is_capital.true) (ap key c.new.ensures ∙ ap at w.modifiers-is)
      | else-is_capital w ↦ rw (capital, ← c.is_capital.ensures, w.if-is_capital.false) (ap key c.new.ensures ∙ ap at w.modifiers-is)
    ]
