-- What `Clear` clears, by the names of its variants: for JSON values, and for the declared order.
use Rattle.std.specs.Prelude.{[], ◌∷◌, codes}
use Rattle.crossterm_flags.specs.Variants.{Variants}
use Rattle.crossterm.specs.contracts.terminal.ClearTypePartialEq.TheImpl as clear_eq
use Rattle.crossterm.specs.declared.terminal.ClearType.{ClearType}
use Rattle.crossterm.specs.declared.terminal.ClearType.TheVariants as clear

-- The variants of `ClearType`.
abbrev pub clears : Variants ClearType
clears = record {
  eq = clear_eq.ghosts.eq;
  rows =
      (codes "All", clear.All) ∷ (codes "Purge", clear.Purge) ∷ (codes "FromCursorDown", clear.FromCursorDown) ∷ (codes "FromCursorUp", clear.FromCursorUp) ∷
      (codes "CurrentLine", clear.CurrentLine) ∷ (codes "UntilNewLine", clear.UntilNewLine) ∷ [];
}
