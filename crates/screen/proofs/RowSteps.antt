-- Steps and frames of rows that are put behind others.
use Rattle.std.proofs.Common.{rules, ◌≡◌, ℕ, zero, suc, ◌+◌, ◌-◌, ◌<◌, true, List, [], ◌++◌, Option, Some, None, refl, sym, ap, ◌∙◌, subst, arith}
use Rattle.std.specs.Fmt.{decimal}
use Rattle.crossterm.proofs.StyleReadings.{Formed, attribute_formed}
use Rattle.crossterm.specs.Functions.{AppendsReading}
use Rattle.crossterm.specs.Sequences.{by, clear}
use Rattle.crossterm.specs.declared.terminal.ClearType.TheVariants.{UntilNewLine}
use Rattle.crossterm_command.proofs.Readings.{all_joined, control_formed, decimal_is_parameters, known_formed, text_joined}
use Rattle.crossterm_command.proofs.TokenLaws.{one_reading}
use Rattle.crossterm_command.specs.Controls.{set}
use Rattle.crossterm_command.specs.Tokens.{IsWellFormed, Token, text_of}
use Rattle.crossterm_command.specs.Writing.{AppendsFront}
use Rattle.crossterm_style.specs.declared.types.attribute.Attribute.TheVariants.{Reset}
use Rattle.crossterm_style.specs.Styles.{attribute_functions}
use Rattle.screen.specs.declared.pens.Pen.{Pen}
use Rattle.screen.specs.declared.starts.Start.{Start}
use Rattle.screen.specs.declared.steps.Step.{Step}
use Rattle.screen.specs.declared.steps.Step.TheVariants as step
use Rattle.screen.specs.declared.strokes.Stroke.{Stroke}
use Rattle.screen.specs.Blocks.{beginning, grown_column, grown_row, growth, more_rows, to_row}
use Rattle.screen.specs.inside.Blocks.{PutsTokens, step_tokens}
use Rattle.screen.specs.inside.Pens.{Breaks, Ends, PassesOn, PutsStrokes, PutsText}
use Rattle.screen.specs.inside.Strokes.{AreFitting, written_of}
use Rattle.screen.proofs.Putting.{passes_both, passes_front, passes_none, passes_whole}
use Rattle.screen.proofs.Written.{strokes_read}

-- ---- tokens that are put

pub step_formed : (s : Step) → Formed (step_tokens s)
step_formed (step.Up n) = control_formed (decimal n) "A" (decimal_is_parameters n) refl
step_formed (step.Down n) = control_formed (decimal n) "B" (decimal_is_parameters n) refl
step_formed (step.Column column) = control_formed (decimal (column + 1)) "G" (decimal_is_parameters (column + 1)) refl
step_formed step.Add = ((search rules, λ e. omega (arith, e)), ((search rules, λ e. omega (arith, e)), known_formed (clear UntilNewLine) refl))
step_formed step.Settle =
    all_joined IsWellFormed (attribute_functions Reset) (set "25" ++ by 1 "G") (attribute_formed Reset)
    (all_joined IsWellFormed (set "25") (by 1 "G") (known_formed (set "25") refl) (control_formed (decimal 1) "G" (decimal_is_parameters 1) refl))
step_formed step.Erase = known_formed (clear UntilNewLine) refl

pub puts_nothing : (a : Option (List ℕ)) (p : Pen) → PutsTokens [] a p a p
puts_nothing a p = (tt, (refl, refl, passes_none p.waiting.bytes p.fault a))

pub puts_then : (xs ys : List Token) (a b c : Option (List ℕ)) (p q r : Pen) → PutsTokens xs a p b q → PutsTokens ys b q c r → PutsTokens (xs ++ ys) a p c r
puts_then xs ys a b c p q r s t = (
  all_joined IsWellFormed xs ys s.0 t.0,
  (
    t.1.0 ∙ s.1.0,
    t.1.1 ∙ s.1.1,
    subst (λ l. PassesOn p.waiting.bytes p.fault l a c r.waiting.bytes r.fault) (sym (text_joined xs ys))
        (passes_both p.waiting.bytes q.waiting.bytes r.waiting.bytes p.fault q.fault r.fault (text_of xs) (text_of ys) a b c s.1.2 t.1.2),
  ),
)

-- The tokens of strokes in a row.
pub puts_written : (known : Start) (strokes : List Stroke) (a b : Option (List ℕ)) (p q : Pen) → p.in_row ≡ true → AreFitting known strokes → PutsStrokes strokes a p b q
    → PutsTokens (written_of true p.colors strokes) a p b q
puts_written known strokes a b p q in_row fit puts = (
  (strokes_read true p.colors known strokes fit).0,
  subst (λ i. PutsText (text_of (written_of i p.colors strokes)) a p b q) in_row puts,
)

-- Tokens that a new pen put, and the last of which were written.
pub tokens_whole : (ts : List Token) (a b c : Option (List ℕ)) (p q : Pen) → p.waiting.bytes ≡ [] → p.fault ≡ None → PutsTokens ts a p b q → Ends q.waiting.bytes q.fault b c → AppendsReading a c ts
tokens_whole ts a b c p q n o s t =
    (text_of ts, passes_whole p.waiting.bytes q.waiting.bytes p.fault q.fault (text_of ts) a b c n o s.1.2 t, (s.0, refl), λ us other. one_reading (text_of ts) us ts other (s.0, refl))

-- Tokens that a new pen put before a fault.
pub tokens_front : (ts : List Token) (a b c : Option (List ℕ)) (p q : Pen) → p.waiting.bytes ≡ [] → p.fault ≡ None → PutsTokens ts a p b q → Breaks q.waiting.bytes q.fault b c → AppendsFront a c (text_of ts)
tokens_front ts a b c p q n o s t = passes_front p.waiting.bytes q.waiting.bytes p.fault q.fault (text_of ts) a b c n o s.1.2 t

-- ---- the beginning, and rows that are added

pub begun_unknown : (known : ℕ) (column : Option ℕ) → column ≡ None → known ≡ 0 → step_tokens step.Settle ++ step_tokens step.Erase ≡ beginning known column
begun_unknown zero None c k = refl
begun_unknown (suc n) None c k = cc
begun_unknown known (Some x) c k = cc

pub one_row_more : (n : ℕ) → more_rows n ++ step_tokens step.Add ≡ more_rows (suc n)
one_row_more zero = refl
one_row_more (suc n) = ap (λ l. step_tokens step.Add ++ l) (one_row_more n)

pub grows_none : (known row column n : ℕ) → n ≡ 0 → (column ≡ grown_column column n) × (row ≡ grown_row known row n) × (growth known row n ≡ [])
grows_none known row column zero e = (refl, refl, refl)
grows_none known row column (suc n) e = cc

pub grows_some : (known row column n : ℕ) → 0 < n → (0 ≡ grown_column column n) × (known + n - 1 ≡ grown_row known row n) × (to_row row (known - 1) ++ more_rows n ≡ growth known row n)
grows_some known row column zero lt = absurd (omega (arith, lt))
grows_some known row column (suc n) lt = (refl, omega arith, refl)
