-- Pieces that a parser takes one after another.
use Rattle.std.proofs.Common.{◌≡◌, ◌≤◌, ◌+◌, ◌*◌, ℕ, List, [], ◌∷◌, ◌++◌, length, ap, sym, ◌∙◌, subst, arith, length-append}
use Rattle.std.proofs.lemmas.List.{append-nil}
use Rattle.std.proofs.lemmas.List.Sums.{sum_by-cons}
use Rattle.std.specs.List.{filter_map, flat_map}
use Rattle.crossterm_parse.specs.Marked.{Marked, bytes_of}
use Rattle.crossterm_parse.specs.Division.{Divides, IsUndecided}
use Rattle.crossterm_parse.specs.Grammar.{Whole}
use Rattle.crossterm_parse.specs.Meaning.{meaning_of}
use Rattle.crossterm_parse.specs.View.{ParserView, Represents, AdvancesOver, AdvancesThrough, CutsAlike, EmptyDoesNothing, StepsThrough, TwoStepsAByte, AStepAByte, paste_length}
use Rattle.crossterm_parse.proofs.DivisionLaws.{unique_division}
use Rattle.crossterm_parse.proofs.GrammarLaws.{nil_not_whole, whole_closes}
use Rattle.crossterm_parse.proofs.ViewLaws.{advance_join, advance_none}

-- many pieces are one
through_over : (old new : ParserView) (pieces : List (List Marked)) → AdvancesThrough old pieces new → AdvancesOver old new (flat_map (λ piece. piece) pieces)
through_over old new [] e = subst (λ (s : ParserView). AdvancesOver old s []) (sym e) (advance_none old)
through_over old new (piece ∷ pieces) t = advance_join old t.0 new piece (flat_map (λ p. p) pieces) t.1 (through_over t.0 new pieces t.2)

same_events : (old new other : ParserView) (taken before : List Marked) → Represents old before → IsUndecided Whole before → AdvancesOver old new taken → AdvancesOver old other taken
    → new.waiting ≡ other.waiting
same_events old new other taken before represents undecided first second =
    let a = first before represents undecided in
    let b = second before represents undecided in
    let same = unique_division Whole nil_not_whole whole_closes (before ++ taken) a.parts b.parts a.rest b.rest a.division b.division in
    a.given ∙ ap (λ (parts : List (List Marked)). old.waiting ++ filter_map meaning_of parts) same.0 ∙ sym b.given

pub cuts_alike : CutsAlike
cuts_alike old new other pieces others before represents undecided e first second =
    same_events old new other (flat_map (λ p. p) pieces) before represents undecided (through_over old new pieces first)
    (subst (λ (taken : List Marked). AdvancesOver old other taken) (sym e) (through_over old other others second))

pub empty_does_nothing : EmptyDoesNothing
empty_does_nothing old new advance before represents undecided =
    let a = advance before represents undecided in
    let none : Divides Whole (before ++ []) [] before = record { joined = append-nil before; whole = tt; undecided = undecided } in
    let same = unique_division Whole nil_not_whole whole_closes (before ++ []) a.parts [] a.rest before a.division none in (
      a.given ∙ ap (λ (parts : List (List Marked)). old.waiting ++ filter_map meaning_of parts) same.0 ∙ append-nil old.waiting,
      subst (Represents new) same.1 a.represents,
    )

steps_through : (old new : ParserView) (s t : ℕ) (pieces : List (List Marked)) (before : List Marked) → Represents old before → IsUndecided Whole before → StepsThrough old s pieces new t
    → t ≤ s + paste_length (bytes_of before) + 2 * length (flat_map (λ piece. piece) pieces)
steps_through old new s t [] before represents undecided e = omega (arith, e.1)
steps_through old new s t (piece ∷ pieces) before represents undecided (mid, m, advance, steps, later) =
    let a = advance before represents undecided in
    let rest = flat_map (λ p. p) pieces in
    omega (arith, steps before a.rest represents a.represents, steps_through mid new m t pieces a.rest a.represents a.division.undecided later, length-append piece rest)

pub two_steps_a_byte : TwoStepsAByte
two_steps_a_byte old new s t pieces before represents undecided none steps = omega (arith, none, steps_through old new s t pieces before represents undecided steps)

pub a_step_a_byte : AStepAByte
a_step_a_byte s t [] e = omega (arith, e)
a_step_a_byte s t (n ∷ ns) (m, more, later) = omega (arith, more, a_step_a_byte m t ns later, sum_by-cons (λ x. x) n ns)
