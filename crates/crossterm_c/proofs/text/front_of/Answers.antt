use Rattle.std.proofs.Common.{rules, ◌∙◌, ◌<◌, ap, sym, subst, inr, ℕ, [], ◌∷◌, take}
use Rattle.std.specs.List.{AllByRecursion}
use Rattle.crossterm_parse.proofs.RunLaws.{take_less}
use Rattle.crossterm_c.specs.Text.{TextBeginsWith}
use Rattle.crossterm_c.proofs.TextLaws.{begins_ascii, begins_char, begins_none, next_char, next_none}
use Rattle.crossterm_c.proofs.text.front_of.Goals as goal

pub returns-then-count-gt0-clause-text : goal.returns-then-count-gt0-clause-text
returns-then-count-gt0-clause-text c = begins_ascii c.ascii_in-count.result c.args.bytes.now
    (subst (AllByRecursion (λ b. b < 128)) (take_less c.ascii_in-count.result _ c.args.bytes.now c.ascii_in-count.ensures.within) c.ascii_in-count.ensures.ascii)

pub returns-in-Some-default-clause-text : goal.returns-in-Some-default-clause-text
returns-in-Some-default-clause-text c =
    let read = c.character_of.ensures.decoded in
    subst (λ (n : ℕ). TextBeginsWith c.args.bytes.now (take n c.args.bytes.now) n) (sym read.1) (begins_char c.args.bytes.now c.in-Some-default.field-0-0 c.requires (sym read.0 ∙ search rules))

pub returns-in-Some-default-clause-short : goal.returns-in-Some-default-clause-short
returns-in-Some-default-clause-short c =
    let read = c.character_of.ensures.decoded in
    inr (ap (λ (n : ℕ). take n c.args.bytes.now) read.1 ∙ next_char c.args.bytes.now c.in-Some-default.field-0-0 (sym read.0 ∙ search rules))

pub returns-in-None-default-clause-short : goal.returns-in-None-default-clause-short
returns-in-None-default-clause-short c = inr (next_none c.args.bytes.now (sym c.character_of.ensures.decoded.0 ∙ search rules))

pub returns-in-None-default-clause-text : goal.returns-in-None-default-clause-text
returns-in-None-default-clause-text c =
    let read = c.character_of.ensures.decoded in
    subst (λ (n : ℕ). TextBeginsWith c.args.bytes.now (239 ∷ 191 ∷ 189 ∷ []) n) (sym read.1) (begins_none c.args.bytes.now c.requires (sym read.0 ∙ search rules))
