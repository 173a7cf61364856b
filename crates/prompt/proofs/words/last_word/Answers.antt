use Rattle.std.proofs.Common.{refl, ◌∙◌}
use Rattle.std.proofs.lemmas.Str.{IsCharBoundary-after_ascii}
use Rattle.prompt.proofs.Wording.{next-is, one-word, parts_words, place-is}
use Rattle.prompt.proofs.words.last_word.Goals as goal

pub range_from-requires : goal.range_from-requires
range_from-requires c some =
    let found = c.in-Some.ensures.cases in
    let is = place-is c.args.text.now c.in-Some.place found.0 (found.1 parts_words (λ n. refl)) in
    IsCharBoundary-after_ascii c.args.text.now c.in-Some.place c.utf8.text is.0 is.1

pub returns-in-Some : goal.returns-in-Some
returns-in-Some c =
    let found = c.in-Some.ensures.cases in
    c.range_from.ensures.value ∙ next-is c.args.text.now c.in-Some.place found.0 (found.1 parts_words (λ n. refl))

pub returns-in-None : goal.returns-in-None
returns-in-None c = one-word c.args.text.now (c.in-None.ensures.cases parts_words (λ n. refl))
