use Rattle.std.proofs.Common.{rules, ◌∙◌, ◌+◌, ◌++◌, [], ◌∷◌, Option, map, option_to_list, refl, subst, sym, take, arith}
use Rattle.bstr.proofs.lemmas.PieceLemmas.{size-within}
use Rattle.crossterm_parse.specs.Meaning.{seen_meaning}
use Rattle.crossterm_parse.specs.Putting.{PutsOn, bare}
use Rattle.crossterm_parse.specs.Transitions.{IsCharacterOf}
use Rattle.crossterm_parse.specs.declared.meaning.Meaning.{Meaning}
use Rattle.crossterm_parse.specs.declared.meaning.Meaning.TheVariants.{Key}
use Rattle.crossterm_parse.specs.declared.state.State.TheVariants.{Ground}
use Rattle.crossterm_parse.proofs.RunLaws.{all_on, sequence_on}
use Rattle.crossterm_parse.proofs.TakingLaws.{one_character}
use Rattle.crossterm_parse.proofs.whole.meaning_in.Goals as goal

pub returns-in_ok-meaning-in-27 : goal.returns-in_ok-meaning-in-27
returns-in_ok-meaning-in-27 c =
    let it = c.in_ok-sequence-in-27.sequence in
    record {
      some = omega arith;
      within = search rules;
      puts = λ w. subst (λ (m : Option Meaning). PutsOn c.args.raw (bare Ground w) (bare Ground (w ++ map seen_meaning (option_to_list m))) (take (1 + it.count) c.args.bytes.now)) c.in_ok-meaning-in-27.was
          (sequence_on c.args.raw Ground c.args.bytes.now it w refl c.requires c.in-27.is c.in_ok-sequence-in-27.ensures);
    }

pub returns-in_ok-c-in-194-to-244 : goal.returns-in_ok-c-in-194-to-244
returns-in_ok-c-in-194-to-244 c =
    let is = c.in_ok-c-in-194-to-244.ensures in
    let key = Key c.typed_key.result in
    let size = c.in_ok-c-in-194-to-244.size in
    record {
      some = omega (arith, is.long);
      within = is.within;
      puts = λ w. all_on c.args.raw (take size c.args.bytes.now) (bare Ground w) (bare Ground (w ++ seen_meaning key ∷ []))
          (one_character Ground c.args.bytes.now c.in_ok-c-in-194-to-244.c size key w refl is c.typed_key.ensures);
    }
