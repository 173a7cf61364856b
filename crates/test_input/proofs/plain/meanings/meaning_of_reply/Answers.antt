use Rattle.std.proofs.Common.{◌≡◌, ◌∙◌, ◌==◌, ◌-◌, true, false, sym, ap, refl, length, arith, get_or}
use Rattle.std.proofs.lemmas.Bool.Decides.{nat_tests}
use Rattle.crossterm_parse.specs.Meaning.{flags_reply}
use Rattle.test_input.proofs.PlainLaws.{reply_at}
use Rattle.test_input.proofs.plain.meanings.meaning_of_reply.Goals as goal

pub returns-in-99 : goal.returns-in-99
returns-in-99 c =
    let is : (get_or c.args.bytes.now (length c.args.bytes.now - 1) 0 == 99) ≡ true = grind (arith, nat_tests) in
    sym (reply_at c.args.bytes.now c.in-99.len_at_least ∙ rw is refl)

pub returns-in-len1-up : goal.returns-in-len1-up
returns-in-len1-up c =
    let other : (get_or c.args.bytes.now (length c.args.bytes.now - 1) 0 == 99) ≡ false = grind (arith, nat_tests) in
    c.meaning_of_flags.ensures ∙ ap flags_reply c.read_number.ensures ∙ sym (reply_at c.args.bytes.now c.in-len1-up.len_at_least ∙ rw other refl)
