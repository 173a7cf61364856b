use Rattle.test_input.proofs.plain.+ends_text.Given as goal

abbrev pub decreases-ends_text : goal.decreases-ends_text
decreases-ends_text l = l.further
