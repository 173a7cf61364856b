use Rattle.test_input.proofs.pastes.counts_anew.Given as goal

-- The ledger is the new one.
abbrev pub ghosts-counts : goal.ghosts-counts
ghosts-counts a = record { name = a.blank.name; parts = a.blank.parts }
