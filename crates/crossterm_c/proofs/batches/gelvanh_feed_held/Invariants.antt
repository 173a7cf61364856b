use Rattle.crossterm_c.proofs.batches.gelvanh_feed_held.Given as goal

-- The ledger is the new one.
abbrev pub ghosts-feed : goal.ghosts-feed
ghosts-feed a = record { name = a.blank.name; parts = a.blank.parts }
