use Rattle.version_index.proofs.keyed.last_by_walk.Given as goal

-- a ledger of its own
abbrev pub ghosts-last_uncounted : goal.ghosts-last_uncounted
ghosts-last_uncounted a = record { name = a.blank.name; parts = a.blank.parts }
