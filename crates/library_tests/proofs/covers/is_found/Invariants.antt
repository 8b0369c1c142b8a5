use Rattle.library_tests.proofs.covers.is_found.Given as goal

-- the steps are counted by the ledger of the blank
abbrev pub ghosts-ids_by_patterns : goal.ghosts-ids_by_patterns
ghosts-ids_by_patterns a = record { name = a.blank.name; parts = 1 }
