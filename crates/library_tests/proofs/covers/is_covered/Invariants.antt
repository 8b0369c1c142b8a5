use Rattle.library_tests.proofs.covers.is_covered.Given as goal

-- the steps are counted by the ledger of the blank
abbrev pub ghosts-ids_over : goal.ghosts-ids_over
ghosts-ids_over a = record { name = a.blank.name; parts = 1 }
