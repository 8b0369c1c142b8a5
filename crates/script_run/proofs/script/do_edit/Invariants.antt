-- The steps are counted in a ledger of their own.
use Rattle.script_run.proofs.script.do_edit.Given as goal

abbrev pub ghosts-do_edit_by : goal.ghosts-do_edit_by
ghosts-do_edit_by g a = record { name = a.blank.name; parts = 1 }
