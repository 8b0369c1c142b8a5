-- What the exit status of a run over stores in files tells of what was done.
use Rattle.std.specs.Prelude.{◌≡◌, ℕ, List, None, false}
use Rattle.fact_keeper.specs.Keeper.{KeeperTold}
use Rattle.script_run.specs.Seen.{SeenAll}
use Rattle.sqlite_keeper.specs.SqlKeeper.{Opened, written_over}
use Rattle.cube_cli.specs.End.{IsComplete, Says, doing_by}
use Rattle.cube_cli.specs.Loaded.{Loads, second_word}
use Rattle.cube_cli.specs.Status.{status_of}
use Rattle.cube_cli.specs.declared.end.End.{End}
use Rattle.cube_program.specs.LastLook.{LooksLast, done_at_end, done_of}

-- what a keeper over a file tells: no content and no journal
abbrev pub told_by : Opened → KeeperTold
told_by keeper = record { content = None; journal = None; name = keeper.name; loads = keeper.loads; is_open = keeper.is_open; faults = keeper.faults }

-- a keeper that has opened no file
abbrev pub NEW : Opened
NEW = record { name = None; loads = 0; is_open = false; was_filled = false; written = 0; looks = 0; faults = 0; reason = None }

-- A run of these words has an end, which says of what is seen what the end of every run says. Its exit status is that of the end that the last
-- look leaves, of so many lines or batches. The keeper of the run was new; it looks last, and is dropped with the run.
pub record Ran (words : List (List ℕ)) (seen : Opened → SeenAll) (exit : ℕ) : Type 0 where
  pub end : End
  pub keeper : Opened
  pub lines : ℕ
  pub after : Opened
  pub told : End
  pub looks : LooksLast (done_at_end (done_of words lines (written_over keeper)) end) keeper after end told
  pub status : exit ≡ status_of told
  pub says : Says words (seen keeper) end
  pub complete : IsComplete words (seen keeper) end
  pub loaded : Loads (doing_by words).stores (second_word words) (told_by NEW) (told_by keeper) (seen keeper) end
