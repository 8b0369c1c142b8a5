-- What contracts see of a keeper over a file.
use Rattle.std.specs.Prelude.{ℕ, ◌-◌, ◌==◌, Bool, List, Option, if◌then◌else◌}
use Rattle.cube_base.specs.Outside.{next_count}
use Rattle.sqlite_file.specs.declared.reason.Reason.{Reason}

-- the path of the file that was opened last, how many loads were asked for, and whether one was answered; whether there was something in the
-- content that was loaded last, how many batches were written since, and how often it was looked for the file behind them; how many faults
-- there were, and why the last of them came
pub record Opened : Type 0 where
  pub name : Option (List ℕ)
  pub loads : ℕ
  pub is_open : Bool
  pub was_filled : Bool
  pub written : ℕ
  pub looks : ℕ
  pub faults : ℕ
  pub reason : Option Reason

-- how many batches were written over a content in which there was something
abbrev pub written_over : Opened → ℕ
written_over keeper = if keeper.was_filled then keeper.written else keeper.written - 1

-- how often it was looked, after a call that looks where a batch was written
abbrev pub looks_with : Opened → ℕ
looks_with keeper = if keeper.written == 0 then keeper.looks else next_count keeper.looks
