-- The last look at the store of a run, after its input, and the end that it leaves.
use Rattle.std.specs.Prelude.{◌≡◌, ℕ, ◌||◌, List, [], ◌∷◌, codes, Option, Some, None, Result, Ok, Err, IsOk, if◌then◌else◌}
use Rattle.std.specs.Str.{bytes_eq}
use Rattle.fact_keeper.specs.Keeper.{CountsKeepFault}
use Rattle.fact_keeper.specs.declared.keeper.KeepError.{KeepError}
use Rattle.fact_keeper.specs.declared.keeper.KeepError.TheVariants as keep_error
use Rattle.sqlite_keeper.specs.SqlKeeper.{Opened, looks_with}
use Rattle.cube_cli.specs.declared.end.End.{End}
use Rattle.cube_cli.specs.declared.end.End.TheVariants.{Finished, KeepFault, Memory}

-- the number that an end tells of a command that does an input line by line over a store: that of the lines of a script, or of the batches of a feed
abbrev pub done_by : List ℕ → ℕ → ℕ → Option ℕ
done_by word lines batches =
    if bytes_eq word (codes "run") || bytes_eq word (codes "lead") then Some lines
    else (if bytes_eq word (codes "follow") then Some batches else None)

-- the same by the words of the command line
abbrev pub done_of : List (List ℕ) → ℕ → ℕ → Option ℕ
done_of [] lines batches = None
done_of (word ∷ []) lines batches = None
done_of (word ∷ name ∷ []) lines batches = done_by word lines batches
done_of (word ∷ name ∷ more ∷ words) lines batches = None

-- the same where the run was done to its end, and none where it was not
abbrev pub done_at_end : Option ℕ → End → Option ℕ
done_at_end number (Finished refused) = number
done_at_end number end = None

-- the end of a run by what a last look answers
abbrev pub end_of_look : Result Unit KeepError → ℕ → End → End
end_of_look (Ok _) done end = end
end_of_look (Err keep_error.Failed) done end = KeepFault done
end_of_look (Err keep_error.Memory) done end = Memory done

-- It is looked once, where a batch was written, and what the look answers makes the end.
pub record Looks (keeper after : Opened) (done : ℕ) (end told : End) : Type 0 where
  pub answer : Result Unit KeepError
  pub tells : told ≡ end_of_look answer done end
  pub count : CountsKeepFault keeper.faults after.faults answer
  pub looked : after.looks ≡ looks_with keeper
  pub unwritten : keeper.written ≡ 0 → IsOk answer
  pub same : after ≡ record keeper { looks = after.looks; faults = after.faults; reason = after.reason }

-- It is not looked, and the end stays.
pub record LooksNotAgain (keeper after : Opened) (end told : End) : Type 0 where
  pub same : after ≡ keeper
  pub tells : told ≡ end

-- by whether the end tells such a number
abbrev pub LooksLast : Option ℕ → Opened → Opened → End → End → Type 0
LooksLast None keeper after end told = LooksNotAgain keeper after end told
LooksLast (Some done) keeper after end told = Looks keeper after done end told
