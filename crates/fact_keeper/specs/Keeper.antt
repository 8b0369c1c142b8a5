-- What keepers tell, and when a call of theirs may fail.
use Rattle.std.specs.Prelude.{◌≡◌, ℕ, Bool, IsTrue, List, Option, Result, Ok, Err}
use Rattle.cube_base.specs.Outside.{Rose}
use Rattle.fact_keeper.specs.declared.content.Batch.{Batch}
use Rattle.fact_keeper.specs.declared.content.Stored.{Stored}
use Rattle.fact_keeper.specs.declared.keeper.KeepError.{KeepError}
use Rattle.fact_keeper.specs.declared.keeper.KeepError.TheVariants.{Failed, Memory}

-- What a keeper tells: the content; all batches that were committed, the oldest first; and the name of the store that was opened last,
-- each where it knows it; how many loads were asked for; whether it may be committed to; and how many faults there were. Both counts
-- stand at their last value.
pub record KeeperTold : Type 0 where
  pub content : Option Stored
  pub journal : Option (List Batch)
  pub name : Option (List ℕ)
  pub loads : ℕ
  pub is_open : Bool
  pub faults : ℕ

-- a keeper that is open, over the store that was opened last before, with no load more
pub record StaysOpen (before after : KeeperTold) : Type 0 where
  pub is_open : IsTrue after.is_open
  pub name : after.name ≡ before.name
  pub loads : after.loads ≡ before.loads

-- a call of a keeper: the count rose at a fault, and stays at every other answer
abbrev pub CountsKeepFault : {T : Type 0} → ℕ → ℕ → Result T KeepError → Type 0
CountsKeepFault before after (Ok _) = after ≡ before
CountsKeepFault before after (Err Failed) = Rose before after
CountsKeepFault before after (Err Memory) = after ≡ before
