-- Keepers that stay open, call after call.
use Rattle.std.proofs.Common.{refl, ◌∙◌}
use Rattle.std.specs.Prelude.{IsTrue}
use Rattle.fact_keeper.specs.Keeper.{KeeperTold, StaysOpen}

pub stays-refl : (told : KeeperTold) → IsTrue told.is_open → StaysOpen told told
stays-refl told is = record { is_open = is; name = refl; loads = refl }

pub stays-trans : (before between after : KeeperTold) → StaysOpen before between → StaysOpen between after → StaysOpen before after
stays-trans before between after first then = record {
  is_open = then.is_open;
  name = then.name ∙ first.name;
  loads = then.loads ∙ first.loads;
}
