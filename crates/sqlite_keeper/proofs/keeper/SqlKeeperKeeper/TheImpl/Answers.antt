-- Content and journal are not told, so nothing is to be shown of them.
use Rattle.std.proofs.Common.{refl}
use Rattle.fact_keeper.proofs.Names.{told_name}
use Rattle.sqlite_keeper.proofs.Untold.{on_ok, on_err}
use Rattle.sqlite_keeper.proofs.keeper.SqlKeeperKeeper.TheImpl.Goals as goal

pub load-tells : goal.load-tells
load-tells g c = record {
  given = on_ok c.result tt;
  content = refl;
  journal = refl;
  named = told_name c.result _ _ c.ensures.named;
  same_name = c.ensures.same_name;
  loaded = c.ensures.loaded;
  opened = c.ensures.opened;
  stays_open = c.ensures.stays_open;
  count = c.ensures.count;
}

pub commit-tells : goal.commit-tells
commit-tells g c = record {
  applied = on_ok c.result refl;
  appended = on_ok c.result refl;
  same_content = on_err c.result refl;
  same_journal = on_err c.result refl;
  stays_open = record { is_open = c.ensures.stays_open; name = c.ensures.same_name; loads = c.ensures.same_loads };
  count = c.ensures.count;
}
