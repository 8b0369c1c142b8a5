use Rattle.std.proofs.Common.{refl}
use Rattle.store_law.proofs.Alone.{alone-schema}
use Rattle.store_law.proofs.Imported.{file-holds, imported-holds}
use Rattle.store_law.proofs.laws.imports_keep_stores_sound.Goals as goal

pub returns : goal.returns
returns c = record {
  holds = imported-holds;
  file = λ schema content file alone sound accepted. file-holds schema content file (alone-schema content.schema schema alone) sound accepted;
  schema = λ policy dims content new. refl;
}
