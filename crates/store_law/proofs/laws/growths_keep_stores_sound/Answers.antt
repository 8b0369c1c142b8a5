use Rattle.std.proofs.Common.{refl}
use Rattle.store_audit.specs.Sound.{facts_told}
use Rattle.store_law.proofs.Grown.{grown-holds}
use Rattle.store_law.proofs.Alone.{text-alone}
use Rattle.store_law.proofs.GrownSchema.{grown-schema}
use Rattle.store_law.proofs.laws.growths_keep_stores_sound.Goals as goal

pub returns : goal.returns
returns c = record {
  holds = λ policy schema content grow is sound grows named accepted. grown-holds policy schema content grow is.trees sound grows accepted;
  text = λ policy schema content grow. refl;
  schema = λ policy schema content grow is grows named accepted. grown-schema policy schema (facts_told content) grow is (record { grows = grows; named = named }) accepted;
  read = text-alone;
}
