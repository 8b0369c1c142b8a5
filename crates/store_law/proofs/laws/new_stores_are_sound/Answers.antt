use Rattle.store_law.proofs.Alone.{alone-schema, text-alone}
use Rattle.store_law.proofs.Told.{holds-none}
use Rattle.store_law.proofs.laws.new_stores_are_sound.Goals as goal

pub returns : goal.returns
returns c = record { holds = λ text schema alone. holds-none schema; schema = λ text schema alone. text-alone schema (alone-schema text schema alone) }
