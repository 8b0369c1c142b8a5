use Rattle.world_law.proofs.Faults.{few_worlds, mass_of_dens}
use Rattle.world_law.proofs.laws.refusals_are_exact.Goals as goal

pub returns : goal.returns
returns c = record { many = few_worlds; wide = mass_of_dens }
