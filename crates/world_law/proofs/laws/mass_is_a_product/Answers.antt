use Rattle.world_law.proofs.Expectation.{den-divides, mass-product, world_count-product}
use Rattle.world_law.proofs.laws.mass_is_a_product.Goals as goal

pub returns : goal.returns
returns c = record { mass = mass-product; divides = den-divides; count = world_count-product }
