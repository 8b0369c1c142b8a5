use Rattle.region_algebra.proofs.Codes.{product-leaf_counts}
use Rattle.region_algebra.proofs.laws.cells_are_a_product.Goals as goal

pub returns : goal.returns
returns c = λ dims region trees names. product-leaf_counts dims region names
