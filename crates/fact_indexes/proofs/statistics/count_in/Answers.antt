-- One cell differs from no other.
use Rattle.std.proofs.Common.{arith}
use Rattle.std.specs.Prelude.{nat_eq}
use Rattle.std.proofs.lemmas.Map.Keys.{IsDistinct-from_apart}
use Rattle.fact_indexes.proofs.statistics.count_in.Goals as goal

pub install-requires-clause-distinct : goal.install-requires-clause-distinct
install-requires-clause-distinct c = IsDistinct-from_apart nat_eq _ (λ i j d before within. absurd (omega arith))
