use Rattle.std.proofs.Common.{nat_eq, arith}
use Rattle.std.proofs.lemmas.Map.Keys.{IsDistinct-from_apart}
use Rattle.library_tests.proofs.ranges.count_at.Goals as goal

pub install-requires-clause-distinct : goal.install-requires-clause-distinct
install-requires-clause-distinct c = IsDistinct-from_apart nat_eq _ (λ i j d before within. absurd (omega arith))
