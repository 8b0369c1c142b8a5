use Rattle.group_sum.proofs.Ascending.{ascends}
use Rattle.group_sum.proofs.terms.Terms.search.Goals as goal

-- terms ascend
pub search-requires : goal.search-requires
search-requires c = record { each = ascends _ 1 _ c.self.invariant.terms }
