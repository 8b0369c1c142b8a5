-- The closure gives a pair's id.
use Rattle.std.proofs.Common.{ℕ, rules}
use Rattle.std.proofs.lemmas.List.Sorted.{IsNonDecreasingBy-from_sort_by_key}
use Rattle.edit_plan.proofs.refreshing.by_id.Goals as goal

pub returns-clause-sorted : goal.returns-clause-sorted
returns-clause-sorted c = IsNonDecreasingBy-from_sort_by_key (λ (pair : ℕ × ℕ). pair.0) _ c.sort_unstable_by_key.ensures.sorted (λ a r q k. search rules)
