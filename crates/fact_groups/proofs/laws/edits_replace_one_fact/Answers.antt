use Rattle.std.proofs.Common.{◌≡◌, true}
use Rattle.fact_groups.proofs.Edits.{All-after, find-after, pairs-after, there-after}
use Rattle.fact_groups.proofs.laws.edits_replace_one_fact.Goals as goal

pub returns : goal.returns
returns c = record { found = find-after; there = there-after; each = λ p. All-after (λ f. p f ≡ true); ascending = pairs-after }
