use Rattle.std.proofs.lemmas.List.Kept.{IsStrictlyIncreasing-filter}
use Rattle.fact_groups.proofs.Elsewhere.{fewer-codes}
use Rattle.fact_groups.proofs.laws.codes_of_equal_groups_can_be_left_out.Goals as goal

pub returns : goal.returns
returns c = record { same = fewer-codes; ascending = λ codes keeps. IsStrictlyIncreasing-filter keeps codes }
