use Rattle.fact_groups.proofs.Elsewhere.{group_at-other}
use Rattle.fact_groups.proofs.laws.groups_stay_but_at_the_codes_of_an_edit.Goals as goal

pub returns : goal.returns
returns c = λ policy columns dims edit facts codes up has code. group_at-other policy columns dims edit facts up code codes has
