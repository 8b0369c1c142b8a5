use Rattle.fact_groups.proofs.AsFacts.{count-as_facts, some-facts, sum-as_facts}
use Rattle.fact_groups.proofs.laws.groups_answer_as_facts.Goals as goal

pub returns : goal.returns
returns c = record {
  some = some-facts;
  counts = λ groups some cells den. count-as_facts cells den groups some;
  sums = λ groups cells column den. sum-as_facts cells column den groups;
}
