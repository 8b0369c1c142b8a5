-- How a fact is spread depends on its region alone.
use Rattle.std.proofs.Common.{◌≡◌, List, refl, ap, sym, ◌∙◌}
use Rattle.cube_model.specs.declared.edit.Fact.{Fact}
use Rattle.cube_model.specs.Allocation.{Policy, allocation}
use Rattle.cube_model.specs.Tree.{Dimension}
use Rattle.fact_groups.specs.Groups.{spread_at}

module _ (policy : Policy) (dims : List Dimension) (facts : List Fact) where
  pub allocation-spread_at : (fact : Fact) → allocation policy dims facts fact ≡ spread_at policy dims facts fact.region
  unfolding allocation spread_at
  allocation-spread_at fact = refl

  pub allocation-shared : (a b : Fact) → a.region ≡ b.region → allocation policy dims facts a ≡ allocation policy dims facts b
  allocation-shared a b same = allocation-spread_at a ∙ ap (spread_at policy dims facts) same ∙ sym (allocation-spread_at b)
