-- The views begin without entries, and the rest is what the facts make it.
use Rattle.cube_state.proofs.FactsGiven.{AreEmpty-defs, cuts-kept, few-kept, regions-kept, state-kept}
use Rattle.cube_state.proofs.state.State.of_facts.Goals as goal

pub keep_all-requires-clause-views : goal.keep_all-requires-clause-views
keep_all-requires-clause-views g c = AreEmpty-defs _ _ _ c.args.defs.now _ c.requires.depths c.columns.ensures.columns c.in_ok-views.ensures

pub patterns_of-patterns-requires : goal.patterns_of-patterns-requires
patterns_of-patterns-requires g c = regions-kept _ _ _ _ c.in_ok-facts.ensures.facts c.requires.valid

pub invariant_of-result : goal.invariant_of-result
invariant_of-result g c = record {
  state = state-kept _ _ _ _ _ _ c.in_ok-facts.ensures.facts c.in_ok-facts.ensures.kept;
  known = c.patterns_of-patterns.ensures;
}

pub returns-clause-cuts : goal.returns-clause-cuts
returns-clause-cuts g c = cuts-kept _ _ _ _ _ _ c.args.defs.now _ c.in_ok-views.ensures c.in_ok-facts.ensures.kept

pub returns-clause-few : goal.returns-clause-few
returns-clause-few g c = few-kept _ _ _ _ _ _ c.in_ok-facts.ensures.kept
