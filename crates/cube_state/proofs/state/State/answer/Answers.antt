-- The view that serves the region answers as the facts do.
use Rattle.cube_state.proofs.ViewAnswers.{answered-found, serving-fits}
use Rattle.cube_state.proofs.state.State.answer.Goals as goal

pub answer-requires-clause-within : goal.answer-requires-clause-within
answer-requires-clause-within g c =
    serving-fits g.P.WeightPolicy.weigh _ _ c.self.view_is c.self.invariant.state (g.met.P.WeightPolicy.bound c.self.inside.policy) c.columns.ensures.shape c.self.invariant.state.trees _ c.columns-2.ensures.columns c.columns-2.ensures.each c.args.r c.requires

pub returns-in-Some : goal.returns-in-Some
returns-in-Some g c =
    answered-found g.P.WeightPolicy.weigh _ _ c.self.view_is c.self.invariant.state (g.met.P.WeightPolicy.bound c.self.inside.policy) c.columns.ensures.shape c.self.invariant.state.trees _ c.columns-2.ensures.columns c.columns-2.ensures.each c.args.r c.requires
    _ _ c.in-Some.is c.in_ok-terms.ensures.terms c.in_ok-terms.ensures.columns
