-- The shares at the codes are all that the facts have there; they fit, and what they add up to is the answer.
use Rattle.cube_state.proofs.GroupAnswers.{answered-ok, shares-coded, shares-touching, shown-are, shown-fit}
use Rattle.cube_state.proofs.state.State.answer_at.Goals as goal

pub terms_of_shares-requires-clause-shares : goal.terms_of_shares-requires-clause-shares
terms_of_shares-requires-clause-shares g c =
    let from = shares-touching g.P.WeightPolicy.weigh _ _ c.self.view_is c.self.invariant.state c.self.invariant.state.trees c.count.ensures.distinct c.count.ensures.once c.args.r _ c.inside.ensures _ (shares-coded _ _ _ _ c.requires.codes c.in_ok-shares.ensures) in
    shown-are g.P.WeightPolicy.weigh _ _ c.self.view_is c.self.invariant.state (g.met.P.WeightPolicy.bound c.self.inside.policy) c.columns-columns.ensures.shape c.args.r _ from _ _ c.columns-columns.ensures.columns c.deref_mut.ensures.value

pub terms_of_shares-requires-clause-within : goal.terms_of_shares-requires-clause-within
terms_of_shares-requires-clause-within g c =
    let from = shares-touching g.P.WeightPolicy.weigh _ _ c.self.view_is c.self.invariant.state c.self.invariant.state.trees c.count.ensures.distinct c.count.ensures.once c.args.r _ c.inside.ensures _ (shares-coded _ _ _ _ c.requires.codes c.in_ok-shares.ensures) in
    shown-fit g.P.WeightPolicy.weigh _ _ c.self.view_is c.self.invariant.state (g.met.P.WeightPolicy.bound c.self.inside.policy) c.columns-columns.ensures.shape c.args.r _ from _ _ c.columns-columns.ensures.columns c.deref_mut.ensures.value

pub returns : goal.returns
returns g c =
    let from = shares-touching g.P.WeightPolicy.weigh _ _ c.self.view_is c.self.invariant.state c.self.invariant.state.trees c.count.ensures.distinct c.count.ensures.once c.args.r _ c.inside.ensures _ (shares-coded _ _ _ _ c.requires.codes c.in_ok-shares.ensures) in
    answered-ok g.P.WeightPolicy.weigh _ _ c.self.view_is c.self.invariant.state (g.met.P.WeightPolicy.bound c.self.inside.policy) c.columns-columns.ensures.shape c.args.r _ from _ _ c.terms_of_shares.result c.columns-columns.ensures.columns
    c.deref_mut.ensures.value c.terms_of_shares.ensures.ok c.terms_of_shares.ensures.terms
