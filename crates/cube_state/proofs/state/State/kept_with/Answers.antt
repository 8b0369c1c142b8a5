-- The facts with new ones may be kept, and the emptied views are empty.
use Rattle.std.proofs.Common.{◌≡◌, refl, subst}
use Rattle.std.specs.Prelude.{IfErr, IfOk}
use Rattle.fact_records.specs.New.{put_all}
use Rattle.fact_records.specs.Shape.{policy_over}
use Rattle.fact_indexes.specs.Anew.{IsTooMany}
use Rattle.cube_state.specs.State.{policy_in}
use Rattle.cube_state.proofs.NewKept.{emptied-empty, kept-for_all, valid-with}
use Rattle.cube_state.proofs.state.State.kept_with.Goals as goal

pub keep_all-requires-clause-valid : goal.keep_all-requires-clause-valid
keep_all-requires-clause-valid g c = valid-with g.P.WeightPolicy.weigh _ _ c.self.view_is c.args.new.now _ c.requires c.self.invariant.state.valid c.in_ok-facts.ensures

pub keep_all-requires-clause-views : goal.keep_all-requires-clause-views
keep_all-requires-clause-views g c = emptied-empty _ _ _ _ c.self.invariant.state.views.columns_are _ c.columns-2.ensures.columns c.columns-2.ensures.each c.self.invariant.state.views.over c.in_ok-views.ensures

pub returns-clause-kept : goal.returns-clause-kept
returns-clause-kept g c = kept-for_all g.P.WeightPolicy.weigh _ _ c.self.view_is _ c.self.inside.views _ c.keep_all.result refl c.in_ok-views.ensures c.keep_all.ensures.facts c.keep_all.ensures.kept

pub returns-clause-facts : goal.returns-clause-facts
returns-clause-facts g c =
    subst (λ state. IfOk c.keep_all.result (λ all. all.facts.facts ≡ put_all c.args.new.now state.facts)) c.self.view_is
    (subst (λ facts. IfOk c.keep_all.result (λ all. all.facts.facts ≡ facts)) c.in_ok-facts.ensures c.keep_all.ensures.facts)

pub returns-clause-fault : goal.returns-clause-fault
returns-clause-fault g c =
    subst (λ state. IfErr c.keep_all.result (IsTooMany (policy_in g.P.WeightPolicy.weigh state) state.dims (put_all c.args.new.now state.facts))) c.self.view_is
    (subst (λ facts. IfErr c.keep_all.result (IsTooMany (policy_over (g.P.WeightPolicy.weigh c.self.inside.policy) c.self.inside.shape) c.self.inside.space facts)) c.in_ok-facts.ensures c.keep_all.ensures.fault)
