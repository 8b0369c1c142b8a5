-- What is set is what the edit makes of the state.
use Rattle.std.proofs.Common.{refl, subst}
use Rattle.staged_map.specs.Staged.{PutsAll}
use Rattle.cell_weight.specs.Stats.{Installs}
use Rattle.cube_state.proofs.Installing.{after-installed, given-region, installed}
use Rattle.cube_state.proofs.Knowing.{KnowsPatterns-set}
use Rattle.cube_state.proofs.state.State.set.Goals as goal

pub note_given-requires : goal.note_given-requires
note_given-requires g c = given-region g.P.WeightPolicy.weigh _ _ c.args.edit _ _ c.args.rows c.self.view_is c.sets.view_is c.requires c.self.invariant.state

pub invariant_of-self : goal.invariant_of-self
invariant_of-self g c = record {
  known = KnowsPatterns-set _ c.args.edit _ _ _ _ c.self.invariant.known c.apply.ensures c.note_given.ensures;
  state =
      installed g.P.WeightPolicy.weigh _ _ c.args.edit _ _ c.args.rows c.self.view_is c.sets.view_is c.requires c.self.invariant.state _ _
      (record {
        edited = c.apply.ensures;
        stats = subst (Installs c.self.inside.stats c.install.new.self) c.as_slice.ensures.items c.install.ensures;
        index = c.install-2.ensures.applies;
        groups = subst (PutsAll c.self.inside.groups c.put_all.new.self) c.into_vec.ensures c.put_all.ensures;
        views = λ changes. c.install-3.ensures.after c.self.inside.space changes;
        rows = refl;
      });
}

pub returns : goal.returns
returns g c =
    after-installed g.P.WeightPolicy.weigh _ _ c.args.edit _ _ c.args.rows c.self.view_is c.sets.view_is c.requires c.self.invariant.state _ refl refl refl refl c.apply.ensures
    (λ changes. c.install-3.ensures.after c.self.inside.space changes)
