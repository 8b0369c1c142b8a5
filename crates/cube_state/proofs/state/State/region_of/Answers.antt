-- A fact that has the code has its region.
use Rattle.std.proofs.Common.{ap, sym, ◌∙◌}
use Rattle.std.specs.Option.{option_copied}
use Rattle.cube_state.specs.Moves.{region_code}
use Rattle.cube_state.proofs.GroupSeen.{given-placed, region-seen, taken-placed}
use Rattle.cube_state.proofs.state.State.region_of.Goals as goal

pub fact_at-requires : goal.fact_at-requires
fact_at-requires g c = c.requires.given_at ∙ ap (region_code c.args.self.now.dims) (sym c.as_ref.ensures.value)

pub fact_at-requires-2 : goal.fact_at-requires-2
fact_at-requires-2 g c = c.requires.taken_at ∙ ap (region_code c.args.self.now.dims) (sym c.as_ref-2.ensures.value)

pub returns-in-Some : goal.returns-in-Some
returns-in-Some g c =
    region-seen g.P.WeightPolicy.weigh _ _ c.self.view_is c.self.invariant.state c.self.invariant.state.trees c.args.moves.now c.requires (option_copied c.as_ref.result) (given-placed g.P.WeightPolicy.weigh _ _ c.self.view_is c.self.invariant.state c.self.invariant.state.trees c.args.moves.now c.requires (option_copied c.as_ref.result) c.as_ref.ensures.value) c.args.code c.in-Some.given.now (sym c.fact_at.ensures ∙ ap option_copied c.in-Some.is)

pub returns-in-Some-fact_at : goal.returns-in-Some-fact_at
returns-in-Some-fact_at g c =
    region-seen g.P.WeightPolicy.weigh _ _ c.self.view_is c.self.invariant.state c.self.invariant.state.trees c.args.moves.now c.requires (option_copied c.as_ref-2.result) (taken-placed g.P.WeightPolicy.weigh _ _ c.self.view_is c.self.invariant.state c.self.invariant.state.trees c.args.moves.now c.requires (option_copied c.as_ref-2.result) c.as_ref-2.ensures.value) c.args.code c.in-Some-fact_at.taken.now (sym c.fact_at-2.ensures ∙ ap option_copied c.in-Some-fact_at.is)
