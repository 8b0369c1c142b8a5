-- The touched cells have statistics that facts can have.
use Rattle.fact_groups.specs.Edits.{taken}
use Rattle.std.proofs.Common.{refl, ◌∙◌, ap, subst}
use Rattle.fact_records.specs.Shape.{IsShape}
use Rattle.cube_state.specs.Moves.{region_code}
use Rattle.cube_state.proofs.Covering.{region-given, region-taken}
use Rattle.cube_state.proofs.MovesMade.{moves-made, possible-after, possible-before}
use Rattle.cube_state.proofs.state.State.moves.Goals as goal

pub reweighing_changes-reweighing-requires-clause-before : goal.reweighing_changes-reweighing-requires-clause-before
reweighing_changes-reweighing-requires-clause-before g c =
    possible-before (g.P.WeightPolicy.weigh c.args.self.now.policy) c.args.self.now.shape c.args.self.now.dims c.args.edit.now c.args.self.now.facts (subst IsShape c.shape.ensures c.columns.ensures.shape) c.facts.ensures.valid c.requires.over c.requires.accepted _
    c.cell_changes-taken_cell.ensures.touched

pub reweighing_changes-reweighing-requires-clause-after : goal.reweighing_changes-reweighing-requires-clause-after
reweighing_changes-reweighing-requires-clause-after g c =
    possible-after (g.P.WeightPolicy.weigh c.args.self.now.policy) c.args.self.now.shape c.args.self.now.dims c.args.edit.now c.args.self.now.facts (subst IsShape c.shape.ensures c.columns.ensures.shape) c.facts.ensures.valid c.requires.over c.requires.accepted _
    c.cell_changes-taken_cell.ensures.touched

pub returns-clause-moves : goal.returns-clause-moves
returns-clause-moves g c =
    moves-made g.P.WeightPolicy.weigh _ _ c.self.view_is c.args.edit.now _ c.requires.over c.requires.accepted refl c.taken_fact-taken.ensures c.given_fact-given.ensures (c.region_code-taken_code.ensures ∙ ap (region_code c.args.self.now.dims) c.as_ref.ensures.value) (c.region_code-given_code.ensures ∙ ap (region_code c.args.self.now.dims) c.as_ref-2.ensures.value) c.cell_changes-taken_cell.ensures.taken_cell c.cell_changes-taken_cell.ensures.given_cell c.cell_changes-taken_cell.ensures.touched
    c.reweighing_changes-reweighing.ensures

pub region_code-taken_code-requires : goal.region_code-taken_code-requires
region_code-taken_code-requires g c = region-taken c.args.self.now.shape c.args.self.now.dims c.args.self.now.facts c.args.edit.now _ c.facts.ensures.valid (c.as_ref.ensures.value ∙ c.taken_fact-taken.ensures ∙ ap (λ s. taken c.args.edit.now s.facts) c.self.view_is)

pub region_code-given_code-requires : goal.region_code-given_code-requires
region_code-given_code-requires g c = region-given c.args.self.now.dims c.args.edit.now _ c.requires.over (c.as_ref-2.ensures.value ∙ c.given_fact-given.ensures)
