-- What is taken was counted, and the changes are those of the cells that the edit touches.
use Rattle.std.proofs.Common.{ℕ, ◌∙◌, ap, sym}
use Rattle.std.specs.Option.{option_map}
use Rattle.fact_groups.specs.Changes.{cell_of}
use Rattle.fact_groups.specs.Edits.{taken}
use Rattle.cube_state.proofs.FactCells.{cell-lying}
use Rattle.cube_state.proofs.Seeing.{lost-added, lost-number, taken-valid, touched-seen}
use Rattle.cube_state.proofs.state.State.cell_changes.Goals as goal

pub cell_of_fact-lost-requires-clause-fact : goal.cell_of_fact-lost-requires-clause-fact
cell_of_fact-lost-requires-clause-fact g c = taken-valid _ _ c.args.edit.now _ _ c.self.invariant.state.valid (c.requires.before ∙ sym (ap (λ s. taken c.args.edit.now s.facts) c.self.view_is))

pub changes-requires-clause-number : goal.changes-requires-clause-number
changes-requires-clause-number g c = λ cell. lost-number g.P.WeightPolicy.weigh _ _ c.self.view_is c.self.invariant.state c.args.edit.now _ _ (c.requires.before ∙ sym (ap (λ s. taken c.args.edit.now s.facts) c.self.view_is)) c.cell_of_fact-lost.ensures.lying cell

pub changes-requires-clause-added : goal.changes-requires-clause-added
changes-requires-clause-added g c = λ cell. lost-added g.P.WeightPolicy.weigh _ _ c.self.view_is c.self.invariant.state c.args.edit.now _ _ (c.requires.before ∙ sym (ap (λ s. taken c.args.edit.now s.facts) c.self.view_is)) c.cell_of_fact-lost.ensures.lying cell

pub returns-clause-touched : goal.returns-clause-touched
returns-clause-touched g c =
    c.changes.ensures
    ∙ touched-seen g.P.WeightPolicy.weigh _ _ c.self.view_is c.self.invariant.state c.args.edit.now _ _ (c.requires.before ∙ sym (ap (λ s. taken c.args.edit.now s.facts) c.self.view_is)) c.cell_of_fact-lost.ensures.lying _ _ c.requires.after c.cell_of_fact-won.ensures.lying

pub returns-clause-taken_cell : goal.returns-clause-taken_cell
returns-clause-taken_cell g c = c.cell_of.ensures ∙ ap (option_map (λ (l : ℕ × ℕ). l.0)) c.cell_of_fact-lost.ensures.lying ∙ cell-lying _ _ _ ∙ ap (λ s. cell_of s.dims c.args.before) c.self.view_is

pub returns-clause-given_cell : goal.returns-clause-given_cell
returns-clause-given_cell g c = c.cell_of-2.ensures ∙ ap (option_map (λ (l : ℕ × ℕ). l.0)) c.cell_of_fact-won.ensures.lying ∙ cell-lying _ _ _ ∙ ap (λ s. cell_of s.dims c.args.after) c.self.view_is
