-- A region of one cell, or one that holds no cell which weighs otherwise, is spread as before.
use Rattle.std.proofs.Common.{List, ap, sym, subst, ◌∙◌, arith}
use Rattle.std.specs.Prelude.{All, ◌<◌, length}
use Rattle.std.specs.List.{list_any}
use Rattle.alloc_rows.specs.Changed.{Change}
use Rattle.cube_model.specs.Cells.{all_cells, cells_of, is_among, is_single}
use Rattle.cube_model.specs.Tree.{IsTree}
use Rattle.cube_state.proofs.FactCells.{several-cells}
use Rattle.cube_state.proofs.RegionSpreads.{kept-elsewhere, kept-single, reweighing-within}
use Rattle.cube_state.proofs.state.State.is_kept.Goals as goal

pub holds_any-requires-clause-cells : goal.holds_any-requires-clause-cells
holds_any-requires-clause-cells g c =
    subst (λ (cs : List Change). All (λ change. change.0 < length (all_cells c.self.inside.space)) cs) (sym c.as_slice.ensures.items) (reweighing-within g.P.WeightPolicy.weigh _ _ c.self.view_is c.self.invariant.state c.args.moves.now c.requires.moves)

pub returns-then-is_one_cell-clause-kept : goal.returns-then-is_one_cell-clause-kept
returns-then-is_one_cell-clause-kept g c = λ single.
    kept-single g.P.WeightPolicy.weigh _ _ c.self.view_is c.self.invariant.state c.args.moves.now c.requires.moves c.args.r (ap (λ s. is_single (cells_of s.dims c.args.r)) c.self.view_is ∙ sym c.is_one_cell.ensures ∙ c.if-is_one_cell.true)

pub returns-then-edited-clause-kept : goal.returns-then-edited-clause-kept
returns-then-edited-clause-kept g c = λ none.
    kept-elsewhere g.P.WeightPolicy.weigh _ _ c.self.view_is c.self.invariant.state c.args.moves.now c.requires.moves c.args.r
    (sym (c.holds_any.ensures ∙ ap (list_any (λ (change : Change). is_among (cells_of c.self.inside.space c.args.r) change.0)) c.as_slice.ensures.items) ∙ grind (arith, none))

pub returns-then-edited-clause-several : goal.returns-then-edited-clause-several
returns-then-edited-clause-several g c = λ none.
    several-cells c.args.self.now.dims (subst (λ s. All IsTree s.dims) c.self.view_is c.self.invariant.state.trees) c.args.r c.requires.region (sym c.is_one_cell.ensures ∙ c.if-is_one_cell.false)

pub returns-else-edited-clause-several : goal.returns-else-edited-clause-several
returns-else-edited-clause-several g c = λ none.
    several-cells c.args.self.now.dims (subst (λ s. All IsTree s.dims) c.self.view_is c.self.invariant.state.trees) c.args.r c.requires.region (sym c.is_one_cell.ensures ∙ c.if-is_one_cell.false)
