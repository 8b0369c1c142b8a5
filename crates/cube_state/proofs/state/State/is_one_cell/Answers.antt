-- The cell of a fact that has the code tells, and for others the number of cells does.
use Rattle.std.proofs.Common.{refl, sym, subst, ◌∙◌}
use Rattle.std.specs.Prelude.{All}
use Rattle.cube_model.specs.Tree.{IsTree}
use Rattle.cube_state.proofs.FactCells.{single-known}
use Rattle.cube_state.proofs.GroupSeen.{given-placed, taken-placed}
use Rattle.cube_state.proofs.state.State.is_one_cell.Goals as goal

pub returns-then-is_at : goal.returns-then-is_at
returns-then-is_at g c =
    c.is_some.ensures
    ∙ single-known c.args.self.now.dims (subst (λ s. All IsTree s.dims) c.self.view_is c.self.invariant.state.trees) c.args.r c.args.moves.now.given c.args.code _ _
    (given-placed g.P.WeightPolicy.weigh _ _ c.self.view_is c.self.invariant.state c.self.invariant.state.trees c.args.moves.now c.requires.moves _ refl)
    c.requires.moves.given_at c.requires.moves.given_in (sym c.is_at.ensures ∙ c.if-is_at.true) c.requires.code

pub returns-then-is_at-2 : goal.returns-then-is_at-2
returns-then-is_at-2 g c =
    c.is_some-then-is_at-2.ensures
    ∙ single-known c.args.self.now.dims (subst (λ s. All IsTree s.dims) c.self.view_is c.self.invariant.state.trees) c.args.r c.args.moves.now.taken c.args.code _ _
    (taken-placed g.P.WeightPolicy.weigh _ _ c.self.view_is c.self.invariant.state c.self.invariant.state.trees c.args.moves.now c.requires.moves _ refl)
    c.requires.moves.taken_at c.requires.moves.taken_in (sym c.is_at-2.ensures ∙ c.if-is_at-2.true) c.requires.code
