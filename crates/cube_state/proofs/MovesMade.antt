-- What an edit that is not refused moves.
use Rattle.std.proofs.Common.{◌≡◌, ℕ, List, ap, sym, ◌∙◌, subst}
use Rattle.std.specs.Prelude.{All, None}
use Rattle.cube_model.specs.declared.edit.Edit.{Edit}
use Rattle.cube_model.specs.declared.edit.Fact.{Fact}
use Rattle.cube_model.specs.declared.statistic.CellStat.{CellStat}
use Rattle.cube_model.specs.Facts.{after}
use Rattle.cube_model.specs.Tree.{Dimension}
use Rattle.alloc_rows.specs.Changed.{Change}
use Rattle.cell_weight.specs.Stats.{IsStat}
use Rattle.fact_groups.specs.Changes.{cell_of}
use Rattle.fact_groups.specs.Edits.{given, taken}
use Rattle.fact_records.specs.Judge.{fact_refusal}
use Rattle.fact_records.specs.Shape.{IsShape, ShapeValue, policy_over}
use Rattle.fact_records.specs.Valid.{AreValid, IsEditOver}
use Rattle.cube_state.specs.declared.edit_moves.Moves.{Moves}
use Rattle.cube_state.specs.Moves.{AreMoves, region_code}
use Rattle.cube_state.specs.State.{StateValue, policy_in}
use Rattle.touched_cells.specs.Touched.{reweighing, touched}
use Rattle.cube_state.proofs.Accepting.{AreValid-after, allowed}
use Rattle.cube_state.proofs.Below.{touched-possible}
use Rattle.touched_cells.proofs.Touching.{IsStat-valid}

-- the statistics of the cells that it touches are such as facts can have, before it and after
module _ (weigh : CellStat → ℕ) (shape : ShapeValue) (dims : List Dimension) (edit : Edit) (facts : List Fact) (is_shape : IsShape shape) (valid : AreValid shape dims facts)
    (over : IsEditOver dims edit) (accepted : fact_refusal shape dims edit facts ≡ None) (changes : List Change) (are : changes ≡ touched (policy_over weigh shape) dims edit facts) where
  both : All (λ change. IsStat change.1) (touched (policy_over weigh shape) dims edit facts) × All (λ change. IsStat change.2) (touched (policy_over weigh shape) dims edit facts)
  both =
      touched-possible (policy_over weigh shape) dims edit facts (IsStat-valid weigh shape dims facts is_shape valid)
      (IsStat-valid weigh shape dims (after edit facts) is_shape (AreValid-after shape dims edit facts over (allowed shape dims edit facts accepted) valid))

  pub possible-before : All (λ change. IsStat change.1) changes
  possible-before = subst (λ (cs : List Change). All (λ change. IsStat change.1) cs) (sym are) both.0

  pub possible-after : All (λ change. IsStat change.2) changes
  possible-after = subst (λ (cs : List Change). All (λ change. IsStat change.2) cs) (sym are) both.1

-- the moves of an edit, as a state is seen
module _ {P : Type 0} (weigh : P → CellStat → ℕ) (state seen : StateValue P) (same : seen ≡ state) where
  pub moves-made : (edit : Edit) (moves : Moves) → IsEditOver state.dims edit → fact_refusal state.shape state.dims edit state.facts ≡ None
      → moves.edit ≡ edit → moves.taken ≡ taken edit seen.facts → moves.given ≡ given edit → moves.taken_code ≡ region_code state.dims moves.taken → moves.given_code ≡ region_code state.dims moves.given → moves.taken_cell ≡ cell_of state.dims moves.taken → moves.given_cell ≡ cell_of state.dims moves.given → moves.touched ≡ touched (policy_in weigh state) state.dims edit state.facts
      → moves.reweighing ≡ reweighing (weigh seen.policy) moves.touched → AreMoves (policy_in weigh state) state.shape state.dims state.facts moves
  moves-made edit moves over accepted is takes gives taken_at given_at taken_in given_in touches reweighs = record {
    over = subst (IsEditOver state.dims) (sym is) over;
    accepted = ap (λ e. fact_refusal state.shape state.dims e state.facts) is ∙ accepted;
    takes = takes ∙ ap (λ (s : StateValue P). taken edit s.facts) same ∙ ap (λ e. taken e state.facts) (sym is);
    gives = gives ∙ ap given (sym is);
    taken_at = taken_at;
    given_at = given_at;
    taken_in = taken_in;
    given_in = given_in;
    touches = touches ∙ ap (λ e. touched (policy_in weigh state) state.dims e state.facts) (sym is);
    reweighs =
        reweighs ∙ ap (λ (s : StateValue P). reweighing (weigh s.policy) moves.touched) same
        ∙ ap (reweighing (weigh state.policy)) (touches ∙ ap (λ e. touched (policy_in weigh state) state.dims e state.facts) (sym is));
  }
