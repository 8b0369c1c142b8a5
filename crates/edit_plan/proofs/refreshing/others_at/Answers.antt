-- A code more adds its ids but for the one, and a step for it and each id.
use Rattle.std.proofs.Common.{◌≡◌, ℕ, ◌+◌, ◌<◌, List, ◌++◌, get_or, length, take, ap, sym, ◌∙◌, arith}
use Rattle.std.proofs.lemmas.List.Sums.{sum_by_more}
use Rattle.cube_model.specs.declared.edit.Fact.{Fact}
use Rattle.cube_model.specs.Tree.{Dimension}
use Rattle.cube_state.specs.State.{ids_with}
use Rattle.edit_plan.specs.Refreshing.{id_count_at, others_at, others_with}
use Rattle.edit_plan.proofs.FlatLists.{flat-more}
use Rattle.edit_plan.proofs.refreshing.others_at.Goals as goal

module _ (dims : List Dimension) (facts : List Fact) (codes : List ℕ) (i : ℕ) (within : i < length codes) (ids : List ℕ) (own : ids ≡ ids_with dims facts (get_or codes i 0)) where
  others-next : (id : ℕ) (before now : List (ℕ × ℕ)) → before ≡ others_at dims facts id (take i codes) → now ≡ before ++ others_with id (get_or codes i 0) ids → now ≡ others_at dims facts id (take (i + 1) codes)
  others-next id before now was is =
      is
      ∙ ap (λ pairs. pairs ++ others_with id (get_or codes i 0) ids) was
      ∙ ap (λ (xs : List ℕ). others_at dims facts id (take i codes) ++ others_with id (get_or codes i 0) xs) own
      ∙ sym (flat-more (λ code. others_with id code (ids_with dims facts code)) codes i 0 within)

  steps-next : (start before ticked now : ℕ) → before ≡ start + (i + id_count_at dims facts (take i codes)) → ticked ≡ before + 1 → now ≡ ticked + length ids → now ≡ start + ((i + 1) + id_count_at dims facts (take (i + 1) codes))
  steps-next start before ticked now was tick is = omega (arith, is, tick, was, ap length own, sum_by_more (λ code. length (ids_with dims facts code)) codes i 0 within)

pub loop-code-preserved : goal.loop-code-preserved
loop-code-preserved g c = record {
  pairs = others-next _ _ c.args.codes.now c.loop-code.code-index c.loop-code-test.true _ c.imprecise_ids-ids.ensures.ids c.args.id _ _ c.loop-code.invariant.pairs c.in_ok-add_others.ensures;
  steps = steps-next _ _ c.args.codes.now c.loop-code.code-index c.loop-code-test.true _ c.imprecise_ids-ids.ensures.ids _ _ _ _ c.loop-code.invariant.steps c.imprecise_ids-ids.ensures.steps c.add.ensures;
}
