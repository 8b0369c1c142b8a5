-- What an answer over the facts of a cube is.
use Rattle.std.proofs.Common.{◌≡◌, ℕ, ◌+◌, ◌*◌, ◌≤◌, List, sym, subst, ap, ◌∙◌, Ok, Err, Result}
use Rattle.std.specs.Prelude.{All, IfOk, None}
use Rattle.std.proofs.lemmas.List.Elements.{All-map}
use Rattle.cube_model.specs.declared.edit.Fact.{Fact}
use Rattle.cube_model.specs.declared.statistic.CellStat.{CellStat}
use Rattle.cube_model.specs.declared.term.Term.{Term}
use Rattle.cube_model.specs.Allocation.{ExtendedFact, allocation}
use Rattle.cube_model.specs.Answer.{answer}
use Rattle.cube_model.specs.Limits.{MAX_VALUE}
use Rattle.cell_weight.specs.Stats.{IsStat}
use Rattle.exact_fraction.specs.Moderate.{IsModerate}
use Rattle.fact_records.specs.Accepted.{cols_refusal}
use Rattle.fact_records.specs.Outcomes.{AllAddUp}
use Rattle.cube_state.specs.State.{StateValue, terms_in}
use Rattle.fact_records.specs.Shape.{width_of_all}
use Rattle.fact_records.specs.Valid.{AreValid}
use Rattle.group_sum.specs.Terms.{TermList}
use Rattle.region_algebra.specs.Space.{IsRegion}
use Rattle.schema_text.specs.Schema.{IsSchema, SchemaValue, schema_policy, shape_of}
use Rattle.world_law.specs.Additive.{AddUpOverChildren}
use Rattle.world_law.proofs.Additive.{add_up_over_children}
use Rattle.world_law.proofs.Shares.{shared-extended}
use Rattle.cube_core.specs.Cube.{AreFactsOf, CubeValue, IsBounded, IsStateOf, cube_answer, cube_rows}
use Rattle.cube_core.specs.Expected.{AreExpected}
use Rattle.cube_core.proofs.Distributed.{answer_adds_up}
use Rattle.cube_core.proofs.Expecting.{are_expected}
use Rattle.cube_core.proofs.Moderation.{answer-bounded, answer-moderate, few-rows, small-rows}
use Rattle.cube_core.proofs.Rows.{extended-among}
use Rattle.cube_core.proofs.Stating.{cube_of, terms-same, valid-same}

-- terms are those of an answer over a cube's facts
pub record AreTold {P : Type 0} (weigh : P → CellStat → ℕ) (cube : CubeValue P) (region : List ℕ) (terms : List Term) : Type 0 where
  pub moderate : IsModerate terms
  pub distributions : AllAddUp cube.schema.measures terms
  pub bounded : All IsBounded terms
  pub expectations : AreExpected (width_of_all cube.schema.measures) cube.schema.dims region (cube_rows weigh cube) terms
  pub children : AddUpOverChildren (width_of_all cube.schema.measures) cube.schema.dims region (cube_rows weigh cube) terms

module _ {P : Type 0} (weigh : P → CellStat → ℕ) (cube : CubeValue P) (bound : (s : CellStat) → IsStat s → weigh cube.policy s ≤ 1 + s.count * MAX_VALUE)
    (is : IsSchema cube.schema) (valid : AreFactsOf cube.schema cube.facts) (region : List ℕ) (named : IsRegion cube.schema.dims region) where
  abbrev rows : List ExtendedFact
  rows = cube_rows weigh cube

  accepted : All (λ e. cols_refusal (shape_of cube.schema) e.values ≡ None) rows
  accepted =
      rw (extended-among (schema_policy (weigh cube.policy) cube.schema) cube.schema.dims cube.facts)
      (All-map (λ (e : ExtendedFact). cols_refusal (shape_of cube.schema) e.values ≡ None) (λ (f : Fact). record { id = f.id; values = f.cols; allocation = allocation (schema_policy (weigh cube.policy) cube.schema) cube.schema.dims cube.facts f }) cube.facts
      (λ k d lt. (valid.each k d lt).accepted.values))

  pub told : AreTold weigh cube region (answer (width_of_all cube.schema.measures) cube.schema.dims rows region)
  told =
      let small = small-rows (weigh cube.policy) bound (shape_of cube.schema) cube.schema.dims cube.facts is.shape is.trees valid in
      let few = few-rows (weigh cube.policy) bound (shape_of cube.schema) cube.schema.dims cube.facts is.shape is.trees valid in
      let columns = width_of_all cube.schema.measures in
      record {
        moderate = answer-moderate columns cube.schema.dims rows small few region;
        distributions = answer_adds_up (shape_of cube.schema) cube.schema.dims rows region is.shape.measures accepted;
        bounded = answer-bounded columns cube.schema.dims rows small few region;
        expectations = are_expected columns cube.schema.dims region rows (shared-extended (schema_policy (weigh cube.policy) cube.schema) cube.schema.dims cube.facts is.trees (λ k d lt. (valid.each k d lt).accepted.placed.region));
        children = add_up_over_children columns cube.schema.dims region rows is.trees named;
      }

-- so what holds of such terms holds of the terms that the state of a cube answers
pub answered : {P E : Type 0} (weigh : P → CellStat → ℕ) (schema : SchemaValue) (state : StateValue P) (of : IsStateOf schema state) (cube : CubeValue P) → cube_of schema state ≡ cube
    → ((s : CellStat) → IsStat s → weigh state.policy s ≤ 1 + s.count * MAX_VALUE) → IsSchema schema → AreValid state.shape state.dims state.facts → (region : List ℕ) → IsRegion cube.schema.dims region
    → (result : Result TermList E) → IfOk result (λ list. list ≡ terms_in weigh state region) → (Q : TermList → Type 0) → ((list : TermList) → AreTold weigh cube region list.terms → Q list) → IfOk result Q
answered weigh schema state of cube same bound is valid region named (Err e) terms Q holds = tt
answered weigh schema state of cube same bound is valid region named (Ok list) terms Q holds =
    let here = cube_of schema state in
    let inside : IsRegion schema.dims region = subst (λ v. IsRegion v.schema.dims region) (sym same) named in
    let all = told weigh here bound is (valid-same weigh schema state of valid) region inside in
    let is_answer : list.terms ≡ cube_answer weigh here region = ap (λ (l : TermList). l.terms) (terms ∙ terms-same weigh schema state of region) in
    holds list (subst (λ v. AreTold weigh v region list.terms) same (subst (AreTold weigh here region) (sym is_answer) all))
