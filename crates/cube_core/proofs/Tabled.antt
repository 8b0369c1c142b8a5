-- What a table over the facts of a cube is.
use Rattle.std.proofs.Common.{◌≡◌, ℕ, ◌+◌, ◌-◌, ◌*◌, ◌≤◌, List, length, map, refl, sym, subst, ap, ◌∙◌, arith, Ok, Err, Result}
use Rattle.std.specs.Prelude.{All, IfOk, nat_lt}
use Rattle.std.proofs.lemmas.Bool.Decides.{nat_tests}
use Rattle.std.proofs.lemmas.List.Elements.{All-filter, All-map, filter_passes}
use Rattle.cube_model.specs.declared.edit.Fact.{Fact}
use Rattle.cube_model.specs.declared.statistic.CellStat.{CellStat}
use Rattle.cube_model.specs.Allocation.{Policy, extended}
use Rattle.cube_model.specs.Answer.{answer, merge_all}
use Rattle.cube_model.specs.Limits.{MAX_VALUE}
use Rattle.cube_model.specs.Tree.{Dimension, IsTree}
use Rattle.cell_weight.specs.Stats.{IsStat}
use Rattle.exact_fraction.specs.Moderate.{IsModerate}
use Rattle.fact_records.specs.Shape.{ShapeValue, width_of_all}
use Rattle.fact_records.specs.Valid.{AreValid}
use Rattle.group_sum.specs.Terms.{TermList}
use Rattle.region_algebra.specs.Space.{IsRegion}
use Rattle.schema_text.specs.Schema.{IsSchema, SchemaValue, shape_of}
use Rattle.view_store.specs.Cuts.{entries_of}
use Rattle.cube_state.specs.State.{StateValue, terms_in}
use Rattle.cube_state.specs.Tables.{table_at, table_regions}
use Rattle.cube_state.proofs.TableLaw.{tables-merge}
use Rattle.cube_core.specs.Cube.{AreFactsOf, CubeValue, IsStateOf, cube_answer, cube_rows, rows_over}
use Rattle.cube_core.specs.View.{cube_terms, table_over}
use Rattle.cube_core.proofs.Moderation.{answer-moderate, few-rows, small-rows}
use Rattle.cube_core.proofs.Stating.{all-same, cube_of, terms-same, valid-same}

-- each entry has a term, and what terms are in every region
entries-each : (terms_of : List ℕ → TermList) (Q : TermList → Type 0) → ((region : List ℕ) → Q (terms_of region)) → (regions : List (List ℕ)) → All (λ entry. Q entry.1) (entries_of terms_of regions)
entries-each terms_of Q each regions =
    All-filter (λ (entry : List ℕ × TermList). nat_lt 0 (length entry.1.terms)) (λ entry. Q entry.1) (map (λ (region : List ℕ). (region, terms_of region)) regions)
    (All-map (λ (entry : List ℕ × TermList). Q entry.1) (λ (region : List ℕ). (region, terms_of region)) regions (λ k d within. each _))

entries-some : (terms_of : List ℕ → TermList) (regions : List (List ℕ)) → All (λ entry. 1 ≤ length entry.1.terms) (entries_of terms_of regions)
entries-some terms_of regions k d within =
    let passes = filter_passes (λ (entry : List ℕ × TermList). nat_lt 0 (length entry.1.terms)) (map (λ (region : List ℕ). (region, terms_of region)) regions) k d within in
    grind (arith, nat_tests, passes)

-- The terms of a table's regions merge to those of the asked region, whatever the facts.
pub tables-merged : (weigh : CellStat → ℕ) (schema : SchemaValue) (facts : List Fact) (depths region : List ℕ) → All IsTree schema.dims → length depths ≡ length schema.dims → IsRegion schema.dims region
    → merge_all (width_of_all schema.measures) (map (λ entry. entry.1.terms) (table_over weigh schema facts depths region)) ≡ answer (width_of_all schema.measures) schema.dims (rows_over weigh schema facts) region
tables-merged weigh schema facts depths region trees deep named =
    let width = width_of_all schema.measures in
    let same : width ≡ width + 1 - 1 = omega arith in
    let regions : List (List ℕ) = table_regions schema.dims depths region in
    ap (λ n. merge_all width (map (λ (entry : List ℕ × TermList). entry.1.terms) (entries_of (λ (r : List ℕ). record { columns = width + 1; terms = answer n schema.dims (rows_over weigh schema facts) r }) regions))) same
    ∙ tables-merge schema.dims (rows_over weigh schema facts) width depths region trees deep named

pub record AreTabled {P : Type 0} (weigh : P → CellStat → ℕ) (cube : CubeValue P) (depths region : List ℕ) (list : List (List ℕ × TermList)) : Type 0 where
  pub entries : list ≡ table_over (weigh cube.policy) cube.schema cube.facts depths region
  pub regions : All (λ entry. IsRegion cube.schema.dims entry.0) list
  pub columns : All (λ entry. entry.1.columns ≡ width_of_all cube.schema.measures + 1) list
  pub some : All (λ entry. 1 ≤ length entry.1.terms) list
  pub moderate : All (λ entry. IsModerate entry.1.terms) list
  pub merged : merge_all (width_of_all cube.schema.measures) (map (λ entry. entry.1.terms) list) ≡ cube_answer weigh cube region

module _ {P : Type 0} (weigh : P → CellStat → ℕ) (schema : SchemaValue) (state : StateValue P) (of : IsStateOf schema state) (bound : (s : CellStat) → IsStat s → weigh state.policy s ≤ 1 + s.count * MAX_VALUE)
    (is : IsSchema schema) (valid : AreValid state.shape state.dims state.facts) (depths region : List ℕ) where
  abbrev cube : CubeValue P
  cube = cube_of schema state

  table-same : table_at weigh state depths region ≡ table_over (weigh cube.policy) cube.schema cube.facts depths region
  table-same =
      all-same weigh schema state of (λ (p : Policy) (shape : ShapeValue) (dims : List Dimension).
      entries_of (λ r. record { columns = width_of_all shape.measures + 1; terms = answer (width_of_all shape.measures) dims (extended p dims state.facts) r }) (table_regions dims depths region))

  all-moderate : (r : List ℕ) → IsModerate (cube_terms weigh cube r).terms
  all-moderate r =
      let facts : AreFactsOf schema state.facts = valid-same weigh schema state of valid in
      answer-moderate (width_of_all schema.measures) schema.dims (cube_rows weigh cube)
      (small-rows (weigh state.policy) bound (shape_of schema) schema.dims state.facts is.shape is.trees facts)
      (few-rows (weigh state.policy) bound (shape_of schema) schema.dims state.facts is.shape is.trees facts) r

  tabled : (list : List (List ℕ × TermList)) → list ≡ table_at weigh state depths region → All (λ entry. IsRegion state.dims entry.0) list
      → merge_all (width_of_all state.shape.measures) (map (λ entry. entry.1.terms) list) ≡ (terms_in weigh state region).terms → AreTabled weigh cube depths region list
  tabled list entries regions merged =
      let told : list ≡ table_over (weigh cube.policy) cube.schema cube.facts depths region = entries ∙ table-same in
      record {
        entries = told;
        regions = subst (λ dims. All (λ (entry : List ℕ × TermList). IsRegion dims entry.0) list) of.dims_are regions;
        columns =
            subst (All (λ (entry : List ℕ × TermList). entry.1.columns ≡ width_of_all schema.measures + 1)) (sym told)
            (entries-each (cube_terms weigh cube) (λ terms. terms.columns ≡ width_of_all schema.measures + 1) (λ r. refl) (table_regions schema.dims depths region));
        some = subst (All (λ (entry : List ℕ × TermList). 1 ≤ length entry.1.terms)) (sym told) (entries-some (cube_terms weigh cube) (table_regions schema.dims depths region));
        moderate =
            subst (All (λ (entry : List ℕ × TermList). IsModerate entry.1.terms)) (sym told)
            (entries-each (cube_terms weigh cube) (λ terms. IsModerate terms.terms) all-moderate (table_regions schema.dims depths region));
        merged =
            ap (λ (shape : ShapeValue). merge_all (width_of_all shape.measures) (map (λ (entry : List ℕ × TermList). entry.1.terms) list)) (sym of.shape_is)
            ∙ merged ∙ ap (λ (l : TermList). l.terms) (terms-same weigh schema state of region);
      }

  -- so what holds of such a list holds of the table that the state of a cube answers
  pub tabled-ok : {E : Type 0} (whole : CubeValue P) → cube ≡ whole → (result : Result (List (List ℕ × TermList)) E) → IfOk result (λ list. list ≡ table_at weigh state depths region)
      → IfOk result (λ list. All (λ entry. IsRegion state.dims entry.0) list)
      → IfOk result (λ list. merge_all (width_of_all state.shape.measures) (map (λ entry. entry.1.terms) list) ≡ (terms_in weigh state region).terms)
      → (Q : List (List ℕ × TermList) → Type 0) → ((list : List (List ℕ × TermList)) → AreTabled weigh whole depths region list → Q list) → IfOk result Q
  tabled-ok whole same (Err e) entries regions merged Q holds = tt
  tabled-ok whole same (Ok list) entries regions merged Q holds = holds list (subst (λ c. AreTabled weigh c depths region list) same (tabled list entries regions merged))
