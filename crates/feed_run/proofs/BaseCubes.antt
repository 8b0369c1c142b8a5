-- The cube of a base: all facts are accepted, and what they commit is what a store is begun by.
use Rattle.std.proofs.Common.{◌≡◌, ℕ, ◌+◌, ◌<◌, ◌≤◌, Bool, true, false, List, [], ◌∷◌, map, get_or, Some, None, Err, refl, sym, ap, ◌∙◌, subst, arith}
use Rattle.std.specs.Prelude.{All, AllPairs, filter, not, ◌==◌}
use Rattle.std.proofs.lemmas.Bool.Decides.{nat_tests}
use Rattle.std.proofs.lemmas.List.Elements.{All-head, All-tail}
use Rattle.std.proofs.lemmas.List.Folds.{list_any_at}
use Rattle.cube_core.specs.Cube.{AreFactsOf, CubeValue, cube_rows}
use Rattle.cube_core.specs.Import.{IsImportFaultOf, CountsImportFault, import_difference_in, imported, refused_in_cube}
use Rattle.cube_core.specs.declared.cube.Receipt.{Receipt}
use Rattle.cube_core.specs.declared.fault.ImportFault.{ImportFault}
use Rattle.cube_core.specs.declared.fault.ImportFault.TheVariants as import_fault
use Rattle.cube_core.proofs.Respreading.{new-anew, put-anew}
use Rattle.cube_model.specs.declared.edit.Fact.{Fact}
use Rattle.cube_model.specs.Accepted.{has_many_rows}
use Rattle.cube_model.specs.Allocation.{ExtendedFact, Policy, allocation, extended, row_count}
use Rattle.cube_model.specs.Cells.{is_among}
use Rattle.cube_model.specs.Difference.{lies_as_before, refreshed}
use Rattle.cube_model.specs.Facts.{has_id}
use Rattle.cube_model.specs.Limits.{MAX_ROWS}
use Rattle.cube_model.specs.Tree.{Dimension}
use Rattle.dim_tree.proofs.Renaming.{list_any-map}
use Rattle.edit_plan.specs.Plan.{kept_fact, kept_rows}
use Rattle.edit_plan.specs.Whole.{difference_with}
use Rattle.fact_keeper.specs.declared.content.Batch.{Batch}
use Rattle.fact_records.specs.New.{AreNew}
use Rattle.fact_records.specs.Shape.{ShapeValue}
use Rattle.fact_records.specs.declared.fact_seq.FactSeq.{FactSeq}
use Rattle.fact_records.specs.RefusedRecord.{refused_among}
use Rattle.schema_text.specs.Schema.{SchemaValue, policy_of, shape_of, weigh_of}
use Rattle.schema_text.specs.declared.word.PolicyWord.{PolicyWord}
use Rattle.feed_run.specs.BeginTurn.{IsBaseCube, LacksCube}
use Rattle.feed_run.specs.Following.{base_batch}

-- all items of a list that each pass a test
filter-all : {X : Type 0} (p : X → Bool) (xs : List X) → All (λ x. p x ≡ true) xs → filter p xs ≡ xs
filter-all p [] each = refl
filter-all p (x ∷ xs) each =
    let here : p x ≡ true = All-head (λ x. p x ≡ true) x xs each in
    rw here (ap (λ ys. x ∷ ys) (filter-all p xs (All-tail (λ x. p x ≡ true) x xs each)))

-- what facts commit that are put where none are
module _ (policy : Policy) (dims : List Dimension) (facts : List Fact) where
  has-each : All (λ f. has_id f.id facts ≡ true) facts
  has-each k d within = let same : ((get_or facts k d).id == (get_or facts k d).id) ≡ true = grind (arith, nat_tests) in list_any_at (λ f. f.id == (get_or facts k d).id) facts k d within same

  refreshed-all : refreshed policy dims [] facts ≡ map (λ f. f.id) facts
  unfolding refreshed
  refreshed-all = ap (map (λ (f : Fact). f.id)) (filter-all (λ f. not (lies_as_before policy dims [] facts f)) facts (λ k d within. refl))

  abbrev spread : Fact → ExtendedFact
  spread f = record { id = f.id; values = f.cols; allocation = allocation policy dims facts f }

  rows-some : (some : List Fact) → All (λ f. has_id f.id facts ≡ true) some → filter (λ e. is_among (map (λ f. f.id) facts) e.id) (map spread some) ≡ map spread some
  rows-some [] each = refl
  rows-some (f ∷ some) each =
      let here : is_among (map (λ f. f.id) facts) f.id ≡ true = list_any-map (λ c. c == f.id) (λ (g : Fact). g.id) facts ∙ All-head (λ f. has_id f.id facts ≡ true) f some each in
      rw here (ap (λ es. spread f ∷ es) (rows-some some (All-tail (λ f. has_id f.id facts ≡ true) f some each)))

  rows-all : filter (λ e. is_among (map (λ f. f.id) facts) e.id) (extended policy dims facts) ≡ extended policy dims facts
  unfolding extended
  rows-all = rows-some facts has-each

  -- of these later facts, and of those of these ids
  abbrev committed : List Fact → List ℕ → Batch
  committed later ids = record {
    schema = None;
    gone = [];
    facts = map kept_fact (filter (λ f. has_id f.id facts) later);
    rows = map kept_rows (filter (λ e. is_among ids e.id) (extended policy dims later));
  }

  difference-anew : AllPairs (λ f g. f.id < g.id) facts → difference_with policy dims facts [] ≡ record { schema = None; gone = []; facts = map kept_fact facts; rows = map kept_rows (extended policy dims facts) }
  difference-anew up =
      ap (λ later. committed later (refreshed policy dims [] later)) (put-anew facts up)
      ∙ ap (committed facts) refreshed-all
      ∙ rw (filter-all (λ f. has_id f.id facts) facts has-each, rows-all) refl

-- facts that are new are not refused
none-refused : (shape : ShapeValue) (dims : List Dimension) (index : ℕ) (facts new : List Fact) → AreNew shape dims facts new → refused_among shape dims index facts new ≡ None
none-refused shape dims index facts [] are = refl
none-refused shape dims index facts (fact ∷ new) are = rw are.0.accepted (none-refused shape dims (index + 1) _ new are.1)

-- the facts of a base, and a cube of its schema without facts
module _ (schema : SchemaValue) (facts : List Fact) (valid : AreFactsOf schema facts) where
  abbrev bare : CubeValue PolicyWord
  bare = record { policy = schema.policy; schema = schema; facts = [] }

  base-cube : (cube : CubeValue PolicyWord) → cube.policy ≡ schema.policy → cube.schema ≡ schema → cube.facts ≡ [] → cube ≡ bare
  base-cube cube policy_is schema_is none = rw (policy_is, schema_is, none) refl

  bare-accepts : refused_in_cube bare (record { facts = facts; bad = None }) ≡ None
  bare-accepts = rw (none-refused (shape_of schema) schema.dims 1 [] facts (new-anew facts valid.ascending (shape_of schema) schema.dims valid.few valid.each)) refl

  bare-rows : cube_rows weigh_of (imported facts bare) ≡ extended (policy_of schema) schema.dims facts
  bare-rows = ap (extended (policy_of schema) schema.dims) (put-anew facts valid.ascending)

  bare-difference : import_difference_in weigh_of bare facts ≡ record (base_batch schema facts) { schema = None }
  bare-difference = difference-anew (policy_of schema) schema.dims facts valid.ascending

  bare-many : (would : ℕ) → would ≡ row_count (cube_rows weigh_of (imported facts bare)) → MAX_ROWS < would → has_many_rows (extended (policy_of schema) schema.dims facts) ≡ true
  bare-many would is many = let rows : row_count (cube_rows weigh_of (imported facts bare)) ≡ row_count (extended (policy_of schema) schema.dims facts) = ap row_count bare-rows in grind (arith, nat_tests, rows)

  bare-few : row_count (cube_rows weigh_of (imported facts bare)) ≤ MAX_ROWS → has_many_rows (extended (policy_of schema) schema.dims facts) ≡ false
  bare-few few = let rows : row_count (cube_rows weigh_of (imported facts bare)) ≡ row_count (extended (policy_of schema) schema.dims facts) = ap row_count bare-rows in grind (arith, nat_tests, rows)

  -- why they are not put
  bare-lacks : (before after : ℕ) (fault : ImportFault) → IsImportFaultOf weigh_of bare (record { facts = facts; bad = None }) fault → CountsImportFault {R = Receipt} before after (Err fault) → LacksCube schema facts before after fault
  bare-lacks before after (import_fault.BadRecord bad) told counts = absurd (some_none (sym told ∙ bare-accepts))
    where
      some_none : Some bad ≡ None → ⊥
      some_none is = cc
  bare-lacks before after (import_fault.Rows would) told counts = bare-many would told.1.0 told.1.1
  bare-lacks before after import_fault.KeepFault told counts = counts
  bare-lacks before after import_fault.Memory told counts = tt

  -- and what they are once they are
  bare-made : row_count (cube_rows weigh_of (imported facts bare)) ≤ MAX_ROWS → IsBaseCube schema facts (imported facts bare)
  bare-made few = record {
    few = bare-few few;
    is_cube = record { policy = refl; schema = refl; facts = put-anew facts valid.ascending };
  }

  -- the same of a cube that is told by its parts
  module _ (cube : CubeValue PolicyWord) (policy_is : cube.policy ≡ schema.policy) (schema_is : cube.schema ≡ schema) (none : cube.facts ≡ []) (seq : FactSeq) (facts_are : seq.facts ≡ facts) (whole : seq.bad ≡ None) where
    cube_is : cube ≡ bare
    cube_is = base-cube cube policy_is schema_is none

    seq_is : seq ≡ record { facts = facts; bad = None }
    seq_is = rw (facts_are, whole) refl

    pub cube-lacks : (before after : ℕ) (fault : ImportFault) → IsImportFaultOf weigh_of cube seq fault → CountsImportFault {R = Receipt} before after (Err fault) → LacksCube schema facts before after fault
    cube-lacks before after fault told counts = bare-lacks before after fault (subst (λ s. IsImportFaultOf weigh_of bare s fault) seq_is (subst (λ c. IsImportFaultOf weigh_of c seq fault) cube_is told)) counts

    pub cube-made : (made : CubeValue PolicyWord) → made ≡ imported seq.facts cube → row_count (cube_rows weigh_of (imported seq.facts cube)) ≤ MAX_ROWS → IsBaseCube schema facts made
    cube-made made is few =
        let same : imported seq.facts cube ≡ imported facts bare = ap (λ fs. imported fs cube) facts_are ∙ ap (imported facts) cube_is in
        subst (IsBaseCube schema facts) (sym (is ∙ same)) (bare-made (subst (λ c. row_count (cube_rows weigh_of c) ≤ MAX_ROWS) same few))

    pub cube-difference : import_difference_in weigh_of cube seq.facts ≡ record (base_batch schema facts) { schema = None }
    cube-difference = ap (λ fs. import_difference_in weigh_of cube fs) facts_are ∙ ap (λ c. import_difference_in weigh_of c facts) cube_is ∙ bare-difference
