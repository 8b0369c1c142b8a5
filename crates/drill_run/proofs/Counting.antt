-- What an edit counts.
use Rattle.std.proofs.Common.{◌≡◌, ℕ, ◌+◌, ◌≤◌, Bool, not, subst, List, [], ◌∷◌, length, refl, sym, arith, Option, Some, None}
use Rattle.std.specs.Prelude.{filter}
use Rattle.std.specs.Option.{option_map_or}
use Rattle.std.proofs.lemmas.List.{length-map}
use Rattle.cube_base.specs.declared.code.Code.{Code}
use Rattle.cube_model.specs.Allocation.{Policy}
use Rattle.cube_model.specs.Difference.{lies_as_before, refreshed}
use Rattle.cube_model.specs.Tree.{Dimension}
use Rattle.cube_model.specs.declared.edit.Edit.{Edit}
use Rattle.cube_model.specs.declared.edit.Fact.{Fact}
use Rattle.cube_model.specs.declared.statistic.CellStat.{CellStat}
use Rattle.cube_model.specs.Facts.{after}
use Rattle.fact_records.specs.Judge.{judge}
use Rattle.cube_core.specs.Cube.{CubeValue, cube_judgement, cube_refreshed, edited}
use Rattle.schema_text.specs.Schema.{SchemaValue, schema_policy, shape_of, weigh_of}
use Rattle.drill_run.specs.Doing.{Tally, cube_after, edit_once, size_refreshed, with_refusal}

filter-le : {X : Type 0} (p : X → Bool) (xs : List X) → length (filter p xs) ≤ length xs
filter-le p [] = omega arith
filter-le p (x ∷ xs) = grind (arith, filter-le p xs)

-- an edit refreshes no more facts than there are
pub refreshed-le : (policy : Policy) (dims : List Dimension) (facts later : List Fact) → length (refreshed policy dims facts later) ≤ length later
unfolding refreshed
refreshed-le policy dims facts later =
    let p : Fact → Bool = λ f. not (lies_as_before policy dims facts later f) in
    omega (arith, length-map (filter p later) (λ f. f.id), filter-le p later)

-- a tally where these are the facts after an edit that refreshed so many, or was refused
abbrev pub counted : List Fact → Option ℕ → Tally → Tally
counted later None tally = record tally { facts = later; refused = tally.refused + 1 }
counted later (Some size) tally = record tally { facts = later; refreshed = tally.refreshed + size }

module _ {P : Type 0} (weigh : P → CellStat → ℕ) (cube : CubeValue P) (edit : Edit) (refreshes refuses : ℕ) where
  by_judge : (refusal : Option Code) (size : ℕ)
      → option_map_or (λ refusal. with_refusal (record { facts = cube.facts; refreshed = refreshes; refused = refuses })) refusal (record { facts = after edit cube.facts; refreshed = refreshes + size; refused = refuses })
      ≡ counted (option_map_or (λ refusal. cube) refusal (edited edit cube)).facts (option_map_or (λ refusal. None) refusal (Some size)) (record { facts = cube.facts; refreshed = refreshes; refused = refuses })
  by_judge None size = refl
  by_judge (Some refusal) size = refl

  own : weigh cube.policy ≡ weigh_of cube.schema.policy
      → edit_once cube.schema edit (record { facts = cube.facts; refreshed = refreshes; refused = refuses })
      ≡ counted (cube_after weigh cube edit).facts (size_refreshed weigh cube edit) (record { facts = cube.facts; refreshed = refreshes; refused = refuses })
  own weighs =
      subst (λ w. option_map_or (λ refusal. with_refusal (record { facts = cube.facts; refreshed = refreshes; refused = refuses })) (judge (schema_policy w cube.schema) (shape_of cube.schema) cube.schema.dims edit cube.facts)
      (record { facts = after edit cube.facts; refreshed = refreshes + length (refreshed (schema_policy w cube.schema) cube.schema.dims cube.facts (after edit cube.facts)); refused = refuses })
      ≡ counted (cube_after weigh cube edit).facts (size_refreshed weigh cube edit) (record { facts = cube.facts; refreshed = refreshes; refused = refuses }))
      weighs (by_judge (cube_judgement weigh cube edit) (length (cube_refreshed weigh cube edit)))

  -- the facts and both counts after an edit of a cube are those of the tally
  pub edit-counted : (schema : SchemaValue) (now : CubeValue P) (size : Option ℕ) → cube.schema ≡ schema → weigh cube.policy ≡ weigh_of schema.policy → size ≡ size_refreshed weigh cube edit → now ≡ cube_after weigh cube edit
      → counted now.facts size (record { facts = cube.facts; refreshed = refreshes; refused = refuses }) ≡ edit_once schema edit (record { facts = cube.facts; refreshed = refreshes; refused = refuses })
  edit-counted schema now size is weighs is_size is_now =
      let here = subst (λ s. weigh cube.policy ≡ weigh_of s.policy → edit_once s edit (record { facts = cube.facts; refreshed = refreshes; refused = refuses })
      ≡ counted (cube_after weigh cube edit).facts (size_refreshed weigh cube edit) (record { facts = cube.facts; refreshed = refreshes; refused = refuses })) is own weighs in
      rw (is_size, is_now) (sym here)
