-- The rows of the groups at the places of a map, which are those of the facts.
use Rattle.std.proofs.Common.{◌≡◌, ℕ, ◌+◌, ◌*◌, ◌≤◌, eqb, List, [], ◌∷◌, ◌++◌, drop, length, take, ap, sym, ◌∙◌, arith}
use Rattle.std.specs.Prelude.{All}
use Rattle.std.specs.List.{IsDistinct, sum_by}
use Rattle.std.specs.Map.{keys_of, values_of}
use Rattle.std.proofs.lemmas.List.{append-nil, map-append, take-append-drop, take_all}
use Rattle.std.proofs.lemmas.List.Elements.{filter_map-append}
use Rattle.std.proofs.lemmas.List.Sums.{sum_by-append}
use Rattle.cube_model.specs.declared.edit.Fact.{Fact}
use Rattle.cube_model.specs.Allocation.{Policy, extended, row_count}
use Rattle.cube_model.specs.Limits.{MAX_CELLS, MAX_FACTS}
use Rattle.cube_model.specs.Tree.{Dimension, IsTree}
use Rattle.staged_map.specs.Staged.{Places, held, held_of}
use Rattle.fact_groups.specs.Groups.{Group, group_rows}
use Rattle.fact_groups.proofs.Groups.{rows-grouped}
use Rattle.fact_records.specs.Shape.{ShapeValue, width_of_all}
use Rattle.fact_records.specs.Valid.{AreValid}
use Rattle.fact_indexes.specs.Anew.{AreGroupsOf}
use Rattle.fact_indexes.proofs.HeldGroups.{grouped-held, groups-held}
use Rattle.fact_indexes.proofs.ValidFacts.{few-rows, valid-regions}

-- the rows of the groups that places hold
abbrev pub rows_held : Places Group → ℕ
rows_held places = group_rows (values_of (held places))

abbrev rows_by : Group → ℕ
rows_by g = g.count * length g.spread.rows

rows-append : (first second : List (ℕ × Group)) → group_rows (values_of (first ++ second)) ≡ group_rows (values_of first) + group_rows (values_of second)
rows-append first second = ap (sum_by rows_by) (map-append (λ (e : ℕ × Group). e.1) first second) ∙ sum_by-append rows_by (values_of first) (values_of second)

-- some places hold no more rows than all
rows-take-le : (places : Places Group) (i : ℕ) → rows_held (take i places) ≤ rows_held places
rows-take-le places i =
    omega (
      arith,
      ap rows_held (take-append-drop i places),
      ap (λ (es : List (ℕ × Group)). group_rows (values_of es)) (filter_map-append held_of (take i places) (drop i places)),
      rows-append (held (take i places)) (held (drop i places)),
    )

-- a place more
module _ (places : Places Group) (i : ℕ) where
  pub rows-none : held (take (i + 1) places) ≡ held (take i places) ++ [] → rows_held (take (i + 1) places) ≡ rows_held (take i places)
  rows-none next = ap (λ (es : List (ℕ × Group)). group_rows (values_of es)) (next ∙ append-nil (held (take i places)))

  pub rows-some : (code : ℕ) (g : Group) → held (take (i + 1) places) ≡ held (take i places) ++ (code, g) ∷ [] → rows_held (take (i + 1) places) ≡ rows_held (take i places) + g.count * length g.spread.rows
  rows-some code g next =
      omega (
        arith,
        ap (λ (es : List (ℕ × Group)). group_rows (values_of es)) next,
        rows-append (held (take i places)) ((code, g) ∷ []),
      )

module _ (policy : Policy) (shape : ShapeValue) (dims : List Dimension) (facts : List Fact) (places : Places Group) (trees : All IsTree dims) (valid : AreValid shape dims facts) (kept : AreGroupsOf policy shape dims facts places)
    (distinct : IsDistinct eqb (keys_of places)) (once : IsDistinct eqb (keys_of (held places))) where
  -- all places hold the rows of the facts
  pub rows-held : rows_held places ≡ row_count (extended policy dims facts)
  rows-held =
      sym
      (rows-grouped policy (width_of_all shape.measures) dims facts (keys_of (held places)) (grouped-held policy (width_of_all shape.measures) dims facts places kept distinct once trees (valid-regions shape dims facts valid))
      ∙ ap group_rows (groups-held policy (width_of_all shape.measures) dims facts places kept distinct once))

  -- which are not so many that their number would not fit
  pub rows-fit : (i code : ℕ) (g : Group) → held (take (i + 1) places) ≡ held (take i places) ++ (code, g) ∷ [] → rows_held (take i places) + g.count * length g.spread.rows ≤ MAX_FACTS * MAX_CELLS
  rows-fit i code g next = omega (arith, rows-some places i code g next, rows-take-le places (i + 1), rows-held, few-rows policy shape dims facts valid)

  pub rows-end : (i : ℕ) → length places ≤ i → rows_held (take i places) ≡ row_count (extended policy dims facts)
  rows-end i all = ap rows_held (take_all i places all) ∙ rows-held
