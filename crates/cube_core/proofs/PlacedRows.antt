-- The facts of a cube, placed one after another.
use Rattle.std.proofs.Common.{◌≡◌, ℕ, ◌+◌, ◌≤◌, List, [], ◌∷◌, ◌++◌, get_or, length, map, ap, sym, ◌∙◌, subst, arith, Some, None}
use Rattle.std.specs.Prelude.{All, nat_abs}
use Rattle.std.specs.Option.{option_map}
use Rattle.std.proofs.lemmas.List.{append-nil, append_assoc, length-map}
use Rattle.std.proofs.lemmas.List.Elements.{All-append, All-cons, All-head, All-map, All-nil, All-tail}
use Rattle.cube_model.specs.declared.edit.Fact.{Fact}
use Rattle.cube_model.specs.Allocation.{Allocation, ExtendedFact, Policy, allocation, allocation_of, extended}
use Rattle.cube_model.specs.Cells.{AreRows}
use Rattle.cube_model.specs.Limits.{MAX_CELLS, MAX_FACTS, MAX_VALUE}
use Rattle.cube_model.specs.Tree.{Dimension}
use Rattle.alloc_rows.specs.Alloc.{IsAllocation}
use Rattle.cube_state.proofs.Looking.{allocation_of-found, find-itself}
use Rattle.fact_records.specs.FactList.{IsAscending}
use Rattle.fact_records.specs.Shape.{width_of_all}
use Rattle.schema_text.specs.Schema.{IsSchema, SchemaValue, shape_of}
use Rattle.world_law.specs.declared.placed.Placed.{Placed}
use Rattle.world_law.specs.Placed.{IsPlacedFact, placed_of}
use Rattle.cube_core.specs.Cube.{AreFactsOf}
use Rattle.cube_core.proofs.Moderation.{small_values}
use Rattle.cube_core.proofs.Rows.{AreRows-allocation, allocation-le, extended-among, few_cells, rows_among}

-- a placed fact's rows are an allocation
abbrev pub IsAllocated : Placed → Type 0
IsAllocated p = IsAllocation (record { den = p.den; rows = p.rows })

-- the allocation of a fact is that of its id
abbrev pub IsFound : Policy → List Dimension → List Fact → Fact → Type 0
IsFound policy dims facts f = allocation_of f.id (extended policy dims facts) ≡ Some (allocation policy dims facts f)

-- Some facts are placed, and the others are left.
pub record ArePlaced (policy : Policy) (dims : List Dimension) (facts : List Fact) (placed : List Placed) (left : List Fact) : Type 0 where
  pub all : placed ++ map placed_of (rows_among policy dims facts left) ≡ map placed_of (extended policy dims facts)
  pub each : All IsAllocated placed
  pub there : All (IsFound policy dims facts) left

-- at first all are left
pub placed-none : (policy : Policy) (dims : List Dimension) (facts walk : List Fact) (placed : List Placed) → IsAscending facts → placed ≡ [] → walk ≡ facts → ArePlaced policy dims facts placed walk
placed-none policy dims facts walk placed up empty all =
    rw (empty, all) (record {
      all = ap (map placed_of) (sym (extended-among policy dims facts));
      each = All-nil IsAllocated;
      there = λ k d lt. allocation_of-found policy dims facts (get_or facts k d).id ∙ ap (option_map (allocation policy dims facts)) (find-itself facts up k d lt);
    })

module _ {policy : Policy} {dims : List Dimension} {facts : List Fact} where
  -- a fact is next
  module _ {old : List Placed} {ahead left : List Fact} {f : Fact} (before : ArePlaced policy dims facts old ahead) (cut : ahead ≡ f ∷ left) where
    turn : ArePlaced policy dims facts old (f ∷ left)
    turn = subst (ArePlaced policy dims facts old) cut before

    there : IsFound policy dims facts f
    there = All-head (IsFound policy dims facts) f left turn.there

    -- it has an allocation
    pub placed-there : None ≡ allocation_of f.id (extended policy dims facts) → ⊥
    placed-there none = let found = there in cc

    module _ {a : Allocation} {p : Placed} (found : Some a ≡ allocation_of f.id (extended policy dims facts)) (made : p ≡ record { den = a.den; rows = a.rows; cols = f.cols }) (allocated : IsAllocated p) where
      is : a ≡ allocation policy dims facts f
      is = let its = there in cc

      p_is : p ≡ placed_of (record { id = f.id; values = f.cols; allocation = allocation policy dims facts f })
      p_is = made ∙ ap (λ (a : Allocation). record { den = a.den; rows = a.rows; cols = f.cols }) is

      -- and then a fact less is left
      pub placed-next : {new : List Placed} → new ≡ old ++ p ∷ [] → ArePlaced policy dims facts new left
      placed-next {new} pushed =
          let rest = map placed_of (rows_among policy dims facts left) in
          record {
            all = ap (λ l. l ++ rest) pushed ∙ append_assoc old (p ∷ []) rest ∙ ap (λ (p : Placed). old ++ p ∷ rest) p_is ∙ turn.all;
            each = rw pushed (All-append IsAllocated old (p ∷ []) turn.each (All-cons IsAllocated p [] allocated (All-nil IsAllocated)));
            there = All-tail (IsFound policy dims facts) f left turn.there;
          }

  -- at the end all are placed
  pub placed-all : {placed : List Placed} {ahead : List Fact} → ArePlaced policy dims facts placed ahead → ahead ≡ [] → placed ≡ map placed_of (extended policy dims facts)
  placed-all {placed} before none =
      let end = subst (ArePlaced policy dims facts placed) none before in
      sym (append-nil placed) ∙ end.all

-- A cube's facts are such that their worlds can be listed.
module _ (policy : Policy) (schema : SchemaValue) (facts : List Fact) (valid : AreFactsOf schema facts) where
  abbrev row : Fact → ExtendedFact
  row f = record { id = f.id; values = f.cols; allocation = allocation policy schema.dims facts f }

  placed-among : map placed_of (extended policy schema.dims facts) ≡ map placed_of (map row facts)
  placed-among = ap (map placed_of) (extended-among policy schema.dims facts)

  -- they are not too many
  pub length-placed : length (map placed_of (extended policy schema.dims facts)) ≤ MAX_FACTS
  length-placed = omega (arith, valid.few, ap length placed-among, length-map (map row facts) placed_of, length-map facts row)

  -- no value is large, and the rows are cells, not too many
  record IsFitting (columns : ℕ) (p : Placed) : Type 0 where
    cells : AreRows schema.dims p.rows
    few : length p.rows ≤ MAX_CELLS
    width : length p.cols + 1 ≡ columns
    small : All (λ value. nat_abs value ≤ MAX_VALUE) p.cols

  module _ (is_schema : IsSchema schema) (columns : ℕ) (counted : columns ≡ 1 + width_of_all schema.measures) where
    fitting : All (λ f. IsFitting columns (placed_of (row f))) facts
    fitting = λ k d lt.
        let f = get_or facts k d in
        let is = valid.each k d lt in
        let values = small_values (shape_of schema) f.cols is_schema.shape is.accepted.values in
        record {
          cells = AreRows-allocation policy schema.dims facts f;
          few = omega (arith, allocation-le policy schema.dims facts f, few_cells schema.dims f.region is.size);
          width = omega (arith, counted, values.count);
          small = values.small;
        }

    pub placed-fit : (placed : List Placed) → placed ≡ map placed_of (extended policy schema.dims facts) → All IsAllocated placed → All (IsPlacedFact schema.dims columns) placed
    placed-fit placed all allocated =
        let fit : All (IsFitting columns) placed = rw (all, placed-among) (All-map (IsFitting columns) placed_of (map row facts) (All-map (λ (e : ExtendedFact). IsFitting columns (placed_of e)) row facts fitting)) in
        λ k d lt. let is = fit k d lt in record { allocation = allocated k d lt; cells = is.cells; few = is.few; width = is.width; small = is.small }
