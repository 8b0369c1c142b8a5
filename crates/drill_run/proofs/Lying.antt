-- The facts that are drawn lie in the drill's space.
use Rattle.std.proofs.Common.{◌≡◌, ℕ, ◌%◌, ◌<◌, ◌≤◌, length, [], ◌∷◌, refl, sym, arith, subst}
use Rattle.std.specs.Fmt.{digits}
use Rattle.cube_model.specs.Allocation.{weigh_count}
use Rattle.cube_model.specs.declared.edit.Fact.{Fact}
use Rattle.cube_model.specs.Limits.{MAX_ID}
use Rattle.std.proofs.lemmas.Bool.Decides.{nat_tests}
use Rattle.fact_records.specs.Valid.{IsPlaced}
use Rattle.fact_records.specs.Shape.{width_of_all}
use Rattle.region_algebra.specs.Space.{IsRegion}
use Rattle.schema_text.specs.Schema.{weigh_of}
use Rattle.drill_run.specs.Edits.{fact_drawn, place_node, time_node}
use Rattle.drill_run.specs.Space.{drill_schema, everything, places, times}

pub dims-are : drill_schema.dims ≡ places ∷ times ∷ []
unfolding drill_schema
dims-are = refl

-- so many nodes are there
length-places : length places ≡ 73
unfolding digits
length-places = refl

length-times : length times ≡ 57
unfolding digits
length-times = refl

-- cells weigh as they count
pub weighs-counts : weigh_of drill_schema.policy ≡ weigh_count
unfolding drill_schema
weighs-counts = refl

-- a fact has its count and its amount
pub one-column : width_of_all drill_schema.measures ≡ 1
unfolding drill_schema
one-column = refl

pub region-named : (x y : ℕ) → x < 73 → y < 57 → IsRegion drill_schema.dims (x ∷ y ∷ [])
region-named x y place time = rw (dims-are, length-places, length-times) (grind (arith, nat_tests, place, time))

pub everything-named : IsRegion drill_schema.dims everything
everything-named = region-named 0 0 (omega arith) (omega arith)

place-within : (kind city : ℕ) → city < 64 → place_node kind city < 73
place-within kind city small = grind (arith, small)

time-within : (kind week : ℕ) → week < 52 → time_node kind week < 57
time-within kind week small = grind (arith, small)

-- a fact that is drawn with an id lies there
pub drawn-placed : (id place time kind amount : ℕ) (fact : Fact) → fact ≡ fact_drawn id place time kind amount → 1 ≤ id → id ≤ MAX_ID → IsPlaced drill_schema.dims fact
drawn-placed id place time kind amount fact is least most =
    let region = region-named (place_node (kind % 16) (place % 64)) (time_node (kind % 16) (time % 52)) (place-within (kind % 16) (place % 64) (omega arith)) (time-within (kind % 16) (time % 52) (omega arith)) in
    subst (IsPlaced drill_schema.dims) (sym is) (record { id = record { least = least; most = most }; region = region })
