-- The mass is the product of the denominators, and a region's total is what its facts expect.
use Rattle.std.proofs.Common.{◌≡◌, ℕ, ◌*◌, ◌/◌, ◌≤◌, List, [], ◌∷◌, length, map, refl, ap, sym, ◌∙◌, ℤ, pos, ◌+ℤ◌, ◌*ℤ◌}
use Rattle.std.specs.Prelude.{All}
use Rattle.std.specs.Int.{◌∣◌}
use Rattle.std.proofs.lemmas.List.Elements.{All-cons, All-head, All-nil, All-tail, All-weaker}
use Rattle.std.proofs.lemmas.Nat.Gcd.{dvd_trans}
use Rattle.std.proofs.Math.Nat.{dvd-mul_left, dvd-mul_right, mul-div_cancel_left, mul-div_assoc, mul_comm}
use Rattle.cube_model.specs.Allocation.{ExtendedFact}
use Rattle.cube_model.specs.Answer.{total_by, weight_inside}
use Rattle.cube_model.specs.Cells.{cells_of}
use Rattle.cube_model.specs.Tree.{Dimension}
use Rattle.region_algebra.specs.Space.{product}
use Rattle.world_law.specs.Worlds.{column_of, mass, total, world_count, worlds}
use Rattle.world_law.specs.Law.{IsShared, expected, part_of}
use Rattle.world_law.proofs.Products.{scaled-none, scaled-twice, sum-scaled}
use Rattle.world_law.proofs.Recurrences.{mass-cons, total-cons, world_count-cons}

-- the number of worlds is the product of the numbers of rows
pub world_count-product : (facts : List ExtendedFact) → world_count facts ≡ product (map (λ e. length e.allocation.rows) facts)
unfolding worlds
world_count-product [] = refl
world_count-product (e ∷ facts) = world_count-cons e facts ∙ ap (λ n. length e.allocation.rows * n) (world_count-product facts)

mass-first : (e : ExtendedFact) (facts : List ExtendedFact) → IsShared e → mass (e ∷ facts) ≡ e.allocation.den * mass facts
mass-first e facts is = mass-cons e facts ∙ ap (λ n. n * mass facts) is.whole

-- the mass is the product of the denominators
pub mass-product : (facts : List ExtendedFact) → All IsShared facts → mass facts ≡ product (map (λ e. e.allocation.den) facts)
unfolding worlds
mass-product [] are = refl
mass-product (e ∷ facts) are = mass-first e facts (All-head IsShared e facts are) ∙ ap (λ n. e.allocation.den * n) (mass-product facts (All-tail IsShared e facts are))

-- so each of them divides it
abbrev pub divides : ℕ → ExtendedFact → Type 0
divides whole e = e.allocation.den ∣ whole

pub den-divides : (facts : List ExtendedFact) → All IsShared facts → All (divides (mass facts)) facts
den-divides [] are = All-nil (divides (mass []))
den-divides (e ∷ facts) are =
    let more = mass-first e facts (All-head IsShared e facts are) in
    rw more (All-cons (divides (e.allocation.den * mass facts)) e facts (dvd-mul_right e.allocation.den (mass facts))
    (All-weaker (divides (mass facts)) (divides (e.allocation.den * mass facts)) (λ f d. dvd_trans f.allocation.den d (dvd-mul_left (mass facts) e.allocation.den)) facts (den-divides facts (All-tail IsShared e facts are))))

-- where the mass grows by a factor, so do the parts
part-scaled : (x : ℤ) (whole den d : ℕ) → d ∣ whole → x *ℤ pos (den * whole / d) ≡ x *ℤ pos (whole / d) *ℤ pos den
part-scaled x whole den d divides = ap (λ n. x *ℤ pos n) (mul-div_assoc d den divides ∙ mul_comm den (whole / d)) ∙ sym (scaled-twice x (whole / d) den)

parts-scaled : (cells : List ℕ) (column whole den : ℕ) (facts : List ExtendedFact) → All (divides whole) facts
    → total_by (part_of cells column (den * whole)) facts ≡ total_by (part_of cells column whole) facts *ℤ pos den
parts-scaled cells column whole den [] each = sym (scaled-none den)
parts-scaled cells column whole den (e ∷ facts) each =
    let others = total_by (part_of cells column (den * whole)) facts in
    ap (λ z. z +ℤ others) (part-scaled (column_of column e *ℤ pos (weight_inside cells e.allocation)) whole den e.allocation.den (All-head (divides whole) e facts each))
    ∙ ap (λ z. part_of cells column whole e *ℤ pos den +ℤ z) (parts-scaled cells column whole den facts (All-tail (divides whole) e facts each))
    ∙ sym (sum-scaled (part_of cells column whole e) (total_by (part_of cells column whole) facts) den)

-- the first fact's own part
own_part : (x : ℤ) (inside den whole : ℕ) → 1 ≤ den → x *ℤ pos (inside * whole) ≡ x *ℤ pos inside *ℤ pos (den * whole / den)
own_part x inside den whole some = sym (ap (λ n. x *ℤ pos inside *ℤ pos n) (mul-div_cancel_left whole some) ∙ scaled-twice x inside whole)

-- a region's total over all worlds is what its facts expect
pub expectation : (dims : List Dimension) (region : List ℕ) (column : ℕ) (facts : List ExtendedFact) → All IsShared facts → total dims region column facts ≡ expected dims region column facts
unfolding worlds
expectation dims region column [] are = refl
expectation dims region column (e ∷ facts) are =
    let cells = cells_of dims region in
    let is = All-head IsShared e facts are in
    let others = All-tail IsShared e facts are in
    let x = column_of column e in
    let inside = weight_inside cells e.allocation in
    let den = e.allocation.den in
    total-cons dims region column e facts
    ∙ ap (λ n. x *ℤ pos (inside * mass facts) +ℤ total dims region column facts *ℤ pos n) is.whole
    ∙ ap (λ z. x *ℤ pos (inside * mass facts) +ℤ z *ℤ pos den) (expectation dims region column facts others)
    ∙ ap (λ z. z +ℤ expected dims region column facts *ℤ pos den) (own_part x inside den (mass facts) is.some)
    ∙ ap (λ z. x *ℤ pos inside *ℤ pos (den * mass facts / den) +ℤ z) (sym (parts-scaled cells column (mass facts) den facts (den-divides facts others)))
    ∙ ap (λ n. total_by (part_of cells column n) (e ∷ facts)) (sym (mass-first e facts is))
