-- The number of a pattern: it is small, and it is read dimension by dimension.
use Rattle.std.proofs.Common.{◌≡◌, ℕ, suc, ◌+◌, ◌*◌, ◌^◌, ◌<◌, ◌≤◌, List, [], ◌∷◌, length, drop, refl, ap, ◌∙◌, arith}
use Rattle.std.specs.Prelude.{All, Some, slice_get}
use Rattle.std.proofs.Math.Nat.{one-le-pow, pow-le-pow_right}
use Rattle.std.proofs.lemmas.Grind.{pow_more}
use Rattle.std.proofs.lemmas.List.{length-drop}
use Rattle.std.proofs.lemmas.List.Elements.{All-drop, All-head, All-tail}
use Rattle.cube_model.specs.Limits.{MAX_DIMS}
use Rattle.cube_model.specs.Tree.{Dimension, IsTree}
use Rattle.region_algebra.proofs.Turns.{drop-at}
use Rattle.region_index.specs.Patterns.{depth_of, pattern_of}
use Rattle.region_index.proofs.Depths.{depth-most}

-- a pattern has a digit for each dimension
pattern-small : (dims : List Dimension) (nodes : List ℕ) → All IsTree dims → pattern_of dims nodes < 9 ^ length dims
pattern-small [] nodes trees = omega arith
pattern-small (dim ∷ dims) [] trees = one-le-pow (suc (length dims)) 9 (omega arith)
pattern-small (dim ∷ dims) (node ∷ nodes) trees =
    let depth = depth-most dim node (All-head IsTree dim dims trees) in
    let rest = pattern-small dims nodes (All-tail IsTree dim dims trees) in
    let more : 9 ^ suc (length dims) ≡ 9 ^ length dims * 9 = ap (λ n. 9 ^ n) (omega arith) ∙ pow_more 9 (length dims) in
    omega (arith, depth, rest, more)

-- so the number fits
pub pattern-fits : (dims : List Dimension) (region : List ℕ) (d : ℕ) → All IsTree dims → length dims ≤ MAX_DIMS → pattern_of (drop d dims) (drop d region) < 531441
pattern-fits dims region d trees few =
    let small = pattern-small (drop d dims) (drop d region) (All-drop IsTree d dims trees) in
    let short : length (drop d dims) ≤ 6 = omega (arith, length-drop d dims, few) in
    let most : 9 ^ length (drop d dims) ≤ 9 ^ 6 = pow-le-pow_right (omega arith) short in
    omega (arith, small, most)

-- the pattern from a dimension on
pub pattern_of-next : (dims : List Dimension) (region : List ℕ) (d : ℕ) (dim : Dimension) (node : ℕ) → slice_get dims d ≡ Some dim → slice_get region d ≡ Some node
    → pattern_of (drop d dims) (drop d region) ≡ depth_of dim node + 9 * pattern_of (drop (d + 1) dims) (drop (d + 1) region)
pattern_of-next dims region d dim node is has = rw (drop-at dims d dim is, drop-at region d node has) refl
