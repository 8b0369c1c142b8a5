-- Dimensions of which one has a leaf more: the regions stay.
use Rattle.std.proofs.Common.{◌≡◌, ℕ, zero, suc, ◌<◌, ◌≤◌, true, List, [], ◌∷◌, get_or, length, refl, ap, subst, sym, ◌∙◌, arith}
use Rattle.std.specs.Prelude.{All, IfSome, Some, nat_lt, slice_get, slice_set}
use Rattle.std.proofs.lemmas.Bool.Decides.{nat_tests}
use Rattle.std.proofs.lemmas.Option.{slice_get-get_or}
use Rattle.cube_model.specs.Growing.{grown}
use Rattle.cube_model.specs.Tree.{Dimension, IsTree}
use Rattle.dim_tree.proofs.Climbing.{both, together}
use Rattle.dim_tree.proofs.NewLeaf.{length-grown}
use Rattle.region_algebra.specs.Growth.{grown_dims}
use Rattle.region_algebra.specs.Space.{is_region}
use Rattle.region_algebra.proofs.Growing.{grown_dims-at}
use Rattle.cube_core.specs.Respread.{KeepRegions}

-- a dimension in the place of one with no more nodes
put-length : (dims : List Dimension) (d : ℕ) (other : Dimension) → length (slice_set dims d other) ≡ length dims
put-length [] d other = refl
put-length (e ∷ dims) zero other = refl
put-length (e ∷ dims) (suc d) other = ap suc (put-length dims d other)

put-regions : (dims : List Dimension) (d : ℕ) (dim other : Dimension) (region : List ℕ) → slice_get dims d ≡ Some dim → length dim ≤ length other → is_region dims region ≡ true → is_region (slice_set dims d other) region ≡ true
put-regions [] d dim other region is wide holds = holds
put-regions (e ∷ dims) d dim other [] is wide holds = absurd (cc holds)
put-regions (e ∷ dims) zero dim other (node ∷ nodes) is wide holds =
    let parts = both (nat_lt node (length e)) (is_region dims nodes) holds in
    let same : e ≡ dim = cc in
    let within : nat_lt node (length other) ≡ true = grind (arith, nat_tests, parts.0, ap length same, wide) in
    together within parts.1
put-regions (e ∷ dims) (suc d) dim other (node ∷ nodes) is wide holds =
    let parts = both (nat_lt node (length e)) (is_region dims nodes) holds in
    together parts.0 (put-regions dims d dim other nodes is wide parts.1)

pub keep-grown : (dims : List Dimension) (d parent : ℕ) (name : List ℕ) → All IsTree dims → d < length dims → IfSome (slice_get dims d) (λ dim. parent < length dim) → KeepRegions dims (grown_dims dims d parent name)
keep-grown dims d parent name trees within there =
    let dim = get_or dims d [] in
    let is : slice_get dims d ≡ Some dim = slice_get-get_or dims d [] within in
    let under : parent < length dim = subst (λ found. IfSome found (λ dim. parent < length dim)) is there in
    let at = grown_dims-at dims d dim parent name is in
    let wide : length dim ≤ length (grown dim parent name) = omega (arith, length-grown dim parent name (trees d [] within) under) in
    record {
      same = ap length at ∙ put-length dims d (grown dim parent name);
      regions = λ region holds. subst (λ ds. is_region ds region ≡ true) (sym at) (put-regions dims d dim (grown dim parent name) region is wide holds);
    }
