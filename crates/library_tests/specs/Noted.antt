-- Ids at the codes of regions, beside patterns that are known.
use Rattle.std.specs.Prelude.{◌≡◌, ℕ, true, List, ◌==◌, Some, slice_get}
use Rattle.std.specs.List.{list_any}
use Rattle.cube_model.specs.Tree.{Dimension}
use Rattle.region_algebra.specs.Space.{all_regions}
use Rattle.region_index.specs.Changes.{Pair}
use Rattle.region_index.specs.Patterns.{Patterns, is_known, pattern_of}

-- of each region at whose code an id is put, the pattern is known
abbrev pub AreNoted : List Dimension → List Pair → Patterns → Type 0
AreNoted dims pairs patterns =
    (code : ℕ) (region : List ℕ) → slice_get (all_regions dims) code ≡ Some region → list_any (λ pair. pair.0 == code) pairs ≡ true → is_known patterns (pattern_of dims region) ≡ true
