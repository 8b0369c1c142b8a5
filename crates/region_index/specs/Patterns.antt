-- The depths at which regions lie, a pattern: which are known, and which regions over a cell have one.
use Rattle.std.specs.Prelude.{◌≡◌, ℕ, ◌+◌, ◌*◌, ◌≤◌, All, Bool, true, List, [], ◌∷◌, ◌++◌, length, map, nat_eq, nat_lt, ◌&&◌, ◌||◌, ◌==◌, if◌then◌else◌, Option, Some, None, slice_get}
use Rattle.std.specs.List.{IsDistinct, flat_map}
use Rattle.std.specs.Option.{option_map_or}
use Rattle.cube_model.specs.declared.edit.Fact.{Fact}
use Rattle.cube_model.specs.Cells.{is_among, is_inside, places_from}
use Rattle.cube_model.specs.Facts.{is_precise}
use Rattle.cube_model.specs.Tree.{Dimension, entry_of, is_under, numbers}
use Rattle.region_algebra.specs.Space.{all_regions, region_total}
use Rattle.region_index.specs.declared.patterns.TheConstants.{MAX_PATTERNS}
use Rattle.region_index.specs.Content.{Content, holds_ids}

-- the depth of a node
abbrev pub depth_of : Dimension → ℕ → ℕ
depth_of dim node = option_map_or (λ e. e.depth) (entry_of dim node) 0

-- The pattern of a region: the depths of its nodes as the digits of one number, of which each is below nine, the first
-- dimension's the last digit.
abbrev pub pattern_of : List Dimension → List ℕ → ℕ
pattern_of (dim ∷ dims) (node ∷ nodes) = depth_of dim node + 9 * pattern_of dims nodes
pattern_of dims nodes = 0

-- the patterns that are known: those of a list, or where more were seen than one holds, and so there is none, all
abbrev pub Patterns : Type 0
Patterns = Option (List ℕ)

abbrev pub is_known : Patterns → ℕ → Bool
is_known patterns pattern = option_map_or (λ listed. is_among listed pattern) patterns true

-- the list with one more, where there is room for it
abbrev pub with_pattern : List ℕ → ℕ → Patterns
with_pattern listed pattern = if nat_lt (length listed) MAX_PATTERNS then Some (listed ++ pattern ∷ []) else None

-- the patterns once a pattern is known too
abbrev pub noted : Patterns → ℕ → Patterns
noted None pattern = None
noted (Some listed) pattern = if is_among listed pattern then Some listed else with_pattern listed pattern

-- each pattern of the list stands there once, and there are not too many
pub record IsListed (listed : List ℕ) : Type 0 where
  pub once : IsDistinct nat_eq listed
  pub few : length listed ≤ MAX_PATTERNS

-- of each region at whose code an id is held, the pattern is known
pub record HasPatterns (dims : List Dimension) (content : Content) (patterns : Patterns) : Type 0 where
  pub each : (code : ℕ) (region : List ℕ) → slice_get (all_regions dims) code ≡ Some region → holds_ids content code ≡ true → is_known patterns (pattern_of dims region) ≡ true

-- the pattern of the fact's region is known, where it is imprecise
abbrev pub knows : List Dimension → Patterns → Fact → Bool
knows dims patterns fact = is_precise dims fact || is_known patterns (pattern_of dims fact.region)

-- of each imprecise fact the region's pattern is known
abbrev pub KnowsPatterns : List Dimension → List Fact → Patterns → Type 0
KnowsPatterns dims facts patterns = All (λ fact. knows dims patterns fact ≡ true) facts

-- the codes of the regions of a pattern whose nodes these leaves are under, of which there is one at most
unfoldable pub codes_of_pattern : List Dimension → List ℕ → ℕ → List ℕ
codes_of_pattern dims leaves pattern = places_from (λ region. is_inside dims region leaves && pattern_of dims region == pattern) 0 (all_regions dims)

-- those of all these patterns, one after the other
abbrev pub codes_of_patterns : List Dimension → List ℕ → List ℕ → List ℕ
codes_of_patterns dims leaves patterns = flat_map (codes_of_pattern dims leaves) patterns

-- those of one pattern after the nodes of earlier dimensions, which make `code`
abbrev pub pattern_behind : List Dimension → List ℕ → ℕ → ℕ → List ℕ
pattern_behind dims leaves pattern code = map (λ c. code * region_total dims + c) (codes_of_pattern dims leaves pattern)

-- the places of the nodes of a depth that a node is under, of which there is one at most
unfoldable pub places_at_depth : Dimension → ℕ → ℕ → List ℕ
places_at_depth dim node depth = places_from (λ y. is_under dim node y && depth_of dim y == depth) 0 (numbers dim)
