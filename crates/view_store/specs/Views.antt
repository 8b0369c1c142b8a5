-- Views: for each of them the depths of its cuts, and the terms of the regions that have any, by the code of the region.
use Rattle.std.specs.Prelude.{◌≡◌, ℕ, ◌+◌, ◌<◌, ◌≤◌, Bool, true, false, List, [], ◌∷◌, All, IfSome, length, map, filter, nat_lt, ◌&&◌, is_some, slice_index_or, unwrap_or}
use Rattle.std.specs.List.{range_with_len}
use Rattle.cube_model.specs.Cells.{is_among}
use Rattle.cube_model.specs.Cut.{cut}
use Rattle.cube_model.specs.Limits.{MAX_COLS}
use Rattle.cube_model.specs.Tree.{Dimension}
use Rattle.group_sum.specs.Terms.{AreTerms, TermList}
use Rattle.region_algebra.specs.Space.{all_regions, region_total}
use Rattle.staged_map.specs.Staged.{Places, value_at}
use Rattle.region_algebra.specs.declared.view_def.ViewDef.{ViewDef}

-- a view: the number of columns of its terms, the count included, for each dimension the depth of its cut, and its entries
pub record ViewMap : Type 0 where
  pub columns : ℕ
  pub depths : List ℕ
  pub entries : Places TermList

-- all views, over a number of columns
pub record ViewMaps : Type 0 where
  pub columns : ℕ
  pub views : List ViewMap

-- no terms, over a number of columns
abbrev pub no_terms : ℕ → TermList
no_terms columns = record { columns = columns; terms = [] }

-- what is held at a code: nothing, over the columns, where there is no value
abbrev pub held_at : ℕ → Places TermList → ℕ → TermList
held_at columns places code = unwrap_or (value_at places code) (no_terms columns)

-- the entry of a code
abbrev pub entry_at : ViewMap → ℕ → TermList
entry_at view code = held_at view.columns view.entries code

-- terms have the columns
pub record IsOver (columns : ℕ) (list : TermList) : Type 0 where
  pub columns_are : list.columns ≡ columns
  pub are_terms : AreTerms list

-- an entry has them, and there is a term
pub record IsEntry (columns : ℕ) (entry : TermList) : Type 0 where
  pub over : IsOver columns entry
  pub some : 1 ≤ length entry.terms

-- so have all, over a number of columns that terms can have
pub record AreEntries (columns : ℕ) (entries : Places TermList) : Type 0 where
  pub least : 1 ≤ columns
  pub most : columns ≤ MAX_COLS + 1
  pub each : (code : ℕ) → IfSome (value_at entries code) (IsEntry columns)

-- all views are over the columns, which terms can have
pub record AreOfColumns (columns : ℕ) (views : List ViewMap) : Type 0 where
  pub least : 1 ≤ columns
  pub most : columns ≤ MAX_COLS + 1
  pub each : All (λ view. view.columns ≡ columns) views

-- a view of a definition, without entries
abbrev pub view_of : ℕ → ViewDef → ViewMap
view_of columns def = record { columns = columns; depths = def.depths; entries = [] }

-- a view with the same cuts and columns, without entries
abbrev pub without_entries : ViewMap → ViewMap
without_entries view = record view { entries = [] }

-- a view has a depth for each dimension, and its entries are of regions
pub record IsViewOf (dims : List Dimension) (view : ViewMap) : Type 0 where
  pub depths : length view.depths ≡ length dims
  pub regions : (code : ℕ) → is_some (value_at view.entries code) ≡ true → code < region_total dims

-- so has each
abbrev pub AreViewsOf : List Dimension → ViewMaps → Type 0
AreViewsOf dims content = All (IsViewOf dims) content.views

-- the region of a code
abbrev pub region_at : List Dimension → ℕ → List ℕ
region_at dims code = slice_index_or (all_regions dims) code []

-- in each dimension the node of a region is one of the cut at the depth
abbrev pub is_in_cuts : List Dimension → List ℕ → List ℕ → Bool
is_in_cuts [] [] [] = true
is_in_cuts (dim ∷ dims) (depth ∷ depths) (node ∷ nodes) = is_among (cut dim depth) node && is_in_cuts dims depths nodes
is_in_cuts dims depths nodes = false

-- a code is that of a region of the product of the cuts
abbrev pub is_in_view : List Dimension → List ℕ → ℕ → Bool
is_in_view dims depths code = nat_lt code (region_total dims) && is_in_cuts dims depths (region_at dims code)

-- the codes of the entries, ascending
abbrev pub codes_of : List Dimension → ViewMap → List ℕ
codes_of dims view = filter (λ code. is_some (value_at view.entries code)) (range_with_len 0 (region_total dims))

-- a view's regions that have an entry, each with it, ascending by code
abbrev pub listed : List Dimension → ViewMap → List (List ℕ × TermList)
listed dims view = map (λ code. (region_at dims code, entry_at view code)) (codes_of dims view)
