-- Tables: under a region, the regions of nodes of one depth in each dimension, with what facts add up to in each.
use Rattle.std.specs.Prelude.{◌≡◌, ℕ, ◌+◌, ◌≤◌, All, Bool, true, false, List, [], ◌∷◌, filter, if◌then◌else◌, is_some, length, nat_lt}
use Rattle.std.specs.Option.{option_map_or}
use Rattle.cube_model.specs.declared.statistic.CellStat.{CellStat}
use Rattle.cube_model.specs.Allocation.{ExtendedFact}
use Rattle.cube_model.specs.Answer.{answer}
use Rattle.cube_model.specs.Ascending.{ascends_from}
use Rattle.cube_model.specs.Cells.{is_among, is_inside}
use Rattle.cube_model.specs.Cut.{cut}
use Rattle.cube_model.specs.Tree.{Dimension, entry_of, is_under}
use Rattle.fact_groups.specs.Groups.{Group}
use Rattle.fact_records.specs.Shape.{width_of_all}
use Rattle.group_sum.specs.Terms.{TermList}
use Rattle.region_algebra.specs.Space.{IsRegion}
use Rattle.region_index.specs.Touching.{codes_touching}
use Rattle.staged_map.specs.Staged.{Places, value_at}
use Rattle.view_store.specs.Cuts.{entries_of, regions_behind}
use Rattle.view_store.specs.Facts.{IsViewOfFacts}
use Rattle.view_store.specs.Rolling.{listed_under}
use Rattle.view_store.specs.Views.{IsViewOf, ViewMap, ViewMaps, listed}
use Rattle.cube_state.specs.State.{StateValue, rows_in, terms_in}

-- a node lies deeper than the cut at a depth
abbrev pub is_deeper : Dimension → ℕ → ℕ → Bool
is_deeper dim depth node = option_map_or (λ e. nat_lt depth e.depth) (entry_of dim node) false

-- The members of a table in a dimension: the nodes of the cut at a depth that lie under the asked node, in their order, or the
-- asked node alone where it lies deeper.
abbrev pub members : Dimension → ℕ → ℕ → List ℕ
members dim depth node = if is_deeper dim depth node then node ∷ [] else filter (λ low. is_under dim low node) (cut dim depth)

-- the product of the members in all dimensions, the first dimension slowest
abbrev pub table_regions : List Dimension → List ℕ → List ℕ → List (List ℕ)
table_regions [] [] [] = [] ∷ []
table_regions (dim ∷ dims) (depth ∷ depths) (node ∷ region) = regions_behind (members dim depth node) (table_regions dims depths region)
table_regions dims depths region = []

-- the table of a state: each of these regions where its facts have terms, with them
abbrev pub table_at : {P : Type 0} → (P → CellStat → ℕ) → StateValue P → List ℕ → List ℕ → List (List ℕ × TermList)
table_at weigh state depths region = entries_of (terms_in weigh state) (table_regions state.dims depths region)

-- The depth of the cut whose nodes under the asked node are the members: the asked node's own where that lies deeper.
abbrev pub depth_under : Dimension → ℕ → ℕ → ℕ
depth_under dim depth node = option_map_or (λ e. if nat_lt depth e.depth then e.depth else depth) (entry_of dim node) depth

abbrev pub depths_under : List Dimension → List ℕ → List ℕ → List ℕ
depths_under (dim ∷ dims) (depth ∷ depths) (node ∷ region) = depth_under dim depth node ∷ depths_under dims depths region
depths_under dims depths region = []

-- ascending codes, among which are those of all groups of regions that have a cell in common with a region
pub record HoldTouching (dims : List Dimension) (groups : Places Group) (region codes : List ℕ) : Type 0 where
  pub ascending : ascends_from (λ x. x) 0 codes ≡ true
  pub each : (code : ℕ) → is_some (value_at groups code) ≡ true → is_among (codes_touching dims region) code ≡ true → is_among codes code ≡ true

-- A view of these cuts, of some facts of which the state's others have nothing in a region: in each region under that one they
-- have the answers of all.
pub record IsViewUnder {P : Type 0} (weigh : P → CellStat → ℕ) (state : StateValue P) (cuts region : List ℕ) (view : ViewMap) : Type 0 where
  pub some : List ExtendedFact
  pub columns : view.columns ≡ width_of_all state.shape.measures + 1
  pub depths : view.depths ≡ cuts
  pub over : IsViewOf state.dims view
  pub of : IsViewOfFacts state.dims some view
  pub alike : (low : List ℕ) → IsRegion state.dims low → is_inside state.dims region low ≡ true
      → answer (width_of_all state.shape.measures) state.dims some low ≡ answer (width_of_all state.shape.measures) state.dims (rows_in weigh state) low

-- there is one view, which is such a view
pub record IsOneViewUnder {P : Type 0} (weigh : P → CellStat → ℕ) (state : StateValue P) (cuts region : List ℕ) (maps : ViewMaps) : Type 0 where
  pub view : ViewMap
  pub only : maps.views ≡ view ∷ []
  pub under : IsViewUnder weigh state cuts region view

-- a list is what such a view has under the region, and each of its entries has a term
pub record IsListUnder {P : Type 0} (weigh : P → CellStat → ℕ) (state : StateValue P) (cuts region : List ℕ) (list : List (List ℕ × TermList)) : Type 0 where
  pub view : ViewMap
  pub under : IsViewUnder weigh state cuts region view
  pub entries : list ≡ listed_under state.dims view region
  pub whole : All (λ entry. 1 ≤ length entry.1.terms) (listed state.dims view)
