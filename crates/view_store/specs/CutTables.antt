-- Tables of the product of cuts: by the digits of a code, what the nodes there add to the code of the region over them.
use Rattle.std.specs.Prelude.{◌≡◌, ℕ, ◌+◌, ◌*◌, ◌/◌, ◌%◌, ◌<◌, All, IfSome, List, [], ◌∷◌, None, Option, Some, drop, get_or, length, slice_get}
use Rattle.std.specs.Option.{option_and_then, option_map}
use Rattle.cube_model.specs.Limits.{SPACE_LIMIT}
use Rattle.cube_model.specs.Tree.{Dimension, IsTree, leaves, numbers}
use Rattle.group_sum.specs.Terms.{TermList}
use Rattle.region_algebra.specs.Space.{cell_total, region_total}
use Rattle.staged_map.specs.Staged.{Places}
use Rattle.view_store.specs.Cuts.{IsShareOf}
use Rattle.view_store.specs.declared.cut_table.CutDigit.{CutDigit}
use Rattle.view_store.specs.declared.cut_table.CutTable.{CutTable}

-- what the first of some nodes add
pub record AreShares (dim : Dimension) (depth step : ℕ) (nodes : List ℕ) (n : ℕ) (shares : List (Option ℕ)) : Type 0 where
  pub count : length shares ≡ n
  pub each : (i low : ℕ) → i < n → slice_get nodes i ≡ Some low → IsShareOf dim depth step low (get_or shares i None)

-- the digit of a dimension: how far apart its places are, and what the node at each adds
pub record IsDigit (dim : Dimension) (depth step : ℕ) (nodes : List ℕ) (apart : ℕ) (digit : CutDigit) : Type 0 where
  pub apart_is : digit.step ≡ apart
  pub shares : AreShares dim depth step nodes (length nodes) digit.shares

-- the digits of the first dimensions, where a code goes by the places of these nodes of each, and there are so many codes
pub record AreDigits (nodes : Dimension → List ℕ) (total : List Dimension → ℕ) (dims : List Dimension) (depths : List ℕ) (n : ℕ) (digits : List CutDigit) : Type 0 where
  pub count : length digits ≡ n
  pub each : (d : ℕ) → d < n → IfSome (slice_get dims d) (λ dim. IfSome (slice_get digits d) (IsDigit dim (get_or depths d 0) (region_total (drop (d + 1) dims)) (nodes dim) (total (drop (d + 1) dims))))

-- all digits of the codes of regions, and of cells
pub record IsTable (dims : List Dimension) (depths : List ℕ) (table : CutTable) : Type 0 where
  pub regions : AreDigits numbers region_total dims depths (length dims) table.regions
  pub cells : AreDigits leaves cell_total dims depths (length dims) table.cells

-- a product of cuts has a depth for each dimension; where there is a table, it is right; and beside it there are no entries
pub record AreCuts (dims : List Dimension) (depths : List ℕ) (table : Option CutTable) (none : Places TermList) : Type 0 where
  pub deep : length depths ≡ length dims
  pub listed : IfSome table (IsTable dims depths)
  pub empty : none ≡ []

-- digits are those of some dimensions, and a code is among their codes
pub record AreDigitsOf (digits : List CutDigit) (code : ℕ) : Type 0 where
  pub nodes : Dimension → List ℕ
  pub total : List Dimension → ℕ
  pub turns : (dim : Dimension) (dims : List Dimension) → total (dim ∷ dims) ≡ length (nodes dim) * total dims
  pub dims : List Dimension
  pub depths : List ℕ
  pub deep : length depths ≡ length dims
  pub are : AreDigits nodes total dims depths (length dims) digits
  pub below : code < total dims
  pub trees : All IsTree dims
  pub small : region_total dims < SPACE_LIMIT

-- what the nodes at the digits of a code add together: nothing where one of them does not reach its cut
abbrev pub share_sum : List CutDigit → ℕ → Option ℕ
share_sum [] code = Some 0
share_sum (digit ∷ digits) code = option_and_then (λ share. option_map (λ more. share + more) (share_sum digits (code % digit.step))) (get_or digit.shares (code / digit.step) None)
