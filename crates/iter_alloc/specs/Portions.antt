-- How much of facts is in a region, by places and by spots.
use Rattle.cube_model.specs.declared.edit.Fact.{Fact}
use Rattle.iter_alloc.specs.declared.spots.First.{First}
use Rattle.cube_model.specs.Cells.{is_among}
use Rattle.cube_model.specs.Facts.{is_precise}
use Rattle.cube_model.specs.Limits.{MAX_VALUE}
use Rattle.cube_model.specs.Tree.{Dimension}
use Rattle.iter_alloc.specs.Forest.{at}
use Rattle.iter_alloc.specs.Iterated.{portion, value_of}
use Rattle.iter_alloc.specs.Places.{Part}
use Rattle.iter_alloc.specs.Rounds.{WHOLE_FACT, share_by}
use Rattle.iter_alloc.specs.Spotting.{spot_of}
use Rattle.region_algebra.specs.Space.{common_cells}
use Rattle.std.specs.List.{sum_by, Contains}
use Rattle.std.specs.Prelude.{All, Option, Some, None, if◌then◌else◌, ◌≡◌, ℕ, ◌+◌, ◌*◌, ◌^◌, ◌≤◌, false, List, [], ◌∷◌, length, ℤ, pos, ◌+ℤ◌, ◌*ℤ◌, nat_abs}

-- of a fact of a spot what is in some cells, where the places stand so
abbrev pub portion_in : List ℕ → List ℕ → (ℕ → ℕ) → Part → ℕ
portion_in inside keys level part = sum_by (λ i. if is_among inside (at keys i) then share_by level part.own i else 0) part.own

-- the most of a fact that is in a region
abbrev pub PORTION_LIMIT : ℕ
PORTION_LIMIT = 2 ^ 40

-- for each spot what of each of its facts is in the region
pub record ArePortions (dims : List Dimension) (facts : List Fact) (rounds : ℕ) (region : List ℕ) (firsts : List First) (portions : List ℕ) : Type 0 where
  pub as_many : length portions ≡ length firsts
  pub low : All (λ n. n ≤ PORTION_LIMIT) portions
  pub each : (fact : Fact) → Contains facts fact → is_precise dims fact ≡ false → at portions (spot_of dims firsts fact) ≡ portion dims facts rounds region fact

-- what of a fact is in a region, by its spot, or by its cell if it has none
abbrev pub portion_by : List Dimension → List ℕ → List ℕ → Fact → Option ℕ → ℕ
portion_by dims region portions fact None = WHOLE_FACT * length (common_cells dims fact.region region)
portion_by dims region portions fact (Some spot) = at portions spot

abbrev pub portions_by : List Dimension → List ℕ → List ℕ → List Fact → List (Option ℕ) → List ℕ
portions_by dims region portions [] spots = []
portions_by dims region portions (fact ∷ facts) [] = []
portions_by dims region portions (fact ∷ facts) (spot ∷ spots) = portion_by dims region portions fact spot ∷ portions_by dims region portions facts spots

-- each fact has a value for each column but the count, and none is too large
pub record AreValued (columns : ℕ) (facts : List Fact) : Type 0 where
  pub width : All (λ fact. length fact.cols + 1 ≡ columns) facts
  pub small : All (λ fact. All (λ value. nat_abs value ≤ MAX_VALUE) fact.cols) facts

-- a column of facts, of each so much
abbrev pub column_total : ℕ → List Fact → List ℕ → ℤ
column_total column [] portions = pos 0
column_total column (fact ∷ facts) [] = pos 0
column_total column (fact ∷ facts) (portion ∷ portions) = value_of column fact *ℤ pos portion +ℤ column_total column facts portions
