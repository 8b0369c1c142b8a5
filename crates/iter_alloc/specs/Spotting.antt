-- Imprecise facts in spots: each region that one of them has is a spot.
use Rattle.cube_model.specs.declared.edit.Fact.{Fact}
use Rattle.iter_alloc.specs.declared.spots.First.{First}
use Rattle.cube_model.specs.Facts.{is_precise}
use Rattle.cube_model.specs.Tree.{Dimension}
use Rattle.region_algebra.specs.Space.{code_of}
use Rattle.std.specs.List.{fold, list_any, position_or_len}
use Rattle.std.specs.Prelude.{Option, Some, None, if◌then◌else◌, slice_index_or, nat_eq, ℕ, Bool, List, [], ◌∷◌, ◌++◌, map}

-- the first fact of a spot
abbrev pub first_of : Fact → First
first_of fact = record { id = fact.id; region = fact.region }

-- the spots so far, by their first facts, and for each fact so far its spot, if it is imprecise
pub record Spotted : Type 0 where
  pub firsts : List First
  pub spots : List (Option ℕ)

abbrev pub spot_codes : List Dimension → List First → List ℕ
spot_codes dims firsts = map (λ first. code_of dims first.region) firsts

-- the place of a code among codes
abbrev pub place_in : List ℕ → ℕ → ℕ
place_in codes code = position_or_len (λ c. nat_eq code c) codes

abbrev pub is_among_codes : List ℕ → ℕ → Bool
is_among_codes codes code = list_any (λ c. nat_eq code c) codes

-- a fact more opens a spot where its region is a new one
abbrev pub firsts_with : List Dimension → List First → Fact → List First
firsts_with dims firsts fact = if is_among_codes (spot_codes dims firsts) (code_of dims fact.region) then firsts else firsts ++ first_of fact ∷ []

abbrev pub spot_of : List Dimension → List First → Fact → ℕ
spot_of dims firsts fact = place_in (spot_codes dims firsts) (code_of dims fact.region)

abbrev pub spot_in : List Dimension → List First → Fact → Option ℕ
spot_in dims firsts fact = if is_precise dims fact then None else Some (spot_of dims firsts fact)

abbrev pub spotted_next : List Dimension → Spotted → Fact → Spotted
spotted_next dims spotted fact = record {
  firsts = if is_precise dims fact then spotted.firsts else firsts_with dims spotted.firsts fact;
  spots = spotted.spots ++ spot_in dims spotted.firsts fact ∷ [];
}

unfoldable pub spotted_all : List Dimension → List Fact → Spotted
spotted_all dims facts = fold (spotted_next dims) (record { firsts = []; spots = [] }) facts

-- the regions of the spots
abbrev pub regions_of : List First → List (List ℕ)
regions_of firsts = map (λ first. first.region) firsts

-- The label of a fact by its spot: the id of the first fact of the root, or its own.
abbrev pub label_in : List First → List ℕ → Fact → Option ℕ → ℕ
label_in firsts roots fact None = fact.id
label_in firsts roots fact (Some spot) = (slice_index_or firsts (slice_index_or roots spot 0) (first_of fact)).id

-- the labels of facts by their spots
abbrev pub labels_by : List First → List ℕ → List Fact → List (Option ℕ) → List ℕ
labels_by firsts roots [] spots = []
labels_by firsts roots (fact ∷ facts) [] = []
labels_by firsts roots (fact ∷ facts) (spot ∷ spots) = label_in firsts roots fact spot ∷ labels_by firsts roots facts spots
