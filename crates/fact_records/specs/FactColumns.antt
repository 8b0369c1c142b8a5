-- Facts in three columns: their ids, the nodes of their regions, and their values.
use Rattle.std.specs.Prelude.{◌≡◌, ℕ, ◌≤◌, ℤ, List, [], ◌∷◌, length}
use Rattle.cube_model.specs.declared.edit.Fact.{Fact}
use Rattle.fact_records.specs.declared.block.TheConstants.{BLOCK}

-- the facts of these ids, regions and values, as long as there are all three
abbrev pub facts_of : List ℕ → List (List ℕ) → List (List ℤ) → List Fact
facts_of [] regions values = []
facts_of (id ∷ ids) [] values = []
facts_of (id ∷ ids) (region ∷ regions) [] = []
facts_of (id ∷ ids) (region ∷ regions) (cols ∷ values) = record { id = id; region = region; cols = cols } ∷ facts_of ids regions values

-- as many regions and values as ids, which have places for a whole block
pub record AreColumns (ids : List ℕ) (places : ℕ) (regions : List (List ℕ)) (values : List (List ℤ)) : Type 0 where
  pub with_regions : length regions ≡ length ids
  pub with_values : length values ≡ length ids
  pub room : BLOCK ≤ places
