-- Lists of a few items each, one after another in one list of items: what they are, and what is kept of them.
use Rattle.std.specs.Prelude.{◌≡◌, ℕ, ◌*◌, ◌≤◌, List, [], ◌∷◌, length, take, drop, sum, All, Option, None, Some}
use Rattle.fact_records.specs.declared.block.TheConstants.{BLOCK}

-- items in lists of these lengths
abbrev pub lists_of : {X : Type 0} → List ℕ → List X → List (List X)
lists_of [] items = []
lists_of (n ∷ lengths) items = take n items ∷ lists_of lengths (drop n items)

-- each of these lengths is that one, where one is given
abbrev pub IsLengthOfAll : Option ℕ → List ℕ → Type 0
IsLengthOfAll None lengths = Unit {0}
IsLengthOfAll (Some n) lengths = All (λ k. k ≡ n) lengths

-- these lengths take up all items and are none above the most, and there are places for as many such lists as a block has facts
pub record IsLaidOut (most : ℕ) (lengths : List ℕ) (count places : ℕ) : Type 0 where
  pub whole : sum lengths ≡ count
  pub short : All (λ n. n ≤ most) lengths
  pub few : length lengths ≤ BLOCK
  pub room : BLOCK * most ≤ places
  pub small : most ≤ 255
