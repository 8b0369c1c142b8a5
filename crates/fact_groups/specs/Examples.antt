-- Facts in a small space, of which groups and edits were worked out by hand.
use Rattle.std.specs.Prelude.{ℕ, List, [], ◌∷◌, pos}
use Rattle.cube_model.specs.declared.edit.Edit.{Edit}
use Rattle.cube_model.specs.declared.edit.Edit.TheVariants.{Change, Put, Withdraw}
use Rattle.cube_model.specs.declared.edit.Fact.{Fact}
use Rattle.cube_model.specs.Allocation.{Allocation}
use Rattle.fact_groups.specs.Groups.{Group}

-- a fact of one value
abbrev pub valued_at : ℕ → List ℕ → ℕ → Fact
valued_at id region value = record { id = id; region = region; cols = pos value ∷ [] }

-- two facts at cell 0, one at cell 2, and two of which only the node over these two cells is known
abbrev pub five_facts : List Fact
five_facts =
    valued_at 1 (2 ∷ 1 ∷ []) 100 ∷ valued_at 2 (2 ∷ 1 ∷ []) 300 ∷ valued_at 3 (3 ∷ 1 ∷ []) 50 ∷ valued_at 4 (1 ∷ 1 ∷ []) 600 ∷ valued_at 5 (1 ∷ 1 ∷ []) 10 ∷ []

-- the codes of their regions
abbrev pub three_codes : List ℕ
three_codes = 4 ∷ 7 ∷ 10 ∷ []

-- a spread over one denominator, and a group of one column
abbrev pub spread_over : ℕ → List (ℕ × ℕ) → Allocation
spread_over den rows = record { den = den; rows = rows }

abbrev pub group_of : Allocation → ℕ → ℕ → Group
group_of spread count sum = record { spread = spread; count = count; sums = pos sum ∷ [] }

-- the third fact moves to cell 1
abbrev pub move_third : Edit
move_third = Change (valued_at 3 (2 ∷ 2 ∷ []) 50)

-- a put of its id moves it as well
abbrev pub put_third : Edit
put_third = Put (valued_at 3 (2 ∷ 2 ∷ []) 50)

-- the second gets another value where it lies
abbrev pub revalue_second : Edit
revalue_second = Change (valued_at 2 (2 ∷ 1 ∷ []) 301)

-- a new fact at cell 7
abbrev pub put_sixth : Edit
put_sixth = Put (valued_at 6 (6 ∷ 2 ∷ []) 1)

-- an imprecise one goes
abbrev pub withdraw_fourth : Edit
withdraw_fourth = Withdraw 4
