-- The drill of 1, worked out by hand.
use Rattle.std.specs.Prelude.{ℕ, List, [], ◌∷◌, codes, pos}
use Rattle.cube_model.specs.declared.edit.Fact.{Fact}
use Rattle.text_lines.specs.Text.{line_text}
use Rattle.drill_run.specs.Doing.{Tally}

-- its one fact, in city s0c6, sometime in quarter q2
abbrev pub fact_of_one : Fact
fact_of_one = record { id = 1; region = 8 ∷ 29 ∷ []; cols = pos 515 ∷ [] }

abbrev pub tally_of_one : Tally
tally_of_one = record { facts = fact_of_one ∷ []; refreshed = 1; refused = 0 }

-- the fact has a row for each of the thirteen weeks
abbrev pub line_of_one : List ℕ
line_of_one = line_text (codes "drill") (codes "1" ∷ codes "1" ∷ codes "13" ∷ codes "1" ∷ codes "1" ∷ codes "515" ∷ [])
