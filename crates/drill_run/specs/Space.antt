-- The schema of the drill.
use Rattle.std.specs.Prelude.{ℕ, List, [], ◌∷◌, ◌++◌, map, codes}
use Rattle.std.specs.Fmt.{decimal}
use Rattle.std.specs.List.{flat_map, range_with_len}
use Rattle.cube_model.specs.declared.tree.NodeLine.{NodeLine}
use Rattle.cube_model.specs.Tree.{Dimension, numbered}
use Rattle.fact_records.specs.declared.shape.Kind.TheVariants.{Number}
use Rattle.schema_text.specs.declared.word.PolicyWord.TheVariants.{Count}
use Rattle.schema_text.specs.Schema.{SchemaValue}

-- a word with a number after it
abbrev pub numbered_name : List ℕ → ℕ → List ℕ
numbered_name word number = word ++ decimal number

-- a node of depth 1 of this name, with so many below it
abbrev pub branch : List ℕ → List ℕ → ℕ → List NodeLine
branch name word size = record { depth = 1; name = name } ∷ map (λ lower. record { depth = 2; name = name ++ numbered_name word lower }) (range_with_len 0 size)

-- a root with so many branches
abbrev pub two_levels : List ℕ → ℕ → List ℕ → ℕ → Dimension
two_levels upper_word count word size = numbered (record { depth = 0; name = codes "All" } ∷ flat_map (λ upper. branch (numbered_name upper_word upper) word size) (range_with_len 0 count))

-- eight states of eight cities; four quarters of thirteen weeks
abbrev pub places : Dimension
places = two_levels (codes "s") 8 (codes "c") 8

abbrev pub times : Dimension
times = two_levels (codes "q") 4 (codes "w") 13

unfoldable pub drill_schema : SchemaValue
drill_schema = record {
  policy = Count;
  measures = record { name = codes "Amount"; kind = Number; first_col = 1 } ∷ [];
  names = codes "Place" ∷ codes "Time" ∷ [];
  dims = places ∷ times ∷ [];
  views = record { name = codes "state"; depths = 1 ∷ 1 ∷ [] } ∷ [];
}

-- the place and the time of everything
abbrev pub everything : List ℕ
everything = 0 ∷ 0 ∷ []
