-- Small schemas, and lines over them, for which what is said was worked out by hand.
use Rattle.std.specs.Prelude.{ℕ, List, [], ◌∷◌, ◌++◌, codes}
use Rattle.std.specs.List.{flat_map}
use Rattle.fact_records.specs.Examples.{one_number, parts_and_number, second_weighs}
use Rattle.fact_records.specs.Shape.{ShapeValue}
use Rattle.region_algebra.specs.declared.view_def.ViewDef.{ViewDef}
use Rattle.region_algebra.specs.Examples.{small_space}
use Rattle.schema_text.specs.declared.word.PolicyWord.{PolicyWord}
use Rattle.schema_text.specs.declared.word.PolicyWord.TheVariants.{Count, Weight}
use Rattle.schema_text.specs.Schema.{SchemaValue}

-- two views
abbrev two_views : List ViewDef
two_views = record { name = codes "v"; depths = 1 ∷ 1 ∷ [] } ∷ record { name = codes "w"; depths = 0 ∷ 2 ∷ [] } ∷ []

-- measures over the small space, with these views
abbrev over_small_space : PolicyWord → ShapeValue → SchemaValue
over_small_space policy shape = record { policy = policy; measures = shape.measures; names = codes "f" ∷ codes "p" ∷ []; dims = small_space; views = two_views }

-- a number; a distribution before a number; two numbers, where cells weigh by the sum of the second
abbrev pub counted : SchemaValue
counted = over_small_space Count one_number

abbrev pub graded : SchemaValue
graded = over_small_space Count parts_and_number

abbrev pub weighed : SchemaValue
weighed = over_small_space (Weight 1) second_weighs

-- a line of a word and fields after it, a TAB before each
abbrev pub line_with : List ℕ → List (List ℕ) → List ℕ
line_with word fields = word ++ flat_map (λ field. 9 ∷ field) fields
