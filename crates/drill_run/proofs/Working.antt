-- The drill of 1, step by step.
use Rattle.std.proofs.Common.{◌≡◌, List, [], ◌∷◌, None, map, length, refl, ap, ◌∙◌}
use Rattle.std.specs.Prelude.{codes, pos}
use Rattle.std.specs.Fmt.{digits}
use Rattle.std.specs.List.{range_with_len}
use Rattle.cube_model.specs.declared.edit.Edit.TheVariants.{Put}
use Rattle.cube_model.specs.Allocation.{ExtendedFact, Policy, allocation, by_count, extended}
use Rattle.cube_model.specs.Answer.{answer}
use Rattle.cube_model.specs.declared.term.Term.{Term}
use Rattle.cube_model.specs.Cells.{all_cells, cells_of, is_inside, leaf_places}
use Rattle.cube_model.specs.Difference.{refreshed}
use Rattle.cube_model.specs.Tree.{Dimension, is_leaf, is_under, leaves, parent, path}
use Rattle.exact_fraction.specs.Number.{gcd, greatest_to, lcm}
use Rattle.exact_fraction.specs.One.{one_of}
use Rattle.fact_records.specs.Judge.{judge}
use Rattle.fact_records.specs.Shape.{ShapeValue}
use Rattle.fact_records.specs.declared.shape.Kind.TheVariants.{Number}
use Rattle.region_algebra.proofs.Codes.{cells_of-cons}
use Rattle.schema_text.specs.Schema.{policy_of, shape_of}
use Rattle.drill_run.specs.Doing.{drill_of}
use Rattle.drill_run.specs.Edits.{edits_of}
use Rattle.drill_run.specs.Examples.{fact_of_one, line_of_one, tally_of_one}
use Rattle.drill_run.specs.Space.{drill_schema, everything, places, times}
use Rattle.drill_run.specs.Summary.{drill_rows, line_of_tally, summary_of, terms_of}
use Rattle.drill_run.proofs.Lying.{dims-are, one-column}

-- the city is the seventh of all, and everything has all of them
city-place : leaf_places places 8 ≡ 6 ∷ []
unfolding leaf_places leaves is_leaf is_under parent path digits
city-place = refl

all-places : leaf_places places 0 ≡ range_with_len 0 64
unfolding leaf_places leaves is_leaf is_under parent path digits
all-places = refl

-- the third quarter has thirteen weeks, and everything has all of them
weeks : cells_of (times ∷ []) (29 ∷ []) ≡ range_with_len 26 13
unfolding cells_of all_cells is_inside leaves is_leaf is_under parent path digits
weeks = refl

all-weeks : cells_of (times ∷ []) (0 ∷ []) ≡ range_with_len 0 52
unfolding cells_of all_cells is_inside leaves is_leaf is_under parent path digits
all-weeks = refl

week-count : length (all_cells (times ∷ [])) ≡ 52
unfolding all_cells leaves is_leaf parent path digits
week-count = refl

-- the cells of the fact, and all cells
cells-of-fact : cells_of drill_schema.dims (8 ∷ 29 ∷ []) ≡ range_with_len 338 13
cells-of-fact = rw dims-are (cells_of-cons places (times ∷ []) 8 (29 ∷ []) ∙ rw (week-count, weeks, city-place) refl)

cells-of-everything : cells_of drill_schema.dims everything ≡ range_with_len 0 3328
cells-of-everything = rw dims-are (cells_of-cons places (times ∷ []) 0 (0 ∷ []) ∙ rw (week-count, all-weeks, all-places) refl)

policy-is : policy_of drill_schema ≡ by_count
unfolding drill_schema
policy-is = refl

-- its rows, one for each week
row_of_one : ExtendedFact
row_of_one = record { id = 1; values = pos 515 ∷ []; allocation = record { den = 13; rows = map (λ cell. (cell, 1)) (range_with_len 338 13) } }

spread-evenly : (dims : List Dimension) → cells_of dims (8 ∷ 29 ∷ []) ≡ range_with_len 338 13 → extended by_count dims (fact_of_one ∷ []) ≡ row_of_one ∷ []
unfolding extended allocation row_of_one
spread-evenly dims cells = rw cells refl

rows-of-one : drill_rows (fact_of_one ∷ []) ≡ row_of_one ∷ []
rows-of-one = ap (λ policy. extended policy drill_schema.dims (fact_of_one ∷ [])) policy-is ∙ spread-evenly drill_schema.dims cells-of-fact

-- what these add up to
term_of_one : Term
term_of_one = record { den = 13; count = 13; sums = pos 6695 ∷ [] }

add-up : (dims : List Dimension) → cells_of dims everything ≡ range_with_len 0 3328 → answer 1 dims (row_of_one ∷ []) everything ≡ term_of_one ∷ []
unfolding answer row_of_one term_of_one
add-up dims cells = rw cells refl

terms-of-one : terms_of (fact_of_one ∷ []) ≡ term_of_one ∷ []
terms-of-one =
    ap (λ width. answer width drill_schema.dims (drill_rows (fact_of_one ∷ [])) everything) one-column
    ∙ ap (λ rows. answer 1 drill_schema.dims rows everything) rows-of-one
    ∙ add-up drill_schema.dims cells-of-everything

-- the fact is accepted
one_amount : ShapeValue
one_amount = record { measures = record { name = codes "Amount"; kind = Number; first_col = 1 } ∷ []; weight = None }

shape-is : shape_of drill_schema ≡ one_amount
unfolding drill_schema one_amount
shape-is = refl

accepted : (dims : List Dimension) → cells_of dims (8 ∷ 29 ∷ []) ≡ range_with_len 338 13 → judge by_count one_amount dims (Put fact_of_one) [] ≡ None
unfolding one_amount row_of_one
accepted dims cells = rw (spread-evenly dims cells, cells) refl

judged : judge (policy_of drill_schema) (shape_of drill_schema) drill_schema.dims (Put fact_of_one) [] ≡ None
judged = ap (λ policy. judge policy (shape_of drill_schema) drill_schema.dims (Put fact_of_one) []) policy-is
    ∙ ap (λ shape. judge by_count shape drill_schema.dims (Put fact_of_one) []) shape-is
    ∙ accepted drill_schema.dims cells-of-fact

-- and is new
is-new : (policy : Policy) (dims : List Dimension) → refreshed policy dims [] (fact_of_one ∷ []) ≡ 1 ∷ []
unfolding refreshed
is-new policy dims = refl

pub edits-of-one : edits_of 1 ≡ Put fact_of_one ∷ []
edits-of-one = refl

pub tally-of-one : drill_of 1 ≡ tally_of_one
unfolding drill_of
tally-of-one = rw (judged, is-new) refl

-- the line
text-of-one : line_of_tally 1 tally_of_one ≡ line_of_one
unfolding one_of gcd greatest_to lcm digits term_of_one row_of_one
text-of-one = rw (terms-of-one, rows-of-one) refl

pub line-of-one : summary_of 1 ≡ line_of_one
line-of-one = ap (line_of_tally 1) tally-of-one ∙ text-of-one
