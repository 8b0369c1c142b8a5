-- The line that a drill writes.
use Rattle.std.specs.Prelude.{ℕ, List, [], ◌∷◌, ◌++◌, length, codes}
use Rattle.std.specs.Fmt.{decimal}
use Rattle.cube_model.specs.declared.edit.Fact.{Fact}
use Rattle.cube_model.specs.declared.term.Term.{Term}
use Rattle.cube_model.specs.Allocation.{ExtendedFact, extended, row_count}
use Rattle.cube_model.specs.Answer.{answer}
use Rattle.exact_fraction.specs.One.{one_of}
use Rattle.fact_records.specs.Shape.{width_of_all}
use Rattle.schema_text.specs.Schema.{policy_of}
use Rattle.script_text.specs.Decimals.{exact_text}
use Rattle.text_lines.specs.Text.{line_text}
use Rattle.drill_run.specs.Doing.{Tally, drill_of}
use Rattle.drill_run.specs.Space.{drill_schema, everything}

-- the rows of facts, and what these add up to altogether
abbrev pub drill_rows : List Fact → List ExtendedFact
drill_rows facts = extended (policy_of drill_schema) drill_schema.dims facts

abbrev pub terms_of : List Fact → List Term
terms_of facts = answer (width_of_all drill_schema.measures) drill_schema.dims (drill_rows facts) everything

-- the number that was drilled, the facts that are left, their rows, and how many were refreshed
abbrev pub count_fields : ℕ → Tally → List (List ℕ)
count_fields n tally = decimal n ∷ decimal (length tally.facts) ∷ decimal (row_count (drill_rows tally.facts)) ∷ decimal tally.refreshed ∷ []

-- the count and the sum of all
abbrev pub total_fields : List Term → List (List ℕ)
total_fields terms = exact_text (one_of 0 terms).exact ∷ exact_text (one_of 1 terms).exact ∷ []

abbrev pub line_of_tally : ℕ → Tally → List ℕ
line_of_tally n tally = line_text (codes "drill") (count_fields n tally ++ total_fields (terms_of tally.facts))

-- the line of the drill of a number
abbrev pub summary_of : ℕ → List ℕ
summary_of n = line_of_tally n (drill_of n)
