-- The regions of a table's entries.
use Rattle.std.proofs.Common.{ℕ, List, map}
use Rattle.std.specs.Prelude.{All}
use Rattle.std.proofs.lemmas.List.Elements.{All-map}
use Rattle.cube_model.specs.Tree.{Dimension}
use Rattle.exact_fraction.specs.declared.quotients.Quotient.{Quotient}
use Rattle.group_sum.specs.Terms.{TermList}
use Rattle.region_algebra.specs.Space.{IsRegion}
use Rattle.schema_text.specs.Schema.{SchemaValue}
use Rattle.script_answers.specs.declared.figures.Figure.{Figure}
use Rattle.script_answers.specs.Answers.{table_entry}

-- an entry keeps its region
pub regions-kept : (schema : SchemaValue) (figure : Figure) (dims : List Dimension) (entries : List (List ℕ × TermList)) → All (λ entry. IsRegion dims entry.0) entries
    → All (λ entry. IsRegion dims entry.0) (map (table_entry schema figure) entries)
regions-kept schema figure dims entries regions = All-map (λ (entry : List ℕ × List Quotient). IsRegion dims entry.0) (table_entry schema figure) entries regions
