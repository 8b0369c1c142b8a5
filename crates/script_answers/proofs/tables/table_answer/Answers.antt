-- The regions that are told are those of the table.
use Rattle.std.proofs.Common.{ℕ, ◌∙◌, List, ap, map, subst, sym}
use Rattle.std.specs.Prelude.{All}
use Rattle.exact_fraction.specs.declared.quotients.Quotient.{Quotient}
use Rattle.region_algebra.specs.Space.{IsRegion}
use Rattle.script_answers.specs.Answers.{table_entry}
use Rattle.script_answers.proofs.Entries.{regions-kept}
use Rattle.script_answers.proofs.tables.table_answer.Goals as goal

pub returns-clause-places : goal.returns-clause-places
returns-clause-places c =
    let dims = c.args.cube.now.schema.dims in
    let told = c.in_ok-told.ensures ∙ ap (map (table_entry c.schema.result.now c.args.figure)) c.as_slice-2.ensures in
    subst (All (λ (entry : List ℕ × List Quotient). IsRegion dims entry.0)) (sym told) (regions-kept c.schema.result.now c.args.figure dims c.in-Ok.entries c.in-Ok.ensures.regions)
