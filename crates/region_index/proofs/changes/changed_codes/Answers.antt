-- A code is one of the pairs' where a pair has it.
use Rattle.std.proofs.Common.{◌∙◌, ap, ◌++◌}
use Rattle.std.specs.Prelude.{◌==◌}
use Rattle.dim_tree.proofs.Renaming.{list_any-map}
use Rattle.cube_model.specs.Cells.{is_among}
use Rattle.region_index.specs.Changes.{Pair}
use Rattle.region_index.proofs.changes.changed_codes.Goals as goal

pub returns-clause-named : goal.returns-clause-named
returns-clause-named c = λ code.
    c.sort_distinct.ensures.same code
    ∙ ap (λ codes. is_among codes code) c.in_ok-codes_in.ensures
    ∙ list_any-map (λ m. m == code) (λ (pair : Pair). pair.0) (c.args.puts.now ++ c.args.drops.now)
