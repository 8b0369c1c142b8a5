-- Sorting moves the numbers, and the repeats go.
use Rattle.std.proofs.Common.{eqb, sym, subst, ◌∙◌, ap}
use Rattle.std.specs.Prelude.{◌==◌}
use Rattle.std.proofs.lemmas.List.Filters.{dedup_is}
use Rattle.std.proofs.lemmas.List.Sorted.{list_any-IsPermutation}
use Rattle.cube_model.specs.Cells.{is_among}
use Rattle.region_index.specs.Content.{AreAscending}
use Rattle.region_index.proofs.Ascent.{any-dedup, ascends-dedup}
use Rattle.region_index.proofs.changes.sort_distinct.Goals as goal

pub returns-clause-ascending : goal.returns-clause-ascending
returns-clause-ascending c =
    subst AreAscending (sym (dedup_is eqb _ _ c.dedup.ensures.filtered)) (ascends-dedup _ c.sort_unstable.ensures.sorted)

pub returns-clause-same : goal.returns-clause-same
returns-clause-same c = λ id.
    ap (λ xs. is_among xs id) (dedup_is eqb _ _ c.dedup.ensures.filtered)
    ∙ any-dedup (λ m. m == id) _
    ∙ sym (list_any-IsPermutation (λ m. m == id) _ _ c.sort_unstable.ensures.permutation)
