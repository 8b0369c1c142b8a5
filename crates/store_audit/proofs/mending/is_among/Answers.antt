-- The closure gives an entry's id.
use Rattle.std.proofs.Common.{Err, Ok, rules, sym, ◌∙◌}
use Rattle.std.proofs.lemmas.List.Sorted.{answers_always}
use Rattle.cube_base.proofs.Search.{searched}
use Rattle.fact_keeper.specs.Batch.{rows_id}
use Rattle.store_audit.specs.Loading.{rows_told}
use Rattle.store_audit.proofs.Kept.{equal-at, equal-nowhere, no-rows, rises}
use Rattle.store_audit.proofs.mending.is_among.Goals as goal

pub returns-in-Ok : goal.returns-in-Ok
returns-in-Ok c =
    let kept = c.args.kept.now in
    let by_id = c.in-Ok.ensures.position rows_id (answers_always _ _ _ (λ f a r g called. search rules)) in
    let found = searched rows_id no-rows kept (rises kept c.requires) c.args.id (Ok c.in-Ok.place) c.in-Ok.ensures.bound by_id in
    c.are_rows_of.ensures ∙ sym (equal-at (rows_told c.args.id c.args.spread.now) kept c.in-Ok.place c.index-kept-place.result c.requires found.found c.index-kept-place.is)

pub returns-in-Err : goal.returns-in-Err
returns-in-Err c =
    let kept = c.args.kept.now in
    let by_id = c.in-Err.ensures.position rows_id (answers_always _ _ _ (λ f a r g called. search rules)) in
    let found = searched rows_id no-rows kept (rises kept c.requires) c.args.id (Err c.in-Err.field-0) c.in-Err.ensures.bound by_id in
    sym (equal-nowhere (rows_told c.args.id c.args.spread.now) kept c.in-Err.field-0 found.absent)
