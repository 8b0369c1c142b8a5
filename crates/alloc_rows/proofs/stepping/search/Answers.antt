-- The closure gives a row's cell.
use Rattle.std.proofs.Common.{rules}
use Rattle.std.proofs.lemmas.List.Sorted.{answers_always}
use Rattle.cube_base.proofs.Search.{searched}
use Rattle.cube_model.proofs.Ascending.{ascends_later}
use Rattle.alloc_rows.proofs.RowPlaces.{key, no_row}
use Rattle.alloc_rows.proofs.stepping.search.Goals as goal

pub returns : goal.returns
returns c =
    let facts = c.binary_search_by_key.ensures in
    let by_cell = facts.position key (answers_always _ _ _ (λ f a r g called. search rules)) in
    let found = searched key no_row c.args.rows.now (λ i j before within. ascends_later key 0 c.args.rows.now c.requires i j no_row no_row before within) c.args.cell c.binary_search_by_key.result facts.bound by_cell in
    record { found = found.found; absent = found.absent }
