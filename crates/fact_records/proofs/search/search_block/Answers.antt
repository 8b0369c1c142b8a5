use Rattle.std.proofs.Common.{rules}
use Rattle.std.proofs.lemmas.List.Sorted.{answers_always}
use Rattle.fact_records.proofs.IdSearch.{searched-ids}
use Rattle.fact_records.proofs.search.search_block.Goals as goal

-- the closure gives the id itself
pub returns : goal.returns
returns c =
    let ids = c.binary_search_by_key.ensures in
    let by_id = ids.position (λ id. id) (answers_always _ _ _ (λ f a r g called. search rules)) in
    let found = searched-ids c.args.block.now c.ids-ids.result.now c.ids-ids.ensures c.requires c.args.id c.binary_search_by_key.result ids.bound by_id in
    record { found = found.found; absent = found.absent }
