-- The closure gives an entry's id.
use Rattle.std.proofs.Common.{rules}
use Rattle.std.proofs.lemmas.List.Sorted.{answers_always}
use Rattle.cube_base.proofs.Search.{searched}
use Rattle.fact_keeper.proofs.order.search.Goals as goal

pub returns : goal.returns
returns g c =
    let facts = c.binary_search_by_key.ensures in
    let by_id = facts.position g.T.Entry.id_of (answers_always _ _ _ (λ f a r g called. search rules)) in
    let found = searched g.T.Entry.id_of c.args.entry.now c.args.entries.now (λ i j lt in_range. c.requires i j c.args.entry.now lt in_range) (g.T.Entry.id_of c.args.entry.now) c.binary_search_by_key.result facts.bound (rw c.id-id.ensures at by_id) in
    record { found = found.found; absent = found.absent }
