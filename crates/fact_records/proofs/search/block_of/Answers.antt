use Rattle.std.proofs.Common.{[], ◌-◌, ◌<◌, length, arith, rules}
use Rattle.std.proofs.lemmas.Bool.Decides.{nat_tests}
use Rattle.std.proofs.lemmas.List.{get_or_read}
use Rattle.std.proofs.lemmas.List.Sorted.{answers_always}
use Rattle.fact_records.specs.Cut.{id_at}
use Rattle.fact_records.proofs.BlockPlaces.{cut_found, cut_absent, cut_last}
use Rattle.fact_records.proofs.search.block_of.Goals as goal

pub returns-in-Ok-clause-cut : goal.returns-in-Ok-clause-cut
returns-in-Ok-clause-cut c =
    let found = c.in-Ok.ensures.position (λ block. id_at block 0) (answers_always _ _ _ (λ f a r g called. search rules)) in
    cut_found c.args.used.now c.requires.ascending c.requires.filled c.args.id c.in-Ok.block c.in-Ok.ensures.bound (found [])

pub returns-in-Err-clause-cut : goal.returns-in-Err-clause-cut
returns-in-Err-clause-cut c =
    let absent = c.in-Err.ensures.position (λ block. id_at block 0) (answers_always _ _ _ (λ f a r g called. search rules)) in
    cut_absent c.args.used.now c.requires.ascending c.requires.filled c.args.id c.in-Err.next _ c.saturating_sub.ensures c.in-Err.ensures.bound c.requires.some absent

-- the last block begins with a smaller id
pub returns-then-first_id-id-clause-cut : goal.returns-then-first_id-id-clause-cut
returns-then-first_id-id-clause-cut c =
    let some = c.requires.some in
    let read = get_or_read c.args.used.now (length c.args.used.now - 1) _ (omega (arith, some)) c.index-used-last.is [] in
    let less : c.first_id.result < c.args.id = grind (arith, nat_tests, c.if-first_id-id.true) in
    cut_last c.args.used.now c.requires.ascending c.requires.filled c.args.id (length c.args.used.now - 1) (omega (arith, some)) (rw (← read, ← c.first_id.ensures) less)
