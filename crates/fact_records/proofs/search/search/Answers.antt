use Rattle.std.proofs.Common.{[]}
use Rattle.std.proofs.lemmas.List.{get_or_read}
use Rattle.fact_records.specs.BlockList.{block_at}
use Rattle.fact_records.specs.Cut.{IsIdAt, IsGapAt}
use Rattle.fact_records.proofs.BlockPlaces.{block_ascends, id_at_in_all, gap_at_in_all}
use Rattle.fact_records.proofs.search.search.Goals as goal

-- the block that was read is that of the search
pub search_block-requires : goal.search_block-requires
search_block-requires c =
    let read = get_or_read c.args.used.now c.block_of-block.result _ c.block_of-block.ensures.in_range c.index-used-block.is [] in
    rw read (block_ascends c.args.used.now c.requires.ascending c.block_of-block.result c.block_of-block.ensures.in_range)

pub returns-in-Ok-clause-id : goal.returns-in-Ok-clause-id
returns-in-Ok-clause-id c =
    let read = get_or_read c.args.used.now c.block_of-block.result _ c.block_of-block.ensures.in_range c.index-used-block.is [] in
    let here : IsIdAt (block_at c.args.used.now c.block_of-block.result) c.args.id c.in-Ok.at = rw (← read) c.in-Ok.ensures.found in
    id_at_in_all c.args.used.now c.requires.ascending c.args.id c.block_of-block.result c.in-Ok.at c.block_of-block.ensures.in_range here

pub returns-in-Err-clause-gap : goal.returns-in-Err-clause-gap
returns-in-Err-clause-gap c =
    let read = get_or_read c.args.used.now c.block_of-block.result _ c.block_of-block.ensures.in_range c.index-used-block.is [] in
    let gap : IsGapAt (block_at c.args.used.now c.block_of-block.result) c.args.id c.in-Err.at = rw (← read) c.in-Err.ensures.absent in
    gap_at_in_all c.args.used.now c.requires.ascending c.args.id c.block_of-block.result c.in-Err.at c.block_of-block.ensures.in_range c.block_of-block.ensures.cut gap
