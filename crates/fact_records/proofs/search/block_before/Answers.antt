use Rattle.std.proofs.Common.{arith}
use Rattle.std.proofs.lemmas.Option.{IfSome_then}
use Rattle.fact_records.proofs.BlockStarts.{length-counted, starts-rise}
use Rattle.fact_records.proofs.search.block_before.Goals as goal

pub block_of-requires : goal.block_of-requires
block_of-requires c = rw c.requires.counted (starts-rise c.args.used.now c.requires.filled)

pub returns : goal.returns
returns c =
    let many = length-counted c.args.used.now c.args.starts.now c.requires.counted in
    record {
      in_range = IfSome_then c.block_of.result c.block_of.ensures.found (λ block before. omega (arith, many, before.in_range));
      found = c.block_of.ensures.found;
      none = λ is_none. omega (arith, many, c.block_of.ensures.none is_none);
    }
