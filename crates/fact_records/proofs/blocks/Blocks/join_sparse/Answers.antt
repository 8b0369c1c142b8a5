use Rattle.std.proofs.Common.{◌-◌}
use Rattle.fact_records.proofs.Edits.{joins}
use Rattle.fact_records.proofs.blocks.Blocks.join_sparse.Goals as goal

pub returns-then-are_sparse : goal.returns-then-are_sparse
returns-then-are_sparse c = joins c.args.self.now c.join.new.self c.args.block c.if-are_sparse.ensures c.requires.filled c.join.ensures.used c.join.ensures.stock

pub returns-then-are_sparse-2 : goal.returns-then-are_sparse-2
returns-then-are_sparse-2 c = joins c.args.self.now c.join-then-are_sparse-2.new.self (c.args.block - 1) c.if-are_sparse-2.ensures c.requires.filled c.join-then-are_sparse-2.ensures.used c.join-then-are_sparse-2.ensures.stock
