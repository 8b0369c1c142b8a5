use Rattle.std.proofs.Common.{◌≤◌, length, arith}
use Rattle.std.proofs.lemmas.List.{nil_from_length}
use Rattle.std.proofs.lemmas.Bool.Decides.{nat_tests}
use Rattle.fact_records.specs.BlockList.{block_at}
use Rattle.fact_records.proofs.Edits.{had_in_all, removed, removed_joined, retired}
use Rattle.fact_records.proofs.blocks.Blocks.remove.Goals as goal

pub returns-then-len_of-eq0 : goal.returns-then-len_of-eq0
returns-then-len_of-eq0 c =
    let old = c.args.self.now in
    let mid = c.remove_within-fact.new.self in
    let none = nil_from_length (block_at mid.used c.args.place.block) (grind (arith, nat_tests, c.if-len_of-eq0.true, c.len_of.ensures.count)) in
    let done = retired old c.args.place.block c.args.place.at c.requires.place c.requires.filled mid c.retire.new.self c.remove_within-fact.ensures.used c.remove_within-fact.ensures.stock none c.retire.ensures.used c.retire.ensures.stock in
    record { had = had_in_all old c.args.place.block c.args.place.at c.requires.place c.requires.filled _ c.remove_within-fact.ensures.had; facts = done.facts; filled = done.filled; spare = done.spare }

pub returns-else-len_of-eq0 : goal.returns-else-len_of-eq0
returns-else-len_of-eq0 c =
    let old = c.args.self.now in
    let mid = c.remove_within-fact.new.self in
    let some : 1 ≤ length (block_at mid.used c.args.place.block) = grind (arith, nat_tests, c.if-len_of-eq0.false, c.len_of.ensures.count) in
    let out = removed old c.args.place.block c.args.place.at c.requires.place c.requires.filled mid c.remove_within-fact.ensures.used c.remove_within-fact.ensures.stock some in
    let done = removed_joined old mid c.join_sparse.new.self c.args.place.block c.args.place.at c.requires.place c.requires.filled out c.join_sparse.ensures in
    record { had = had_in_all old c.args.place.block c.args.place.at c.requires.place c.requires.filled _ c.remove_within-fact.ensures.had; facts = done.facts; filled = done.filled; spare = done.spare }
