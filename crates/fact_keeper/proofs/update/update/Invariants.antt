use Rattle.std.proofs.Common.{◌≡◌, ◌+◌, ◌≤◌, length, vec_len, vec_capacity}
use Rattle.std.specs.Prelude.{fold, IsTrue}
use Rattle.fact_keeper.specs.Batch.{put, updated}
use Rattle.fact_keeper.specs.Order.{AscendsBy}
use Rattle.fact_keeper.proofs.update.update.Given as goal

-- what is left to put gives the result, and has room; where the entries ascend, they go on doing so
abbrev pub invariant-new : goal.invariant-new
invariant-new g l = record {
  can_next : (goal.iterator-new g).can_next l.entry-iterator;
  is_finite : (goal.iterator-new g).is_finite l.entry-iterator;
  result : fold (put g.T.Entry.id_of) l.entries.items l.entry-iterator.rest.items ≡ updated g.T.Entry.id_of l.gone l.fn.new.items l.fn.entries.items;
  order : IsTrue l.ascend → AscendsBy g.T.Entry.id_of l.entries.items;
  room : vec_len l.entries + length l.entry-iterator.rest.items ≤ vec_capacity l.entries;
}
