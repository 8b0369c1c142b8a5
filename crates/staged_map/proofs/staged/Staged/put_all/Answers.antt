-- The last of the entries that are left is put, and the others are left.
use Rattle.staged_map.proofs.Entries.{PutsLeft-next}
use Rattle.staged_map.proofs.staged.Staged.put_all.Goals as goal

pub loop-key-preserved : goal.loop-key-preserved
loop-key-preserved g c = PutsLeft-next _ _ _ _ _ _ _ c.in-Some.ensures.items c.loop-key.invariant c.put.ensures
