-- A change of the kind adds its share, and another adds nothing.
use Rattle.view_store.proofs.AllChanges.{HasFacts-next, HasFacts-other, change-fits, is_change, kind-other, kind-same}
use Rattle.view_store.proofs.drafts.add_changes.Goals as goal
use Rattle.view_store.proofs.drafts.add_changes.Goals.{then-change-put+in_ok-add_change, else-change-put}

pub add_change-requires-clause-within : goal.add_change-requires-clause-within
add_change-requires-clause-within c =
    let one = is_change c.args.cuts.now.dims c.args.cuts.now.depths c.args.columns c.args.entries.now c.args.put c.args.changes.now c.args.drafts.now c.loop-change.drafts c.loop-change.change-index c.change-item.result c.loop-change-test.true c.change-item.is c.loop-change.invariant c.requires.changes in
    change-fits c.args.cuts.now.dims c.args.cuts.now.depths c.args.columns c.args.entries.now c.args.put c.args.changes.now c.args.drafts.now c.loop-change.drafts c.loop-change.change-index c.change-item.result c.loop-change-test.true c.change-item.is c.loop-change.invariant one
    (kind-same c.change-item.result.put c.args.put c.if-change-put.true) c.requires.within

pub loop-change-preserved : goal.loop-change-preserved
loop-change-preserved c =
    let one = is_change c.args.cuts.now.dims c.args.cuts.now.depths c.args.columns c.args.entries.now c.args.put c.args.changes.now c.args.drafts.now c.loop-change.drafts c.loop-change.change-index c.change-item.result c.loop-change-test.true c.change-item.is c.loop-change.invariant c.requires.changes in
    elim c.if-change-put.branch [
      | then-change-put+in_ok-add_change w ↦
          rw w.drafts-is (HasFacts-next c.args.cuts.now.dims c.args.cuts.now.depths c.args.columns c.args.entries.now c.args.put c.args.changes.now c.args.drafts.now c.loop-change.drafts c.loop-change.change-index c.change-item.result c.loop-change-test.true c.change-item.is c.loop-change.invariant
          w.add_change.new.drafts one (kind-same c.change-item.result.put c.args.put w.if-change-put.true) w.in_ok-add_change.ensures.shares w.in_ok-add_change.ensures.keys w.in_ok-add_change.ensures.over)
      | else-change-put w ↦
          rw w.drafts-is (HasFacts-other c.args.cuts.now.dims c.args.cuts.now.depths c.args.columns c.args.entries.now c.args.put c.args.changes.now c.args.drafts.now c.loop-change.drafts c.loop-change.change-index c.change-item.result c.loop-change-test.true c.change-item.is c.loop-change.invariant
          (kind-other c.change-item.result.put c.args.put w.if-change-put.false))
    ]
