-- A change of the kind adds its whole share, and another adds nothing.
use Rattle.std.proofs.Common.{refl, sym, ◌∙◌}
use Rattle.view_store.proofs.Alone.{HasShare-next, HasShare-other, one-change, one-fits}
use Rattle.view_store.proofs.Shares.{HasShares-none}
use Rattle.view_store.proofs.drafts.raise_by_all.Goals as goal
use Rattle.view_store.proofs.drafts.raise_by_all.Goals.{then-change-put+in_ok-raise, else-change-put}

pub loop-change-init : goal.loop-change-init
loop-change-init c = record {
  shares = HasShares-none c.args.terms.now.columns c.args.cuts.now.dims c.args.code c.args.terms.now;
  over = record { columns_are = refl; are_terms = c.requires.terms };
}

pub raise-requires-clause-width : goal.raise-requires-clause-width
raise-requires-clause-width c =
    let one = one-change c.args.cuts.now.dims c.args.cuts.now.depths c.args.terms.now.columns c.args.put c.args.changes.now c.args.code c.args.terms.now c.loop-change.terms c.loop-change.change-index c.change-item.result c.loop-change-test.true c.change-item.is
    c.requires.holds c.requires.changes c.loop-change.invariant in
    rw c.share.ensures (one.width ∙ sym c.loop-change.invariant.over.columns_are)

pub raise-requires-clause-within : goal.raise-requires-clause-within
raise-requires-clause-within c =
    rw c.share.ensures (one-fits c.args.cuts.now.dims c.args.cuts.now.depths c.args.terms.now.columns c.args.put c.args.changes.now c.args.code c.args.terms.now c.loop-change.terms c.loop-change.change-index c.change-item.result c.loop-change-test.true c.change-item.is
    c.requires.holds c.requires.changes c.loop-change.invariant c.if-change-put.true c.requires.within)

pub loop-change-preserved : goal.loop-change-preserved
loop-change-preserved c = elim c.if-change-put.branch [
  | then-change-put+in_ok-raise w ↦
      rw w.terms-is (HasShare-next c.args.cuts.now.dims c.args.cuts.now.depths c.args.terms.now.columns c.args.put c.args.changes.now c.args.code c.args.terms.now c.loop-change.terms c.loop-change.change-index c.change-item.result c.loop-change-test.true c.change-item.is
      c.requires.holds c.requires.changes c.loop-change.invariant w.raise.new.terms w.if-change-put.true (rw w.share.ensures at w.in_ok-raise.ensures.ok) w.raise.ensures.terms)
  | else-change-put w ↦
      rw w.terms-is (HasShare-other c.args.cuts.now.dims c.args.cuts.now.depths c.args.terms.now.columns c.args.put c.args.changes.now c.args.code c.args.terms.now c.loop-change.terms c.loop-change.change-index c.change-item.result c.loop-change-test.true c.change-item.is
      c.requires.holds c.requires.changes c.loop-change.invariant w.if-change-put.false)
]
