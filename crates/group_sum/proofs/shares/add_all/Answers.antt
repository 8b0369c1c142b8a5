use Rattle.std.proofs.Common.{ℕ, sym, subst}
use Rattle.group_sum.specs.declared.shares.Share.{Share}
use Rattle.group_sum.specs.Shares.{IsShare}
use Rattle.group_sum.specs.Terms.{AddsUnits, FitsUnits}
use Rattle.group_sum.proofs.Gathered.{add_up_next, add_up_none, fits_next}
use Rattle.group_sum.proofs.shares.add_all.Goals as goal

-- before the first share nothing is added up
pub loop-share-init : goal.loop-share-init
loop-share-init c = record { up = add_up_none _ c.requires.none; terms = c.requires.terms }

-- the share fits, since all do in any order
pub add_units-requires-clause-within : goal.add_units-requires-clause-within
add_units-requires-clause-within c =
    let whole = subst (λ (s : Share). IsShare c.args.terms.now.columns s) (sym c.share-item.is) (c.requires.shares c.loop-share.share-index c.share-item.result c.loop-share-test.true) in
    subst (λ (n : ℕ). FitsUnits c.loop-share.terms.terms c.share-item.result.den n c.share-item.result.weight c.share-item.result.cols) (sym c.units.ensures)
    (fits_next c.args.shares.now c.loop-share.share-index c.share-item.result c.loop-share-test.true c.share-item.is c.args.terms.now.columns whole c.loop-share.terms c.loop-share.invariant.up c.requires.within)

-- one share more is added up
pub loop-share-preserved : goal.loop-share-preserved
loop-share-preserved c =
    let whole = subst (λ (s : Share). IsShare c.args.terms.now.columns s) (sym c.share-item.is) (c.requires.shares c.loop-share.share-index c.share-item.result c.loop-share-test.true) in
    record {
      up = add_up_next c.args.shares.now c.loop-share.share-index c.share-item.result c.loop-share-test.true c.share-item.is c.args.terms.now.columns whole c.loop-share.terms c.loop-share.invariant.up c.add_units.new.self
          (subst (λ (n : ℕ). AddsUnits c.loop-share.terms c.add_units.new.self c.share-item.result.den n c.share-item.result.weight c.share-item.result.cols) c.units.ensures c.in_ok-add_units.ensures.ok);
      terms = c.in_ok-add_units.ensures.terms;
    }
