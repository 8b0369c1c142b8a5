-- The share of the row is added to the draft in place.
use Rattle.std.proofs.Common.{arith, subst, sym}
use Rattle.std.specs.Option.{OnSome}
use Rattle.staged_map.specs.Staged.{Sets}
use Rattle.view_store.proofs.Drafting.{raised-adds, raised-whole}
use Rattle.view_store.proofs.drafts.add_share.Goals as goal

pub returns-in-Some-clause-adds : goal.returns-in-Some-clause-adds
returns-in-Some-clause-adds c =
    let raised = c.raise.new.terms in
    let sets = subst (λ r. OnSome r (Sets c.args.drafts.now (c.get_mut.follows.lender raised) c.args.code raised)) c.in-Some.is (c.get_mut.follows.holds raised) in
    raised-adds c.args.columns c.args.entries.now c.args.code c.args.drafts.now _ c.in-Some.terms.now raised (sym c.in-Some.ensures.value) sets c.args.share.now c.args.weight c.requires.drafts c.raise.ensures.terms c.raise.result c.raise.ensures.ok

pub returns-in-Some-clause-whole : goal.returns-in-Some-clause-whole
returns-in-Some-clause-whole c =
    let raised = c.raise.new.terms in
    let sets = subst (λ r. OnSome r (Sets c.args.drafts.now (c.get_mut.follows.lender raised) c.args.code raised)) c.in-Some.is (c.get_mut.follows.holds raised) in
    raised-whole c.args.columns c.args.entries.now c.args.code c.args.drafts.now _ c.in-Some.terms.now raised (sym c.in-Some.ensures.value) sets c.args.share.now c.args.weight c.requires.drafts c.raise.ensures.terms c.raise.result c.raise.ensures.ok c.raise.ensures.err
    (omega (arith, c.if-weight-eq0.false)) c.requires.facts
