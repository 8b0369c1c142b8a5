-- One more is kept.
use Rattle.std.proofs.Common.{◌≡◌, ◌+◌, suc, get_or, set, ap, ◌∙◌, arith}
use Rattle.view_store.specs.Drafts.{kept_entry}
use Rattle.view_store.proofs.Keeping.{kept_first, kept_first-all, kept_first-next}
use Rattle.view_store.proofs.drafts.keep_each.Goals as goal

pub loop-i-preserved : goal.loop-i-preserved
loop-i-preserved c =
    let i = c.loop-i.i in
    let entry = c.index-entries-i.result in
    let next : suc i ≡ i + 1 = omega arith in
    ap (set c.loop-i.entries i) c.keep.ensures ∙ ap (λ entries. set entries i (kept_entry (get_or entries i entry))) c.loop-i.invariant
    ∙ kept_first-next i c.args.entries.now entry c.loop-i-test.true ∙ ap (λ n. kept_first n c.args.entries.now) next

pub returns : goal.returns
returns c = c.loop-i.invariant ∙ kept_first-all c.loop-i.i c.args.entries.now c.loop-i-test.false
