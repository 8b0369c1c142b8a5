-- A fact more is read, and at the end all are.
use Rattle.std.proofs.Common.{length, refl}
use Rattle.std.proofs.lemmas.Option.{slice_get_read}
use Rattle.store_audit.proofs.Reading.{all-good, read-next}
use Rattle.store_audit.proofs.facts.read_all.Goals as goal

pub loop-place-preserved : goal.loop-place-preserved
loop-place-preserved c =
    let at = slice_get_read c.args.kept.now (length c.args.kept.now) c.loop-place.place c.index-kept-place.result refl c.loop-place-test.true c.index-kept-place.is in
    read-next _ _ _ _ _ _ _ c.loop-place.invariant c.index-kept-place.result at _ _ c.in_default.ensures.judged c.in_default.ensures.put c.in_default.ensures.order c.in_default.ensures.spare

pub returns-clause-good : goal.returns-clause-good
returns-clause-good c = all-good _ _ _ _ _ _ _ c.loop-place.invariant c.loop-place-test.false
