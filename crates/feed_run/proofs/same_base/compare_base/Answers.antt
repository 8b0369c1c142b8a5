use Rattle.std.proofs.Common.{refl, ◌∙◌}
use Rattle.std.proofs.lemmas.Result.{err_from_is_err_and}
use Rattle.feed_run.proofs.SameBase.{compares-other, compares-same, compares-text, not-false, not-true}
use Rattle.feed_run.proofs.same_base.compare_base.Goals as goal

pub returns-in_err-text : goal.returns-in_err-text
returns-in_err-text c = let exit = err_from_is_err_and c.from_residual.result c.from_residual.ensures.1 in rw (exit.1, exit.2) refl

pub returns-then-ne : goal.returns-then-ne
returns-then-ne c =
    let text = c.as_slice.ensures ∙ c.in_ok-text.ensures.text in
    let other = rw (c.text.ensures, text) at c.if-ne.ensures in
    compares-text c.args.base.now c.args.schema.now c.args.facts.now (not-true _ other)

pub first_difference-requires : goal.first_difference-requires
first_difference-requires c = rw c.space.ensures.dims c.requires

pub returns-in-None : goal.returns-in-None
returns-in-None c =
    let text = c.as_slice.ensures ∙ c.in_ok-text.ensures.text in
    let same = rw (c.text.ensures, text) at c.if-ne.ensures in
    compares-same c.args.base.now c.args.schema.now c.args.facts.now (not-false _ same) (rw c.facts.ensures at c.in-None.ensures)

pub returns : goal.returns
returns c =
    let text = c.as_slice.ensures ∙ c.in_ok-text.ensures.text in
    let same = rw (c.text.ensures, text) at c.if-ne.ensures in
    compares-other c.args.base.now c.args.schema.now c.args.facts.now c.first_difference.result (not-false _ same) (rw c.facts.ensures at c.first_difference.ensures) c.in_default.not-None
