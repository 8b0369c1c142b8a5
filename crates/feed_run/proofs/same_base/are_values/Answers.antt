use mir.Val.{SFits}
use Rattle.std.proofs.Common.{get_or, pos, w64, refl, sym, ◌∙◌, arith, rules}
use Rattle.std.specs.Ordering.{int_eq}
use Rattle.std.proofs.lemmas.Int.{to_z-of_z}
use Rattle.std.proofs.lemmas.Option.{get_or_from_slice_get}
use Rattle.feed_run.proofs.SameBase.{alike-all, alike-next, unlike-here, unlike-lengths}
use Rattle.feed_run.proofs.same_base.are_values.Goals as goal

pub returns-then-values-count : goal.returns-then-values-count
returns-then-values-count c = unlike-lengths int_eq c.args.values.now c.args.cols.now (λ same. c.if-values-count.true (same ∙ sym c.len-count.ensures.count))

pub returns-then-not-is_value : goal.returns-then-not-is_value
returns-then-not-is_value c =
    let values_fit : SFits w64 (get_or c.args.values.now c.loop-i.i (pos 0)) = search rules in
    let cols_fit : SFits w64 c.get.result = search rules in
    let test = simp to_z-of_z at c.is_value.ensures in
    unlike-here int_eq c.args.values.now c.args.cols.now c.loop-i.i (pos 0) (get_or c.args.values.now c.loop-i.i (pos 0)) c.get.result c.get.result (omega (arith, c.loop-i-test.true, c.if-values-count.false)) (omega (arith, c.loop-i-test.true, c.len-count.ensures.count)) refl
    (get_or_from_slice_get c.args.cols.now c.loop-i.i c.get.result c.get.result c.get.ensures) c.loop-i.invariant (sym test ∙ c.if-not-is_value.true)

pub loop-i-preserved : goal.loop-i-preserved
loop-i-preserved c =
    let values_fit : SFits w64 (get_or c.args.values.now c.loop-i.i (pos 0)) = search rules in
    let cols_fit : SFits w64 c.get.result = search rules in
    let test = simp to_z-of_z at c.is_value.ensures in
    alike-next int_eq c.args.values.now c.args.cols.now c.loop-i.i (pos 0) (get_or c.args.values.now c.loop-i.i (pos 0)) c.get.result c.get.result (omega (arith, c.loop-i-test.true, c.if-values-count.false)) (omega (arith, c.loop-i-test.true, c.len-count.ensures.count)) refl
    (get_or_from_slice_get c.args.cols.now c.loop-i.i c.get.result c.get.result c.get.ensures) c.loop-i.invariant (sym test ∙ c.if-not-is_value.false)

pub returns : goal.returns
returns c =
    alike-all int_eq c.args.values.now c.args.cols.now c.loop-i.i (omega (arith, c.loop-i-test.false, c.loop-i.auto.i-end, c.if-values-count.false)) (omega (arith, c.loop-i-test.false, c.loop-i.auto.i-end, c.len-count.ensures.count)) c.loop-i.invariant
