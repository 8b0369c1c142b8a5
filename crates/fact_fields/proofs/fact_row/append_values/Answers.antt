-- A value more is appended.
use Rattle.std.proofs.Common.{◌∙◌, ◌++◌, List, ap, arith, rules, w64, ℤ}
use Rattle.std.specs.Fmt.{signed_decimal}
use Rattle.std.proofs.lemmas.Int.{to_z-of_z}
use Rattle.std.proofs.lemmas.List.{take_all}
use Rattle.fact_records.specs.Shape.{values_of}
use Rattle.fact_fields.specs.FactRow.{value_text}
use Rattle.fact_fields.proofs.ValuesWritten.{length-values_of, text-first, text-next}
use Rattle.fact_fields.proofs.fact_row.append_values.Goals as goal

pub loop-i-init : goal.loop-i-init
loop-i-init c =
    let added = c.in_ok-append_value.ensures ∙ ap (λ z. c.args.text.now.items ++ signed_decimal z) (to_z-of_z w64 c.get.result (search rules)) in
    text-first c.args.measure.now c.args.cols _ _ c.get.result _ c.requires.within c.requires.some c.get.ensures (omega (arith, c.requires.within.first)) added

pub loop-i-preserved : goal.loop-i-preserved
loop-i-preserved c =
    let added = c.in_ok-append_value-2.ensures ∙ ap (λ z. c.push.new.self.items ++ signed_decimal z) (to_z-of_z w64 c.get-in-loop-i.result (search rules)) in
    text-next c.args.measure.now c.args.cols c.loop-i.i _ _ _ _ _ c.get-in-loop-i.result c.requires.within (omega (arith, c.loop-i.auto.i))
    (omega (arith, c.loop-i-test.true, c.width-i-end.ensures)) c.get-in-loop-i.ensures (omega (arith, c.requires.within.first)) c.loop-i.invariant c.in_ok-push.ensures.items added

pub returns : goal.returns
returns c =
    let values = values_of c.args.measure.now c.args.cols in
    let all = take_all c.loop-i.i values (omega (arith, c.loop-i-test.false, c.width-i-end.ensures, length-values_of c.args.measure.now c.args.cols c.requires.within)) in
    c.loop-i.invariant ∙ ap (λ (vs : List ℤ). c.args.text.now.items ++ value_text vs) all
