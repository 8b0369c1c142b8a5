-- Each turn reads the next text.
use Rattle.std.proofs.Common.{◌≡◌, ◌≤◌, ℕ, List, true, ap, ◌∙◌, sym, arith, get_or, length, take, rules, Some, FitsSigned, w64, lit<}
use Rattle.std.specs.Str.Iter.{split_steps, split_text, split_has_more, split_pattern}
use Rattle.std.specs.Str.Pattern.{FindsChar}
use Rattle.std.proofs.lemmas.Int.{to_z-of_z}
use Rattle.std.proofs.lemmas.Iterator.{YieldsList}
use Rattle.std.proofs.lemmas.Iterator.Consumers.{YieldsList-turn, YieldsList-end}
use Rattle.std.proofs.lemmas.Iterator.Splits.{YieldsList-from_str_split}
use Rattle.std.proofs.lemmas.List.{length-take, length_push}
use Rattle.cube_model.specs.Limits.{MAX_COLS}
use Rattle.text_lines.specs.Text.{number_in}
use Rattle.fact_records.specs.Values.{part_in}
use Rattle.fact_records.proofs.PartTexts.{AreRead-more, held, part_in-None, part_in-Some, parts_in-all, parts_in-fewer, parts_in-no_part, parts_in-other_count, parts_in-other_sum, texts_of}
use Rattle.fact_records.proofs.values.parts_in.Goals as goal

-- the iterator goes through the texts between the colons
texts_walked : {start items : _} (field : List ℕ) → start ≡ items → split_text {P = ℕ} items ≡ field → split_has_more items ≡ true → split_pattern items ≡ 58
    → YieldsList (split_steps FindsChar (λ a b. b ≡ a)) (λ x. x.now) start (texts_of field)
texts_walked field begun text has_more pattern =
    YieldsList-from_str_split 58 field (lit< tt) (ap split_text begun ∙ text) (ap split_has_more begun ∙ has_more) (ap split_pattern begun ∙ pattern)

pub returns-then-read-count-clause-parts : goal.returns-then-read-count-clause-parts
returns-then-read-count-clause-parts c =
    let road = texts_walked c.args.field.now c.into_iter-part-iterator.ensures.into_iter_gives c.split-part-items.ensures.text c.split-part-items.ensures.has_more c.split-part-items.ensures.pattern in
    let turn = YieldsList-turn road c.loop-part.yielded _ c.loop-part.yielded_by _ _ c.in-Some.part c.in-Some.is c.next.ensures.steps in
    parts_in-other_count c.args.count c.args.scale c.args.field.now (λ e. absurd (omega arith))

pub returns-in_err-number_in-clause-parts : goal.returns-in_err-number_in-clause-parts
returns-in_err-number_in-clause-parts c =
    let road = texts_walked c.args.field.now c.into_iter-part-iterator.ensures.into_iter_gives c.split-part-items.ensures.text c.split-part-items.ensures.has_more c.split-part-items.ensures.pattern in
    let turn = YieldsList-turn road c.loop-part.yielded _ c.loop-part.yielded_by _ _ c.in-Some.part c.in-Some.is c.next.ensures.steps in
    let here : c.in-Some.part.now ≡ get_or (texts_of c.args.field.now) c.loop-part.read c.in-Some.part.now = rw c.loop-part.invariant.1 turn.1 in
    let given : c.number_in.result ≡ number_in 0 c.args.scale c.in-Some.part.now = rw (← c.from.ensures, ← c.as_bytes.ensures.value) c.number_in.ensures in
    c.from_residual.ensures
    ∙ parts_in-no_part c.args.count c.args.scale c.args.field.now c.loop-part.read c.in-Some.part.now (omega arith) here
    (part_in-None c.args.scale c.in-Some.part.now (sym given ∙ c.in_err-number_in.was))

pub loop-part-preserved : goal.loop-part-preserved
loop-part-preserved c =
    let road = texts_walked c.args.field.now c.into_iter-part-iterator.ensures.into_iter_gives c.split-part-items.ensures.text c.split-part-items.ensures.has_more c.split-part-items.ensures.pattern in
    let turn = YieldsList-turn road c.loop-part.yielded _ c.loop-part.yielded_by _ _ c.in-Some.part c.in-Some.is c.next.ensures.steps in
    let here : c.in-Some.part.now ≡ get_or (texts_of c.args.field.now) c.loop-part.read c.in-Some.part.now = rw c.loop-part.invariant.1 turn.1 in
    let given : c.number_in.result ≡ number_in 0 c.args.scale c.in-Some.part.now = rw (← c.from.ensures, ← c.as_bytes.ensures.value) c.number_in.ensures in
    let part : part_in c.args.scale c.in-Some.part.now ≡ Some c.to_value.result =
    part_in-Some c.args.scale c.in-Some.part.now c.in_ok-number_in.field-0 (sym given ∙ c.in_ok-number_in.was) ∙ ap (λ v. Some v) (sym c.to_value.ensures) in
    let fits : FitsSigned w64 c.to_value.result = search rules in
    rw (to_z-of_z w64 c.to_value.result fits) (
      AreRead-more c.args.scale c.args.field.now c.loop-part.read c.loop-part.parts c.in-Some.part.now c.to_value.result c.loop-part.invariant.0 (omega arith) here (omega arith) part,
      omega (arith, length_push c.loop-part.yielded c.in-Some.part),
      omega arith,
    )

pub returns-then-read-count-2-clause-parts : goal.returns-then-read-count-2-clause-parts
returns-then-read-count-2-clause-parts c =
    let road = texts_walked c.args.field.now c.into_iter-part-iterator.ensures.into_iter_gives c.split-part-items.ensures.text c.split-part-items.ensures.has_more c.split-part-items.ensures.pattern in
    let end = YieldsList-end road c.loop-part.yielded _ c.loop-part.yielded_by _ _ c.in-None.is c.next.ensures.steps in
    parts_in-fewer c.args.count c.args.scale c.args.field.now c.loop-part.read c.loop-part.parts c.loop-part.invariant.0 (omega arith) (omega arith) (λ e. absurd (omega arith))

pub returns-then-not-sums_to-clause-parts : goal.returns-then-not-sums_to-clause-parts
returns-then-not-sums_to-clause-parts c =
    let road = texts_walked c.args.field.now c.into_iter-part-iterator.ensures.into_iter_gives c.split-part-items.ensures.text c.split-part-items.ensures.has_more c.split-part-items.ensures.pattern in
    let end = YieldsList-end road c.loop-part.yielded _ c.loop-part.yielded_by _ _ c.in-None.is c.next.ensures.steps in
    parts_in-other_sum c.args.count c.args.scale c.args.field.now c.loop-part.read c.loop-part.parts c.loop-part.invariant.0 (omega arith) (omega arith)
    (sym c.sums_to.ensures ∙ c.if-not-sums_to.true)

pub returns-clause-parts : goal.returns-clause-parts
returns-clause-parts c =
    let road = texts_walked c.args.field.now c.into_iter-part-iterator.ensures.into_iter_gives c.split-part-items.ensures.text c.split-part-items.ensures.has_more c.split-part-items.ensures.pattern in
    let end = YieldsList-end road c.loop-part.yielded _ c.loop-part.yielded_by _ _ c.in-None.is c.next.ensures.steps in
    let few : length (take c.loop-part.read c.loop-part.parts) ≤ MAX_COLS = omega (arith, length-take c.loop-part.read c.loop-part.parts) in
    held c.new.result (take c.loop-part.read c.loop-part.parts) c.new.ensures.refused c.new.ensures.held few
    ∙ sym (parts_in-all c.args.count c.args.scale c.args.field.now c.loop-part.read c.loop-part.parts c.loop-part.invariant.0 (omega arith) (omega arith) (omega arith)
    (sym c.sums_to.ensures ∙ c.if-not-sums_to.false))
