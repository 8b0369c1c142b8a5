-- The fields are the parts that a split at TABs gives.
use Rattle.std.proofs.Common.{eqb, rules, ap, ◌∙◌, sym}
use Rattle.std.specs.Option.{option_map}
use Rattle.std.proofs.lemmas.Iterator.Consumers.{nth_from_yields_List}
use Rattle.std.proofs.lemmas.Iterator.Splits.{YieldsList-from_slice_split}
use Rattle.text_lines.specs.Text.{fields_of}
use Rattle.text_lines.proofs.LineTexts.{field_at-some, field_at-none}
use Rattle.text_lines.proofs.fields.field_at.Goals as goal

pub returns-in-Some : goal.returns-in-Some
returns-in-Some c =
    let part = nth_from_yields_List c.nth.result _ c.args.place c.nth.ensures.ran (YieldsList-from_slice_split _ (λ b. eqb b 9) c.args.line.now c.split.ensures.rest c.split.ensures.done c.split.ensures.closure (λ x b q k. search rules)) in
    field_at-some (fields_of c.args.line.now) c.args.place c.in-Some.field.now (sym part ∙ ap (option_map (λ x. x.now)) c.in-Some.is)

pub returns-in-None : goal.returns-in-None
returns-in-None c =
    let part = nth_from_yields_List c.nth.result _ c.args.place c.nth.ensures.ran (YieldsList-from_slice_split _ (λ b. eqb b 9) c.args.line.now c.split.ensures.rest c.split.ensures.done c.split.ensures.closure (λ x b q k. search rules)) in
    field_at-none (fields_of c.args.line.now) c.args.place (sym part ∙ ap (option_map (λ x. x.now)) c.in-None.is)
