-- All ids that are not dropped are kept.
use Rattle.std.proofs.Common.{◌≡◌, ◌++◌, ◌∙◌, ap, filter, not, sym}
use Rattle.std.proofs.lemmas.Result.{IfOk-weaker}
use Rattle.std.proofs.lemmas.List.{take_all}
use Rattle.cube_model.specs.Cells.{is_among}
use Rattle.region_index.proofs.Changing.{kept-all}
use Rattle.region_index.proofs.changes.ids_without.Goals as goal

pub returns : goal.returns
returns c = c.loop-id.invariant ∙ ap (filter (λ id. not (is_among c.args.dropped.now id))) (take_all c.loop-id.id-index c.args.ids.now c.loop-id-test.false)

-- where none is dropped, they are copied
pub returns-then-is_empty : goal.returns-then-is_empty
returns-then-is_empty c =
    IfOk-weaker c.append_ids.result (λ all. all.items ≡ c.new.result.items ++ c.args.ids.now) (λ kept. kept.items ≡ filter (λ id. not (is_among c.args.dropped.now id)) c.args.ids.now)
    (λ all is. is ∙ ap (λ front. front ++ c.args.ids.now) c.new.ensures.items ∙ kept-all c.args.dropped.now c.args.ids.now (sym c.is_empty.ensures ∙ c.if-is_empty.true)) c.append_ids.ensures
