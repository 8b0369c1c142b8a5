-- Each fact is judged over those that were put.
use Rattle.std.proofs.Common.{◌≡◌, ℕ, suc, ◌+◌, ◌<◌, List, ◌∷◌, get_or, length, drop, drop-cons, add-one, ap, sym, subst, ◌∙◌}
use Rattle.std.proofs.lemmas.List.{drop_all}
use Rattle.cube_model.specs.declared.edit.Fact.{Fact}
use Rattle.fact_records.specs.Valid.{IsPlaced}
use Rattle.fact_records.proofs.SequenceJudging.{all-new, judged-next, judged-refused, judged-room, none-refused}
use Rattle.fact_records.proofs.sequence_judge.judge_new.Goals as goal

-- the first of what is left
first-left : (new : List Fact) (place : ℕ) (fact : Fact) → fact ≡ get_or new place fact → place < length new → drop place new ≡ fact ∷ drop (place + 1) new
first-left new place fact is within = rw add-one (drop-cons new place fact within ∙ ap (λ f. f ∷ drop (suc place) new) (sym is))

pub loop-place-preserved : goal.loop-place-preserved
loop-place-preserved c =
    let left = first-left c.args.new.now c.loop-place.place c.index-new-place.result c.index-new-place.is c.loop-place-test.true in
    let placed = subst (IsPlaced c.args.space.now) (sym c.index-new-place.is) (c.requires.placed c.loop-place.place c.index-new-place.result c.loop-place-test.true) in
    judged-next _ _ c.loop-place.invariant _ _ left (sym c.in_default.ensures) placed _ _ c.put.ensures.facts c.put.ensures.spare

pub put-requires : goal.put-requires
put-requires c =
    judged-room _ _ c.loop-place.invariant _ _ (first-left c.args.new.now c.loop-place.place c.index-new-place.result c.index-new-place.is c.loop-place-test.true)

pub returns-in-Err-clause-refused : goal.returns-in-Err-clause-refused
returns-in-Err-clause-refused c =
    judged-refused _ _ c.loop-place.invariant _ _ (first-left c.args.new.now c.loop-place.place c.index-new-place.result c.index-new-place.is c.loop-place-test.true) _ (sym c.in-Err.ensures)

pub returns-clause-refused : goal.returns-clause-refused
returns-clause-refused c = none-refused _ _ c.loop-place.invariant (drop_all c.loop-place.place c.args.new.now c.loop-place-test.false)

pub returns-clause-new : goal.returns-clause-new
returns-clause-new c = λ _. all-new _ _ c.loop-place.invariant (drop_all c.loop-place.place c.args.new.now c.loop-place-test.false)
