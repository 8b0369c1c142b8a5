-- The ids of the regions that are spread anew, and that of the edit, in order.
use Rattle.std.proofs.Common.{◌≡◌, ◌++◌, ap, sym, ◌∙◌, append-nil}
use Rattle.std.specs.Option.{option_to_list}
use Rattle.edit_plan.proofs.SeenPairs.{codes-seen, handed-seen, ids-seen}
use Rattle.edit_plan.proofs.refreshing.refreshed.Goals as goal
use Rattle.edit_plan.proofs.refreshing.refreshed.Goals.{in-Some+in_ok-push, in_default}

pub returns-in_err-pairs-clause-steps : goal.returns-in_err-pairs-clause-steps
returns-in_err-pairs-clause-steps g c =
    handed-seen g.P.WeightPolicy.weigh c.args.state.now c.facts.ensures.valid c.args.moves.now c.requires.moves c.args.regrouped.now c.requires.regrouped c.facts.ensures.trees c.as_slice.result.now _ _ c.as_slice.ensures c.others_at.ensures.steps

pub returns-in_err-push-clause-steps : goal.returns-in_err-push-clause-steps
returns-in_err-push-clause-steps g c =
    handed-seen g.P.WeightPolicy.weigh c.args.state.now c.facts.ensures.valid c.args.moves.now c.requires.moves c.args.regrouped.now c.requires.regrouped c.facts.ensures.trees c.as_slice.result.now _ _ c.as_slice.ensures c.others_at.ensures.steps

pub returns : goal.returns
returns g c =
    let others = c.in_ok-pairs.pairs.items in
    let all : c.match-own_pair.pairs.items ≡ others ++ option_to_list c.own_pair.result =
    elim c.match-own_pair.branch [
      | in-Some+in_ok-push w ↦ ap (λ v. v.items) w.pairs-is ∙ w.in_ok-push.ensures.items ∙ sym (ap (λ o. others ++ option_to_list o) w.in-Some.is)
      | in_default w ↦ ap (λ v. v.items) w.pairs-is ∙ sym (append-nil others) ∙ sym (ap (λ o. others ++ option_to_list o) w.in_default.is)
    ] in
    record {
      ids =
          ids-seen g.P.WeightPolicy.weigh c.args.state.now c.facts.ensures.valid c.args.moves.now c.requires.moves c.args.regrouped.now c.requires.regrouped c.facts.ensures.trees
          c.edited_id-edited.result c.as_slice.result.now others c.match-own_pair.pairs.items c.by_id.result.items c.own_pair.result c.edited_id-edited.ensures c.as_slice.ensures c.in_ok-pairs.ensures.pairs c.own_pair.ensures all c.by_id.ensures.same c.by_id.ensures.sorted;
      codes =
          codes-seen g.P.WeightPolicy.weigh c.args.state.now c.facts.ensures.valid c.args.moves.now c.requires.moves c.args.regrouped.now c.requires.regrouped c.facts.ensures.trees
          c.edited_id-edited.result c.as_slice.result.now others c.match-own_pair.pairs.items c.by_id.result.items c.own_pair.result c.edited_id-edited.ensures c.as_slice.ensures c.in_ok-pairs.ensures.pairs c.own_pair.ensures all c.by_id.ensures.same;
      steps =
          handed-seen g.P.WeightPolicy.weigh c.args.state.now c.facts.ensures.valid c.args.moves.now c.requires.moves c.args.regrouped.now c.requires.regrouped c.facts.ensures.trees c.as_slice.result.now _ _ c.as_slice.ensures c.others_at.ensures.steps;
    }
