-- The other facts of the regions that are spread anew are counted, and the edited fact beside them.
use Rattle.std.proofs.Common.{ℕ, ap, arith}
use Rattle.std.specs.Prelude.{Option}
use Rattle.std.specs.Option.{option_map_or}
use Rattle.edit_plan.proofs.SeenPairs.{count-seen, few-seen}
use Rattle.edit_plan.proofs.counting.count_refreshed.Goals as goal

pub overflow_add-result : goal.overflow_add-result
overflow_add-result g c =
    omega (
      arith,
      few-seen g.P.WeightPolicy.weigh c.args.state.now c.facts.ensures.valid c.args.moves.now c.requires.moves c.args.regrouped.now c.requires.regrouped c.facts.ensures.trees,
      c.facts.ensures.valid.few,
    )

pub returns-in-Some : goal.returns-in-Some
returns-in-Some g c =
    omega (
      arith,
      count-seen g.P.WeightPolicy.weigh c.args.state.now c.facts.ensures.valid c.args.moves.now c.requires.moves c.args.regrouped.now c.requires.regrouped c.facts.ensures.trees c.own_pair.result c.own_pair.ensures,
      ap {B = ℕ} (λ (o : Option (ℕ × ℕ)). option_map_or (λ pair. 1) o 0) c.in-Some.is,
    )

pub returns-in-None : goal.returns-in-None
returns-in-None g c =
    omega (
      arith,
      count-seen g.P.WeightPolicy.weigh c.args.state.now c.facts.ensures.valid c.args.moves.now c.requires.moves c.args.regrouped.now c.requires.regrouped c.facts.ensures.trees c.own_pair.result c.own_pair.ensures,
      ap {B = ℕ} (λ (o : Option (ℕ × ℕ)). option_map_or (λ pair. 1) o 0) c.in-None.is,
    )
