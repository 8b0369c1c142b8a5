use Rattle.std.proofs.Common.{[], ◌∷◌, refl}
use Rattle.std.proofs.lemmas.List.Elements.{All-cons, All-nil}
use Rattle.exact_fraction.specs.Number.{greatest_to, gcd, lcm}
use Rattle.exact_fraction.specs.Ratio.{ratio_of}
use Rattle.fact_records.specs.Outcomes.{AddsUp, AddsUpAtEach}
use Rattle.linear_pool.specs.Examples.{first_of_two, second_of_two, three_parts, two_measures, two_parts}
use Rattle.linear_pool.proofs.laws.worked_pools.Goals as goal

two_add_up : AddsUpAtEach two_measures (two_parts 10 1)
two_add_up =
    let P = AddsUp (two_parts 10 1) in
    All-cons P first_of_two (second_of_two ∷ []) refl (All-cons P second_of_two [] refl (All-nil P))

three_add_up : AddsUpAtEach two_measures (three_parts 3)
three_add_up =
    let P = AddsUp (three_parts 3) in
    All-cons P first_of_two (second_of_two ∷ []) refl (All-cons P second_of_two [] refl (All-nil P))

-- the definitions compute it
pub returns : goal.returns
unfolding greatest_to gcd lcm ratio_of
returns c =
    let P = AddsUpAtEach two_measures in
    record {
      shares = refl;
      nothing = refl;
      first = refl;
      second = refl;
      totals = All-cons P (two_parts 10 1) (three_parts 3 ∷ []) two_add_up (All-cons P (three_parts 3) [] three_add_up (All-nil P));
    }
