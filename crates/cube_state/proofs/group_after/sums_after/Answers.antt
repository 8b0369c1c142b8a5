-- One column more has its sum.
use Rattle.std.proofs.Common.{◌≡◌, ◌<◌, ◌++◌, ◌∷◌, [], length, map, ap, w64, to_z, of_z, sym, ◌∙◌, arith}
use Rattle.std.specs.List.{range_with_len}
use Rattle.std.specs.Option.{option_copied}
use Rattle.std.proofs.lemmas.Int.{ints}
use Rattle.std.proofs.lemmas.List.{length-set, take_more_set}
use Rattle.std.proofs.lemmas.List.FromFn.{map-range_with_len_more}
use Rattle.cube_state.specs.GroupAfter.{sum_after}
use Rattle.cube_state.proofs.group_after.sums_after.Goals as goal

pub loop-column-preserved : goal.loop-column-preserved
loop-column-preserved c =
    let after = sum_after (option_copied c.args.group) (option_copied c.args.taken) (option_copied c.args.given) in
    let here : to_z w64 (of_z w64 c.move_sum.result) ≡ after c.loop-column.column = omega (arith, ints, c.move_sum.ensures, c.sum_of.ensures, c.value_of.ensures, c.value_of-in-loop-column.ensures) in
    let within : c.loop-column.column < length c.loop-column.sums = omega (arith, c.loop-column.invariant.places, c.requires.few) in
    record {
      places = length-set c.loop-column.sums c.loop-column.column _ ∙ c.loop-column.invariant.places;
      made =
          take_more_set c.loop-column.sums c.loop-column.column _ within
          ∙ ap (λ front. front ++ to_z w64 (of_z w64 c.move_sum.result) ∷ []) c.loop-column.invariant.made
          ∙ ap (λ z. map after (range_with_len 0 c.loop-column.column) ++ z ∷ []) here
          ∙ sym (map-range_with_len_more after 0 c.loop-column.column c.loop-column.column (omega arith));
    }
