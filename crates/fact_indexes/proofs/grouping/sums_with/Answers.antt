-- One column more has its sum.
use Rattle.std.proofs.Common.{◌≡◌, ◌<◌, ◌++◌, ◌∷◌, [], length, map, pos, ap, w64, to_z, of_z, sym, ◌∙◌, arith}
use Rattle.std.specs.List.{range_with_len}
use Rattle.std.proofs.lemmas.Int.{ints}
use Rattle.std.proofs.lemmas.List.{length-set, take_more_set}
use Rattle.std.proofs.lemmas.List.FromFn.{map-range_with_len_more}
use Rattle.std.proofs.lemmas.Option.{get_or_from_slice_get}
use Rattle.fact_indexes.specs.Grouping.{sum_with}
use Rattle.fact_indexes.proofs.grouping.sums_with.Goals as goal

pub loop-column-preserved : goal.loop-column-preserved
loop-column-preserved c =
    let sum = sum_with c.args.sums c.args.values in
    let before = get_or_from_slice_get c.args.sums c.loop-column.column _ (pos 0) c.get.ensures in
    let more = get_or_from_slice_get c.args.values c.loop-column.column _ (pos 0) c.get-in-loop-column.ensures in
    let here : to_z w64 (of_z w64 c.sum_with.result) ≡ sum c.loop-column.column = omega (arith, ints, c.sum_with.ensures, before, more) in
    let within : c.loop-column.column < length c.loop-column.added = omega (arith, c.loop-column.invariant.places, c.requires.most, c.loop-column-test.true, c.len-columns.ensures.count) in
    record {
      places = length-set c.loop-column.added c.loop-column.column _ ∙ c.loop-column.invariant.places;
      made =
          take_more_set c.loop-column.added c.loop-column.column _ within
          ∙ ap (λ front. front ++ to_z w64 (of_z w64 c.sum_with.result) ∷ []) c.loop-column.invariant.made
          ∙ ap (λ z. map sum (range_with_len 0 c.loop-column.column) ++ z ∷ []) here
          ∙ sym (map-range_with_len_more sum 0 c.loop-column.column c.loop-column.column (omega arith));
    }
