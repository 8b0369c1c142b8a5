-- A column more.
use Rattle.iter_alloc.proofs.totals.totals.Goals as goal
use Rattle.iter_alloc.specs.Portions.{column_total}
use Rattle.std.proofs.Common.{◌∷◌, [], ◌++◌, ℕ, List, ap, sym, ◌∙◌, arith, ℤ, map, to_z-of_z}
use Rattle.std.specs.Int.{w128}
use Rattle.std.proofs.lemmas.List.FromFn.{map-range_with_len_more}
use Rattle.std.specs.List.{range_with_len}

pub loop-column-preserved : goal.loop-column-preserved
loop-column-preserved c =
    let f = λ (column : ℕ). column_total column c.args.facts.now.facts c.args.portions.now in
    c.in_ok-push.ensures.ok
    ∙ ap (λ z. c.loop-column.nums ++ z ∷ []) (to_z-of_z {w = w128} (record { sfits = c.total_of.type_inv }))
    ∙ ap (λ (zs : List ℤ). zs ++ c.total_of.result ∷ []) c.loop-column.invariant
    ∙ ap (λ z. map f (range_with_len 0 c.loop-column.column) ++ z ∷ []) c.total_of.ensures
    ∙ sym (map-range_with_len_more f 0 c.loop-column.column c.loop-column.column (omega arith))
