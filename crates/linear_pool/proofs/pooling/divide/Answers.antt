use Rattle.std.proofs.Common.{◌+◌, ◌++◌, ◌∷◌, [], map, refl, sym, ap, ◌∙◌}
use Rattle.std.specs.List.{range_with_len}
use Rattle.std.proofs.lemmas.List.FromFn.{map-range_with_len_more}
use Rattle.exact_fraction.specs.Ratio.{ratio_of}
use Rattle.linear_pool.proofs.pooling.divide.Goals as goal

-- one quotient more
pub loop-k-preserved : goal.loop-k-preserved
loop-k-preserved c =
    let next = map-range_with_len_more (λ column. ratio_of column c.args.scale c.args.t.now.terms) c.args.first c.loop-k.k (c.args.first + c.loop-k.k) refl in
    c.in_ok-push.ensures.ok ∙ ap (λ qs. qs ++ c.ratio.result ∷ []) c.loop-k.invariant
    ∙ ap (λ q. map (λ column. ratio_of column c.args.scale c.args.t.now.terms) (range_with_len c.args.first c.loop-k.k) ++ q ∷ []) c.ratio.ensures.value ∙ sym next
