use Rattle.std.proofs.Common.{◌+◌, length, [], ◌∷◌, ap, sym, ◌∙◌, subst, length-append}
use Rattle.std.proofs.lemmas.List.Elements.{All-append, All-cons, All-nil}
use Rattle.std.specs.List.{All}
use Rattle.world_law.specs.Placed.{IsPlacedFor}
use Rattle.library_tests.proofs.ranges.place_all.Goals as goal

pub loop-fact-preserved : goal.loop-fact-preserved
loop-fact-preserved c =
    let is_placed = IsPlacedFor c.args.space.now c.args.column in
    let before = c.loop-fact.invariant in
    let pushed = c.in_ok-push.ensures.items in
    let one = All-cons is_placed c.in_ok-place.field-0 [] c.in_ok-place.ensures (All-nil is_placed) in
    let all = All-append is_placed c.loop-fact.placed.items (c.in_ok-place.field-0 ∷ []) before.0 one in
    (subst (All is_placed) (sym pushed) all, ap length pushed ∙ length-append c.loop-fact.placed.items (c.in_ok-place.field-0 ∷ []) ∙ ap (λ n. n + 1) before.1)
