-- There are as many codes as places, times the codes behind each.
use Rattle.std.proofs.Common.{◌+◌, ◌*◌, ◌<◌, List, length, ℕ, ◌∙◌, sym, subst, ap, arith}
use Rattle.std.specs.Prelude.{All}
use Rattle.cube_model.specs.Limits.{SPACE_LIMIT}
use Rattle.region_index.specs.Touching.{codes_behind_places, places_in_line}
use Rattle.region_index.proofs.NodesInLine.{behind-above, behind-many, matched-none, matched-some, places_in_line-small}
use Rattle.region_index.proofs.RegionsInLine.{some-places}
use Rattle.region_index.proofs.touching.codes_with.Goals as goal

pub returns-in_default : goal.returns-in_default
returns-in_default c = behind-many (places_in_line c.args.dim.now c.args.node) c.args.step c.args.codes.now c.args.most (matched-none _ _ _ c.in_default.is c.in_ok-places.ensures) c.requires.some

pub is_product_above-requires : goal.is_product_above-requires
is_product_above-requires c =
    let are = matched-some _ _ _ _ c.in-Some.is c.in_ok-places.ensures in
    omega (arith, c.len-2.ensures ∙ c.in-Some.places.ok.0, ap length are, some-places c.args.dim.now c.args.node c.len.ensures.tree c.requires.node)

pub returns-then-is_product_above : goal.returns-then-is_product_above
returns-then-is_product_above c =
    behind-above _ _ _ _ _ (c.len-2.ensures ∙ c.in-Some.places.ok.0 ∙ ap length (matched-some _ _ _ _ c.in-Some.is c.in_ok-places.ensures)) c.if-is_product_above.ensures

pub codes_behind-requires-clause-small : goal.codes_behind-requires-clause-small
codes_behind-requires-clause-small c =
    subst (λ (places : List ℕ). All (λ place. (place + 1) * c.args.step < SPACE_LIMIT) places) (sym (c.deref.ensures.value ∙ matched-some _ _ _ _ c.in-Some.is c.in_ok-places.ensures))
    (places_in_line-small c.args.dim.now c.args.node c.args.step c.requires.small)

pub returns : goal.returns
returns c =
    c.in_ok-codes_behind.ensures
    ∙ ap (λ (places : List ℕ). codes_behind_places places c.args.step c.args.codes.now) (c.deref.ensures.value ∙ matched-some _ _ _ _ c.in-Some.is c.in_ok-places.ensures)
