use Rattle.std.proofs.Common.{◌≡◌, ◌<◌, ◌-◌, get_or, length, refl, sym, ◌∙◌, subst, arith}
use Rattle.dim_tree.proofs.Kept.{item_read}
use Rattle.dim_tree.proofs.Placing.{ArePlaces_all, AreNumbers_all, HasPlaces, HasPlaces_more, met_twice, number_fault, too_large}
use Rattle.dim_tree.proofs.numbering.places_of.Goals as goal
use Rattle.dim_tree.proofs.numbering.places_of.Goals.{then-number-numbers-via-then-number-numbers, then-number-numbers-via-else-number-numbers+then-index-none}

pub returns-then-number-numbers-clause-refused : goal.returns-then-number-numbers-clause-refused
returns-then-number-numbers-clause-refused c known =
    let numbers = c.args.numbers.now in
    let place = c.loop-place.place in
    let within : place - 1 < length numbers = omega arith in
    number_fault numbers (elim c.then-number-numbers.branch [
      | then-number-numbers-via-then-number-numbers w ↦ too_large numbers (place - 1) within (omega arith)
      | then-number-numbers-via-else-number-numbers+then-index-none w ↦
          let small : get_or numbers (place - 1) 0 < length numbers = omega arith in
          met_twice numbers (place - 1) place (get_or numbers (place - 1) 0) c.loop-place.places.items (omega arith) c.loop-place.invariant within refl small (λ free. w.if-index-none.true (item_read _ _ _ c.loop-place.invariant.room small w.index.ensures ∙ free))
    ])

pub loop-place-preserved : goal.loop-place-preserved
loop-place-preserved c =
    let numbers = c.args.numbers.now in
    let place = c.loop-place.place in
    let within : place - 1 < length numbers = omega arith in
    let small : get_or numbers (place - 1) 0 < length numbers = omega arith in
    HasPlaces_more numbers (place - 1) place (get_or numbers (place - 1) 0) c.loop-place.places.items (omega arith) c.loop-place.invariant within refl small (sym (item_read _ _ _ c.loop-place.invariant.room small c.index.ensures) ∙ c.if-index-none.false)

pub returns-clause-placed : goal.returns-clause-placed
returns-clause-placed c =
    let done : c.loop-place.place ≡ 0 = omega arith in
    ArePlaces_all c.args.numbers.now c.loop-place.places.items (subst (λ k. HasPlaces c.args.numbers.now k c.loop-place.places.items) done c.loop-place.invariant)

pub returns-clause-accepted : goal.returns-clause-accepted
returns-clause-accepted c =
    let done : c.loop-place.place ≡ 0 = omega arith in
    AreNumbers_all c.args.numbers.now c.loop-place.places.items (subst (λ k. HasPlaces c.args.numbers.now k c.loop-place.places.items) done c.loop-place.invariant)
