-- The portions of facts are those by their spots, and the totals of these are what is iterated.
use Rattle.iter_alloc.proofs.iteration.iterate_facts.Goals as goal
use Rattle.cube_model.specs.declared.edit.Fact.{Fact}
use Rattle.cube_model.specs.Tree.{Dimension}
use Rattle.iter_alloc.proofs.Ending.{iterated-are, portions-are, portions-low}
use Rattle.iter_alloc.proofs.SpotFacts.{spots-long, spots-within}
use Rattle.iter_alloc.specs.Iterated.{portion}
use Rattle.iter_alloc.specs.Portions.{portions_by, PORTION_LIMIT, column_total}
use Rattle.std.proofs.Common.{◌≡◌, ℕ, ◌<◌, ◌≤◌, List, length, map, ap, sym, ◌∙◌, subst, ℤ}
use Rattle.std.proofs.lemmas.List.{length-map}
use Rattle.std.specs.List.{range_with_len}
use Rattle.std.specs.Prelude.{All, Option, IfSome, IfOk}

-- what was read of the portions is those of the facts by their spots
portions-read : (dims : List Dimension) (facts : List Fact) (region of_facts all portions ps : List ℕ) (spots os : List (Option ℕ)) → all ≡ of_facts → of_facts ≡ portions_by dims region ps facts os → ps ≡ portions → os ≡ spots
    → all ≡ portions_by dims region portions facts spots
portions-read dims facts region of_facts all portions ps spots os same found are is =
    same ∙ found ∙ ap (λ (ns : List ℕ). portions_by dims region ns facts os) are ∙ ap (portions_by dims region portions facts) is

pub fact_portions-requires-clause-as_many : goal.fact_portions-requires-clause-as_many
fact_portions-requires-clause-as_many c =
    ap (λ (os : List (Option ℕ)). length os) c.deref.ensures.value
    ∙ spots-long c.args.space.now c.args.facts.now.facts c.in_ok-all.all.firsts.items c.in_ok-all.all.spots.items c.requires.facts c.in_ok-all.ensures

pub fact_portions-requires-clause-spots : goal.fact_portions-requires-clause-spots
fact_portions-requires-clause-spots c =
    subst (λ (os : List (Option ℕ)). All (λ spot. IfSome spot (λ s. s < length c.deref-2.result.now)) os) (sym c.deref.ensures.value)
    (spots-within c.args.space.now c.args.facts.now.facts c.in_ok-all.all.firsts.items c.in_ok-all.all.spots.items c.requires.facts c.in_ok-all.ensures (length c.deref-2.result.now)
    (ap (λ (ns : List ℕ). length ns) c.deref-2.ensures.value ∙ c.in_ok-of_spots.ensures.as_many))

pub totals-requires-clause-as_many : goal.totals-requires-clause-as_many
totals-requires-clause-as_many c =
    let dims = c.args.space.now in
    let facts = c.args.facts.now.facts in
    let firsts = c.in_ok-all.all.firsts.items in
    let spots = c.in_ok-all.all.spots.items in
    let portions = c.in_ok-of_spots.of_spots.items in
    let read = portions-read dims facts c.args.r _ _ portions _ spots _ c.deref-3.ensures.value c.in_ok-portions.ensures c.deref-2.ensures.value c.deref.ensures.value in
    ap (λ (ns : List ℕ). length ns) (read ∙ portions-are dims facts firsts spots c.args.rounds c.args.r portions c.requires.facts c.in_ok-all.ensures c.in_ok-of_spots.ensures) ∙ length-map facts (portion dims facts c.args.rounds c.args.r)

pub totals-requires-clause-low : goal.totals-requires-clause-low
totals-requires-clause-low c =
    let dims = c.args.space.now in
    let facts = c.args.facts.now.facts in
    let firsts = c.in_ok-all.all.firsts.items in
    let spots = c.in_ok-all.all.spots.items in
    let portions = c.in_ok-of_spots.of_spots.items in
    let read = portions-read dims facts c.args.r _ _ portions _ spots _ c.deref-3.ensures.value c.in_ok-portions.ensures c.deref-2.ensures.value c.deref.ensures.value in
    subst (λ (ns : List ℕ). All (λ n. n ≤ PORTION_LIMIT) ns) (sym read) (portions-low dims facts firsts spots c.args.rounds c.args.r portions c.requires.facts c.in_ok-all.ensures c.in_ok-of_spots.ensures)

pub returns : goal.returns
returns c =
    let dims = c.args.space.now in
    let facts = c.args.facts.now.facts in
    let firsts = c.in_ok-all.all.firsts.items in
    let spots = c.in_ok-all.all.spots.items in
    let portions = c.in_ok-of_spots.of_spots.items in
    let read = portions-read dims facts c.args.r _ _ portions _ spots _ c.deref-3.ensures.value c.in_ok-portions.ensures c.deref-2.ensures.value c.deref.ensures.value in
    let same = ap (λ (ns : List ℕ). map (λ column. column_total column facts ns) (range_with_len 0 c.args.columns)) read ∙ iterated-are dims facts firsts spots c.args.rounds c.args.r portions c.requires.facts c.in_ok-all.ensures c.in_ok-of_spots.ensures c.args.columns in
    subst (λ (zs : List ℤ). IfOk c.totals.result (λ nums. nums ≡ zs)) same c.totals.ensures
