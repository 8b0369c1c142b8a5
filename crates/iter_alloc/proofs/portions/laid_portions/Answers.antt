-- The portions are those by how the places stand.
use Rattle.iter_alloc.proofs.portions.laid_portions.Goals as goal
use Rattle.iter_alloc.proofs.PortionSteps.{portions-alike}
use Rattle.iter_alloc.proofs.Standing.{parts-within}
use Rattle.iter_alloc.specs.Forest.{at}
use Rattle.iter_alloc.specs.Places.{levels_in, parts, placed_level, ArePlaced}
use Rattle.iter_alloc.specs.Portions.{portion_in}
use Rattle.iter_alloc.specs.Rounds.{start}
use Rattle.cube_model.specs.Cells.{cells_of}
use Rattle.std.proofs.Common.{◌≡◌, ℕ, List, ◌<◌, ◌∙◌, length, map, ap, sym, subst, arith}
use Rattle.iter_alloc.specs.declared.rounds.Place.{Place}
use Rattle.iter_alloc.specs.declared.rounds.Span.{Span}
use Rattle.std.proofs.lemmas.List.{length-map}
use Rattle.std.specs.Prelude.{IfOk}

pub places_after-requires-clause-placed : goal.places_after-requires-clause-placed
places_after-requires-clause-placed c =
    let long : length c.args.layout.now.cells.keys ≡ length c.in_ok-begun.begun.items
    = sym (ap (λ (ns : List ℕ). length ns) c.in_ok-begun.ensures ∙ length-map c.args.layout.now.cells.keys (start c.args.space.now c.args.facts.now.facts)) in
    rw (c.deref.ensures.value, c.deref-2.ensures.value, c.deref-3.ensures.value) (subst (λ n. ArePlaced c.args.layout.now.spans.items c.args.layout.now.flat.items n) long c.requires.placed)

pub places_after-requires-clause-low : goal.places_after-requires-clause-low
places_after-requires-clause-low c =
    rw (c.deref.ensures.value, c.deref-2.ensures.value, c.deref-3.ensures.value, c.in_ok-begun.ensures)
    (λ n i within. c.requires.low n i (omega (arith, within, length-map c.args.layout.now.cells.keys (start c.args.space.now c.args.facts.now.facts))))

pub portions_by_places-requires-clause-as_many : goal.portions_by_places-requires-clause-as_many
portions_by_places-requires-clause-as_many c =
    ap (λ (ps : List Place). length ps) c.deref-4.ensures.value
    ∙ c.in_ok-places.ensures.as_many
    ∙ ap (λ (ns : List ℕ). length ns) (c.deref.ensures.value ∙ c.in_ok-begun.ensures)
    ∙ length-map c.args.layout.now.cells.keys (start c.args.space.now c.args.facts.now.facts)

pub returns : goal.returns
returns c =
    let keys = c.args.layout.now.cells.keys in
    let first = map (start c.args.space.now c.args.facts.now.facts) keys in
    let all = parts c.args.layout.now.spans.items c.args.layout.now.flat.items in
    let long = length-map keys (start c.args.space.now c.args.facts.now.facts) in
    let stands : (i : ℕ) → i < length keys → at (levels_in c.deref-4.result.now) i ≡ placed_level first all c.args.rounds i
    = λ i within.
    ap (λ (ps : List Place). at (levels_in ps) i) c.deref-4.ensures.value
    ∙ c.in_ok-places.ensures.levels i (subst (λ (ns : List ℕ). i < length ns) (sym (c.deref.ensures.value ∙ c.in_ok-begun.ensures)) (omega (arith, within, long)))
    ∙ ap (λ (ns : List ℕ). placed_level ns (parts c.deref-2.result.now c.deref-3.result.now) c.args.rounds i) (c.deref.ensures.value ∙ c.in_ok-begun.ensures)
    ∙ ap (λ (ss : List Span). placed_level first (parts ss c.deref-3.result.now) c.args.rounds i) c.deref-2.ensures.value
    ∙ ap (λ (fs : List ℕ). placed_level first (parts c.args.layout.now.spans.items fs) c.args.rounds i) c.deref-3.ensures.value in
    let same = portions-alike (cells_of c.args.space.now c.args.r) keys (at (levels_in c.deref-4.result.now)) (placed_level first all c.args.rounds) (length keys) all stands
    (parts-within c.args.layout.now.spans.items c.args.layout.now.flat.items (length keys) c.requires.placed.within) in
    let inside = ap (λ (is : List ℕ). map (portion_in is keys (at (levels_in c.deref-4.result.now))) all) c.inside.ensures in
    subst (λ (ns : List ℕ). IfOk c.portions_by_places.result (λ portions. portions.items ≡ ns)) (inside ∙ same) c.portions_by_places.ensures
