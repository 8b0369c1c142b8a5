-- The spot of an imprecise fact has the region of the fact.
use Rattle.cube_model.specs.declared.edit.Fact.{Fact}
use Rattle.iter_alloc.specs.declared.spots.First.{First}
use Rattle.cube_model.specs.Facts.{is_precise}
use Rattle.cube_model.specs.Tree.{Dimension, IsTree}
use Rattle.iter_alloc.proofs.InSpots.{place-within, IsFirst, HasSpot, AreSpotted}
use Rattle.iter_alloc.specs.Counting.{ArePlacedIn}
use Rattle.iter_alloc.specs.Marks.{spot_region}
use Rattle.iter_alloc.specs.Spotting.{spot_codes, spot_of}
use Rattle.region_algebra.proofs.Tuples.{code_of-same}
use Rattle.region_algebra.specs.Space.{code_of, IsRegion}
use Rattle.std.proofs.Common.{◌≡◌, ℕ, ◌<◌, false, List, [], get_or, length, ap, sym, ◌∙◌, arith}
use Rattle.std.proofs.lemmas.List.{length-map, get_or-map}
use Rattle.std.proofs.lemmas.List.Elements.{All-contains}
use Rattle.std.specs.List.{Contains}
use Rattle.std.specs.Prelude.{All, Option}

module _ (dims : List Dimension) (facts : List Fact) (firsts : List First) (spots : List (Option ℕ)) (trees : All IsTree dims) (placed : ArePlacedIn dims facts)
    (are : AreSpotted dims facts (record { firsts = firsts; spots = spots })) (f : Fact) (among : Contains facts f) (several : is_precise dims f ≡ false) where
  pub has-spot : HasSpot dims firsts f
  has-spot = All-contains (λ f. is_precise dims f ≡ false → HasSpot dims firsts f) facts f are.each among several

  pub in-spots : spot_of dims firsts f < length firsts
  in-spots = omega (arith, (place-within (spot_codes dims firsts) (code_of dims f.region) has-spot.has).0, length-map firsts (λ (h : First). code_of dims h.region))

  abbrev none : First
  none = record { id = 0; region = [] }

  first : IsFirst dims facts (get_or firsts (spot_of dims firsts f) none)
  first = are.firsts (spot_of dims firsts f) none in-spots

  pub region-of_spot : spot_region firsts (spot_of dims firsts f) ≡ f.region
  region-of_spot =
      let same : (get_or firsts (spot_of dims firsts f) none).region ≡ first.fact.region = ap (λ (h : First). h.region) (sym first.is) in
      let code = sym (get_or-map (λ (h : First). code_of dims h.region) firsts (spot_of dims firsts f) none 0 in-spots) ∙ (place-within (spot_codes dims firsts) (code_of dims f.region) has-spot.has).1 in
      let codes : code_of dims first.fact.region ≡ code_of dims f.region = ap (λ (r : List ℕ). code_of dims r) (sym same) ∙ code in
      get_or-map (λ (h : First). h.region) firsts (spot_of dims firsts f) none [] in-spots
      ∙ same
      ∙ code_of-same dims first.fact.region f.region trees (All-contains (λ f. IsRegion dims f.region) facts first.fact placed.regions first.among) (All-contains (λ f. IsRegion dims f.region) facts f placed.regions among) codes
