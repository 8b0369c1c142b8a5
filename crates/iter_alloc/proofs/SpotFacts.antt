-- What is known of the spots of all facts, and that the labels by their roots are those of the components.
use Rattle.cube_model.specs.declared.edit.Fact.{Fact}
use Rattle.iter_alloc.specs.declared.spots.First.{First}
use Rattle.cube_model.specs.Facts.{is_precise}
use Rattle.cube_model.specs.Tree.{Dimension, IsTree}
use Rattle.iter_alloc.proofs.Claiming.{AreRooted, regions-rooted}
use Rattle.iter_alloc.proofs.InSpots.{place-within, HasSpot, AreSpotted, facts-spotted}
use Rattle.iter_alloc.proofs.LabelledFacts.{labels-are}
use Rattle.iter_alloc.specs.Claims.{roots_of}
use Rattle.iter_alloc.specs.Components.{labels}
use Rattle.iter_alloc.specs.Counting.{ArePlacedIn}
use Rattle.iter_alloc.specs.Forest.{AreOwnRoots}
use Rattle.iter_alloc.specs.Spotting.{Spotted, spot_codes, spot_of, spot_in, spotted_all, regions_of, labels_by}
use Rattle.region_algebra.specs.Space.{code_of, IsRegion}
use Rattle.std.proofs.Common.{◌≡◌, ℕ, ◌<◌, Bool, true, false, List, get_or, length, refl, ap, sym, ◌∙◌, subst, arith}
use Rattle.std.proofs.lemmas.List.{length-map, get_or_default}
use Rattle.std.proofs.lemmas.List.Elements.{All-map, All-contains}
use Rattle.std.specs.Prelude.{All, Option, Some, None, if◌then◌else◌, IfSome}

module _ (dims : List Dimension) (facts : List Fact) (firsts : List First) (spots : List (Option ℕ)) (placed : ArePlacedIn dims facts) (is : record { firsts = firsts; spots = spots } ≡ spotted_all dims facts) where
  pub spots-are : AreSpotted dims facts (record { firsts = firsts; spots = spots })
  spots-are = subst (λ (s : Spotted). AreSpotted dims facts s) (sym is) (facts-spotted dims facts placed.ascending)

  pub first-regions : All (λ (first : First). IsRegion dims first.region) firsts
  first-regions k d within =
      let of = spots-are.firsts k d within in
      subst (λ (first : First). IsRegion dims first.region) of.is (All-contains (λ f. IsRegion dims f.region) facts of.fact placed.regions of.among)

  pub spots-long : length spots ≡ length facts
  spots-long = ap (λ (ss : List (Option ℕ)). length ss) spots-are.spots ∙ length-map facts (spot_in dims firsts)

  spot-some : (f : Fact) → (is_precise dims f ≡ false → HasSpot dims firsts f) → (b : Bool) → is_precise dims f ≡ b → IfSome (if b then None else Some (spot_of dims firsts f)) (λ s. s < length firsts)
  spot-some f has true precise = tt
  spot-some f has false several = omega (arith, (place-within (spot_codes dims firsts) (code_of dims f.region) (has several).has).0, length-map firsts (λ (h : First). code_of dims h.region))

  pub spots-within : (n : ℕ) → n ≡ length firsts → All (λ spot. IfSome spot (λ s. s < n)) spots
  spots-within n long =
      subst (λ m. All (λ spot. IfSome spot (λ s. s < m)) spots) (sym long)
      (subst (λ (ss : List (Option ℕ)). All (λ spot. IfSome spot (λ s. s < length firsts)) ss) (sym spots-are.spots)
      (All-map (λ spot. IfSome spot (λ s. s < length firsts)) (spot_in dims firsts) facts (λ k d within. spot-some (get_or facts k d) (spots-are.each k d within) (is_precise dims (get_or facts k d)) refl)))

  module _ (roots : List ℕ) (are : roots ≡ roots_of dims (regions_of firsts)) (own : AreOwnRoots roots) where
    pub rooted : AreRooted dims (regions_of firsts) roots
    rooted = subst (λ (rs : List ℕ). AreRooted dims (regions_of firsts) rs) (sym are) (regions-rooted dims (regions_of firsts))

    pub roots-long : length roots ≡ length firsts
    roots-long = rooted.as_many ∙ length-map firsts (λ (h : First). h.region)

    pub roots-below : All (λ root. root < length firsts) roots
    roots-below k d within = omega (arith, get_or_default roots k d 0 within, own.low k within, within, roots-long)

    pub spots-rooted : All (λ spot. IfSome spot (λ s. s < length roots)) spots
    spots-rooted = spots-within (length roots) roots-long

    pub all-labels : All IsTree dims → labels_by firsts roots facts spots ≡ labels dims facts
    all-labels trees = labels-are dims facts firsts spots roots trees placed spots-are rooted own
