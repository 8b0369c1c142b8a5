-- Facts are put in spots one after another.
use Rattle.cube_model.specs.declared.edit.Fact.{Fact}
use Rattle.iter_alloc.specs.declared.spots.First.{First}
use Rattle.cube_model.specs.Facts.{is_precise}
use Rattle.cube_model.specs.Tree.{Dimension}
use Rattle.iter_alloc.specs.Counting.{ArePlacedIn}
use Rattle.iter_alloc.specs.Spotting.{spot_codes, firsts_with, spot_in, spotted_next, spotted_all}
use Rattle.region_algebra.specs.Space.{IsRegion}
use Rattle.std.proofs.Common.{◌≡◌, ℕ, List, [], ◌∷◌, ◌++◌, ap, sym, ◌∙◌, subst}
use Rattle.std.proofs.lemmas.List.Elements.{All-head, All-tail}
use Rattle.std.specs.List.{fold}
use Rattle.std.specs.Prelude.{All, Option, if◌then◌else◌}

-- what comes of the spots so far and the facts that are left is what comes of all
pub record Spotting (dims : List Dimension) (facts left : List Fact) (codes : List ℕ) (firsts : List First) (spots : List (Option ℕ)) : Type 0 where
  pub keys : codes ≡ spot_codes dims firsts
  pub all : fold (spotted_next dims) (record { firsts = firsts; spots = spots }) left ≡ spotted_all dims facts
  pub regions : All (λ fact. IsRegion dims fact.region) left

pub spotting-start : (dims : List Dimension) (facts left : List Fact) (codes : List ℕ) (firsts : List First) (spots : List (Option ℕ)) → ArePlacedIn dims facts → left ≡ facts → codes ≡ [] → firsts ≡ [] → spots ≡ []
    → Spotting dims facts left codes firsts spots
unfolding spotted_all
spotting-start dims facts left codes firsts spots placed is no_codes no_firsts no_spots = record {
  keys = no_codes ∙ ap (spot_codes dims) (sym no_firsts);
  all =
      ap (λ (fs : List First). fold (spotted_next dims) (record { firsts = fs; spots = spots }) left) no_firsts
      ∙ ap (λ (ss : List (Option ℕ)). fold (spotted_next dims) (record { firsts = []; spots = ss }) left) no_spots
      ∙ ap (λ (fs : List Fact). fold (spotted_next dims) (record { firsts = []; spots = [] }) fs) is;
  regions = subst (λ (fs : List Fact). All (λ fact. IsRegion dims fact.region) fs) (sym is) placed.regions;
}

module _ (dims : List Dimension) (facts left : List Fact) (codes : List ℕ) (firsts : List First) (spots : List (Option ℕ)) (spotting : Spotting dims facts left codes firsts spots) where
  pub spotting-region : (f : Fact) (others : List Fact) → left ≡ f ∷ others → IsRegion dims f.region
  spotting-region f others first = All-head (λ fact. IsRegion dims fact.region) f others (subst (λ (fs : List Fact). All (λ fact. IsRegion dims fact.region) fs) first spotting.regions)

  pub spotting-next : (f : Fact) (others : List Fact) → left ≡ f ∷ others → (now : List ℕ) (later : List First) (spot : Option ℕ) (more : List (Option ℕ)) → now ≡ spot_codes dims later
      → later ≡ (if is_precise dims f then firsts else firsts_with dims firsts f) → spot ≡ spot_in dims firsts f → more ≡ spots ++ spot ∷ [] → Spotting dims facts others now later more
  spotting-next f others first now later spot more is_now is_later is_spot is_more = record {
    keys = is_now;
    all =
        ap (λ (fs : List First). fold (spotted_next dims) (record { firsts = fs; spots = more }) others) is_later
        ∙ ap (λ (ss : List (Option ℕ)). fold (spotted_next dims) (record { firsts = if is_precise dims f then firsts else firsts_with dims firsts f; spots = ss }) others) (is_more ∙ ap (λ s. spots ++ s ∷ []) is_spot)
        ∙ ap (λ (fs : List Fact). fold (spotted_next dims) (record { firsts = firsts; spots = spots }) fs) (sym first)
        ∙ spotting.all;
    regions = All-tail (λ fact. IsRegion dims fact.region) f others (subst (λ (fs : List Fact). All (λ fact. IsRegion dims fact.region) fs) first spotting.regions);
  }

  pub spotting-all : left ≡ [] → record { firsts = firsts; spots = spots } ≡ spotted_all dims facts
  spotting-all none = ap (λ (fs : List Fact). fold (spotted_next dims) (record { firsts = firsts; spots = spots }) fs) (sym none) ∙ spotting.all
