-- Spots are marked by their roots, and their facts are counted.
use Rattle.cube_model.specs.declared.edit.Fact.{Fact}
use Rattle.iter_alloc.specs.declared.spots.First.{First}
use Rattle.cube_model.specs.Tree.{Dimension, IsTree}
use Rattle.iter_alloc.proofs.Chains.{touching-from}
use Rattle.iter_alloc.proofs.LabelledFacts.{IsSpread, holder, spot-within}
use Rattle.iter_alloc.proofs.PlaceSums.{raised-at}
use Rattle.iter_alloc.proofs.SpotFacts.{rooted, spots-are}
use Rattle.iter_alloc.proofs.Tests.{equal, itself}
use Rattle.iter_alloc.specs.Claims.{roots_of}
use Rattle.iter_alloc.specs.Counting.{ArePlacedIn}
use Rattle.iter_alloc.specs.Forest.{at, AreOwnRoots}
use Rattle.iter_alloc.specs.Marks.{is_marked, spot_region, AreTouched, AreRootMarks, is_kept, AreMarks, is_of}
use Rattle.iter_alloc.specs.Spotting.{regions_of, spot_of, spotted_all}
use Rattle.iter_alloc.specs.Touching.{touch}
use Rattle.region_algebra.specs.Space.{common_cells}
use Rattle.std.proofs.Common.{◌≡◌, ℕ, ◌+◌, ◌<◌, ◌≤◌, Bool, true, false, List, [], get_or, set, drop, length, map, refl, ap, sym, ◌∙◌, subst, arith, inl, inr, ◌⊎◌}
use Rattle.std.proofs.lemmas.Bool.{cases_lt}
use Rattle.std.proofs.lemmas.List.{drop_more, get_or-map, get_or-set_same, get_or-set_other, length-set, length-map}
use Rattle.std.proofs.lemmas.List.Sums.{sum_by-cons, count_by-le-length}
use Rattle.std.specs.List.{count_by, Contains}
use Rattle.std.specs.Prelude.{All, Option, Some, None, if◌then◌else◌, ◌==◌}

module _ (dims : List Dimension) (firsts : List First) (roots region : List ℕ) where
  pub touched-start : (touched : List Bool) → length touched ≡ length firsts → AreTouched dims firsts roots region 0 touched
  touched-start touched long = record { as_many = long; apart = λ spot below. absurd (omega arith) }

  module _ (k : ℕ) (touched : List Bool) (are : AreTouched dims firsts roots region k touched) where
    pub touched-apart : common_cells dims (spot_region firsts k) region ≡ [] → AreTouched dims firsts roots region (k + 1) touched
    touched-apart none = record { as_many = are.as_many; apart = λ spot below. either spot (cases_lt spot k) below }
      where
        either : (spot : ℕ) → (spot < k) ⊎ (k ≤ spot) → spot < k + 1 → is_marked touched (at roots spot) ≡ false → common_cells dims (spot_region firsts spot) region ≡ []
        either spot (inl under) below not_touched = are.apart spot under not_touched
        either spot (inr up) below not_touched = let is : k ≡ spot = omega (arith, up, below) in subst (λ s. common_cells dims (spot_region firsts s) region ≡ []) is none

    pub touched-more : at roots k < length firsts → AreTouched dims firsts roots region (k + 1) (set touched (at roots k) true)
    touched-more within = record { as_many = length-set touched (at roots k) true ∙ are.as_many; apart = λ spot below. either spot (cases_lt spot k) below (at roots spot == at roots k) refl }
      where
        here : (spot : ℕ) → at roots spot ≡ at roots k → is_marked (set touched (at roots k) true) (at roots spot) ≡ true
        here spot same = ap (λ n. is_marked (set touched (at roots k) true) n) same ∙ get_or-set_same touched (at roots k) true false (omega (arith, within, are.as_many))

        either : (spot : ℕ) → (spot < k) ⊎ (k ≤ spot) → spot < k + 1 → (b : Bool) → (at roots spot == at roots k) ≡ b → is_marked (set touched (at roots k) true) (at roots spot) ≡ false
            → common_cells dims (spot_region firsts spot) region ≡ []
        either spot order below true is not_touched = cc (here spot (equal (at roots spot) (at roots k) is), not_touched)
        either spot (inl under) below false is not_touched =
            are.apart spot under (sym (get_or-set_other touched (at roots k) (at roots spot) true false (λ same. absurd (cc (ap (λ n. n == at roots k) same, itself (at roots k), is)))) ∙ not_touched)
        either spot (inr up) below false is not_touched =
            let last : spot ≡ k = omega (arith, up, below) in absurd (cc (ap (λ s. at roots s == at roots k) last, itself (at roots k), is))

  pub root-marks : (touched marks : List Bool) → length roots ≡ length firsts → AreTouched dims firsts roots region (length firsts) touched → marks ≡ map (λ root. is_marked touched root) roots → AreRootMarks dims firsts roots region marks
  root-marks touched marks long are is =
      subst (λ (ms : List Bool). AreRootMarks dims firsts roots region ms) (sym is)
      (record {
        as_many = length-map roots (λ root. is_marked touched root) ∙ long;
        alike = λ s t in_s in_t same. mark-is s in_s ∙ ap (is_marked touched) same ∙ sym (mark-is t in_t);
        apart = λ spot within not_marked. are.apart spot within (sym (mark-is spot within) ∙ not_marked);
      })
    where
      mark-is : (s : ℕ) → s < length firsts → is_marked (map (λ root. is_marked touched root) roots) s ≡ is_marked touched (at roots s)
      mark-is s within = get_or-map (λ root. is_marked touched root) roots s 0 false (omega (arith, within, long))

-- marks by roots are marks of whole components
pub component-marks : (dims : List Dimension) (facts : List Fact) (firsts : List First) (spots : List (Option ℕ)) (roots region : List ℕ) (marks : List Bool) → All IsTree dims → ArePlacedIn dims facts
    → record { firsts = firsts; spots = spots } ≡ spotted_all dims facts → roots ≡ roots_of dims (regions_of firsts) → AreOwnRoots roots → AreRootMarks dims firsts roots region marks → AreMarks dims facts firsts region marks
component-marks dims facts firsts spots roots region marks trees placed is are own by_roots = record {
  as_many = by_roots.as_many;
  whole = record { closed = closed };
  apart = by_roots.apart;
}
  where
    closed : (f g : Fact) → Contains facts f → Contains facts g → touch dims f g ≡ true → is_kept dims firsts marks f ≡ is_kept dims firsts marks g
    closed f g in_f in_g touches =
        let both = touching-from dims f g touches in
        let spotted = spots-are dims facts firsts spots placed is in
        let roots_are = rooted dims facts firsts spots placed is roots are own in
        let of_f : IsSpread dims facts firsts spots roots trees placed spotted roots_are own f = record { among = in_f; several = both.several_first } in
        let of_g : IsSpread dims facts firsts spots roots trees placed spotted roots_are own g = record { among = in_g; several = both.several_second } in
        let same = roots_are.joined (spot_of dims firsts f) (spot_of dims firsts g) both.cell
        (holder dims facts firsts spots roots trees placed spotted roots_are own f of_f both.cell both.of_first)
        (holder dims facts firsts spots roots trees placed spotted roots_are own g of_g both.cell both.of_second) in
        by_roots.alike (spot_of dims firsts f) (spot_of dims firsts g) (spot-within dims facts firsts spots roots trees placed spotted roots_are own f of_f) (spot-within dims facts firsts spots roots trees placed spotted roots_are own g of_g) same

abbrev bit : Bool → ℕ
bit b = if b then 1 else 0

-- the facts that are counted, and those that are left, are all
pub record Membering (spots : List (Option ℕ)) (count : ℕ) (left : List (Option ℕ)) (members : List ℕ) : Type 0 where
  pub as_many : length members ≡ count
  pub each : (spot : ℕ) → spot < count → at members spot + count_by (is_of spot) left ≡ count_by (is_of spot) spots

module _ (spots : List (Option ℕ)) (count : ℕ) where
  pub members-start : (members : List ℕ) → length members ≡ count → ((s : ℕ) → s < count → at members s ≡ 0) → Membering spots count spots members
  members-start members long none = record { as_many = long; each = λ spot within. omega (arith, none spot within) }

  module _ (k : ℕ) (members : List ℕ) (membering : Membering spots count (drop k spots) members) (more : k < length spots) where
    next-count : (d : Option ℕ) (s : ℕ) → count_by (is_of s) (drop k spots) ≡ (if is_of s (get_or spots k d) then 1 else 0) + count_by (is_of s) (drop (k + 1) spots)
    next-count d s = ap (λ (os : List (Option ℕ)). count_by (is_of s) os) (drop_more spots k d more) ∙ sum_by-cons (λ o. if is_of s o then 1 else 0) (get_or spots k d) (drop (k + 1) spots)

    pub members-skip : (d : Option ℕ) → get_or spots k d ≡ None → Membering spots count (drop (k + 1) spots) members
    members-skip d none = record { as_many = membering.as_many; each = λ spot within. omega (arith, membering.each spot within, next-count d spot, ap (λ o. bit (is_of spot o)) none) }

    pub members-next : (d : Option ℕ) (s : ℕ) → s < count → get_or spots k d ≡ Some s → Membering spots count (drop (k + 1) spots) (set members s (at members s + 1))
    members-next d s inside is = record {
      as_many = length-set members s (at members s + 1) ∙ membering.as_many;
      each = λ spot within.
          omega (arith, membering.each spot within, next-count d spot, ap (λ o. bit (is_of spot o)) is, raised-at members s spot 1 (omega (arith, inside, membering.as_many)));
    }

    pub members-fit : (d : Option ℕ) (s : ℕ) → s < count → at members s ≤ length spots
    members-fit d s inside = omega (arith, membering.each s inside, count_by-le-length (is_of s) spots)
