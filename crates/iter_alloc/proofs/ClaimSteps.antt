-- The steps of claims: a cell more, and a region more.
use Rattle.iter_alloc.specs.declared.spots.First.{First}
use Rattle.cube_model.specs.Cells.{cells_of}
use Rattle.cube_model.specs.Tree.{Dimension}
use Rattle.iter_alloc.proofs.Claiming.{length-range, range-roots}
use Rattle.iter_alloc.proofs.Roots.{roots-low}
use Rattle.iter_alloc.specs.Claims.{Claimed, owner_of, claim_from, claim_cell, claim_cells, claim_regions, unclaimed, AreClaimed, roots_of}
use Rattle.iter_alloc.specs.Forest.{at, IsForest, AreRoots, relabelled, AreOwnRoots}
use Rattle.iter_alloc.specs.Spotting.{regions_of}
use Rattle.std.proofs.Common.{◌≡◌, ℕ, suc, ◌+◌, ◌<◌, ◌≤◌, Bool, true, false, List, [], ◌∷◌, ◌++◌, get_or, take, length, refl, ap, sym, ◌∙◌, subst, arith}
use Rattle.std.proofs.lemmas.List.{append-nil, append_assoc, length-map, length-take-le, take_all, take_more, get_or-map}
use Rattle.std.proofs.lemmas.List.Sums.{fold_push}
use Rattle.std.specs.List.{range_with_len}
use Rattle.std.specs.Prelude.{All, Option, Some, None, if◌then◌else◌, nat_eq}

module _ (spot : ℕ) (owners : List (ℕ × ℕ)) (parents now : List ℕ) (cell : ℕ) where
  -- a cell that has an owner joins the spot to it
  pub claimed-old : (owner : ℕ) → owner_of owners cell ≡ Some owner → ((roots : List ℕ) → AreRoots parents roots → AreRoots now (relabelled (at roots spot) (at roots owner) roots))
      → (roots : List ℕ) → AreRoots parents roots → AreClaimed (claim_cell spot (record { owners = owners; roots = roots }) cell) owners now
  claimed-old owner is joins roots are =
      subst (λ (o : Option ℕ). AreClaimed (claim_from o spot (record { owners = owners; roots = roots }) cell) owners now) (sym is) (record { owners_are = refl; roots_are = joins roots are })

  -- a new one is the spot's
  pub claimed-new : (later : List (ℕ × ℕ)) → owner_of owners cell ≡ None → later ≡ owners ++ (cell, spot) ∷ [] → now ≡ parents
      → (roots : List ℕ) → AreRoots parents roots → AreClaimed (claim_cell spot (record { owners = owners; roots = roots }) cell) later now
  claimed-new later none is same roots are =
      subst (λ (o : Option ℕ). AreClaimed (claim_from o spot (record { owners = owners; roots = roots }) cell) later now) (sym none)
      (record { owners_are = is; roots_are = subst (λ (ps : List ℕ). AreRoots ps roots) (sym same) are })

-- an owner is one of the spots
pub held-owner : (owners : List (ℕ × ℕ)) (cell owner n : ℕ) → All (λ o. o.1 < n) owners → owner_of owners cell ≡ Some owner → owner < n
held-owner [] cell owner n held is = cc is
held-owner (o ∷ owners) cell owner n held is = either (nat_eq cell o.0) is (held 0 o (omega arith)) (held-owner owners cell owner n (λ k d within. held (suc k) d (omega arith)))
  where
    either : (b : Bool) → (if b then Some o.1 else owner_of owners cell) ≡ Some owner → o.1 < n → (owner_of owners cell ≡ Some owner → owner < n) → owner < n
    either true same here_below rest = let is_owner : o.1 ≡ owner = cc same in omega (arith, is_owner, here_below)
    either false same here_below rest = rest same

-- the cells of a region are claimed one after another
pub record ClaimingCells (spot : ℕ) (cells : List ℕ) (begun : List (ℕ × ℕ)) (parents : List ℕ) (done left : List ℕ) (owners : List (ℕ × ℕ)) (now : List ℕ) : Type 0 where
  pub all : done ++ left ≡ cells
  pub forest : IsForest now
  pub as_many : length now ≡ length parents
  pub held : All (λ owner. owner.1 < length now) owners
  pub claimed : (roots : List ℕ) → AreRoots parents roots → AreClaimed (claim_cells spot (record { owners = begun; roots = roots }) done) owners now

module _ (spot : ℕ) (cells : List ℕ) (begun : List (ℕ × ℕ)) (parents : List ℕ) where
  pub cells-start : IsForest parents → All (λ owner. owner.1 < length parents) begun → ClaimingCells spot cells begun parents [] cells begun parents
  cells-start forest held = record { all = refl; forest = forest; as_many = refl; held = held; claimed = λ roots are. record { owners_are = refl; roots_are = are } }

  module _ (done left : List ℕ) (owners : List (ℕ × ℕ)) (now : List ℕ) (claiming : ClaimingCells spot cells begun parents done left owners now) where
    pub cells-next : (cell : ℕ) (rest : List ℕ) → left ≡ cell ∷ rest → (later : List (ℕ × ℕ)) (after : List ℕ) → IsForest after → length after ≡ length now → All (λ owner. owner.1 < length after) later
        → ((roots : List ℕ) → AreRoots now roots → AreClaimed (claim_cell spot (record { owners = owners; roots = roots }) cell) later after)
        → ClaimingCells spot cells begun parents (done ++ cell ∷ []) rest later after
    cells-next cell rest first later after forest as_many held claimed = record {
      all = append_assoc done (cell ∷ []) rest ∙ ap (λ (ns : List ℕ). done ++ ns) (sym first) ∙ claiming.all;
      forest = forest;
      as_many = as_many ∙ claiming.as_many;
      held = held;
      claimed = λ roots are. next-claimed roots (claiming.claimed roots are);
    }
      where
        next-claimed : (roots : List ℕ) → AreClaimed (claim_cells spot (record { owners = begun; roots = roots }) done) owners now → AreClaimed (claim_cells spot (record { owners = begun; roots = roots }) (done ++ cell ∷ [])) later after
        next-claimed roots so_far =
            let state = claim_cells spot (record { owners = begun; roots = roots }) done in
            let step = claimed state.roots so_far.roots_are in
            let whole = subst (λ (os : List (ℕ × ℕ)). AreClaimed (claim_cell spot (record { owners = os; roots = state.roots }) cell) later after) so_far.owners_are step in
            subst (λ (st : Claimed). AreClaimed st later after) (sym (fold_push (claim_cell spot) (record { owners = begun; roots = roots }) done cell)) whole

    pub cells-all : left ≡ [] → (roots : List ℕ) → AreRoots parents roots → AreClaimed (claim_cells spot (record { owners = begun; roots = roots }) cells) owners now
    cells-all none roots are =
        subst (λ (cs : List ℕ). AreClaimed (claim_cells spot (record { owners = begun; roots = roots }) cs) owners now) (sym (append-nil done) ∙ ap (λ (ns : List ℕ). done ++ ns) (sym none) ∙ claiming.all) (claiming.claimed roots are)

-- a region more is claimed
pub claims-push : (dims : List Dimension) (spot : ℕ) (claimed : Claimed) (regions : List (List ℕ)) (region : List ℕ) (last : ℕ) → last ≡ spot + length regions
    → claim_regions dims spot claimed (regions ++ region ∷ []) ≡ claim_cells last (claim_regions dims spot claimed regions) (cells_of dims region)
claims-push dims spot claimed [] region last is = let same : spot ≡ last = omega (arith, is) in ap (λ k. claim_cells k claimed (cells_of dims region)) same
claims-push dims spot claimed (r ∷ regions) region last is = claims-push dims (spot + 1) (claim_cells spot claimed (cells_of dims r)) regions region last (omega (arith, is))

pub record ClaimingRegions (dims : List Dimension) (firsts : List First) (k spot : ℕ) (owners : List (ℕ × ℕ)) (parents : List ℕ) : Type 0 where
  pub is : spot ≡ k
  pub forest : IsForest parents
  pub as_many : length parents ≡ length firsts
  pub held : All (λ owner. owner.1 < length parents) owners
  pub claimed : AreClaimed (claim_regions dims 0 (unclaimed (length firsts)) (take k (regions_of firsts))) owners parents

module _ (dims : List Dimension) (firsts : List First) where
  pub regions-start : (parents : List ℕ) (owners : List (ℕ × ℕ)) → owners ≡ [] → parents ≡ range_with_len 0 (length firsts) → ClaimingRegions dims firsts 0 0 owners parents
  regions-start parents owners none is =
      let are = range-roots (length firsts) in
      record {
        is = refl;
        forest = subst (λ (ps : List ℕ). IsForest ps) (sym is) (record { low = are.low });
        as_many = ap (λ (ps : List ℕ). length ps) is ∙ length-range (length firsts) 0;
        held = subst (λ (os : List (ℕ × ℕ)). All (λ owner. owner.1 < length parents) os) (sym none) (λ k d within. absurd (omega arith));
        claimed = record { owners_are = none; roots_are = subst (λ (ps : List ℕ). AreRoots ps (range_with_len 0 (length firsts))) (sym is) are };
      }

  module _ (k spot : ℕ) (owners : List (ℕ × ℕ)) (parents : List ℕ) (claiming : ClaimingRegions dims firsts k spot owners parents) where
    pub regions-next : (first : First) → k < length firsts → first ≡ get_or firsts k first → (later : List (ℕ × ℕ)) (after : List ℕ) → IsForest after → length after ≡ length parents → All (λ owner. owner.1 < length after) later
        → ((roots : List ℕ) → AreRoots parents roots → AreClaimed (claim_cells spot (record { owners = owners; roots = roots }) (cells_of dims first.region)) later after)
        → ClaimingRegions dims firsts (k + 1) (spot + 1) later after
    regions-next first within is_first later after forest as_many held claimed = record {
      is = omega (arith, claiming.is);
      forest = forest;
      as_many = as_many ∙ claiming.as_many;
      held = held;
      claimed = subst (λ (st : Claimed). AreClaimed st later after) (sym all) whole;
    }
      where
        long : length (take k (regions_of firsts)) ≡ k
        long = length-take-le k (regions_of firsts) (omega (arith, within, length-map firsts (λ (h : First). h.region)))

        region : get_or (regions_of firsts) k [] ≡ first.region
        region = get_or-map (λ (h : First). h.region) firsts k first [] within ∙ ap (λ (h : First). h.region) (sym is_first)

        all : claim_regions dims 0 (unclaimed (length firsts)) (take (k + 1) (regions_of firsts)) ≡ claim_cells spot (claim_regions dims 0 (unclaimed (length firsts)) (take k (regions_of firsts))) (cells_of dims first.region)
        all =
            ap (claim_regions dims 0 (unclaimed (length firsts))) (take_more (regions_of firsts) k [] (omega (arith, within, length-map firsts (λ (h : First). h.region))))
            ∙ claims-push dims 0 (unclaimed (length firsts)) (take k (regions_of firsts)) (get_or (regions_of firsts) k []) spot (omega (arith, claiming.is, long))
            ∙ ap (λ (r : List ℕ). claim_cells spot (claim_regions dims 0 (unclaimed (length firsts)) (take k (regions_of firsts))) (cells_of dims r)) region

        whole : AreClaimed (claim_cells spot (claim_regions dims 0 (unclaimed (length firsts)) (take k (regions_of firsts))) (cells_of dims first.region)) later after
        whole = subst (λ (os : List (ℕ × ℕ)). AreClaimed (claim_cells spot (record { owners = os; roots = (claim_regions dims 0 (unclaimed (length firsts)) (take k (regions_of firsts))).roots }) (cells_of dims first.region)) later after) claiming.claimed.owners_are (claimed (claim_regions dims 0 (unclaimed (length firsts)) (take k (regions_of firsts))).roots claiming.claimed.roots_are)

    pub regions-all : length firsts ≤ k → AreRoots parents (roots_of dims (regions_of firsts))
    unfolding roots_of
    regions-all end =
        subst (λ (st : Claimed). AreRoots parents st.roots)
        (ap (claim_regions dims 0 (unclaimed (length firsts))) (take_all k (regions_of firsts) (omega (arith, end, length-map firsts (λ (h : First). h.region)))) ∙ ap (λ n. claim_regions dims 0 (unclaimed n) (regions_of firsts)) (sym (length-map firsts (λ (h : First). h.region))))
        claiming.claimed.roots_are

-- what the roots of spots are
pub own-roots : (parents roots : List ℕ) → AreRoots parents roots → AreOwnRoots roots
own-roots parents roots are = record {
  low = λ i within. (roots-low parents roots are (i + 1) i (omega arith) (omega (arith, within, are.as_many))).0;
  own = λ i within. (roots-low parents roots are (i + 1) i (omega arith) (omega (arith, within, are.as_many))).1;
}
