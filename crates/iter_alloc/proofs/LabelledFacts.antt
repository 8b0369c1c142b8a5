-- Labels by the roots of spots tell the components of facts.
use Rattle.cube_model.specs.declared.edit.Fact.{Fact}
use Rattle.iter_alloc.specs.declared.spots.First.{First}
use Rattle.cube_model.specs.Cells.{cells_of, is_among}
use Rattle.cube_model.specs.Facts.{is_precise}
use Rattle.cube_model.specs.Tree.{Dimension, IsTree}
use Rattle.fact_groups.proofs.Ascending.{ascends-from_pairs}
use Rattle.iter_alloc.proofs.Chains.{IsImage, image, among-images, touching-from, touching-shown, same-components}
use Rattle.iter_alloc.proofs.Claiming.{IsHolder, Way, AreRooted, step, stay}
use Rattle.iter_alloc.proofs.InSpots.{IsFirst, HasSpot, AreSpotted}
use Rattle.iter_alloc.proofs.Joined.{labelled-facts}
use Rattle.iter_alloc.proofs.SpotRegions.{has-spot, in-spots, region-of_spot}
use Rattle.iter_alloc.proofs.Tests.{itself}
use Rattle.iter_alloc.specs.Components.{Chain, Labelled, labelled, labels, facts_of, IsReached, AreComponents, here, next}
use Rattle.iter_alloc.specs.Counting.{ArePlacedIn}
use Rattle.iter_alloc.specs.Forest.{at, AreOwnRoots}
use Rattle.iter_alloc.specs.Spotting.{first_of, spot_of, spot_in, regions_of, label_in, labels_by}
use Rattle.iter_alloc.specs.Touching.{touch}
use Rattle.region_algebra.proofs.Turns.{cells-some}
use Rattle.region_algebra.specs.Space.{IsRegion}
use Rattle.std.proofs.Common.{◌≡◌, ℕ, ◌<◌, ◌≤◌, Bool, true, false, List, [], ◌∷◌, get_or, length, map, refl, ap, sym, ◌∙◌, subst, arith, inl, inr, ◌⊎◌}
use Rattle.std.proofs.lemmas.Bool.{cases_lt, cases_order}
use Rattle.std.proofs.lemmas.List.{length-map, get_or_default, get_or-map}
use Rattle.std.proofs.lemmas.List.Elements.{All-contains}
use Rattle.std.proofs.lemmas.List.Folds.{list_any_at}
use Rattle.std.specs.List.{Contains}
use Rattle.std.specs.Prelude.{All, Option, Some, None, ◌==◌, if◌then◌else◌}

module _ (dims : List Dimension) (facts : List Fact) (firsts : List First) (spots : List (Option ℕ)) (roots : List ℕ)
    (trees : All IsTree dims) (placed : ArePlacedIn dims facts) (are : AreSpotted dims facts (record { firsts = firsts; spots = spots }))
    (rooted : AreRooted dims (regions_of firsts) roots) (own : AreOwnRoots roots) where
  abbrev spot : Fact → ℕ
  spot f = spot_of dims firsts f

  abbrev with_label : Fact → Labelled
  with_label f = record { fact = f; label = label_in firsts roots f (spot_in dims firsts f) }

  abbrev ls : List Labelled
  ls = map with_label facts

  abbrev none : First
  none = record { id = 0; region = [] }

  pub same-facts : (fs : List Fact) → facts_of (map with_label fs) ≡ fs
  same-facts [] = refl
  same-facts (f ∷ fs) = ap (λ gs. f ∷ gs) (same-facts fs)

  in_facts : (f : Fact) → Contains facts f → Contains (facts_of ls) f
  in_facts f among = subst (λ (fs : List Fact). Contains fs f) (sym (same-facts facts)) among

  ids-tell : (f g : Fact) → Contains facts f → Contains facts g → f.id ≡ g.id → f ≡ g
  ids-tell f g in_f in_g same = either (cases_order in_f.0 in_g.0)
    where
      id-f : (get_or facts in_f.0 f).id ≡ f.id
      id-f = ap (λ (h : Fact). h.id) in_f.2

      id-g : (get_or facts in_g.0 f).id ≡ g.id
      id-g = ap (λ (h : Fact). h.id) (get_or_default facts in_g.0 f g in_g.1 ∙ in_g.2)

      either : (in_f.0 ≡ in_g.0) ⊎ ((in_f.0 < in_g.0) ⊎ (in_g.0 < in_f.0)) → f ≡ g
      either (inl is) = sym in_f.2 ∙ ap (λ k. get_or facts k f) is ∙ get_or_default facts in_g.0 f g in_g.1 ∙ in_g.2
      either (inr (inl before)) = absurd (omega (arith, placed.ascending in_f.0 in_g.0 f before in_g.1, id-f, id-g, same))
      either (inr (inr after)) = absurd (omega (arith, placed.ascending in_g.0 in_f.0 f after in_f.1, id-f, id-g, same))

  -- an imprecise fact of the list, with what is known of its spot
  pub record IsSpread (f : Fact) : Type 0 where
    pub among : Contains facts f
    pub several : is_precise dims f ≡ false

  spread-has : (f : Fact) → IsSpread f → HasSpot dims firsts f
  spread-has f is = has-spot dims facts firsts spots trees placed are f is.among is.several

  pub spot-within : (f : Fact) → IsSpread f → spot f < length firsts
  spot-within f is = in-spots dims facts firsts spots trees placed are f is.among is.several

  first-at : (s : ℕ) → s < length firsts → IsFirst dims facts (get_or firsts s none)
  first-at s within = are.firsts s none within

  -- the first fact of a spot
  first-spread : (s : ℕ) (within : s < length firsts) → IsSpread (first-at s within).fact
  first-spread s within = record { among = (first-at s within).among; several = (first-at s within).several }

  region-placed : (f : Fact) → Contains facts f → IsRegion dims f.region
  region-placed f among = All-contains (λ f. IsRegion dims f.region) facts f placed.regions among

  region-at : (s : ℕ) → s < length firsts → get_or (regions_of firsts) s [] ≡ (get_or firsts s none).region
  region-at s within = get_or-map (λ (h : First). h.region) firsts s none [] within

  -- the region of a spot is that of its facts
  pub spot-region : (f : Fact) → IsSpread f → get_or (regions_of firsts) (spot f) [] ≡ f.region
  spot-region f is = region-of_spot dims facts firsts spots trees placed are f is.among is.several

  regions-long : length (regions_of firsts) ≡ length firsts
  regions-long = length-map firsts (λ (h : First). h.region)

  pub holder : (f : Fact) → IsSpread f → (cell : ℕ) → is_among (cells_of dims f.region) cell ≡ true → IsHolder dims (regions_of firsts) (spot f) cell
  holder f is cell among = record {
    within = omega (arith, spot-within f is, regions-long);
    has = subst (λ (r : List ℕ). is_among (cells_of dims r) cell ≡ true) (sym (spot-region f is)) among;
  }

  -- a first fact has the region of its spot, and a cell in it
  first-region : (s : ℕ) (within : s < length firsts) → (first-at s within).fact.region ≡ get_or (regions_of firsts) s []
  first-region s within = ap (λ (h : First). h.region) (first-at s within).is ∙ sym (region-at s within)

  some-cell : (f : Fact) → Contains facts f → is_among (cells_of dims f.region) (get_or (cells_of dims f.region) 0 0) ≡ true
  some-cell f among =
      let some = cells-some dims f.region trees (region-placed f among) in
      list_any_at (λ c. c == get_or (cells_of dims f.region) 0 0) (cells_of dims f.region) 0 0 (omega (arith, some)) (itself (get_or (cells_of dims f.region) 0 0))

  share-touch : (f g : Fact) → IsSpread f → IsSpread g → (cell : ℕ) → is_among (cells_of dims f.region) cell ≡ true → is_among (cells_of dims g.region) cell ≡ true → touch dims f g ≡ true
  share-touch f g of_f of_g cell in_f in_g =
      touching-shown dims f g (record { several_first = of_f.several; several_second = of_g.several; cell = cell; of_first = in_f; of_second = in_g })

  -- a way between spots is a chain between their first facts
  way-chain : {i j : ℕ} → Way dims (regions_of firsts) i j → (in_i : i < length firsts) (in_j : j < length firsts) → Chain dims (facts_of ls) (first-at i in_i).fact (first-at j in_j).fact
  way-chain (stay i) in_i in_j = subst (λ (g : Fact). Chain dims (facts_of ls) (first-at i in_i).fact g) same (here (first-at i in_i).fact)
    where
      same : (first-at i in_i).fact ≡ (first-at i in_j).fact
      same = ids-tell (first-at i in_i).fact (first-at i in_j).fact (first-at i in_i).among (first-at i in_j).among (ap (λ (h : First). h.id) ((first-at i in_i).is ∙ sym (first-at i in_j).is))
  way-chain (step i j k cell of_i of_j rest) in_i in_k =
      let in_j : j < length firsts = omega (arith, of_j.within, regions-long) in
      let has_i = subst (λ (r : List ℕ). is_among (cells_of dims r) cell ≡ true) (sym (first-region i in_i)) of_i.has in
      let has_j = subst (λ (r : List ℕ). is_among (cells_of dims r) cell ≡ true) (sym (first-region j in_j)) of_j.has in
      next (first-at i in_i).fact (first-at j in_j).fact _ (share-touch (first-at i in_i).fact (first-at j in_j).fact (first-spread i in_i) (first-spread j in_j) cell has_i has_j)
      (in_facts (first-at j in_j).fact (first-at j in_j).among) (way-chain rest in_j in_k)

  root-in : (f : Fact) → IsSpread f → at roots (spot f) < length firsts
  root-in f is =
      let within : spot f < length roots = omega (arith, spot-within f is, rooted.as_many, regions-long) in
      omega (arith, own.low (spot f) within, spot-within f is)

  label-spread : (f : Fact) → IsSpread f → (with_label f).label ≡ (get_or firsts (at roots (spot f)) none).id
  label-spread f is =
      ap (λ (b : Bool). label_in firsts roots f (if b then None else Some (spot f))) is.several ∙ ap (λ (h : First). h.id) (get_or_default firsts (at roots (spot f)) (first_of f) none (root-in f is))

  label-precise : (f : Fact) → is_precise dims f ≡ true → (with_label f).label ≡ f.id
  label-precise f is = ap (λ (b : Bool). label_in firsts roots f (if b then None else Some (spot f))) is

  reached : (f : Fact) → Contains facts f → (b : Bool) → is_precise dims f ≡ b → IsReached dims ls f (with_label f).label
  reached f among true precise = record { root = with_label f; among = among-images with_label facts f among; names = sym (label-precise f precise); way = here f }
  reached f among false several =
      let is : IsSpread f = record { among = among; several = several } in
      let root = at roots (spot f) in
      let in_root = root-in f is in
      let in_spot = spot-within f is in
      let first = first-at root in_root in
      let mine = first-at (spot f) in_spot in
      let in_roots : spot f < length roots = omega (arith, in_spot, rooted.as_many, regions-long) in
      let way = way-chain (rooted.sound (spot f) root (omega (arith, in_spot, regions-long)) (omega (arith, in_root, regions-long)) (sym (own.own (spot f) in_roots))) in_spot in_root in
      let cell = get_or (cells_of dims f.region) 0 0 in
      let has = some-cell f among in
      let mine_has = subst (λ (r : List ℕ). is_among (cells_of dims r) cell ≡ true) (sym (first-region (spot f) in_spot ∙ spot-region f is)) has in
      record {
        root = with_label first.fact;
        among = among-images with_label facts first.fact first.among;
        names = ap (λ (h : First). h.id) first.is ∙ sym (label-spread f is);
        way = next f mine.fact first.fact (share-touch f mine.fact is (first-spread (spot f) in_spot) cell has mine_has) (in_facts mine.fact mine.among) way;
      }

  ordered : (s t : ℕ) → s ≤ t → t < length firsts → (get_or firsts s none).id ≤ (get_or firsts t none).id
  ordered s t before within = either (cases_lt s t)
    where
      either : (s < t) ⊎ (t ≤ s) → (get_or firsts s none).id ≤ (get_or firsts t none).id
      either (inl under) = omega (arith, are.order s t none under within)
      either (inr above) = let is : s ≡ t = omega (arith, above, before) in omega (arith, ap (λ k. (get_or firsts k none).id) is)

  low : (f : Fact) → Contains facts f → (b : Bool) → is_precise dims f ≡ b → (with_label f).label ≤ f.id
  low f among true precise = omega (arith, label-precise f precise)
  low f among false several =
      let is : IsSpread f = record { among = among; several = several } in
      let in_roots : spot f < length roots = omega (arith, spot-within f is, rooted.as_many, regions-long) in
      omega (arith, label-spread f is, ordered (at roots (spot f)) (spot f) (own.low (spot f) in_roots) (spot-within f is), (spread-has f is).least none)

  touching-labels : (f g : Fact) → Contains facts f → Contains facts g → touch dims f g ≡ true → (with_label f).label ≡ (with_label g).label
  touching-labels f g in_f in_g touches =
      let both = touching-from dims f g touches in
      let of_f : IsSpread f = record { among = in_f; several = both.several_first } in
      let of_g : IsSpread g = record { among = in_g; several = both.several_second } in
      let same = rooted.joined (spot f) (spot g) both.cell (holder f of_f both.cell both.of_first) (holder g of_g both.cell both.of_second) in
      label-spread f of_f ∙ ap (λ k. (get_or firsts k none).id) same ∙ sym (label-spread g of_g)

  pub labels-components : AreComponents dims ls
  labels-components = record {
    told = λ x y in_x in_y same. told x y (image with_label facts x in_x) (image with_label facts y in_y) same;
    touching = λ x y in_x in_y touches. touching x y (image with_label facts x in_x) (image with_label facts y in_y) touches;
    reached = λ x in_x. let of = image with_label facts x in_x in subst (λ (l : Labelled). IsReached dims ls l.fact l.label) of.is (reached of.from of.among (is_precise dims of.from) refl);
    low = λ x in_x. let of = image with_label facts x in_x in subst (λ (l : Labelled). l.label ≤ l.fact.id) of.is (low of.from of.among (is_precise dims of.from) refl);
  }
    where
      told : (x y : Labelled) → IsImage with_label facts x → IsImage with_label facts y → x.fact.id ≡ y.fact.id → x ≡ y
      told x y of_x of_y same =
          let ids : of_x.from.id ≡ of_y.from.id = ap (λ (l : Labelled). l.fact.id) of_x.is ∙ same ∙ sym (ap (λ (l : Labelled). l.fact.id) of_y.is) in
          sym of_x.is ∙ ap with_label (ids-tell of_x.from of_y.from of_x.among of_y.among ids) ∙ of_y.is

      touching : (x y : Labelled) → IsImage with_label facts x → IsImage with_label facts y → touch dims x.fact y.fact ≡ true → x.label ≡ y.label
      touching x y of_x of_y touches =
          let first = subst (λ (l : Labelled). touch dims l.fact y.fact ≡ true) (sym of_x.is) touches in
          let both = subst (λ (l : Labelled). touch dims of_x.from l.fact ≡ true) (sym of_y.is) first in
          ap (λ (l : Labelled). l.label) (sym of_x.is) ∙ touching-labels of_x.from of_y.from of_x.among of_y.among both ∙ ap (λ (l : Labelled). l.label) of_y.is

  by-spots : (fs : List Fact) → labels_by firsts roots fs (map (spot_in dims firsts) fs) ≡ map (λ (l : Labelled). l.label) (map with_label fs)
  by-spots [] = refl
  by-spots (f ∷ fs) = ap (λ ns. (with_label f).label ∷ ns) (by-spots fs)

  pub labels-are : labels_by firsts roots facts spots ≡ labels dims facts
  labels-are =
      let all = labelled-facts dims facts (ascends-from_pairs (λ f. f.id) 0 facts placed.ascending (λ i d within. omega arith)) in
      ap (labels_by firsts roots facts) are.spots ∙ by-spots facts ∙ ap (λ (ls : List Labelled). map (λ (l : Labelled). l.label) ls) (same-components dims ls (labelled dims facts) labels-components all.components (same-facts facts ∙ sym all.same))
