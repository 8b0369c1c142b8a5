-- Which ids an edit refreshes.
use Rattle.std.proofs.Common.{◌≡◌, ℕ, ◌<◌, ◌≤◌, Bool, true, false, List, [], ◌∷◌, map, refl, ap, sym, ◌∙◌, arith}
use Rattle.std.specs.Prelude.{All, AllPairs, Option, Some, None, filter, find, not, ◌&&◌, ◌||◌, ◌==◌, if◌then◌else◌}
use Rattle.std.specs.List.{list_any}
use Rattle.std.specs.Option.{option_map_or}
use Rattle.std.specs.Cmp.Lexicographic.{pointwise, pointwise_decides}
use Rattle.std.proofs.lemmas.Bool.Decides.{nat_tests}
use Rattle.std.proofs.lemmas.List.Elements.{All-weaker}
use Rattle.std.proofs.lemmas.List.Folds.{list_any_none}
use Rattle.cube_model.specs.declared.edit.Edit.{Edit}
use Rattle.cube_model.specs.declared.edit.Fact.{Fact}
use Rattle.cube_model.specs.Allocation.{Allocation, Policy, allocation}
use Rattle.cube_model.specs.Ascending.{ascends_from}
use Rattle.cube_model.specs.Cells.{is_among}
use Rattle.cube_model.specs.Difference.{is_same, lies_as_before, refreshed}
use Rattle.cube_model.specs.Facts.{after}
use Rattle.cube_model.specs.Tree.{Dimension}
use Rattle.cube_model.proofs.Ascending.{ascends_filter, ascends_map}
use Rattle.dim_tree.proofs.Climbing.{both, together}
use Rattle.fact_groups.specs.Changes.{covers_any, reweighed_cells}
use Rattle.fact_groups.specs.Edits.{edited_id, given}
use Rattle.fact_groups.specs.Groups.{spread_at}
use Rattle.fact_groups.specs.Refreshed.{is_new_or_moved, is_refreshed, is_spread_anew, is_spread_otherwise}
use Rattle.fact_groups.proofs.Ascending.{ascends-from_pairs, pairs-first, pairs-rest}
use Rattle.fact_groups.proofs.Edits.{find-after, pairs-after}
use Rattle.fact_groups.proofs.Frame.{spread_at-uncovered}
use Rattle.fact_groups.proofs.Sharing.{allocation-spread_at}

-- of facts in order of their ids, the one with an id passes a test where some fact has the id and passes
id-above : (id : ℕ) (p : Fact → Bool) (facts : List Fact) → All (λ f. id < f.id) facts → list_any (λ f. f.id == id && p f) facts ≡ false
id-above id p facts above = list_any_none (λ f. f.id == id && p f) facts (All-weaker (λ f. id < f.id) (λ f. (f.id == id && p f) ≡ false) (λ f lt. grind (arith, nat_tests)) facts above)

or-none : (b c : Bool) → c ≡ false → (b || c) ≡ b
or-none true c none = refl
or-none false c none = none

pub any-found : (id : ℕ) (p : Fact → Bool) (facts : List Fact) → AllPairs (λ f g. f.id < g.id) facts → list_any (λ f. f.id == id && p f) facts ≡ option_map_or p (find (λ f. f.id == id) facts) false
any-found id p [] up = refl
any-found id p (fact ∷ facts) up = either (fact.id == id) refl (any-found id p facts (pairs-rest (λ f g. f.id < g.id) fact facts up))
  where
    either : (b : Bool) → (fact.id == id) ≡ b → list_any (λ f. f.id == id && p f) facts ≡ option_map_or p (find (λ f. f.id == id) facts) false
        → list_any (λ f. f.id == id && p f) (fact ∷ facts) ≡ option_map_or p (find (λ f. f.id == id) (fact ∷ facts)) false
    either true is rest =
        let its : fact.id ≡ id = grind (arith, nat_tests) in
        let none = id-above id p facts (All-weaker (λ f. fact.id < f.id) (λ f. id < f.id) (λ f above. omega (arith, above, its)) facts (pairs-first (λ f g. f.id < g.id) fact facts up)) in
        rw is (or-none (p fact) (list_any (λ f. f.id == id && p f) facts) none)
    either false is rest = rw is rest

-- the ids of those that pass
pub among-kept : (id : ℕ) (p : Fact → Bool) (facts : List Fact) → is_among (map (λ f. f.id) (filter p facts)) id ≡ list_any (λ f. f.id == id && p f) facts
among-kept id p [] = refl
among-kept id p (fact ∷ facts) = either (p fact) (fact.id == id) refl refl (among-kept id p facts)
  where
    either : (b c : Bool) → p fact ≡ b → (fact.id == id) ≡ c → is_among (map (λ f. f.id) (filter p facts)) id ≡ list_any (λ f. f.id == id && p f) facts
        → is_among (map (λ f. f.id) (filter p (fact ∷ facts))) id ≡ list_any (λ f. f.id == id && p f) (fact ∷ facts)
    either true true is also rest = rw (is, also) refl
    either true false is also rest = rw (is, also) rest
    either false true is also rest = rw (is, also) rest
    either false false is also rest = rw (is, also) rest

-- allocations are told to be the same exactly where they are equal
same_pair : (a b c d : ℕ) → a ≡ c → b ≡ d → ◌≡◌ {A = ℕ × ℕ} (a, b) (c, d)
same_pair a b c d first second = ap (λ (n : ℕ). (n, b)) first ∙ ap (λ (n : ℕ). (c, n)) second

row-decides : (r s : ℕ × ℕ) → ((r.0 == s.0 && r.1 == s.1) ≡ true → r ≡ s) × (r ≡ s → (r.0 == s.0 && r.1 == s.1) ≡ true)
row-decides r s = (
  λ is. same_pair r.0 r.1 s.0 s.1 (grind (arith, nat_tests)) (grind (arith, nat_tests)),
  λ is.
      let first = ap (λ (row : ℕ × ℕ). row.0) is in
      let second = ap (λ (row : ℕ × ℕ). row.1) is in
      grind (arith, nat_tests, first, second),
)

abbrev allocation_with : ℕ → List (ℕ × ℕ) → Allocation
allocation_with den rows = record { den = den; rows = rows }

pub same_allocations : (a b : Allocation) → is_same a b ≡ true → a ≡ b
same_allocations a b is =
    let parts = both (a.den == b.den) (pointwise (λ r s. r.0 == s.0 && r.1 == s.1) a.rows b.rows) is in
    let den : a.den ≡ b.den = grind (arith, nat_tests, parts.0) in
    ap (λ n. allocation_with n a.rows) den ∙ ap (allocation_with b.den) ((pointwise_decides row-decides a.rows b.rows).0 parts.1)

pub same_allocation : (a : Allocation) → is_same a a ≡ true
same_allocation a = together (grind (arith, nat_tests)) ((pointwise_decides row-decides a.rows a.rows).1 refl)

-- the fact that is found has the id
pub found-has : (id : ℕ) (facts : List Fact) (fact : Fact) → find (λ f. f.id == id) facts ≡ Some fact → fact.id ≡ id
found-has id [] fact found = cc
found-has id (f ∷ facts) fact found = either (f.id == id) refl found (found-has id facts fact)
  where
    either : (b : Bool) → (f.id == id) ≡ b → find (λ f. f.id == id) (f ∷ facts) ≡ Some fact → (find (λ f. f.id == id) facts ≡ Some fact → fact.id ≡ id) → fact.id ≡ id
    either true is found rest = let its : f.id ≡ id = grind (arith, nat_tests) in let here : Some f ≡ Some fact = rw is at found in cc
    either false is found rest = rest (rw is at found)

module _ (policy : Policy) (dims : List Dimension) (edit : Edit) (facts : List Fact) (up : AllPairs (λ f g. f.id < g.id) facts) where
  abbrev later : List Fact
  later = after edit facts

  not-or : (p : Fact → Bool) (found : Option Fact) → not (option_map_or p found false) ≡ option_map_or (λ f. not (p f)) found true
  not-or p None = refl
  not-or p (Some f) = refl

  -- a fact that is there afterwards does not lie as before where it is new or moved
  moved : (fact : Fact) → not (lies_as_before policy dims facts later fact) ≡ is_new_or_moved policy dims edit facts fact
  moved fact =
      ap not (any-found fact.id (λ f. is_same (allocation policy dims facts f) (allocation policy dims later fact)) facts up)
      ∙ not-or (λ f. is_same (allocation policy dims facts f) (allocation policy dims later fact)) (find (λ f. f.id == fact.id) facts)
      ∙ spreads (find (λ f. f.id == fact.id) facts)
    where
      spreads : (found : Option Fact) → option_map_or (λ f. not (is_same (allocation policy dims facts f) (allocation policy dims later fact))) found true
          ≡ option_map_or (λ f. is_spread_otherwise policy dims edit facts f.region fact.region) found true
      spreads None = refl
      spreads (Some f) =
          ap (λ a. not (is_same a (allocation policy dims later fact))) (allocation-spread_at policy dims facts f)
          ∙ ap (λ a. not (is_same (spread_at policy dims facts f.region) a)) (allocation-spread_at policy dims later fact)

  -- a region is spread otherwise where it is spread anew
  pub otherwise : (fact : Fact) → is_spread_otherwise policy dims edit facts fact.region fact.region ≡ is_spread_anew policy dims edit facts fact
  otherwise fact = either (covers_any dims (reweighed_cells policy dims edit facts) fact) refl
    where
      either : (b : Bool) → covers_any dims (reweighed_cells policy dims edit facts) fact ≡ b
          → is_spread_otherwise policy dims edit facts fact.region fact.region ≡ (b && is_spread_otherwise policy dims edit facts fact.region fact.region)
      either true is = refl
      either false is = ap (λ a. not (is_same (spread_at policy dims facts fact.region) a)) (spread_at-uncovered policy dims edit facts up fact is) ∙ ap not (same_allocation (spread_at policy dims facts fact.region))

  -- of the facts that the edit does not give
  others : (fact : Fact) → find (λ f. f.id == fact.id) later ≡ Some fact → (edited_id edit == fact.id) ≡ false → is_new_or_moved policy dims edit facts fact ≡ is_spread_anew policy dims edit facts fact
  others fact found other =
      let before : find (λ f. f.id == fact.id) facts ≡ Some fact =
      sym (ap (λ (b : Bool). if b then given edit else find (λ f. f.id == fact.id) facts) other) ∙ sym (find-after edit facts fact.id) ∙ found in
      ap (λ o. option_map_or (λ f. is_spread_otherwise policy dims edit facts f.region fact.region) o true) before ∙ otherwise fact

  refreshes : (fact : Fact) → find (λ f. f.id == fact.id) later ≡ Some fact → not (lies_as_before policy dims facts later fact) ≡ is_refreshed policy dims edit facts fact
  refreshes fact found = moved fact ∙ either (edited_id edit == fact.id) refl
    where
      either : (b : Bool) → (edited_id edit == fact.id) ≡ b → is_new_or_moved policy dims edit facts fact ≡ (if b then is_new_or_moved policy dims edit facts fact else is_spread_anew policy dims edit facts fact)
      either true is = refl
      either false is = others fact found is

  -- the ids that are refreshed
  pub among-refreshed : (id : ℕ) → is_among (refreshed policy dims facts later) id ≡ option_map_or (is_refreshed policy dims edit facts) (find (λ f. f.id == id) later) false
  unfolding refreshed
  among-refreshed id =
      among-kept id (λ f. not (lies_as_before policy dims facts later f)) later
      ∙ any-found id (λ f. not (lies_as_before policy dims facts later f)) later (pairs-after edit facts up)
      ∙ either (find (λ f. f.id == id) later) refl
    where
      either : (found : Option Fact) → find (λ f. f.id == id) later ≡ found → option_map_or (λ f. not (lies_as_before policy dims facts later f)) found false ≡ option_map_or (is_refreshed policy dims edit facts) found false
      either None is = refl
      either (Some fact) is =
          let its : fact.id ≡ id = found-has id later fact is in
          refreshes fact (ap (λ i. find (λ f. f.id == i) later) its ∙ is)

  pub ascends-refreshed : (least : ℕ) → All (λ f. least ≤ f.id) later → ascends_from (λ id. id) least (refreshed policy dims facts later) ≡ true
  unfolding refreshed
  ascends-refreshed least from =
      let p = λ (f : Fact). not (lies_as_before policy dims facts later f) in
      ascends_map (λ (id : ℕ). id) (λ (f : Fact). f.id) least (filter p later)
      ∙ ascends_filter (λ (f : Fact). f.id) p least later (ascends-from_pairs (λ (f : Fact). f.id) least later (pairs-after edit facts up) from)
