-- The leaves, and the leaves under a node, by the places of nodes.
use Rattle.std.proofs.Common.{◌≡◌, ℕ, ◌+◌, ◌-◌, ◌<◌, ◌≤◌, Bool, true, false, List, [], ◌∷◌, length, get_or, map, filter, None, ◌&&◌, ◌==◌, nat_lt, nat_le, if◌then◌else◌, cond, zero, suc, refl, sym, ap, ◌∙◌, subst, arith}
use Rattle.std.specs.List.{range_with_len}
use Rattle.std.proofs.lemmas.Bool.Decides.{nat_tests}
use Rattle.std.proofs.lemmas.List.{length-map}
use Rattle.cube_model.specs.declared.tree.NodeLine.{NodeLine}
use Rattle.cube_model.specs.Tree.{numbered, numbered_from, first_fault, is_leaf, is_under, leaves}
use Rattle.cube_model.specs.Cells.{places_from, leaf_places}
use Rattle.dim_tree.specs.Places.{is_childless, count_deeper, ends_from, leaves_from, leaf_counts_from}
use Rattle.dim_tree.proofs.Climbing.{depths_of}
use Rattle.dim_tree.proofs.Nodes.{ends_from-above, ends_from-within, count_deeper-within, is_under-end, is_leaf-end}

-- the places that pass, where those pass that end just behind themselves
filter-leaves_from : (p : ℕ → Bool) (k : ℕ) (lines : List NodeLine) → ((i x : ℕ) → x ≡ k + i → i < length lines → p x ≡ (get_or (ends_from k (depths_of lines)) i 0 == x + 1))
    → filter p (map (λ e. e.number) (numbered_from k lines)) ≡ leaves_from k (depths_of lines)
filter-leaves_from p k [] passes = refl
filter-leaves_from p k (line ∷ lines) passes =
    let here : p k ≡ (is_childless line.depth (depths_of lines)) = passes 0 k (omega arith) (omega arith) ∙ grind (arith, nat_tests) in
    let rest = filter-leaves_from p (k + 1) lines (λ i x at within. passes (suc i) x (omega arith) (omega arith)) in
    ap (λ b. cond b (k ∷ filter p (map (λ e. e.number) (numbered_from (k + 1) lines))) (filter p (map (λ e. e.number) (numbered_from (k + 1) lines)))) here ∙ ap (λ ks. cond (is_childless line.depth (depths_of lines)) (k ∷ ks) ks) rest

-- the bounds on the leaves, with one node before them
within_more : (b : Bool) (k m j : ℕ) (ks : List ℕ) → ((i : ℕ) → i < length ks → (k + 1 ≤ get_or ks i 0) × (get_or ks i 0 < k + 1 + m)) → j < length (cond b (k ∷ ks) ks) → (k ≤ get_or (cond b (k ∷ ks) ks) j 0) × (get_or (cond b (k ∷ ks) ks) j 0 < k + suc m)
within_more true k m zero ks rest inside = (omega arith, omega arith)
within_more true k m (suc j) ks rest inside = grind (arith, rest j (omega arith))
within_more false k m j ks rest inside = grind (arith, rest j inside)

-- a leaf's place is within the nodes
pub leaves_from-within : (k : ℕ) (ds : List ℕ) (i : ℕ) → i < length (leaves_from k ds) → (k ≤ get_or (leaves_from k ds) i 0) × (get_or (leaves_from k ds) i 0 < k + length ds)
leaves_from-within k [] i within = absurd (omega arith)
leaves_from-within k (d ∷ ds) i within = within_more (is_childless d ds) k (length ds) i (leaves_from (k + 1) ds) (leaves_from-within (k + 1) ds) within

-- there are no more leaves than nodes
pub length-leaves_from : (k : ℕ) (ds : List ℕ) → length (leaves_from k ds) ≤ length ds
length-leaves_from k [] = omega arith
length-leaves_from k (d ∷ ds) = grind (arith, nat_tests, length-leaves_from (k + 1) ds)

-- the counts start at c
pub leaf_counts_from-first : (c : ℕ) (ds : List ℕ) → get_or (leaf_counts_from c ds) 0 0 ≡ c
leaf_counts_from-first c [] = refl
leaf_counts_from-first c (d ∷ ds) = refl

-- there is one for each node, and one more
pub length-leaf_counts_from : (c : ℕ) (ds : List ℕ) → length (leaf_counts_from c ds) ≡ length ds + 1
length-leaf_counts_from c [] = refl
length-leaf_counts_from c (d ∷ ds) = grind (arith, length-leaf_counts_from (if is_childless d ds then c + 1 else c) ds)

-- they are from c to the count of all
leaf_counts_from-least : (c : ℕ) (ds : List ℕ) (j : ℕ) → j ≤ length ds → c ≤ get_or (leaf_counts_from c ds) j 0
leaf_counts_from-least c [] zero within = omega arith
leaf_counts_from-least c [] (suc j) within = absurd (omega arith)
leaf_counts_from-least c (d ∷ ds) zero within = omega arith
leaf_counts_from-least c (d ∷ ds) (suc j) within = grind (arith, nat_tests, leaf_counts_from-least (if is_childless d ds then c + 1 else c) ds j (omega arith))

-- and at most that of all
pub leaf_counts_from-most : (c k : ℕ) (ds : List ℕ) (j : ℕ) → j ≤ length ds → get_or (leaf_counts_from c ds) j 0 ≤ c + length (leaves_from k ds)
leaf_counts_from-most c k [] zero within = omega arith
leaf_counts_from-most c k [] (suc j) within = absurd (omega arith)
leaf_counts_from-most c k (d ∷ ds) zero within = omega arith
leaf_counts_from-most c k (d ∷ ds) (suc j) within = grind (arith, nat_tests, leaf_counts_from-most (c + 1) (k + 1) ds j (omega arith), leaf_counts_from-most c (k + 1) ds j (omega arith))

-- and rise
leaf_counts_from-rise : (c : ℕ) (ds : List ℕ) (i j : ℕ) → i ≤ j → j ≤ length ds → get_or (leaf_counts_from c ds) i 0 ≤ get_or (leaf_counts_from c ds) j 0
leaf_counts_from-rise c ds zero j order within = grind (arith, leaf_counts_from-first c ds, leaf_counts_from-least c ds j within)
leaf_counts_from-rise c [] (suc i) j order within = absurd (omega arith)
leaf_counts_from-rise c (d ∷ ds) (suc i) zero order within = absurd (omega arith)
leaf_counts_from-rise c (d ∷ ds) (suc i) (suc j) order within = leaf_counts_from-rise (if is_childless d ds then c + 1 else c) ds i j (omega arith) (omega arith)

-- the deeper the bound, the fewer lie deeper
count_deeper-order : (d f : ℕ) (ds : List ℕ) → d ≤ f → count_deeper f ds ≤ count_deeper d ds
count_deeper-order d f [] order = omega arith
count_deeper-order d f (e ∷ ds) order = grind (arith, nat_tests, count_deeper-order d f ds order)

-- the leaf under a node, where the next node f is under it or not
under_step : (b : Bool) (c f n : ℕ) (ds : List ℕ) → (b ≡ true → c < get_or (leaf_counts_from (if is_childless f ds then c + 1 else c) ds) n 0)
    → c < get_or (leaf_counts_from (if (if b then suc n else 0) == 0 then c + 1 else c) (f ∷ ds)) (if b then suc n else 0) 0
under_step true c f n ds deeper = grind (arith, nat_tests, deeper refl)
under_step false c f n ds deeper = omega arith

-- under a node there is a leaf: the last node under it
leaf_counts_from-under : (c d : ℕ) (ds : List ℕ) → c < get_or (leaf_counts_from (if is_childless d ds then c + 1 else c) ds) (count_deeper d ds) 0
leaf_counts_from-under c d [] = omega arith
leaf_counts_from-under c d (f ∷ ds) = under_step (nat_lt d f) c f (count_deeper d ds) ds (λ deeper. grind (arith, nat_tests, leaf_counts_from-under c f ds, leaf_counts_from-rise (if is_childless f ds then c + 1 else c) ds (count_deeper f ds) (count_deeper d ds) (count_deeper-order d f ds (grind (arith, nat_tests))) (count_deeper-within d ds)))

-- no number from c up to c
no_range : (c m : ℕ) → m ≡ c → [] ≡ range_with_len c (m - c)
no_range c m same = let none : 0 ≡ m - c = omega arith in ap (range_with_len c) none

-- one node further on, among those that pass
inside_step : (p : ℕ → Bool) (leaf : Bool) (c k : ℕ) (ks : List ℕ) (count : ℕ → ℕ) → p k ≡ true → ((b : ℕ) → places_from p b ks ≡ range_with_len b (count b - b)) → c + 1 ≤ count (c + 1)
    → places_from p c (if leaf then k ∷ ks else ks) ≡ range_with_len c (count (if leaf then c + 1 else c) - c)
inside_step p true c k ks count here rest least =
    let more : count (c + 1) - c ≡ suc (count (c + 1) - (c + 1)) = omega arith in
    ap (λ b. cond b (c ∷ places_from p (c + 1) ks) (places_from p (c + 1) ks)) here ∙ ap (λ ls. c ∷ ls) (rest (c + 1)) ∙ ap (range_with_len c) (sym more)
inside_step p false c k ks count here rest least = rest c

-- one node further on, before those that pass
before_step : (p : ℕ → Bool) (leaf : Bool) (c k : ℕ) (ks : List ℕ) (first last : ℕ → ℕ) → p k ≡ false → ((b : ℕ) → places_from p b ks ≡ range_with_len (first b) (last b - first b))
    → places_from p c (if leaf then k ∷ ks else ks) ≡ range_with_len (first (if leaf then c + 1 else c)) (last (if leaf then c + 1 else c) - first (if leaf then c + 1 else c))
before_step p true c k ks first last here rest = ap (λ b. cond b (c ∷ places_from p (c + 1) ks) (places_from p (c + 1) ks)) here ∙ rest (c + 1)
before_step p false c k ks first last here rest = rest c

-- the places of the leaves that pass, from the count c on, where those of the places pass that are from `from` to before `to`
module _ (p : ℕ → Bool) where
  -- none of those behind the end
  places_after : (c k : ℕ) (ds : List ℕ) → ((i x : ℕ) → x ≡ k + i → i < length ds → p x ≡ false) → places_from p c (leaves_from k ds) ≡ []
  places_after c k [] fails = refl
  places_after c k (d ∷ ds) fails = grind (arith, nat_tests, fails 0 k, places_after c (k + 1) ds (λ i x at within. fails (suc i) x (omega arith) (omega arith)), places_after (c + 1) (k + 1) ds (λ i x at within. fails (suc i) x (omega arith) (omega arith)))

  -- all of those before the end
  places_inside : (c k j : ℕ) (ds : List ℕ) → j ≤ length ds → ((i x : ℕ) → x ≡ k + i → i < length ds → p x ≡ nat_lt i j) → places_from p c (leaves_from k ds) ≡ range_with_len c (get_or (leaf_counts_from c ds) j 0 - c)
  places_inside c k zero ds within passes = places_after c k ds (λ i x at inside. passes i x at inside ∙ grind (arith, nat_tests)) ∙ no_range c (get_or (leaf_counts_from c ds) 0 0) (leaf_counts_from-first c ds)
  places_inside c k (suc j) [] within passes = absurd (omega arith)
  places_inside c k (suc j) (d ∷ ds) within passes =
      let here : p k ≡ true = passes 0 k (omega arith) (omega arith) ∙ grind (arith, nat_tests) in
      let rest = λ (b : ℕ). places_inside b (k + 1) j ds (omega arith) (λ i x at inside. passes (suc i) x (omega arith) (omega arith) ∙ grind (arith, nat_tests)) in
      inside_step p (is_childless d ds) c k (leaves_from (k + 1) ds) (λ b. get_or (leaf_counts_from b ds) j 0) here rest (leaf_counts_from-least (c + 1) ds j (omega arith))

  -- and none of those before the first
  places_before : (c k i j : ℕ) (ds : List ℕ) → i ≤ j → j ≤ length ds → ((l x : ℕ) → x ≡ k + l → l < length ds → p x ≡ (nat_le i l && nat_lt l j))
      → places_from p c (leaves_from k ds) ≡ range_with_len (get_or (leaf_counts_from c ds) i 0) (get_or (leaf_counts_from c ds) j 0 - get_or (leaf_counts_from c ds) i 0)
  places_before c k zero j ds order within passes = places_inside c k j ds within (λ l x at inside. passes l x at inside ∙ grind (arith, nat_tests)) ∙ ap (λ n. range_with_len n (get_or (leaf_counts_from c ds) j 0 - n)) (sym (leaf_counts_from-first c ds))
  places_before c k (suc i) zero ds order within passes = absurd (omega arith)
  places_before c k (suc i) (suc j) [] order within passes = absurd (omega arith)
  places_before c k (suc i) (suc j) (d ∷ ds) order within passes =
      let here : p k ≡ false = passes 0 k (omega arith) (omega arith) ∙ grind (arith, nat_tests) in
      let rest = λ (b : ℕ). places_before b (k + 1) i j ds (omega arith) (omega arith) (λ l x at inside. passes (suc l) x (omega arith) (omega arith) ∙ grind (arith, nat_tests)) in
      before_step p (is_childless d ds) c k (leaves_from (k + 1) ds) (λ b. get_or (leaf_counts_from b ds) i 0) (λ b. get_or (leaf_counts_from b ds) j 0) here rest

-- a node has a leaf under it: fewer stand before it than before its end
counts_under : (c k i j : ℕ) (ds : List ℕ) → i < length ds → get_or (ends_from k ds) i 0 ≡ k + j → get_or (leaf_counts_from c ds) i 0 < get_or (leaf_counts_from c ds) j 0
counts_under c k i j [] within end = absurd (omega arith)
counts_under c k zero zero (d ∷ ds) within end = absurd (omega arith)
counts_under c k zero (suc j) (d ∷ ds) within end = let same : count_deeper d ds ≡ j = omega arith in subst (λ n. c < get_or (leaf_counts_from (if is_childless d ds then c + 1 else c) ds) n 0) same (leaf_counts_from-under c d ds)
counts_under c k (suc i) zero (d ∷ ds) within end = absurd (omega (arith, ends_from-above (k + 1) ds i (omega arith)))
counts_under c k (suc i) (suc j) (d ∷ ds) within end = counts_under (if is_childless d ds then c + 1 else c) (k + 1) i j ds (omega arith) (omega arith)

module _ (lines : List NodeLine) (accepted : first_fault [] 0 lines ≡ None) where
  -- the place behind the last node under y
  abbrev end_of : ℕ → ℕ
  end_of y = get_or (ends_from 0 (depths_of lines)) y 0

  -- how many leaves stand before y
  abbrev count_at : ℕ → ℕ
  count_at y = get_or (leaf_counts_from 0 (depths_of lines)) y 0

  -- the leaves are those that end just behind themselves
  pub leaves-places : leaves (numbered lines) ≡ leaves_from 0 (depths_of lines)
  unfolding leaves
  leaves-places = filter-leaves_from (is_leaf (numbered lines)) 0 lines (λ i x at within.
      let same : x ≡ i = omega arith in
      is_leaf-end lines accepted x (omega arith) ∙ ap (λ n. get_or (ends_from 0 (depths_of lines)) n 0 == x + 1) same)

  -- those under a node are one range
  pub leaf_places-range : (y : ℕ) → y < length lines → leaf_places (numbered lines) y ≡ range_with_len (count_at y) (count_at (end_of y) - count_at y)
  unfolding leaf_places
  leaf_places-range y within =
      let few = length-map lines (λ (line : NodeLine). line.depth) in
      let inside : y < length (depths_of lines) = omega (arith, few) in
      ap (places_from (λ leaf. is_under (numbered lines) leaf y) 0) leaves-places ∙ places_before (λ leaf. is_under (numbered lines) leaf y) 0 0 y (end_of y) (depths_of lines) (omega (arith, ends_from-above 0 (depths_of lines) y inside)) (omega (arith, ends_from-within 0 (depths_of lines) y inside)) (λ l x at below.
      let same : x ≡ l = omega arith in
      is_under-end lines accepted x y within ∙ ap (λ n. nat_le y n && nat_lt n (end_of y)) same)

  -- and at least one
  pub leaf_range-some : (y : ℕ) → y < length lines → count_at y < count_at (end_of y)
  leaf_range-some y within = counts_under 0 0 y (end_of y) (depths_of lines) (omega (arith, length-map lines (λ (line : NodeLine). line.depth))) (omega arith)

  -- among all leaves
  pub leaf_range-within : (y : ℕ) → y < length lines → count_at (end_of y) ≤ length (leaves (numbered lines))
  leaf_range-within y within =
      let inside : y < length (depths_of lines) = omega (arith, length-map lines (λ (line : NodeLine). line.depth)) in
      grind (arith, leaves-places, leaf_counts_from-most 0 0 (depths_of lines) (end_of y) (omega (arith, ends_from-within 0 (depths_of lines) y inside)))
