-- How the numbers of nodes are judged, and their places found.
use Rattle.std.proofs.Common.{◌≡◌, ℕ, ◌+◌, ◌<◌, ◌≤◌, Bool, true, false, List, [], ◌∷◌, ◌++◌, length, get_or, map, set, drop, Some, None, not, ◌||◌, ◌&&◌, ◌==◌, nat_lt, if◌then◌else◌, cond, zero, suc, refl, sym, ap, ◌∙◌, inl, inr, eq-eqb, ne_eqb, arith}
use Rattle.std.specs.List.{list_any, list_all, position_from, range_with_len}
use Rattle.std.specs.Option.{option_map_or, unwrap_or}
use Rattle.std.proofs.lemmas.Bool.{cases_eq}
use Rattle.std.proofs.lemmas.Bool.Decides.{nat_tests}
use Rattle.std.proofs.lemmas.Grind.{common_steps}
use Rattle.std.proofs.lemmas.Iterator.Adapters.{position_from-zero}
use Rattle.std.proofs.lemmas.List.{drop_more, get_or-map}
use Rattle.std.proofs.lemmas.List.Folds.{list_all-append, list_all_at}
use Rattle.std.proofs.lemmas.List.FromFn.{get_or-range_with_len, length-range_with_len, map-range_with_len_more}
use Rattle.cube_model.specs.Tree.{Dimension, Entry, are_distinct, first_fault, is_above_parent, is_numbered, node_lines, numbers, parent}
use Rattle.cube_model.specs.declared.tree.DimFault.TheVariants.{Number}
use Rattle.dim_tree.specs.declared.node.Node.{Node}
use Rattle.dim_tree.specs.Nodes.{ArePlaces, are_above, are_numbers, is_above, node_at}
use Rattle.dim_tree.specs.Places.{parents_from}
use Rattle.dim_tree.proofs.Climbing.{both, depths_of, together}
use Rattle.dim_tree.proofs.Entries.{length-node_lines}
use Rattle.dim_tree.proofs.Nodes.{no_entry}
use Rattle.dim_tree.proofs.Numbers.{AreNumbers, all_among, at_within, stands_at, stands_nowhere}
use Rattle.dim_tree.proofs.Parents.{parents_from-below}
use Rattle.dim_tree.proofs.Renumbering.{kept_parent, length-numbers, number_at}
use Rattle.dim_tree.proofs.Siblings.{parent_at-within}

-- one number more
range_suc : (a n : ℕ) → range_with_len a (suc n) ≡ range_with_len a n ++ (a + n) ∷ []
range_suc a zero = ap (λ b. b ∷ []) (omega arith)
range_suc a (suc n) = ap (λ xs. a ∷ xs) (range_suc (a + 1) n ∙ ap (λ b. range_with_len (a + 1) n ++ b ∷ []) (omega arith))

pub range_more : (a n : ℕ) → range_with_len a (n + 1) ≡ range_with_len a n ++ (a + n) ∷ []
range_more a n = let same : n + 1 ≡ suc n = omega arith in ap (range_with_len a) same ∙ range_suc a n

-- The places of the numbers from place k on; the count of all stands for the place of a number that is not among them.
pub record HasPlaces (ns : List ℕ) (k : ℕ) (places : List ℕ) : Type 0 where
  pub room : length places ≡ length ns
  pub distinct : are_distinct (drop k ns) ≡ true
  pub below : list_all (λ n. nat_lt n (length ns)) (drop k ns) ≡ true
  pub found : (x : ℕ) → x < length ns → get_or places x 0 ≡ unwrap_or (position_from (λ n. n == x) k (drop k ns)) (length ns)

-- a number that is among those from place k on has a place before the count
placed_before : (ns : List ℕ) (k x : ℕ) → k ≤ length ns → list_any (λ m. m == x) (drop k ns) ≡ true → unwrap_or (position_from (λ n. n == x) k (drop k ns)) (length ns) < length ns
placed_before ns k x within among =
    let at = stands_at x k (drop k ns) among in
    let its : unwrap_or (position_from (λ n. n == x) k (drop k ns)) (length ns) ≡ k + at.place = ap (λ o. unwrap_or o (length ns)) at.found in
    let room : length (drop k ns) + k ≡ length ns = grind (arith, common_steps) in
    omega (arith, its, at.within, room)

-- the number at a place comes first of those from there on
dropped_at : (ns : List ℕ) (k after x : ℕ) → after ≡ k + 1 → k < length ns → x ≡ get_or ns k 0 → drop k ns ≡ x ∷ drop after ns
dropped_at ns k after x follows within at = drop_more ns k 0 within ∙ ap (λ d. d ∷ drop (k + 1) ns) (sym at) ∙ ap (λ n. x ∷ drop n ns) (sym follows)

-- both answers of a test that is not one of them
is_false : (b : Bool) → (b ≡ true → ⊥) → b ≡ false
is_false true deny = absurd (deny refl)
is_false false deny = refl

is_true : (b : Bool) → (b ≡ false → ⊥) → b ≡ true
is_true true deny = refl
is_true false deny = absurd (deny refl)

-- one place earlier, where the number there is below the count and not among those behind
pub HasPlaces_more : (ns : List ℕ) (k after x : ℕ) (places : List ℕ) → after ≡ k + 1 → HasPlaces ns after places → k < length ns → x ≡ get_or ns k 0 → x < length ns → get_or places x 0 ≡ length ns → HasPlaces ns k (set places x k)
HasPlaces_more ns k after x places follows has within at small free =
    let dropped = dropped_at ns k after x follows within at in
    let fresh : list_any (λ m. m == x) (drop after ns) ≡ false = is_false _ (λ among. omega (arith, has.found x small, placed_before ns after x (omega arith) among)) in
    record {
      room = grind (arith, common_steps, has.room);
      distinct = ap are_distinct dropped ∙ ap (λ b. not b && are_distinct (drop after ns)) fresh ∙ has.distinct;
      below = ap (list_all (λ n. nat_lt n (length ns))) dropped ∙ together (grind (arith, nat_tests)) has.below;
      found = λ y inside. elim (cases_eq x y) [
        | inl here ↦
            let its : position_from (λ n. n == y) k (drop k ns) ≡ Some k = ap (position_from (λ n. n == y) k) dropped ∙ ap (λ b. cond b (Some k) (position_from (λ n. n == y) (k + 1) (drop after ns))) (eq-eqb x y here) in
            let read : get_or (set places x k) y 0 ≡ k = grind (arith, common_steps, here, has.room) in
            read ∙ ap (λ o. unwrap_or o (length ns)) (sym its)
        | inr there ↦
            let its : position_from (λ n. n == y) k (drop k ns) ≡ position_from (λ n. n == y) after (drop after ns)
            = ap (position_from (λ n. n == y) k) dropped ∙ ap (λ b. cond b (Some k) (position_from (λ n. n == y) (k + 1) (drop after ns))) (ne_eqb x y there) ∙ ap (λ n. position_from (λ m. m == y) n (drop after ns)) (sym follows) in
            let read : get_or (set places x k) y 0 ≡ get_or places y 0 = grind (arith, common_steps, there) in
            read ∙ has.found y inside ∙ ap (λ o. unwrap_or o (length ns)) (sym its)
      ];
    }

-- a number that is not below the count is refused
pub too_large : (ns : List ℕ) (k : ℕ) → k < length ns → length ns ≤ get_or ns k 0 → are_numbers ns ≡ false
too_large ns k within large = grind (arith, nat_tests, list_all_at (λ n. nat_lt n (length ns)) ns k 0 within (grind (arith, nat_tests)))

-- numbers among which some are not distinct are not
distinct_drop : (k : ℕ) (ns : List ℕ) → are_distinct (drop k ns) ≡ false → are_distinct ns ≡ false
distinct_drop zero ns twice = twice
distinct_drop (suc k) [] twice = twice
distinct_drop (suc k) (n ∷ ns) twice = grind (arith, distinct_drop k ns twice)

-- and so is a number that has a place already
pub met_twice : (ns : List ℕ) (k after x : ℕ) (places : List ℕ) → after ≡ k + 1 → HasPlaces ns after places → k < length ns → x ≡ get_or ns k 0 → x < length ns → (get_or places x 0 ≡ length ns → ⊥) → are_numbers ns ≡ false
met_twice ns k after x places follows has within at small taken =
    let among : list_any (λ m. m == x) (drop after ns) ≡ true = is_true _ (λ none. taken (has.found x small ∙ ap (λ o. unwrap_or o (length ns)) (stands_nowhere x after (drop after ns) none))) in
    let twice : are_distinct (drop k ns) ≡ false = ap are_distinct (dropped_at ns k after x follows within at) ∙ ap (λ b. not b && are_distinct (drop after ns)) among in
    ap (λ b. b && list_all (λ n. nat_lt n (length ns)) ns) (distinct_drop k ns twice)

-- all of them are numbers
pub AreNumbers_all : (ns places : List ℕ) → HasPlaces ns 0 places → are_numbers ns ≡ true
AreNumbers_all ns places has = together has.distinct has.below

-- with their places
pub ArePlaces_all : (ns places : List ℕ) → HasPlaces ns 0 places → ArePlaces ns places
ArePlaces_all ns places has = record {
  same_length = has.room;
  found = λ x within.
      let at = stands_at x 0 ns (all_among ns x has.distinct has.below within) in
      position_from-zero (λ n. n == x) ns ∙ at.found ∙ ap Some (sym (has.found x within ∙ ap (λ o. unwrap_or o (length ns)) at.found));
}

-- what `are_numbers` tells
pub AreNumbers_told : (ns : List ℕ) → are_numbers ns ≡ true → AreNumbers ns
AreNumbers_told ns told = let parts = both (are_distinct ns) (list_all (λ n. nat_lt n (length ns)) ns) told in record { distinct = parts.0; below = parts.1 }

-- the numbers that are places have their places
position-range : (k n x : ℕ) → k ≤ x → x < k + n → position_from (λ m. m == x) k (range_with_len k n) ≡ Some x
position-range k zero x from within = absurd (omega arith)
position-range k (suc n) x from within = elim (cases_eq k x) [
  | inl here ↦ ap (λ b. cond b (Some k) (position_from (λ m. m == x) (k + 1) (range_with_len (k + 1) n))) (eq-eqb k x here) ∙ ap Some here
  | inr there ↦ ap (λ b. cond b (Some k) (position_from (λ m. m == x) (k + 1) (range_with_len (k + 1) n))) (ne_eqb k x there) ∙ position-range (k + 1) n x (omega (arith, there)) (omega arith)
]

pub ArePlaces_range : (n : ℕ) → ArePlaces (range_with_len 0 n) (range_with_len 0 n)
ArePlaces_range n = record {
  same_length = refl;
  found = λ x within.
      let small : x < n = omega (arith, length-range_with_len 0 n) in
      position_from-zero (λ m. m == x) (range_with_len 0 n) ∙ position-range 0 n x (omega arith) (omega arith) ∙ ap Some (sym (get_or-range_with_len 0 n x 0 small ∙ omega arith));
}

-- the numbers at one place more are above those of the parents
pub above_more : (ns parents : List ℕ) (k : ℕ) → list_all (is_above ns parents) (range_with_len 0 k) ≡ true → is_above ns parents k ≡ true → list_all (is_above ns parents) (range_with_len 0 (k + 1)) ≡ true
above_more ns parents k all here =
    ap (list_all (is_above ns parents)) (range_more 0 k) ∙ list_all-append (is_above ns parents) (range_with_len 0 k) ((0 + k) ∷ []) ∙ together all (together (ap (is_above ns parents) (omega arith) ∙ here) refl)

-- or not
pub above_fails : (ns parents : List ℕ) (k : ℕ) → k < length ns → is_above ns parents k ≡ false → are_above ns parents ≡ false
above_fails ns parents k within fails = list_all_at (is_above ns parents) (range_with_len 0 (length ns)) k 0 (omega (arith, length-range_with_len 0 (length ns))) (ap (is_above ns parents) (get_or-range_with_len 0 (length ns) k 0 within ∙ omega arith) ∙ fails)

-- a test of all items by their places
list_all-range : {X : Type 0} (p : X → Bool) (q : ℕ → Bool) (k : ℕ) (d : X) (xs : List X) → ((i j : ℕ) → j ≡ k + i → i < length xs → p (get_or xs i d) ≡ q j) → list_all p xs ≡ list_all q (range_with_len k (length xs))
list_all-range p q k d [] same = refl
list_all-range p q k d (x ∷ xs) same = ap (λ b. b && list_all p xs) (same 0 k (omega arith) (omega arith)) ∙ ap (λ b. q k && b) (list_all-range p q (k + 1) d xs (λ i j at within. same (suc i) j (omega arith) (omega arith)))

-- the test of a parent that none but the first has
is_above_kept : (b : Bool) (p n : ℕ) → option_map_or (λ m. nat_lt m n) (if b then None else Some p) true ≡ (b || nat_lt p n)
is_above_kept true p n = refl
is_above_kept false p n = refl

-- numbers that are distinct and below their count are in an order of creation where each is above that of its parent
pub is_numbered_above : (dim : Dimension) → first_fault [] 0 (node_lines dim) ≡ None → are_numbers (numbers dim) ≡ true → is_numbered dim ≡ are_above (numbers dim) (parents_from [] (depths_of (node_lines dim)))
unfolding is_numbered
is_numbered_above dim accepted told =
    let ns = numbers dim in
    let parents = parents_from [] (depths_of (node_lines dim)) in
    let are = AreNumbers_told ns told in
    let here : (i j : ℕ) → j ≡ 0 + i → i < length dim → is_above_parent dim (get_or dim i no_entry) ≡ is_above ns parents j = λ i j at within.
    let same : j ≡ i = omega arith in
    let in_lines : i < length (node_lines dim) = omega (arith, length-node_lines dim) in
    let above = get_or parents i 0 in
    let room : above < length ns = omega (arith, parent_at-within (node_lines dim) accepted i in_lines, length-node_lines dim, length-numbers dim) in
    let number : (get_or dim i no_entry).number ≡ number_at dim i = sym (get_or-map (λ (e : Entry). e.number) dim i no_entry 0 within) ∙ sym (at_within ns i (omega (arith, length-numbers dim))) in
    ap (λ x. option_map_or (λ p. nat_lt p x) (parent dim x) true) number ∙ ap (λ o. option_map_or (λ p. nat_lt p (number_at dim i)) o true) (kept_parent dim are i accepted within) ∙ is_above_kept (i == 0) (number_at dim above) (number_at dim i)
    ∙ ap (λ p. i == 0 || nat_lt p (number_at dim i)) (at_within ns above room) ∙ ap (λ n. i == 0 || nat_lt (get_or ns above 0) n) (at_within ns i (omega (arith, length-numbers dim))) ∙ ap (is_above ns parents) (sym same) in
    let whole : list_all (is_above_parent dim) dim ≡ are_above ns parents = list_all-range (is_above_parent dim) (is_above ns parents) 0 no_entry dim here ∙ ap (λ n. list_all (is_above ns parents) (range_with_len 0 n)) (sym (length-numbers dim)) in
    ap (λ n. are_distinct ns && list_all (λ m. nat_lt m n) ns && list_all (is_above_parent dim) dim) (sym (length-numbers dim)) ∙ ap (λ b. b && list_all (is_above_parent dim) dim) told ∙ whole

-- numbers that are not, are in none
pub is_numbered_not : (dim : Dimension) → are_numbers (numbers dim) ≡ false → is_numbered dim ≡ false
unfolding is_numbered
is_numbered_not dim told =
    ap (λ n. are_distinct (numbers dim) && list_all (λ m. nat_lt m n) (numbers dim) && list_all (is_above_parent dim) dim) (sym (length-numbers dim)) ∙ ap (λ b. b && list_all (is_above_parent dim) dim) told

-- what refuses numbers
pub number_fault : (ns : List ℕ) → are_numbers ns ≡ false → (if are_numbers ns then None else Some Number) ≡ Some Number
number_fault ns told = ap (λ b. if b then None else Some Number) told

-- the place of a parent is one of the places
pub parents_from-within : (ds : List ℕ) (i : ℕ) → i < length ds → get_or (parents_from [] ds) i 0 < length ds
parents_from-within [] i within = absurd (omega arith)
parents_from-within (d ∷ ds) zero within = omega arith
parents_from-within (d ∷ ds) (suc i) within = omega (arith, parents_from-below [] (d ∷ ds) (suc i) within (omega arith))

-- one node more
pub nodes_more : (depths ns : List ℕ) (k : ℕ) (nodes : List Node) (node : Node) → nodes ≡ map (node_at depths ns) (range_with_len 0 k) → node ≡ node_at depths ns k → nodes ++ node ∷ [] ≡ map (node_at depths ns) (range_with_len 0 (k + 1))
nodes_more depths ns k nodes node made is = ap (λ xs. xs ++ node ∷ []) made ∙ ap (λ x. map (node_at depths ns) (range_with_len 0 k) ++ x ∷ []) is ∙ sym (map-range_with_len_more (node_at depths ns) 0 k k (omega arith))
