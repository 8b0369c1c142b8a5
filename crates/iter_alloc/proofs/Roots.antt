-- The roots of places stay where a way is halved, and of two trees that are joined the lesser root stays.
use Rattle.iter_alloc.proofs.Tests.{itself, equal, unequal}
use Rattle.iter_alloc.specs.Forest.{at, IsForest, AreRoots, relabelled}
use Rattle.std.proofs.Common.{◌≡◌, ℕ, zero, suc, ◌+◌, ◌<◌, ◌≤◌, ◌≢◌, Bool, true, false, List, [], ◌∷◌, ◌++◌, set, take, length, refl, ap, sym, ◌∙◌, subst, arith, inl, inr, ◌⊎◌, min, max}
use Rattle.std.proofs.lemmas.Bool.{cases_lt, cases_eq}
use Rattle.std.proofs.lemmas.Bool.Decides.{nat_tests}
use Rattle.std.proofs.lemmas.List.{length-set, length-map, get_or-set_same, get_or-set_other, get_or-take, take_more, length_push, get_or-map}
use Rattle.std.specs.Prelude.{◌==◌, if◌then◌else◌}

-- the two cases of a place
root-own : (b : Bool) (i p l m : ℕ) → (p == i) ≡ b → l ≡ (if b then i else m) → p ≡ i → l ≡ i
root-own true i p l m is each own = each
root-own false i p l m is each own = absurd (cc (sym is ∙ ap (λ n. n == i) own ∙ itself i))

root-other : (b : Bool) (i p l m : ℕ) → (p == i) ≡ b → l ≡ (if b then i else m) → p < i → l ≡ m
root-other true i p l m is each below = absurd (omega (arith, equal p i is, below))
root-other false i p l m is each below = each

module _ (parents roots : List ℕ) (are : AreRoots parents roots) where
  pub at_root : (i : ℕ) → i < length parents → at parents i ≡ i → at roots i ≡ i
  at_root i within own = root-own (at parents i == i) i (at parents i) (at roots i) (at roots (at parents i)) refl (are.each i within) own

  pub at_other : (i : ℕ) → i < length parents → at parents i < i → at roots i ≡ at roots (at parents i)
  at_other i within below = root-other (at parents i == i) i (at parents i) (at roots i) (at roots (at parents i)) refl (are.each i within) below

  -- a root stands no later than its place, and is its own
  pub roots-low : (n i : ℕ) → i < n → i < length parents → (at roots i ≤ i) × (at roots (at roots i) ≡ at roots i)
  roots-low zero i before within = absurd (omega arith)
  roots-low (suc n) i before within = either (cases_lt (at parents i) i) (roots-low n (at parents i))
    where
      either : (at parents i < i) ⊎ (i ≤ at parents i) → (at parents i < n → at parents i < length parents → (at roots (at parents i) ≤ at parents i) × (at roots (at roots (at parents i)) ≡ at roots (at parents i)))
          → (at roots i ≤ i) × (at roots (at roots i) ≡ at roots i)
      either (inl below) rest =
          let same = at_other i within below in
          let up = rest (omega (arith, before, below)) (omega (arith, below, within)) in
          (omega (arith, same, up.0, below), ap (at roots) same ∙ up.1 ∙ sym same)
      either (inr above) rest =
          let own = at_root i within (omega (arith, are.low i within, above)) in
          (omega (arith, own), ap (at roots) own)

  pub root-within : (i : ℕ) → i < length parents → at roots i < length parents
  root-within i within = omega (arith, (roots-low (i + 1) i (omega arith) within).0, within)

  -- what is its own root has itself as its parent
  pub own-root : (i : ℕ) → i < length parents → at roots i ≡ i → at parents i ≡ i
  own-root i within own = either (cases_lt (at parents i) i)
    where
      either : (at parents i < i) ⊎ (i ≤ at parents i) → at parents i ≡ i
      either (inl below) =
          let up = (roots-low (at parents i + 1) (at parents i) (omega arith) (omega (arith, below, within))).0 in
          absurd (omega (arith, at_other i within below, up, own, below))
      either (inr above) = omega (arith, are.low i within, above)

module _ (parents : List ℕ) (forest : IsForest parents) (i : ℕ) (within : i < length parents) where
  abbrev above : ℕ
  above = at parents (at parents i)

  pub above-low : above ≤ at parents i
  above-low = forest.low (at parents i) (omega (arith, forest.low i within, within))

  module _ (roots : List ℕ) (are : AreRoots parents roots) (below : at parents i < i) where
    above-root : at roots i ≡ at roots above
    above-root = at_other parents roots are i within below ∙ either (cases_lt above (at parents i))
      where
        parent_within : at parents i < length parents
        parent_within = omega (arith, below, within)

        either : (above < at parents i) ⊎ (at parents i ≤ above) → at roots (at parents i) ≡ at roots above
        either (inl lower) = at_other parents roots are (at parents i) parent_within lower
        either (inr same) = let is : at parents i ≡ above = omega (arith, same, above-low) in ap (at roots) is

    halved-at : (j : ℕ) → (j ≡ i) ⊎ (j ≢ i) → j < length parents → at roots j ≡ (if at (set parents i above) j == j then j else at roots (at (set parents i above) j))
    halved-at j (inl is) in_j =
        let here : at (set parents i above) j ≡ above = ap (at (set parents i above)) is ∙ get_or-set_same parents i above 0 within in
        let differ : (above == j) ≡ false = unequal above j (λ same. absurd (omega (arith, same, is, above-low, below))) in
        rw (here, differ) (ap (at roots) is ∙ above-root)
    halved-at j (inr other) in_j =
        let here : at (set parents i above) j ≡ at parents j = get_or-set_other parents i j above 0 other in
        rw here (are.each j in_j)

    halved-low : (j : ℕ) → (j ≡ i) ⊎ (j ≢ i) → j < length parents → at (set parents i above) j ≤ j
    halved-low j (inl is) in_j =
        let here : at (set parents i above) j ≡ above = ap (at (set parents i above)) is ∙ get_or-set_same parents i above 0 within in
        omega (arith, here, above-low, below, is)
    halved-low j (inr other) in_j = omega (arith, get_or-set_other parents i j above 0 other, are.low j in_j)

    pub halved : AreRoots (set parents i above) roots
    halved = record {
      low = λ j in_j. halved-low j (cases_eq j i) (omega (arith, length-set parents i above, in_j));
      as_many = are.as_many ∙ sym (length-set parents i above);
      each = λ j in_j. halved-at j (cases_eq j i) (omega (arith, length-set parents i above, in_j));
    }

-- climbing from a place has come to another of the same root
pub record Climbing (begun : List ℕ) (place : ℕ) (parents : List ℕ) (i : ℕ) : Type 0 where
  pub as_many : length parents ≡ length begun
  pub forest : IsForest parents
  pub within : i < length parents
  pub kept : (roots : List ℕ) → AreRoots begun roots → AreRoots parents roots
  pub same : (roots : List ℕ) → AreRoots begun roots → at roots i ≡ at roots place

module _ (begun : List ℕ) (place : ℕ) where
  pub climb-start : IsForest begun → place < length begun → Climbing begun place begun place
  climb-start forest within = record { as_many = refl; forest = forest; within = within; kept = λ roots are. are; same = λ roots are. refl }

  module _ (parents : List ℕ) (i : ℕ) (climbing : Climbing begun place parents i) where
    pub climb-falls : at parents i ≢ i → at parents (at parents i) < i
    climb-falls other = omega (arith, above-low parents climbing.forest i climbing.within, climbing.forest.low i climbing.within, other)

    pub climb-next : at parents i ≢ i → Climbing begun place (set parents i (at parents (at parents i))) (at parents (at parents i))
    climb-next other =
        let below : at parents i < i = omega (arith, climbing.forest.low i climbing.within, other) in
        let up = above-low parents climbing.forest i climbing.within in
        record {
          as_many = length-set parents i (at parents (at parents i)) ∙ climbing.as_many;
          forest = record { low = λ j in_j. low j (cases_eq j i) (omega (arith, length-set parents i (at parents (at parents i)), in_j)) };
          within = omega (arith, length-set parents i (at parents (at parents i)), up, below, climbing.within);
          kept = λ roots are. halved parents climbing.forest i climbing.within roots (climbing.kept roots are) below;
          same = λ roots are. sym (above-root parents climbing.forest i climbing.within roots (climbing.kept roots are) below) ∙ climbing.same roots are;
        }
      where
        low : (j : ℕ) → (j ≡ i) ⊎ (j ≢ i) → j < length parents → at (set parents i (at parents (at parents i))) j ≤ j
        low j (inl is) in_j =
            let here : at (set parents i (at parents (at parents i))) j ≡ at parents (at parents i) = ap (at (set parents i (at parents (at parents i)))) is ∙ get_or-set_same parents i (at parents (at parents i)) 0 climbing.within in
            omega (arith, here, above-low parents climbing.forest i climbing.within, climbing.forest.low i climbing.within, is)
        low j (inr differ) in_j = omega (arith, get_or-set_other parents i j (at parents (at parents i)) 0 differ, climbing.forest.low j in_j)

    pub climb-root : at parents i ≡ i → (roots : List ℕ) → AreRoots begun roots → i ≡ at roots place
    climb-root own roots are = sym (at_root parents roots (climbing.kept roots are) i climbing.within own) ∙ climbing.same roots are

module _ (a b : ℕ) where
  abbrev pub renamed : ℕ → ℕ
  renamed root = if root == max a b then min a b else root

  renamed-if : (c : Bool) (l : ℕ) → (l == max a b) ≡ c → renamed l ≡ (if c then min a b else l)
  renamed-if c l is = ap (λ (t : Bool). if t then min a b else l) is

  pub renamed-greater : (l : ℕ) → l ≡ max a b → renamed l ≡ min a b
  renamed-greater l is = renamed-if true l (ap (λ n. n == max a b) is ∙ itself (max a b))

  pub renamed-kept : (l : ℕ) → l ≢ max a b → renamed l ≡ l
  renamed-kept l differ = renamed-if false l (unequal l (max a b) differ)

  renamed-lesser : renamed (min a b) ≡ min a b
  renamed-lesser = either (cases_eq (min a b) (max a b))
    where
      either : (min a b ≡ max a b) ⊎ (min a b ≢ max a b) → renamed (min a b) ≡ min a b
      either (inl is) = renamed-greater (min a b) is
      either (inr differ) = renamed-kept (min a b) differ

  -- the two roots have one name
  pub renamed-both : renamed a ≡ renamed b
  renamed-both = either (cases_lt a b)
    where
      either : (a < b) ⊎ (b ≤ a) → renamed a ≡ renamed b
      either (inl below) = renamed-kept a (λ is. absurd (omega (arith, is, below))) ∙ sym (renamed-greater b (omega (arith, below)) ∙ omega (arith, below))
      either (inr above) = other (cases_eq a b)
        where
          other : (a ≡ b) ⊎ (a ≢ b) → renamed a ≡ renamed b
          other (inl is) = ap renamed is
          other (inr differ) = renamed-greater a (omega (arith, above)) ∙ omega (arith, above) ∙ sym (renamed-kept b (λ is. absurd (omega (arith, is, above, differ))))

  -- of one name are equal ones and the two
  pub renamed-cases : (l m : ℕ) → renamed l ≡ renamed m → (l ≡ m) ⊎ ((l ≡ a) × (m ≡ b)) ⊎ ((l ≡ b) × (m ≡ a))
  renamed-cases l m same = either (cases_eq l (max a b)) (cases_eq m (max a b))
    where
      lesser : (p q : ℕ) → p ≡ max a b → q ≡ min a b → ((p ≡ a) × (q ≡ b)) ⊎ ((p ≡ b) × (q ≡ a))
      lesser p q is_p is_q = other (cases_lt a b)
        where
          other : (a < b) ⊎ (b ≤ a) → ((p ≡ a) × (q ≡ b)) ⊎ ((p ≡ b) × (q ≡ a))
          other (inl below) = inr (omega (arith, is_p, below), omega (arith, is_q, below))
          other (inr above) = inl (omega (arith, is_p, above), omega (arith, is_q, above))

      swapped : ((m ≡ a) × (l ≡ b)) ⊎ ((m ≡ b) × (l ≡ a)) → (l ≡ m) ⊎ ((l ≡ a) × (m ≡ b)) ⊎ ((l ≡ b) × (m ≡ a))
      swapped (inl is) = inr (inr (is.1, is.0))
      swapped (inr is) = inr (inl (is.1, is.0))

      either : (l ≡ max a b) ⊎ (l ≢ max a b) → (m ≡ max a b) ⊎ (m ≢ max a b) → (l ≡ m) ⊎ ((l ≡ a) × (m ≡ b)) ⊎ ((l ≡ b) × (m ≡ a))
      either (inl is_l) (inl is_m) = inl (is_l ∙ sym is_m)
      either (inl is_l) (inr no_m) = inr (lesser l m is_l (sym (renamed-kept m no_m) ∙ sym same ∙ renamed-greater l is_l))
      either (inr no_l) (inl is_m) = swapped (lesser m l is_m (sym (renamed-kept l no_l) ∙ same ∙ renamed-greater m is_m))
      either (inr no_l) (inr no_m) = inl (sym (renamed-kept l no_l) ∙ same ∙ renamed-kept m no_m)

pub at-relabelled : (a b : ℕ) (roots : List ℕ) (i : ℕ) → i < length roots → at (relabelled a b roots) i ≡ renamed a b (at roots i)
at-relabelled a b roots i within = get_or-map (renamed a b) roots i 0 0 within

module _ (parents roots : List ℕ) (are : AreRoots parents roots) (a b : ℕ) (in_a : a < length parents) (in_b : b < length parents) (root_a : at roots a ≡ a) (root_b : at roots b ≡ b) where
  abbrev now : List ℕ
  now = set parents (max a b) (min a b)

  in_max : max a b < length parents
  in_max = omega (arith, in_a, in_b)

  pick : (P : ℕ → Type 0) → P a → P b → P (min a b) × P (max a b)
  pick P of_a of_b = either (cases_lt a b)
    where
      either : (a < b) ⊎ (b ≤ a) → P (min a b) × P (max a b)
      either (inl below) = (subst P (omega (arith, below)) of_a, subst P (omega (arith, below)) of_b)
      either (inr above) = (subst P (omega (arith, above)) of_b, subst P (omega (arith, above)) of_a)

  both-own : (at roots (min a b) ≡ min a b) × (at roots (max a b) ≡ max a b)
  both-own = pick (λ n. at roots n ≡ n) root_a root_b

  joined-each : (i : ℕ) → (i ≡ max a b) ⊎ (i ≢ max a b) → i < length parents → at (relabelled a b roots) i ≡ (if at now i == i then i else at (relabelled a b roots) (at now i))
  joined-each i (inl is) within =
      let here : at now i ≡ min a b = ap (at now) is ∙ get_or-set_same parents (max a b) (min a b) 0 in_max in
      let mine : at (relabelled a b roots) i ≡ min a b = at-relabelled a b roots i (omega (arith, are.as_many, within)) ∙ renamed-greater a b (at roots i) (ap (at roots) is ∙ both-own.1) in
      let lesser : at (relabelled a b roots) (min a b) ≡ min a b = at-relabelled a b roots (min a b) (omega (arith, are.as_many, in_a, in_b)) ∙ ap (renamed a b) both-own.0 ∙ renamed-lesser a b in
      rw here (either (min a b == i) refl mine lesser)
    where
      either : (c : Bool) → (min a b == i) ≡ c → at (relabelled a b roots) i ≡ min a b → at (relabelled a b roots) (min a b) ≡ min a b → at (relabelled a b roots) i ≡ (if c then i else at (relabelled a b roots) (min a b))
      either true same mine lesser = mine ∙ equal (min a b) i same
      either false same mine lesser = mine ∙ sym lesser
  joined-each i (inr differ) within =
      let here : at now i ≡ at parents i = get_or-set_other parents (max a b) i (min a b) 0 differ in
      rw here (either (at parents i == i) refl (are.each i within))
    where
      up_within : at parents i < length roots
      up_within = omega (arith, are.low i within, within, are.as_many)

      either : (c : Bool) → (at parents i == i) ≡ c → at roots i ≡ (if c then i else at roots (at parents i)) → at (relabelled a b roots) i ≡ (if c then i else at (relabelled a b roots) (at parents i))
      either true same own = at-relabelled a b roots i (omega (arith, are.as_many, within)) ∙ ap (renamed a b) own ∙ renamed-kept a b i differ
      either false same up = at-relabelled a b roots i (omega (arith, are.as_many, within)) ∙ ap (renamed a b) up ∙ sym (at-relabelled a b roots (at parents i) up_within)

  pub joined-low : (i : ℕ) → (i ≡ max a b) ⊎ (i ≢ max a b) → i < length parents → at now i ≤ i
  joined-low i (inl is) within =
      let here : at now i ≡ min a b = ap (at now) is ∙ get_or-set_same parents (max a b) (min a b) 0 in_max in
      omega (arith, here, is)
  joined-low i (inr differ) within = omega (arith, get_or-set_other parents (max a b) i (min a b) 0 differ, are.low i within)

  pub joined-roots : AreRoots now (relabelled a b roots)
  joined-roots = record {
    low = λ i within. joined-low i (cases_eq i (max a b)) (omega (arith, length-set parents (max a b) (min a b), within));
    as_many = length-map roots (renamed a b) ∙ are.as_many ∙ sym (length-set parents (max a b) (min a b));
    each = λ i within. joined-each i (cases_eq i (max a b)) (omega (arith, length-set parents (max a b) (min a b), within));
  }

-- a lesser parent keeps the order
pub set-forest : (parents : List ℕ) (i p : ℕ) → IsForest parents → i < length parents → p ≤ i → IsForest (set parents i p)
set-forest parents i p forest within below = record { low = λ j in_j. low j (cases_eq j i) (omega (arith, length-set parents i p, in_j)) }
  where
    low : (j : ℕ) → (j ≡ i) ⊎ (j ≢ i) → j < length parents → at (set parents i p) j ≤ j
    low j (inl is) in_j =
        let here : at (set parents i p) j ≡ p = ap (at (set parents i p)) is ∙ get_or-set_same parents i p 0 within in
        omega (arith, here, below, is)
    low j (inr differ) in_j = omega (arith, get_or-set_other parents i j p 0 differ, forest.low j in_j)

-- after both were found
pub joined-found : (begun first second : List ℕ) (a b x y : ℕ) → a < length begun → b < length begun → length second ≡ length begun
    → ((roots : List ℕ) → AreRoots begun roots → x ≡ at roots a) → ((roots : List ℕ) → AreRoots begun roots → AreRoots first roots)
    → ((roots : List ℕ) → AreRoots first roots → y ≡ at roots b) → ((roots : List ℕ) → AreRoots first roots → AreRoots second roots)
    → (roots : List ℕ) → AreRoots begun roots → AreRoots (set second (max x y) (min x y)) (relabelled (at roots a) (at roots b) roots)
joined-found begun first second a b x y in_a in_b as_many of_x keeps of_y keeps_more roots are =
    let is_x = of_x roots are in
    let is_y = of_y roots (keeps roots are) in
    let now = keeps_more roots (keeps roots are) in
    let own_x : at roots x ≡ x = ap (at roots) is_x ∙ (roots-low begun roots are (a + 1) a (omega arith) in_a).1 ∙ sym is_x in
    let own_y : at roots y ≡ y = ap (at roots) is_y ∙ (roots-low begun roots are (b + 1) b (omega arith) in_b).1 ∙ sym is_y in
    let in_x : x < length second = omega (arith, is_x, root-within begun roots are a in_a, as_many) in
    let in_y : y < length second = omega (arith, is_y, root-within begun roots are b in_b, as_many) in
    let all = joined-roots second roots now x y in_x in_y own_x own_y in
    subst (λ n. AreRoots (set second (max x y) (min x y)) (relabelled n (at roots b) roots)) is_x (subst (λ n. AreRoots (set second (max x y) (min x y)) (relabelled x n roots)) is_y all)

-- the roots of the places so far
pub record Rooting (parents : List ℕ) (i : ℕ) (found : List ℕ) : Type 0 where
  pub long : length found ≡ i
  pub are : (roots : List ℕ) → AreRoots parents roots → found ≡ take i roots

module _ (parents : List ℕ) (i : ℕ) (found : List ℕ) (within : i < length parents) (rooting : Rooting parents i found) where
  root-here : (roots : List ℕ) → AreRoots parents roots → (b : Bool) → (at parents i == i) ≡ b → at parents i ≤ i → (if b then i else at found (at parents i)) ≡ at roots i
  root-here roots are true own below = sym (at_root parents roots are i within (equal (at parents i) i own))
  root-here roots are false other below =
      let under : at parents i < i = grind (arith, nat_tests) in
      ap (λ (ns : List ℕ). at ns (at parents i)) (rooting.are roots are) ∙ get_or-take i roots (at parents i) 0 under ∙ sym (at_other parents roots are i within under)

  pub rooting-next : (root : ℕ) → IsForest parents → root ≡ (if at parents i == i then i else at found (at parents i)) → Rooting parents (i + 1) (found ++ root ∷ [])
  rooting-next root forest is = record {
    long = length_push found root ∙ ap (λ n. n + 1) rooting.long;
    are = λ roots are.
        ap (λ (ns : List ℕ). ns ++ root ∷ []) (rooting.are roots are) ∙ ap (λ n. take i roots ++ n ∷ []) (is ∙ root-here roots are (at parents i == i) refl (forest.low i within))
        ∙ sym (take_more roots i 0 (omega (arith, within, are.as_many)));
  }

-- the two roots that the code finds
pub root-then : (i p root : ℕ) (found : List ℕ) → p ≡ i → root ≡ i → root ≡ (if p == i then i else at found p)
root-then i p root found own is = is ∙ sym (ap (λ (b : Bool). if b then i else at found p) (ap (λ n. n == i) own ∙ itself i))

pub root-else : (i p root : ℕ) (found : List ℕ) → p ≢ i → root ≡ at found p → root ≡ (if p == i then i else at found p)
root-else i p root found other is = is ∙ sym (ap (λ (b : Bool). if b then i else at found p) (unequal p i other))
