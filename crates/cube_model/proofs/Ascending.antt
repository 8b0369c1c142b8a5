-- Lists that ascend by a key: their parts, what is left of them, what is made of each item, and the cells of a region. Lists of
-- numbers that ascend, by their members.
use Rattle.std.proofs.Common.{◌≡◌, ℕ, zero, suc, ◌+◌, ◌<◌, ◌≤◌, Bool, true, false, List, [], ◌∷◌, ◌++◌, get_or, length, map, filter, refl, ap, arith}
use Rattle.std.proofs.lemmas.Bool.Decides.{nat_tests}
use Rattle.std.specs.Prelude.{All, ◌==◌, if◌then◌else◌}
use Rattle.std.specs.List.{list_any}
use Rattle.std.specs.List.Sorted.{IsStrictlyIncreasing}
use Rattle.cube_model.specs.Ascending.{ascends_from}
use Rattle.cube_model.specs.Cells.{all_cells, cells_of, is_among, is_inside, places_from}
use Rattle.cube_model.specs.Tree.{Dimension}

-- what ascends says of the first and of the others
pub record AscendsFrom {X : Type 0} (key : X → ℕ) (least : ℕ) (x : X) (xs : List X) : Type 0 where
  pub from : least ≤ key x
  pub others : ascends_from key (key x + 1) xs ≡ true

module _ {X : Type 0} (key : X → ℕ) where
  pub ascends_first : (least : ℕ) (x : X) (xs : List X) → ascends_from key least (x ∷ xs) ≡ true → AscendsFrom key least x xs
  ascends_first least x xs ascends = record { from = grind (arith, nat_tests); others = grind (arith, nat_tests) }

  pub ascends_cons : (least : ℕ) (x : X) (xs : List X) → AscendsFrom key least x xs → ascends_from key least (x ∷ xs) ≡ true
  ascends_cons least x xs first = grind (arith, nat_tests, first.from, first.others)

  -- what ascends from a number on ascends from a smaller one
  pub ascends_lower : (least more : ℕ) (xs : List X) → least ≤ more → ascends_from key more xs ≡ true → ascends_from key least xs ≡ true
  ascends_lower least more [] lower ascends = refl
  ascends_lower least more (x ∷ xs) lower ascends = grind (arith, nat_tests, ascends)

  -- no key is below the least
  pub ascends_least : (least : ℕ) (xs : List X) → ascends_from key least xs ≡ true → All (λ x. least ≤ key x) xs
  ascends_least least [] ascends i d within = absurd (omega arith)
  ascends_least least (x ∷ xs) ascends zero d within = (ascends_first least x xs ascends).from
  ascends_least least (x ∷ xs) ascends (suc i) d within =
      let first = ascends_first least x xs ascends in
      omega (arith, first.from, ascends_least (key x + 1) xs first.others i d (omega arith))

  -- a later key is greater
  pub ascends_later : (least : ℕ) (xs : List X) → ascends_from key least xs ≡ true → (i j : ℕ) (d e : X) → i < j → j < length xs → key (get_or xs i d) < key (get_or xs j e)
  ascends_later least [] ascends i j d e before within = absurd (omega arith)
  ascends_later least (x ∷ xs) ascends i zero d e before within = absurd (omega arith)
  ascends_later least (x ∷ xs) ascends zero (suc j) d e before within =
      omega (arith, ascends_least (key x + 1) xs (ascends_first least x xs ascends).others j e (omega arith))
  ascends_later least (x ∷ xs) ascends (suc i) (suc j) d e before within =
      ascends_later (key x + 1) xs (ascends_first least x xs ascends).others i j d e (omega arith) (omega arith)

  -- one more behind, with a key above the others
  pub ascends_push : (least : ℕ) (xs : List X) (y : X) → ascends_from key least xs ≡ true → All (λ x. key x < key y) xs → least ≤ key y → ascends_from key least (xs ++ y ∷ []) ≡ true
  ascends_push least [] y ascends below from = grind (arith, nat_tests)
  ascends_push least (x ∷ xs) y ascends below from =
      let first = ascends_first least x xs ascends in
      ascends_cons least x (xs ++ y ∷ [])
      (record { from = first.from; others = ascends_push (key x + 1) xs y first.others (λ i d within. below (suc i) d (omega arith)) (omega (arith, below 0 x (omega arith))) })

  either_ascends : (b : Bool) (least : ℕ) (x : X) (xs : List X) → least ≤ key x → ascends_from key (key x + 1) xs ≡ true → ascends_from key least (if b then x ∷ xs else xs) ≡ true
  either_ascends true least x xs from others = ascends_cons least x xs (record { from = from; others = others })
  either_ascends false least x xs from others = ascends_lower least (key x + 1) xs (omega arith) others

  -- what is left of a list that ascends
  pub ascends_filter : (p : X → Bool) (least : ℕ) (xs : List X) → ascends_from key least xs ≡ true → ascends_from key least (filter p xs) ≡ true
  ascends_filter p least [] ascends = refl
  ascends_filter p least (x ∷ xs) ascends =
      let first = ascends_first least x xs ascends in
      either_ascends (p x) least x (filter p xs) first.from (ascends_filter p (key x + 1) xs first.others)

-- what is made of each item ascends as the items do
pub ascends_map : {X Y : Type 0} (key : Y → ℕ) (f : X → Y) (least : ℕ) (xs : List X) → ascends_from key least (map f xs) ≡ ascends_from (λ x. key (f x)) least xs
ascends_map key f least [] = refl
ascends_map key f least (x ∷ xs) = rw (ascends_map key f (key (f x) + 1) xs) refl

-- places ascend
pub ascends_places : {X : Type 0} (p : X → Bool) (k : ℕ) (xs : List X) → ascends_from (λ place. place) k (places_from p k xs) ≡ true
ascends_places p k [] = refl
ascends_places p k (x ∷ xs) = either_ascends (λ place. place) (p x) k k (places_from p (k + 1) xs) (omega arith) (ascends_places p (k + 1) xs)

-- and so do the cells of a region
pub ascends_cells : (dims : List Dimension) (region : List ℕ) → ascends_from (λ cell. cell) 0 (cells_of dims region) ≡ true
unfolding cells_of
ascends_cells dims region = ascends_places (is_inside dims region) 0 (all_cells dims)

-- numbers of which each is below the next ascend
pub ascends_increasing : (least : ℕ) (xs : List ℕ) → IsStrictlyIncreasing xs → (0 < length xs → least ≤ get_or xs 0 0) → ascends_from (λ x. x) least xs ≡ true
ascends_increasing least [] rising from = refl
ascends_increasing least (x ∷ xs) rising from =
    ascends_cons (λ x. x) least x xs (record {
      from = from (omega arith);
      others = ascends_increasing (x + 1) xs
          (λ k within. grind (arith, rising (suc k) (omega arith)))
          (λ some. let next : x < get_or xs 0 0 = grind (arith, rising 0 (omega arith)) in omega (arith, next));
    })

-- no number is among those that ascend from a greater one
pub not_among_lower : (least k : ℕ) (xs : List ℕ) → ascends_from (λ x. x) least xs ≡ true → k < least → is_among xs k ≡ false
not_among_lower least k [] ascends lower = refl
not_among_lower least k (x ∷ xs) ascends lower =
    let first = ascends_first (λ x. x) least x xs ascends in
    let rest : is_among xs k ≡ false = not_among_lower (x + 1) k xs first.others (omega (arith, first.from)) in
    grind (arith, nat_tests, rest, first.from)

-- lists that ascend are one where the same numbers are in them
pub same_members : (a b : ℕ) (xs ys : List ℕ) → ascends_from (λ x. x) a xs ≡ true → ascends_from (λ x. x) b ys ≡ true → ((k : ℕ) → is_among xs k ≡ is_among ys k) → xs ≡ ys
same_members a b [] [] first second same = refl
same_members a b [] (y ∷ ys) first second same = absurd (grind (arith, nat_tests, same y))
same_members a b (x ∷ xs) [] first second same = absurd (grind (arith, nat_tests, same x))
same_members a b (x ∷ xs) (y ∷ ys) first second same =
    let above_x = (ascends_first (λ x. x) a x xs first).others in
    let above_y = (ascends_first (λ x. x) b y ys second).others in
    let no_x : (k : ℕ) → k < x + 1 → is_among xs k ≡ false = λ k lower. not_among_lower (x + 1) k xs above_x lower in
    let no_y : (k : ℕ) → k < y + 1 → is_among ys k ≡ false = λ k lower. not_among_lower (y + 1) k ys above_y lower in
    let one : x ≡ y = grind (arith, nat_tests, same x, same y, no_x y, no_y x) in
    let rest : (k : ℕ) → is_among xs k ≡ is_among ys k = λ k. grind (arith, nat_tests, same k, no_x k, no_y k, one) in
    rw one (ap (λ zs. y ∷ zs) (same_members (x + 1) (y + 1) xs ys above_x above_y rest))

-- what is among numbers, the test turned round
pub any-turned : (n : ℕ) (xs : List ℕ) → list_any (λ x. n == x) xs ≡ is_among xs n
any-turned n [] = refl
any-turned n (x ∷ xs) = grind (arith, nat_tests, any-turned n xs)
