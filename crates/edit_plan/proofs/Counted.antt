-- How many ids there are.
use Rattle.std.proofs.Common.{◌≡◌, ℕ, ◌≤◌, Bool, true, List, [], ◌∷◌, get_or, length, refl, ap, sym, ◌∙◌, arith}
use Rattle.std.specs.Prelude.{All, filter, ◌==◌, if◌then◌else◌}
use Rattle.std.specs.List.{count_by, sum_by}
use Rattle.std.proofs.lemmas.Bool.Decides.{nat_tests}
use Rattle.std.proofs.lemmas.List.Elements.{All-head, All-tail}
use Rattle.std.proofs.lemmas.List.Folds.{list_any_at}
use Rattle.std.proofs.lemmas.List.Sums.{length-filter, sum_by-cons}
use Rattle.cube_model.specs.Ascending.{ascends_from}
use Rattle.cube_model.specs.Cells.{is_among}
use Rattle.cube_model.proofs.Ascending.{any-turned}
use Rattle.fact_groups.specs.Partition.{IsPartition}
use Rattle.fact_groups.proofs.Ascending.{once_among}
use Rattle.fact_groups.proofs.Partition.{lengths_over_keys}
use Rattle.edit_plan.proofs.CountedOnce.{some-counted}

-- what is one at each of some keys comes to their number
ones : (f : ℕ → ℕ) (keys : List ℕ) → All (λ key. f key ≡ 1) keys → sum_by f keys ≡ length keys
ones f [] each = refl
ones f (key ∷ keys) each = omega (arith, sum_by-cons f key keys, All-head (λ key. f key ≡ 1) key keys each, ones f keys (All-tail (λ key. f key ≡ 1) key keys each))

-- numbers each of which is there once at most, and ascending ones with the same members, are as many
pub as-many : (xs ys : List ℕ) → ascends_from (λ x. x) 0 ys ≡ true → ((n : ℕ) → count_by (λ x. n == x) xs ≤ 1) → ((n : ℕ) → is_among xs n ≡ is_among ys n) → length xs ≡ length ys
as-many xs ys ascends once same = lengths_over_keys (λ (y : ℕ) (x : ℕ). x == y) ys xs parted ∙ ones (λ y. length (filter (λ x. x == y) xs)) ys each
  where
    in-ys : (n : ℕ) → is_among xs n ≡ true → count_by (λ y. n == y) ys ≡ 1
    in-ys n among = omega (arith, once_among 0 ys ascends n, ap {B = ℕ} (λ (b : Bool). if b then 1 else 0) (any-turned n ys ∙ sym (same n) ∙ among))

    parted : IsPartition (λ (y : ℕ) (x : ℕ). x == y) ys xs
    parted k d within = in-ys (get_or xs k d) (list_any_at (λ m. m == get_or xs k d) xs k d within (grind (arith, nat_tests)))

    in-xs : (n : ℕ) → is_among ys n ≡ true → length (filter (λ x. x == n) xs) ≡ 1
    in-xs n among =
        let some = some-counted (λ (x : ℕ). x == n) xs (same n ∙ among) in
        omega (arith, length-filter (λ (x : ℕ). x == n) xs, some, turned n xs, once n)
      where
        turned : (n : ℕ) (xs : List ℕ) → count_by (λ x. x == n) xs ≡ count_by (λ x. n == x) xs
        turned n [] = refl
        turned n (x ∷ xs) =
            let here : ◌≡◌ {A = ℕ} (if x == n then 1 else 0) (if n == x then 1 else 0) = grind (arith, nat_tests) in
            omega (arith, here, turned n xs, sum_by-cons (λ (x : ℕ). if x == n then 1 else 0) x xs, sum_by-cons (λ (x : ℕ). if n == x then 1 else 0) x xs)

    each : All (λ y. length (filter (λ x. x == y) xs) ≡ 1) ys
    each k d within = in-xs (get_or ys k d) (list_any_at (λ m. m == get_or ys k d) ys k d within (grind (arith, nat_tests)))
