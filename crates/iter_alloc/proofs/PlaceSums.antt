-- Sums over places.
use Rattle.iter_alloc.proofs.Tests.{equal, itself}
use Rattle.iter_alloc.specs.Forest.{at}
use Rattle.std.proofs.Common.{◌≡◌, ℕ, suc, ◌+◌, ◌<◌, Bool, true, false, List, [], ◌∷◌, set, length, map, refl, ap, subst, arith}
use Rattle.std.proofs.lemmas.List.{get_or-set_same, get_or-set_other}
use Rattle.std.proofs.lemmas.List.Sums.{sum_by-cons}
use Rattle.std.specs.List.{sum_by}
use Rattle.std.specs.Prelude.{All, ◌==◌, if◌then◌else◌}

-- one place is raised
pub raised-at : (xs : List ℕ) (x i more : ℕ) → x < length xs → at (set xs x (at xs x + more)) i ≡ at xs i + (if x == i then more else 0)
raised-at xs x i more within = either (x == i) refl
  where
    either : (b : Bool) → (x == i) ≡ b → at (set xs x (at xs x + more)) i ≡ at xs i + (if b then more else 0)
    either true is =
        let here = get_or-set_same xs x (at xs x + more) 0 within in
        let same = equal x i is in
        subst (λ k. at (set xs x (at xs x + more)) k ≡ at xs k + more) same here
    either false is = omega (arith, get_or-set_other xs x i (at xs x + more) 0 (λ same. absurd (cc (itself i, is, ap (λ k. k == i) same))))

pub sum_by-map : {X Y : Type 0} (f : Y → ℕ) (g : X → Y) (xs : List X) → sum_by f (map g xs) ≡ sum_by (λ x. f (g x)) xs
sum_by-map f g [] = refl
sum_by-map f g (x ∷ xs) = omega (arith, sum_by-cons f (g x) (map g xs), sum_by-cons (λ x. f (g x)) x xs, sum_by-map f g xs)

pub sum_by-among : {X : Type 0} (f g : X → ℕ) (xs : List X) → All (λ x. f x ≡ g x) xs → sum_by f xs ≡ sum_by g xs
sum_by-among f g [] same = refl
sum_by-among f g (x ∷ xs) same = omega (arith, sum_by-cons f x xs, sum_by-cons g x xs, same 0 x (omega arith), sum_by-among f g xs (λ k d within. same (suc k) d (omega arith)))
