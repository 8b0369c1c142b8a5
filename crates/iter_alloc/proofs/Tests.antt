-- Tests on lists of numbers.
use Rattle.cube_model.specs.Cells.{is_among}
use Rattle.std.proofs.Common.{◌≡◌, ℕ, Bool, true, false, List, [], ◌∷◌, refl, sym, subst, arith}
use Rattle.std.proofs.lemmas.Bool.Decides.{nat_tests}
use Rattle.std.specs.List.{list_any}
use Rattle.std.specs.Prelude.{not, ◌&&◌, ◌||◌, ◌==◌}

pub itself : (x : ℕ) → (x == x) ≡ true
itself x = grind (arith, nat_tests)

pub equal : (a b : ℕ) → (a == b) ≡ true → a ≡ b
equal a b is = grind (arith, nat_tests)

pub unequal : (a b : ℕ) → (a ≡ b → ⊥) → (a == b) ≡ false
unequal a b differ = grind (arith, nat_tests)

pub or-left : (a b : Bool) → a ≡ true → (a || b) ≡ true
or-left true b is = refl
or-left false b is = cc

pub or-right : (a b : Bool) → b ≡ true → (a || b) ≡ true
or-right true b is = refl
or-right false b is = is

pub and-both : (a b : Bool) → a ≡ true → b ≡ true → (a && b) ≡ true
and-both true b first second = second
and-both false b first second = cc

pub and-first : (a b : Bool) → (a && b) ≡ true → a ≡ true
and-first true b is = refl
and-first false b is = cc

pub and-second : (a b : Bool) → (a && b) ≡ true → b ≡ true
and-second true b is = is
and-second false b is = cc

pub not-true : (b : Bool) → not b ≡ true → b ≡ false
not-true true is = cc
not-true false is = refl

pub not-false : (b : Bool) → b ≡ false → not b ≡ true
not-false true is = cc
not-false false is = refl

-- where a number is among some and passes, one of them passes
pub passes-among : (p : ℕ → Bool) (x : ℕ) (xs : List ℕ) → is_among xs x ≡ true → p x ≡ true → list_any p xs ≡ true
passes-among p x [] among passes = cc
passes-among p x (y ∷ ys) among passes = either (y == x) refl among (λ later. passes-among p x ys later passes)
  where
    either : (b : Bool) → (y == x) ≡ b → (b || is_among ys x) ≡ true → (is_among ys x ≡ true → list_any p ys ≡ true) → (p y || list_any p ys) ≡ true
    either true is h rest = or-left (p y) (list_any p ys) (subst (λ z. p z ≡ true) (sym (equal y x is)) passes)
    either false is h rest = or-right (p y) (list_any p ys) (rest h)

-- a number that two lists share
pub record HaveShared (xs ys : List ℕ) : Type 0 where
  pub shared : ℕ
  pub first : is_among xs shared ≡ true
  pub second : is_among ys shared ≡ true

pub shared-from : (xs ys : List ℕ) → list_any (is_among ys) xs ≡ true → HaveShared xs ys
shared-from [] ys any = cc
shared-from (x ∷ xs) ys any = either (is_among ys x) refl any (shared-from xs ys)
  where
    either : (b : Bool) → is_among ys x ≡ b → (b || list_any (is_among ys) xs) ≡ true → (list_any (is_among ys) xs ≡ true → HaveShared xs ys) → HaveShared (x ∷ xs) ys
    either true is h rest = record { shared = x; first = or-left (x == x) (is_among xs x) (itself x); second = is }
    either false is h rest =
        let later = rest h in
        record { shared = later.shared; first = or-right (x == later.shared) (is_among xs later.shared) later.first; second = later.second }
