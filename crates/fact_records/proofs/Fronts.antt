-- A test that changes once along a list: what a filter keeps of it, and what a search finds.
use Rattle.std.proofs.Common.{◌≡◌, ℕ, zero, suc, ◌<◌, ◌≤◌, Bool, true, false, List, [], ◌∷◌, length, take, drop, get_or, Some, None, refl, sym, ap, ◌∙◌, arith}
use Rattle.std.specs.Prelude.{◌==◌}
use Rattle.std.specs.List.{filter, find, remove}
use Rattle.std.proofs.lemmas.Bool.{false≢true}
use Rattle.std.proofs.lemmas.List.{nil_from_length}
use Rattle.std.proofs.lemmas.Bool.Decides.{nat_tests}

module _ {X : Type 0} (p : X → Bool) (d : X) where
  -- the test fails at each element
  pub filter_none : (xs : List X) → ((k : ℕ) → k < length xs → p (get_or xs k d) ≡ false) → filter p xs ≡ []
  filter_none [] fails = refl
  filter_none (x ∷ xs) fails = grind (arith, fails 0 (omega arith), filter_none xs (λ k lt. fails (suc k) (omega arith)))

  -- it passes at each
  pub filter_whole : (xs : List X) → ((k : ℕ) → k < length xs → p (get_or xs k d) ≡ true) → filter p xs ≡ xs
  filter_whole [] passes = refl
  filter_whole (x ∷ xs) passes = grind (arith, passes 0 (omega arith), filter_whole xs (λ k lt. passes (suc k) (omega arith)))

  -- it passes before a place and fails from there on
  pub filter_front : (xs : List X) (n : ℕ) → ((k : ℕ) → k < n → k < length xs → p (get_or xs k d) ≡ true) → ((k : ℕ) → n ≤ k → k < length xs → p (get_or xs k d) ≡ false) → filter p xs ≡ take n xs
  filter_front xs zero passes fails = filter_none xs (λ k lt. fails k (omega arith) lt)
  filter_front [] (suc n) passes fails = refl
  filter_front (x ∷ xs) (suc n) passes fails =
      grind (arith, passes 0 (omega arith) (omega arith), filter_front xs n (λ k lt in_range. passes (suc k) (omega arith) (omega arith)) (λ k le in_range. fails (suc k) (omega arith) (omega arith)))

  -- it fails before a place and passes from there on
  pub filter_back : (xs : List X) (n : ℕ) → ((k : ℕ) → k < n → k < length xs → p (get_or xs k d) ≡ false) → ((k : ℕ) → n ≤ k → k < length xs → p (get_or xs k d) ≡ true) → filter p xs ≡ drop n xs
  filter_back xs zero fails passes = filter_whole xs (λ k lt. passes k (omega arith) lt)
  filter_back [] (suc n) fails passes = refl
  filter_back (x ∷ xs) (suc n) fails passes =
      grind (arith, fails 0 (omega arith) (omega arith), filter_back xs n (λ k lt in_range. fails (suc k) (omega arith) (omega arith)) (λ k le in_range. passes (suc k) (omega arith) (omega arith)))

  -- it fails at one place alone
  pub filter_but : (xs : List X) (n : ℕ) → ((k : ℕ) → k < n → k < length xs → p (get_or xs k d) ≡ true) → (n < length xs → p (get_or xs n d) ≡ false) → ((k : ℕ) → n < k → k < length xs → p (get_or xs k d) ≡ true) → filter p xs ≡ remove xs n
  filter_but [] zero before here after = refl
  filter_but [] (suc n) before here after = refl
  filter_but (x ∷ xs) zero before here after =
      grind (arith, here (omega arith), filter_whole xs (λ k lt. after (suc k) (omega arith) (omega arith)))
  filter_but (x ∷ xs) (suc n) before here after =
      grind (arith, before 0 (omega arith) (omega arith), filter_but xs n (λ k lt in_range. before (suc k) (omega arith) (omega arith)) (λ lt. here (omega arith)) (λ k lt in_range. after (suc k) (omega arith) (omega arith)))

  -- the first place where it passes is found
  pub find_first : (xs : List X) (n : ℕ) → n < length xs → ((k : ℕ) → k < n → p (get_or xs k d) ≡ false) → p (get_or xs n d) ≡ true → find p xs ≡ Some (get_or xs n d)
  find_first [] n in_range before here = absurd (omega arith)
  find_first (x ∷ xs) zero in_range before here = grind (arith, here)
  find_first (x ∷ xs) (suc n) in_range before here =
      grind (arith, before 0 (omega arith), find_first xs n (omega arith) (λ k lt. before (suc k) (omega arith)) here)

  pub find_nowhere : (xs : List X) → ((k : ℕ) → k < length xs → p (get_or xs k d) ≡ false) → find p xs ≡ None
  find_nowhere [] fails = refl
  find_nowhere (x ∷ xs) fails = grind (arith, fails 0 (omega arith), find_nowhere xs (λ k lt. fails (suc k) (omega arith)))

-- what a test for emptiness says of the list that was tested
pub some_from_test : {X : Type 0} (xs ys : List X) (test : Bool) → test ≡ (length xs == 0) → test ≡ false → xs ≡ ys → 1 ≤ length ys
some_from_test [] ys test is fails same = absurd (false≢true (sym fails ∙ is))
some_from_test (x ∷ xs) ys test is fails same = omega (arith, ap length same)

pub none_from_test : {X : Type 0} (xs ys : List X) (test : Bool) → test ≡ (length xs == 0) → test ≡ true → xs ≡ ys → ys ≡ []
none_from_test xs ys test is passes same = sym same ∙ nil_from_length xs (grind (arith, nat_tests))
