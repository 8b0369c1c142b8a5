-- New entries that ascend, put into a list of none but their ids: those that are left out stand there already.
use Rattle.std.proofs.Common.{◌≡◌, ℕ, ◌<◌, ◌≤◌, Bool, true, false, List, [], ◌∷◌, refl, sym, ap, ◌∙◌, arith, cond, None, Some}
use Rattle.std.specs.Prelude.{All, filter, fold, insert, not, nat_lt, ◌==◌, ◌||◌}
use Rattle.std.specs.List.{list_any, position_or_len}
use Rattle.std.proofs.lemmas.Bool.Decides.{nat_tests}
use Rattle.std.proofs.lemmas.List.Elements.{All-cons, All-filter, All-head, All-nil, All-tail, All-weaker}
use Rattle.std.proofs.lemmas.List.Kept.{AllPairs-filter}
use Rattle.fact_keeper.specs.Batch.{put}
use Rattle.fact_keeper.specs.Order.{AscendsBy}
use Rattle.fact_keeper.proofs.Found.{entry_of}
use Rattle.fact_keeper.proofs.Puts.{first_least, rest_ascends}

module _ {X : Type 0} (id_of : X → ℕ) where
  -- one of the entries has an id
  abbrev pub has : List X → ℕ → Bool
  has entries n = list_any (λ e. id_of e == n) entries

  -- the entries of other ids
  abbrev others : X → List X → List X
  others new entries = filter (λ e. not (id_of e == id_of new)) entries

  -- an entry of a smaller id stays before all that are put
  past : (x new : X) (xs : List X) → id_of x < id_of new → put id_of (x ∷ xs) new ≡ x ∷ put id_of xs new
  past x new xs smaller = grind (arith, nat_tests)

  all-past : (x : X) (xs new : List X) → All (λ n. id_of x < id_of n) new → fold (put id_of) (x ∷ xs) new ≡ x ∷ fold (put id_of) xs new
  all-past x xs [] smaller = refl
  all-past x xs (n ∷ new) smaller =
      ap (λ entries. fold (put id_of) entries new) (past x n xs (All-head (λ e. id_of x < id_of e) n new smaller))
      ∙ all-past x (put id_of xs n) new (All-tail (λ e. id_of x < id_of e) n new smaller)

  -- the entries of other ids have greater ones where none has a smaller one
  greater-others : (new : X) (xs : List X) → All (λ e. id_of new ≤ id_of e) xs → All (λ e. id_of new < id_of e) (others new xs)
  greater-others new [] least = All-nil (λ e. id_of new < id_of e)
  greater-others new (x ∷ xs) least = either (id_of x == id_of new) refl (greater-others new xs (All-tail (λ e. id_of new ≤ id_of e) x xs least))
    where
      either : (b : Bool) → (id_of x == id_of new) ≡ b → All (λ e. id_of new < id_of e) (others new xs) → All (λ e. id_of new < id_of e) (others new (x ∷ xs))
      either true is rest = rw is rest
      either false is rest =
          let here : id_of new < id_of x = grind (arith, nat_tests, is, All-head (λ e. id_of new ≤ id_of e) x xs least) in
          rw is (All-cons (λ e. id_of new < id_of e) x (others new xs) here rest)

  -- before which a new one is put
  first-above : (new : X) (xs : List X) → All (λ e. id_of new < id_of e) xs → position_or_len (λ e. nat_lt (id_of new) (id_of e)) xs ≡ 0
  first-above new [] above = refl
  first-above new (x ∷ xs) above = grind (arith, nat_tests, All-head (λ e. id_of new < id_of e) x xs above)

  put-first : (new : X) (xs : List X) → All (λ e. id_of new ≤ id_of e) xs → put id_of xs new ≡ new ∷ others new xs
  put-first new xs least = ap (λ place. insert (others new xs) place new) (first-above new (others new xs) (greater-others new xs least))

  -- entries of the ids of these have none that is smaller than the first, and behind it the ids of the others
  abbrev pub AreOf : List X → List X → Type 0
  AreOf new xs = All (λ e. has new (id_of e) ≡ true) xs

  some-greater : (new : List X) (least n : ℕ) → All (λ e. least < id_of e) new → has new n ≡ true → least < n
  some-greater [] least n greater is = cc
  some-greater (x ∷ new) least n greater is = either (id_of x == n) refl is (some-greater new least n (All-tail (λ e. least < id_of e) x new greater))
    where
      either : (b : Bool) → (id_of x == n) ≡ b → (b || has new n) ≡ true → (has new n ≡ true → least < n) → least < n
      either true its some rest = let same : id_of x ≡ n = grind (arith, nat_tests, its) in omega (arith, same, All-head (λ e. least < id_of e) x new greater)
      either false its some rest = rest some

  first-or-greater : (x : X) (new : List X) (n : ℕ) → All (λ e. id_of x < id_of e) new → has (x ∷ new) n ≡ true → id_of x ≤ n
  first-or-greater x new n greater is = either (id_of x == n) refl is
    where
      either : (b : Bool) → (id_of x == n) ≡ b → (b || has new n) ≡ true → id_of x ≤ n
      either true its some = let same : id_of x ≡ n = grind (arith, nat_tests, its) in omega (arith, same)
      either false its some = omega (arith, some-greater new (id_of x) n greater some)

  others-of : (x : X) (new xs : List X) → AreOf (x ∷ new) xs → AreOf new (others x xs)
  others-of x new [] are = All-nil (λ e. has new (id_of e) ≡ true)
  others-of x new (y ∷ xs) are =
      either (id_of y == id_of x) (id_of x == id_of y) refl refl (All-head (λ e. has (x ∷ new) (id_of e) ≡ true) y xs are) (others-of x new xs (All-tail (λ e. has (x ∷ new) (id_of e) ≡ true) y xs are))
    where
      either : (a b : Bool) → (id_of y == id_of x) ≡ a → (id_of x == id_of y) ≡ b → (b || has new (id_of y)) ≡ true → AreOf new (others x xs) → AreOf new (others x (y ∷ xs))
      either true b is also here rest = rw is rest
      either false true is also here rest = absurd (let clash : true ≡ false = grind (arith, nat_tests, is, also) in cc)
      either false false is also here rest = rw is (All-cons (λ e. has new (id_of e) ≡ true) y (others x xs) here rest)

  -- the entry of another id is still there
  entry-among-others : (n : ℕ) (x : X) (xs : List X) → id_of x < n → entry_of id_of n (others x xs) ≡ entry_of id_of n xs
  entry-among-others n x [] smaller = refl
  entry-among-others n x (y ∷ xs) smaller = grind (arith, nat_tests, smaller, entry-among-others n x xs smaller)

  -- An entry of its id is there already: it is this one, and all entries ascend.
  pub record StandsThere (new : X) (xs : List X) : Type 0 where
    pub ascending : AscendsBy id_of xs
    pub entry : entry_of id_of (id_of new) xs ≡ Some new

  others-ascend : (x : X) (xs : List X) → AscendsBy id_of xs → AscendsBy id_of (others x xs)
  others-ascend x xs up = AllPairs-filter (λ a b. id_of a < id_of b) (λ e. not (id_of e == id_of x)) xs up

  -- so it is the first where none is smaller
  none-same : (x : X) (xs : List X) → All (λ e. id_of x < id_of e) xs → others x xs ≡ xs
  none-same x [] above = refl
  none-same x (y ∷ xs) above = grind (arith, nat_tests, All-head (λ e. id_of x < id_of e) y xs above, none-same x xs (All-tail (λ e. id_of x < id_of e) y xs above))

  none-found : (n : ℕ) (xs : List X) → All (λ e. n < id_of e) xs → entry_of id_of n xs ≡ None
  none-found n [] above = refl
  none-found n (y ∷ xs) above = grind (arith, nat_tests, All-head (λ e. n < id_of e) y xs above, none-found n xs (All-tail (λ e. n < id_of e) y xs above))

  stands-first : (x : X) (xs : List X) → All (λ e. id_of x ≤ id_of e) xs → StandsThere x xs → xs ≡ x ∷ others x xs
  stands-first x [] least there = let no : None ≡ Some x = there.entry in cc
  stands-first x (y ∷ xs) least there = either (id_of y == id_of x) refl there.entry
    where
      either : (b : Bool) → (id_of y == id_of x) ≡ b → cond b (Some y) (entry_of id_of (id_of x) xs) ≡ Some x → y ∷ xs ≡ x ∷ others x (y ∷ xs)
      either true is entry =
          let its : y ≡ x = cc in
          let same : id_of y ≡ id_of x = ap id_of its in
          let above : All (λ e. id_of x < id_of e) xs = λ i d within. omega (arith, same, first_least id_of y xs there.ascending i d within) in
          rw is (ap (λ e. e ∷ xs) its ∙ ap (λ es. x ∷ es) (sym (none-same x xs above)))
      either false is entry =
          let below : id_of x < id_of y = grind (arith, nat_tests, is, All-head (λ e. id_of x ≤ id_of e) y xs least) in
          let no : None ≡ Some x = sym (none-found (id_of x) xs (λ i d within. omega (arith, below, first_least id_of y xs there.ascending i d within))) ∙ entry in
          cc

  module _ (is_put : X → Bool) where
    -- those of the new ones that are not put stand there
    abbrev pub AreThere : List X → List X → Type 0
    AreThere new xs = All (λ n. is_put n ≡ false → StandsThere n xs) new

    still-there : (x : X) (xs new : List X) → All (λ e. id_of x < id_of e) new → AreThere new xs → AreThere new (others x xs)
    still-there x xs [] greater there = All-nil (λ n. is_put n ≡ false → StandsThere n (others x xs))
    still-there x xs (n ∷ new) greater there =
        let its = All-head (λ m. is_put m ≡ false → StandsThere m xs) n new there in
        All-cons (λ m. is_put m ≡ false → StandsThere m (others x xs)) n new
        (λ is. record {
          ascending = others-ascend x xs (its is).ascending;
          entry = entry-among-others (id_of n) x xs (All-head (λ e. id_of x < id_of e) n new greater) ∙ (its is).entry;
        })
        (still-there x xs new (All-tail (λ e. id_of x < id_of e) n new greater) (All-tail (λ m. is_put m ≡ false → StandsThere m xs) n new there))

    all-kept : (x : X) (new : List X) → All (λ e. id_of x < id_of e) new → All (λ e. id_of x < id_of e) (filter is_put new)
    all-kept x new greater = All-filter is_put (λ e. id_of x < id_of e) new greater

    -- where the others are put, all new ones stand there, and nothing else
    pub all-put : (new xs : List X) → AscendsBy id_of new → AreOf new xs → AreThere new xs → fold (put id_of) xs (filter is_put new) ≡ new
    all-put [] [] up are there = refl
    all-put [] (x ∷ xs) up are there = let no : false ≡ true = All-head (λ e. has [] (id_of e) ≡ true) x xs are in cc
    all-put (n ∷ new) xs up are there =
        let greater = first_least id_of n new up in
        let least : All (λ e. id_of n ≤ id_of e) xs = All-weaker (λ e. has (n ∷ new) (id_of e) ≡ true) (λ e. id_of n ≤ id_of e) (λ e its. first-or-greater n new (id_of e) greater its) xs are in
        let rest = all-put new (others n xs) (rest_ascends id_of n new up) (others-of n new xs are) (still-there n xs new greater (All-tail (λ m. is_put m ≡ false → StandsThere m xs) n new there)) in
        let behind : fold (put id_of) (n ∷ others n xs) (filter is_put new) ≡ n ∷ new = all-past n (others n xs) (filter is_put new) (all-kept n new greater) ∙ ap (λ es. n ∷ es) rest in
        either (is_put n) refl least behind (All-head (λ m. is_put m ≡ false → StandsThere m xs) n new there)
      where
        either : (b : Bool) → is_put n ≡ b → All (λ e. id_of n ≤ id_of e) xs → fold (put id_of) (n ∷ others n xs) (filter is_put new) ≡ n ∷ new → (is_put n ≡ false → StandsThere n xs) → fold (put id_of) xs (filter is_put (n ∷ new)) ≡ n ∷ new
        either true is least behind stands = rw is (ap (λ es. fold (put id_of) es (filter is_put new)) (put-first n xs least) ∙ behind)
        either false is least behind stands = rw is (ap (λ es. fold (put id_of) es (filter is_put new)) (stands-first n xs least (stands is)) ∙ behind)
