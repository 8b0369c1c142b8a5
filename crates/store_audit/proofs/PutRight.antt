-- Kept rows that are put right: what is gone and put, and that it leaves the rows that were made anew.
use Rattle.std.proofs.Common.{◌≡◌, ℕ, ◌+◌, ◌<◌, Bool, true, false, List, [], ◌∷◌, length, map, refl, sym, ap, ◌∙◌, subst, arith, Some}
use Rattle.std.specs.Prelude.{All, filter, fold, not, ◌==◌, ◌&&◌, ◌||◌}
use Rattle.std.specs.List.{list_any}
use Rattle.std.proofs.lemmas.Bool.Decides.{nat_tests}
use Rattle.std.proofs.lemmas.List.Elements.{All-cons, All-head, All-nil, All-tail, All-weaker}
use Rattle.std.proofs.lemmas.List.Kept.{AllPairs-filter}
use Rattle.cube_model.specs.Allocation.{Allocation}
use Rattle.cube_model.specs.Ascending.{ascends_from}
use Rattle.cube_model.specs.Difference.{is_same}
use Rattle.dim_tree.proofs.Climbing.{both, together}
use Rattle.fact_groups.proofs.Ascending.{ascends-from_pairs, pairs-from_ascends}
use Rattle.fact_groups.proofs.Refreshing.{same_allocation, same_allocations}
use Rattle.fact_keeper.specs.Batch.{put, rows_id, updated, without}
use Rattle.fact_keeper.specs.Order.{AscendsBy}
use Rattle.fact_keeper.specs.declared.content.KeptFact.{KeptFact}
use Rattle.fact_keeper.specs.declared.content.KeptRows.{KeptRows}
use Rattle.fact_keeper.proofs.Found.{entry_of}
use Rattle.fact_keeper.proofs.Puts.{first_least, rest_ascends, without-none}
use Rattle.store_audit.specs.Loading.{spread_told}
use Rattle.store_audit.specs.Mending.{is_equal, is_stray, is_wanting, strays}
use Rattle.store_audit.proofs.Putting.{AreOf, StandsThere, all-put, has}

-- nothing has the length 0, and nothing is left where nothing passes
no-length : {X : Type 0} (xs : List X) → length xs ≡ 0 → xs ≡ []
no-length [] none = refl
no-length (x ∷ xs) none = absurd (omega (arith, none))

none-passes : {X : Type 0} (p : X → Bool) (xs : List X) → All (λ e. p e ≡ false) xs → filter p xs ≡ []
none-passes p [] none = refl
none-passes p (x ∷ xs) none = let here = All-head (λ e. p e ≡ false) x xs none in rw here (none-passes p xs (All-tail (λ e. p e ≡ false) x xs none))

module _ {X : Type 0} (id_of : X → ℕ) where
  -- each entry is one of its id
  pub has-itself : (xs : List X) → All (λ e. has id_of xs (id_of e) ≡ true) xs
  has-itself [] = All-nil (λ e. has id_of [] (id_of e) ≡ true)
  has-itself (x ∷ xs) =
      let here : (id_of x == id_of x) ≡ true = grind (arith, nat_tests) in
      All-cons (λ e. has id_of (x ∷ xs) (id_of e) ≡ true) x xs (rw here refl)
      (All-weaker (λ e. has id_of xs (id_of e) ≡ true) (λ e. has id_of (x ∷ xs) (id_of e) ≡ true) (λ e is. or-true (id_of x == id_of e) (has id_of xs (id_of e)) is) xs (has-itself xs))
    where
      or-true : (a b : Bool) → b ≡ true → (a || b) ≡ true
      or-true true b is = refl
      or-true false b is = is

  module _ (q : ℕ → Bool) where
    -- the ids of those whose id passes
    pub gone-told : (n : ℕ) (xs : List X) → list_any (λ g. g == n) (map id_of (filter (λ e. q (id_of e)) xs)) ≡ (q n && has id_of xs n)
    gone-told n [] = sym (none (q n))
      where
        none : (b : Bool) → (b && false) ≡ false
        none true = refl
        none false = refl
    gone-told n (x ∷ xs) = either (id_of x == n) (q (id_of x)) refl refl (gone-told n xs)
      where
        either : (a b : Bool) → (id_of x == n) ≡ a → q (id_of x) ≡ b → list_any (λ g. g == n) (map id_of (filter (λ e. q (id_of e)) xs)) ≡ (q n && has id_of xs n)
            → list_any (λ g. g == n) (map id_of (filter (λ e. q (id_of e)) (x ∷ xs))) ≡ (q n && (id_of x == n || has id_of xs n))
        either true true is passes rest =
            let its : id_of x ≡ n = grind (arith, nat_tests, is) in
            let here : q n ≡ true = ap q (sym its) ∙ passes in
            rw (passes, is, here) refl
        either true false is passes rest =
            let its : id_of x ≡ n = grind (arith, nat_tests, is) in
            let here : q n ≡ false = ap q (sym its) ∙ passes in
            rw (passes, here) (rest ∙ ap (λ b. b && has id_of xs n) here)
        either false true is passes rest = rw (passes, is) rest
        either false false is passes rest = rw (passes, is) rest

    -- without them the others are left
    kept-alike : (r s : X → Bool) (xs : List X) → All (λ e. r e ≡ s e) xs → filter r xs ≡ filter s xs
    kept-alike r s [] same = refl
    kept-alike r s (x ∷ xs) same = either (s x) (All-head (λ e. r e ≡ s e) x xs same) refl (kept-alike r s xs (All-tail (λ e. r e ≡ s e) x xs same))
      where
        either : (b : Bool) → r x ≡ s x → s x ≡ b → filter r xs ≡ filter s xs → filter r (x ∷ xs) ≡ filter s (x ∷ xs)
        either true both is rest = rw (both, is) (ap (λ es. x ∷ es) rest)
        either false both is rest = rw (both, is) rest

    pub left-told : (xs : List X) → without id_of (map id_of (filter (λ e. q (id_of e)) xs)) xs ≡ filter (λ e. not (q (id_of e))) xs
    left-told xs =
        kept-alike (λ e. not (list_any (λ g. g == id_of e) (map id_of (filter (λ d. q (id_of d)) xs)))) (λ e. not (q (id_of e))) xs
        (All-weaker (λ e. has id_of xs (id_of e) ≡ true) (λ e. not (list_any (λ g. g == id_of e) (map id_of (filter (λ d. q (id_of d)) xs))) ≡ not (q (id_of e)))
        (λ e there. ap not (gone-told (id_of e) xs ∙ only (q (id_of e)) (has id_of xs (id_of e)) there)) xs (has-itself xs))
      where
        only : (a b : Bool) → b ≡ true → (a && b) ≡ a
        only true b is = is
        only false b is = refl

    -- what holds of those that pass
    passing : (P : X → Type 0) (p : X → Bool) (xs : List X) → ((e : X) → p e ≡ true → P e) → All P (filter p xs)
    passing P p [] so = All-nil P
    passing P p (x ∷ xs) so = either (p x) refl (passing P p xs so)
      where
        either : (b : Bool) → p x ≡ b → All P (filter p xs) → All P (filter p (x ∷ xs))
        either true is rest = rw is (All-cons P x (filter p xs) (so x is) rest)
        either false is rest = rw is rest

    -- the entry of an id that does not pass is still there
    still-entry : (n : ℕ) (xs : List X) → q n ≡ false → entry_of id_of n (filter (λ e. not (q (id_of e))) xs) ≡ entry_of id_of n xs
    still-entry n [] stays = refl
    still-entry n (x ∷ xs) stays = either (id_of x == n) (q (id_of x)) refl refl (still-entry n xs stays)
      where
        either : (a b : Bool) → (id_of x == n) ≡ a → q (id_of x) ≡ b → entry_of id_of n (filter (λ e. not (q (id_of e))) xs) ≡ entry_of id_of n xs
            → entry_of id_of n (filter (λ e. not (q (id_of e))) (x ∷ xs)) ≡ entry_of id_of n (x ∷ xs)
        either true true is passes rest =
            let its : id_of x ≡ n = grind (arith, nat_tests, is) in
            let clash : true ≡ false = sym passes ∙ ap q its ∙ stays in
            cc
        either true false is passes rest = rw (passes, is) refl
        either false true is passes rest = rw (passes, is) rest
        either false false is passes rest = rw (passes, is) rest

-- equal rows are one
rows-of : ℕ → Allocation → KeptRows
rows-of id spread = record { id = id; den = spread.den; rows = spread.rows }

equal-whole : (a b : KeptRows) → is_equal a b ≡ true → a ≡ b
unfolding rows-of
equal-whole a b is =
    let parts = both (a.id == b.id) (is_same (spread_told a) (spread_told b)) is in
    let its : a.id ≡ b.id = grind (arith, nat_tests, parts.0) in
    ap (λ n. rows-of n (spread_told a)) its ∙ ap (rows-of b.id) (same_allocations (spread_told a) (spread_told b) parts.1)

pub equal-itself : (a : KeptRows) → is_equal a a ≡ true
equal-itself a = together (grind (arith, nat_tests)) (same_allocation (spread_told a))

equal-some : (xs : List KeptRows) → All (λ n. list_any (λ k. is_equal k n) xs ≡ true) xs
equal-some [] = All-nil (λ n. list_any (λ k. is_equal k n) [] ≡ true)
equal-some (x ∷ xs) =
    All-cons (λ n. list_any (λ k. is_equal k n) (x ∷ xs) ≡ true) x xs (rw (equal-itself x) refl)
    (All-weaker (λ n. list_any (λ k. is_equal k n) xs ≡ true) (λ n. list_any (λ k. is_equal k n) (x ∷ xs) ≡ true) (λ n some. or-true (is_equal x n) (list_any (λ k. is_equal k n) xs) some) xs (equal-some xs))
  where
    or-true : (a b : Bool) → b ≡ true → (a || b) ≡ true
    or-true true b is = refl
    or-true false b is = is

-- of entries that ascend, one that is equal is that of the id
pub none-equal : (new : KeptRows) (xs : List KeptRows) → All (λ e. new.id < e.id) xs → list_any (λ k. is_equal k new) xs ≡ false
none-equal new [] above = refl
none-equal new (x ∷ xs) above =
    let other : (x.id == new.id) ≡ false = grind (arith, nat_tests, All-head (λ e. new.id < e.id) x xs above) in
    rw other (none-equal new xs (All-tail (λ e. new.id < e.id) x xs above))

pub equal-entry : (new : KeptRows) (xs : List KeptRows) → AscendsBy rows_id xs → list_any (λ k. is_equal k new) xs ≡ true → entry_of rows_id new.id xs ≡ Some new
equal-entry new [] up some = let no : false ≡ true = some in cc
equal-entry new (x ∷ xs) up some = either (is_equal x new) (x.id == new.id) refl refl some (equal-entry new xs (rest_ascends rows_id x xs up))
  where
    either : (a b : Bool) → is_equal x new ≡ a → (x.id == new.id) ≡ b → (a || list_any (λ k. is_equal k new) xs) ≡ true → (list_any (λ k. is_equal k new) xs ≡ true → entry_of rows_id new.id xs ≡ Some new)
        → entry_of rows_id new.id (x ∷ xs) ≡ Some new
    either true true is named some later = rw named (ap Some (equal-whole x new is))
    either true false is named some later = let parts = both (x.id == new.id) (is_same (spread_told x) (spread_told new)) is in let clash : true ≡ false = sym parts.0 ∙ named in cc
    either false true is named some later =
        let its : x.id ≡ new.id = grind (arith, nat_tests, named) in
        let clash : false ≡ true = sym (none-equal new xs (λ i d within. omega (arith, its, first_least rows_id x xs up i d within))) ∙ some in
        cc
    either false false is named some later = rw named (later some)

-- Kept rows beside those made anew of facts of the same ids.
module _ (kept anew : List KeptRows) (facts : List KeptFact) (up : AscendsBy rows_id anew) (ids : (n : ℕ) → has rows_id anew n ≡ list_any (λ f. f.id == n) facts) where
  abbrev astray : ℕ → Bool
  astray n = not (list_any (λ f. f.id == n) facts)

  abbrev left : List KeptRows
  left = without rows_id (strays kept facts) kept

  left-is : left ≡ filter (λ e. not (astray e.id)) kept
  left-is = left-told rows_id astray kept

  not-not : (b : Bool) → not (not b) ≡ true → b ≡ true
  not-not true is = refl
  not-not false is = is

  left-named : AreOf rows_id anew left
  left-named = subst (AreOf rows_id anew) (sym left-is)
      (passing rows_id astray (λ e. has rows_id anew (rows_id e) ≡ true) (λ e. not (astray e.id)) kept (λ e is. ids e.id ∙ not-not (list_any (λ f. f.id == e.id) facts) is))

  -- rows that are not wanting
  not-wanting : (a b : Bool) → (not a || not b) ≡ false → (a ≡ true) × (b ≡ true)
  not-wanting true true is = (refl, refl)
  not-wanting true false is = cc
  not-wanting false b is = cc

  stands : (new : KeptRows) → has rows_id anew new.id ≡ true → is_wanting kept new ≡ false → StandsThere rows_id new left
  stands new named is =
      let so = not-wanting (ascends_from rows_id 0 kept) (list_any (λ k. is_equal k new) kept) is in
      let kept_up = pairs-from_ascends rows_id 0 kept so.0 in
      let here : astray new.id ≡ false = ap not (sym (ids new.id) ∙ named) in
      subst (StandsThere rows_id new) (sym left-is) (record {
        ascending = AllPairs-filter (λ a b. rows_id a < rows_id b) (λ e. not (astray e.id)) kept kept_up;
        entry = still-entry rows_id astray new.id kept here ∙ equal-entry new kept kept_up so.1;
      })

  -- the batch leaves those that were made anew
  pub put-right : updated rows_id (strays kept facts) (filter (is_wanting kept) anew) kept ≡ anew
  put-right =
      all-put rows_id (is_wanting kept) anew left up left-named
      (All-weaker (λ n. has rows_id anew (rows_id n) ≡ true) (λ n. is_wanting kept n ≡ false → StandsThere rows_id n left) stands anew (has-itself rows_id anew))

  -- so where it changes nothing, they were kept
  pub nothing-changed : length (strays kept facts) + length (filter (is_wanting kept) anew) ≡ 0 → kept ≡ anew
  nothing-changed none =
      let no_strays = no-length (strays kept facts) (omega (arith, none)) in
      let no_rows = no-length (filter (is_wanting kept) anew) (omega (arith, none)) in
      sym (without-none rows_id kept) ∙ ap (λ gone. without rows_id gone kept) (sym no_strays) ∙ ap (fold (put rows_id) left) (sym no_rows) ∙ put-right

  -- and where they were kept, it changes nothing
  module _ (same : kept ≡ anew) where
    none-stray : strays kept facts ≡ []
    none-stray = ap (map rows_id) (none-passes (is_stray facts) kept (subst (All (λ e. is_stray facts e ≡ false)) (sym same) found))
      where
        found : All (λ e. is_stray facts e ≡ false) anew
        found = All-weaker (λ e. has rows_id anew (rows_id e) ≡ true) (λ e. is_stray facts e ≡ false) (λ e named. ap not (sym (ids e.id) ∙ named)) anew (has-itself rows_id anew)

    none-wanting : filter (is_wanting kept) anew ≡ []
    none-wanting = none-passes (is_wanting kept) anew (All-weaker (λ n. list_any (λ k. is_equal k n) anew ≡ true) (λ n. is_wanting kept n ≡ false) each anew (equal-some anew))
      where
        ascends : ascends_from rows_id 0 kept ≡ true
        ascends = ap (ascends_from rows_id 0) same ∙ ascends-from_pairs rows_id 0 anew up (λ i d within. omega arith)

        each : (n : KeptRows) → list_any (λ k. is_equal k n) anew ≡ true → is_wanting kept n ≡ false
        each n some = let some_kept : list_any (λ k. is_equal k n) kept ≡ true = ap (list_any (λ k. is_equal k n)) same ∙ some in rw (ascends, some_kept) refl

    pub nothing-to_change : length (strays kept facts) + length (filter (is_wanting kept) anew) ≡ 0
    nothing-to_change = rw (none-stray, none-wanting) refl
