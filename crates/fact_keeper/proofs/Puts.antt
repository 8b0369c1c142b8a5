-- Entries whose ids ascend: what a put makes of them, and that they ascend afterwards.
use Rattle.std.proofs.Common.{◌≡◌, ℕ, zero, suc, ◌+◌, ◌-◌, ◌<◌, true, List, [], ◌∷◌, ◌++◌, length, get_or, set, refl, sym, ap, ◌∙◌, arith, subst, inl, inr}
use Rattle.std.specs.Prelude.{All, filter, insert, nat_lt, ◌==◌, not}
use Rattle.std.specs.List.{AllAdjacentBelow, position_or_len}
use Rattle.std.proofs.lemmas.Bool.{cases_lt}
use Rattle.std.proofs.lemmas.List.{get_or_default}
use Rattle.std.proofs.lemmas.Bool.Decides.{nat_tests}
use Rattle.std.proofs.lemmas.List.Elements.{All-append, All-cons, All-filter}
use Rattle.std.proofs.lemmas.List.Kept.{AllPairs-cons, AllPairs-filter}
use Rattle.cube_base.specs.Search.{IsKeyAt, IsKeyGap}
use Rattle.fact_keeper.specs.Batch.{put, without}
use Rattle.fact_keeper.specs.Order.{AscendsBy}

module _ {X : Type 0} (id_of : X → ℕ) where
  -- the first has a smaller id than the others, which ascend
  pub first_least : (x : X) (xs : List X) → AscendsBy id_of (x ∷ xs) → All (λ y. id_of x < id_of y) xs
  first_least x xs up i d lt = up 0 (suc i) d (omega arith) (omega arith)

  pub rest_ascends : (x : X) (xs : List X) → AscendsBy id_of (x ∷ xs) → AscendsBy id_of xs
  rest_ascends x xs up i j d lt in_range = up (suc i) (suc j) d (omega arith) (omega arith)

  module _ (new : X) where
    -- the smaller entries, the new one, the greater entries
    abbrev pub around : List X → List X
    around entries = filter (λ e. nat_lt (id_of e) (id_of new)) entries ++ new ∷ filter (λ e. nat_lt (id_of new) (id_of e)) entries

    -- where all entries are greater, the new one stands before them
    none_smaller : (xs : List X) → All (λ e. id_of new < id_of e) xs → filter (λ e. nat_lt (id_of e) (id_of new)) xs ≡ []
    none_smaller [] above = refl
    none_smaller (x ∷ xs) above = grind (arith, nat_tests, above 0 x (omega arith), none_smaller xs (λ i d lt. above (suc i) d (omega arith)))

    all_greater : (xs : List X) → All (λ e. id_of new < id_of e) xs → filter (λ e. nat_lt (id_of new) (id_of e)) xs ≡ xs
    all_greater [] above = refl
    all_greater (x ∷ xs) above = grind (arith, nat_tests, above 0 x (omega arith), all_greater xs (λ i d lt. above (suc i) d (omega arith)))

    all_other : (xs : List X) → All (λ e. id_of new < id_of e) xs → filter (λ e. not (id_of e == id_of new)) xs ≡ xs
    all_other [] above = refl
    all_other (x ∷ xs) above = grind (arith, nat_tests, above 0 x (omega arith), all_other xs (λ i d lt. above (suc i) d (omega arith)))

    first_above : (xs : List X) → All (λ e. id_of new < id_of e) xs → position_or_len (λ e. nat_lt (id_of new) (id_of e)) xs ≡ 0
    first_above [] above = refl
    first_above (x ∷ xs) above = grind (arith, nat_tests, above 0 x (omega arith))

    -- the first entry has a smaller id
    put-past : (x : X) (xs : List X) → id_of x < id_of new → put id_of (x ∷ xs) new ≡ x ∷ put id_of xs new
    put-past x xs smaller = grind (arith, nat_tests)

    around-past : (x : X) (xs : List X) → id_of x < id_of new → around (x ∷ xs) ≡ x ∷ around xs
    around-past x xs smaller = grind (arith, nat_tests)

    -- it has the same id
    put-over : (x : X) (xs : List X) → id_of x ≡ id_of new → put id_of (x ∷ xs) new ≡ put id_of xs new
    put-over x xs same = grind (arith, nat_tests)

    around-over : (x : X) (xs : List X) → id_of x ≡ id_of new → around (x ∷ xs) ≡ around xs
    around-over x xs same = grind (arith, nat_tests)

    -- all have a greater id
    put-before : (xs : List X) → All (λ e. id_of new < id_of e) xs → put id_of xs new ≡ new ∷ xs
    put-before xs above =
        ap (λ others. insert others (position_or_len (λ e. nat_lt (id_of new) (id_of e)) others) new) (all_other xs above) ∙ ap (λ place. insert xs place new) (first_above xs above)

    around-before : (xs : List X) → All (λ e. id_of new < id_of e) xs → around xs ≡ new ∷ xs
    around-before xs above =
        ap (λ front. front ++ new ∷ filter (λ e. nat_lt (id_of new) (id_of e)) xs) (none_smaller xs above) ∙ ap (λ back. new ∷ back) (all_greater xs above)

    all_above : (x : X) (xs : List X) → AscendsBy id_of (x ∷ xs) → id_of new < id_of x → All (λ e. id_of new < id_of e) (x ∷ xs)
    all_above x xs up greater = All-cons (λ e. id_of new < id_of e) x xs greater (λ i d lt. omega (arith, first_least x xs up i d lt))

    -- an entry has a smaller id, the same or a greater one
    smaller_same_greater : (x : X) (P : Type 0) → (id_of x < id_of new → P) → (id_of x ≡ id_of new → P) → (id_of new < id_of x → P) → P
    smaller_same_greater x P smaller same greater =
        elim (cases_lt (id_of x) (id_of new)) [
          | inl lt ↦ smaller lt
          | inr le ↦ elim (cases_lt (id_of new) (id_of x)) [ inl lt ↦ greater lt | inr least ↦ same (omega arith) ]
        ]

    -- a new entry put into entries that ascend stands between the smaller and the greater ones
    pub put-ascending : (entries : List X) → AscendsBy id_of entries → put id_of entries new ≡ around entries
    put-ascending [] up = refl
    put-ascending (x ∷ xs) up =
        let later = put-ascending xs (rest_ascends x xs up) in
        smaller_same_greater x (put id_of (x ∷ xs) new ≡ around (x ∷ xs))
        (λ smaller. put-past x xs smaller ∙ ap (λ l. x ∷ l) later ∙ sym (around-past x xs smaller))
        (λ same. put-over x xs same ∙ later ∙ sym (around-over x xs same))
        (λ greater. put-before (x ∷ xs) (all_above x xs up greater) ∙ sym (around-before (x ∷ xs) (all_above x xs up greater)))

    -- what holds of the entries and of the new one holds of each then
    All-around : (P : X → Type 0) (xs : List X) → All P xs → P new → All P (around xs)
    All-around P xs all it = All-append P _ _ (All-filter _ P xs all) (All-cons P new _ it (All-filter _ P xs all))

    -- they ascend afterwards
    pub around-ascends : (entries : List X) → AscendsBy id_of entries → AscendsBy id_of (around entries)
    around-ascends [] up = λ i j d lt in_range. absurd (omega arith)
    around-ascends (x ∷ xs) up =
        let later = around-ascends xs (rest_ascends x xs up) in
        smaller_same_greater x (AscendsBy id_of (around (x ∷ xs)))
        (λ smaller. subst (AscendsBy id_of) (sym (around-past x xs smaller))
        (AllPairs-cons (λ a b. id_of a < id_of b) x (around xs) (All-around (λ e. id_of x < id_of e) xs (first_least x xs up) smaller) later))
        (λ same. subst (AscendsBy id_of) (sym (around-over x xs same)) later)
        (λ greater.
        let above = all_above x xs up greater in
        subst (AscendsBy id_of) (sym (around-before (x ∷ xs) above)) (AllPairs-cons (λ a b. id_of a < id_of b) new (x ∷ xs) above up))

    -- a put into entries that ascend leaves them so
    pub put-ascends : (entries : List X) → AscendsBy id_of entries → AscendsBy id_of (put id_of entries new)
    put-ascends entries up = subst (AscendsBy id_of) (sym (put-ascending entries up)) (around-ascends entries up)

    -- the entry of the id is at a place
    around-found : (d : X) (entries : List X) → AscendsBy id_of entries → (place : ℕ) → IsKeyAt id_of d entries (id_of new) place → around entries ≡ set entries place new
    around-found d [] up place found = absurd (omega (arith, found.in_range))
    around-found d (x ∷ xs) up zero found =
        around-over x xs found.has_key ∙ around-before xs (λ i e lt. omega (arith, first_least x xs up i e lt, found.has_key))
    around-found d (x ∷ xs) up (suc place) found =
        let later : IsKeyAt id_of d xs (id_of new) place = record { in_range = omega (arith, found.in_range); has_key = found.has_key } in
        around-past x xs (omega (arith, first_least x xs up place d later.in_range, found.has_key)) ∙ ap (λ l. x ∷ l) (around-found d xs (rest_ascends x xs up) place later)

    -- the id has a gap at a place
    around-gap : (d : X) (entries : List X) (place : ℕ) → IsKeyGap id_of d entries (id_of new) place → around entries ≡ insert entries place new
    around-gap d entries zero gap = around-before entries (λ i e lt. rw (get_or_default entries i e d lt) (gap.greater_after i (omega arith) lt))
    around-gap d [] (suc place) gap = absurd (omega (arith, gap.in_range))
    around-gap d (x ∷ xs) (suc place) gap =
        let later : IsKeyGap id_of d xs (id_of new) place = record {
          in_range = omega (arith, gap.in_range);
          smaller_before = λ i lt. gap.smaller_before (suc i) (omega arith);
          greater_after = λ i le lt. gap.greater_after (suc i) (omega arith) (omega arith);
        } in
        around-past x xs (gap.smaller_before 0 (omega arith)) ∙ ap (λ l. x ∷ l) (around-gap d xs place later)

    -- the new one over the entry of its id
    pub put-found : (d : X) (entries : List X) → AscendsBy id_of entries → (place : ℕ) → IsKeyAt id_of d entries (id_of new) place → put id_of entries new ≡ set entries place new
    put-found d entries up place found = put-ascending entries up ∙ around-found d entries up place found

    -- the new one at the gap for it
    pub put-gap : (d : X) (entries : List X) → AscendsBy id_of entries → (place : ℕ) → IsKeyGap id_of d entries (id_of new) place → put id_of entries new ≡ insert entries place new
    put-gap d entries up place gap = put-ascending entries up ∙ around-gap d entries place gap

  module _ (xs : List X) (adjacent : AllAdjacentBelow (λ x y. true ≡ nat_lt (id_of x) (id_of y)) xs (length xs)) where
    next_greater : (i j : ℕ) (d : X) → j ≡ i + 1 → j < length xs → id_of (get_or xs i d) < id_of (get_or xs j d)
    next_greater i j d is in_range =
        let test : true ≡ nat_lt (id_of (get_or xs i d)) (id_of (get_or xs (i + 1) d)) = adjacent i d (omega arith) in
        rw is (grind (arith, nat_tests))

    later_greater : (n i j : ℕ) (d : X) → j ≡ i + suc n → j < length xs → id_of (get_or xs i d) < id_of (get_or xs j d)
    later_greater zero i j d is in_range = next_greater i j d (omega arith) in_range
    later_greater (suc n) i j d is in_range =
        let before : id_of (get_or xs i d) < id_of (get_or xs (i + suc n) d) = later_greater n i (i + suc n) d refl (omega arith) in
        let last = next_greater (i + suc n) j d (omega arith) in_range in
        omega (arith, before, last)

    -- entries of which each has a smaller id than the next ascend
    pub ascending_from_adjacent : AscendsBy id_of xs
    ascending_from_adjacent i j d lt in_range = later_greater (j - suc i) i j d (omega arith) in_range

-- no id is gone
pub without-none : {X : Type 0} (id_of : X → ℕ) (entries : List X) → without id_of [] entries ≡ entries
without-none id_of [] = refl
without-none id_of (x ∷ xs) = ap (λ l. x ∷ l) (without-none id_of xs)

-- entries that ascend do so without some
pub without-ascends : {X : Type 0} (id_of : X → ℕ) (gone : List ℕ) (entries : List X) → AscendsBy id_of entries → AscendsBy id_of (without id_of gone entries)
without-ascends id_of gone entries up = AllPairs-filter (λ a b. id_of a < id_of b) _ entries up
