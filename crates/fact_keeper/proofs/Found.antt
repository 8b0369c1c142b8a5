-- The entry of an id: what a batch makes of it, and that entries that ascend are told by it.
use Rattle.std.proofs.Common.{◌≡◌, ℕ, zero, suc, ◌<◌, ◌≢◌, true, Bool, cond, List, [], ◌∷◌, refl, sym, ap, ◌∙◌, arith, Option, Some, None, inl, inr}
use Rattle.std.specs.Prelude.{All, filter, find, insert, fold, nat_lt, ◌==◌, not}
use Rattle.std.specs.List.{list_any, position_or_len}
use Rattle.std.specs.Option.{option_or}
use Rattle.std.proofs.lemmas.Bool.{cases_Bool, cases_eq, false≢true}
use Rattle.std.proofs.lemmas.Bool.Decides.{nat_tests}
use Rattle.std.proofs.lemmas.List.Elements.{All-cons}
use Rattle.fact_keeper.specs.Batch.{put, updated, without}
use Rattle.fact_keeper.specs.Order.{AscendsBy}
use Rattle.fact_keeper.proofs.Puts.{first_least, rest_ascends, put-ascends, without-ascends}

-- an item put at a place, where it is the only one that passes if it does
find-insert : {X : Type 0} (p : X → Bool) (xs : List X) (place : ℕ) (new : X) → (p new ≡ true → find p xs ≡ None) → find p (insert xs place new) ≡ cond (p new) (Some new) (find p xs)
find-insert p xs zero new alone = refl
find-insert p [] (suc place) new alone = refl
find-insert p (x ∷ xs) (suc place) new alone =
    elim (cases_Bool (p new)) [
      | inl passes ↦ grind (arith, alone passes, find-insert p xs place new (λ is. grind (arith, alone passes)))
      | inr fails ↦ grind (arith, find-insert p xs place new (λ is. absurd (false≢true (sym fails ∙ is))))
    ]

module _ {X : Type 0} (id_of : X → ℕ) where
  -- the first entry of an id, if there is one
  abbrev pub entry_of : ℕ → List X → Option X
  entry_of n entries = find (λ e. id_of e == n) entries

  -- the entries of other ids take no part
  entry_of-others : (n k : ℕ) (xs : List X) → n ≢ k → entry_of n (filter (λ e. not (id_of e == k)) xs) ≡ entry_of n xs
  entry_of-others n k [] other = refl
  entry_of-others n k (x ∷ xs) other = grind (arith, nat_tests, entry_of-others n k xs other)

  entry_of-none : (k : ℕ) (xs : List X) → entry_of k (filter (λ e. not (id_of e == k)) xs) ≡ None
  entry_of-none k [] = refl
  entry_of-none k (x ∷ xs) = grind (arith, nat_tests, entry_of-none k xs)

  -- entries of gone ids are dropped
  pub entry_of-without : (n : ℕ) (gone : List ℕ) (xs : List X) → entry_of n (without id_of gone xs) ≡ cond (list_any (λ g. g == n) gone) None (entry_of n xs)
  entry_of-without n gone [] = grind (arith, nat_tests)
  entry_of-without n gone (x ∷ xs) =
      elim (cases_eq (id_of x) n) [
        | inl same ↦
            let test : list_any (λ g. g == id_of x) gone ≡ list_any (λ g. g == n) gone = ap (λ k. list_any (λ g. g == k) gone) same in
            grind (arith, nat_tests, entry_of-without n gone xs)
        | inr other ↦ grind (arith, nat_tests, entry_of-without n gone xs)
      ]

  -- a put gives its id to the new entry, and leaves the others
  pub entry_of-put : (n : ℕ) (entries : List X) (new : X) → entry_of n (put id_of entries new) ≡ cond (id_of new == n) (Some new) (entry_of n entries)
  entry_of-put n entries new =
      let others = filter (λ e. not (id_of e == id_of new)) entries in
      let place = position_or_len (λ e. nat_lt (id_of new) (id_of e)) others in
      elim (cases_eq (id_of new) n) [
        | inl same ↦
            let none : entry_of n others ≡ None = ap (λ k. entry_of k others) (sym same) ∙ entry_of-none (id_of new) entries in
            find-insert (λ e. id_of e == n) others place new (λ _. none) ∙ grind (arith, nat_tests)
        | inr other ↦
            find-insert (λ e. id_of e == n) others place new (λ is. absurd (other (grind (arith, nat_tests))))
            ∙ ap (cond (id_of new == n) (Some new)) (entry_of-others n (id_of new) entries (λ same. other (sym same)))
      ]

  -- an id below all others has no entry
  entry_of-above : (n : ℕ) (xs : List X) → All (λ e. n < id_of e) xs → entry_of n xs ≡ None
  entry_of-above n [] above = refl
  entry_of-above n (x ∷ xs) above = grind (arith, nat_tests, above 0 x (omega arith), entry_of-above n xs (λ i d lt. above (suc i) d (omega arith)))

  -- new entries that ascend, put in turn, are found before the old ones
  entry_of-fold : (n : ℕ) (entries new : List X) → AscendsBy id_of new → entry_of n (fold (put id_of) entries new) ≡ option_or (entry_of n new) (entry_of n entries)
  entry_of-fold n entries [] up = refl
  entry_of-fold n entries (x ∷ new) up =
      entry_of-fold n (put id_of entries x) new (rest_ascends id_of x new up) ∙ ap (option_or (entry_of n new)) (entry_of-put n entries x) ∙ once
    where
      once : option_or (entry_of n new) (cond (id_of x == n) (Some x) (entry_of n entries)) ≡ option_or (cond (id_of x == n) (Some x) (entry_of n new)) (entry_of n entries)
      once = elim (cases_eq (id_of x) n) [
        | inl same ↦ grind (arith, nat_tests, entry_of-above n new (λ i d lt. omega (arith, same, first_least id_of x new up i d lt)))
        | inr other ↦ grind (arith, nat_tests)
      ]

  -- the entry of an id after a batch whose new entries ascend
  pub entry_of-updated : (n : ℕ) (gone : List ℕ) (new entries : List X) → AscendsBy id_of new
      → entry_of n (updated id_of gone new entries) ≡ option_or (entry_of n new) (cond (list_any (λ g. g == n) gone) None (entry_of n entries))
  entry_of-updated n gone new entries up = entry_of-fold n (without id_of gone entries) new up ∙ ap (option_or (entry_of n new)) (entry_of-without n gone entries)

  -- entries that ascend do so after a batch
  fold-ascends : (entries new : List X) → AscendsBy id_of entries → AscendsBy id_of (fold (put id_of) entries new)
  fold-ascends entries [] up = up
  fold-ascends entries (x ∷ new) up = fold-ascends (put id_of entries x) new (put-ascends id_of x entries up)

  pub updated-ascends : (gone : List ℕ) (new entries : List X) → AscendsBy id_of entries → AscendsBy id_of (updated id_of gone new entries)
  updated-ascends gone new entries up = fold-ascends (without id_of gone entries) new (without-ascends id_of gone entries up)

  -- the first entry is that of its id
  entry_of-first : (x : X) (xs : List X) → entry_of (id_of x) (x ∷ xs) ≡ Some x
  entry_of-first x xs = grind (arith, nat_tests)

  module _ (x y : X) (xs ys : List X) (up : AscendsBy id_of (x ∷ xs)) (up' : AscendsBy id_of (y ∷ ys)) (same : (n : ℕ) → entry_of n (x ∷ xs) ≡ entry_of n (y ∷ ys)) where
    -- the other's first has no smaller id
    no_smaller : id_of x < id_of y → ⊥
    no_smaller less =
        let none : entry_of (id_of x) (y ∷ ys) ≡ None = entry_of-above (id_of x) (y ∷ ys) (All-cons (λ e. id_of x < id_of e) y ys less (λ i d lt. omega (arith, first_least id_of y ys up' i d lt))) in
        let clash : Some x ≡ None = sym (entry_of-first x xs) ∙ same (id_of x) ∙ none in
        cc

    same_first : id_of x ≡ id_of y → x ≡ y
    same_first tie =
        let both : Some x ≡ Some y = sym (entry_of-first x xs) ∙ same (id_of x) ∙ ap (λ n. entry_of n (y ∷ ys)) tie ∙ entry_of-first y ys in
        cc

    same_rest : id_of x ≡ id_of y → (n : ℕ) → entry_of n xs ≡ entry_of n ys
    same_rest tie n = elim (cases_eq (id_of x) n) [
      | inl here ↦
          entry_of-above n xs (λ i d lt. omega (arith, here, first_least id_of x xs up i d lt))
          ∙ sym (entry_of-above n ys (λ i d lt. omega (arith, here, tie, first_least id_of y ys up' i d lt)))
      | inr other ↦ grind (arith, nat_tests, same n)
    ]

  -- two lists that ascend are the same where each id has the same entry in both
  pub same_from_entries : (xs ys : List X) → AscendsBy id_of xs → AscendsBy id_of ys → ((n : ℕ) → entry_of n xs ≡ entry_of n ys) → xs ≡ ys
  same_from_entries [] [] up up' same = refl
  same_from_entries [] (y ∷ ys) up up' same =
      let clash : None ≡ Some y = same (id_of y) ∙ entry_of-first y ys in
      cc
  same_from_entries (x ∷ xs) [] up up' same =
      let clash : Some x ≡ None = sym (entry_of-first x xs) ∙ same (id_of x) in
      cc
  same_from_entries (x ∷ xs) (y ∷ ys) up up' same =
      let not_less = no_smaller x y xs ys up up' same in
      let not_more = no_smaller y x ys xs up' up (λ n. sym (same n)) in
      let tie : id_of x ≡ id_of y = omega (arith, not_less, not_more) in
      ap (λ e. e ∷ xs) (same_first x y xs ys up up' same tie)
      ∙ ap (λ l. y ∷ l) (same_from_entries xs ys (rest_ascends id_of x xs up) (rest_ascends id_of y ys up') (same_rest x y xs ys up up' same tie))
