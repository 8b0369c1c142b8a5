-- Lists one after another: where an element of one of them stands, and what an edit of one does to all.
use Rattle.std.proofs.Common.{◌≡◌, ℕ, zero, suc, ◌+◌, ◌-◌, ◌<◌, ◌≤◌, List, [], ◌∷◌, ◌++◌, length, take, drop, get_or, set, Some, refl, sym, ap, ◌∙◌, arith, length-append, add-one}
use Rattle.std.specs.List.{flat_map, insert, remove, slice_get}
use Rattle.std.proofs.lemmas.List.{set_split, take_all, get_or_append_left, get_or-append_right, set-append_left, set-append_right}
use Rattle.std.proofs.lemmas.List.Edits.{insert-append_left, insert-append_right, remove-append_left, remove-append_right}
use Rattle.std.proofs.lemmas.List.Concat.{flat_map-append}
use Rattle.std.proofs.lemmas.Option.{slice_get-get_or}

module _ {X : Type 0} where
  -- all elements, one list after another
  abbrev pub flat : List (List X) → List X
  flat xss = flat_map (λ xs. xs) xss

  -- among all, the place of what is at a place of a list
  abbrev pub place : List (List X) → ℕ → ℕ → ℕ
  place xss i k = length (flat (take i xss)) + k

  -- an edit in the middle of three parts
  pub insert_middle : (a b c : List X) (k : ℕ) (x : X) → k ≤ length b → insert (a ++ (b ++ c)) (length a + k) x ≡ a ++ (insert b k x ++ c)
  insert_middle a b c k x le =
      let shift : length a + k - length a ≡ k = omega arith in
      insert-append_right a (b ++ c) (length a) (length a + k) x refl (omega arith) ∙ (rw shift (ap (λ l. a ++ l) (insert-append_left b c k x le)))

  pub remove_middle : (a b c : List X) (k : ℕ) → k < length b → remove (a ++ (b ++ c)) (length a + k) ≡ a ++ (remove b k ++ c)
  remove_middle a b c k lt =
      let shift : length a + k - length a ≡ k = omega arith in
      remove-append_right a (b ++ c) (length a) (length a + k) refl (omega arith) ∙ (rw shift (ap (λ l. a ++ l) (remove-append_left b c k lt)))

  pub set_middle : (a b c : List X) (k : ℕ) (x : X) → k < length b → set (a ++ (b ++ c)) (length a + k) x ≡ a ++ (set b k x ++ c)
  set_middle a b c k x lt =
      let shift : length a + k - length a ≡ k = omega arith in
      set-append_right a (b ++ c) (length a) (length a + k) x refl (omega arith) ∙ (rw shift (ap (λ l. a ++ l) (set-append_left b c k x lt)))

  pub get_or_middle : (a b c : List X) (k : ℕ) (d : X) → k < length b → get_or (a ++ (b ++ c)) (length a + k) d ≡ get_or b k d
  get_or_middle a b c k d lt =
      let shift : length a + k - length a ≡ k = omega arith in
      get_or-append_right a (b ++ c) (length a) (length a + k) d refl (omega arith) ∙ (rw shift (get_or_append_left b c d k lt))

  -- a list of lists round the one at a place
  pub split_at : (xss : List (List X)) (i : ℕ) → i < length xss → xss ≡ take i xss ++ get_or xss i [] ∷ drop (suc i) xss
  split_at [] i lt = absurd (omega arith)
  split_at (xs ∷ xss) zero lt = refl
  split_at (xs ∷ xss) (suc i) lt = ap (λ l. xs ∷ l) (split_at xss i (omega arith))

  pub flat-split : (xss : List (List X)) (i : ℕ) → i < length xss → flat xss ≡ flat (take i xss) ++ (get_or xss i [] ++ flat (drop (suc i) xss))
  flat-split xss i lt = ap flat (split_at xss i lt) ∙ flat_map-append (λ xs. xs) (take i xss) (get_or xss i [] ∷ drop (suc i) xss)

  pub flat-set : (xss : List (List X)) (i : ℕ) (ys : List X) → i < length xss → flat (set xss i ys) ≡ flat (take i xss) ++ (ys ++ flat (drop (suc i) xss))
  flat-set xss i ys lt = ap flat (set_split xss i ys lt) ∙ flat_map-append (λ xs. xs) (take i xss) (ys ∷ drop (suc i) xss)

  -- an edit of one list is an edit of all
  pub flat-insert : (xss : List (List X)) (i k : ℕ) (x : X) → i < length xss → k ≤ length (get_or xss i []) → flat (set xss i (insert (get_or xss i []) k x)) ≡ insert (flat xss) (place xss i k) x
  flat-insert xss i k x lt le =
      flat-set xss i _ lt ∙ sym (insert_middle (flat (take i xss)) (get_or xss i []) (flat (drop (suc i) xss)) k x le) ∙ ap (λ l. insert l (place xss i k) x) (sym (flat-split xss i lt))

  pub flat-remove : (xss : List (List X)) (i k : ℕ) → i < length xss → k < length (get_or xss i []) → flat (set xss i (remove (get_or xss i []) k)) ≡ remove (flat xss) (place xss i k)
  flat-remove xss i k lt le =
      flat-set xss i _ lt ∙ sym (remove_middle (flat (take i xss)) (get_or xss i []) (flat (drop (suc i) xss)) k le) ∙ ap (λ l. remove l (place xss i k)) (sym (flat-split xss i lt))

  pub flat-replace : (xss : List (List X)) (i k : ℕ) (x : X) → i < length xss → k < length (get_or xss i []) → flat (set xss i (set (get_or xss i []) k x)) ≡ set (flat xss) (place xss i k) x
  flat-replace xss i k x lt le =
      flat-set xss i _ lt ∙ sym (set_middle (flat (take i xss)) (get_or xss i []) (flat (drop (suc i) xss)) k x le) ∙ ap (λ l. set l (place xss i k) x) (sym (flat-split xss i lt))

  -- an element is read at its place among all
  pub get_or-flat : (xss : List (List X)) (i k : ℕ) (d : X) → i < length xss → k < length (get_or xss i []) → get_or (flat xss) (place xss i k) d ≡ get_or (get_or xss i []) k d
  get_or-flat xss i k d lt le = ap (λ l. get_or l (place xss i k) d) (flat-split xss i lt) ∙ get_or_middle (flat (take i xss)) (get_or xss i []) (flat (drop (suc i) xss)) k d le

  -- the lists take so many places
  pub length-flat : (xss : List (List X)) (i : ℕ) → i < length xss → length (flat xss) ≡ length (flat (take i xss)) + (length (get_or xss i []) + length (flat (drop (suc i) xss)))
  length-flat xss i lt = ap length (flat-split xss i lt) ∙ length-append (flat (take i xss)) _ ∙ ap (λ n. length (flat (take i xss)) + n) (length-append (get_or xss i []) _)

  pub slice_get-flat : (xss : List (List X)) (i k : ℕ) (d : X) → i < length xss → k < length (get_or xss i []) → slice_get (flat xss) (place xss i k) ≡ Some (get_or (get_or xss i []) k d)
  slice_get-flat xss i k d lt le =
      slice_get-get_or (flat xss) (place xss i k) d (omega (arith, length-flat xss i lt)) ∙ ap Some (get_or-flat xss i k d lt le)

  -- the next list begins where one ends
  pub place-next : (xss : List (List X)) (i : ℕ) → i < length xss → place xss (suc i) 0 ≡ place xss i (length (get_or xss i []))
  place-next [] i lt = absurd (omega arith)
  place-next (xs ∷ xss) zero lt = omega (arith, length-append xs [])
  place-next (xs ∷ xss) (suc i) lt = omega (arith, place-next xss i (omega arith), length-append xs (flat (take (suc i) xss)), length-append xs (flat (take i xss)))

  pub place-more : (xss : List (List X)) (i : ℕ) → i < length xss → place xss (i + 1) 0 ≡ place xss i (length (get_or xss i []))
  place-more xss i lt = ap (λ n. place xss n 0) (add-one i) ∙ place-next xss i lt

  -- a later list begins no earlier
  pub place-rises : (xss : List (List X)) (i j : ℕ) → i ≤ j → place xss i 0 ≤ place xss j 0
  place-rises [] zero j le = omega arith
  place-rises [] (suc i) j le = omega arith
  place-rises (xs ∷ xss) zero j le = omega arith
  place-rises (xs ∷ xss) (suc i) zero le = absurd (omega arith)
  place-rises (xs ∷ xss) (suc i) (suc j) le = omega (arith, place-rises xss i j (omega arith), length-append xs (flat (take i xss)), length-append xs (flat (take j xss)))

  -- the last one ends where all do
  pub place-end : (xss : List (List X)) (i : ℕ) → length xss ≤ i → place xss i 0 ≡ length (flat xss)
  place-end xss i le = omega (arith, ap (λ l. length (flat l)) (take_all i xss le))
