-- Lists one after another: what an edit of their lengths and their items does to the lists.
use Rattle.std.proofs.Common.{◌≡◌, ℕ, zero, suc, ◌+◌, ◌*◌, ◌<◌, ◌≤◌, List, [], ◌∷◌, ◌++◌, length, take, drop, set, Option, None, Some, refl, sym, ap, ◌∙◌, arith, length-drop}
use Rattle.std.specs.List.{All, sum, insert, remove, slice_get}
use Rattle.std.proofs.lemmas.List.{set_split, length-take-le, take_at, drop_at, take-take, drop-take, drop-drop, take-append-le, drop-append-le, nil_from_length}
use Rattle.std.proofs.lemmas.Option.{slice_get_within}
use Rattle.std.proofs.lemmas.List.Sums.{sum_by-cons, sum_by-append, sum_by-take-drop, sum_by-take-le, sum_by-le}
use Rattle.fact_records.specs.ShortLists.{IsLengthOfAll, lists_of}

-- the next list begins where one ends
pub sum-next : (lengths : List ℕ) (k n : ℕ) → slice_get lengths k ≡ Some n → sum (take (suc k) lengths) ≡ sum (take k lengths) + n
sum-next [] k n e = cc
sum-next (m ∷ lengths) zero n e = let same : m ≡ n = cc in omega (arith, sum_by-cons (λ x. x) m [])
sum-next (m ∷ lengths) (suc k) n e = omega (arith, sum_by-cons (λ x. x) m (take (suc k) lengths), sum_by-cons (λ x. x) m (take k lengths), sum-next lengths k n e)

-- lengths before a place, the one there, and those behind it
split-at : (lengths : List ℕ) (k n : ℕ) → slice_get lengths k ≡ Some n → lengths ≡ take k lengths ++ n ∷ drop (suc k) lengths
split-at [] k n at = cc
split-at (m ∷ lengths) zero n at = let same : m ≡ n = cc in ap (λ j. j ∷ lengths) same
split-at (m ∷ lengths) (suc k) n at = ap (λ l. m ∷ l) (split-at lengths k n at)

module _ {X : Type 0} where
  -- there are as many lists as lengths
  pub length-lists_of : (lengths : List ℕ) (items : List X) → length (lists_of lengths items) ≡ length lengths
  length-lists_of [] items = refl
  length-lists_of (n ∷ lengths) items = ap suc (length-lists_of lengths (drop n items))

  -- the lists before a place have the items before it
  pub lists-take : (k b : ℕ) (lengths : List ℕ) (items : List X) → b ≡ sum (take k lengths) → lists_of (take k lengths) (take b items) ≡ take k (lists_of lengths items)
  lists-take zero b lengths items e = refl
  lists-take (suc k) b [] items e = refl
  lists-take (suc k) b (n ∷ lengths) items e =
      let s : ℕ = sum (take k lengths) in
      let split : b ≡ n + s = e ∙ sum_by-cons (λ x. x) n (take k lengths) in
      let first : take n (take b items) ≡ take n items = take-take n b items (omega arith) in
      let rest : drop n (take b items) ≡ take s (drop n items) = ap (λ m. drop n (take m items)) split ∙ drop-take n s items in
      ap (λ l. l ∷ lists_of (take k lengths) (drop n (take b items))) first ∙ ap (λ l. take n items ∷ l) (ap (λ l. lists_of (take k lengths) l) rest ∙ lists-take k s lengths (drop n items) refl)

  -- the lists from a place on have the items from it on
  pub lists-drop : (k b : ℕ) (lengths : List ℕ) (items : List X) → b ≡ sum (take k lengths) → lists_of (drop k lengths) (drop b items) ≡ drop k (lists_of lengths items)
  lists-drop zero b lengths items e = ap (λ m. lists_of lengths (drop m items)) e
  lists-drop (suc k) b [] items e = refl
  lists-drop (suc k) b (n ∷ lengths) items e =
      let s : ℕ = sum (take k lengths) in
      let split : b ≡ n + s = e ∙ sum_by-cons (λ x. x) n (take k lengths) in
      ap (λ m. lists_of (drop k lengths) (drop m items)) split ∙ ap (λ l. lists_of (drop k lengths) l) (sym (drop-drop s n items)) ∙ lists-drop k s lengths (drop n items) refl

  -- lists, and more of them
  pub lists-append : (ns ms : List ℕ) (xs ys : List X) → sum ns ≡ length xs → lists_of (ns ++ ms) (xs ++ ys) ≡ lists_of ns xs ++ lists_of ms ys
  lists-append [] ms xs ys e = ap (λ l. lists_of ms (l ++ ys)) (nil_from_length xs (sym e))
  lists-append (n ∷ ns) ms xs ys e =
      let split : n + sum ns ≡ length xs = sym (sum_by-cons (λ x. x) n ns) ∙ e in
      let within : n ≤ length xs = omega arith in
      let rest : sum ns ≡ length (drop n xs) = omega (arith, length-drop n xs) in
      ap (λ l. l ∷ lists_of (ns ++ ms) (drop n (xs ++ ys))) (take-append-le n xs ys within) ∙ ap (λ l. take n xs ∷ l) (ap (λ l. lists_of (ns ++ ms) l) (drop-append-le n xs ys within) ∙ lists-append ns ms (drop n xs) ys rest)

  -- a list, and those after it
  pub lists-cons : (n : ℕ) (ns : List ℕ) (xs ys : List X) → n ≡ length xs → lists_of (n ∷ ns) (xs ++ ys) ≡ xs ∷ lists_of ns ys
  lists-cons n ns xs ys e = ap (λ l. l ∷ lists_of ns (drop n (xs ++ ys))) (take_at xs ys n (sym e)) ∙ ap (λ l. xs ∷ lists_of ns l) (drop_at xs ys n (sym e))

  -- where a list begins, there are as many items before it
  pub length-before : (k b : ℕ) (lengths : List ℕ) (items : List X) → sum lengths ≡ length items → b ≡ sum (take k lengths) → b ≤ length items
  length-before k b lengths items whole e = omega (arith, sum_by-take-le (λ x. x) lengths k)

  pub sum-before : (k b : ℕ) (lengths : List ℕ) (items : List X) → sum lengths ≡ length items → b ≡ sum (take k lengths) → sum (take k lengths) ≡ length (take b items)
  sum-before k b lengths items whole e = sym e ∙ sym (length-take-le b items (length-before k b lengths items whole e))

  -- a list is so many items from where it begins
  pub lists-get : (lengths : List ℕ) (items : List X) (k b n : ℕ) → b ≡ sum (take k lengths) → slice_get lengths k ≡ Some n → slice_get (lists_of lengths items) k ≡ Some (take n (drop b items))
  lists-get [] items k b n e at = cc
  lists-get (m ∷ lengths) items zero b n e at = let same : m ≡ n = cc in ap (λ j. Some (take j items)) same ∙ ap (λ j. Some (take n (drop j items))) (sym e)
  lists-get (m ∷ lengths) items (suc k) b n e at =
      let s : ℕ = sum (take k lengths) in
      let split : b ≡ m + s = e ∙ sum_by-cons (λ x. x) m (take k lengths) in
      lists-get lengths (drop m items) k s n refl at ∙ ap (λ l. Some (take n l)) (drop-drop s m items) ∙ ap (λ j. Some (take n (drop j items))) (sym split)

  -- a list put in
  pub lists-insert : (lengths : List ℕ) (items xs : List X) (k b n : ℕ) → sum lengths ≡ length items → b ≡ sum (take k lengths) → n ≡ length xs → lists_of (insert lengths k n) (take b items ++ (xs ++ drop b items)) ≡ insert (lists_of lengths items) k xs
  lists-insert lengths items xs k b n whole e same =
      lists-append (take k lengths) (n ∷ drop k lengths) (take b items) (xs ++ drop b items) (sum-before k b lengths items whole e) ∙ ap (λ l. l ++ lists_of (n ∷ drop k lengths) (xs ++ drop b items)) (lists-take k b lengths items e) ∙ ap (λ l. take k (lists_of lengths items) ++ l) (lists-cons n (drop k lengths) xs (drop b items) same ∙ ap (λ l. xs ∷ l) (lists-drop k b lengths items e))

  -- a list put over one of as many items
  pub lists-over : (lengths : List ℕ) (items xs : List X) (k b n : ℕ) → sum lengths ≡ length items → b ≡ sum (take k lengths) → slice_get lengths k ≡ Some n → n ≡ length xs → lists_of lengths (take b items ++ (xs ++ drop (b + n) items)) ≡ set (lists_of lengths items) k xs
  lists-over lengths items xs k b n whole e at same =
      let next : b + n ≡ sum (take (suc k) lengths) = omega (arith, sum-next lengths k n at) in
      let within : k < length (lists_of lengths items) = omega (arith, length-lists_of lengths items, slice_get_within lengths k n at) in
      ap (λ l. lists_of l (take b items ++ (xs ++ drop (b + n) items))) (split-at lengths k n at) ∙ lists-append (take k lengths) (n ∷ drop (suc k) lengths) (take b items) (xs ++ drop (b + n) items) (sum-before k b lengths items whole e) ∙ ap (λ l. l ++ lists_of (n ∷ drop (suc k) lengths) (xs ++ drop (b + n) items)) (lists-take k b lengths items e) ∙ ap (λ l. take k (lists_of lengths items) ++ l) (lists-cons n (drop (suc k) lengths) xs (drop (b + n) items) same ∙ ap (λ l. xs ∷ l) (lists-drop (suc k) (b + n) lengths items next)) ∙ sym (set_split (lists_of lengths items) k xs within)

  -- a list taken out
  pub lists-remove : (lengths : List ℕ) (items : List X) (k b n : ℕ) → sum lengths ≡ length items → b ≡ sum (take k lengths) → slice_get lengths k ≡ Some n → lists_of (remove lengths k) (take b items ++ drop (b + n) items) ≡ remove (lists_of lengths items) k
  lists-remove lengths items k b n whole e at =
      let next : b + n ≡ sum (take (suc k) lengths) = omega (arith, sum-next lengths k n at) in
      lists-append (take k lengths) (drop (suc k) lengths) (take b items) (drop (b + n) items) (sum-before k b lengths items whole e) ∙ ap (λ l. l ++ lists_of (drop (suc k) lengths) (drop (b + n) items)) (lists-take k b lengths items e) ∙ ap (λ l. take k (lists_of lengths items) ++ l) (lists-drop (suc k) (b + n) lengths items next)

  -- a list put where one was taken out
  pub insert-remove : (xs : List X) (k : ℕ) (y : X) → k < length xs → insert (remove xs k) k y ≡ set xs k y
  insert-remove xs k y lt =
      let front = length-take-le k xs (omega arith) in
      ap (λ l. l ++ y ∷ drop k (remove xs k)) (take_at (take k xs) (drop (suc k) xs) k front) ∙ ap (λ l. take k xs ++ y ∷ l) (drop_at (take k xs) (drop (suc k) xs) k front) ∙ sym (set_split xs k y lt)

-- lists from a place on moved before others
pub sum-moved : (k : ℕ) (ns ms : List ℕ) → sum (drop k ns ++ ms) + sum (take k ns) ≡ sum ns + sum ms
sum-moved k ns ms = omega (arith, sum_by-append (λ x. x) (drop k ns) ms, sum_by-take-drop (λ x. x) ns k)

-- so many short lists have no more than so many items
pub sum-short : (most : ℕ) (lengths : List ℕ) (count : ℕ) → All (λ n. n ≤ most) lengths → length lengths ≤ count → sum lengths ≤ count * most
sum-short most lengths count short few = grind (arith, sum_by-le (λ x. x) most lengths short)

-- lengths that are all one
sum-same : (n : ℕ) (lengths : List ℕ) (k : ℕ) → All (λ m. m ≡ n) lengths → k ≤ length lengths → sum (take k lengths) ≡ k * n
sum-same n lengths zero all le = omega arith
sum-same n [] (suc k) all le = absurd (omega arith)
sum-same n (m ∷ lengths) (suc k) all le =
    let first : m ≡ n = all 0 0 (omega arith) in
    omega (arith, sum_by-cons (λ x. x) m (take k lengths), sum-same n lengths k (λ i d lt. all (suc i) d (omega arith)) (omega arith))

pub sum-given : (given : Option ℕ) (n : ℕ) (lengths now : List ℕ) (k : ℕ) → IsLengthOfAll given lengths → given ≡ Some n → lengths ≡ now → k ≤ length now → sum (take k now) ≡ k * n
sum-given None n lengths now k all is same le = cc
sum-given (Some m) n lengths now k all is same le =
    let one : m ≡ n = cc in
    ap (λ l. sum (take k l)) (sym same) ∙ sum-same m lengths k all (omega (arith, ap length same)) ∙ ap (λ j. k * j) one
