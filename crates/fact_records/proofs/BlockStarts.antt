-- The number of facts before each block: what each change of the blocks does to it, and where a fact is found by it.
use Rattle.std.proofs.Common.{◌≡◌, ℕ, inl, inr, zero, suc, ◌+◌, ◌-◌, ◌<◌, ◌≤◌, List, [], ◌∷◌, ◌++◌, length, take, drop, get_or, set, Some, None, refl, sym, ap, ◌∙◌, add-one, arith, length-append}
use Rattle.std.specs.Prelude.{All}
use Rattle.std.specs.List.{insert, remove, slice_get}
use Rattle.std.proofs.lemmas.Bool.{cases_eq, cases_lt}
use Rattle.std.proofs.lemmas.List.{get_or-drop, get_or_default, get_or_read, length-drop, take_at}
use Rattle.std.proofs.lemmas.Option.{slice_get-get_or, slice_get_past, slice_get_read}
use Rattle.cube_model.specs.declared.edit.Fact.{Fact}
use Rattle.fact_records.specs.BlockList.{AllFilled, all_facts, block_at, place_in_all}
use Rattle.fact_records.specs.Cut.{no_fact}
use Rattle.fact_records.specs.Joining.{joined_blocks}
use Rattle.fact_records.specs.Starts.{IsRising, IsStartBefore, mapped_from, starts_from, starts_of}
use Rattle.fact_records.proofs.Flat.{flat-set, length-flat, place-end, place-more, place-rises, slice_get-flat}

-- numbers changed one by one
pub mapped_from-step : (f : ℕ → ℕ) (xs : List ℕ) (place x : ℕ) → place < length xs → x ≡ f (get_or xs place 0) → mapped_from f (place + 1) (set xs place x) ≡ mapped_from f place xs
mapped_from-step f xs place x within is = ap (λ n. mapped_from f n (set xs place x)) (add-one place) ∙ step xs place within is
  where
    step : (xs : List ℕ) (place : ℕ) → place < length xs → x ≡ f (get_or xs place 0) → mapped_from f (suc place) (set xs place x) ≡ mapped_from f place xs
    step [] place within is = absurd (omega arith)
    step (y ∷ xs) zero within is = ap (λ z. z ∷ mapped_from f 0 xs) is
    step (y ∷ xs) (suc place) within is = ap (λ l. y ∷ l) (step xs place (omega arith) is)

pub mapped_from-past : (f : ℕ → ℕ) (xs : List ℕ) (place : ℕ) → length xs ≤ place → mapped_from f place xs ≡ xs
mapped_from-past f [] place past = refl
mapped_from-past f (x ∷ xs) zero past = absurd (omega arith)
mapped_from-past f (x ∷ xs) (suc place) past = ap (λ l. x ∷ l) (mapped_from-past f xs place (omega arith))

length-mapped_from : (f : ℕ → ℕ) (place : ℕ) (xs : List ℕ) → length (mapped_from f place xs) ≡ length xs
length-mapped_from f place [] = refl
length-mapped_from f zero (x ∷ xs) = ap suc (length-mapped_from f zero xs)
length-mapped_from f (suc place) (x ∷ xs) = ap suc (length-mapped_from f place xs)

-- as the list of a vector that was written to
pub mapped_from-within : (f : ℕ → ℕ) (place count : ℕ) (xs old new : List ℕ) → old ≡ xs → length xs ≡ count → new ≡ mapped_from f place old → take count (new ++ drop (length new) xs) ≡ mapped_from f place xs
mapped_from-within f place count xs old new same whole is =
    let mapped : new ≡ mapped_from f place xs = is ∙ ap (mapped_from f place) same in
    take_at new (drop (length new) xs) count (ap length mapped ∙ length-mapped_from f place xs ∙ whole) ∙ mapped

-- what rises does not fall
pub rising_non_decreasing : (starts : List ℕ) → IsRising starts → (i j : ℕ) → i ≤ j → j < length starts → get_or starts i 0 ≤ get_or starts j 0
rising_non_decreasing starts rising i j le within = elim (cases_eq i j) [
  | inl same ↦ omega (arith, ap (λ k. get_or starts k 0) same)
  | inr other ↦ omega (arith, rising.rise i j (omega arith) within)
]

-- counted from one fact more
starts_from-more : (n m : ℕ) (used : List (List Fact)) → m ≡ n + 1 → starts_from m used ≡ mapped_from (λ start. start + 1) 0 (starts_from n used)
starts_from-more n m [] is = refl
starts_from-more n m (block ∷ used) is = rw (is, starts_from-more (n + length block) (n + 1 + length block) used (omega arith)) refl

-- and from one fewer
starts_from-fewer : (n m : ℕ) (used : List (List Fact)) → m + 1 ≡ n → starts_from m used ≡ mapped_from (λ start. start - 1) 0 (starts_from n used)
starts_from-fewer n m [] is = refl
starts_from-fewer n m (block ∷ used) is =
    let first : n - 1 ≡ m = omega arith in
    rw (first, starts_from-fewer (n + length block) (m + length block) used (omega (arith, is))) refl

-- a block with one fact more
starts_from-set_more : (n : ℕ) (used : List (List Fact)) (i : ℕ) (block : List Fact) → i < length used → length block ≡ length (block_at used i) + 1 → starts_from n (set used i block) ≡ mapped_from (λ start. start + 1) (suc i) (starts_from n used)
starts_from-set_more n [] i block within is = absurd (omega arith)
starts_from-set_more n (first ∷ used) zero block within is = ap (λ l. n ∷ l) (starts_from-more (n + length first) (n + length block) used (omega (arith, is)))
starts_from-set_more n (first ∷ used) (suc i) block within is = ap (λ l. n ∷ l) (starts_from-set_more (n + length first) used i block (omega arith) is)

-- one with a fact fewer
starts_from-set_fewer : (n : ℕ) (used : List (List Fact)) (i : ℕ) (block : List Fact) → i < length used → length block + 1 ≡ length (block_at used i) → starts_from n (set used i block) ≡ mapped_from (λ start. start - 1) (suc i) (starts_from n used)
starts_from-set_fewer n [] i block within is = absurd (omega arith)
starts_from-set_fewer n (first ∷ used) zero block within is = ap (λ l. n ∷ l) (starts_from-fewer (n + length first) (n + length block) used (omega (arith, is)))
starts_from-set_fewer n (first ∷ used) (suc i) block within is = ap (λ l. n ∷ l) (starts_from-set_fewer (n + length first) used i block (omega arith) is)

-- one with as many
starts_from-set_same : (n : ℕ) (used : List (List Fact)) (i : ℕ) (block : List Fact) → i < length used → length block ≡ length (block_at used i) → starts_from n (set used i block) ≡ starts_from n used
starts_from-set_same n [] i block within is = absurd (omega arith)
starts_from-set_same n (first ∷ used) zero block within is = rw is refl
starts_from-set_same n (first ∷ used) (suc i) block within is = ap (λ l. n ∷ l) (starts_from-set_same (n + length first) used i block (omega arith) is)

-- a block in two parts
starts_from-split : (n : ℕ) (used : List (List Fact)) (i start : ℕ) (front back : List Fact) → i < length used → length front + length back ≡ length (block_at used i) → start ≡ get_or (starts_from n used) i 0 + length front
    → starts_from n (insert (set used i front) (suc i) back) ≡ insert (starts_from n used) (suc i) start
starts_from-split n [] i start front back within parts is = absurd (omega arith)
starts_from-split n (first ∷ used) zero start front back within parts is =
    let whole : n + length front + length back ≡ n + length first = omega (arith, parts) in
    rw (whole, is) refl
starts_from-split n (first ∷ used) (suc i) start front back within parts is = ap (λ l. n ∷ l) (starts_from-split (n + length first) used i start front back (omega arith) parts is)

-- without an empty block
starts_from-remove : (n : ℕ) (used : List (List Fact)) (i : ℕ) → i < length used → block_at used i ≡ [] → starts_from n (remove used i) ≡ remove (starts_from n used) i
starts_from-remove n [] i within empty = absurd (omega arith)
starts_from-remove n (first ∷ used) zero within empty =
    let none : n + length first ≡ n = omega (arith, ap length empty) in
    rw none refl
starts_from-remove n (first ∷ used) (suc i) within empty = ap (λ l. n ∷ l) (starts_from-remove (n + length first) used i (omega arith) empty)

-- two blocks in one
starts_from-join : (n : ℕ) (used : List (List Fact)) (i : ℕ) → suc i < length used → starts_from n (remove (set used i (block_at used i ++ block_at used (suc i))) (suc i)) ≡ remove (starts_from n used) (suc i)
starts_from-join n [] i within = absurd (omega arith)
starts_from-join n (first ∷ []) i within = absurd (omega arith)
starts_from-join n (first ∷ second ∷ used) zero within =
    let whole : n + length (first ++ second) ≡ n + length first + length second = omega (arith, length-append first second) in
    rw whole refl
starts_from-join n (first ∷ second ∷ used) (suc i) within = ap (λ l. n ∷ l) (starts_from-join (n + length first) (second ∷ used) i (omega arith))

-- the facts of a block in two parts
facts-split : (used : List (List Fact)) (i : ℕ) (front back : List Fact) → i < length used → length front + length back ≡ length (block_at used i) → length (all_facts (insert (set used i front) (suc i) back)) ≡ length (all_facts used)
facts-split [] i front back within parts = absurd (omega arith)
facts-split (first ∷ used) zero front back within parts =
    omega (arith, parts, length-append front (back ++ all_facts used), length-append back (all_facts used), length-append first (all_facts used))
facts-split (first ∷ used) (suc i) front back within parts =
    omega (arith, facts-split used i front back (omega arith) parts, length-append first (all_facts (insert (set used i front) (suc i) back)), length-append first (all_facts used))

-- a block behind all
starts_from-push : (n : ℕ) (used : List (List Fact)) (block : List Fact) → starts_from n (used ++ block ∷ []) ≡ starts_from n used ++ (n + length (all_facts used)) ∷ []
starts_from-push n [] block = ap (λ m. m ∷ []) (omega arith)
starts_from-push n (first ∷ used) block =
    let all : n + length first + length (all_facts used) ≡ n + length (all_facts (first ∷ used)) = omega (arith, length-append first (all_facts used)) in
    ap (λ l. n ∷ l) (starts_from-push (n + length first) used block ∙ ap (λ m. starts_from (n + length first) used ++ m ∷ []) all)

length-starts_from : (n : ℕ) (used : List (List Fact)) → length (starts_from n used) ≡ length used
length-starts_from n [] = refl
length-starts_from n (block ∷ used) = ap suc (length-starts_from (n + length block) used)

starts_from-at : (n : ℕ) (used : List (List Fact)) (i : ℕ) → i < length used → get_or (starts_from n used) i 0 ≡ n + place_in_all used i 0
starts_from-at n [] i within = absurd (omega arith)
starts_from-at n (block ∷ used) zero within = omega arith
starts_from-at n (block ∷ used) (suc i) within = omega (arith, starts_from-at (n + length block) used i (omega arith), length-append block (all_facts (take i used)))

module _ (used : List (List Fact)) where
  pub length-starts : length (starts_of used) ≡ length used
  length-starts = length-starts_from 0 used

  pub starts-at : (i : ℕ) → i < length used → get_or (starts_of used) i 0 ≡ place_in_all used i 0
  starts-at i within = omega (arith, starts_from-at 0 used i within)

  pub starts-within : (i : ℕ) → i < length used → get_or (starts_of used) i 0 + length (block_at used i) ≤ length (all_facts used)
  starts-within i within = omega (arith, starts-at i within, length-flat used i within)

  -- as many as there are blocks
  pub length-counted : (starts : List ℕ) → starts ≡ starts_of used → length starts ≡ length used
  length-counted starts counted = ap length counted ∙ length-starts

  starts-most : (i : ℕ) → i < length used → get_or (starts_of used) i 0 ≤ length (all_facts used)
  starts-most i within = omega (arith, starts-at i within, length-flat used i within)

  -- each has room for one fact more where the facts have
  pub starts-room : (most : ℕ) → length (all_facts used) + 1 < most → All (λ start. start + 1 < most) (starts_of used)
  starts-room most few k d within = omega (arith, starts-most k (omega (arith, length-starts)), get_or_default (starts_of used) k d 0 within)

  -- there is a fact before each behind a block that has one
  pub starts-some : (i : ℕ) → i < length used → 1 ≤ length (block_at used i) → All (λ start. 1 ≤ start) (drop (i + 1) (starts_of used))
  starts-some i within some k d lt =
      let inside : i + 1 + k < length used = omega (arith, length-drop (i + 1) (starts_of used), length-starts) in
      omega (arith, get_or-drop (i + 1) (starts_of used) k d, get_or_default (starts_of used) (i + 1 + k) d 0 (omega (arith, length-starts)), starts-at (i + 1 + k) inside, place-more used i within, place-rises used (i + 1) (i + 1 + k) (omega arith))

  -- what is before the last block and in it is all
  pub starts-last : (last : ℕ) → last + 1 ≡ length used → get_or (starts_of used) last 0 + length (block_at used last) ≡ length (all_facts used)
  starts-last last is = omega (arith, starts-at last (omega arith), place-more used last (omega arith), place-end used (last + 1) (omega arith))

  -- the starts of blocks that have facts rise
  pub starts-rise : AllFilled used → IsRising (starts_of used)
  starts-rise filled = record {
    first = first_start used;
    rise = λ i j lt within.
        let in_use : j < length used = omega (arith, length-starts) in
        omega (arith, starts-at i (omega arith), starts-at j in_use, place-more used i (omega arith), (filled i [] (omega arith)).some, place-rises used (i + 1) j (omega arith));
  }
    where
      first_start : (used : List (List Fact)) → get_or (starts_of used) 0 0 ≡ 0
      first_start [] = refl
      first_start (block ∷ used) = refl

  -- the fact at a place among all is in the last block that begins no later
  pub nth-block : (i b : ℕ) → IsStartBefore (starts_of used) i b → slice_get (block_at used b) (i - get_or (starts_of used) b 0) ≡ slice_get (all_facts used) i
  nth-block i b before =
      let in_use : b < length used = omega (arith, length-starts, before.in_range) in
      let whole : place_in_all used b (i - get_or (starts_of used) b 0) ≡ i = omega (arith, starts-at b in_use, before.begun) in
      elim (cases_lt (i - get_or (starts_of used) b 0) (length (block_at used b))) [
        | inl inside ↦ slice_get-get_or (block_at used b) (i - get_or (starts_of used) b 0) no_fact inside ∙ sym (slice_get-flat used b (i - get_or (starts_of used) b 0) no_fact in_use inside) ∙ ap (slice_get (all_facts used)) whole
        | inr past ↦
            slice_get_past (block_at used b) (i - get_or (starts_of used) b 0) past
            ∙ sym (slice_get_past (all_facts used) i (past_all past))
      ]
    where
      past_all : length (block_at used b) ≤ i - get_or (starts_of used) b 0 → length (all_facts used) ≤ i
      past_all past =
          let in_use : b < length used = omega (arith, length-starts, before.in_range) in
          elim (cases_lt (b + 1) (length used)) [
            | inl more ↦ absurd (omega (arith, before.last (b + 1) (omega arith) (omega (arith, length-starts)), starts-at (b + 1) more, starts-at b in_use, place-more used b in_use, past, before.begun))
            | inr last ↦ omega (arith, starts-last b (omega arith), past, before.begun)
          ]

  -- the number of the facts after a block was written over
  pub facts-set : (i : ℕ) (block : List Fact) → i < length used → length (all_facts (set used i block)) + length (block_at used i) ≡ length (all_facts used) + length block
  facts-set i block within =
      omega (arith, length-flat used i within, ap length (flat-set used i block within), length-append (all_facts (take i used)) (block ++ all_facts (drop (suc i) used)), length-append block (all_facts (drop (suc i) used)))

  -- what is read there
  pub nth-here : (starts : List ℕ) (i b at : ℕ) (block facts : List Fact) (fact : Fact) → starts ≡ starts_of used → IsStartBefore starts i b → at ≡ i - get_or starts b 0 → b < length used → block ≡ get_or used b block → facts ≡ block → at < length facts → fact ≡ get_or facts at fact
      → Some fact ≡ slice_get (all_facts used) i
  nth-here starts i b at block facts fact counted before is_at in_use is_block is_facts inside is_fact =
      let same : facts ≡ block_at used b = is_facts ∙ get_or_read used b block in_use is_block [] in
      let place : at ≡ i - get_or (starts_of used) b 0 = is_at ∙ ap (λ l. i - get_or l b 0) counted in
      sym (slice_get_read facts (length facts) at fact refl inside is_fact) ∙ ap (λ l. slice_get l at) same ∙ ap (slice_get (block_at used b)) place ∙ nth-block i b (rw counted at before)

  pub nth-past : (starts : List ℕ) (i b at : ℕ) (block facts : List Fact) → starts ≡ starts_of used → IsStartBefore starts i b → at ≡ i - get_or starts b 0 → b < length used → block ≡ get_or used b block → facts ≡ block → length facts ≤ at → None ≡ slice_get (all_facts used) i
  nth-past starts i b at block facts counted before is_at in_use is_block is_facts past =
      let same : facts ≡ block_at used b = is_facts ∙ get_or_read used b block in_use is_block [] in
      let place : at ≡ i - get_or (starts_of used) b 0 = is_at ∙ ap (λ l. i - get_or l b 0) counted in
      sym (slice_get_past facts at past) ∙ ap (λ l. slice_get l at) same ∙ ap (slice_get (block_at used b)) place ∙ nth-block i b (rw counted at before)

  pub facts-halved : (i : ℕ) (front back : List Fact) → i < length used → length front + length back ≡ length (block_at used i) → length (all_facts (insert (set used i front) (i + 1) back)) ≡ length (all_facts used)
  facts-halved i front back within parts = ap (λ n. length (all_facts (insert (set used i front) n back))) (add-one i) ∙ facts-split used i front back within parts

  -- the starts after each change
  pub starts-inserted : (i : ℕ) (block : List Fact) → i < length used → length block ≡ length (block_at used i) + 1 → starts_of (set used i block) ≡ mapped_from (λ start. start + 1) (i + 1) (starts_of used)
  starts-inserted i block within is = starts_from-set_more 0 used i block within is ∙ ap (λ n. mapped_from (λ start. start + 1) n (starts_of used)) (sym (add-one i))

  pub starts-removed : (i : ℕ) (block : List Fact) → i < length used → length block + 1 ≡ length (block_at used i) → starts_of (set used i block) ≡ mapped_from (λ start. start - 1) (i + 1) (starts_of used)
  starts-removed i block within is = starts_from-set_fewer 0 used i block within is ∙ ap (λ n. mapped_from (λ start. start - 1) n (starts_of used)) (sym (add-one i))

  pub starts-replaced : (i : ℕ) (block : List Fact) → i < length used → length block ≡ length (block_at used i) → starts_of (set used i block) ≡ starts_of used
  starts-replaced i block within is = starts_from-set_same 0 used i block within is

  pub starts-split : (i start : ℕ) (front back : List Fact) → i < length used → length front + length back ≡ length (block_at used i) → start ≡ get_or (starts_of used) i 0 + length front
      → starts_of (insert (set used i front) (i + 1) back) ≡ insert (starts_of used) (i + 1) start
  starts-split i start front back within parts is =
      ap (λ n. starts_of (insert (set used i front) n back)) (add-one i) ∙ starts_from-split 0 used i start front back within parts is ∙ ap (λ n. insert (starts_of used) n start) (sym (add-one i))

  pub starts-retired : (i : ℕ) → i < length used → block_at used i ≡ [] → starts_of (remove used i) ≡ remove (starts_of used) i
  starts-retired i within empty = starts_from-remove 0 used i within empty

  pub starts-joined : (i : ℕ) → i + 1 < length used → starts_of (joined_blocks used i) ≡ remove (starts_of used) (i + 1)
  starts-joined i within =
      ap (λ n. starts_of (remove (set used i (block_at used i ++ block_at used n)) n)) (add-one i) ∙ starts_from-join 0 used i (omega arith) ∙ ap (remove (starts_of used)) (sym (add-one i))

  pub starts-added : (start : ℕ) → start ≡ length (all_facts used) → starts_of (used ++ [] ∷ []) ≡ starts_of used ++ start ∷ []
  starts-added start is = starts_from-push 0 used [] ∙ ap (λ m. starts_of used ++ m ∷ []) (omega (arith, is))
