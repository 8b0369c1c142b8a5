-- Two blocks next to each other that are leveled.
use Rattle.std.proofs.Common.{◌≡◌, ℕ, zero, suc, ◌+◌, ◌-◌, ◌/◌, ◌<◌, ◌≤◌, List, [], ◌∷◌, ◌++◌, length, take, drop, get_or, set, refl, sym, ap, ◌∙◌, arith, add-one, add-zero, append_assoc, length-append, length-set}
use Rattle.std.proofs.lemmas.List.{get_or-drop, get_or-take, get_or_at, get_or_default, get_or_read, length-drop, length-take-le, take-append-drop, take_at}
use Rattle.std.proofs.lemmas.List.Concat.{flat_map-append}
use Rattle.std.proofs.Math.Seq.{drop-append-add, take-append-add}
use Rattle.cube_model.specs.declared.edit.Fact.{Fact}
use Rattle.fact_records.specs.declared.block.TheConstants.{BLOCK}
use Rattle.fact_records.specs.declared.blocks.TheConstants.{HALF}
use Rattle.fact_records.specs.BlockList.{all_facts, block_at, load}
use Rattle.fact_records.specs.Leveling.{first_half, leveled, second_half}
use Rattle.fact_records.specs.Starts.{starts_from, starts_of}
use Rattle.fact_records.proofs.BlockStarts.{starts-at}
use Rattle.fact_records.proofs.Load.{load-behind}

-- where the half is past the first block
module _ (front back : List Fact) (there other : ℕ) (first : there ≡ length front) (second : other ≡ length back) (past : there < (there + other) / 2) where
  half : length front + ((there + other) / 2 - there) ≡ (length front + length back) / 2
  half =
      let same : (there + other) / 2 ≡ (length front + length back) / 2 = rw (first, second) refl in
      omega (arith, same, first, past)

  pub first_past : (new : List Fact) → new ≡ front ++ take ((there + other) / 2 - there) back → new ≡ first_half front back
  first_past new is = is ∙ sym (take-append-add front back ((there + other) / 2 - there)) ∙ ap (λ n. take n (front ++ back)) half

  pub second_past : (new : List Fact) → new ≡ drop ((there + other) / 2 - there) back → new ≡ second_half front back
  second_past new is = is ∙ sym (drop-append-add front back ((there + other) / 2 - there)) ∙ ap (λ n. drop n (front ++ back)) half

module _ (front back : List Fact) where
  pub both_halves : first_half front back ++ second_half front back ≡ front ++ back
  both_halves = take-append-drop ((length front + length back) / 2) (front ++ back)

  pub length-first_half : length (first_half front back) ≡ (length front + length back) / 2
  length-first_half = length-take-le ((length front + length back) / 2) (front ++ back) (omega (arith, length-append front back))

  pub length-second_half : length (second_half front back) ≡ length front + length back - (length front + length back) / 2
  length-second_half = omega (arith, length-drop ((length front + length back) / 2) (front ++ back), length-append front back)

-- a block of the front, and the first behind it
set_both : (used : List (List Fact)) (i : ℕ) (front back : List Fact) → suc i < length used → set (take (suc i) used) i front ++ set (drop (suc i) used) 0 back ≡ set (set used i front) (suc i) back
set_both [] i front back lt = absurd (omega arith)
set_both (block ∷ []) i front back lt = absurd (omega arith)
set_both (block ∷ next ∷ used) zero front back lt = refl
set_both (block ∷ next ∷ used) (suc i) front back lt = ap (λ l. block ∷ l) (set_both (next ∷ used) i front back (omega arith))

pub leveled_by : (used fronts backs : List (List Fact)) (i : ℕ) (d e front back : List Fact) → i + 1 < length used → fronts ≡ take (i + 1) used → backs ≡ drop (i + 1) used
    → front ≡ first_half (get_or fronts i d) (get_or backs 0 e) → back ≡ second_half (get_or fronts i d) (get_or backs 0 e) → set fronts i front ++ set backs 0 back ≡ leveled used i
leveled_by used fronts backs i d e front back lt fronts_are backs_are first second =
    let one : get_or fronts i d ≡ block_at used i = ap (λ l. get_or l i d) fronts_are ∙ get_or-take (i + 1) used i d (omega arith) ∙ get_or_default used i d [] (omega arith) in
    let two : get_or backs 0 e ≡ block_at used (i + 1) = ap (λ l. get_or l 0 e) backs_are ∙ get_or-drop (i + 1) used 0 e ∙ ap (λ n. get_or used n e) (add-zero (i + 1)) ∙ get_or_default used (i + 1) e [] lt in
    let front_is : front ≡ first_half (block_at used i) (block_at used (i + 1)) = first ∙ ap (λ a. first_half a (get_or backs 0 e)) one ∙ ap (first_half (block_at used i)) two in
    let back_is : back ≡ second_half (block_at used i) (block_at used (i + 1)) = second ∙ ap (λ a. second_half a (get_or backs 0 e)) one ∙ ap (second_half (block_at used i)) two in
    ap (λ l. set l i front ++ set backs 0 back) fronts_are ∙ ap (λ l. set (take (i + 1) used) i front ++ set l 0 back) backs_are
    ∙ ap (λ n. set (take n used) i front ++ set (drop n used) 0 back) (add-one i) ∙ set_both used i front back (omega arith) ∙ ap (λ n. set (set used i front) n back) (sym (add-one i))
    ∙ ap (λ l. set (set used i l) (i + 1) back) front_is ∙ ap (λ l. set (set used i (first_half (block_at used i) (block_at used (i + 1)))) (i + 1) l) back_is

-- two blocks between those before and those behind
two_at : (used : List (List Fact)) (i : ℕ) → suc i < length used → used ≡ take i used ++ block_at used i ∷ block_at used (suc i) ∷ drop (suc (suc i)) used
two_at [] i lt = absurd (omega arith)
two_at (block ∷ []) i lt = absurd (omega arith)
two_at (block ∷ next ∷ used) zero lt = refl
two_at (block ∷ next ∷ used) (suc i) lt = ap (λ l. block ∷ l) (two_at (next ∷ used) i (omega arith))

set_two : (used : List (List Fact)) (i : ℕ) (front back : List Fact) → suc i < length used → set (set used i front) (suc i) back ≡ take i used ++ front ∷ back ∷ drop (suc (suc i)) used
set_two [] i front back lt = absurd (omega arith)
set_two (block ∷ []) i front back lt = absurd (omega arith)
set_two (block ∷ next ∷ used) zero front back lt = refl
set_two (block ∷ next ∷ used) (suc i) front back lt = ap (λ l. block ∷ l) (set_two (next ∷ used) i front back (omega arith))

-- the number of facts before the second of them
starts_from-two : (n : ℕ) (used : List (List Fact)) (i : ℕ) (front back : List Fact) → suc i < length used → length front + length back ≡ length (block_at used i) + length (block_at used (suc i))
    → starts_from n (set (set used i front) (suc i) back) ≡ set (starts_from n used) (suc i) (get_or (starts_from n used) i 0 + length front)
starts_from-two n [] i front back lt same = absurd (omega arith)
starts_from-two n (block ∷ []) i front back lt same = absurd (omega arith)
starts_from-two n (block ∷ next ∷ used) zero front back lt same = ap (λ m. n ∷ (n + length front) ∷ starts_from m used) (omega (arith, same))
starts_from-two n (block ∷ next ∷ used) (suc i) front back lt same = ap (λ l. n ∷ l) (starts_from-two (n + length block) (next ∷ used) i front back (omega arith) same)

-- the load of two blocks of which each has a half of a block, or more, is the least
load-halves : (front back front' back' : List Fact) (rest : List (List Fact)) → length front' + length back' ≡ length front + length back → HALF ≤ length front' → HALF ≤ length back' → load (front' ∷ back' ∷ rest) ≤ load (front ∷ back ∷ rest)
load-halves front back front' back' [] same first second = omega arith
load-halves front back front' back' (next ∷ rest) same first second = omega arith

module _ (used : List (List Fact)) (i : ℕ) (lt : i + 1 < length used) where
  abbrev front : List Fact
  front = block_at used i

  abbrev back : List Fact
  back = block_at used (i + 1)

  pub leveled-apart : leveled used i ≡ take i used ++ first_half front back ∷ second_half front back ∷ drop (suc (suc i)) used
  leveled-apart = ap (λ n. set (set used i (first_half front back)) n (second_half front back)) (add-one i) ∙ set_two used i (first_half front back) (second_half front back) (omega arith)

  used-apart : used ≡ take i used ++ front ∷ back ∷ drop (suc (suc i)) used
  used-apart = two_at used i (omega arith) ∙ ap (λ n. take i used ++ front ∷ block_at used n ∷ drop (suc (suc i)) used) (sym (add-one i))

  facts-apart : (one two : List Fact) → all_facts (take i used ++ one ∷ two ∷ drop (suc (suc i)) used) ≡ all_facts (take i used) ++ ((one ++ two) ++ all_facts (drop (suc (suc i)) used))
  facts-apart one two =
      flat_map-append (λ x. x) (take i used) (one ∷ two ∷ drop (suc (suc i)) used) ∙ ap (λ l. all_facts (take i used) ++ l) (sym (append_assoc one two (all_facts (drop (suc (suc i)) used))))

  -- the facts stay
  pub all_facts-leveled : all_facts (leveled used i) ≡ all_facts used
  all_facts-leveled =
      ap all_facts leveled-apart ∙ facts-apart (first_half front back) (second_half front back) ∙ ap (λ l. all_facts (take i used) ++ (l ++ all_facts (drop (suc (suc i)) used))) (both_halves front back)
      ∙ sym (facts-apart front back) ∙ ap all_facts (sym used-apart)

  -- the second block begins behind the first
  pub starts-leveled : starts_of (leveled used i) ≡ set (starts_of used) (i + 1) (get_or (starts_of used) i 0 + length (first_half front back))
  starts-leveled =
      let same : length (first_half front back) + length (second_half front back) ≡ length front + length (block_at used (suc i)) =
      omega (arith, length-first_half front back, length-second_half front back, ap (λ n. length (block_at used n)) (add-one i)) in
      ap (λ n. starts_of (set (set used i (first_half front back)) n (second_half front back))) (add-one i)
      ∙ starts_from-two 0 used i (first_half front back) (second_half front back) (omega arith) same
      ∙ ap (λ n. set (starts_of used) n (get_or (starts_of used) i 0 + length (first_half front back))) (sym (add-one i))

  -- the load does not rise
  pub load-leveled : BLOCK ≤ length front + length back → load (leveled used i) ≤ load used
  load-leveled many =
      let first = length-first_half front back in
      let second = length-second_half front back in
      omega (
        arith,
        ap load leveled-apart,
        load-behind (take i used) (first_half front back) (second_half front back ∷ drop (suc (suc i)) used),
        ap load used-apart,
        load-behind (take i used) front (back ∷ drop (suc (suc i)) used),
        load-halves front back (first_half front back) (second_half front back) (drop (suc (suc i)) used) (omega (arith, first, second)) (omega (arith, first, many)) (omega (arith, second, many)),
      )

  pub starts-fit : get_or (starts_of used) i 0 + length (first_half front back) ≤ length (all_facts used)
  starts-fit =
      let rest = all_facts (drop (suc (suc i)) used) in
      omega (
        arith,
        starts-at used i (omega arith),
        ap length (ap all_facts used-apart ∙ facts-apart front back),
        length-append (all_facts (take i used)) ((front ++ back) ++ rest),
        length-append (front ++ back) rest,
        length-append front back,
        length-first_half front back,
      )

  pub length-leveled : length (leveled used i) ≡ length used
  length-leveled = length-set (set used i (first_half front back)) (i + 1) (second_half front back) ∙ length-set used i (first_half front back)

  -- the block is its first half afterwards
  pub leveled-first : block_at (leveled used i) i ≡ first_half front back
  leveled-first = ap (λ l. get_or l i []) leveled-apart ∙ get_or_at (take i used) (first_half front back) (second_half front back ∷ drop (suc (suc i)) used) [] i (length-take-le i used (omega arith))

  -- as the list of a vector that was written to
  pub leveled-within : (count : ℕ) (new : List (List Fact)) → new ≡ leveled used i → length used ≡ count → take count (new ++ drop (length new) used) ≡ leveled used i
  leveled-within count new is whole = take_at new (drop (length new) used) count (ap length is ∙ length-leveled ∙ whole) ∙ is

  -- what is read there
  pub leveled-read : (items : List (List Fact)) (read : List Fact) → items ≡ leveled used i → read ≡ get_or items i read → read ≡ first_half front back
  leveled-read items read is at = get_or_read items i read (omega (arith, ap length is, length-leveled)) at [] ∙ ap (λ l. get_or l i []) is ∙ leveled-first
