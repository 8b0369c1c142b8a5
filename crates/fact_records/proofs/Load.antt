-- The load of blocks, and what each change of them does to it.
use Rattle.std.proofs.Common.{◌≡◌, ℕ, zero, suc, ◌+◌, ◌-◌, ◌<◌, ◌≤◌, List, [], ◌∷◌, ◌++◌, length, take, drop, set, ap, ◌∙◌, arith, add-one, length-append}
use Rattle.std.specs.List.{remove}
use Rattle.std.proofs.lemmas.List.{append-nil, set_split, take_all}
use Rattle.std.proofs.lemmas.List.Concat.{flat_map-append}
use Rattle.cube_model.specs.declared.edit.Fact.{Fact}
use Rattle.fact_records.specs.declared.block.TheConstants.{BLOCK}
use Rattle.fact_records.specs.declared.blocks.TheConstants.{HALF}
use Rattle.fact_records.specs.BlockList.{all_facts, block_at, load}
use Rattle.fact_records.proofs.Flat.{split_at}

-- what blocks have above a half
abbrev pub excess : List (List Fact) → ℕ
excess [] = 0
excess (block ∷ used) = (length block - HALF) + excess used

-- the blocks before one count by what they have above a half
pub load-behind : (front : List (List Fact)) (block : List Fact) (rest : List (List Fact)) → load (front ++ block ∷ rest) ≡ excess front + load (block ∷ rest)
load-behind [] block rest = omega arith
load-behind (first ∷ []) block rest = omega arith
load-behind (first ∷ second ∷ front) block rest = omega (arith, load-behind (second ∷ front) block rest)

-- a block with one more fact weighs at most one more, and one with no more facts no more
load_more : (old new : List Fact) (rest : List (List Fact)) → length new ≤ length old + 1 → load (new ∷ rest) ≤ load (old ∷ rest) + 1
load_more old new [] le = omega arith
load_more old new (next ∷ rest) le = omega arith

load_less : (old new : List Fact) (rest : List (List Fact)) → length new ≤ length old → load (new ∷ rest) ≤ load (old ∷ rest)
load_less old new [] le = omega arith
load_less old new (next ∷ rest) le = omega arith

-- blocks of which the last counts as a block before others
load_last : (used : List (List Fact)) → load used ≤ excess used + HALF
load_last [] = omega arith
load_last (block ∷ []) = omega arith
load_last (block ∷ next ∷ used) = omega (arith, load_last (next ∷ used))

-- an empty block before others weighs nothing, and without it the last may count more by a half
pub load_without : (front rest : List (List Fact)) → load (front ++ rest) ≤ load (front ++ [] ∷ rest) + HALF
load_without front [] = omega (arith, ap load (append-nil front), load-behind front [] [], load_last front)
load_without front (next ∷ rest) = omega (arith, load-behind front next rest, load-behind front [] (next ∷ rest))

-- behind a full block, a new one takes a half of the load away
pub load_behind_full : (used : List (List Fact)) (i : ℕ) → i + 1 ≡ length used → length (block_at used i) ≡ BLOCK → excess used + HALF ≤ load used
load_behind_full [] i last full = absurd (omega arith)
load_behind_full (block ∷ []) zero last full = omega arith
load_behind_full (block ∷ []) (suc i) last full = absurd (omega arith)
load_behind_full (block ∷ next ∷ used) zero last full = absurd (omega arith)
load_behind_full (block ∷ next ∷ used) (suc i) last full = omega (arith, load_behind_full (next ∷ used) i (omega arith) full)

-- so does a full block split in halves
pub load_halves : (full front back : List Fact) (rest : List (List Fact)) → length full ≡ BLOCK → length front ≡ HALF → length back ≡ HALF → load (front ∷ back ∷ rest) + HALF ≤ load (full ∷ rest)
load_halves full front back [] all first second = omega arith
load_halves full front back (next ∷ rest) all first second = omega arith

-- two blocks with few facts in one: where the last was one of them, it may count more by a half
pub load_joined : (front back : List Fact) (rest : List (List Fact)) → length front + length back ≤ HALF → load ((front ++ back) ∷ rest) ≤ load (front ∷ back ∷ rest) + HALF
load_joined front back [] few = omega (arith, length-append front back)
load_joined front back (next ∷ rest) few = omega (arith, length-append front back)

-- the load at a block, and after another was written over it
load-at : (used : List (List Fact)) (i : ℕ) → i < length used → load used ≡ excess (take i used) + load (block_at used i ∷ drop (suc i) used)
load-at used i lt = ap load (split_at used i lt) ∙ load-behind (take i used) (block_at used i) (drop (suc i) used)

load-set : (used : List (List Fact)) (i : ℕ) (block : List Fact) → i < length used → load (set used i block) ≡ excess (take i used) + load (block ∷ drop (suc i) used)
load-set used i block lt = ap load (set_split used i block lt) ∙ load-behind (take i used) block (drop (suc i) used)

pub load_set_more : (used : List (List Fact)) (i : ℕ) (block : List Fact) → i < length used → length block ≤ length (block_at used i) + 1 → load (set used i block) ≤ load used + 1
load_set_more used i block lt le = omega (arith, load-at used i lt, load-set used i block lt, load_more (block_at used i) block (drop (suc i) used) le)

pub load_set_less : (used : List (List Fact)) (i : ℕ) (block : List Fact) → i < length used → length block ≤ length (block_at used i) → load (set used i block) ≤ load used
load_set_less used i block lt le = omega (arith, load-at used i lt, load-set used i block lt, load_less (block_at used i) block (drop (suc i) used) le)

-- the load after an empty block was taken away
pub load_remove : (used : List (List Fact)) (i : ℕ) → i < length used → block_at used i ≡ [] → load (remove used i) ≤ load used + HALF
load_remove used i lt empty =
    let same : load used ≡ load (take i used ++ [] ∷ drop (suc i) used) = ap load (split_at used i lt) ∙ ap (λ b. load (take i used ++ b ∷ drop (suc i) used)) empty in
    omega (arith, same, load_without (take i used) (drop (suc i) used))

-- the load after a full block was split in halves, in the form of the edits that do it
pub load_split : (used : List (List Fact)) (i : ℕ) (front back : List Fact) → i < length used → length (block_at used i) ≡ BLOCK → length front ≡ HALF → length back ≡ HALF → load (take i used ++ front ∷ back ∷ drop (suc i) used) + HALF ≤ load used
load_split used i front back lt full first second =
    omega (arith, load-at used i lt, load-behind (take i used) front (back ∷ drop (suc i) used), load_halves (block_at used i) front back (drop (suc i) used) full first second)

-- the load after an empty block was put behind a full one that was the last
pub load_push : (used : List (List Fact)) (i : ℕ) → i + 1 ≡ length used → length (block_at used i) ≡ BLOCK → load (used ++ [] ∷ []) + HALF ≤ load used
load_push used i last full = omega (arith, load-behind used [] [], load_behind_full used i last full)

-- the load added up block by block
pub excess_more : (used : List (List Fact)) (i : ℕ) → i < length used → excess (take (i + 1) used) ≡ excess (take i used) + (length (block_at used i) - HALF)
excess_more used i lt = ap (λ n. excess (take n used)) (add-one i) ∙ excess-suc used i lt
  where
    excess-suc : (used : List (List Fact)) (i : ℕ) → i < length used → excess (take (suc i) used) ≡ excess (take i used) + (length (block_at used i) - HALF)
    excess-suc [] i lt = absurd (omega arith)
    excess-suc (block ∷ used) zero lt = omega arith
    excess-suc (block ∷ used) (suc i) lt = omega (arith, excess-suc used i (omega arith))

-- blocks have no more above a half than they have
excess_most : (used : List (List Fact)) (i : ℕ) → excess (take i used) ≤ length (all_facts used)
excess_most [] zero = omega arith
excess_most [] (suc i) = omega arith
excess_most (block ∷ used) zero = omega arith
excess_most (block ∷ used) (suc i) = omega (arith, excess_most used i, length-append block (all_facts used))

-- the sum is no greater than the number of facts
pub excess_fits : (used others : List (List Fact)) (last : List Fact) (i : ℕ) → used ≡ others ++ last ∷ [] → length last + excess (take i others) ≤ length (all_facts used)
excess_fits used others last i parts =
    omega (arith, ap (λ l. length (all_facts l)) parts, ap length (flat_map-append (λ block. block) others (last ∷ [])), length-append (all_facts others) (last ++ []), length-append last [], excess_most others i)

-- at the end it is the load
pub excess_all : (used others : List (List Fact)) (last : List Fact) (i : ℕ) → used ≡ others ++ last ∷ [] → length others ≤ i → length last + excess (take i others) ≡ load used
excess_all used others last i parts le =
    omega (arith, ap load parts, load-behind others last [], ap excess (take_all i others le))
