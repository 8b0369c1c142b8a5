-- Where facts and ids stand in blocks, and what a search there finds.
use Rattle.std.proofs.Common.{◌≡◌, ℕ, inl, inr, ◌+◌, ◌-◌, ◌<◌, ◌≤◌, List, [], length, get_or, Some, refl, sym, ap, ◌∙◌, arith}
use Rattle.std.specs.declared.cmp.Ordering.TheVariants.{Less, Equal, Greater}
use Rattle.std.specs.List.{slice_get}
use Rattle.std.specs.List.Sorted.{IsNonDecreasingBy, IsPartitionPoint}
use Rattle.std.specs.Ordering.{nat_cmp, ordering_index}
use Rattle.std.proofs.lemmas.Bool.{cases_lt, cases_eq}
use Rattle.std.proofs.lemmas.Cmp.{ranked}
use Rattle.std.proofs.lemmas.List.{get_or_read}
use Rattle.cube_base.proofs.Search.{comparisons_rise}
use Rattle.cube_model.specs.declared.edit.Fact.{Fact}
use Rattle.fact_records.specs.BlockList.{AllFilled, IsAtPlace, all_facts, block_at, place_in_all}
use Rattle.fact_records.specs.Cut.{no_fact, id_at, IsCut, IsIdAt, IsGapAt}
use Rattle.fact_records.specs.FactList.{IsAscending}
use Rattle.fact_records.proofs.Ascending.{id_at-rises}
use Rattle.fact_records.proofs.Flat.{get_or-flat, length-flat, slice_get-flat, place-more, place-rises, place-end}

-- what is read at a place of a block is what all facts have at its place
pub read_at : (used : List (List Fact)) (i k : ℕ) (block facts : List Fact) (fact : Fact) → IsAtPlace used i k → block ≡ get_or used i block → facts ≡ block → fact ≡ get_or facts k fact → slice_get (all_facts used) (place_in_all used i k) ≡ Some fact
read_at used i k block facts fact at is_block is_facts is_fact =
    let same : facts ≡ block_at used i = is_facts ∙ get_or_read used i block at.block is_block [] in
    slice_get-flat used i k fact at.block at.at ∙ ap Some (sym (is_fact ∙ ap (λ l. get_or l k fact) same))

-- ids do not fall
ids_rise : (facts : List Fact) → IsAscending facts → (i j : ℕ) → i ≤ j → j < length facts → id_at facts i ≤ id_at facts j
ids_rise facts up i j le in_range =
    elim (cases_eq i j) [ inl same ↦ omega (arith, ap (id_at facts) same) | inr other ↦ omega (arith, id_at-rises facts up i j (omega arith) in_range) ]

module _ (used : List (List Fact)) (up : IsAscending (all_facts used)) where
  -- an id in a block is that at its place among all
  pub id_in_block : (i k : ℕ) → i < length used → k < length (block_at used i) → id_at (all_facts used) (place_in_all used i k) ≡ id_at (block_at used i) k
  id_in_block i k lt le = ap (λ f. f.id) (get_or-flat used i k no_fact lt le)

  place_below : (i k : ℕ) → i < length used → k < length (block_at used i) → place_in_all used i k < length (all_facts used)
  place_below i k lt le = omega (arith, length-flat used i lt)

  -- the facts of a block ascend
  pub block_ascends : (i : ℕ) → i < length used → IsAscending (block_at used i)
  block_ascends i lt j k d less in_range =
      rw (← get_or-flat used i j d lt (omega arith), ← get_or-flat used i k d lt in_range) (up (place_in_all used i j) (place_in_all used i k) d (omega arith) (place_below i k lt in_range))

  -- an id that stands in a block stands among all
  pub id_at_in_all : (id i k : ℕ) → i < length used → IsIdAt (block_at used i) id k → IsIdAt (all_facts used) id (place_in_all used i k)
  id_at_in_all id i k lt here = record { in_range = place_below i k lt here.in_range; has_key = id_in_block i k lt here.in_range ∙ here.has_key }

  -- a gap in the block round which the ids are parted is a gap among all
  pub gap_at_in_all : (id i k : ℕ) → i < length used → IsCut (all_facts used) id (place_in_all used i 0) (place_in_all used (i + 1) 0) → IsGapAt (block_at used i) id k → IsGapAt (all_facts used) id (place_in_all used i k)
  gap_at_in_all id i k lt cut gap =
      let begin : ℕ = place_in_all used i 0 in
      record {
        in_range = omega (arith, length-flat used i lt, gap.in_range);
        smaller_before = λ n less. elim (cases_lt n (place_in_all used i 0)) [
          | inl before ↦ cut.smaller_before n before
          | inr inside ↦ smaller_inside n (n - place_in_all used i 0) (omega arith) (omega arith)
        ];
        greater_after = λ n le in_range. elim (cases_lt n (place_in_all used (i + 1) 0)) [
          | inl inside ↦ greater_inside n (n - place_in_all used i 0) (omega arith) (omega arith) (omega (arith, place-more used i lt, inside))
          | inr behind ↦ cut.greater_after n behind in_range
        ];
      }
    where
      smaller_inside : (n j : ℕ) → n ≡ place_in_all used i j → j < k → id_at (all_facts used) n < id
      smaller_inside n j same less = rw same (rw (id_in_block i j lt (omega (arith, gap.in_range))) (gap.smaller_before j less))

      greater_inside : (n j : ℕ) → n ≡ place_in_all used i j → k ≤ j → j < length (block_at used i) → id < id_at (all_facts used) n
      greater_inside n j same le less = rw same (rw (id_in_block i j lt less) (gap.greater_after j le less))

  module _ (filled : AllFilled used) where
    -- the first ids of the blocks
    first_id_is : (i : ℕ) → i < length used → id_at (all_facts used) (place_in_all used i 0) ≡ id_at (block_at used i) 0
    first_id_is i lt = id_in_block i 0 lt (omega (arith, (filled i [] lt).some))

    first_ids_rise : (i j : ℕ) → i ≤ j → j < length used → id_at (block_at used i) 0 ≤ id_at (block_at used j) 0
    first_ids_rise i j le in_range =
        let filled_j = (filled j [] in_range).some in
        let rise = ids_rise (all_facts used) up (place_in_all used i 0) (place_in_all used j 0) (place-rises used i j le) (place_below j 0 in_range (omega arith)) in
        omega (arith, rise, first_id_is i (omega arith), first_id_is j in_range)

    -- so a binary search among them is possible
    first_comparisons_rise : (id : ℕ) → IsNonDecreasingBy (λ block. ordering_index (nat_cmp (id_at block 0) id)) used
    first_comparisons_rise = comparisons_rise (λ block. id_at block 0) [] used first_ids_rise

    -- blocks up to a place begin with no greater id, and those behind with a greater one
    record IsParted (id n : ℕ) : Type 0 where
      front : (i : ℕ) → i < n → i < length used → id_at (block_at used i) 0 ≤ id
      back : (i : ℕ) → n ≤ i → i < length used → id < id_at (block_at used i) 0

    -- round the last block whose first id is not greater, the ids are parted
    cut_behind : (id b n : ℕ) → n ≡ b + 1 → b < length used → IsParted id n → IsCut (all_facts used) id (place_in_all used b 0) (place_in_all used (b + 1) 0)
    cut_behind id b n next in_use point = record {
      smaller_before = λ k lt.
          omega (arith, point.front b (omega arith) in_use, first_id_is b in_use, id_at-rises (all_facts used) up k (place_in_all used b 0) lt (place_below b 0 in_use (omega (arith, (filled b [] in_use).some))));
      greater_after = λ k from in_range.
          let same : place_in_all used n 0 ≡ place_in_all used (b + 1) 0 = ap (λ j. place_in_all used j 0) next in
          elim (cases_lt n (length used)) [
            | inl inside ↦ omega (arith, point.back n (omega arith) inside, first_id_is n inside, ids_rise (all_facts used) up (place_in_all used n 0) k (omega arith) in_range)
            | inr behind ↦ absurd (omega (arith, place-end used n behind))
          ];
    }

    -- round the first block they are, if its first id is greater
    cut_first : (id b n : ℕ) → n ≡ 0 → b ≡ 0 → 0 < length used → IsParted id n → IsCut (all_facts used) id (place_in_all used b 0) (place_in_all used (b + 1) 0)
    cut_first id b n none front some point =
        let begin : place_in_all used b 0 ≡ 0 = ap (λ j. place_in_all used j 0) front in
        record {
          smaller_before = λ k lt. absurd (omega arith);
          greater_after = λ k from in_range. omega (arith, point.back 0 (omega arith) some, first_id_is 0 some, ids_rise (all_facts used) up 0 k (omega arith) in_range);
        }

    -- the block that begins with the id
    pub cut_found : (id b : ℕ) → b < length used → nat_cmp (id_at (block_at used b) 0) id ≡ Equal → IsCut (all_facts used) id (place_in_all used b 0) (place_in_all used (b + 1) 0)
    cut_found id b in_use equal =
        let same : id_at (block_at used b) 0 ≡ id = ranked _ id _ (sym equal) in
        cut_behind id b (b + 1) refl in_use (record {
          front = λ i lt in_range. omega (arith, same, first_ids_rise i b (omega arith) in_use);
          back = λ i le in_range. omega (arith, same, first_id_is b in_use, first_id_is i in_range, id_at-rises (all_facts used) up (place_in_all used b 0) (place_in_all used i 0) (omega (arith, place-more used b in_use, (filled b [] in_use).some, place-rises used (b + 1) i le)) (place_below i 0 in_range (omega (arith, (filled i [] in_range).some))));
        })

    -- the last block, which begins with a smaller id
    pub cut_last : (id b : ℕ) → b + 1 ≡ length used → id_at (block_at used b) 0 < id → IsCut (all_facts used) id (place_in_all used b 0) (place_in_all used (b + 1) 0)
    cut_last id b last less =
        cut_behind id b (b + 1) refl (omega (arith, last)) (record {
          front = λ i lt in_range. omega (arith, less, first_ids_rise i b (omega arith) (omega (arith, last)));
          back = λ i from in_range. absurd (omega (arith, last, from, in_range));
        })

    -- the block before the one that would begin with the id
    pub cut_absent : (id n b : ℕ) → b ≡ n - 1 → n ≤ length used → 0 < length used → (IsNonDecreasingBy (λ block. ordering_index (nat_cmp (id_at block 0) id)) used → IsPartitionPoint (λ block. nat_cmp (id_at block 0) id ≡ Less) (λ block. nat_cmp (id_at block 0) id ≡ Greater) used n) → IsCut (all_facts used) id (place_in_all used b 0) (place_in_all used (b + 1) 0)
    cut_absent id n b before le some search =
        let point = search (first_comparisons_rise id) in
        let parted : IsParted id n = record {
          front = λ i lt in_range. (let less : id_at (block_at used i) 0 < id = ranked _ id _ (sym (point.0 i [] (omega arith) lt)) in omega arith);
          back = λ i from in_range. ranked _ id _ (sym (point.1 i [] from in_range));
        } in
        elim (cases_eq n 0) [ inl none ↦ cut_first id b n none (omega arith) some parted | inr behind ↦ cut_behind id b n (omega arith) (omega arith) parted ]
