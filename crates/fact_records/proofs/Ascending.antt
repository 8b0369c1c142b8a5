-- Facts whose ids ascend, and an id that stands at a place or has a gap for it: what is found, and what an edit there gives.
use Rattle.std.proofs.Common.{◌≡◌, ℕ, inl, inr, zero, suc, ◌+◌, ◌-◌, ◌<◌, ◌≤◌, false, List, ◌∷◌, ◌++◌, length, take, drop, get_or, set, Some, None, refl, sym, ap, ◌∙◌, arith, length-append, length-take, length-drop}
use Rattle.std.specs.Prelude.{nat_lt, ◌==◌, not, AllPairs}
use Rattle.std.specs.List.{filter, insert, remove}
use Rattle.std.proofs.lemmas.Bool.{cases_lt, cases_eq}
use Rattle.std.proofs.lemmas.Bool.Decides.{nat_tests}
use Rattle.std.proofs.lemmas.List.{set_split, get_or_default, get_or-take, get_or-drop, get_or_append_left, get_or-append_right}
use Rattle.std.proofs.lemmas.List.Elements.{All-from_get_or}
use Rattle.std.proofs.lemmas.List.Folds.{list_any_none}
use Rattle.std.proofs.lemmas.List.Quantifiers.{all_pairs_remove}
use Rattle.cube_model.specs.declared.edit.Fact.{Fact}
use Rattle.cube_model.specs.Facts.{has_id, put, withdraw}
use Rattle.fact_records.specs.Cut.{no_fact, id_at, IsCut, IsIdAt, IsGapAt}
use Rattle.fact_records.specs.FactList.{IsAscending, fact_of}
use Rattle.fact_records.proofs.Fronts.{filter_front, filter_back, filter_but, filter_whole, find_first, find_nowhere}

-- later ids are greater
pub id_at-rises : (facts : List Fact) → IsAscending facts → (i j : ℕ) → i < j → j < length facts → id_at facts i < id_at facts j
id_at-rises facts up i j lt in_range = up i j no_fact lt in_range

-- a greater id than the last is greater than all
pub id_at-below : (facts : List Fact) → IsAscending facts → (id p : ℕ) → p ≡ length facts - 1 → id_at facts p < id → (k : ℕ) → k < length facts → id_at facts k < id
id_at-below facts up id p last less k within = elim (cases_eq k p) [
  | inl same ↦ rw same less
  | inr other ↦ omega (arith, less, id_at-rises facts up k p (omega (arith, last, within)) (omega (arith, last, within)))
]

-- round the fact of an id, smaller ids stand before and greater ones behind
pub cut_at : (facts : List Fact) → IsAscending facts → (id p : ℕ) → IsIdAt facts id p → IsCut facts id p (suc p)
cut_at facts up id p here = record {
  smaller_before = λ k lt. omega (arith, id_at-rises facts up k p lt here.in_range, here.has_key);
  greater_after = λ k le lt. omega (arith, id_at-rises facts up p k (omega arith) lt, here.has_key);
}

-- where two lists are in order, and each element of the first is before each of the second, they are so one behind the other
all_pairs_append : {X : Type 0} (R : X → X → Type 0) (xs ys : List X) → AllPairs R xs → AllPairs R ys → ((i j : ℕ) (d : X) → i < length xs → j < length ys → R (get_or xs i d) (get_or ys j d)) → AllPairs R (xs ++ ys)
all_pairs_append R xs ys left right across i j d lt in_range =
    let total = length-append xs ys in
    elim (cases_lt j (length xs)) [
      | inl j_left ↦
          let i_left : i < length xs = omega arith in
          rw (get_or_append_left xs ys d i i_left, get_or_append_left xs ys d j j_left) (left i j d lt j_left)
      | inr j_right ↦
          elim (cases_lt i (length xs)) [
            | inl i_left ↦ rw (get_or_append_left xs ys d i i_left, get_or-append_right xs ys (length xs) j d refl j_right) (across i (j - length xs) d i_left (omega arith))
            | inr i_right ↦ rw (get_or-append_right xs ys (length xs) i d refl i_right, get_or-append_right xs ys (length xs) j d refl j_right) (right (i - length xs) (j - length xs) d (omega arith) (omega arith))
          ]
    ]

back_ascends : (facts : List Fact) → IsAscending facts → (fact : Fact) (low high : ℕ) → IsCut facts fact.id low high → IsAscending (fact ∷ drop high facts)
back_ascends facts up fact low high cut i zero d lt in_range = absurd (omega arith)
back_ascends facts up fact low high cut zero (suc j) d lt in_range =
    let back_len = length-drop high facts in
    let inside : high + j < length facts = omega arith in
    rw (get_or-drop high facts j d, get_or_default facts (high + j) d no_fact inside) (cut.greater_after (high + j) (omega arith) inside)
back_ascends facts up fact low high cut (suc i) (suc j) d lt in_range =
    let back_len = length-drop high facts in
    rw (get_or-drop high facts i d, get_or-drop high facts j d) (up (high + i) (high + j) d (omega arith) (omega arith))

front_before_back : (facts : List Fact) → IsAscending facts → (fact : Fact) (low high : ℕ) → low ≤ high → IsCut facts fact.id low high → (i j : ℕ) (d : Fact) → i < length (take low facts) → j < length (fact ∷ drop high facts) → (get_or (take low facts) i d).id < (get_or (fact ∷ drop high facts) j d).id
front_before_back facts up fact low high le cut i zero d i_in j_in =
    let front_len = length-take low facts in
    let inside : i < length facts = omega arith in
    rw (get_or-take low facts i d (omega arith), get_or_default facts i d no_fact inside) (cut.smaller_before i (omega arith))
front_before_back facts up fact low high le cut i (suc j) d i_in j_in =
    let front_len = length-take low facts in
    let back_len = length-drop high facts in
    rw (get_or-take low facts i d (omega arith), get_or-drop high facts j d) (up i (high + j) d (omega arith) (omega arith))

-- a fact between the smaller ids and the greater ones is in order
ascending-around : (facts : List Fact) → IsAscending facts → (fact : Fact) (low high : ℕ) → low ≤ high → IsCut facts fact.id low high → IsAscending (take low facts ++ fact ∷ drop high facts)
ascending-around facts up fact low high le cut =
    let front_len = length-take low facts in
    let back_len = length-drop high facts in
    let front : IsAscending (take low facts) = λ i j d lt in_range. rw (get_or-take low facts i d (omega arith), get_or-take low facts j d (omega arith)) (up i j d lt (omega arith)) in
    let back : IsAscending (fact ∷ drop high facts) = back_ascends facts up fact low high cut in
    all_pairs_append (λ f g. f.id < g.id) (take low facts) (fact ∷ drop high facts) front back (front_before_back facts up fact low high le cut)

-- a place is before another, at it, or behind it
before_at_behind : (k p : ℕ) (P : Type 0) → (k < p → P) → (k ≡ p → P) → (p < k → P) → P
before_at_behind k p P before at behind =
    elim (cases_lt k p) [ inl lt ↦ before lt | inr le ↦ elim (cases_eq k p) [ inl same ↦ at same | inr other ↦ behind (omega arith) ] ]

-- an id that has a fact
module _ (facts : List Fact) (up : IsAscending facts) (id p : ℕ) (here : IsIdAt facts id p) where
  smaller_passes : (k : ℕ) → k < p → id_at facts k < id
  smaller_passes = (cut_at facts up id p here).smaller_before

  greater_passes : (k : ℕ) → p < k → k < length facts → id < id_at facts k
  greater_passes k lt in_range = (cut_at facts up id p here).greater_after k (omega arith) in_range

  same_at : (k : ℕ) → k ≡ p → id_at facts k ≡ id
  same_at k same = ap (id_at facts) same ∙ here.has_key

  filter_smaller-at : filter (λ f. nat_lt f.id id) facts ≡ take p facts
  filter_smaller-at = filter_front (λ f. nat_lt f.id id) no_fact facts p
      (λ k lt in_range. grind (arith, nat_tests, smaller_passes k lt))
      (λ k le in_range. before_at_behind k p _ (λ lt. absurd (omega arith)) (λ same. grind (arith, nat_tests, same_at k same)) (λ lt. grind (arith, nat_tests, greater_passes k lt in_range)))

  filter_greater-at : filter (λ f. nat_lt id f.id) facts ≡ drop (suc p) facts
  filter_greater-at = filter_back (λ f. nat_lt id f.id) no_fact facts (suc p)
      (λ k lt in_range. before_at_behind k p _ (λ less. grind (arith, nat_tests, smaller_passes k less)) (λ same. grind (arith, nat_tests, same_at k same)) (λ more. absurd (omega arith)))
      (λ k le in_range. grind (arith, nat_tests, greater_passes k (omega arith) in_range))

  pub withdraw_at : withdraw id facts ≡ remove facts p
  withdraw_at = filter_but (λ f. not (f.id == id)) no_fact facts p
      (λ k lt in_range. grind (arith, nat_tests, smaller_passes k lt))
      (λ lt. grind (arith, nat_tests, here.has_key))
      (λ k lt in_range. grind (arith, nat_tests, greater_passes k lt in_range))

  pub fact_of_at : fact_of id facts ≡ Some (get_or facts p no_fact)
  fact_of_at = find_first (λ f. f.id == id) no_fact facts p here.in_range
      (λ k lt. grind (arith, nat_tests, smaller_passes k lt))
      (grind (arith, nat_tests, here.has_key))

  pub put_at : (fact : Fact) → fact.id ≡ id → put fact facts ≡ set facts p fact
  put_at fact same =
      let smaller : filter (λ f. nat_lt f.id fact.id) facts ≡ take p facts = rw same filter_smaller-at in
      let greater : filter (λ f. nat_lt fact.id f.id) facts ≡ drop (suc p) facts = rw same filter_greater-at in
      ap (λ l. l ++ fact ∷ filter (λ f. nat_lt fact.id f.id) facts) smaller ∙ ap (λ l. take p facts ++ fact ∷ l) greater ∙ sym (set_split facts p fact here.in_range)

  pub ascending-set : (fact : Fact) → fact.id ≡ id → IsAscending (set facts p fact)
  ascending-set fact same =
      rw (set_split facts p fact here.in_range)
      (ascending-around facts up fact p (suc p) (omega arith) (rw (← same) at (cut_at facts up id p here)))

-- round a gap
cut_of_gap : (facts : List Fact) (id p : ℕ) → IsGapAt facts id p → IsCut facts id p p
cut_of_gap facts id p gap = record { smaller_before = gap.smaller_before; greater_after = gap.greater_after }

-- an id that has a gap
module _ (facts : List Fact) (id p : ℕ) (gap : IsGapAt facts id p) where
  pub other_everywhere : (k : ℕ) → k < length facts → (id_at facts k == id) ≡ false
  other_everywhere k in_range =
      elim (cases_lt k p) [ inl lt ↦ grind (arith, nat_tests, gap.smaller_before k lt) | inr le ↦ grind (arith, nat_tests, gap.greater_after k le in_range) ]

  filter_smaller-gap : filter (λ f. nat_lt f.id id) facts ≡ take p facts
  filter_smaller-gap = filter_front (λ f. nat_lt f.id id) no_fact facts p
      (λ k lt in_range. grind (arith, nat_tests, gap.smaller_before k lt))
      (λ k le in_range. grind (arith, nat_tests, gap.greater_after k le in_range))

  filter_greater-gap : filter (λ f. nat_lt id f.id) facts ≡ drop p facts
  filter_greater-gap = filter_back (λ f. nat_lt id f.id) no_fact facts p
      (λ k lt in_range. grind (arith, nat_tests, gap.smaller_before k lt))
      (λ k le in_range. grind (arith, nat_tests, gap.greater_after k le in_range))

  pub withdraw_gap : withdraw id facts ≡ facts
  withdraw_gap = filter_whole (λ f. not (f.id == id)) no_fact facts (λ k in_range. ap not (other_everywhere k in_range))

  pub fact_of_gap : fact_of id facts ≡ None
  fact_of_gap = find_nowhere (λ f. f.id == id) no_fact facts other_everywhere

  pub has_id_gap : has_id id facts ≡ false
  has_id_gap = list_any_none (λ f. f.id == id) facts (All-from_get_or (λ f. (f.id == id) ≡ false) facts no_fact other_everywhere)

  pub put_gap : (fact : Fact) → fact.id ≡ id → put fact facts ≡ insert facts p fact
  put_gap fact same =
      let smaller : filter (λ f. nat_lt f.id fact.id) facts ≡ take p facts = rw same filter_smaller-gap in
      let greater : filter (λ f. nat_lt fact.id f.id) facts ≡ drop p facts = rw same filter_greater-gap in
      ap (λ l. l ++ fact ∷ filter (λ f. nat_lt fact.id f.id) facts) smaller ∙ ap (λ l. take p facts ++ fact ∷ l) greater

  pub ascending-insert : IsAscending facts → (fact : Fact) → fact.id ≡ id → IsAscending (insert facts p fact)
  ascending-insert up fact same = ascending-around facts up fact p p (omega arith) (rw (← same) at (cut_of_gap facts id p gap))

pub ascending-remove : (facts : List Fact) → IsAscending facts → (p : ℕ) → p < length facts → IsAscending (remove facts p)
ascending-remove facts up p in_range = all_pairs_remove (λ f g. f.id < g.id) facts p in_range up
