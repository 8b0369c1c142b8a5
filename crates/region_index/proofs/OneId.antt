-- One id taken out of ids that ascend, or put among them.
use Rattle.std.proofs.Common.{◌≡◌, ℕ, zero, suc, ◌+◌, ◌<◌, Bool, true, false, List, [], ◌∷◌, length, get_or, filter, not, refl, sym, ap, ◌∙◌, arith}
use Rattle.std.specs.Prelude.{◌==◌, ◌&&◌, ◌||◌, nat_lt, Option, Some, Result, Ok, Err}
use Rattle.std.specs.Option.{option_to_list}
use Rattle.std.specs.List.{insert, remove}
use Rattle.std.specs.List.Sorted.{IsBinarySearchResult, IsSearchInRange}
use Rattle.std.specs.Ordering.{nat_cmp}
use Rattle.std.proofs.lemmas.Bool.Decides.{nat_tests}
use Rattle.cube_base.specs.Search.{IsKeyGap}
use Rattle.cube_base.proofs.Search.{Searched, searched}
use Rattle.cube_model.specs.Ascending.{ascends_from}
use Rattle.cube_model.specs.Cells.{is_among}
use Rattle.cube_model.proofs.Ascending.{ascends_cons, ascends_filter, ascends_first, ascends_later, not_among_lower, same_members}
use Rattle.region_index.specs.Changes.{with_id}
use Rattle.region_index.specs.Content.{AreAscending}
use Rattle.region_index.proofs.Ascent.{filters-above, is_among-searched}
use Rattle.region_index.proofs.Changing.{among-filter, among-with_id, ascends-parts}

-- what a binary search for an id tells
found-at : (ids : List ℕ) (id : ℕ) (r : Result ℕ ℕ) → AreAscending ids → IsSearchInRange r (length ids) → IsBinarySearchResult (λ x. nat_cmp x id) ids r → Searched (λ x. x) 0 ids id r
found-at ids id r ascends in_range is = searched (λ x. x) 0 ids (λ i j before within. ascends_later (λ x. x) 0 ids ascends i j 0 0 before within) id r in_range is

-- where an id is not there, nothing is taken away
others-stay : (ids : List ℕ) (id : ℕ) → is_among ids id ≡ false → filter (λ other. not (other == id)) ids ≡ ids
others-stay [] id absent = refl
others-stay (other ∷ ids) id absent =
    let differs : (other == id) ≡ false = grind (arith, absent) in
    rw (differs, others-stay ids id (grind (arith, absent))) refl

-- where it stands, it alone is taken away
removed-is : (least i : ℕ) (ids : List ℕ) (id : ℕ) → ascends_from (λ x. x) least ids ≡ true → i < length ids → get_or ids i 0 ≡ id → remove ids i ≡ filter (λ other. not (other == id)) ids
removed-is least i [] id ascends within here = absurd (omega arith)
removed-is least zero (first ∷ ids) id ascends within here =
    let same : (first == id) ≡ true = grind (arith, nat_tests, here) in
    rw same (sym (others-stay ids id (not_among_lower (first + 1) id ids (ascends_first (λ x. x) least first ids ascends).others (omega (arith, here)))))
removed-is least (suc i) (first ∷ ids) id ascends within here =
    let above : first < get_or ids i 0 = ascends_later (λ x. x) least (first ∷ ids) ascends 0 (suc i) 0 0 (omega arith) within in
    let differs : (first == id) ≡ false = grind (arith, nat_tests, above, here) in
    rw differs (ap (λ others. first ∷ others) (removed-is (first + 1) i ids id (ascends_first (λ x. x) least first ids ascends).others (omega arith) here))

-- an id in the gap for it stands between the smaller ones and the greater ones
inserted-is : (least at : ℕ) (ids : List ℕ) (id : ℕ) → ascends_from (λ x. x) least ids ≡ true → IsKeyGap (λ x. x) 0 ids id at → insert ids at id ≡ with_id id ids
inserted-is least zero [] id ascends gap = refl
inserted-is least (suc at) [] id ascends gap = refl
inserted-is least zero (first ∷ ids) id ascends gap =
    let less : id < first = gap.greater_after 0 (omega arith) (omega arith) in
    let own : ascends_from (λ x. x) first (first ∷ ids) ≡ true = ascends_cons (λ x. x) first first ids (record { from = omega arith; others = (ascends_first (λ x. x) least first ids ascends).others }) in
    let parts = filters-above first id (first ∷ ids) less own in
    rw (parts.0, parts.1) refl
inserted-is least (suc at) (first ∷ ids) id ascends gap =
    let less : nat_lt first id ≡ true = grind (arith, nat_tests, gap.smaller_before 0 (omega arith)) in
    let not_greater : nat_lt id first ≡ false = grind (arith, nat_tests, gap.smaller_before 0 (omega arith)) in
    rw (less, not_greater) (ap (λ others. first ∷ others) (inserted-is (first + 1) at ids id (ascends_first (λ x. x) least first ids ascends).others (record {
      in_range = omega (arith, gap.in_range);
      smaller_before = λ i before. gap.smaller_before (suc i) (omega arith);
      greater_after = λ i from within. gap.greater_after (suc i) (omega arith) (omega arith);
    })))

-- an id that is there is put in vain
with_id-present : (ids : List ℕ) (id : ℕ) → AreAscending ids → is_among ids id ≡ true → with_id id ids ≡ ids
with_id-present ids id ascends there =
    same_members 0 0 (with_id id ids) ids (ascends-parts 0 id ids ascends (omega arith)) ascends (λ other. among-with_id id ids other ∙ either other (id == other) refl)
  where
    either : (other : ℕ) (b : Bool) → (id == other) ≡ b → (b || is_among ids other) ≡ is_among ids other
    either other true is =
        let same : id ≡ other = grind (arith, nat_tests, is) in
        sym (sym (ap (is_among ids) same) ∙ there)
    either other false is = refl

-- what is taken out where it was found, and where it was not
pub taken-out : (ids seen after : List ℕ) (id at : ℕ) → seen ≡ ids → AreAscending ids → IsSearchInRange (Ok at) (length seen) → IsBinarySearchResult (λ x. nat_cmp x id) seen (Ok at) → after ≡ remove ids at
    → after ≡ filter (λ other. not (other == id)) ids
taken-out ids seen after id at same ascends in_range found is =
    let here = (found-at ids id (Ok at) ascends (rw same at in_range) (rw same at found)).found in
    is ∙ removed-is 0 at ids id ascends here.in_range here.has_key

pub not-taken : (ids seen : List ℕ) (id at : ℕ) → seen ≡ ids → AreAscending ids → IsSearchInRange (Err at) (length seen) → IsBinarySearchResult (λ x. nat_cmp x id) seen (Err at)
    → ids ≡ filter (λ other. not (other == id)) ids
not-taken ids seen id at same ascends in_range found =
    sym (others-stay ids id (sym (is_among-searched ids id (Err at) ascends (rw same at in_range) (rw same at found))))

-- and what is put in where it has a gap, and where it stands
pub put-in : (ids seen after : List ℕ) (id at : ℕ) → seen ≡ ids → AreAscending ids → IsSearchInRange (Err at) (length seen) → IsBinarySearchResult (λ x. nat_cmp x id) seen (Err at) → after ≡ insert ids at id
    → after ≡ with_id id ids
put-in ids seen after id at same ascends in_range found is =
    is ∙ inserted-is 0 at ids id ascends (found-at ids id (Err at) ascends (rw same at in_range) (rw same at found)).absent

pub not-put : (ids seen : List ℕ) (id at : ℕ) → seen ≡ ids → AreAscending ids → IsSearchInRange (Ok at) (length seen) → IsBinarySearchResult (λ x. nat_cmp x id) seen (Ok at) → ids ≡ with_id id ids
not-put ids seen id at same ascends in_range found =
    sym (with_id-present ids id ascends (sym (is_among-searched ids id (Ok at) ascends (rw same at in_range) (rw same at found))))

-- what is there once an id that there may be is taken out
pub among-taken : (ids after : List ℕ) (one : Option ℕ) (id : ℕ) → one ≡ Some id → after ≡ filter (λ other. not (other == id)) ids
    → (other : ℕ) → is_among after other ≡ (is_among ids other && not (is_among (option_to_list one) other))
among-taken ids after one id some is other =
    let turned : (other == id) ≡ (id == other) = grind (arith, nat_tests) in
    rw (some, is) (among-filter (λ other. not (other == id)) ids other ∙ rw turned (either (id == other) (is_among ids other)))
  where
    either : (a b : Bool) → (not a && b) ≡ (b && not (a || false))
    either a b = grind arith

pub ascends-taken : (ids after : List ℕ) (id : ℕ) → AreAscending ids → after ≡ filter (λ other. not (other == id)) ids → AreAscending after
ascends-taken ids after id ascends is = rw is (ascends_filter (λ x. x) (λ other. not (other == id)) 0 ids ascends)

-- and once one is put in
pub among-put : (ids after : List ℕ) (one : Option ℕ) (id : ℕ) → one ≡ Some id → after ≡ with_id id ids → (other : ℕ) → is_among after other ≡ (is_among (option_to_list one) other || is_among ids other)
among-put ids after one id some is other = rw (some, is) (among-with_id id ids other ∙ either (id == other) (is_among ids other))
  where
    either : (a b : Bool) → (a || b) ≡ ((a || false) || b)
    either a b = grind arith

pub ascends-put : (ids after : List ℕ) (id : ℕ) → AreAscending ids → after ≡ with_id id ids → AreAscending after
ascends-put ids after id ascends is = rw is (ascends-parts 0 id ids ascends (omega arith))
