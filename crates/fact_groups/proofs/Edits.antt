-- Facts after an edit: what they add up to, which there are, and their order.
use Rattle.std.proofs.Common.{◌≡◌, ℕ, suc, ◌+◌, ◌<◌, Bool, true, false, List, [], ◌∷◌, ◌++◌, length, refl, ap, sym, ◌∙◌, arith, ℤ, pos, ◌+ℤ◌}
use Rattle.std.specs.Prelude.{All, AllPairs, IfSome, Option, Some, None, filter, find, not, nat_lt, ◌==◌, if◌then◌else◌, is_some}
use Rattle.std.specs.List.{sum_by}
use Rattle.std.specs.Option.{option_map_or, option_or, option_to_list}
use Rattle.std.proofs.lemmas.Bool.Decides.{nat_tests}
use Rattle.std.proofs.lemmas.Int.{ints}
use Rattle.std.proofs.lemmas.List.Elements.{All-append, All-cons, All-filter, All-weaker, filter_passes}
use Rattle.std.proofs.lemmas.List.Filters.{sum_by-filter_both}
use Rattle.std.proofs.lemmas.List.Folds.{find-append}
use Rattle.std.proofs.lemmas.List.Sums.{length-filter, sum_by-append, sum_by-cons}
use Rattle.cube_model.specs.declared.edit.Fact.{Fact}
use Rattle.cube_model.specs.declared.edit.Edit.{Edit}
use Rattle.cube_model.specs.declared.edit.Edit.TheVariants.{Put, Change, Withdraw}
use Rattle.cube_model.specs.Answer.{total_by}
use Rattle.cube_model.specs.Ascending.{ascends_from}
use Rattle.cube_model.specs.Facts.{after, has_id, put, withdraw}
use Rattle.cube_model.proofs.Ascending.{ascends_filter}
use Rattle.cube_model.proofs.Totals.{total_by-append, total_by-either}
use Rattle.fact_groups.specs.Edits.{edited_id, given, taken}
use Rattle.fact_groups.proofs.Ascending.{ascends-append, ascends-from_pairs, ascends-raised, pairs-first, pairs-from_ascends, pairs-rest}
use Rattle.fact_groups.proofs.Filters.{filter-within}
use Rattle.fact_groups.proofs.Partition.{sum_by-either, sum_by-ones, total_by-filter}

abbrev pub smaller : ℕ → List Fact → List Fact
smaller id facts = filter (λ f. nat_lt f.id id) facts

abbrev same : ℕ → List Fact → List Fact
same id facts = filter (λ f. f.id == id) facts

abbrev pub greater : ℕ → List Fact → List Fact
greater id facts = filter (λ f. nat_lt id f.id) facts

-- a change puts its fact over the one of its id, as a put does
pub put-withdraw : (fact : Fact) (facts : List Fact) → put fact (withdraw fact.id facts) ≡ put fact facts
put-withdraw fact facts =
    let below = filter-within {X = Fact} (λ f. nat_lt f.id fact.id) (λ f. not (f.id == fact.id)) facts (λ f is. grind (arith, nat_tests)) in
    let above = filter-within {X = Fact} (λ f. nat_lt fact.id f.id) (λ f. not (f.id == fact.id)) facts (λ f is. grind (arith, nat_tests)) in
    ap (λ fs. fs ++ fact ∷ greater fact.id (withdraw fact.id facts)) below ∙ ap (λ fs. smaller fact.id facts ++ fact ∷ fs) above

-- of facts in order of their ids, those of an id are the one that is found, if one is
same-none : (id : ℕ) (facts : List Fact) → All (λ f. id < f.id) facts → same id facts ≡ []
same-none id [] above = refl
same-none id (fact ∷ facts) above =
    let here : id < fact.id = above 0 fact (omega arith) in
    let rest = same-none id facts (λ k d within. above (suc k) d (omega arith)) in
    let other : (fact.id == id) ≡ false = grind (arith, nat_tests) in
    rw other rest

pub same-found : (id : ℕ) (facts : List Fact) → AllPairs (λ f g. f.id < g.id) facts → same id facts ≡ option_to_list (find (λ f. f.id == id) facts)
same-found id [] up = refl
same-found id (fact ∷ facts) up = either (fact.id == id) refl (same-found id facts (pairs-rest (λ f g. f.id < g.id) fact facts up))
  where
    either : (b : Bool) → (fact.id == id) ≡ b → same id facts ≡ option_to_list (find (λ f. f.id == id) facts) → same id (fact ∷ facts) ≡ option_to_list (find (λ f. f.id == id) (fact ∷ facts))
    either true is rest =
        let its : fact.id ≡ id = grind (arith, nat_tests) in
        let none = same-none id facts (All-weaker (λ f. fact.id < f.id) (λ f. id < f.id) (λ f above. omega (arith, above, its)) facts (pairs-first (λ f g. f.id < g.id) fact facts up)) in
        rw is (ap (λ fs. fact ∷ fs) none)
    either false is rest = rw is rest

-- sums over the smaller, the same and the greater ids
module _ (f : Fact → ℕ) where
  sum-three_ways : (id : ℕ) (facts : List Fact) → sum_by f (smaller id facts) + sum_by f (same id facts) + sum_by f (greater id facts) ≡ sum_by f facts
  sum-three_ways id [] = omega arith
  sum-three_ways id (fact ∷ facts) =
      let one : (n v : ℕ) → (if nat_lt n id then v else 0) + (if n == id then v else 0) + (if nat_lt id n then v else 0) ≡ v = λ n v. grind (arith, nat_tests) in
      omega (
        arith,
        sum_by-either (nat_lt fact.id id) f fact (smaller id facts),
        sum_by-either (fact.id == id) f fact (same id facts),
        sum_by-either (nat_lt id fact.id) f fact (greater id facts),
        one fact.id (f fact),
        sum_by-cons f fact facts,
        sum-three_ways id facts,
      )

  sum-put : (fact : Fact) (facts : List Fact) → sum_by f (put fact facts) + sum_by f (same fact.id facts) ≡ sum_by f facts + f fact
  sum-put fact facts =
      omega (arith, sum_by-append f (smaller fact.id facts) (fact ∷ greater fact.id facts), sum_by-cons f fact (greater fact.id facts), sum-three_ways fact.id facts)

  sum-found : (found : Option Fact) → sum_by f (option_to_list found) ≡ option_map_or f found 0
  sum-found None = refl
  sum-found (Some fact) = omega arith

  sum-same : (id : ℕ) (facts : List Fact) → AllPairs (λ f g. f.id < g.id) facts → sum_by f (same id facts) ≡ option_map_or f (find (λ f. f.id == id) facts) 0
  sum-same id facts up = ap (sum_by f) (same-found id facts up) ∙ sum-found (find (λ f. f.id == id) facts)

  -- what an edit does to a sum
  pub sum-after : (edit : Edit) (facts : List Fact) → AllPairs (λ f g. f.id < g.id) facts → sum_by f (after edit facts) + option_map_or f (taken edit facts) 0 ≡ sum_by f facts + option_map_or f (given edit) 0
  sum-after (Put fact) facts up = omega (arith, sum-put fact facts, sum-same fact.id facts up)
  sum-after (Change fact) facts up = omega (arith, ap (sum_by f) (put-withdraw fact facts), sum-put fact facts, sum-same fact.id facts up)
  sum-after (Withdraw id) facts up = omega (arith, sum_by-filter_both (λ f. f.id == id) (λ f. not (f.id == id)) (λ f. refl) f facts, sum-same id facts up)

-- the same of whole numbers
module _ (f : Fact → ℤ) where
  total-three_ways : (id : ℕ) (facts : List Fact) → total_by f (smaller id facts) +ℤ total_by f (same id facts) +ℤ total_by f (greater id facts) ≡ total_by f facts
  total-three_ways id [] = refl
  total-three_ways id (fact ∷ facts) =
      let one : (n : ℕ) (v : ℤ) → (if nat_lt n id then v else pos 0) +ℤ (if n == id then v else pos 0) +ℤ (if nat_lt id n then v else pos 0) ≡ v = split id in
      let below = total_by-either (nat_lt fact.id id) f fact (smaller id facts) in
      let here = total_by-either (fact.id == id) f fact (same id facts) in
      let above = total_by-either (nat_lt id fact.id) f fact (greater id facts) in
      let its = one fact.id (f fact) in
      let others = total-three_ways id facts in
      omega (arith, ints, below, here, above, its, others)
    where
      pick : (a b c : Bool) (v : ℤ) → (if a then 1 else 0) + (if b then 1 else 0) + (if c then 1 else 0) ≡ 1 → (if a then v else pos 0) +ℤ (if b then v else pos 0) +ℤ (if c then v else pos 0) ≡ v
      pick true true c v one = absurd (omega (arith, one))
      pick true false true v one = absurd (omega (arith, one))
      pick true false false v one = omega (arith, ints)
      pick false true true v one = absurd (omega (arith, one))
      pick false true false v one = omega (arith, ints)
      pick false false true v one = omega (arith, ints)
      pick false false false v one = absurd (omega (arith, one))

      split : (id n : ℕ) (v : ℤ) → (if nat_lt n id then v else pos 0) +ℤ (if n == id then v else pos 0) +ℤ (if nat_lt id n then v else pos 0) ≡ v
      split id n v = pick (nat_lt n id) (n == id) (nat_lt id n) v (grind (arith, nat_tests))

  total-put : (fact : Fact) (facts : List Fact) → total_by f (put fact facts) +ℤ total_by f (same fact.id facts) ≡ total_by f facts +ℤ f fact
  total-put fact facts =
      let parts = total_by-append f (smaller fact.id facts) (fact ∷ greater fact.id facts) in
      let ways = total-three_ways fact.id facts in
      omega (arith, ints, parts, ways)

  total-either_way : (id : ℕ) (facts : List Fact) → total_by f (withdraw id facts) +ℤ total_by f (same id facts) ≡ total_by f facts
  total-either_way id [] = refl
  total-either_way id (fact ∷ facts) =
      let left = total_by-either (not (fact.id == id)) f fact (withdraw id facts) in
      let here = total_by-either (fact.id == id) f fact (same id facts) in
      let one = pick (fact.id == id) (f fact) in
      let others = total-either_way id facts in
      omega (arith, ints, left, here, one, others)
    where
      pick : (b : Bool) (v : ℤ) → (if not b then v else pos 0) +ℤ (if b then v else pos 0) ≡ v
      pick true v = omega (arith, ints)
      pick false v = omega (arith, ints)

  total-found : (found : Option Fact) → total_by f (option_to_list found) ≡ option_map_or f found (pos 0)
  total-found None = refl
  total-found (Some fact) = omega (arith, ints)

  total-same : (id : ℕ) (facts : List Fact) → AllPairs (λ f g. f.id < g.id) facts → total_by f (same id facts) ≡ option_map_or f (find (λ f. f.id == id) facts) (pos 0)
  total-same id facts up = ap (total_by f) (same-found id facts up) ∙ total-found (find (λ f. f.id == id) facts)

  pub total-after : (edit : Edit) (facts : List Fact) → AllPairs (λ f g. f.id < g.id) facts
      → total_by f (after edit facts) +ℤ option_map_or f (taken edit facts) (pos 0) ≡ total_by f facts +ℤ option_map_or f (given edit) (pos 0)
  total-after (Put fact) facts up = let all = total-put fact facts in let one = total-same fact.id facts up in omega (arith, ints, all, one)
  total-after (Change fact) facts up =
      let over = ap (total_by f) (put-withdraw fact facts) in
      let all = total-put fact facts in
      let one = total-same fact.id facts up in
      omega (arith, ints, over, all, one)
  total-after (Withdraw id) facts up = let all = total-either_way id facts in let one = total-same id facts up in omega (arith, ints, all, one)

-- the fact of an id, among those whose ids pass a test
find-filter : (p : ℕ → Bool) (id : ℕ) (facts : List Fact) → find (λ f. f.id == id) (filter (λ f. p f.id) facts) ≡ (if p id then find (λ f. f.id == id) facts else None)
find-filter p id [] = either (p id)
  where
    either : (b : Bool) → ◌≡◌ {A = Option Fact} None (if b then None else None)
    either true = refl
    either false = refl
find-filter p id (fact ∷ facts) = either (fact.id == id) (p fact.id) (p id) refl refl refl (find-filter p id facts)
  where
    either : (a b c : Bool) → (fact.id == id) ≡ a → p fact.id ≡ b → p id ≡ c
        → find (λ f. f.id == id) (filter (λ f. p f.id) facts) ≡ (if c then find (λ f. f.id == id) facts else None)
        → find (λ f. f.id == id) (filter (λ f. p f.id) (fact ∷ facts)) ≡ (if c then find (λ f. f.id == id) (fact ∷ facts) else None)
    either true b c is passes may rest =
        let its : fact.id ≡ id = grind (arith, nat_tests) in
        let alike : b ≡ c = sym passes ∙ ap p its ∙ may in
        both b c alike is passes rest
      where
        both : (b c : Bool) → b ≡ c → (fact.id == id) ≡ true → p fact.id ≡ b
            → find (λ f. f.id == id) (filter (λ f. p f.id) facts) ≡ (if c then find (λ f. f.id == id) facts else None)
            → find (λ f. f.id == id) (filter (λ f. p f.id) (fact ∷ facts)) ≡ (if c then find (λ f. f.id == id) (fact ∷ facts) else None)
        both true true alike is passes rest = rw (passes, is) refl
        both true false alike is passes rest = cc
        both false true alike is passes rest = cc
        both false false alike is passes rest = rw passes rest
    either false true true is passes may rest = rw (passes, is) rest
    either false true false is passes may rest = rw (passes, is) rest
    either false false true is passes may rest = rw (passes, is) rest
    either false false false is passes may rest = rw passes rest

find-put : (fact : Fact) (facts : List Fact) (id : ℕ) → find (λ f. f.id == id) (put fact facts) ≡ (if fact.id == id then Some fact else find (λ f. f.id == id) facts)
find-put fact facts id =
    find-append (λ (f : Fact). f.id == id) (smaller fact.id facts) (fact ∷ greater fact.id facts)
    ∙ ap (λ o. option_or o (find (λ f. f.id == id) (fact ∷ greater fact.id facts))) (find-filter (λ n. nat_lt n fact.id) id facts)
    ∙ ap (λ o. option_or (if nat_lt id fact.id then find (λ f. f.id == id) facts else None) (if fact.id == id then Some fact else o)) (find-filter (λ n. nat_lt fact.id n) id facts)
    ∙ pick (nat_lt id fact.id) (fact.id == id) (nat_lt fact.id id) (find (λ f. f.id == id) facts) (grind (arith, nat_tests))
  where
    found : (o : Option Fact) → option_or o None ≡ o
    found None = refl
    found (Some f) = refl

    pick : (a b c : Bool) (o : Option Fact) → (if a then 1 else 0) + (if b then 1 else 0) + (if c then 1 else 0) ≡ 1
        → option_or (if a then o else None) (if b then Some fact else (if c then o else None)) ≡ (if b then Some fact else o)
    pick true true c o one = absurd (omega (arith, one))
    pick true false true o one = absurd (omega (arith, one))
    pick true false false o one = found o
    pick false true c o one = refl
    pick false false true o one = refl
    pick false false false o one = absurd (omega (arith, one))

-- the fact of an id after an edit
pub find-after : (edit : Edit) (facts : List Fact) (id : ℕ) → find (λ f. f.id == id) (after edit facts) ≡ (if edited_id edit == id then given edit else find (λ f. f.id == id) facts)
find-after (Put fact) facts id = find-put fact facts id
find-after (Change fact) facts id = ap (find (λ f. f.id == id)) (put-withdraw fact facts) ∙ find-put fact facts id
find-after (Withdraw i) facts id = find-filter (λ n. not (n == i)) id facts ∙ turned (id == i) (i == id) (grind (arith, nat_tests))
  where
    turned : (a b : Bool) → a ≡ b → (if not a then find (λ f. f.id == id) facts else None) ≡ (if b then None else find (λ f. f.id == id) facts)
    turned true true is = refl
    turned true false is = cc
    turned false true is = cc
    turned false false is = refl

-- an id is there where its fact is found
there-found : (id : ℕ) (facts : List Fact) → has_id id facts ≡ is_some (find (λ f. f.id == id) facts)
there-found id [] = refl
there-found id (fact ∷ facts) = either (fact.id == id) refl (there-found id facts)
  where
    either : (b : Bool) → (fact.id == id) ≡ b → has_id id facts ≡ is_some (find (λ f. f.id == id) facts) → has_id id (fact ∷ facts) ≡ is_some (find (λ f. f.id == id) (fact ∷ facts))
    either true is rest = rw is refl
    either false is rest = rw is rest

pub there-after : (edit : Edit) (facts : List Fact) (id : ℕ) → has_id id (after edit facts) ≡ (if edited_id edit == id then is_some (given edit) else has_id id facts)
there-after edit facts id =
    there-found id (after edit facts) ∙ ap is_some (find-after edit facts id) ∙ either (edited_id edit == id) ∙ ap (λ (b : Bool). if edited_id edit == id then is_some (given edit) else b) (sym (there-found id facts))
  where
    either : (b : Bool) → is_some (if b then given edit else find (λ f. f.id == id) facts) ≡ (if b then is_some (given edit) else is_some (find (λ f. f.id == id) facts))
    either true = refl
    either false = refl

-- what holds of each fact and of the one that is given holds of each afterwards
All-put : (P : Fact → Type 0) (fact : Fact) (facts : List Fact) → All P facts → P fact → All P (put fact facts)
All-put P fact facts each here =
    All-append P (smaller fact.id facts) (fact ∷ greater fact.id facts) (All-filter (λ f. nat_lt f.id fact.id) P facts each)
    (All-cons P fact (greater fact.id facts) here (All-filter (λ f. nat_lt fact.id f.id) P facts each))

pub All-after : (P : Fact → Type 0) (edit : Edit) (facts : List Fact) → All P facts → IfSome (given edit) P → All P (after edit facts)
All-after P (Put fact) facts each here = All-put P fact facts each here
All-after P (Change fact) facts each here = rw (put-withdraw fact facts) (All-put P fact facts each here)
All-after P (Withdraw id) facts each here = All-filter (λ f. not (f.id == id)) P facts each

-- facts stay in order
ascends-put : (fact : Fact) (facts : List Fact) → ascends_from (λ f. f.id) 0 facts ≡ true → ascends_from (λ f. f.id) 0 (put fact facts) ≡ true
ascends-put fact facts up =
    ascends-append (λ (f : Fact). f.id) 0 (smaller fact.id facts) fact (greater fact.id facts)
    (ascends_filter (λ (f : Fact). f.id) (λ f. nat_lt f.id fact.id) 0 facts up)
    (λ k d within. grind (arith, nat_tests, filter_passes (λ (f : Fact). nat_lt f.id fact.id) facts k d within))
    (omega arith)
    (ascends-raised (λ (f : Fact). f.id) 0 (fact.id + 1) (greater fact.id facts) (ascends_filter (λ (f : Fact). f.id) (λ f. nat_lt fact.id f.id) 0 facts up)
    (λ k d within. grind (arith, nat_tests, filter_passes (λ (f : Fact). nat_lt fact.id f.id) facts k d within)))

pub pairs-after : (edit : Edit) (facts : List Fact) → AllPairs (λ f g. f.id < g.id) facts → AllPairs (λ f g. f.id < g.id) (after edit facts)
pairs-after edit facts up = pairs-from_ascends (λ (f : Fact). f.id) 0 (after edit facts) (goes edit (ascends-from_pairs (λ (f : Fact). f.id) 0 facts up (λ k d within. omega arith)))
  where
    goes : (edit : Edit) → ascends_from (λ f. f.id) 0 facts ≡ true → ascends_from (λ f. f.id) 0 (after edit facts) ≡ true
    goes (Put fact) ascends = ascends-put fact facts ascends
    goes (Change fact) ascends = rw (put-withdraw fact facts) (ascends-put fact facts ascends)
    goes (Withdraw id) ascends = ascends_filter (λ (f : Fact). f.id) (λ f. not (f.id == id)) 0 facts ascends

-- the number of facts
pub length-after : (edit : Edit) (facts : List Fact) → AllPairs (λ f g. f.id < g.id) facts → length (after edit facts) + option_map_or (λ f. 1) (taken edit facts) 0 ≡ length facts + option_map_or (λ f. 1) (given edit) 0
length-after edit facts up = omega (arith, sum_by-ones facts, sum_by-ones (after edit facts), sum-after (λ f. 1) edit facts up)

-- the facts that pass a test
pub count-with : (p : Fact → Bool) (edit : Edit) (facts : List Fact) → AllPairs (λ f g. f.id < g.id) facts
    → length (filter p (after edit facts)) + option_map_or (λ f. if p f then 1 else 0) (taken edit facts) 0 ≡ length (filter p facts) + option_map_or (λ f. if p f then 1 else 0) (given edit) 0
count-with p edit facts up = omega (arith, length-filter p facts, length-filter p (after edit facts), sum-after (λ f. if p f then 1 else 0) edit facts up)

pub total-with : (value : Fact → ℤ) (p : Fact → Bool) (edit : Edit) (facts : List Fact) → AllPairs (λ f g. f.id < g.id) facts
    → total_by value (filter p (after edit facts)) +ℤ option_map_or (λ f. if p f then value f else pos 0) (taken edit facts) (pos 0)
    ≡ total_by value (filter p facts) +ℤ option_map_or (λ f. if p f then value f else pos 0) (given edit) (pos 0)
total-with value p edit facts up =
    let left = total_by-filter p value (after edit facts) in
    let right = total_by-filter p value facts in
    let all = total-after (λ f. if p f then value f else pos 0) edit facts up in
    omega (arith, ints, left, right, all)
