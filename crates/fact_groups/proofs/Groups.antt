-- What is added up over facts is what is added up over their groups.
use Rattle.std.proofs.Common.{◌≡◌, ℕ, zero, suc, ◌+◌, ◌*◌, ◌<◌, Bool, true, false, List, [], ◌∷◌, get_or, length, map, refl, ap, sym, subst, ◌∙◌, arith, ℤ, pos, ◌+ℤ◌, ◌*ℤ◌}
use Rattle.std.specs.Prelude.{All, IfSome, Option, Some, None, filter, find, slice_index_or, ◌==◌, if◌then◌else◌}
use Rattle.std.specs.List.{cons_option, filter_map, list_any, sum_by}
use Rattle.std.specs.List.Sorted.{IsStrictlyIncreasing}
use Rattle.std.specs.Option.{option_map, option_map_or}
use Rattle.std.proofs.lemmas.Bool.Decides.{nat_tests}
use Rattle.std.proofs.lemmas.Int.{ints}
use Rattle.std.proofs.lemmas.List.Elements.{All-head, All-tail}
use Rattle.std.proofs.lemmas.List.FromFn.{get_or-map-range_with_len}
use Rattle.std.proofs.lemmas.List.Sums.{sum_by-cons}
use Rattle.std.proofs.Math.IntN.{*ℤ-zero, *ℤ_comm}
use Rattle.cube_model.specs.declared.edit.Fact.{Fact}
use Rattle.cube_model.specs.Allocation.{Allocation, ExtendedFact, Policy, allocation, extended, row_count}
use Rattle.cube_model.specs.Answer.{count_at, sum_at, total_by, weight_inside}
use Rattle.cube_model.specs.Tree.{Dimension, IsTree}
use Rattle.cube_model.proofs.Totals.{total_by-same}
use Rattle.region_algebra.specs.Space.{IsRegion, code_of}
use Rattle.region_algebra.proofs.Tuples.{code_of-same}
use Rattle.fact_groups.specs.Groups.{AreGrouped, Group, column_sums, count_in, facts_with, group_at, group_rows, groups_at, has_code, spread_at, sum_in}
use Rattle.fact_groups.specs.Partition.{IsPartition}
use Rattle.fact_groups.proofs.Ascending.{ascends-from_increasing, once_among}
use Rattle.fact_groups.proofs.Partition.{shares_over_keys, sum_by-alike, sum_by-filter, total_by-filter, values_over_keys}
use Rattle.fact_groups.proofs.Sharing.{allocation-shared, allocation-spread_at}

-- sums over what is made of each item
pub sum_by-map : {X Y : Type 0} (g : Y → ℕ) (h : X → Y) (xs : List X) → sum_by g (map h xs) ≡ sum_by (λ x. g (h x)) xs
sum_by-map g h [] = refl
sum_by-map g h (x ∷ xs) = omega (arith, sum_by-cons g (h x) (map h xs), sum_by-map g h xs, sum_by-cons (λ x. g (h x)) x xs)

pub total_by-map : {X Y : Type 0} (g : Y → ℤ) (h : X → Y) (xs : List X) → total_by g (map h xs) ≡ total_by (λ x. g (h x)) xs
total_by-map g h [] = refl
total_by-map g h (x ∷ xs) = ap (λ z. g (h x) +ℤ z) (total_by-map g h xs)

sum_by-option : {Y : Type 0} (g : Y → ℕ) (o : Option Y) (ys : List Y) → sum_by g (cons_option o ys) ≡ option_map_or g o 0 + sum_by g ys
sum_by-option g None ys = omega arith
sum_by-option g (Some y) ys = sum_by-cons g y ys

pub sum_by-filter_map : {X Y : Type 0} (g : Y → ℕ) (h : X → Option Y) (xs : List X) → sum_by g (filter_map h xs) ≡ sum_by (λ x. option_map_or g (h x) 0) xs
sum_by-filter_map g h [] = refl
sum_by-filter_map g h (x ∷ xs) = omega (arith, sum_by-option g (h x) (filter_map h xs), sum_by-filter_map g h xs, sum_by-cons (λ x. option_map_or g (h x) 0) x xs)

total_by-option : {Y : Type 0} (g : Y → ℤ) (o : Option Y) (ys : List Y) → total_by g (cons_option o ys) ≡ option_map_or g o (pos 0) +ℤ total_by g ys
total_by-option g None ys = omega (arith, ints)
total_by-option g (Some y) ys = refl

pub total_by-filter_map : {X Y : Type 0} (g : Y → ℤ) (h : X → Option Y) (xs : List X) → total_by g (filter_map h xs) ≡ total_by (λ x. option_map_or g (h x) (pos 0)) xs
total_by-filter_map g h [] = refl
total_by-filter_map g h (x ∷ xs) = total_by-option g (h x) (filter_map h xs) ∙ ap (λ z. option_map_or g (h x) (pos 0) +ℤ z) (total_by-filter_map g h xs)

-- what a group adds to a numerator at a denominator, over cells
abbrev pub count_over : List ℕ → ℕ → Group → ℕ
count_over cells den g = if g.spread.den == den then g.count * weight_inside cells g.spread else 0

abbrev pub sum_over : List ℕ → ℕ → ℕ → Group → ℤ
sum_over cells column den g = if g.spread.den == den then pos (weight_inside cells g.spread) *ℤ slice_index_or g.sums column (pos 0) else pos 0

pub count_in-sum : (cells : List ℕ) (den : ℕ) (groups : List Group) → count_in cells groups den ≡ sum_by (count_over cells den) groups
count_in-sum cells den groups = sum_by-filter (λ (g : Group). g.spread.den == den) (λ g. g.count * weight_inside cells g.spread) groups

pub sum_in-total : (cells : List ℕ) (column den : ℕ) (groups : List Group) → sum_in cells groups column den ≡ total_by (sum_over cells column den) groups
sum_in-total cells column den groups = total_by-filter (λ (g : Group). g.spread.den == den) (λ g. pos (weight_inside cells g.spread) *ℤ slice_index_or g.sums column (pos 0)) groups

-- the first of the facts that pass passes, and where none is found none passes
pub first-passes : (p : Fact → Bool) (facts : List Fact) (fact : Fact) → find p facts ≡ Some fact → p fact ≡ true
first-passes p [] fact found = cc
first-passes p (f ∷ facts) fact found = either (p f) refl found (first-passes p facts fact)
  where
    either : (b : Bool) → p f ≡ b → find p (f ∷ facts) ≡ Some fact → (find p facts ≡ Some fact → p fact ≡ true) → p fact ≡ true
    either true is found rest = let here : Some f ≡ Some fact = rw is at found in cc
    either false is found rest = rest (rw is at found)

pub first-holds : (P : Fact → Type 0) (p : Fact → Bool) (facts : List Fact) (fact : Fact) → All P facts → find p facts ≡ Some fact → P fact
first-holds P p [] fact each found = absurd (clash found)
  where
    clash : None ≡ Some fact → ⊥
    clash e = cc
first-holds P p (f ∷ facts) fact each found = either (p f) refl found (first-holds P p facts fact (All-tail P f facts each))
  where
    either : (b : Bool) → p f ≡ b → find p (f ∷ facts) ≡ Some fact → (find p facts ≡ Some fact → P fact) → P fact
    either true is found rest = let here : Some f ≡ Some fact = rw is at found in of_same here (All-head P f facts each)
      where
        of_same : Some f ≡ Some fact → P f → P fact
        of_same same holds = let its : f ≡ fact = cc in subst P its holds
    either false is found rest = rest (rw is at found)

none-passes : (p : Fact → Bool) (facts : List Fact) → find p facts ≡ None → filter p facts ≡ []
none-passes p [] none = refl
none-passes p (f ∷ facts) none = either (p f) refl none (none-passes p facts)
  where
    either : (b : Bool) → p f ≡ b → find p (f ∷ facts) ≡ None → (find p facts ≡ None → filter p facts ≡ []) → filter p (f ∷ facts) ≡ []
    either true is none rest = let here : Some f ≡ None = rw is at none in cc
    either false is none rest = rw is (rest (rw is at none))

-- of facts among which one is found that passes, some pass
pub kept-some : (p q : Fact → Bool) (facts : List Fact) (fact : Fact) → find q facts ≡ Some fact → p fact ≡ true → (length (filter p facts) == 0) ≡ false
kept-some p q [] fact found passes = cc
kept-some p q (f ∷ facts) fact found passes = either (q f) (p f) refl refl found (λ rest. kept-some p q facts fact rest passes)
  where
    either : (a b : Bool) → q f ≡ a → p f ≡ b → find q (f ∷ facts) ≡ Some fact → (find q facts ≡ Some fact → (length (filter p facts) == 0) ≡ false) → (length (filter p (f ∷ facts)) == 0) ≡ false
    either a true is may found rest = rw may (grind (arith, nat_tests))
    either true false is may found rest =
        let here : Some f ≡ Some fact = rw is at found in
        let its : f ≡ fact = cc in
        let alike = ap p its in
        cc
    either false false is may found rest = rw may (rest (rw is at found))

pub some-passes : (p : Fact → Bool) (facts : List Fact) (fact : Fact) → find p facts ≡ Some fact → (length (filter p facts) == 0) ≡ false
some-passes p facts fact found = kept-some p p facts fact found (first-passes p facts fact found)

-- a fact that passes is found, or one before it
some-found : (p : Fact → Bool) (facts : List Fact) (k : ℕ) (d : Fact) → k < length facts → p (get_or facts k d) ≡ true → find p facts ≡ None → ⊥
some-found p [] k d within passes none = omega (arith, within)
some-found p (f ∷ facts) zero d within passes none = let here : Some f ≡ None = rw passes at none in cc
some-found p (f ∷ facts) (suc k) d within passes none = either (p f) refl none (some-found p facts k d (omega arith) passes)
  where
    either : (b : Bool) → p f ≡ b → find p (f ∷ facts) ≡ None → (find p facts ≡ None → ⊥) → ⊥
    either true is none rest = let here : Some f ≡ None = rw is at none in cc
    either false is none rest = rest (rw is at none)

-- facts whose codes ascend are grouped by them
pub grouped-by_increasing : (dims : List Dimension) (facts : List Fact) (codes : List ℕ) → IsStrictlyIncreasing codes → All (λ f. list_any (λ code. code_of dims f.region == code) codes ≡ true) facts
    → IsPartition (has_code dims) codes facts
grouped-by_increasing dims facts codes up among k d within =
    let code = code_of dims (get_or facts k d).region in
    once_among 0 codes (ascends-from_increasing codes up) code ∙ ap (λ (b : Bool). if b then 1 else 0) (among k d within)

module _ (policy : Policy) (columns : ℕ) (dims : List Dimension) (facts : List Fact) where
  -- a group as the fact found says
  abbrev group_from : ℕ → Fact → Group
  group_from code f = record { spread = allocation policy dims facts f; count = length (facts_with dims code facts); sums = column_sums columns (facts_with dims code facts) }

  -- the facts of a code have one region
  one_region : (code : ℕ) (a b : Fact) → All IsTree dims → IsRegion dims a.region → IsRegion dims b.region → has_code dims code a ≡ true → has_code dims code b ≡ true → a.region ≡ b.region
  one_region code a b trees first second here there = code_of-same dims a.region b.region trees first second (grind (arith, nat_tests))

  abbrev with_spread : ℕ → Allocation → Group
  with_spread code spread = record { spread = spread; count = length (facts_with dims code facts); sums = column_sums columns (facts_with dims code facts) }

  -- the group of a region's code
  of_region : (region : List ℕ) (code : ℕ) → code ≡ code_of dims region → All IsTree dims → All (λ f. IsRegion dims f.region) facts → IsRegion dims region → (found : Option Fact) → find (has_code dims code) facts ≡ found
      → option_map (group_from code) (find (has_code dims code) facts) ≡ (if length (facts_with dims code facts) == 0 then None else Some (with_spread code (spread_at policy dims facts region)))
  of_region region code at trees regions named None none =
      let empty : (length (facts_with dims code facts) == 0) ≡ true = ap (λ (fs : List Fact). length fs == 0) (none-passes (has_code dims code) facts none) in
      ap (option_map (group_from code)) none ∙ sym (ap {B = Option Group} (λ (b : Bool). if b then None else Some (with_spread code (spread_at policy dims facts region))) empty)
  of_region region code at trees regions named (Some f) found =
      let passes : has_code dims code f ≡ true = first-passes (has_code dims code) facts f found in
      let its : code_of dims f.region ≡ code_of dims region = grind (arith, nat_tests) in
      let here : f.region ≡ region = code_of-same dims f.region region trees (first-holds (λ f. IsRegion dims f.region) (has_code dims code) facts f regions found) named its in
      ap (option_map (group_from code)) found
      ∙ ap (λ a. Some (with_spread code a)) (allocation-spread_at policy dims facts f ∙ ap (spread_at policy dims facts) here)
      ∙ sym (ap {B = Option Group} (λ (b : Bool). if b then None else Some (with_spread code (spread_at policy dims facts region))) (some-passes (has_code dims code) facts f found))

  pub group_at-region : (region : List ℕ) → All IsTree dims → All (λ f. IsRegion dims f.region) facts → IsRegion dims region
      → group_at policy columns dims facts (code_of dims region)
      ≡ (if length (facts_with dims (code_of dims region) facts) == 0 then None
      else Some (record { spread = spread_at policy dims facts region; count = length (facts_with dims (code_of dims region) facts); sums = column_sums columns (facts_with dims (code_of dims region) facts) }))
  group_at-region region trees regions named = of_region region (code_of dims region) refl trees regions named (find (has_code dims (code_of dims region)) facts) refl

  -- so the group of a fact's region is there, and is spread as the region is
  pub group_at-found : (id : ℕ) → All IsTree dims → All (λ f. IsRegion dims f.region) facts
      → IfSome (find (λ f. f.id == id) facts) (λ f. option_map (λ g. g.spread) (group_at policy columns dims facts (code_of dims f.region)) ≡ Some (spread_at policy dims facts f.region))
  group_at-found id trees regions = either (find (λ f. f.id == id) facts) refl
    where
      either : (found : Option Fact) → find (λ f. f.id == id) facts ≡ found → IfSome found (λ f. option_map (λ g. g.spread) (group_at policy columns dims facts (code_of dims f.region)) ≡ Some (spread_at policy dims facts f.region))
      either None is = tt
      either (Some f) is =
          let code = code_of dims f.region in
          let here : has_code dims code f ≡ true = grind (arith, nat_tests) in
          ap (option_map (λ g. g.spread)) (group_at-region f.region trees regions (first-holds (λ f. IsRegion dims f.region) (λ f. f.id == id) facts f regions is))
          ∙ ap (λ (b : Bool). option_map (λ g. g.spread) (if b then None else Some (with_spread code (spread_at policy dims facts f.region)))) (kept-some (has_code dims code) (λ f. f.id == id) facts f is here)

  module _ (codes : List ℕ) (grouped : AreGrouped dims facts codes) where
    -- what is taken of a code's spread is what is taken of a fact's allocation
    pub spread-at : {Z : Type 0} (value : Allocation → Z) (none : Z) (k : ℕ) (d : Fact) → k < length facts → (code : ℕ) → has_code dims code (get_or facts k d) ≡ true
        → value (allocation policy dims facts (get_or facts k d)) ≡ option_map_or (λ g. value g.spread) (group_at policy columns dims facts code) none
    spread-at {Z} value none k d within code passes = either (find (has_code dims code) facts) refl
      where
        either : (found : Option Fact) → find (has_code dims code) facts ≡ found
            → value (allocation policy dims facts (get_or facts k d)) ≡ option_map_or (λ g. value g.spread) (option_map (group_from code) (find (has_code dims code) facts)) none
        either None is = absurd (some-found (has_code dims code) facts k d within passes is)
        either (Some f) is =
            let same = one_region code (get_or facts k d) f grouped.trees (grouped.regions k d within) (first-holds (λ f. IsRegion dims f.region) (has_code dims code) facts f grouped.regions is) passes (first-passes (has_code dims code) facts f is) in
            ap value (allocation-shared policy dims facts (get_or facts k d) f same) ∙ sym (ap (λ o. option_map_or (λ (g : Group). value g.spread) (option_map (group_from code) o) none) is)

    -- a number that depends on the allocation alone, over facts and over groups
    values-grouped : (value : Allocation → ℕ) → sum_by (λ f. value (allocation policy dims facts f)) facts ≡ sum_by (λ g. g.count * value g.spread) (groups_at policy columns dims facts codes)
    values-grouped value =
        values_over_keys (has_code dims) codes (λ f. value (allocation policy dims facts f)) (λ code. option_map_or (λ g. value g.spread) (group_at policy columns dims facts code) 0) facts grouped.held
        (λ k d within code passes. spread-at value 0 k d within code passes)
        ∙ sum_by-alike (λ code. length (facts_with dims code facts) * option_map_or (λ g. value g.spread) (group_at policy columns dims facts code) 0)
        (λ code. option_map_or (λ g. g.count * value g.spread) (group_at policy columns dims facts code) 0) codes (λ code. one code (find (has_code dims code) facts))
        ∙ sym (sum_by-filter_map (λ g. g.count * value g.spread) (group_at policy columns dims facts) codes)
      where
        one : (code : ℕ) (found : Option Fact) → length (facts_with dims code facts) * option_map_or (λ g. value g.spread) (option_map (group_from code) found) 0
            ≡ option_map_or (λ g. g.count * value g.spread) (option_map (group_from code) found) 0
        one code None = omega arith
        one code (Some f) = refl

    abbrev extended_fact : Fact → ExtendedFact
    extended_fact f = record { id = f.id; values = f.cols; allocation = allocation policy dims facts f }

    pub rows-grouped : row_count (extended policy dims facts) ≡ group_rows (groups_at policy columns dims facts codes)
    unfolding extended
    rows-grouped = sum_by-map (λ (e : ExtendedFact). length e.allocation.rows) extended_fact facts ∙ values-grouped (λ a. length a.rows)

    -- the weight of an allocation inside, where it has a denominator
    abbrev inside_over : List ℕ → ℕ → Allocation → ℕ
    inside_over cells den a = if a.den == den then weight_inside cells a else 0

    scaled-if : (b : Bool) (n w : ℕ) → n * (if b then w else 0) ≡ (if b then n * w else 0)
    scaled-if true n w = refl
    scaled-if false n w = omega arith

    pub count-grouped : (cells : List ℕ) (den : ℕ) → count_at cells (extended policy dims facts) den ≡ count_in cells (groups_at policy columns dims facts codes) den
    unfolding extended
    count-grouped cells den =
        let groups = groups_at policy columns dims facts codes in
        sum_by-filter (λ (e : ExtendedFact). e.allocation.den == den) (λ e. weight_inside cells e.allocation) (map extended_fact facts)
        ∙ sum_by-map (λ (e : ExtendedFact). if e.allocation.den == den then weight_inside cells e.allocation else 0) extended_fact facts
        ∙ values-grouped (inside_over cells den)
        ∙ sum_by-alike (λ (g : Group). g.count * inside_over cells den g.spread) (count_over cells den) groups (λ g. scaled-if (g.spread.den == den) g.count (weight_inside cells g.spread))
        ∙ sym (count_in-sum cells den groups)

    -- the same of a column
    shared-if : (b : Bool) (x : ℤ) (w : ℕ) → (if b then pos w *ℤ x else pos 0) ≡ x *ℤ pos (if b then w else 0)
    shared-if true x w = *ℤ_comm (pos w) x
    shared-if false x w = sym (*ℤ-zero x)

    module _ (cells : List ℕ) (column den : ℕ) where
      abbrev value : Fact → ℤ
      value f = slice_index_or f.cols column (pos 0)

      abbrev share : ℕ → ℕ
      share code = option_map_or (λ g. inside_over cells den g.spread) (group_at policy columns dims facts code) 0

      one_sum : column < columns → (code : ℕ) (found : Option Fact) → total_by value (facts_with dims code facts) *ℤ pos (option_map_or (λ g. inside_over cells den g.spread) (option_map (group_from code) found) 0)
          ≡ option_map_or (sum_over cells column den) (option_map (group_from code) found) (pos 0)
      one_sum within code None = *ℤ-zero (total_by value (facts_with dims code facts))
      one_sum within code (Some f) =
          let a = allocation policy dims facts f in
          let sum : slice_index_or (column_sums columns (facts_with dims code facts)) column (pos 0) ≡ total_by value (facts_with dims code facts) =
          get_or-map-range_with_len (λ k. total_by (λ f. slice_index_or f.cols k (pos 0)) (facts_with dims code facts)) 0 columns column column (pos 0) within (omega arith) in
          sym (shared-if (a.den == den) (total_by value (facts_with dims code facts)) (weight_inside cells a))
          ∙ ap (λ z. if a.den == den then pos (weight_inside cells a) *ℤ z else pos 0) (sym sum)

      pub sum-grouped : column < columns → sum_at cells (extended policy dims facts) column den ≡ sum_in cells (groups_at policy columns dims facts codes) column den
      unfolding extended
      sum-grouped within =
          total_by-filter (λ (e : ExtendedFact). e.allocation.den == den) (λ e. pos (weight_inside cells e.allocation) *ℤ slice_index_or e.values column (pos 0)) (map extended_fact facts)
          ∙ total_by-map (λ (e : ExtendedFact). if e.allocation.den == den then pos (weight_inside cells e.allocation) *ℤ slice_index_or e.values column (pos 0) else pos 0) extended_fact facts
          ∙ shares_over_keys (has_code dims) codes
          (λ f. if (allocation policy dims facts f).den == den then pos (weight_inside cells (allocation policy dims facts f)) *ℤ value f else pos 0) value share facts grouped.held
          (λ k d in_facts code passes.
          let f = get_or facts k d in
          shared-if ((allocation policy dims facts f).den == den) (value f) (weight_inside cells (allocation policy dims facts f))
          ∙ ap (λ n. value f *ℤ pos n) (spread-at (inside_over cells den) 0 k d in_facts code passes))
          ∙ total_by-same (λ code. total_by value (facts_with dims code facts) *ℤ pos (share code)) (λ code. option_map_or (sum_over cells column den) (group_at policy columns dims facts code) (pos 0)) codes
          (λ j e in_codes. one_sum within (get_or codes j e) (find (has_code dims (get_or codes j e)) facts))
          ∙ sym (total_by-filter_map (sum_over cells column den) (group_at policy columns dims facts) codes)
          ∙ sym (sum_in-total cells column den (groups_at policy columns dims facts codes))
