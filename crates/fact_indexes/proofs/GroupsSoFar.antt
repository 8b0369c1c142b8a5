-- The groups of some of all facts, to which one fact after another is added.
use Rattle.std.proofs.Common.{◌≡◌, ℕ, zero, suc, ◌+◌, ◌*◌, ◌<◌, ◌≤◌, Bool, true, false, List, [], ◌∷◌, ◌++◌, get_or, length, map, refl, ap, sym, ◌∙◌, subst, arith, ℤ, pos, ◌+ℤ◌}
use Rattle.std.specs.Prelude.{All, IfSome, filter, find, nat_abs, slice_index_or, ◌==◌, if◌then◌else◌, Option, Some, None}
use Rattle.std.specs.List.{range_with_len}
use Rattle.std.specs.Option.{option_map, option_or}
use Rattle.std.proofs.lemmas.Bool.Decides.{nat_tests}
use Rattle.std.proofs.lemmas.Int.{ints}
use Rattle.std.proofs.lemmas.List.{append-nil, append_assoc, length-append}
use Rattle.std.proofs.lemmas.List.Elements.{All-cons, All-from_get_or, All-head, All-nil, All-tail, filter-append}
use Rattle.std.proofs.lemmas.List.Folds.{find-append}
use Rattle.std.proofs.lemmas.List.FromFn.{get_or-map-range_with_len, length-map-range_with_len}
use Rattle.std.proofs.lemmas.List.Sums.{count_by-le-length, length-filter}
use Rattle.cube_model.specs.declared.edit.Fact.{Fact}
use Rattle.cube_model.specs.declared.statistic.CellStat.{CellStat}
use Rattle.cube_model.specs.Allocation.{Policy, allocation, spread, weight_of}
use Rattle.cube_model.specs.Answer.{total_by}
use Rattle.cube_model.specs.Cells.{cells_of}
use Rattle.cube_model.specs.Limits.{MAX_CELLS, MAX_FACTS, MAX_VALUE}
use Rattle.cube_model.specs.Tree.{Dimension}
use Rattle.cube_model.proofs.Totals.{total_by-append}
use Rattle.region_algebra.specs.Space.{IsRegion, code_of}
use Rattle.cell_weight.specs.Stats.{stat_at}
use Rattle.staged_map.specs.Staged.{Places, value_at}
use Rattle.alloc_rows.specs.Alloc.{AreFewAt}
use Rattle.fact_groups.specs.Groups.{Group, column_sums, facts_with, group_at, has_code}
use Rattle.fact_groups.proofs.Frame.{spread-agree}
use Rattle.fact_records.specs.Shape.{IsShape, ShapeValue, policy_over, width_of_all}
use Rattle.fact_records.specs.Valid.{AreValid, IsValid}
use Rattle.fact_records.proofs.SmallValues.{count-accepted, small-accepted}
use Rattle.fact_indexes.specs.Anew.{AreStatsOf}
use Rattle.fact_indexes.specs.Grouping.{CanBeAdded, group_among, group_joined, sum_with, sums_with}
use Rattle.fact_indexes.proofs.Counting.{AreFewIn-facts}
use Rattle.fact_indexes.proofs.SmallGroups.{AreSmall, sums-small}
use Rattle.fact_indexes.proofs.ValidFacts.{few-cells}

-- where none is found none passes
pub filter-never : {X : Type 0} (p : X → Bool) (xs : List X) → find p xs ≡ None → filter p xs ≡ []
filter-never p [] none = refl
filter-never p (x ∷ xs) none = either (p x) refl none (filter-never p xs)
  where
    either : (b : Bool) → p x ≡ b → find p (x ∷ xs) ≡ None → (find p xs ≡ None → filter p xs ≡ []) → filter p (x ∷ xs) ≡ []
    either true is none rest = let here : Some x ≡ None = rw is at none in cc
    either false is none rest = rw is (rest (rw is at none))

-- equal numbers of each column
pub same-columns : (f g : ℕ → ℤ) (a n : ℕ) → ((k : ℕ) → k < a + n → f k ≡ g k) → map f (range_with_len a n) ≡ map g (range_with_len a n)
same-columns f g a zero same = refl
same-columns f g a (suc n) same =
    ap (λ z. z ∷ map f (range_with_len (a + 1) n)) (same a (omega arith)) ∙ ap (λ zs. g a ∷ zs) (same-columns f g (a + 1) n (λ k below. same k (omega (arith, below))))

abbrev value_in : ℕ → Fact → ℤ
value_in column f = slice_index_or f.cols column (pos 0)

-- the values of a fact are the sums of its columns
own-values : (a : ℕ) (values front : List ℤ) → map (λ k. slice_index_or (front ++ values) k (pos 0) +ℤ pos 0) (range_with_len (length front) (length values)) ≡ values
own-values a [] front = refl
own-values a (v ∷ values) front =
    ap (λ z. z ∷ map (λ k. slice_index_or (front ++ v ∷ values) k (pos 0) +ℤ pos 0) (range_with_len (length front + 1) (length values))) (here front)
    ∙ ap (λ zs. v ∷ zs) (moved (length front + 1) (sym (length-append front (v ∷ []))) ∙ own-values a values (front ++ v ∷ []))
  where
    here : (front : List ℤ) → slice_index_or (front ++ v ∷ values) (length front) (pos 0) +ℤ pos 0 ≡ v
    here [] = omega (arith, ints)
    here (x ∷ front) = here front

    moved : (n : ℕ) → n ≡ length (front ++ v ∷ [])
        → map (λ k. slice_index_or (front ++ v ∷ values) k (pos 0) +ℤ pos 0) (range_with_len n (length values))
        ≡ map (λ k. slice_index_or ((front ++ v ∷ []) ++ values) k (pos 0) +ℤ pos 0) (range_with_len (length (front ++ v ∷ [])) (length values))
    moved n is =
        ap (λ n. map (λ k. slice_index_or (front ++ v ∷ values) k (pos 0) +ℤ pos 0) (range_with_len n (length values))) is
        ∙ ap (λ (all : List ℤ). map (λ k. slice_index_or all k (pos 0) +ℤ pos 0) (range_with_len (length (front ++ v ∷ [])) (length values))) (sym (append_assoc front (v ∷ []) values))

-- a fact more adds its values to the sums
sums-more : (columns : ℕ) (facts : List Fact) (fact : Fact) → column_sums columns (facts ++ fact ∷ []) ≡ sums_with (column_sums columns facts) fact.cols
sums-more columns facts fact =
    same-columns (λ k. total_by (value_in k) (facts ++ fact ∷ [])) (sum_with (column_sums columns facts) fact.cols) 0 columns each
    ∙ ap (λ n. map (sum_with (column_sums columns facts) fact.cols) (range_with_len 0 n)) (sym (length-map-range_with_len (λ k. total_by (value_in k) facts) 0 columns))
  where
    each : (k : ℕ) → k < 0 + columns → total_by (value_in k) (facts ++ fact ∷ []) ≡ sum_with (column_sums columns facts) fact.cols k
    each k below =
        let all = total_by-append (value_in k) facts (fact ∷ []) in
        let read : slice_index_or (column_sums columns facts) k (pos 0) ≡ total_by (value_in k) facts = get_or-map-range_with_len (λ j. total_by (value_in j) facts) 0 columns k k (pos 0) (omega (arith, below)) (omega arith) in
        omega (arith, ints, all, read)

module _ (policy : Policy) (columns : ℕ) (dims : List Dimension) (all : List Fact) where
  abbrev among : List Fact → ℕ → Option Group
  among some code = group_among policy columns dims all some code

  abbrev from : List Fact → Fact → Group
  from members f = record { spread = allocation policy dims all f; count = length members; sums = column_sums columns members }

  module _ (some : List Fact) (f : Fact) (code : ℕ) where
    abbrev p : Fact → Bool
    p = has_code dims code

    found-more : find p (some ++ f ∷ []) ≡ option_or (find p some) (find p (f ∷ []))
    found-more = find-append p some (f ∷ [])

    kept-more : filter p (some ++ f ∷ []) ≡ filter p some ++ filter p (f ∷ [])
    kept-more = filter-append p some (f ∷ [])

    among-other : p f ≡ false → among (some ++ f ∷ []) code ≡ among some code
    among-other is =
        ap (λ o. option_map (from (filter p (some ++ f ∷ []))) o) (found-more ∙ ap (λ (b : Bool). option_or (find p some) (if b then Some f else None)) is ∙ either (find p some))
        ∙ ap (λ (members : List Fact). option_map (from members) (find p some)) (kept-more ∙ ap (λ (b : Bool). filter p some ++ (if b then f ∷ [] else [])) is ∙ append-nil (filter p some))
      where
        either : (o : Option Fact) → option_or o None ≡ o
        either None = refl
        either (Some g) = refl

    among-same : length f.cols ≡ columns → p f ≡ true → among (some ++ f ∷ []) code ≡ Some (group_joined (allocation policy dims all f) (among some code) f)
    among-same wide is =
        ap (λ o. option_map (from (filter p (some ++ f ∷ []))) o) (found-more ∙ ap (λ (b : Bool). option_or (find p some) (if b then Some f else None)) is)
        ∙ ap (λ (members : List Fact). option_map (from members) (option_or (find p some) (Some f))) (kept-more ∙ ap (λ (b : Bool). filter p some ++ (if b then f ∷ [] else [])) is)
        ∙ either (find p some) refl
      where
        alone : column_sums columns (f ∷ []) ≡ f.cols
        alone = ap (λ n. map (λ k. value_in k f +ℤ pos 0) (range_with_len 0 n)) (sym wide) ∙ own-values 0 f.cols []

        either : (found : Option Fact) → find p some ≡ found → option_map (from (filter p some ++ f ∷ [])) (option_or found (Some f)) ≡ Some (group_joined (allocation policy dims all f) (option_map (from (filter p some)) found) f)
        either None none =
            ap (λ (members : List Fact). Some (from (members ++ f ∷ []) f)) (filter-never p some none)
            ∙ ap (λ sums. Some (record { spread = allocation policy dims all f; count = 1; sums = sums })) alone
        either (Some g) found =
            ap (λ n. Some (record { spread = allocation policy dims all g; count = n; sums = column_sums columns (filter p some ++ f ∷ []) })) (length-append (filter p some) (f ∷ []))
            ∙ ap (λ sums. Some (record { spread = allocation policy dims all g; count = length (filter p some) + 1; sums = sums })) (sums-more columns (filter p some) f)

-- Some facts are in groups, and the others are left.
pub record AreGroupsSoFar (policy : Policy) (columns : ℕ) (dims : List Dimension) (facts : List Fact) (places : Places Group) (left : List Fact) : Type 0 where
  pub done : List Fact
  pub all : done ++ left ≡ facts
  pub groups : (code : ℕ) → value_at places code ≡ group_among policy columns dims facts done code

-- at first all are left
pub groups-none : (policy : Policy) (columns : ℕ) (dims : List Dimension) (facts walk : List Fact) (places : Places Group) → places ≡ [] → walk ≡ facts → AreGroupsSoFar policy columns dims facts places walk
groups-none policy columns dims facts walk places empty is = record { done = []; all = is; groups = λ code. ap (λ (ps : Places Group). value_at ps code) empty }

-- at the end none is
pub groups-all : (policy : Policy) (columns : ℕ) (dims : List Dimension) (facts left : List Fact) (places : Places Group) → AreGroupsSoFar policy columns dims facts places left → left ≡ []
    → (code : ℕ) → value_at places code ≡ group_at policy columns dims facts code
groups-all policy columns dims facts left places before none code =
    before.groups code ∙ ap (λ (done : List Fact). group_among policy columns dims facts done code) (sym (append-nil before.done) ∙ ap (λ (rest : List Fact). before.done ++ rest) (sym none) ∙ before.all)

module _ (weigh : CellStat → ℕ) (shape : ShapeValue) (dims : List Dimension) (facts : List Fact) (is : IsShape shape) (valid : AreValid shape dims facts) (old : Places Group) (ahead left : List Fact) (f : Fact)
    (before : AreGroupsSoFar (policy_over weigh shape) (width_of_all shape.measures) dims facts old ahead) (cut : ahead ≡ f ∷ left) where
  abbrev policy : Policy
  policy = policy_over weigh shape

  abbrev columns : ℕ
  columns = width_of_all shape.measures

  next-all : before.done ++ f ∷ left ≡ facts
  next-all = ap (λ (rest : List Fact). before.done ++ rest) (sym cut) ∙ before.all

  -- the next fact is one of all
  All-behind : (P : Fact → Type 0) (front back : List Fact) → All P (front ++ back) → All P back
  All-behind P [] back each = each
  All-behind P (x ∷ front) back each = All-behind P front back (All-tail P x (front ++ back) each)

  All-before : (P : Fact → Type 0) (front back : List Fact) → All P (front ++ back) → All P front
  All-before P [] back each = All-nil P
  All-before P (x ∷ front) back each = All-cons P x front (All-head P x (front ++ back) each) (All-before P front back (All-tail P x (front ++ back) each))

  each-valid : All (IsValid shape dims) (before.done ++ f ∷ left)
  each-valid = subst (All (IsValid shape dims)) (sym next-all) valid.each

  next-valid : IsValid shape dims f
  next-valid = All-head (IsValid shape dims) f left (All-behind (IsValid shape dims) before.done (f ∷ left) each-valid)

  -- it lies in a region that is not too large
  pub next-region : IsRegion dims f.region
  next-region = next-valid.accepted.placed.region

  pub next-few : length (cells_of dims f.region) ≤ MAX_CELLS
  next-few = few-cells dims f.region next-valid.size

  wide : length f.cols ≡ columns
  wide = count-accepted shape f.cols next-valid.accepted.values

  done-few : length before.done ≤ MAX_FACTS
  done-few = omega (arith, valid.few, ap length next-all, length-append before.done (f ∷ left))

  done-small : All AreSmall before.done
  done-small k d within = small-accepted shape (get_or before.done k d).cols (All-before (IsValid shape dims) before.done (f ∷ left) each-valid k d within).accepted.values is.measures

  module _ (code : ℕ) (code_is : code ≡ code_of dims f.region) where
    few-done : length (facts_with dims code before.done) ≤ MAX_FACTS
    few-done = omega (arith, done-few, length-filter (has_code dims code) before.done, count_by-le-length (has_code dims code) before.done)

    -- what holds of the group of any fact that has the code holds of that which is kept
    group-is : (P : Group → Type 0) (o : Option Group) → o ≡ value_at old code → ((h : Fact) → P (from policy columns dims facts (facts_with dims code before.done) h)) → IfSome o P
    group-is P o there each = subst (λ o. IfSome o P) (sym (there ∙ before.groups code)) (by (find (has_code dims code) before.done))
      where
        by : (found : Option Fact) → IfSome (option_map (from policy columns dims facts (facts_with dims code before.done)) found) P
        by None = tt
        by (Some h) = each h

    -- it has no more facts than there are, and the values of the next fact can be added there
    pub members-few : (o : Option Group) → o ≡ value_at old code → IfSome o (λ g. g.count ≤ MAX_FACTS)
    members-few o there = group-is (λ g. g.count ≤ MAX_FACTS) o there (λ h. few-done)

    pub can-be-added : (o : Option Group) → o ≡ value_at old code → IfSome o (λ g. CanBeAdded g.sums f.cols)
    can-be-added o there = group-is (λ g. CanBeAdded g.sums f.cols) o there (λ h. record {
      width = wide ∙ sym counted;
      most = omega (arith, is.measures.most, counted);
      few = All-from_get_or (λ sum. nat_abs sum ≤ MAX_FACTS * MAX_VALUE) (column_sums columns (facts_with dims code before.done)) (pos 0) (λ k within. omega (arith, sums-small columns code dims before.done done-small k, few-done));
      small = small-accepted shape f.cols next-valid.accepted.values is.measures;
    })
      where
        counted : length (column_sums columns (facts_with dims code before.done)) ≡ columns
        counted = length-map-range_with_len (λ k. total_by (value_in k) (facts_with dims code before.done)) 0 columns

    -- with the fact in it one less is left
    module _ (new : Places Group) (group : Group) (sets : (k : ℕ) → value_at new k ≡ (if code == k then Some group else value_at old k)) where
      next : group ≡ group_joined (allocation policy dims facts f) (group_among policy columns dims facts before.done code) f → AreGroupsSoFar policy columns dims facts new left
      next made = record {
        done = before.done ++ f ∷ [];
        all = append_assoc before.done (f ∷ []) left ∙ next-all;
        groups = λ k. sets k ∙ either k (code == k) refl;
      }
        where
          either : (k : ℕ) (b : Bool) → (code == k) ≡ b → (if b then Some group else value_at old k) ≡ group_among policy columns dims facts (before.done ++ f ∷ []) k
          either k true same =
              let key : code ≡ k = grind (arith, nat_tests, same) in
              subst (λ k. Some group ≡ group_among policy columns dims facts (before.done ++ f ∷ []) k) key
              (ap Some made ∙ sym (among-same policy columns dims facts before.done f code wide (grind (arith, nat_tests, code_is))))
          either k false same = before.groups k ∙ sym (among-other policy columns dims facts before.done f k (grind (arith, nat_tests, code_is, same)))

      pub groups-joined : (stats : Places CellStat) → AreStatsOf shape dims facts stats → (o : Option Group) → o ≡ value_at old code
          → group ≡ group_joined (spread (λ cell. weigh (stat_at stats cell)) (cells_of dims f.region)) o f → AreGroupsSoFar policy columns dims facts new left
      unfolding allocation
      groups-joined stats are o there made =
          next (made ∙ ap (λ a. group_joined a o f) (spread-agree (λ cell. weigh (stat_at stats cell)) (weight_of policy dims facts) (cells_of dims f.region) (λ k d within. ap weigh (are weigh _)))
          ∙ ap (λ o. group_joined (allocation policy dims facts f) o f) (there ∙ before.groups code))

-- few facts count at the cells of a region
pub few-counted : (weigh : CellStat → ℕ) (shape : ShapeValue) (dims : List Dimension) (facts : List Fact) → AreValid shape dims facts → (stats : Places CellStat) → AreStatsOf shape dims facts stats → (region : List ℕ) → AreFewAt dims stats region
few-counted weigh shape dims facts valid stats are region = AreFewIn-facts (policy_over weigh shape) dims facts (stat_at stats) region (are weigh) valid.few
