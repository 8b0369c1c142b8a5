-- The group of one code, before an edit and after it.
use Rattle.std.proofs.Common.{◌≡◌, ℕ, suc, ◌+◌, ◌*◌, ◌<◌, ◌≤◌, Bool, true, false, List, [], ◌∷◌, length, refl, ap, sym, ◌∙◌, subst, arith, ℤ, pos, ◌+ℤ◌}
use Rattle.std.specs.Prelude.{All, IfSome, filter, find, nat_abs, slice_get, slice_index_or, ◌==◌, if◌then◌else◌, Option, Some, None}
use Rattle.std.specs.Option.{option_map, option_map_or}
use Rattle.std.proofs.lemmas.Bool.Decides.{nat_tests}
use Rattle.std.proofs.lemmas.Int.{ints}
use Rattle.std.proofs.lemmas.List.Elements.{All-filter, All-from_get_or, All-head, All-tail, All-weaker}
use Rattle.std.proofs.lemmas.List.FromFn.{get_or-map-range_with_len, length-map-range_with_len}
use Rattle.std.proofs.lemmas.List.Sums.{count_by-le-length, length-filter}
use Rattle.cube_model.specs.declared.edit.Edit.{Edit}
use Rattle.cube_model.specs.declared.edit.Edit.TheVariants.{Withdraw}
use Rattle.cube_model.specs.declared.edit.Fact.{Fact}
use Rattle.cube_model.specs.Allocation.{Policy, allocation}
use Rattle.cube_model.specs.Answer.{total_by}
use Rattle.cube_model.specs.Cells.{cells_of}
use Rattle.cube_model.specs.Facts.{after, withdraw}
use Rattle.cube_model.specs.Limits.{MAX_CELLS, MAX_FACTS, MAX_VALUE}
use Rattle.cube_model.specs.Tree.{Dimension, IsTree}
use Rattle.region_algebra.specs.Space.{IsRegion, all_regions, code_of}
use Rattle.region_algebra.proofs.Tuples.{region-at_code}
use Rattle.fact_groups.specs.Edits.{edited_id, given, taken}
use Rattle.fact_groups.specs.Groups.{Group, column_sums, facts_with, group_at, has_code, spread_at}
use Rattle.fact_groups.proofs.Edits.{count-with, total-with}
use Rattle.fact_groups.proofs.Groups.{first-holds, first-passes, group_at-region}
use Rattle.fact_records.specs.Judge.{fact_refusal}
use Rattle.fact_records.specs.Shape.{IsShape, ShapeValue, width_of_all}
use Rattle.fact_records.specs.Valid.{AreValid, IsEditOver, IsFactOf, IsValid}
use Rattle.cube_state.specs.GroupAfter.{AreValuesWithin, fact_value, fact_with_code, group_total, members_of, number_of, sum_after, sums_after}
use Rattle.cube_state.proofs.Accepting.{AreValid-after, allowed, given-valid}
use Rattle.fact_indexes.proofs.GroupsSoFar.{filter-never, same-columns}
use Rattle.fact_indexes.proofs.ValidFacts.{few-cells, valid-regions}
use Rattle.cube_state.proofs.Seeing.{taken-valid}
use Rattle.fact_records.proofs.SmallValues.{count-accepted, small-accepted}

-- where none passes none is found
pub find-never : {X : Type 0} (p : X → Bool) (xs : List X) → length (filter p xs) ≡ 0 → find p xs ≡ None
find-never p [] none = refl
find-never p (x ∷ xs) none = either (p x) refl none (find-never p xs)
  where
    either : (b : Bool) → p x ≡ b → length (filter p (x ∷ xs)) ≡ 0 → (length (filter p xs) ≡ 0 → find p xs ≡ None) → find p (x ∷ xs) ≡ None
    either true is none rest = let some : suc (length (filter p xs)) ≡ 0 = rw is at none in absurd (omega (arith, some))
    either false is none rest = rw is (rest (rw is at none))

-- numbers of which each is small add up to a small one
total-small : {X : Type 0} (f : X → ℤ) (limit : ℕ) (xs : List X) → All (λ x. nat_abs (f x) ≤ limit) xs → nat_abs (total_by f xs) ≤ length xs * limit
total-small f limit [] each = omega arith
total-small f limit (x ∷ xs) each =
    added (f x) (total_by f xs) (length xs * limit) limit (All-head (λ x. nat_abs (f x) ≤ limit) x xs each) (total-small f limit xs (All-tail (λ x. nat_abs (f x) ≤ limit) x xs each)) (omega arith)
  where
    added : (a b : ℤ) (m n : ℕ) → nat_abs a ≤ n → nat_abs b ≤ m → suc (length xs) * n ≡ n + m → nat_abs (a +ℤ b) ≤ suc (length xs) * n
    added a b m n first second is = omega (arith, ints, first, second, is)

-- a fact of a code counts once
number-at : (dims : List Dimension) (code : ℕ) (fact : Option Fact) → number_of (fact_with_code dims code fact) ≡ option_map_or (λ f. if has_code dims code f then 1 else 0) fact 0
number-at dims code None = refl
number-at dims code (Some fact) = either (has_code dims code fact)
  where
    either : (b : Bool) → number_of (if b then Some fact else None) ≡ (if b then 1 else 0)
    either true = refl
    either false = refl

-- and adds its values
value-at : (dims : List Dimension) (code column : ℕ) (fact : Option Fact)
    → fact_value (fact_with_code dims code fact) column ≡ option_map_or (λ f. if has_code dims code f then slice_index_or f.cols column (pos 0) else pos 0) fact (pos 0)
value-at dims code column None = refl
value-at dims code column (Some fact) = either (has_code dims code fact)
  where
    either : (b : Bool) → fact_value (if b then Some fact else None) column ≡ (if b then slice_index_or fact.cols column (pos 0) else pos 0)
    either true = refl
    either false = refl

-- what holds of a fact holds of it where it has the code
at-holds : (P : Fact → Type 0) (dims : List Dimension) (code : ℕ) (fact : Option Fact) → IfSome fact P → IfSome (fact_with_code dims code fact) P
at-holds P dims code None holds = tt
at-holds P dims code (Some fact) holds = either (has_code dims code fact)
  where
    either : (b : Bool) → IfSome (if b then Some fact else None) P
    either true = holds
    either false = tt

-- what holds of what is there may be weakened
pub IfSome-weaker : {X : Type 0} (P Q : X → Type 0) (o : Option X) → ((x : X) → P x → Q x) → IfSome o P → IfSome o Q
IfSome-weaker P Q None weaker holds = tt
IfSome-weaker P Q (Some x) weaker holds = weaker x holds

-- an edit of facts that a cube may have, which leaves such facts
pub record IsMove (shape : ShapeValue) (dims : List Dimension) (edit : Edit) (facts : List Fact) : Type 0 where
  pub trees : All IsTree dims
  pub over : IsEditOver dims edit
  pub accepted : fact_refusal shape dims edit facts ≡ None
  pub valid : AreValid shape dims facts

pub valid-later : (shape : ShapeValue) (dims : List Dimension) (edit : Edit) (facts : List Fact) → IsMove shape dims edit facts → AreValid shape dims (after edit facts)
valid-later shape dims edit facts is = AreValid-after shape dims edit facts is.over (allowed shape dims edit facts is.accepted) is.valid

-- the facts that it takes and gives
pub taken-of : (shape : ShapeValue) (dims : List Dimension) (edit : Edit) (facts : List Fact) → IsMove shape dims edit facts → IfSome (taken edit facts) (IsFactOf shape dims)
taken-of shape dims edit facts is = taken-valid shape dims edit facts (taken edit facts) is.valid refl

pub given-of : (shape : ShapeValue) (dims : List Dimension) (edit : Edit) (facts : List Fact) → IsMove shape dims edit facts → IfSome (given edit) (IsFactOf shape dims)
given-of shape dims edit facts is =
    IfSome-weaker (IsValid shape dims) (IsFactOf shape dims) (given edit) (λ f one. one.accepted) (given-valid shape dims edit facts is.over (allowed shape dims edit facts is.accepted))

-- the values of a fact are as many as the columns, and small
pub values-within : (shape : ShapeValue) (dims : List Dimension) (code : ℕ) (fact : Option Fact) → IsShape shape → IfSome fact (IsFactOf shape dims) → IfSome (fact_with_code dims code fact) (λ f. AreValuesWithin (width_of_all shape.measures) MAX_VALUE f.cols)
values-within shape dims code fact shaped valid =
    at-holds (λ f. AreValuesWithin (width_of_all shape.measures) MAX_VALUE f.cols) dims code fact
    (IfSome-weaker (IsFactOf shape dims) (λ f. AreValuesWithin (width_of_all shape.measures) MAX_VALUE f.cols) fact
    (λ f of. record { count = count-accepted shape f.cols of.values; small = small-accepted shape f.cols of.values shaped.measures }) valid)

module _ (policy : Policy) (columns : ℕ) (dims : List Dimension) (facts : List Fact) (code : ℕ) where
  abbrev with_spread : Fact → Group
  with_spread f = record { spread = allocation policy dims facts f; count = length (facts_with dims code facts); sums = column_sums columns (facts_with dims code facts) }

  -- where no fact has the code there is no group
  pub group-none : length (facts_with dims code facts) ≡ 0 → None ≡ group_at policy columns dims facts code
  group-none none = sym (ap (option_map with_spread) (find-never (has_code dims code) facts none))

  -- the members of the group are the facts that have the code
  pub members-at : members_of (group_at policy columns dims facts code) ≡ length (facts_with dims code facts)
  members-at = either (find (has_code dims code) facts) refl
    where
      either : (found : Option Fact) → find (has_code dims code) facts ≡ found → members_of (option_map with_spread found) ≡ length (facts_with dims code facts)
      either None none = sym (ap length (filter-never (has_code dims code) facts none))
      either (Some f) is = refl

  -- and its sums are those of their columns
  pub sum-at : (column : ℕ) → column < columns → group_total (group_at policy columns dims facts code) column ≡ total_by (λ f. slice_index_or f.cols column (pos 0)) (facts_with dims code facts)
  sum-at column within = either (find (has_code dims code) facts) refl
    where
      either : (found : Option Fact) → find (has_code dims code) facts ≡ found → group_total (option_map with_spread found) column ≡ total_by (λ f. slice_index_or f.cols column (pos 0)) (facts_with dims code facts)
      either None none = sym (ap (total_by (λ (f : Fact). slice_index_or f.cols column (pos 0))) (filter-never (has_code dims code) facts none))
      either (Some f) is = get_or-map-range_with_len (λ k. total_by (λ f. slice_index_or f.cols k (pos 0)) (facts_with dims code facts)) 0 columns column column (pos 0) within (omega arith)

  few-with : length facts ≤ MAX_FACTS → length (facts_with dims code facts) ≤ MAX_FACTS
  few-with few = omega (arith, few, length-filter (has_code dims code) facts, count_by-le-length (has_code dims code) facts)

  pub few-members : length facts ≤ MAX_FACTS → members_of (group_at policy columns dims facts code) ≤ MAX_FACTS
  few-members few = omega (arith, members-at, few-with few)

-- the region of a code is that of a fact which has it
pub record IsOfFact (shape : ShapeValue) (dims : List Dimension) (code : ℕ) (found : Option (List ℕ)) : Type 0 where
  pub fact : Fact
  pub there : found ≡ Some fact.region
  pub at : code ≡ code_of dims fact.region
  pub valid : IsValid shape dims fact

of-fact : (shape : ShapeValue) (dims : List Dimension) (facts : List Fact) (code : ℕ) (found : Option (List ℕ)) → All IsTree dims → AreValid shape dims facts → found ≡ slice_get (all_regions dims) code → 1 ≤ length (facts_with dims code facts)
    → (first : Option Fact) → find (has_code dims code) facts ≡ first → IsOfFact shape dims code found
of-fact shape dims facts code found trees valid is some None none = absurd (omega (arith, some, ap length (filter-never (has_code dims code) facts none)))
of-fact shape dims facts code found trees valid is some (Some f) first =
    let passes = first-passes (has_code dims code) facts f first in
    let at : code ≡ code_of dims f.region = grind (arith, nat_tests, passes) in
    let one = first-holds (IsValid shape dims) (has_code dims code) facts f valid.each first in
    record { fact = f; there = is ∙ ap (slice_get (all_regions dims)) at ∙ region-at_code dims f.region trees one.accepted.placed.region; at = at; valid = one }

module _ (policy : Policy) (shape : ShapeValue) (dims : List Dimension) (edit : Edit) (facts : List Fact) (move : IsMove shape dims edit facts) (code : ℕ) where
  abbrev columns : ℕ
  columns = width_of_all shape.measures

  abbrev later : List Fact
  later = after edit facts

  abbrev before : Option Group
  before = group_at policy columns dims facts code

  abbrev took : Option Fact
  took = fact_with_code dims code (taken edit facts)

  abbrev gave : Option Fact
  gave = fact_with_code dims code (given edit)

  -- the facts that have the code after the edit are those before, with the one and without the other
  pub members-move : length (facts_with dims code later) + number_of took ≡ members_of before + number_of gave
  members-move =
      omega (
        arith,
        count-with (has_code dims code) edit facts move.valid.ascending,
        number-at dims code (taken edit facts),
        number-at dims code (given edit),
        members-at policy columns dims facts code,
      )

  -- those but for the one of the edit's id are those before without the one that it takes
  pub others-move : length (facts_with dims code (withdraw (edited_id edit) facts)) + number_of took ≡ members_of before
  others-move =
      omega (
        arith,
        count-with (has_code dims code) (Withdraw (edited_id edit)) facts move.valid.ascending,
        number-at dims code (taken edit facts),
        members-at policy columns dims facts code,
      )

  -- the sums of the columns move as the facts do
  sum-move : (column : ℕ) → column < columns → sum_after before took gave column ≡ total_by (λ f. slice_index_or f.cols column (pos 0)) (facts_with dims code later)
  sum-move column within =
      let moved = total-with (λ f. slice_index_or f.cols column (pos 0)) (has_code dims code) edit facts move.valid.ascending in
      let less = value-at dims code column (taken edit facts) in
      let more = value-at dims code column (given edit) in
      let sum = sum-at policy columns dims facts code column within in
      omega (arith, ints, moved, less, more, sum)

  pub sums-move : sums_after columns before took gave ≡ column_sums columns (facts_with dims code later)
  sums-move = same-columns (sum_after before took gave) (λ column. total_by (λ f. slice_index_or f.cols column (pos 0)) (facts_with dims code later)) 0 columns (λ k within. sum-move k (omega (arith, within)))

  -- a column of facts that have the code adds up to little
  value-small : IsShape shape → (column : ℕ) → column < columns → (f : Fact) → IsValid shape dims f → nat_abs (slice_index_or f.cols column (pos 0)) ≤ MAX_VALUE
  value-small shaped column within f one =
      small-accepted shape f.cols one.accepted.values shaped.measures column (pos 0) (omega (arith, within, count-accepted shape f.cols one.accepted.values))

  sum-small : IsShape shape → (column : ℕ) → column < columns → nat_abs (total_by (λ f. slice_index_or f.cols column (pos 0)) (facts_with dims code facts)) ≤ MAX_FACTS * MAX_VALUE
  sum-small shaped column within =
      let small = total-small (λ (f : Fact). slice_index_or f.cols column (pos 0)) MAX_VALUE (facts_with dims code facts)
      (All-filter (has_code dims code) (λ f. nat_abs (slice_index_or f.cols column (pos 0)) ≤ MAX_VALUE) facts
      (All-weaker (IsValid shape dims) (λ f. nat_abs (slice_index_or f.cols column (pos 0)) ≤ MAX_VALUE) (value-small shaped column within) facts move.valid.each)) in
      omega (arith, small, few-with policy columns dims facts code move.valid.few)

  pub sums-within : IsShape shape → IfSome before (λ g. AreValuesWithin columns (MAX_FACTS * MAX_VALUE) g.sums)
  sums-within shaped = either (find (has_code dims code) facts)
    where
      either : (found : Option Fact) → IfSome (option_map (with_spread policy columns dims facts code) found) (λ g. AreValuesWithin columns (MAX_FACTS * MAX_VALUE) g.sums)
      either None = tt
      either (Some f) = record {
        count = length-map-range_with_len (λ k. total_by (λ f. slice_index_or f.cols k (pos 0)) (facts_with dims code facts)) 0 columns;
        small = All-from_get_or (λ value. nat_abs value ≤ MAX_FACTS * MAX_VALUE) (column_sums columns (facts_with dims code facts)) (pos 0)
            (λ k lt.
            let within : k < columns = omega (arith, lt, length-map-range_with_len (λ k. total_by (λ f. slice_index_or f.cols k (pos 0)) (facts_with dims code facts)) 0 columns) in
            subst (λ value. nat_abs value ≤ MAX_FACTS * MAX_VALUE)
            (sym (get_or-map-range_with_len (λ k. total_by (λ f. slice_index_or f.cols k (pos 0)) (facts_with dims code facts)) 0 columns k k (pos 0) within (omega arith)))
            (sum-small shaped k within));
      }

  module _ (found : Option (List ℕ)) (is : found ≡ slice_get (all_regions dims) code) (some : 1 ≤ length (facts_with dims code later)) where
    its : IsOfFact shape dims code found
    its = of-fact shape dims later code found move.trees (valid-later shape dims edit facts move) is some (find (has_code dims code) later) refl

    -- where a fact has the code, it is that of a region
    pub region-there : found ≡ None → ⊥
    region-there none = never (sym none ∙ its.there)
      where
        never : None ≡ Some its.fact.region → ⊥
        never same = cc

    module _ (region : List ℕ) (this : found ≡ Some region) where
      same_region : its.fact.region ≡ region
      same_region = inner (sym its.there ∙ this)
        where
          inner : Some its.fact.region ≡ Some region → its.fact.region ≡ region
          inner same = cc

      pub region-few : length (cells_of dims region) ≤ MAX_CELLS
      region-few = subst (λ r. length (cells_of dims r) ≤ MAX_CELLS) same_region (few-cells dims its.fact.region its.valid.size)

      region-code : code ≡ code_of dims region
      region-code = its.at ∙ ap (code_of dims) same_region

      region-named : IsRegion dims region
      region-named = subst (IsRegion dims) same_region its.valid.accepted.placed.region

      abbrev of_members : List Fact → Group
      of_members members = record { spread = spread_at policy dims facts region; count = length members; sums = column_sums columns members }

      -- the group before is spread as the region is
      pub spread-there : IfSome before (λ g. g.spread ≡ spread_at policy dims facts region)
      spread-there = subst (λ c. IfSome (group_at policy columns dims facts c) (λ g. g.spread ≡ spread_at policy dims facts region)) (sym region-code) (in_region (group_at-region policy columns dims facts region move.trees (valid-regions shape dims facts move.valid) region-named))
        where
          either : (b : Bool) (members : List Fact) → IfSome (if b then None else Some (of_members members)) (λ g. g.spread ≡ spread_at policy dims facts region)
          either true members = tt
          either false members = refl

          in_region : group_at policy columns dims facts (code_of dims region) ≡ (if length (facts_with dims (code_of dims region) facts) == 0 then None else Some (of_members (facts_with dims (code_of dims region) facts)))
              → IfSome (group_at policy columns dims facts (code_of dims region)) (λ g. g.spread ≡ spread_at policy dims facts region)
          in_region at = subst (λ o. IfSome o (λ g. g.spread ≡ spread_at policy dims facts region)) (sym at) (either (length (facts_with dims (code_of dims region) facts) == 0) (facts_with dims (code_of dims region) facts))

      abbrev of_later : ℕ → Group
      of_later c = record { spread = spread_at policy dims later region; count = length (facts_with dims c later); sums = column_sums columns (facts_with dims c later) }

      -- the group after
      pub group-made : Some (of_later code) ≡ group_at policy columns dims later code
      group-made =
          let at = group_at-region policy columns dims later region move.trees (valid-regions shape dims later (valid-later shape dims edit facts move)) region-named in
          let many : (length (facts_with dims (code_of dims region) later) == 0) ≡ false = subst (λ c. (length (facts_with dims c later) == 0) ≡ false) region-code (grind (arith, nat_tests, some)) in
          subst (λ c. Some (of_later c) ≡ group_at policy columns dims later c) (sym region-code) (sym (at ∙ ap {B = Option Group} (λ (b : Bool). if b then None else Some (of_later (code_of dims region))) many))
