-- The groups that a state keeps, place by place, are those of its facts.
use Rattle.std.proofs.Common.{◌≡◌, ℕ, zero, suc, ◌<◌, Bool, true, false, List, [], ◌∷◌, eqb, get_or, length, refl, ap, sym, ◌∙◌, arith}
use Rattle.std.specs.Prelude.{All, Ok, find, is_some, slice_get, ◌==◌, if◌then◌else◌, Option, Some, None}
use Rattle.std.specs.List.{AllByRecursion, IsDistinct, count_by, filter_map}
use Rattle.std.specs.Map.{keys_of, lookup, values_of}
use Rattle.std.specs.Option.{option_and_then, option_flatten, option_map}
use Rattle.std.proofs.lemmas.Bool.Decides.{nat_tests}
use Rattle.std.proofs.lemmas.Cmp.{nat_eq_equiv}
use Rattle.std.proofs.lemmas.List.Elements.{All-head, All-tail}
use Rattle.std.proofs.lemmas.List.Sums.{sum_by-cons}
use Rattle.std.proofs.lemmas.Map.Entries.{lookup_from_place}
use Rattle.std.proofs.lemmas.Map.Keys.{IsDistinct-head, IsDistinct-tail}
use Rattle.std.proofs.lemmas.Option.{same_Some, slice_get-get_or}
use Rattle.cube_model.specs.declared.edit.Fact.{Fact}
use Rattle.cube_model.specs.Allocation.{Policy, allocation, weight_of}
use Rattle.cube_model.specs.Cells.{AreRows}
use Rattle.cube_model.specs.Tree.{Dimension, IsTree}
use Rattle.region_algebra.specs.Space.{IsRegion, code_of}
use Rattle.staged_map.specs.Staged.{Places, held, held_of, value_at}
use Rattle.staged_map.proofs.Held.{lookup-held}
use Rattle.alloc_rows.proofs.Spreading.{AreRows-spreads}
use Rattle.fact_groups.specs.Groups.{AreGrouped, Group, column_sums, facts_with, group_at, groups_at, has_code}

-- a key with a value at a place has that value
held-value : (places : Places Group) (i code : ℕ) (g : Group) → IsDistinct eqb (keys_of places) → option_and_then held_of (slice_get places i) ≡ Some (code, g) → value_at places code ≡ Some g
held-value places i code g distinct is = by (slice_get places i) refl is
  where
    read : (k : ℕ) (value : Option Group) → slice_get places i ≡ Some (k, value) → held_of (k, value) ≡ Some (code, g) → value_at places code ≡ Some g
    read k None at is = cc
    read k (Some v) at is =
        let here : ℕ × Group = (k, v) in
        let there : ℕ × Group = (code, g) in
        let pair : here ≡ there = same_Some here there is in
        let key : k ≡ code = ap (λ (e : ℕ × Group). e.0) pair in
        let value : v ≡ g = ap (λ (e : ℕ × Group). e.1) pair in
        let found : lookup (eqb k) places ≡ Some (Some v) = lookup_from_place nat_eq_equiv places i k (Some v) distinct at in
        ap (value_at places) (sym key) ∙ ap option_flatten found ∙ ap Some value

    by : (place : Option (ℕ × Option Group)) → slice_get places i ≡ place → option_and_then held_of place ≡ Some (code, g) → value_at places code ≡ Some g
    by None at is = cc
    by (Some (k, value)) at is = read k value at is

-- a key that has a value is once among the keys
once-held : {V : Type 0} (c : ℕ) (entries : List (ℕ × V)) → IsDistinct eqb (keys_of entries) → is_some (lookup (λ k. c == k) entries) ≡ true → count_by (λ k. c == k) (keys_of entries) ≡ 1
once-held c [] distinct there = cc
once-held {V} c (entry ∷ entries) distinct there = by (c == entry.0) refl there (once-held c entries (IsDistinct-tail eqb entry.0 (keys_of entries) distinct))
  where
    never : (k : ℕ) (keys : List ℕ) → c ≡ k → AllByRecursion (λ y. eqb k y ≡ false) keys → count_by (λ y. c == y) keys ≡ 0
    never k [] same apart = refl
    never k (y ∷ keys) same apart =
        let other : (c == y) ≡ false = ap (λ x. eqb x y) same ∙ apart.0 in
        omega (arith, sum_by-cons (λ y. if c == y then 1 else 0) y keys, ap {B = ℕ} (λ b. if b then 1 else 0) other, never k keys same apart.1)

    by : (b : Bool) → (c == entry.0) ≡ b → is_some (lookup (λ k. c == k) (entry ∷ entries)) ≡ true → (is_some (lookup (λ k. c == k) entries) ≡ true → count_by (λ k. c == k) (keys_of entries) ≡ 1)
        → count_by (λ k. c == k) (keys_of (entry ∷ entries)) ≡ 1
    by true is there rest =
        let same : c ≡ entry.0 = grind (arith, nat_tests, is) in
        omega (
          arith,
          sum_by-cons (λ k. if c == k then 1 else 0) entry.0 (keys_of entries),
          ap {B = ℕ} (λ b. if b then 1 else 0) is,
          never entry.0 (keys_of entries) same (IsDistinct-head eqb entry.0 (keys_of entries) distinct),
        )
    by false is there rest =
        let behind : is_some (lookup (λ k. c == k) entries) ≡ true = rw is at there in
        omega (arith, sum_by-cons (λ k. if c == k then 1 else 0) entry.0 (keys_of entries), ap {B = ℕ} (λ b. if b then 1 else 0) is, rest behind)

-- what keys give, where each gives its value
given-values : (h : ℕ → Option Group) (entries : List (ℕ × Group)) → All (λ e. h e.0 ≡ Some e.1) entries → filter_map h (keys_of entries) ≡ values_of entries
given-values h [] each = refl
given-values h (entry ∷ entries) each =
    let here : h entry.0 ≡ Some entry.1 = All-head (λ (e : ℕ × Group). h e.0 ≡ Some e.1) entry entries each in
    rw (here, given-values h entries (All-tail (λ (e : ℕ × Group). h e.0 ≡ Some e.1) entry entries each)) refl

-- a fact's code has a group
fact-grouped : (policy : Policy) (columns : ℕ) (dims : List Dimension) (facts : List Fact) (k : ℕ) (d : Fact) → k < length facts → is_some (group_at policy columns dims facts (code_of dims (get_or facts k d).region)) ≡ true
fact-grouped policy columns dims facts k d within = by (find (has_code dims (code_of dims (get_or facts k d).region)) facts) (there facts k within (grind (arith, nat_tests)))
  where
    there : (some : List Fact) (j : ℕ) → j < length some → has_code dims (code_of dims (get_or facts k d).region) (get_or some j d) ≡ true → is_some (find (has_code dims (code_of dims (get_or facts k d).region)) some) ≡ true
    there [] j within is = absurd (omega (arith, within))
    there (f ∷ some) zero within is = rw is refl
    there (f ∷ some) (suc j) within is = pass (has_code dims (code_of dims (get_or facts k d).region) f) (there some j (omega (arith, within)) is)
      where
        pass : (b : Bool) → is_some (find (has_code dims (code_of dims (get_or facts k d).region)) some) ≡ true → is_some (if b then Some f else find (has_code dims (code_of dims (get_or facts k d).region)) some) ≡ true
        pass true rest = refl
        pass false rest = rest

    by : (found : Option Fact) → is_some found ≡ true
        → is_some {T = Group} (option_map (λ f. record { spread = allocation policy dims facts f; count = length (facts_with dims (code_of dims (get_or facts k d).region) facts); sums = column_sums columns (facts_with dims (code_of dims (get_or facts k d).region) facts) }) found) ≡ true
    by None none = cc
    by (Some f) some = refl

-- the rows of a group are of cells
pub group-rows : (policy : Policy) (columns : ℕ) (dims : List Dimension) (facts : List Fact) (code : ℕ) (g : Group) → group_at policy columns dims facts code ≡ Some g → AreRows dims g.spread.rows
unfolding allocation
group-rows policy columns dims facts code g is = by (find (has_code dims code) facts) is
  where
    by : (found : Option Fact) → option_map (λ f. record { spread = allocation policy dims facts f; count = length (facts_with dims code facts); sums = column_sums columns (facts_with dims code facts) }) found ≡ Some g → AreRows dims g.spread.rows
    by None none = cc
    by (Some f) some =
        let whole : Group = record { spread = allocation policy dims facts f; count = length (facts_with dims code facts); sums = column_sums columns (facts_with dims code facts) } in
        let same : whole ≡ g = same_Some whole g some in
        let spread : g.spread ≡ allocation policy dims facts f = sym (ap (λ (x : Group). x.spread) same) in
        AreRows-spreads {E = ℕ} (Ok g.spread) (weight_of policy dims facts) dims f.region spread

module _ (policy : Policy) (columns : ℕ) (dims : List Dimension) (facts : List Fact) (places : Places Group) (kept : (code : ℕ) → value_at places code ≡ group_at policy columns dims facts code) where
  pub held-group : (i code : ℕ) (g : Group) → IsDistinct eqb (keys_of places) → option_and_then held_of (slice_get places i) ≡ Some (code, g) → group_at policy columns dims facts code ≡ Some g
  held-group i code g distinct is = sym (kept code) ∙ held-value places i code g distinct is

  module _ (distinct : IsDistinct eqb (keys_of places)) (once : IsDistinct eqb (keys_of (held places))) where
    held-are : All (λ e. group_at policy columns dims facts e.0 ≡ Some e.1) (held places)
    held-are k d within =
        let entry = get_or (held places) k d in
        let found : lookup (eqb entry.0) (held places) ≡ Some entry.1 = lookup_from_place nat_eq_equiv (held places) k entry.0 entry.1 once (slice_get-get_or (held places) k d within) in
        sym (kept entry.0) ∙ sym (lookup-held places entry.0 distinct) ∙ found

    -- the groups at the keys are those that are held
    pub groups-held : groups_at policy columns dims facts (keys_of (held places)) ≡ values_of (held places)
    groups-held = given-values (group_at policy columns dims facts) (held places) held-are

    -- and they are all
    pub grouped-held : All IsTree dims → All (λ f. IsRegion dims f.region) facts → AreGrouped dims facts (keys_of (held places))
    grouped-held trees regions = record {
      trees = trees;
      regions = regions;
      held = λ k d within.
          let code = code_of dims (get_or facts k d).region in
          once-held code (held places) once
          (ap (λ (o : Option Group). is_some o) (lookup-held places code distinct ∙ kept code) ∙ fact-grouped policy columns dims facts k d within);
    }
