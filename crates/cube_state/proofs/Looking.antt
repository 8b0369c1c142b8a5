-- The allocation of a fact, by its id and by the group of its region.
use Rattle.std.proofs.Common.{◌≡◌, ℕ, zero, suc, ◌<◌, Bool, true, false, Bor, List, [], ◌∷◌, get_or, length, map, refl, ap, sym, ◌∙◌, subst, arith}
use Rattle.std.specs.Prelude.{All, AllPairs, Ok, filter, find, ◌==◌, if◌then◌else◌, Option, Some, None}
use Rattle.std.specs.Option.{option_copied, option_map}
use Rattle.std.proofs.lemmas.Bool.Decides.{nat_tests}
use Rattle.cube_model.specs.declared.edit.Fact.{Fact}
use Rattle.cube_model.specs.declared.statistic.CellStat.{CellStat}
use Rattle.cube_model.specs.Allocation.{Allocation, ExtendedFact, Policy, allocation, allocation_of, extended, weight_of}
use Rattle.cube_model.specs.Cells.{AreRows}
use Rattle.cube_model.specs.Tree.{Dimension, IsTree}
use Rattle.region_algebra.specs.Space.{IsRegion, code_of}
use Rattle.staged_map.specs.Staged.{value_at}
use Rattle.alloc_rows.proofs.Spreading.{AreRows-spreads}
use Rattle.fact_groups.specs.Groups.{Group, column_sums, facts_with, group_at, has_code, spread_at}
use Rattle.fact_groups.proofs.Ascending.{pairs-first, pairs-rest}
use Rattle.fact_groups.proofs.Groups.{first-holds, group_at-region}
use Rattle.fact_groups.proofs.Sharing.{allocation-spread_at}
use Rattle.fact_records.specs.Shape.{ShapeValue, width_of_all}
use Rattle.fact_records.specs.Valid.{AreValid}
use Rattle.fact_indexes.specs.Kept.{IsState}
use Rattle.fact_indexes.proofs.ValidFacts.{valid-regions}
use Rattle.cube_state.specs.State.{StateValue, policy_in, rows_in}

-- of facts in order of their ids, the one with the id of each is that one
pub find-itself : (facts : List Fact) → AllPairs (λ f g. f.id < g.id) facts → All (λ f. find (λ g. g.id == f.id) facts ≡ Some f) facts
find-itself [] up k d within = absurd (omega arith)
find-itself (fact ∷ facts) up zero d within = let here : (fact.id == fact.id) ≡ true = grind (arith, nat_tests) in rw here refl
find-itself (fact ∷ facts) up (suc k) d within =
    let before = pairs-first (λ f g. f.id < g.id) fact facts up k d (omega (arith, within)) in
    let other : (fact.id == (get_or facts k d).id) ≡ false = grind (arith, nat_tests, before) in
    rw other (find-itself facts (pairs-rest (λ f g. f.id < g.id) fact facts up) k d (omega (arith, within)))

module _ (policy : Policy) (dims : List Dimension) (facts : List Fact) where
  abbrev extended_fact : Fact → ExtendedFact
  extended_fact f = record { id = f.id; values = f.cols; allocation = allocation policy dims facts f }

  found-extended : (id : ℕ) (some : List Fact) → option_map (λ (e : ExtendedFact). e.allocation) (find (λ (e : ExtendedFact). e.id == id) (map extended_fact some)) ≡ option_map (allocation policy dims facts) (find (λ f. f.id == id) some)
  found-extended id [] = refl
  found-extended id (f ∷ some) = either (f.id == id) refl (found-extended id some)
    where
      either : (b : Bool) → (f.id == id) ≡ b → option_map (λ (e : ExtendedFact). e.allocation) (find (λ (e : ExtendedFact). e.id == id) (map extended_fact some)) ≡ option_map (allocation policy dims facts) (find (λ f. f.id == id) some)
          → option_map (λ (e : ExtendedFact). e.allocation) (find (λ (e : ExtendedFact). e.id == id) (map extended_fact (f ∷ some))) ≡ option_map (allocation policy dims facts) (find (λ f. f.id == id) (f ∷ some))
      either true is rest = rw is refl
      either false is rest = rw is rest

  -- the allocation of an id is that of the fact that has it
  pub allocation_of-found : (id : ℕ) → allocation_of id (extended policy dims facts) ≡ option_map (allocation policy dims facts) (find (λ f. f.id == id) facts)
  unfolding extended
  allocation_of-found id = found-extended id facts

some-same : (a b : Allocation) → Some a ≡ Some b → a ≡ b
some-same a b is = cc

-- where a fact is found that passes a test, some fact does
pub some-passes : (p q : Fact → Bool) (facts : List Fact) (fact : Fact) → find p facts ≡ Some fact → q fact ≡ true → (length (filter q facts) == 0) ≡ false
some-passes p q [] fact found passes = cc
some-passes p q (f ∷ facts) fact found passes = either (p f) (q f) refl refl found (some-passes p q facts fact)
  where
    either : (a b : Bool) → p f ≡ a → q f ≡ b → find p (f ∷ facts) ≡ Some fact → (find p facts ≡ Some fact → q fact ≡ true → (length (filter q facts) == 0) ≡ false) → (length (filter q (f ∷ facts)) == 0) ≡ false
    either a true is also found rest = rw also (grind (arith, nat_tests))
    either true false is also found rest = let here : Some f ≡ Some fact = rw is at found in let its : f ≡ fact = cc in let no = ap q its in cc
    either false false is also found rest = rw also (rest (rw is at found) passes)

module _ (policy : Policy) (columns : ℕ) (dims : List Dimension) (facts : List Fact) (trees : All IsTree dims) (regions : All (λ f. IsRegion dims f.region) facts) where
  -- the group of a fact's region is there, and spread as the fact is
  pub group-found : (id : ℕ) (fact : Fact) → find (λ f. f.id == id) facts ≡ Some fact
      → option_map (λ (g : Group). g.spread) (group_at policy columns dims facts (code_of dims fact.region)) ≡ Some (allocation policy dims facts fact)
  group-found id fact found =
      let region = fact.region in
      let some = some-passes (λ f. f.id == id) (has_code dims (code_of dims region)) facts fact found (grind (arith, nat_tests)) in
      let named = first-holds (λ f. IsRegion dims f.region) (λ f. f.id == id) facts fact regions found in
      ap (option_map (λ (g : Group). g.spread)) (group_at-region policy columns dims facts region trees regions named)
      ∙ ap (λ (b : Bool). option_map (λ (g : Group). g.spread) (if b then None else Some (record { spread = spread_at policy dims facts region; count = length (facts_with dims (code_of dims region) facts); sums = column_sums columns (facts_with dims (code_of dims region) facts) }))) some
      ∙ ap Some (sym (allocation-spread_at policy dims facts fact))

-- the region of a fact that is found is one of the space
pub found-region : (shape : ShapeValue) (dims : List Dimension) (facts : List Fact) (id : ℕ) (found : Option Fact) (fact : Fact) → AreValid shape dims facts
    → found ≡ find (λ f. f.id == id) facts → found ≡ Some fact → IsRegion dims fact.region
found-region shape dims facts id found fact valid is some =
    first-holds (λ f. IsRegion dims f.region) (λ f. f.id == id) facts fact (valid-regions shape dims facts valid) (sym is ∙ some)

module _ {P : Type 0} (weigh : P → CellStat → ℕ) (state seen : StateValue P) (same : seen ≡ state) (id : ℕ) (found : Option Fact) (is : found ≡ find (λ f. f.id == id) seen.facts) where
  abbrev here : Policy
  here = policy_in weigh seen

  -- an id that is not there has no allocation
  pub looked-none : found ≡ None → None ≡ allocation_of id (rows_in weigh state)
  looked-none none =
      let nothing : find (λ f. f.id == id) seen.facts ≡ None = sym is ∙ none in
      sym (allocation_of-found here seen.dims seen.facts id ∙ ap (option_map (allocation here seen.dims seen.facts)) nothing)
      ∙ ap (λ s. allocation_of id (rows_in weigh s)) same

  module _ (fact : Fact) (code : ℕ) (there : Option (Bor Group)) (some : found ≡ Some fact) (at : code ≡ code_of seen.dims fact.region)
      (kept : IsState here seen.shape seen.dims seen.cuts seen.facts seen.kept) (trees : All IsTree seen.dims) (has : option_copied there ≡ value_at seen.kept.groups code) where
    its : find (λ f. f.id == id) seen.facts ≡ Some fact
    its = sym is ∙ some

    of_group : option_map (λ (g : Group). g.spread) (option_copied there) ≡ Some (allocation here seen.dims seen.facts fact)
    of_group =
        ap (option_map (λ (g : Group). g.spread)) (has ∙ kept.groups code ∙ ap (group_at here (width_of_all seen.shape.measures) seen.dims seen.facts) at)
        ∙ group-found here (width_of_all seen.shape.measures) seen.dims seen.facts trees (valid-regions seen.shape seen.dims seen.facts kept.valid) id fact its

    of_id : Some (allocation here seen.dims seen.facts fact) ≡ allocation_of id (rows_in weigh state)
    of_id =
        sym (allocation_of-found here seen.dims seen.facts id ∙ ap (option_map (allocation here seen.dims seen.facts)) its)
        ∙ ap (λ s. allocation_of id (rows_in weigh s)) same

    -- a fact that is there has a group
    pub looked-never : there ≡ None → None ≡ allocation_of id (rows_in weigh state)
    looked-never none = ap (option_map (λ (g : Group). g.spread)) (sym (ap option_copied none)) ∙ of_group ∙ of_id

    module _ (group : Bor Group) (shown : Group) (held : there ≡ Some group) (views : shown ≡ group.now) where
      shown-spread : Some shown.spread ≡ Some (allocation here seen.dims seen.facts fact)
      shown-spread = ap (λ (g : Group). Some g.spread) views ∙ sym (ap (λ o. option_map (λ (g : Group). g.spread) (option_copied o)) held) ∙ of_group

      -- which is spread as the fact is
      pub looked-some : Some shown.spread ≡ allocation_of id (rows_in weigh state)
      looked-some = shown-spread ∙ of_id

      pub looked-cells : AreRows state.dims shown.spread.rows
      unfolding spread_at
      looked-cells =
          let a = shown.spread in
          let spread : a ≡ spread_at here seen.dims seen.facts fact.region = some-same a (allocation here seen.dims seen.facts fact) shown-spread ∙ allocation-spread_at here seen.dims seen.facts fact in
          subst (λ (s : StateValue P). AreRows s.dims a.rows) same (AreRows-spreads {E = ℕ} (Ok a) (weight_of here seen.dims seen.facts) seen.dims fact.region spread)
