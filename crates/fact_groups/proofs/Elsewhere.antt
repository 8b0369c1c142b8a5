-- Groups of which an edit takes no fact and to which it gives none.
use Rattle.std.proofs.Common.{◌≡◌, ℕ, ◌<◌, Bool, true, false, List, [], ◌∷◌, ◌++◌, length, refl, ap, sym, ◌∙◌, arith}
use Rattle.std.specs.Prelude.{All, AllPairs, IfSome, Option, Some, None, filter, find, not, nat_lt, ◌&&◌, ◌==◌, slice_get}
use Rattle.std.specs.Option.{option_map, option_map_or}
use Rattle.std.proofs.lemmas.Bool.Decides.{nat_tests}
use Rattle.std.proofs.lemmas.List.Elements.{All-head, All-tail, All-weaker, filter-append}
use Rattle.cube_model.specs.declared.edit.Edit.{Edit}
use Rattle.cube_model.specs.declared.edit.Edit.TheVariants.{Put, Change, Withdraw}
use Rattle.cube_model.specs.declared.edit.Fact.{Fact}
use Rattle.cube_model.specs.Allocation.{Allocation, Policy, allocation}
use Rattle.cube_model.specs.Cells.{is_among}
use Rattle.cube_model.specs.Facts.{after, is_precise, put, withdraw}
use Rattle.cube_model.specs.Tree.{Dimension}
use Rattle.region_algebra.specs.Space.{code_of}
use Rattle.fact_groups.specs.Changes.{HasCodesOf, covers_any, holds_any, reweighed_cells}
use Rattle.fact_groups.specs.Edits.{given, taken}
use Rattle.fact_groups.specs.Groups.{Group, HaveSameGroupsBut, column_sums, facts_with, group_at, has_code}
use Rattle.fact_groups.proofs.Ascending.{pairs-first, pairs-rest}
use Rattle.fact_groups.proofs.Edits.{greater, put-withdraw, smaller}
use Rattle.fact_groups.proofs.Frame.{spread_at-uncovered}
use Rattle.fact_groups.proofs.Groups.{first-holds, first-passes}
use Rattle.fact_groups.proofs.Sharing.{allocation-spread_at}
use Rattle.fact_groups.proofs.Statistics.{among-filter}

-- of facts with greater ids none is smaller, all are greater, and none is withdrawn
all-greater : (id : ℕ) (facts : List Fact) → All (λ f. id < f.id) facts → (smaller id facts ≡ []) × (greater id facts ≡ facts) × (withdraw id facts ≡ facts)
all-greater id [] above = (refl, refl, refl)
all-greater id (fact ∷ facts) above =
    let here : id < fact.id = All-head (λ f. id < f.id) fact facts above in
    let rest = all-greater id facts (All-tail (λ f. id < f.id) fact facts above) in
    let not_smaller : nat_lt fact.id id ≡ false = grind (arith, nat_tests) in
    let is_greater : nat_lt id fact.id ≡ true = grind (arith, nat_tests) in
    let is_other : not (fact.id == id) ≡ true = grind (arith, nat_tests) in
    (rw not_smaller rest.0, rw is_greater (ap (λ fs. fact ∷ fs) rest.1), rw is_other (ap (λ fs. fact ∷ fs) rest.2))

-- what passes a test stays where the fact of the id, if there is one, does not pass
module _ (p : Fact → Bool) (id : ℕ) where
  kept-around : (facts : List Fact) → AllPairs (λ f g. f.id < g.id) facts → option_map_or p (find (λ f. f.id == id) facts) false ≡ false → filter p (smaller id facts) ++ filter p (greater id facts) ≡ filter p facts
  kept-around [] up fails = refl
  kept-around (fact ∷ facts) up fails =
      either (nat_lt fact.id id) (fact.id == id) (p fact) refl refl refl fails
      (kept-around facts (pairs-rest (λ f g. f.id < g.id) fact facts up))
      (λ above. all-greater id facts (All-weaker (λ f. fact.id < f.id) (λ f. id < f.id) above facts (pairs-first (λ f g. f.id < g.id) fact facts up)))
    where
      either : (lt eq passes : Bool) → nat_lt fact.id id ≡ lt → (fact.id == id) ≡ eq → p fact ≡ passes → option_map_or p (find (λ f. f.id == id) (fact ∷ facts)) false ≡ false
          → (option_map_or p (find (λ f. f.id == id) facts) false ≡ false → filter p (smaller id facts) ++ filter p (greater id facts) ≡ filter p facts)
          → (((f : Fact) → fact.id < f.id → id < f.id) → (smaller id facts ≡ []) × (greater id facts ≡ facts) × (withdraw id facts ≡ facts))
          → filter p (smaller id (fact ∷ facts)) ++ filter p (greater id (fact ∷ facts)) ≡ filter p (fact ∷ facts)
      either true true passes below same may fails rest all = absurd (grind (arith, nat_tests))
      either true false true below other may fails rest all =
          let not_greater : nat_lt id fact.id ≡ false = grind (arith, nat_tests) in
          rw (below, not_greater, may) (ap (λ fs. fact ∷ fs) (rest (rw other at fails)))
      either true false false below other may fails rest all =
          let not_greater : nat_lt id fact.id ≡ false = grind (arith, nat_tests) in
          rw (below, not_greater, may) (rest (rw other at fails))
      either false true true below same may fails rest all = let passes : p fact ≡ false = rw same at fails in cc
      either false true false below same may fails rest all =
          let not_greater : nat_lt id fact.id ≡ false = grind (arith, nat_tests) in
          let others = all (λ f above. grind (arith, nat_tests)) in
          rw (below, not_greater, may, others.0, others.1) refl
      either false false passes below other may fails rest all =
          let is_greater : nat_lt id fact.id ≡ true = grind (arith, nat_tests) in
          let others = all (λ f above. grind (arith, nat_tests)) in
          rw (below, is_greater, others.0, others.1) refl

  kept-without : (facts : List Fact) → AllPairs (λ f g. f.id < g.id) facts → option_map_or p (find (λ f. f.id == id) facts) false ≡ false → filter p (withdraw id facts) ≡ filter p facts
  kept-without [] up fails = refl
  kept-without (fact ∷ facts) up fails =
      either (fact.id == id) (p fact) refl refl fails
      (kept-without facts (pairs-rest (λ f g. f.id < g.id) fact facts up))
      (λ above. all-greater id facts (All-weaker (λ f. fact.id < f.id) (λ f. id < f.id) above facts (pairs-first (λ f g. f.id < g.id) fact facts up)))
    where
      either : (eq passes : Bool) → (fact.id == id) ≡ eq → p fact ≡ passes → option_map_or p (find (λ f. f.id == id) (fact ∷ facts)) false ≡ false
          → (option_map_or p (find (λ f. f.id == id) facts) false ≡ false → filter p (withdraw id facts) ≡ filter p facts)
          → (((f : Fact) → fact.id < f.id → id < f.id) → (smaller id facts ≡ []) × (greater id facts ≡ facts) × (withdraw id facts ≡ facts))
          → filter p (withdraw id (fact ∷ facts)) ≡ filter p (fact ∷ facts)
      either true true same may fails rest all = let passes : p fact ≡ false = rw same at fails in cc
      either true false same may fails rest all =
          let others = all (λ f above. grind (arith, nat_tests)) in
          rw (same, may, others.2) refl
      either false true other may fails rest all = rw (other, may) (ap (λ fs. fact ∷ fs) (rest (rw other at fails)))
      either false false other may fails rest all = rw (other, may) (rest (rw other at fails))

kept-put : (p : Fact → Bool) (fact : Fact) (facts : List Fact) → AllPairs (λ f g. f.id < g.id) facts → option_map_or p (find (λ f. f.id == fact.id) facts) false ≡ false → p fact ≡ false → filter p (put fact facts) ≡ filter p facts
kept-put p fact facts up fails fact_fails =
    let skipped : filter p (fact ∷ greater fact.id facts) ≡ filter p (greater fact.id facts) = rw fact_fails refl in
    filter-append p (smaller fact.id facts) (fact ∷ greater fact.id facts) ∙ ap (λ fs. filter p (smaller fact.id facts) ++ fs) skipped ∙ kept-around p fact.id facts up fails

-- where neither the fact that is taken nor the one that is given passes a test, those that pass are the same
pub filter-after : (p : Fact → Bool) (edit : Edit) (facts : List Fact) → AllPairs (λ f g. f.id < g.id) facts → option_map_or p (taken edit facts) false ≡ false → option_map_or p (given edit) false ≡ false
    → filter p (after edit facts) ≡ filter p facts
filter-after p (Put fact) facts up took gave = kept-put p fact facts up took gave
filter-after p (Change fact) facts up took gave = ap (filter p) (put-withdraw fact facts) ∙ kept-put p fact facts up took gave
filter-after p (Withdraw id) facts up took gave = kept-without p id facts up took

-- the first that passes is the first of those that pass
pub find-first : (p : Fact → Bool) (facts : List Fact) → find p facts ≡ slice_get (filter p facts) 0
find-first p [] = refl
find-first p (fact ∷ facts) = either (p fact) refl (find-first p facts)
  where
    either : (b : Bool) → p fact ≡ b → find p facts ≡ slice_get (filter p facts) 0 → find p (fact ∷ facts) ≡ slice_get (filter p (fact ∷ facts)) 0
    either true is rest = rw is refl
    either false is rest = rw is rest

-- so the group of a code stays where neither fact has it, and none of its facts covers a cell that is reweighed
module _ (policy : Policy) (columns : ℕ) (dims : List Dimension) (edit : Edit) (facts : List Fact) (up : AllPairs (λ f g. f.id < g.id) facts) (code : ℕ) where
  abbrev whole : Allocation → List Fact → Group
  whole spread members = record { spread = spread; count = length members; sums = column_sums columns members }

  pub group_at-uncovered : option_map_or (has_code dims code) (taken edit facts) false ≡ false → option_map_or (has_code dims code) (given edit) false ≡ false
      → All (λ f. has_code dims code f ≡ true → covers_any dims (reweighed_cells policy dims edit facts) f ≡ false) facts
      → group_at policy columns dims (after edit facts) code ≡ group_at policy columns dims facts code
  group_at-uncovered took gave elsewhere =
      let members : facts_with dims code (after edit facts) ≡ facts_with dims code facts = filter-after (has_code dims code) edit facts up took gave in
      let found : find (has_code dims code) (after edit facts) ≡ find (has_code dims code) facts =
      find-first (has_code dims code) (after edit facts) ∙ ap (λ (fs : List Fact). slice_get fs 0) members ∙ sym (find-first (has_code dims code) facts) in
      ap (option_map (λ f. whole (allocation policy dims (after edit facts) f) (facts_with dims code (after edit facts)))) found
      ∙ ap (λ (fs : List Fact). option_map (λ f. whole (allocation policy dims (after edit facts) f) fs) (find (has_code dims code) facts)) members
      ∙ either (find (has_code dims code) facts) refl
    where
      either : (o : Option Fact) → find (has_code dims code) facts ≡ o
          → option_map (λ f. whole (allocation policy dims (after edit facts) f) (facts_with dims code facts)) o ≡ option_map (λ f. whole (allocation policy dims facts f) (facts_with dims code facts)) o
      either None is = refl
      either (Some f) is =
          let none = first-holds (λ f. has_code dims code f ≡ true → covers_any dims (reweighed_cells policy dims edit facts) f ≡ false) (has_code dims code) facts f elsewhere is (first-passes (has_code dims code) facts f is) in
          let spread : allocation policy dims (after edit facts) f ≡ allocation policy dims facts f =
          allocation-spread_at policy dims (after edit facts) f ∙ spread_at-uncovered policy dims edit facts up f none ∙ sym (allocation-spread_at policy dims facts f) in
          ap (λ a. Some (whole a (facts_with dims code facts))) spread

  -- and where no region of its facts holds such a cell
  pub group_at-kept : option_map_or (has_code dims code) (taken edit facts) false ≡ false → option_map_or (has_code dims code) (given edit) false ≡ false
      → All (λ f. has_code dims code f ≡ true → holds_any dims f.region (reweighed_cells policy dims edit facts) ≡ false) facts
      → group_at policy columns dims (after edit facts) code ≡ group_at policy columns dims facts code
  group_at-kept took gave elsewhere =
      group_at-uncovered took gave (All-weaker (λ f. has_code dims code f ≡ true → holds_any dims f.region (reweighed_cells policy dims edit facts) ≡ false) (λ f. has_code dims code f ≡ true → covers_any dims (reweighed_cells policy dims edit facts) f ≡ false)
      (λ f none has. neither (is_precise dims f) (holds_any dims f.region (reweighed_cells policy dims edit facts)) (none has)) facts elsewhere)
    where
      neither : (a b : Bool) → b ≡ false → (not a && b) ≡ false
      neither true b none = refl
      neither false b none = none

  -- a code that is not among those of an edit is that of no fact which it takes or gives, nor of one that covers a cell which it reweighs
  pub group_at-other : (codes : List ℕ) → HasCodesOf policy dims edit facts codes → is_among codes code ≡ false → group_at policy columns dims (after edit facts) code ≡ group_at policy columns dims facts code
  group_at-other codes has other =
      group_at-uncovered (not_its (taken edit facts) has.took) (not_its (given edit) has.gave)
      (All-weaker (λ f. covers_any dims (reweighed_cells policy dims edit facts) f ≡ true → is_among codes (code_of dims f.region) ≡ true) (λ f. has_code dims code f ≡ true → covers_any dims (reweighed_cells policy dims edit facts) f ≡ false)
      (λ f among here. not_covering (code_of dims f.region) (covers_any dims (reweighed_cells policy dims edit facts) f) here among) facts has.covering)
    where
      not_among : (c : ℕ) → is_among codes c ≡ true → (c == code) ≡ false
      not_among c among = elsewhere (c == code) refl
        where
          elsewhere : (b : Bool) → (c == code) ≡ b → (c == code) ≡ false
          elsewhere true is = let its : c ≡ code = grind (arith, nat_tests) in let alike = ap (is_among codes) its in cc
          elsewhere false is = is

      not_its : (fact : Option Fact) → IfSome fact (λ f. is_among codes (code_of dims f.region) ≡ true) → option_map_or (has_code dims code) fact false ≡ false
      not_its None among = refl
      not_its (Some f) among = not_among (code_of dims f.region) among

      not_covering : (c : ℕ) (covers : Bool) → (c == code) ≡ true → (covers ≡ true → is_among codes c ≡ true) → covers ≡ false
      not_covering c true here among = let none = not_among c (among refl) in cc
      not_covering c false here among = refl

-- codes at which the groups are the same can be left out
pub fewer-codes : (policy : Policy) (columns : ℕ) (dims : List Dimension) (facts later : List Fact) (codes : List ℕ) (keeps : ℕ → Bool) → HaveSameGroupsBut codes policy columns dims facts later
    → ((code : ℕ) → keeps code ≡ false → group_at policy columns dims later code ≡ group_at policy columns dims facts code) → HaveSameGroupsBut (filter keeps codes) policy columns dims facts later
fewer-codes policy columns dims facts later codes keeps same left code other = either (keeps code) refl (sym (among-filter keeps codes code) ∙ other)
  where
    either : (b : Bool) → keeps code ≡ b → (keeps code && is_among codes code) ≡ false → group_at policy columns dims later code ≡ group_at policy columns dims facts code
    either true is none = same code (rw is at none)
    either false is none = left code is
