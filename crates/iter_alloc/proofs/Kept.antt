-- Rounds in which only whole components give leave the cells of these components as rounds of all facts do.
use Rattle.cube_model.specs.declared.edit.Fact.{Fact}
use Rattle.cube_model.specs.Cells.{cells_of, is_among}
use Rattle.cube_model.specs.Facts.{is_precise}
use Rattle.cube_model.specs.Tree.{Dimension}
use Rattle.iter_alloc.proofs.Chains.{touching-shown}
use Rattle.iter_alloc.proofs.Tests.{itself, and-both, and-first, and-second, not-true, not-false}
use Rattle.iter_alloc.specs.Iterated.{portion_from}
use Rattle.iter_alloc.specs.Rounds.{WHOLE_FACT, start, has_cell, share_of, share_by, level_from}
use Rattle.iter_alloc.specs.Touching.{IsClosed}
use Rattle.region_algebra.specs.Space.{common_cells}
use Rattle.std.proofs.Common.{◌≡◌, ℕ, zero, suc, ◌+◌, ◌-◌, ◌*◌, Bool, true, false, List, [], ◌∷◌, get_or, length, refl, ap, sym, ◌∙◌, arith}
use Rattle.std.proofs.lemmas.List.Elements.{Contains-get_or, All-contains_itself, All-filter, filter_passes}
use Rattle.std.proofs.lemmas.List.Folds.{list_any_at}
use Rattle.std.proofs.lemmas.List.Sums.{sum_by-cons}
use Rattle.std.specs.List.{Contains, sum_by}
use Rattle.std.specs.Prelude.{All, filter, not, ◌==◌, if◌then◌else◌}

-- each of these is among them
pub all-among : (xs : List ℕ) → All (λ x. is_among xs x ≡ true) xs
all-among xs k d within = list_any_at (λ c. c == get_or xs k d) xs k d within (itself (get_or xs k d))

pub sum_by-same : {X : Type 0} (f g : X → ℕ) (xs : List X) → All (λ x. f x ≡ g x) xs → sum_by f xs ≡ sum_by g xs
sum_by-same f g [] same = refl
sum_by-same f g (x ∷ xs) same = omega (arith, sum_by-cons f x xs, sum_by-cons g x xs, same 0 x (omega arith), sum_by-same f g xs (λ k d within. same (suc k) d (omega arith)))

-- what a cell gets of a fact depends on how the fact's cells stand
pub share_by-same : (l m : ℕ → ℕ) (cells : List ℕ) (cell : ℕ) → All (λ c. l c ≡ m c) cells → l cell ≡ m cell → share_by l cells cell ≡ share_by m cells cell
share_by-same l m cells cell same here = ap (λ n. share_of n (sum_by l cells) (length cells)) here ∙ ap (λ n. share_of (m cell) n (length cells)) (sum_by-same l m cells same)

-- where all that passes is kept, the same passes of what is kept
pub filter-kept : {X : Type 0} (p keep : X → Bool) (xs : List X) → All (λ x. p x ≡ true → keep x ≡ true) xs → filter p (filter keep xs) ≡ filter p xs
filter-kept p keep [] kept = refl
filter-kept {X} p keep (x ∷ xs) kept = either (p x) (keep x) refl refl (kept 0 x (omega arith)) (filter-kept p keep xs (λ k d within. kept (suc k) d (omega arith)))
  where
    either : (a b : Bool) → p x ≡ a → keep x ≡ b → (p x ≡ true → keep x ≡ true) → filter p (filter keep xs) ≡ filter p xs → filter p (filter keep (x ∷ xs)) ≡ filter p (x ∷ xs)
    either true true is also here rest = rw (also, is) (ap (λ (ys : List X). x ∷ ys) rest)
    either true false is also here rest = cc (sym also ∙ here is)
    either false true is also here rest = rw (also, is) rest
    either false false is also here rest = rw (also, is) rest

module _ (dims : List Dimension) (keep : Fact → Bool) (facts : List Fact) (closed : IsClosed dims keep facts) where
  -- a fact that is kept
  pub record IsKept (f : Fact) : Type 0 where
    pub among : Contains facts f
    pub kept : keep f ≡ true

  several : (cell : ℕ) (f : Fact) → has_cell dims cell f ≡ true → is_precise dims f ≡ false
  several cell f has = not-true (is_precise dims f) (and-first (not (is_precise dims f)) (is_among (cells_of dims f.region) cell) has)

  -- where one fact of a cell is kept, all are
  kept-with : (cell : ℕ) (f : Fact) → IsKept f → has_cell dims cell f ≡ true → (g : Fact) → Contains facts g → has_cell dims cell g ≡ true → keep g ≡ true
  kept-with cell f is has g among also =
      sym (closed.closed f g is.among among (touching-shown dims f g (record {
        several_first = several cell f has;
        several_second = several cell g also;
        cell = cell;
        of_first = and-second (not (is_precise dims f)) (is_among (cells_of dims f.region) cell) has;
        of_second = and-second (not (is_precise dims g)) (is_among (cells_of dims g.region) cell) also;
      }))) ∙ is.kept

  pub same-levels : (n cell : ℕ) (f : Fact) → IsKept f → has_cell dims cell f ≡ true → level_from dims facts (filter keep facts) n cell ≡ level_from dims facts facts n cell
  unfolding level_from
  same-levels zero cell f is has = refl
  same-levels (suc n) cell f is has =
      let givers = filter-kept (has_cell dims cell) keep facts (λ k d within also. kept-with cell f is has (get_or facts k d) (Contains-get_or facts k d within) also) in
      ap (λ (gs : List Fact). start dims facts cell + sum_by (λ g. share_by (level_from dims facts (filter keep facts) n) (cells_of dims g.region) cell) gs) givers
      ∙ ap (λ m. start dims facts cell + m) (sum_by-same (λ g. share_by (level_from dims facts (filter keep facts) n) (cells_of dims g.region) cell) (λ g. share_by (level_from dims facts facts n) (cells_of dims g.region) cell) (filter (has_cell dims cell) facts) (each (λ c g kept also. same-levels n c g kept also)))
    where
      each : ((c : ℕ) (g : Fact) → IsKept g → has_cell dims c g ≡ true → level_from dims facts (filter keep facts) n c ≡ level_from dims facts facts n c)
          → All (λ g. share_by (level_from dims facts (filter keep facts) n) (cells_of dims g.region) cell ≡ share_by (level_from dims facts facts n) (cells_of dims g.region) cell) (filter (has_cell dims cell) facts)
      each earlier k d within =
          let g = get_or (filter (has_cell dims cell) facts) k d in
          let among = All-filter (has_cell dims cell) (Contains facts) facts (All-contains_itself facts) k d within in
          let also : has_cell dims cell g ≡ true = filter_passes (has_cell dims cell) facts k d within in
          let kept : IsKept g = record { among = among; kept = kept-with cell f is has g among also } in
          let spread = several cell g also in
          let cells = λ (c : ℕ) (here : is_among (cells_of dims g.region) c ≡ true). earlier c g kept (and-both (not (is_precise dims g)) (is_among (cells_of dims g.region) c) (not-false (is_precise dims g) spread) here) in
          share_by-same (level_from dims facts (filter keep facts) n) (level_from dims facts facts n) (cells_of dims g.region) cell
          (λ j e in_cells. cells (get_or (cells_of dims g.region) j e) (all-among (cells_of dims g.region) j e in_cells))
          (earlier cell g kept also)

  pub same-portion : (rounds : ℕ) (region : List ℕ) (f : Fact) → IsKept f → portion_from dims facts (filter keep facts) rounds region f ≡ portion_from dims facts facts rounds region f
  same-portion rounds region f is = either (is_precise dims f) refl
    where
      either : (b : Bool) → is_precise dims f ≡ b
          → (if b then WHOLE_FACT * length (common_cells dims f.region region) else sum_by (share_by (level_from dims facts (filter keep facts) (rounds - 1)) (cells_of dims f.region)) (common_cells dims f.region region))
          ≡ (if b then WHOLE_FACT * length (common_cells dims f.region region) else sum_by (share_by (level_from dims facts facts (rounds - 1)) (cells_of dims f.region)) (common_cells dims f.region region))
      either true precise = refl
      either false spread =
          let cells = λ (c : ℕ) (here : is_among (cells_of dims f.region) c ≡ true). same-levels (rounds - 1) c f is (and-both (not (is_precise dims f)) (is_among (cells_of dims f.region) c) (not-false (is_precise dims f) spread) here) in
          sum_by-same (share_by (level_from dims facts (filter keep facts) (rounds - 1)) (cells_of dims f.region)) (share_by (level_from dims facts facts (rounds - 1)) (cells_of dims f.region)) (common_cells dims f.region region)
          (λ k d within.
          share_by-same (level_from dims facts (filter keep facts) (rounds - 1)) (level_from dims facts facts (rounds - 1)) (cells_of dims f.region) (get_or (common_cells dims f.region region) k d)
          (λ j e in_cells. cells (get_or (cells_of dims f.region) j e) (all-among (cells_of dims f.region) j e in_cells))
          (cells (get_or (common_cells dims f.region region) k d)
          (All-filter (is_among (cells_of dims region)) (λ c. is_among (cells_of dims f.region) c ≡ true) (cells_of dims f.region) (all-among (cells_of dims f.region)) k d within)))

-- a fact that shares no cell with a region has no portion in it
pub portion-apart : (dims : List Dimension) (facts givers : List Fact) (rounds : ℕ) (region : List ℕ) (f : Fact) → common_cells dims f.region region ≡ [] → portion_from dims facts givers rounds region f ≡ 0
portion-apart dims facts givers rounds region f none =
    ap (λ cells. if is_precise dims f then WHOLE_FACT * length cells else sum_by (share_by (level_from dims facts givers (rounds - 1)) (cells_of dims f.region)) cells) none ∙ either (is_precise dims f)
  where
    either : (b : Bool) → (if b then WHOLE_FACT * 0 else 0) ≡ 0
    either true = omega arith
    either false = refl
