-- The answer over facts is that over their groups.
use Rattle.std.proofs.Common.{◌≡◌, ℕ, zero, suc, ◌+◌, ◌<◌, ◌≤◌, Bool, true, false, List, [], ◌∷◌, ◌++◌, get_or, map, refl, ap, sym, ◌∙◌, arith, ℤ}
use Rattle.std.specs.Prelude.{All, Option, Some, None, find, max, ◌==◌, if◌then◌else◌}
use Rattle.std.specs.List.{cons_option, count_by, filter_map, range_with_len}
use Rattle.std.specs.Option.{option_map_or}
use Rattle.std.proofs.lemmas.List.Elements.{All-head, All-tail}
use Rattle.std.proofs.lemmas.List.Sums.{sum_by-cons}
use Rattle.cube_model.specs.declared.edit.Fact.{Fact}
use Rattle.cube_model.specs.declared.term.Term.{Term}
use Rattle.cube_model.specs.Allocation.{ExtendedFact, Policy, allocation, extended}
use Rattle.cube_model.specs.Answer.{answer, bound_of, count_at, sum_at, terms_below}
use Rattle.cube_model.specs.Cells.{cells_of}
use Rattle.cube_model.specs.Tree.{Dimension}
use Rattle.fact_groups.specs.Groups.{AreGrouped, Group, answer_in, count_in, den_limit, group_at, groups_at, has_code, sum_in}
use Rattle.fact_groups.proofs.Groups.{count-grouped, first-holds, spread-at, sum-grouped}

-- terms of equal numerators
abbrev term_here : ℕ → ℕ → List ℤ → List Term
term_here den count sums = if count == 0 then [] else record { den = den; count = count; sums = sums } ∷ []

terms_below-agree : (c d : ℕ → ℕ) (s t : ℕ → List ℤ) (bound : ℕ) → ((den : ℕ) → c den ≡ d den) → ((den : ℕ) → s den ≡ t den) → terms_below c s bound ≡ terms_below d t bound
terms_below-agree c d s t zero counts sums = refl
terms_below-agree c d s t (suc den) counts sums =
    ap (λ (terms : List Term). terms ++ term_here den (c den) (s den)) (terms_below-agree c d s t den counts sums)
    ∙ ap (λ (n : ℕ). terms_below d t den ++ term_here den n (s den)) (counts den)
    ∙ ap (λ (zs : List ℤ). terms_below d t den ++ term_here den (d den) zs) (sums den)

map-range : (f g : ℕ → ℤ) (a n : ℕ) → ((k : ℕ) → k < a + n → f k ≡ g k) → map f (range_with_len a n) ≡ map g (range_with_len a n)
map-range f g a zero agree = refl
map-range f g a (suc n) agree =
    ap (λ (z : ℤ). z ∷ map f (range_with_len (a + 1) n)) (agree a (omega arith)) ∙ ap (λ (zs : List ℤ). g a ∷ zs) (map-range f g (a + 1) n (λ k below. agree k (omega (arith, below))))

-- the bound is above each denominator, and no greater than any number that is
abbrev extended_fact : Policy → List Dimension → List Fact → Fact → ExtendedFact
extended_fact policy dims facts f = record { id = f.id; values = f.cols; allocation = allocation policy dims facts f }

module _ (policy : Policy) (dims : List Dimension) (all : List Fact) where
  bound-above : (facts : List Fact) → All (λ f. suc (allocation policy dims all f).den ≤ bound_of (map (extended_fact policy dims all) facts)) facts
  bound-above [] k d within = absurd (omega arith)
  bound-above (fact ∷ facts) zero d within = omega arith
  bound-above (fact ∷ facts) (suc k) d within = omega (arith, bound-above facts k d (omega arith))

  bound-least : (n : ℕ) (facts : List Fact) → All (λ f. suc (allocation policy dims all f).den ≤ n) facts → bound_of (map (extended_fact policy dims all) facts) ≤ n
  bound-least n [] each = omega arith
  bound-least n (fact ∷ facts) each =
      let here = All-head (λ f. suc (allocation policy dims all f).den ≤ n) fact facts each in
      omega (arith, here, bound-least n facts (All-tail (λ f. suc (allocation policy dims all f).den ≤ n) fact facts each))

-- and so it is with groups
den_limit-option : (o : Option Group) (groups : List Group) → den_limit (cons_option o groups) ≡ max (option_map_or (λ g. suc g.spread.den) o 0) (den_limit groups)
den_limit-option None groups = omega arith
den_limit-option (Some g) groups = refl

limit-least : (h : ℕ → Option Group) (n : ℕ) (codes : List ℕ) → ((code : ℕ) → option_map_or (λ g. suc g.spread.den) (h code) 0 ≤ n) → den_limit (filter_map h codes) ≤ n
limit-least h n [] each = omega arith
limit-least h n (code ∷ codes) each = omega (arith, den_limit-option (h code) (filter_map h codes), each code, limit-least h n codes each)

limit-above : (h : ℕ → Option Group) (v : ℕ) (q : ℕ → Bool) (codes : List ℕ) → count_by q codes ≡ 1 → ((code : ℕ) → q code ≡ true → v ≤ option_map_or (λ g. suc g.spread.den) (h code) 0)
    → v ≤ den_limit (filter_map h codes)
limit-above h v q [] once each = absurd (omega (arith, once))
limit-above h v q (code ∷ codes) once each =
    let first = den_limit-option (h code) (filter_map h codes) in
    either (q code) (sym (sum_by-cons (λ k. if q k then 1 else 0) code codes) ∙ once) (each code) (λ rest. limit-above h v q codes rest each) first
  where
    either : (b : Bool) → (if b then 1 else 0) + count_by q codes ≡ 1 → (b ≡ true → v ≤ option_map_or (λ g. suc g.spread.den) (h code) 0) → (count_by q codes ≡ 1 → v ≤ den_limit (filter_map h codes))
        → den_limit (cons_option (h code) (filter_map h codes)) ≡ max (option_map_or (λ g. suc g.spread.den) (h code) 0) (den_limit (filter_map h codes))
        → v ≤ den_limit (filter_map h (code ∷ codes))
    either true one here rest first = omega (arith, here refl, first)
    either false one here rest first = omega (arith, rest (omega (arith, one)), first)

module _ (policy : Policy) (columns : ℕ) (dims : List Dimension) (facts : List Fact) (codes : List ℕ) (grouped : AreGrouped dims facts codes) where
  group-below : (code : ℕ) → option_map_or (λ g. suc g.spread.den) (group_at policy columns dims facts code) 0 ≤ bound_of (map (extended_fact policy dims facts) facts)
  group-below code = either (find (has_code dims code) facts) refl
    where
      either : (found : Option Fact) → find (has_code dims code) facts ≡ found → option_map_or (λ g. suc g.spread.den) (group_at policy columns dims facts code) 0 ≤ bound_of (map (extended_fact policy dims facts) facts)
      either None is = rw is (omega arith)
      either (Some f) is =
          let below : suc (allocation policy dims facts f).den ≤ bound_of (map (extended_fact policy dims facts) facts) =
          first-holds (λ f. suc (allocation policy dims facts f).den ≤ bound_of (map (extended_fact policy dims facts) facts)) (has_code dims code) facts f (bound-above policy dims facts facts) is in
          rw is below

  bounds-grouped : bound_of (extended policy dims facts) ≡ den_limit (groups_at policy columns dims facts codes)
  unfolding extended
  bounds-grouped =
      let most = limit-least (group_at policy columns dims facts) (bound_of (map (extended_fact policy dims facts) facts)) codes group-below in
      let least = bound-least policy dims facts (den_limit (groups_at policy columns dims facts codes)) facts (λ k d within.
      limit-above (group_at policy columns dims facts) (suc (allocation policy dims facts (get_or facts k d)).den) (λ code. has_code dims code (get_or facts k d)) codes (grouped.held k d within)
      (λ code passes. let is = spread-at policy columns dims facts codes grouped (λ a. suc a.den) 0 k d within code passes in omega (arith, is))) in
      omega (arith, most, least)

  pub answer-grouped : (region : List ℕ) → answer columns dims (extended policy dims facts) region ≡ answer_in columns (cells_of dims region) (groups_at policy columns dims facts codes)
  unfolding answer answer_in
  answer-grouped region =
      let cells = cells_of dims region in
      let rows = extended policy dims facts in
      let groups = groups_at policy columns dims facts codes in
      terms_below-agree (count_at cells rows) (count_in cells groups) (λ den. map (λ column. sum_at cells rows column den) (range_with_len 0 columns)) (λ den. map (λ column. sum_in cells groups column den) (range_with_len 0 columns)) (bound_of rows)
      (count-grouped policy columns dims facts codes grouped cells)
      (λ den. map-range (λ column. sum_at cells rows column den) (λ column. sum_in cells groups column den) 0 columns (λ column below. sum-grouped policy columns dims facts codes grouped cells column den (omega (arith, below))))
      ∙ ap (terms_below (count_in cells groups) (λ den. map (λ column. sum_in cells groups column den) (range_with_len 0 columns))) bounds-grouped
