-- What is added up denominator by denominator is what is added up fact by fact.
use Rattle.std.proofs.Common.{◌≡◌, ℕ, zero, suc, ◌/◌, ◌≤◌, true, false, List, [], ◌∷◌, map, filter, refl, ap, sym, ◌∙◌, inl, inr, arith, ℤ, pos, ◌+ℤ◌, ◌*ℤ◌}
use Rattle.std.specs.Prelude.{All, if◌then◌else◌, nat_lt, ◌==◌, ◌⊎◌, slice_index_or}
use Rattle.std.specs.Int.{◌∣◌}
use Rattle.std.specs.List.{range_with_len, sum_by}
use Rattle.std.proofs.lemmas.Bool.{cases_eq, cases_lt}
use Rattle.std.proofs.lemmas.Bool.Decides.{nat_tests}
use Rattle.std.proofs.lemmas.Int.{ints}
use Rattle.std.proofs.lemmas.List.Elements.{All-append, All-cons, All-head, All-nil, All-tail}
use Rattle.std.proofs.lemmas.List.FromFn.{get_or-map-range_with_len}
use Rattle.std.proofs.lemmas.List.Sums.{sum_by-cons}
use Rattle.cube_model.specs.declared.term.Term.{Term}
use Rattle.cube_model.specs.Allocation.{ExtendedFact}
use Rattle.cube_model.specs.Answer.{answer, bound_of, count_at, over, sum_at, terms_below, total_by, weight_inside}
use Rattle.cube_model.specs.Cells.{cells_of}
use Rattle.cube_model.specs.Tree.{Dimension}
use Rattle.cube_model.proofs.Totals.{total_by-append, total_by-either}
use Rattle.world_law.specs.Worlds.{column_of, mass}
use Rattle.world_law.specs.Law.{IsLawful, IsShared, cleared, numerator, part_of}
use Rattle.world_law.proofs.Expectation.{den-divides, divides, expectation}
use Rattle.world_law.proofs.Products.{product_comm, scaled-by_none, scaled-none, sum-scaled}

-- the facts whose denominator is smaller
abbrev under : ℕ → List ExtendedFact → List ExtendedFact
under den rows = filter (λ e. nat_lt e.allocation.den den) rows

module _ (value : ExtendedFact → ℤ) where
  -- with no denominator there is none
  under-zero : (rows : List ExtendedFact) → total_by value (under 0 rows) ≡ pos 0
  under-zero [] = refl
  under-zero (e ∷ rows) =
      let never : nat_lt e.allocation.den 0 ≡ false = grind (arith, nat_tests) in
      rw never (under-zero rows)

  one_more : (x d : ℕ) (v : ℤ) → (if nat_lt x (suc d) then v else pos 0) ≡ (if nat_lt x d then v else pos 0) +ℤ (if x == d then v else pos 0)
  one_more x d v = elim (cases_lt x d) [
    | inl below ↦
        let first : nat_lt x (suc d) ≡ true = grind (arith, nat_tests) in
        let second : nat_lt x d ≡ true = grind (arith, nat_tests) in
        let third : (x == d) ≡ false = grind (arith, nat_tests) in
        rw (first, second, third) (omega (arith, ints))
    | inr from ↦
        let second : nat_lt x d ≡ false = grind (arith, nat_tests) in
        elim (cases_eq x d) [
          | inl same ↦
              let first : nat_lt x (suc d) ≡ true = grind (arith, nat_tests) in
              let third : (x == d) ≡ true = grind (arith, nat_tests) in
              rw (first, second, third) (omega (arith, ints))
          | inr other ↦
              let first : nat_lt x (suc d) ≡ false = grind (arith, nat_tests) in
              let third : (x == d) ≡ false = grind (arith, nat_tests) in
              rw (first, second, third) refl
        ]
  ]

  -- one denominator more brings its facts
  under-suc : (d : ℕ) (rows : List ExtendedFact) → total_by value (under (suc d) rows) ≡ total_by value (under d rows) +ℤ total_by value (over d rows)
  under-suc d [] = refl
  under-suc d (e ∷ rows) =
      let den = e.allocation.den in
      omega (arith, ints, total_by-either (nat_lt den (suc d)) value e (under (suc d) rows), total_by-either (nat_lt den d) value e (under d rows), total_by-either (den == d) value e (over d rows), one_more den d (value e), under-suc d rows)

  -- and with the last of them all are there
  under-all : (bound : ℕ) (rows : List ExtendedFact) → bound_of rows ≤ bound → total_by value (under bound rows) ≡ total_by value rows
  under-all bound [] le = refl
  under-all bound (e ∷ rows) le =
      let within : nat_lt e.allocation.den bound ≡ true = grind (arith, nat_tests) in
      rw within (ap (λ z. value e +ℤ z) (under-all bound rows (omega arith)))

module _ (cells : List ℕ) where
  -- a fact's column times its weight inside
  abbrev weighed : ℕ → ExtendedFact → ℤ
  weighed column e = column_of column e *ℤ pos (weight_inside cells e.allocation)

  -- where no weight is inside, nothing is
  weighed-none : (column : ℕ) (facts : List ExtendedFact) → sum_by (λ e. weight_inside cells e.allocation) facts ≡ 0 → total_by (weighed column) facts ≡ pos 0
  weighed-none column [] none = refl
  weighed-none column (e ∷ facts) none =
      let sum = sum_by-cons (λ (e : ExtendedFact). weight_inside cells e.allocation) e facts in
      let inside : weight_inside cells e.allocation ≡ 0 = omega (arith, sum, none) in
      let others = weighed-none column facts (omega (arith, sum, none)) in
      rw (inside, others) (omega (arith, ints, scaled-by_none (column_of column e)))

  counted : (facts : List ExtendedFact) → pos (sum_by (λ e. weight_inside cells e.allocation) facts) ≡ total_by (weighed 0) facts
  counted [] = refl
  counted (e ∷ facts) =
      let inside = weight_inside cells e.allocation in
      let one : pos 1 *ℤ pos inside ≡ pos inside = ap pos (omega arith) in
      ap pos (sum_by-cons (λ (e : ExtendedFact). weight_inside cells e.allocation) e facts) ∙ omega (arith, ints, one, counted facts)

  summed : (k : ℕ) (facts : List ExtendedFact) → total_by (λ e. pos (weight_inside cells e.allocation) *ℤ slice_index_or e.values k (pos 0)) facts ≡ total_by (weighed (suc k)) facts
  summed k [] = refl
  summed k (e ∷ facts) = omega (arith, ints, product_comm (weight_inside cells e.allocation) (slice_index_or e.values k (pos 0)), summed k facts)

  -- of the facts with one denominator, the numerator times the mass divided by it is what they are expected to give
  over-parts : (column whole den : ℕ) (facts : List ExtendedFact) → total_by (weighed column) (over den facts) *ℤ pos (whole / den) ≡ total_by (part_of cells column whole) (over den facts)
  over-parts column whole den [] = scaled-none (whole / den)
  over-parts column whole den (e ∷ facts) = elim (cases_eq e.allocation.den den) [
    | inl same ↦
        let here : (e.allocation.den == den) ≡ true = grind (arith, nat_tests) in
        rw here (sum-scaled (weighed column e) (total_by (weighed column) (over den facts)) (whole / den)
        ∙ ap (λ d. weighed column e *ℤ pos (whole / d) +ℤ total_by (weighed column) (over den facts) *ℤ pos (whole / den)) (sym same)
        ∙ ap (λ z. part_of cells column whole e +ℤ z) (over-parts column whole den facts))
    | inr other ↦
        let there : (e.allocation.den == den) ≡ false = grind (arith, nat_tests) in
        rw there (over-parts column whole den facts)
  ]

  module _ (columns : ℕ) (rows : List ExtendedFact) where
    abbrev sums : ℕ → List ℤ
    sums den = map (λ column. sum_at cells rows column den) (range_with_len 0 columns)

    abbrev term_at : ℕ → Term
    term_at den = record { den = den; count = count_at cells rows den; sums = sums den }

    numerator-term_at : (column den : ℕ) → column ≤ columns → numerator column (term_at den) ≡ total_by (weighed column) (over den rows)
    numerator-term_at zero den within = counted (over den rows)
    numerator-term_at (suc k) den within =
        get_or-map-range_with_len (λ column. sum_at cells rows column den) 0 columns k k (pos 0) (omega arith) (omega arith) ∙ summed k (over den rows)

    -- a denominator's term, which is left out where nothing is inside
    one_term : (column whole den : ℕ) → column ≤ columns
        → cleared whole column (if count_at cells rows den == 0 then [] else term_at den ∷ []) ≡ total_by (part_of cells column whole) (over den rows)
    one_term column whole den within = elim (cases_eq (count_at cells rows den) 0) [
      | inl none ↦
          let here : (count_at cells rows den == 0) ≡ true = grind (arith, nat_tests) in
          rw here (sym (sym (over-parts column whole den rows) ∙ ap (λ z. z *ℤ pos (whole / den)) (weighed-none column (over den rows) none) ∙ scaled-none (whole / den)))
      | inr some ↦
          let here : (count_at cells rows den == 0) ≡ false = grind (arith, nat_tests) in
          let number = numerator-term_at column den within in
          let others = over-parts column whole den rows in
          rw here (ap (λ z. z *ℤ pos (whole / den) +ℤ pos 0) number ∙ omega (arith, ints, others))
    ]

    terms-parts : (column whole bound : ℕ) → column ≤ columns → cleared whole column (terms_below (count_at cells rows) sums bound) ≡ total_by (part_of cells column whole) (under bound rows)
    terms-parts column whole zero within = sym (under-zero (part_of cells column whole) rows)
    terms-parts column whole (suc den) within =
        let value : Term → ℤ = λ t. numerator column t *ℤ pos (whole / t.den) in
        let last = if count_at cells rows den == 0 then [] else term_at den ∷ [] in
        total_by-append value (terms_below (count_at cells rows) sums den) last
        ∙ ap (λ z. z +ℤ total_by value last) (terms-parts column whole den within)
        ∙ ap (λ z. total_by (part_of cells column whole) (under den rows) +ℤ z) (one_term column whole den within)
        ∙ sym (under-suc (part_of cells column whole) den rows)

    -- a denominator with something inside is that of a fact
    divides_or_none : (whole den : ℕ) (facts : List ExtendedFact) → All (divides whole) facts → (den ∣ whole) ⊎ (count_at cells facts den ≡ 0)
    divides_or_none whole den [] each = inr refl
    divides_or_none whole den (e ∷ facts) each = elim (cases_eq e.allocation.den den) [
      | inl same ↦ inl (rw (← same) (All-head (divides whole) e facts each))
      | inr other ↦
          let there : (e.allocation.den == den) ≡ false = grind (arith, nat_tests) in
          rw there (divides_or_none whole den facts (All-tail (divides whole) e facts each))
    ]

    one_divides_none : (whole : ℕ) (t : Term) → t.count ≡ 0 → All (λ t. t.den ∣ whole) (if t.count == 0 then [] else t ∷ [])
    one_divides_none whole t none =
        let here : (t.count == 0) ≡ true = grind (arith, nat_tests) in
        rw here (All-nil (λ t. t.den ∣ whole))

    one_divides : (whole : ℕ) (t : Term) → (t.den ∣ whole) ⊎ (t.count ≡ 0) → All (λ t. t.den ∣ whole) (if t.count == 0 then [] else t ∷ [])
    one_divides whole t (inr none) = one_divides_none whole t none
    one_divides whole t (inl divides) = elim (cases_eq t.count 0) [
      | inl none ↦ one_divides_none whole t none
      | inr some ↦
          let here : (t.count == 0) ≡ false = grind (arith, nat_tests) in
          rw here (All-cons (λ t. t.den ∣ whole) t [] divides (All-nil (λ t. t.den ∣ whole)))
    ]

    terms-divide : (whole bound : ℕ) → All (divides whole) rows → All (λ t. t.den ∣ whole) (terms_below (count_at cells rows) sums bound)
    terms-divide whole zero each = All-nil (λ t. t.den ∣ whole)
    terms-divide whole (suc den) each = All-append (λ t. t.den ∣ whole) _ _ (terms-divide whole den each) (one_divides whole (term_at den) (divides_or_none whole den rows each))

-- the answer of any facts whose weights add up to their denominators is lawful
pub lawful : (columns : ℕ) (dims : List Dimension) (region : List ℕ) (facts : List ExtendedFact) → All IsShared facts → IsLawful columns dims region facts
unfolding answer
lawful columns dims region facts are =
    let cells = cells_of dims region in
    let whole = mass facts in
    record {
      dens = terms-divide cells columns facts whole (bound_of facts) (den-divides facts are);
      totals = λ column within.
          expectation dims region column facts are
          ∙ sym (terms-parts cells columns facts column whole (bound_of facts) within ∙ under-all (part_of cells column whole) (bound_of facts) facts (omega arith));
    }
