-- Terms merged: what the definition has at each denominator, and its laws.
use Rattle.std.proofs.Common.{◌≡◌, ℕ, ◌+◌, ◌-◌, ◌≤◌, true, List, [], ◌∷◌, length, map, max, ℤ, pos, ◌+ℤ◌, None, sym, ap, subst, ◌∙◌, refl, arith}
use Rattle.std.specs.List.{range_with_len}
use Rattle.std.proofs.lemmas.Bool.Decides.{nat_tests}
use Rattle.std.proofs.lemmas.Int.{ints}
use Rattle.std.proofs.lemmas.List.FromFn.{get_or-map-range_with_len, length-map-range_with_len}
use Rattle.cube_model.specs.declared.term.Term.{Term}
use Rattle.cube_model.specs.Answer.{count_of, den_bound, merge, numerator_of, term_of}
use Rattle.group_sum.specs.Terms.{TermList, AreTerms, are_terms_from}
use Rattle.group_sum.specs.Merge.{IsDifference, Merges, Subtracts}
use Rattle.group_sum.proofs.Determined.{terms_determined}

-- from the bound of some terms on there is none
pub term_of_bound : (terms : List Term) (d : ℕ) → den_bound terms ≤ d → term_of terms d ≡ None
term_of_bound [] d le = refl
term_of_bound (term ∷ terms) d le = grind (arith, nat_tests, term_of_bound terms d)

pub count_of_bound : (terms : List Term) (d : ℕ) → den_bound terms ≤ d → count_of terms d ≡ 0
count_of_bound terms d le = rw (term_of_bound terms d le) refl

-- the numerators of two lists at a denominator added up, as the definition writes them
abbrev pub sums_of_both : ℕ → List Term → List Term → ℕ → List ℤ
sums_of_both columns left right d = map (λ column. numerator_of left d (column + 1) +ℤ numerator_of right d (column + 1)) (range_with_len 0 columns)

abbrev pub count_of_both : List Term → List Term → ℕ → ℕ
count_of_both left right d = count_of left d + count_of right d

-- terms that have the numerators of both lists added up are both merged
pub is_merge : (columns : ℕ) (left right all : List Term) → 1 ≤ columns → are_terms_from columns 1 all ≡ true
    → Merges (record { columns = columns; terms = left }) (record { columns = columns; terms = right }) (record { columns = columns; terms = all })
    → all ≡ merge (columns - 1) left right
unfolding merge
is_merge columns left right all some ok merges =
    let lengths : (d : ℕ) → length (sums_of_both (columns - 1) left right d) + 1 ≡ columns =
    λ d. omega (arith, length-map-range_with_len (λ column. numerator_of left d (column + 1) +ℤ numerator_of right d (column + 1)) 0 (columns - 1)) in
    terms_determined columns all (count_of_both left right) (sums_of_both (columns - 1) left right) (max (den_bound left) (den_bound right)) ok merges.counts lengths
    (λ d k lt. merges.sums d k lt ∙ sym (get_or-map-range_with_len (λ column. numerator_of left d (column + 1) +ℤ numerator_of right d (column + 1)) 0 (columns - 1) k k (pos 0) (omega arith) (omega arith)))
    (λ d le. omega (arith, count_of_bound left d (omega arith), count_of_bound right d (omega arith)))

-- what is left of a whole gives it merged with the part
pub is_difference : (whole part difference : TermList) → AreTerms whole → Subtracts whole part difference → IsDifference whole part difference
is_difference whole part difference ok subtracts = record {
  columns = subtracts.columns;
  merges = sym (is_merge whole.columns difference.terms part.terms whole.terms ok.some ok.terms
      (record { columns = refl; counts = λ d. sym (subtracts.counts d); sums = λ d k lt. omega (arith, ints, subtracts.sums d k lt) }));
}

-- a list that has the numerators of both is both merged
pub is_merge_of : (old other new : TermList) (left : List Term) → left ≡ old.terms → AreTerms old → AreTerms new → Merges (record { columns = old.columns; terms = left }) other new
    → new ≡ record { columns = old.columns; terms = merge (old.columns - 1) old.terms other.terms }
is_merge_of old other new left same ok new_ok merges =
    let of_old : Merges (record { columns = old.columns; terms = old.terms }) other new = subst (λ ts. Merges (record { columns = old.columns; terms = ts }) other new) same merges in
    let all = is_merge old.columns old.terms other.terms new.terms ok.some (rw merges.columns at new_ok.terms) (record { columns = refl; counts = of_old.counts; sums = of_old.sums }) in
    let with_terms : new ≡ record { columns = new.columns; terms = merge (old.columns - 1) old.terms other.terms } = ap (λ (ts : List Term). let list : TermList = record { columns = new.columns; terms = ts } in list) all in
    with_terms ∙ ap (λ (n : ℕ). let list : TermList = record { columns = n; terms = merge (old.columns - 1) old.terms other.terms } in list) merges.columns
