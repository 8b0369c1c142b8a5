use Rattle.std.proofs.Common.{◌≡◌, ◌≢◌, ℕ, zero, suc, ◌<◌, List, [], ◌∷◌, refl, ap, arith, get_or}
use Rattle.std.specs.Prelude.{Option, Some, None, slice_get}
use Rattle.cube_model.specs.Allocation.{allocation, by_count, extended}
use Rattle.cube_model.specs.Cells.{all_cells, cells_of, is_inside}
use Rattle.cube_model.specs.Tree.{is_leaf, is_under, leaves, parent, path}
use Rattle.fact_keeper.specs.declared.content.KeptRows.{KeptRows}
use Rattle.fact_records.specs.Examples.{one_number}
use Rattle.region_algebra.specs.Examples.{small_space}
use Rattle.store_audit.specs.Examples.{content_of, over_two, two_facts, whole_at}
use Rattle.store_audit.specs.Sound.{AreGood, DifferAt, rows_anew, rows_counted}
use Rattle.store_audit.proofs.laws.worked_rows.Goals as goal

both-good : AreGood one_number small_space two_facts
unfolding all_cells cells_of is_inside is_leaf is_under leaves parent path
both-good zero = refl
both-good (suc zero) = refl
both-good (suc (suc place)) = refl

-- the definitions compute the rows
two-rows : rows_anew by_count small_space (content_of two_facts []) ≡ whole_at 1 0 ∷ whole_at 2 0 ∷ []
unfolding all_cells allocation cells_of extended is_inside is_leaf is_under leaves parent path
two-rows = refl

count-two : rows_counted by_count small_space (content_of two_facts []) ≡ 2
unfolding all_cells allocation cells_of extended is_inside is_leaf is_under leaves parent path
count-two = refl

-- rows of two facts are told to differ at a place where they do, and the ones before it are alike
told : (rows : List KeptRows) (place : ℕ) (kept anew : Option KeptRows) → kept ≡ slice_get rows place → anew ≡ slice_get (whole_at 1 0 ∷ whole_at 2 0 ∷ []) place → kept ≢ anew
    → ((earlier : ℕ) → earlier < place → slice_get rows earlier ≡ slice_get (whole_at 1 0 ∷ whole_at 2 0 ∷ []) earlier) → DifferAt by_count one_number small_space (content_of two_facts rows) place kept anew
told rows place kept anew kept_is anew_is different first = record {
  good = both-good;
  few = omega (arith, count-two);
  kept_is = kept_is;
  anew_is = rw two-rows anew_is;
  different = different;
  first = λ earlier below. rw two-rows (first earlier below);
}

-- lists that begin alike
one-alike : (a : KeptRows) (xs ys : List KeptRows) (earlier : ℕ) → earlier < 1 → slice_get (a ∷ xs) earlier ≡ slice_get (a ∷ ys) earlier
one-alike a xs ys zero below = refl
one-alike a xs ys (suc earlier) below = absurd (omega (arith, below))

two-alike : (a b : KeptRows) (xs ys : List KeptRows) (earlier : ℕ) → earlier < 2 → slice_get (a ∷ b ∷ xs) earlier ≡ slice_get (a ∷ b ∷ ys) earlier
two-alike a b xs ys zero below = refl
two-alike a b xs ys (suc zero) below = refl
two-alike a b xs ys (suc (suc earlier)) below = absurd (omega (arith, below))

-- rows of another cell or another denominator are others
unfoldable cell-of : Option KeptRows → ℕ
cell-of None = 0
cell-of (Some kept) = (get_or kept.rows 0 (0, 0)).0

unfoldable den-of : Option KeptRows → ℕ
den-of None = 0
den-of (Some kept) = kept.den

other-cell : Some (whole_at 2 1) ≢ Some (whole_at 2 0)
unfolding cell-of
other-cell is = absurd (omega (arith, ap cell-of is))

other-den : Some (over_two 1 0) ≢ Some (whole_at 1 0)
unfolding den-of
other-den is = absurd (omega (arith, ap den-of is))

-- where they differ
pub returns : goal.returns
returns c = record {
  sound = record { good = both-good; few = omega (arith, count-two); rows_are = rw two-rows refl };
  cell = told _ 1 _ _ refl refl other-cell (one-alike _ (whole_at 2 1 ∷ []) (whole_at 2 0 ∷ []));
  den = told _ 0 _ _ refl refl other-den (λ earlier below. absurd (omega (arith, below)));
  missing = told _ 1 _ _ refl refl (λ is. cc) (one-alike _ [] (whole_at 2 0 ∷ []));
  more = told _ 2 _ _ refl refl (λ is. cc) (two-alike _ _ (whole_at 3 0 ∷ []) []);
}
