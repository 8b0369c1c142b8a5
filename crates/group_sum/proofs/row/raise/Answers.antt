use Rattle.std.proofs.Common.{◌≡◌, ℕ, ◌+◌, ◌-◌, ◌≤◌, List, [], ◌∷◌, ◌++◌, length, get_or, set, take, drop, ℤ, pos, ◌+ℤ◌, sym, ap, refl, arith, rules, ◌∙◌}
use Rattle.std.specs.Prelude.{nat_abs}
use Rattle.std.specs.Int.{w128}
use mir.Val.{SFits, of_z, to_z}
use borrow.Rule.Slice.PartMut.{put_mid}
use Rattle.std.proofs.lemmas.Int.{to_z-of_z, to_z_pos}
use Rattle.std.proofs.lemmas.List.{append-nil, drop_all, take_all}
use Rattle.cube_model.specs.Limits.{WIDE}
use Rattle.group_sum.specs.Rows.{IsRow, row_term}
use Rattle.group_sum.specs.Share.{AddsScaled, RaisesTerm, SumsFit}
use Rattle.group_sum.proofs.row.raise.Goals as goal

-- a row's sums stand behind its count
sums_behind : (r : ℤ) (rest : List ℤ) (x : ℤ) → take (length (set (r ∷ rest) 0 x) - 1) (drop 1 (set (r ∷ rest) 0 x)) ≡ rest
sums_behind r rest x = take_all (length (set (r ∷ rest) 0 x) - 1) rest (omega arith)

sums_fit : (row values : List ℤ) (weight : ℕ) (x : ℤ) → SumsFit (drop 1 row) weight values → SumsFit (take (length (set row 0 x) - 1) (drop 1 (set row 0 x))) weight values
sums_fit [] values weight x fits = fits
sums_fit (r ∷ rest) values weight x fits = rw (sums_behind r rest x) fits

-- with another count and other sums it is a row again
record IsRaised (row new values : List ℤ) (units weight : ℕ) : Type 0 where
  pub is_row : IsRow new
  pub raised : RaisesTerm (row_term 0 row) (row_term 0 new) units weight values

is_raised : (row sums values : List ℤ) (units weight : ℕ) (x : ℤ) → 1 ≤ length row → x ≡ pos (nat_abs (get_or row 0 (pos 0)) + units)
    → AddsScaled (take (length (set row 0 x) - 1) (drop 1 (set row 0 x))) sums weight values → IsRaised row (put_mid 1 (length (set row 0 x) - 1) (set row 0 x) sums) values units weight
is_raised [] sums values units weight x some x_is adds = absurd (omega arith)
is_raised (r ∷ rest) sums values units weight x some x_is adds =
    let adds_all : AddsScaled rest sums weight values = rw (sums_behind r rest x) at adds in
    let put : put_mid 1 (length (x ∷ rest) - 1) (x ∷ rest) sums ≡ x ∷ sums = ap (λ l. x ∷ l) (ap (λ l. sums ++ l) (drop_all (length (x ∷ rest) - 1) rest (omega arith)) ∙ append-nil sums) in
    rw (put, x_is) (record { is_row = refl; raised = record { den = refl; count = refl; sums = adds_all } })

module _ (row : List ℤ) (units : ℕ) (is_row : IsRow row) (fits : SFits w128 (get_or row 0 (pos 0))) (within : nat_abs (get_or row 0 (pos 0)) + units ≤ WIDE) where
  -- the count with the units
  count_is : to_z w128 (of_z w128 (get_or row 0 (pos 0))) +ℤ to_z w128 units ≡ pos (nat_abs (get_or row 0 (pos 0)) + units)
  count_is =
      let count : to_z w128 (of_z w128 (get_or row 0 (pos 0))) ≡ pos (nat_abs (get_or row 0 (pos 0))) = to_z-of_z w128 _ fits ∙ sym (ap (λ (r : List ℤ). get_or r 0 (pos 0)) is_row) in
      rw (count, to_z_pos w128 units (omega arith)) refl

  count_fits : SFits w128 (to_z w128 (of_z w128 (get_or row 0 (pos 0))) +ℤ to_z w128 units)
  count_fits = rw count_is (record { sfits = omega arith })

  new_count : to_z w128 (of_z w128 (to_z w128 (of_z w128 (get_or row 0 (pos 0))) +ℤ to_z w128 units)) ≡ pos (nat_abs (get_or row 0 (pos 0)) + units)
  new_count = to_z-of_z w128 _ count_fits ∙ count_is

pub overflow_add-row : goal.overflow_add-row
overflow_add-row c = count_fits _ _ c.requires.row (search rules) c.requires.within.count

pub add_scaled-requires : goal.add_scaled-requires
add_scaled-requires c = sums_fit _ _ _ _ c.requires.within.sums

pub returns : goal.returns
returns c =
    let fits : SFits w128 (get_or c.args.row.now 0 (pos 0)) = search rules in
    let is = is_raised c.args.row.now _ _ _ _ _ (omega (arith, ap length c.requires.row)) (new_count _ _ c.requires.row fits c.requires.within.count) c.add_scaled.ensures in
    record { row = is.is_row; raised = is.raised }
