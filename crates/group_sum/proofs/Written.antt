-- Sums that are written place by place.
use Rattle.std.proofs.Common.{◌≡◌, ℕ, ◌+◌, ◌<◌, ◌≤◌, ◌≢◌, List, length, get_or, set, ℤ, pos, arith, below_more, get_or-set_other, get_or-set_same}

-- the places below k have their numerators
pub record IsWrittenBelow (k : ℕ) (sums : List ℤ) (numerator : ℕ → ℤ) : Type 0 where
  pub each : (j : ℕ) → j < k → get_or sums j (pos 0) ≡ numerator j

-- one more place has its numerator
pub written_more : (k : ℕ) (sums : List ℤ) (numerator : ℕ → ℤ) → IsWrittenBelow k sums numerator → (sum : ℤ) → k < length sums → sum ≡ numerator k → IsWrittenBelow (k + 1) (set sums k sum) numerator
written_more k sums numerator before sum within is = record {
  each = below_more _ _
      (λ j lt. let other : j ≢ k = omega arith in rw get_or-set_other (before.each j lt))
      (rw get_or-set_same is);
}

-- those from k on are as they were
pub record IsSameFrom (k : ℕ) (old now : List ℤ) : Type 0 where
  pub each : (j : ℕ) → k ≤ j → get_or now j (pos 0) ≡ get_or old j (pos 0)

-- also behind one that is written
pub same_more : (k : ℕ) (old now : List ℤ) → IsSameFrom k old now → (sum : ℤ) → IsSameFrom (k + 1) old (set now k sum)
same_more k old now before sum = record { each = λ j le. let other : j ≢ k = omega arith in rw get_or-set_other (before.each j (omega arith)) }
