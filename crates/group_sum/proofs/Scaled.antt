-- Sums to which the weight times each value is added, place by place.
use Rattle.std.proofs.Common.{◌≡◌, ℕ, ◌+◌, ◌<◌, ◌≤◌, ◌≢◌, List, length, get_or, set, Some, ℤ, pos, ◌+ℤ◌, ◌*ℤ◌, arith, below_more, get_or-set_other, get_or-set_same}
use Rattle.std.specs.List.{slice_get}
use Rattle.std.proofs.lemmas.Option.{get_or_from_slice_get}
use Rattle.group_sum.specs.Share.{scaled_sum}

-- the places below k are done, and those from it on are as they were
pub record IsScaledBelow (k : ℕ) (old now : List ℤ) (weight : ℕ) (values : List ℤ) : Type 0 where
  pub done : (j : ℕ) → j < k → get_or now j (pos 0) ≡ scaled_sum old weight values j
  pub ahead : (j : ℕ) → k ≤ j → get_or now j (pos 0) ≡ get_or old j (pos 0)

module _ (old now : List ℤ) (weight : ℕ) (values : List ℤ) (k : ℕ) (before : IsScaledBelow k old now weight values) where
  -- what is written at place k
  pub scaled_here : (value : ℤ) → slice_get values k ≡ Some value → get_or now k (pos 0) +ℤ pos weight *ℤ value ≡ scaled_sum old weight values k
  scaled_here value read = cc (get_or_from_slice_get values k value (pos 0) read, before.ahead k (omega arith))

  -- one more place is done
  pub scaled_more : (sum : ℤ) → k < length now → sum ≡ scaled_sum old weight values k → IsScaledBelow (k + 1) old (set now k sum) weight values
  scaled_more sum within is = record {
    done = below_more _ _
        (λ j lt. let other : j ≢ k = omega arith in rw get_or-set_other (before.done j lt))
        (rw get_or-set_same is);
    ahead = λ j le. let other : j ≢ k = omega arith in rw get_or-set_other (before.ahead j (omega arith));
  }
