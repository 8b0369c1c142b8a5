-- How places stand, round after round.
use Rattle.iter_alloc.specs.declared.rounds.Span.{Span}
use Rattle.iter_alloc.proofs.PlaceSums.{sum_by-among}
use Rattle.iter_alloc.specs.Forest.{at}
use Rattle.iter_alloc.specs.Places.{Part, parts, amount, amounts, placed_level, AreLevels, IsRaised, LEVEL_LIMIT}
use Rattle.iter_alloc.specs.Rounds.{share_of, share_by}
use Rattle.std.proofs.Common.{◌≡◌, ℕ, suc, ◌+◌, ◌*◌, ◌^◌, ◌<◌, ◌≤◌, List, [], ◌∷◌, get_or, take, drop, length, ap, sym, ◌∙◌, subst, arith}
use Rattle.std.proofs.lemmas.List.{get_or_default}
use Rattle.std.proofs.lemmas.List.Elements.{All-take, All-drop, All-cons}
use Rattle.std.specs.List.{sum_by}
use Rattle.std.specs.Prelude.{All, ◌==◌, if◌then◌else◌}

pub parts-within : (spans : List Span) (flat : List ℕ) (count : ℕ) → All (λ i. i < count) flat → All (λ part. All (λ i. i < count) part.own) (parts spans flat)
parts-within [] flat count within = λ k d inside. absurd (omega arith)
parts-within (span ∷ spans) flat count within =
    All-cons (λ (part : Part). All (λ i. i < count) part.own) (record { own = take span.len flat; members = span.members }) (parts spans (drop span.len flat)) (All-take (λ i. i < count) span.len flat within)
    (parts-within spans (drop span.len flat) count (All-drop (λ i. i < count) span.len flat within))

-- what a place gets depends on how the places stand
module _ (l m : ℕ → ℕ) (count : ℕ) (same : (i : ℕ) → i < count → l i ≡ m i) where
  amount-same : (i : ℕ) (part : Part) → All (λ j. j < count) part.own → amount l i part ≡ amount m i part
  amount-same i part within =
      let mass = sum_by-among l m part.own (λ k d inside. same (get_or part.own k d) (within k d inside)) in
      sum_by-among (λ j. if j == i then part.members * share_by l part.own j else 0) (λ j. if j == i then part.members * share_by m part.own j else 0) part.own
      (λ k d inside.
      ap (λ n. if get_or part.own k d == i then part.members * share_of n (sum_by l part.own) (length part.own) else 0) (same (get_or part.own k d) (within k d inside))
      ∙ ap (λ n. if get_or part.own k d == i then part.members * share_of (m (get_or part.own k d)) n (length part.own) else 0) mass)

  pub amounts-same : (i : ℕ) (all : List Part) → All (λ part. All (λ j. j < count) part.own) all → amounts l all i ≡ amounts m all i
  amounts-same i all within = sum_by-among (amount l i) (amount m i) all (λ k d inside. amount-same i (get_or all k d) (within k d inside))

-- the places stand as after so many rounds, and are to begin the next anew
pub record Standing (begun : List ℕ) (all : List Part) (n : ℕ) (levels next : List ℕ) : Type 0 where
  pub as_many : length levels ≡ length begun
  pub anew : next ≡ begun
  pub each : (i : ℕ) → i < length begun → at levels i ≡ placed_level begun all n i

pub standing-start : (begun : List ℕ) (all : List Part) (levels next : List ℕ) → levels ≡ begun → next ≡ begun → Standing begun all 0 levels next
unfolding placed_level
standing-start begun all levels next is anew = record {
  as_many = ap (λ (xs : List ℕ). length xs) is;
  anew = anew;
  each = λ i within. ap (λ (xs : List ℕ). at xs i) is;
}

module _ (begun : List ℕ) (all : List Part) (n : ℕ) (levels next : List ℕ) (standing : Standing begun all n levels next) where
  pub standing-low : ((n i : ℕ) → i < length begun → placed_level begun all n i ≤ LEVEL_LIMIT) → AreLevels levels
  standing-low low k d within = omega (arith, get_or_default levels k d 0 within, standing.each k (omega (arith, within, standing.as_many)), low n k (omega (arith, within, standing.as_many)))

  module _ (within : All (λ part. All (λ i. i < length begun) part.own) all) where
    round-is : (i : ℕ) → i < length begun → at begun i + amounts (at levels) all i ≡ placed_level begun all (suc n) i
    unfolding placed_level
    round-is i inside = ap (λ m. at begun i + m) (amounts-same (at levels) (placed_level begun all n) (length begun) standing.each i all within)

    pub standing-fits : ((n i : ℕ) → i < length begun → placed_level begun all n i ≤ LEVEL_LIMIT) → (i : ℕ) → i < length begun → at next i + amounts (at levels) all i < 2 ^ 64
    standing-fits low i inside = omega (arith, ap (λ (xs : List ℕ). at xs i) standing.anew, round-is i inside, low (suc n) i inside)

    pub standing-next : (raised now later : List ℕ) → IsRaised (amounts (at levels) all) next raised → now ≡ raised → later ≡ begun → Standing begun all (n + 1) now later
    standing-next raised now later adds is anew = record {
      as_many = ap (λ (xs : List ℕ). length xs) is ∙ adds.as_many ∙ ap (λ (xs : List ℕ). length xs) standing.anew;
      anew = anew;
      each = λ i inside.
          ap (λ (xs : List ℕ). at xs i) is
          ∙ adds.each i (subst (λ (xs : List ℕ). i < length xs) (sym standing.anew) inside)
          ∙ ap (λ (xs : List ℕ). at xs i + amounts (at levels) all i) standing.anew
          ∙ round-is i inside
          ∙ ap (λ m. placed_level begun all m i) next_number;
    }
      where
        next_number : suc n ≡ n + 1
        next_number = omega arith
