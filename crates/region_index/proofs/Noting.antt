-- Patterns that are noted are known from then on.
use Rattle.std.proofs.Common.{◌≡◌, ℕ, ◌+◌, ◌≤◌, Bool, true, false, List, [], ◌∷◌, ◌++◌, length, length-append, refl, ap, ◌∙◌, arith}
use Rattle.std.specs.Prelude.{if◌then◌else◌, nat_lt, ◌||◌, ◌==◌, Some, None}
use Rattle.std.proofs.lemmas.Bool.Decides.{nat_tests}
use Rattle.std.specs.Cmp.{nat_eq_equiv}
use Rattle.std.specs.List.{IsDistinct}
use Rattle.std.proofs.lemmas.List.Folds.{list_any-append}
use Rattle.std.proofs.lemmas.Map.Keys.{IsDistinct-push}
use Rattle.cube_model.specs.Cells.{is_among}
use Rattle.region_index.specs.declared.patterns.TheConstants.{MAX_PATTERNS}
use Rattle.region_index.specs.Patterns.{IsListed, Patterns, is_known, noted, with_pattern}
use Rattle.region_index.proofs.Changing.{any-flip}

-- an empty list has each pattern once
pub IsListed-none : IsListed []
unfolding IsDistinct
IsListed-none = record { once = tt; few = omega arith }

-- with one more, what is listed is known, and that one
known-with : (listed : List ℕ) (pattern other : ℕ) → (is_among listed other || pattern == other) ≡ true → is_known (with_pattern listed pattern) other ≡ true
known-with listed pattern other either = here (nat_lt (length listed) 64)
  where
    here : (room : Bool) → is_known (if room then Some (listed ++ pattern ∷ []) else None) other ≡ true
    here true = list_any-append (λ p. p == other) listed (pattern ∷ []) ∙ grind (arith, either)
    here false = refl

pub known-noted : (patterns : Patterns) (pattern : ℕ) → is_known (noted patterns pattern) pattern ≡ true
known-noted None pattern = refl
known-noted (Some listed) pattern = here (is_among listed pattern) refl
  where
    here : (b : Bool) → is_among listed pattern ≡ b → is_known (if b then Some listed else with_pattern listed pattern) pattern ≡ true
    here true is = is
    here false is = known-with listed pattern pattern (grind (arith, nat_tests))

pub known-kept : (patterns : Patterns) (pattern other : ℕ) → is_known patterns other ≡ true → is_known (noted patterns pattern) other ≡ true
known-kept None pattern other known = refl
known-kept (Some listed) pattern other known = here (is_among listed pattern)
  where
    here : (b : Bool) → is_known (if b then Some listed else with_pattern listed pattern) other ≡ true
    here true = known
    here false = known-with listed pattern other (grind (arith, known))

-- a list of which a pattern is not known has room for it, once
module _ (full : Bool) (listed : List ℕ) (patterns : Patterns) (pattern : ℕ) (is : (if full then None else Some listed) ≡ patterns) (unknown : is_known patterns pattern ≡ false) where
  not-listed : is_among listed pattern ≡ false
  not-listed = here full (ap (λ ps. is_known ps pattern) is ∙ unknown)
    where
      here : (b : Bool) → is_known (if b then None else Some listed) pattern ≡ false → is_among listed pattern ≡ false
      here true none = absurd (grind (arith, none))
      here false none = none

  pub IsListed-added : (more : List ℕ) → IsListed listed → (length listed == MAX_PATTERNS) ≡ false → more ≡ listed ++ pattern ∷ [] → IsListed more
  IsListed-added more old room added = rw added (record {
    once = IsDistinct-push nat_eq_equiv listed pattern old.once (any-flip listed pattern ∙ not-listed);
    few = short;
  })
    where
      fewer : (n : ℕ) → n ≤ 64 → (n == 64) ≡ false → n + 1 ≤ 64
      fewer n most other = grind (arith, nat_tests, most, other)

      short : length (listed ++ pattern ∷ []) ≤ 64
      short = omega (arith, length-append listed (pattern ∷ []), fewer (length listed) old.few room)
