-- A walk through blocks goes from fact to fact.
use Rattle.std.proofs.Common.{◌≡◌, ℕ, zero, suc, List, [], ◌∷◌, ◌++◌, length, drop, Some, refl, ap, arith}
use Rattle.std.specs.Prelude.{slice_get}
use Rattle.cube_model.specs.declared.edit.Fact.{Fact}
use Rattle.fact_records.specs.BlockList.{AllFilled}
use Rattle.fact_records.specs.Walking.{IsNextPlace}

-- at a place of the front stands what is read there
pub drop-front : {X : Type 0} (xs rest : List X) (at : ℕ) (x : X) → slice_get xs at ≡ Some x → drop at (xs ++ rest) ≡ x ∷ drop (suc at) (xs ++ rest)
drop-front [] rest at x is = cc
drop-front (y ∷ xs) rest zero x is = let its : y ≡ x = cc in ap (λ z. z ∷ (xs ++ rest)) its
drop-front (y ∷ xs) rest (suc at) x is = drop-front xs rest at x is

-- behind the front the rest begins
pub drop-whole : {X : Type 0} (xs rest : List X) → drop (length xs) (xs ++ rest) ≡ rest
drop-whole [] rest = refl
drop-whole (x ∷ xs) rest = drop-whole xs rest

-- blocks that are filled begin with a fact, if there is one
pub next-start : (blocks : List (List Fact)) → AllFilled blocks → IsNextPlace blocks 0
next-start [] filled = record { filled = filled; within = omega arith }
next-start (block ∷ blocks) filled = record { filled = filled; within = omega (arith, (filled 0 [] (omega arith)).some) }
