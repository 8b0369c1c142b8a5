-- Where a denominator stands among terms, or where it would go.
use Rattle.std.specs.Prelude.{ℕ, ◌<◌, List, [], length, slice_index_or}
use Rattle.cube_base.specs.Search.{IsKeyAt, IsKeyGap}
use Rattle.cube_model.specs.declared.term.Term.{Term}

-- what is read past the end
abbrev pub no_term : Term
no_term = record { den = 0; count = 0; sums = [] }

-- the term at a place
abbrev pub term_at : List Term → ℕ → Term
term_at terms i = slice_index_or terms i no_term

-- the term at place i has the denominator
abbrev pub IsAt : List Term → ℕ → ℕ → Type 0
IsAt terms den i = IsKeyAt (λ t. t.den) no_term terms den i

-- a term of the denominator would go at place i: smaller denominators before it, and greater ones from it on
abbrev pub IsGapFor : List Term → ℕ → ℕ → Type 0
IsGapFor terms den i = IsKeyGap (λ t. t.den) no_term terms den i

-- a later term has a greater denominator
pub record Ascend (terms : List Term) : Type 0 where
  pub each : (i j : ℕ) → i < j → j < length terms → (term_at terms i).den < (term_at terms j).den
