-- Two lists of views of which each view of the one is related to the view of the other at its place.
use Rattle.std.proofs.Common.{◌≡◌, ℕ, suc, List, [], ◌∷◌, length, map, refl, ap, ◌∙◌, arith}
use Rattle.std.specs.Prelude.{All, IfSome, slice_get}
use Rattle.std.proofs.lemmas.List.Elements.{All-cons, All-head, All-nil, All-tail}
use Rattle.view_store.specs.Views.{ViewMap}

module _ (R : ViewMap → ViewMap → Type 0) where
  -- what holds of each of the old ones makes hold something of each of the new ones
  pub All-along : (P Q : ViewMap → Type 0) → ((a b : ViewMap) → R a b → P a → Q b) → (old new : List ViewMap) → length new ≡ length old → ((v : ℕ) → IfSome (slice_get old v) (λ a. IfSome (slice_get new v) (R a)))
      → All P old → All Q new
  All-along P Q each [] [] count related all = All-nil Q
  All-along P Q each [] (b ∷ new) count related all = absurd (omega arith)
  All-along P Q each (a ∷ old) [] count related all = absurd (omega arith)
  All-along P Q each (a ∷ old) (b ∷ new) count related all =
      All-cons Q b new (each a b (related 0) (All-head P a old all)) (All-along P Q each old new (omega (arith, count)) (λ v. related (suc v)) (All-tail P a old all))

  -- where each pair is cut alike, so are all
  pub depths-along : ((a b : ViewMap) → R a b → b.depths ≡ a.depths) → (old new : List ViewMap) → length new ≡ length old → ((v : ℕ) → IfSome (slice_get old v) (λ a. IfSome (slice_get new v) (R a)))
      → map (λ (view : ViewMap). view.depths) new ≡ map (λ (view : ViewMap). view.depths) old
  depths-along alike [] [] count related = refl
  depths-along alike [] (b ∷ new) count related = absurd (omega arith)
  depths-along alike (a ∷ old) [] count related = absurd (omega arith)
  depths-along alike (a ∷ old) (b ∷ new) count related =
      ap (λ (depths : List ℕ). depths ∷ map (λ (view : ViewMap). view.depths) new) (alike a b (related 0))
      ∙ ap (λ (rest : List (List ℕ)). a.depths ∷ rest) (depths-along alike old new (omega (arith, count)) (λ v. related (suc v)))
