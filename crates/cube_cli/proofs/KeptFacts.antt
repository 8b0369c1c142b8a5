-- The kept facts of a content in which nothing is found are in order of their ids.
use Rattle.std.proofs.Common.{◌≡◌, ℕ, suc, ◌<◌, true, List, [], ◌∷◌, get_or, length, map, ap, sym, ◌∙◌, subst, arith}
use Rattle.std.specs.Prelude.{AllPairs, Some, nat_lt, slice_get}
use Rattle.std.specs.List.{AllAdjacentBelow}
use Rattle.std.specs.Option.{option_and_then, option_map_or}
use Rattle.std.proofs.lemmas.Bool.Decides.{nat_tests}
use Rattle.std.proofs.lemmas.List.Elements.{All-map}
use Rattle.std.proofs.lemmas.List.Kept.{AllPairs-cons}
use Rattle.std.proofs.lemmas.Option.{slice_get-get_or}
use Rattle.cube_model.specs.Tree.{Dimension}
use Rattle.fact_groups.proofs.Ascending.{pairs-first, pairs-rest}
use Rattle.fact_keeper.specs.declared.content.KeptFact.{KeptFact}
use Rattle.fact_keeper.specs.Batch.{fact_id}
use Rattle.fact_keeper.specs.Order.{AscendsBy}
use Rattle.fact_keeper.proofs.Puts.{ascending_from_adjacent}
use Rattle.fact_records.specs.FactList.{IsAscending}
use Rattle.fact_records.specs.Shape.{ShapeValue}
use Rattle.store_audit.specs.Sound.{AreGood, fact_fault, fact_told, id_before}
use Rattle.store_audit.proofs.Judging.{IsGood, good-fact}

-- what is made of items in order is in order
pub pairs-map : {X Y : Type 0} (f : X → Y) (key : Y → ℕ) (xs : List X) → AllPairs (λ a b. key (f a) < key (f b)) xs → AscendsBy key (map f xs)
pairs-map f key [] up = λ i j d before within. absurd (omega (arith, within))
pairs-map f key (x ∷ xs) up =
    AllPairs-cons (λ a b. key a < key b) (f x) (map f xs) (All-map (λ b. key (f x) < key b) f xs (pairs-first (λ a b. key (f a) < key (f b)) x xs up))
    (pairs-map f key xs (pairs-rest (λ a b. key (f a) < key (f b)) x xs up))

module _ (shape : ShapeValue) (dims : List Dimension) (kept : List KeptFact) (good : AreGood shape dims kept) where
  good-at : (place : ℕ) (fact : KeptFact) → slice_get kept place ≡ Some fact → IsGood shape dims place (id_before kept place) fact
  good-at place fact at =
      good-fact shape dims place (id_before kept place) fact (ap (option_and_then (fact_fault shape dims place (id_before kept place))) (sym at) ∙ good place)

  adjacent : AllAdjacentBelow (λ x y. true ≡ nat_lt (fact_id x) (fact_id y)) kept (length kept)
  adjacent i d within =
      let next = good-at (suc i) (get_or kept (suc i) d) (slice_get-get_or kept (suc i) d (omega (arith, within))) in
      let before : id_before kept (suc i) ≡ fact_id (get_or kept i d) = ap (λ o. option_map_or fact_id o 0) (slice_get-get_or kept i d (omega (arith, within))) in
      let less : fact_id (get_or kept i d) < fact_id (get_or kept (suc i) d) = subst (λ n. n < fact_id (get_or kept (suc i) d)) before next.above in
      grind (arith, nat_tests, less)

  pub good-ascends : AscendsBy fact_id kept
  good-ascends = ascending_from_adjacent fact_id kept adjacent

  -- and so are the facts that they tell
  pub told-ascends : IsAscending (map fact_told kept)
  told-ascends = pairs-map fact_told (λ f. f.id) kept good-ascends
