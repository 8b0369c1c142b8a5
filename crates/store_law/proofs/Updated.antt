-- Entries that ascend, after a batch: told by the entry of each id.
use Rattle.std.proofs.Common.{◌≡◌, ℕ, Bool, true, false, cond, List, [], ◌∷◌, map, refl, ap, sym, ◌∙◌, arith}
use Rattle.std.specs.Prelude.{Option, None, filter, find, ◌==◌}
use Rattle.std.specs.List.{list_any}
use Rattle.std.specs.Option.{option_map, option_or}
use Rattle.std.proofs.lemmas.Bool.Decides.{nat_tests}
use Rattle.fact_keeper.specs.Batch.{updated}
use Rattle.fact_keeper.specs.Order.{AscendsBy}
use Rattle.fact_keeper.proofs.Found.{entry_of, entry_of-updated, same_from_entries, updated-ascends}

-- an entry of what is made of items
pub find-map : {X Y : Type 0} (f : X → Y) (p : Y → Bool) (xs : List X) → find p (map f xs) ≡ option_map f (find (λ x. p (f x)) xs)
find-map f p [] = refl
find-map f p (x ∷ xs) = either (p (f x)) refl (find-map f p xs)
  where
    either : (b : Bool) → p (f x) ≡ b → find p (map f xs) ≡ option_map f (find (λ x. p (f x)) xs) → find p (map f (x ∷ xs)) ≡ option_map f (find (λ x. p (f x)) (x ∷ xs))
    either true is rest = rw is refl
    either false is rest = rw is rest

module _ {X : Type 0} (id_of : X → ℕ) where
  -- the entry of an id among those whose ids pass a test
  pub entry_of-passing : (p : ℕ → Bool) (n : ℕ) (xs : List X) → entry_of id_of n (filter (λ e. p (id_of e)) xs) ≡ cond (p n) (entry_of id_of n xs) None
  entry_of-passing p n [] = either (p n)
    where
      either : (b : Bool) → ◌≡◌ {A = Option X} None (cond b None None)
      either true = refl
      either false = refl
  entry_of-passing p n (x ∷ xs) = either (id_of x == n) (p (id_of x)) refl refl (entry_of-passing p n xs)
    where
      either : (a b : Bool) → (id_of x == n) ≡ a → p (id_of x) ≡ b → entry_of id_of n (filter (λ e. p (id_of e)) xs) ≡ cond (p n) (entry_of id_of n xs) None
          → entry_of id_of n (filter (λ e. p (id_of e)) (x ∷ xs)) ≡ cond (p n) (entry_of id_of n (x ∷ xs)) None
      either true true is passes rest =
          let its : id_of x ≡ n = grind (arith, nat_tests, is) in
          let here : p n ≡ true = ap p (sym its) ∙ passes in
          rw (passes, is, here) refl
      either true false is passes rest =
          let its : id_of x ≡ n = grind (arith, nat_tests, is) in
          let here : p n ≡ false = ap p (sym its) ∙ passes in
          rw (passes, is, here) (rest ∙ ap (λ (b : Bool). cond b (entry_of id_of n xs) None) here)
      either false true is passes rest = rw (passes, is) rest
      either false false is passes rest = rw (passes, is) rest

  -- the entries after a batch are those of which each id has the new one, else the old one unless it is gone
  pub updated-is : (gone : List ℕ) (new old later : List X) → AscendsBy id_of new → AscendsBy id_of old → AscendsBy id_of later
      → ((n : ℕ) → option_or (entry_of id_of n new) (cond (list_any (λ g. g == n) gone) None (entry_of id_of n old)) ≡ entry_of id_of n later) → updated id_of gone new old ≡ later
  updated-is gone new old later new_up up later_up each =
      same_from_entries id_of (updated id_of gone new old) later (updated-ascends id_of gone new old up) later_up (λ n. entry_of-updated id_of n gone new old new_up ∙ each n)
