-- The stock of empty blocks, when one comes into use and when one goes out of use.
use Rattle.std.proofs.Common.{◌≡◌, ℕ, ◌+◌, ◌≤◌, List, [], ◌∷◌, ◌++◌, length, refl, sym, ap, ◌∙◌, arith, length-append, get_or}
use Rattle.std.proofs.lemmas.List.{get_or_append_left, get_or_push}
use Rattle.std.specs.List.{All}
use Rattle.std.proofs.lemmas.List.Elements.{All-append, All-cons, All-nil}
use Rattle.cube_model.specs.declared.edit.Fact.{Fact}
use Rattle.fact_records.specs.BlockList.{IsStocked}

-- the last of the stock is empty
pub empty-popped : (stock left : List (List Fact)) (block : List Fact) → All (λ b. b ≡ []) stock → stock ≡ left ++ block ∷ [] → block ≡ []
empty-popped stock left block empty parts =
    sym (get_or_push left block [] (length left) refl) ∙ sym (ap (λ l. get_or l (length left) []) parts) ∙ empty (length left) [] (omega (arith, ap length parts, length-append left (block ∷ [])))

module _ (in_use in_use' places places' stock_places stock_places' : ℕ) (stock stock' : List (List Fact)) (block : List Fact) (stocked : IsStocked in_use places stock stock_places) (room : places ≤ places') (stock_room : stock_places ≤ stock_places') where
  -- the last of the stock comes into use
  pub stocked-popped : stock ≡ stock' ++ block ∷ [] → in_use' ≡ in_use + 1 → IsStocked in_use' places' stock' stock_places'
  stocked-popped parts more =
      let fewer : length stock ≡ length stock' + 1 = omega (arith, ap length parts, length-append stock' (block ∷ [])) in
      record {
        fits = omega (arith, stocked.fits, more, fewer, room);
        fits_stock = omega (arith, stocked.fits_stock, more, fewer, stock_room);
        empty = λ k d within. rw (← get_or_append_left stock' (block ∷ []) d k within, ← parts) (stocked.empty k d (omega (arith, fewer)));
      }

  -- an empty block goes behind the stock
  pub stocked-pushed : stock' ≡ stock ++ block ∷ [] → block ≡ [] → in_use' + 1 ≡ in_use → IsStocked in_use' places' stock' stock_places'
  stocked-pushed parts empty fewer =
      let more : length stock' ≡ length stock + 1 = omega (arith, ap length parts, length-append stock (block ∷ [])) in
      record {
        fits = omega (arith, stocked.fits, more, fewer, room);
        fits_stock = omega (arith, stocked.fits_stock, more, fewer, stock_room);
        empty = rw parts (All-append (λ b. b ≡ []) stock (block ∷ []) stocked.empty (All-cons (λ b. b ≡ []) block [] empty (All-nil (λ b. b ≡ []))));
      }
