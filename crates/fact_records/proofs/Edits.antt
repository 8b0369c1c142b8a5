-- What the edits of one block do to the facts of all, to the blocks and to their load.
use Rattle.std.proofs.Common.{◌≡◌, ℕ, suc, ◌+◌, ◌<◌, ◌≤◌, List, [], ◌++◌, length, take, drop, get_or, set, Some, zero, true, ◌∷◌, append_assoc, add-one, length-append, refl, sym, ap, ◌∙◌, arith, length-set}
use Rattle.std.specs.List.{insert, remove, slice_get}
use Rattle.std.proofs.lemmas.List.{set_split, take-set, get_or_read, get_or-set_same, drop-set-lt}
use Rattle.std.proofs.lemmas.List.Edits.{length-insert, length-remove}
use Rattle.std.proofs.lemmas.List.Elements.{All-set, All-append, All-cons, All-take, All-drop}
use Rattle.std.proofs.lemmas.List.Concat.{flat_map-append}
use Rattle.std.proofs.lemmas.Option.{slice_get-get_or}
use Rattle.cube_model.specs.declared.edit.Fact.{Fact}
use Rattle.std.proofs.lemmas.Bool.Decides.{nat_tests}
use Rattle.fact_records.specs.declared.blocks.TheConstants.{HALF}
use Rattle.fact_records.specs.BlockList.{AllFilled, BlockList, IsAtPlace, IsFilled, all_facts, block_at, load, place_in_all, spare_of}
use Rattle.fact_records.specs.Joining.{IsJoined, are_sparse, joined_blocks}
use Rattle.fact_records.specs.Room.{MakesRoom}
use Rattle.fact_records.proofs.Flat.{flat-insert, flat-remove, flat-replace, flat-split, slice_get-flat}
use Rattle.fact_records.proofs.Load.{load-behind, load_joined, load_set_more, load_set_less, load_remove}

-- blocks without one are filled
filled_without : (used : List (List Fact)) (i : ℕ) → AllFilled used → AllFilled (remove used i)
filled_without used i filled = All-append IsFilled (take i used) (drop (suc i) used) (All-take IsFilled i used filled) (All-drop IsFilled (suc i) used filled)

-- the facts stay where an empty block goes
pub all_facts-remove : (used : List (List Fact)) (i : ℕ) → i < length used → block_at used i ≡ [] → all_facts (remove used i) ≡ all_facts used
all_facts-remove used i lt empty =
    flat_map-append (λ b. b) (take i used) (drop (suc i) used) ∙ sym (flat-split used i lt ∙ ap (λ b. all_facts (take i used) ++ (b ++ all_facts (drop (suc i) used))) empty)

module _ (old : BlockList) (i k : ℕ) (at : IsAtPlace old.used i k) (all_filled : AllFilled old.used) where
  -- the fact in the block is that at the place among all
  pub had_in_all : (fact : Fact) → slice_get (block_at old.used i) k ≡ Some fact → slice_get (all_facts old.used) (place_in_all old.used i k) ≡ Some fact
  had_in_all fact had = slice_get-flat old.used i k fact at.block at.at ∙ sym (slice_get-get_or (block_at old.used i) k fact at.at) ∙ had

  -- after a fact was written over that at the place
  pub record Replaced (new : BlockList) (fact : Fact) : Type 0 where
    pub facts : all_facts new.used ≡ set (all_facts old.used) (place_in_all old.used i k) fact
    pub filled : AllFilled new.used
    pub spare : spare_of old ≤ spare_of new

  pub replaced : (new : BlockList) (fact : Fact) → new.used ≡ set old.used i (set (block_at old.used i) k fact) → new.stock ≡ old.stock → Replaced new fact
  replaced new fact used stock =
      let here = all_filled i [] at.block in
      let n = length-set (block_at old.used i) k fact in
      let whole : IsFilled (set (block_at old.used i) k fact) = record { some = omega (arith, here.some); most = omega (arith, here.most) } in
      record {
        facts = ap all_facts used ∙ flat-replace old.used i k fact at.block at.at;
        filled = rw used (All-set IsFilled old.used i _ whole all_filled);
        spare = omega (arith, ap load used, load_set_less old.used i (set (block_at old.used i) k fact) at.block (omega arith));
      }

  -- after the fact at the place was taken out
  pub record Removed (new : BlockList) : Type 0 where
    pub facts : all_facts new.used ≡ remove (all_facts old.used) (place_in_all old.used i k)
    pub filled : AllFilled new.used
    pub spare : spare_of old ≤ spare_of new

  -- its block has others
  pub removed : (new : BlockList) → new.used ≡ set old.used i (remove (block_at old.used i) k) → new.stock ≡ old.stock → 1 ≤ length (block_at new.used i) → Removed new
  removed new used stock others =
      let here = all_filled i [] at.block in
      let n = length-remove (block_at old.used i) k at.at in
      let left : block_at new.used i ≡ remove (block_at old.used i) k = ap (λ l. get_or l i []) used ∙ get_or-set_same old.used i _ [] at.block in
      let whole : IsFilled (remove (block_at old.used i) k) = record { some = omega (arith, ap length left); most = omega (arith, here.most) } in
      record {
        facts = ap all_facts used ∙ flat-remove old.used i k at.block at.at;
        filled = rw used (All-set IsFilled old.used i _ whole all_filled);
        spare = omega (arith, ap load used, load_set_less old.used i (remove (block_at old.used i) k) at.block (omega arith));
      }

  -- its block has no other, and goes to the stock
  pub retired : (mid new : BlockList) → mid.used ≡ set old.used i (remove (block_at old.used i) k) → mid.stock ≡ old.stock → block_at mid.used i ≡ [] → new.used ≡ remove mid.used i → new.stock ≡ mid.stock + 1 → Removed new
  retired mid new used stock empty without more =
      let n = length-remove (block_at old.used i) k at.at in
      let in_use : i < length mid.used = omega (arith, at.block, ap length used, length-set old.used i (remove (block_at old.used i) k)) in
      let blocks : new.used ≡ remove old.used i = without ∙ ap (λ l. remove l i) used ∙ remove-set old.used i _ at.block in
      record {
        facts = ap all_facts without ∙ all_facts-remove mid.used i in_use empty ∙ ap all_facts used ∙ flat-remove old.used i k at.block at.at;
        filled = rw blocks (filled_without old.used i all_filled);
        spare = omega (arith, ap load used, ap load without, load_remove mid.used i in_use empty, load_set_less old.used i (remove (block_at old.used i) k) at.block (omega arith));
      }
    where
      remove-set : (used : List (List Fact)) (i : ℕ) (block : List Fact) → i < length used → remove (set used i block) i ≡ remove used i
      remove-set used i block lt = ap (λ l. l ++ drop (suc i) (set used i block)) (take-set used i block) ∙ ap (λ l. take i used ++ l) (drop-set-lt (suc i) used i block (omega arith))

-- after a fact was put in where room was made
pub record Inserted (old new : BlockList) (b a : ℕ) (fact : Fact) : Type 0 where
  pub facts : all_facts new.used ≡ insert (all_facts old.used) (place_in_all old.used b a) fact
  pub filled : AllFilled new.used
  pub spare : spare_of old ≤ spare_of new + 1

pub inserted : (old mid new : BlockList) (b a i k : ℕ) (fact : Fact) → MakesRoom old mid b a i k → new.used ≡ set mid.used i (insert (block_at mid.used i) k fact) → new.stock ≡ mid.stock → Inserted old new b a fact
inserted old mid new b a i k fact room used stock =
    let n = length-insert (block_at mid.used i) k fact room.within in
    let whole : IsFilled (insert (block_at mid.used i) k fact) = record { some = omega arith; most = omega (arith, room.room) } in
    record {
      facts = ap all_facts used ∙ flat-insert mid.used i k fact room.in_use room.within ∙ ap (λ l. insert l (place_in_all mid.used i k) fact) room.facts ∙ ap (λ p. insert (all_facts old.used) p fact) room.place;
      filled = rw (used, set_split mid.used i (insert (block_at mid.used i) k fact) room.in_use) (All-append IsFilled (take i mid.used) _ room.before (All-cons IsFilled _ (drop (suc i) mid.used) whole room.behind));
      spare = omega (arith, room.lighter, room.stock, ap load used, load_set_more mid.used i (insert (block_at mid.used i) k fact) room.in_use (omega arith));
    }

-- two blocks that have few facts become one

-- the two among all blocks
pair-at : (used : List (List Fact)) (i : ℕ) → suc i < length used → used ≡ take i used ++ block_at used i ∷ block_at used (suc i) ∷ drop (suc (suc i)) used
pair-at [] i within = absurd (omega arith)
pair-at (first ∷ []) i within = absurd (omega arith)
pair-at (first ∷ second ∷ used) zero within = refl
pair-at (first ∷ second ∷ used) (suc i) within = ap (λ l. first ∷ l) (pair-at (second ∷ used) i (omega arith))

-- one block in their place
remove_behind_set : (used : List (List Fact)) (i : ℕ) (block : List Fact) → suc i < length used → remove (set used i block) (suc i) ≡ take i used ++ block ∷ drop (suc (suc i)) used
remove_behind_set [] i block within = absurd (omega arith)
remove_behind_set (first ∷ []) i block within = absurd (omega arith)
remove_behind_set (first ∷ second ∷ used) zero block within = refl
remove_behind_set (first ∷ second ∷ used) (suc i) block within = ap (λ l. first ∷ l) (remove_behind_set (second ∷ used) i block (omega arith))

pub sparse-within : (used : List (List Fact)) (i : ℕ) → are_sparse used i ≡ true → i + 1 < length used
sparse-within used i sparse = grind (arith, nat_tests, sparse)

sparse-few : (used : List (List Fact)) (i : ℕ) → are_sparse used i ≡ true → length (block_at used i) + length (block_at used (suc i)) ≤ HALF
sparse-few used i sparse =
    let next : block_at used (i + 1) ≡ block_at used (suc i) = ap (block_at used) (add-one i) in
    let few : length (block_at used i) + length (block_at used (i + 1)) ≤ HALF = grind (arith, nat_tests, sparse) in
    omega (arith, few, ap length next)

joined_blocks-parts : (used : List (List Fact)) (i : ℕ) → suc i < length used → joined_blocks used i ≡ take i used ++ (block_at used i ++ block_at used (suc i)) ∷ drop (suc (suc i)) used
joined_blocks-parts used i within = ap (λ n. remove (set used i (block_at used i ++ block_at used n)) n) (add-one i) ∙ remove_behind_set used i (block_at used i ++ block_at used (suc i)) within

-- the facts stay
pub all_facts-joined : (used : List (List Fact)) (i : ℕ) → i + 1 < length used → all_facts (joined_blocks used i) ≡ all_facts used
all_facts-joined used i within =
    let front = block_at used i in
    let back = block_at used (suc i) in
    let rest = drop (suc (suc i)) used in
    ap all_facts (joined_blocks-parts used i (omega arith)) ∙ flat_map-append (λ b. b) (take i used) ((front ++ back) ∷ rest)
    ∙ ap (λ l. all_facts (take i used) ++ l) (append_assoc front back (all_facts rest))
    ∙ sym (ap all_facts (pair-at used i (omega arith)) ∙ flat_map-append (λ b. b) (take i used) (front ∷ back ∷ rest))

-- the two were joined by taking the second out and writing both over the first
pub joined_by : (used mid : List (List Fact)) (i : ℕ) (next here both : List Fact) → i + 1 < length used → mid ≡ remove used (i + 1) → next ≡ get_or used (i + 1) next → here ≡ get_or mid i here → both ≡ here ++ next → set mid i both ≡ joined_blocks used i
joined_by used mid i next here both within is_mid is_next is_here is_both =
    let second : next ≡ block_at used (i + 1) = get_or_read used (i + 1) next within is_next [] in
    let few : i < length mid = omega (arith, ap length is_mid, length-remove used (i + 1) within) in
    let first : here ≡ block_at used i =
    get_or_read mid i here few is_here [] ∙ ap (λ l. get_or l i []) (is_mid ∙ ap (remove used) (add-one i)) ∙ get_or-remove_later used i in
    let mid_is : mid ≡ remove used (suc i) = is_mid ∙ ap (remove used) (add-one i) in
    ap (λ l. set l i both) mid_is ∙ set-remove_later used i both
    ∙ ap (remove (set used i both)) (sym (add-one i)) ∙ ap (λ b. remove (set used i b) (i + 1)) (is_both ∙ ap (λ b. b ++ next) first ∙ ap (λ b. block_at used i ++ b) second)
  where
    get_or-remove_later : (used : List (List Fact)) (i : ℕ) → get_or (remove used (suc i)) i [] ≡ get_or used i []
    get_or-remove_later [] i = refl
    get_or-remove_later (block ∷ used) zero = refl
    get_or-remove_later (block ∷ used) (suc i) = get_or-remove_later used i

    set-remove_later : (used : List (List Fact)) (i : ℕ) (block : List Fact) → set (remove used (suc i)) i block ≡ remove (set used i block) (suc i)
    set-remove_later [] i block = refl
    set-remove_later (first ∷ used) zero block = refl
    set-remove_later (first ∷ used) (suc i) block = ap (λ l. first ∷ l) (set-remove_later used i block)

pub joins : (old new : BlockList) (i : ℕ) → true ≡ are_sparse old.used i → AllFilled old.used → new.used ≡ joined_blocks old.used i → new.stock ≡ old.stock + 1 → IsJoined old new
joins old new i is_sparse all_filled used stock =
    let sparse = sym is_sparse in
    let more : i + 1 < length old.used = sparse-within old.used i sparse in
    let within : suc i < length old.used = omega arith in
    let few = sparse-few old.used i sparse in
    let front = block_at old.used i in
    let back = block_at old.used (suc i) in
    let rest = drop (suc (suc i)) old.used in
    let both = length-append (block_at old.used i) (block_at old.used (suc i)) in
    let blocks : new.used ≡ take i old.used ++ (block_at old.used i ++ block_at old.used (suc i)) ∷ drop (suc (suc i)) old.used = used ∙ joined_blocks-parts old.used i within in
    let whole : IsFilled (block_at old.used i ++ block_at old.used (suc i)) = record { some = omega (arith, both, (all_filled i [] (omega arith)).some); most = omega (arith, both, few) } in
    record {
      facts = ap all_facts used ∙ all_facts-joined old.used i more;
      filled = rw blocks (All-append IsFilled (take i old.used) ((front ++ back) ∷ rest) (All-take IsFilled i old.used all_filled) (All-cons IsFilled (front ++ back) rest whole (All-drop IsFilled (suc (suc i)) old.used all_filled)));
      spare = omega (arith, ap load blocks, ap load (pair-at old.used i within), load-behind (take i old.used) (front ++ back) rest, load-behind (take i old.used) front (back ∷ rest), load_joined front back rest few);
    }

-- where none is joined
pub joins_none : (old : BlockList) → AllFilled old.used → IsJoined old old
joins_none old all_filled = record { facts = refl; filled = all_filled; spare = omega arith }

-- the fact was taken out, and then its block was joined with another
pub removed_joined : (old mid new : BlockList) (i k : ℕ) (at : IsAtPlace old.used i k) (all_filled : AllFilled old.used) → Removed old i k at all_filled mid → IsJoined mid new → Removed old i k at all_filled new
removed_joined old mid new i k at all_filled out whole = record {
  facts = whole.facts ∙ out.facts;
  filled = whole.filled;
  spare = omega (arith, out.spare, whole.spare);
}
