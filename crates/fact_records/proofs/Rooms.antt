-- Room made for a fact: in a block that has some, in a new one behind all, or in one of two blocks that were split or leveled.
use Rattle.std.proofs.Common.{◌≡◌, ℕ, zero, suc, ◌+◌, ◌-◌, ◌*◌, ◌<◌, ◌≤◌, List, [], ◌∷◌, ◌++◌, length, take, drop, get_or, set, inl, inr, refl, sym, ap, ◌∙◌, arith, append_assoc, length-append, length-set, add-one}
use Rattle.std.specs.List.{insert}
use Rattle.std.proofs.lemmas.Bool.{cases_lt}
use Rattle.std.proofs.lemmas.List.{append-nil, take-append-drop, take_at, drop_at, get_or_at, drop_all, length-take-le, length-drop}
use Rattle.std.proofs.lemmas.List.Edits.{insert_end, length-insert}
use Rattle.std.proofs.lemmas.List.Elements.{All-append, All-cons, All-nil, All-take, All-drop}
use Rattle.std.proofs.lemmas.List.Concat.{flat_map-append}
use Rattle.cube_model.specs.declared.edit.Fact.{Fact}
use Rattle.fact_records.specs.declared.block.TheConstants.{BLOCK}
use Rattle.fact_records.specs.declared.blocks.TheConstants.{HALF}
use Rattle.fact_records.specs.BlockList.{AllFilled, BlockList, IsFilled, IsPlace, all_facts, block_at, load, place_in_all}
use Rattle.fact_records.specs.Leveling.{IsPairWithRoom, IsPlaceInPair, first_half, leveled, second_half}
use Rattle.fact_records.specs.Room.{MakesRoom}
use Rattle.fact_records.proofs.Flat.{flat-split, place-more, place-end}
use Rattle.fact_records.proofs.Leveling.{all_facts-leveled, length-first_half, length-second_half, leveled-apart, leveled-first, load-leveled}
use Rattle.fact_records.proofs.Load.{load_push, load_split}

-- the block is not full
pub room_there : (old : BlockList) (b a : ℕ) → IsPlace old.used b a → AllFilled old.used → 0 < length old.used → length (block_at old.used b) < BLOCK → MakesRoom old old b a b a
room_there old b a place filled some room = record {
  facts = refl;
  place = refl;
  in_use = omega (arith, place.block);
  within = place.at;
  room = room;
  before = All-take IsFilled b old.used filled;
  behind = All-drop IsFilled (suc b) old.used filled;
  lighter = omega arith;
  stock = omega arith;
}

-- the place is behind all facts, and the last block is full
pub room_behind : (old new : BlockList) (b a : ℕ) → IsPlace old.used b a → AllFilled old.used → length (block_at old.used b) ≡ BLOCK → a ≡ BLOCK → b + 1 ≡ length old.used → new.used ≡ insert old.used (b + 1) [] → new.stock + 1 ≡ old.stock → MakesRoom old new b a (b + 1) 0
room_behind old new b a place filled full end last used stock =
    let longer : new.used ≡ old.used ++ [] ∷ [] = used ∙ ap (λ n. insert old.used n []) last ∙ insert_end old.used [] in
    let front : take (b + 1) new.used ≡ old.used = ap (take (b + 1)) longer ∙ take_at old.used ([] ∷ []) (b + 1) (sym last) in
    let empty : block_at new.used (b + 1) ≡ [] = ap (λ l. get_or l (b + 1) []) longer ∙ get_or_at old.used [] [] [] (b + 1) (sym last) in
    let total = length-append old.used ([] ∷ []) in
    record {
      facts = ap all_facts longer ∙ flat_map-append (λ x. x) old.used ([] ∷ []) ∙ append-nil (all_facts old.used);
      place = omega (arith, ap (λ l. length (all_facts l)) front, place-end old.used (b + 1) (omega arith), place-more old.used b (omega arith));
      in_use = omega (arith, ap length longer);
      within = omega arith;
      room = omega (arith, ap length empty);
      before = rw front filled;
      behind = rw (drop_all (suc (b + 1)) new.used (omega (arith, ap length longer))) (All-nil IsFilled);
      lighter = omega (arith, ap load longer, load_push old.used b last full);
      stock = omega arith;
    }

-- two blocks in the place of one
insert_after_set : (used : List (List Fact)) (b : ℕ) (front back : List Fact) → b < length used → insert (set used b front) (suc b) back ≡ take b used ++ front ∷ back ∷ drop (suc b) used
insert_after_set [] b front back lt = absurd (omega arith)
insert_after_set (block ∷ used) zero front back lt = refl
insert_after_set (block ∷ used) (suc b) front back lt = ap (λ l. block ∷ l) (insert_after_set used b front back (omega arith))

-- a block that has facts, and room
pub record IsOpen (block : List Fact) : Type 0 where
  pub filled : IsFilled block
  pub room : length block < BLOCK

-- two blocks stand in the place of one or two, and have the facts of these
module _ (old new : BlockList) (b n : ℕ) (front back : List Fact) (in_use : b < length old.used) (filled : AllFilled old.used) (parts : new.used ≡ take b old.used ++ front ∷ back ∷ drop n old.used)
    (same : all_facts new.used ≡ all_facts old.used) (first : IsOpen front) (second : IsOpen back) (lighter : load new.used + HALF * old.stock ≤ load old.used + HALF * new.stock) (stock : old.stock ≤ new.stock + 1) where
  apart : new.used ≡ (take b old.used ++ front ∷ []) ++ back ∷ drop n old.used
  apart = parts ∙ sym (append_assoc (take b old.used) (front ∷ []) (back ∷ drop n old.used))

  front_length : length (take b old.used) ≡ b
  front_length = length-take-le b old.used (omega arith)

  front_length_more : length (take b old.used ++ front ∷ []) ≡ b + 1
  front_length_more = omega (arith, length-append (take b old.used) (front ∷ []), front_length)

  new_length : b + 1 < length new.used
  new_length = omega (arith, ap length apart, length-append (take b old.used ++ front ∷ []) (back ∷ drop n old.used), front_length_more)

  -- a place of these is in the first
  room_in_front : (i k at : ℕ) → place_in_all old.used b at ≡ place_in_all old.used i k → at ≤ length front → MakesRoom old new i k b at
  room_in_front i k at place le =
      let before : take b new.used ≡ take b old.used = ap (take b) parts ∙ take_at (take b old.used) (front ∷ back ∷ drop n old.used) b front_length in
      let here : block_at new.used b ≡ front = ap (λ l. get_or l b []) parts ∙ get_or_at (take b old.used) front (back ∷ drop n old.used) [] b front_length in
      let behind : drop (suc b) new.used ≡ back ∷ drop n old.used = ap (drop (suc b)) apart ∙ drop_at (take b old.used ++ front ∷ []) (back ∷ drop n old.used) (suc b) (omega (arith, front_length_more)) in
      record {
        facts = same;
        place = ap (λ l. length (all_facts l) + at) before ∙ place;
        in_use = omega (arith, new_length);
        within = omega (arith, ap length here, le);
        room = omega (arith, ap length here, first.room);
        before = rw before (All-take IsFilled b old.used filled);
        behind = rw behind (All-cons IsFilled back _ second.filled (All-drop IsFilled n old.used filled));
        lighter = lighter;
        stock = stock;
      }

  -- or in the second
  room_in_back : (i k at : ℕ) → place_in_all old.used b at ≡ place_in_all old.used i k → length front < at → at ≤ length front + length back → MakesRoom old new i k (b + 1) (at - length front)
  room_in_back i k at place lt le =
      let before : take (b + 1) new.used ≡ take b old.used ++ front ∷ [] = ap (take (b + 1)) apart ∙ take_at (take b old.used ++ front ∷ []) (back ∷ drop n old.used) (b + 1) front_length_more in
      let here : block_at new.used (b + 1) ≡ back = ap (λ l. get_or l (b + 1) []) apart ∙ get_or_at (take b old.used ++ front ∷ []) back (drop n old.used) [] (b + 1) front_length_more in
      let behind : drop (suc (b + 1)) new.used ≡ drop n old.used = ap (λ l. drop (suc (b + 1)) l) (apart ∙ sym (append_assoc (take b old.used ++ front ∷ []) (back ∷ []) (drop n old.used))) ∙ drop_at ((take b old.used ++ front ∷ []) ++ back ∷ []) (drop n old.used) (suc (b + 1)) (omega (arith, length-append (take b old.used ++ front ∷ []) (back ∷ []), front_length_more)) in
      let facts_before : length (all_facts (take b old.used ++ front ∷ [])) ≡ length (all_facts (take b old.used)) + length front = omega (arith, ap length (flat_map-append (λ x. x) (take b old.used) (front ∷ [])), length-append (all_facts (take b old.used)) (front ++ []), length-append front []) in
      record {
        facts = same;
        place = omega (arith, ap (λ l. length (all_facts l)) before, facts_before, place);
        in_use = omega (arith, new_length);
        within = omega (arith, ap length here);
        room = omega (arith, ap length here, second.room);
        before = rw before (All-append IsFilled (take b old.used) (front ∷ []) (All-take IsFilled b old.used filled) (All-cons IsFilled front [] first.filled (All-nil IsFilled)));
        behind = rw behind (All-drop IsFilled n old.used filled);
        lighter = lighter;
        stock = stock;
      }

  pub room_in_pair : (i k at len block within : ℕ) → place_in_all old.used b at ≡ place_in_all old.used i k → at ≤ length front + length back → len ≡ length front → IsPlaceInPair b len at block within → MakesRoom old new i k block within
  room_in_pair i k at len block within place le first_is is = elim (cases_lt len at) [
    | inl past ↦
        let new_place = is.back past in
        let from_second : within ≡ at - length front = omega (arith, new_place.1, first_is) in
        rw (new_place.0, from_second) (room_in_back i k at place (omega (arith, first_is)) le)
    | inr in_first ↦
        let new_place = is.front in_first in
        rw (new_place.0, new_place.1) (room_in_front i k at place (omega (arith, first_is)))
  ]

-- a full block is in use
pub full-within : (used : List (List Fact)) (b : ℕ) → length (block_at used b) ≡ BLOCK → b < length used
full-within [] b full = absurd (omega (arith, full))
full-within (block ∷ used) zero full = omega arith
full-within (block ∷ used) (suc b) full = omega (arith, full-within used b full)

-- it is split in two halves
pub room_by_split : (old new : BlockList) (b a block within : ℕ) → IsPlace old.used b a → AllFilled old.used → length (block_at old.used b) ≡ BLOCK
    → new.used ≡ insert (set old.used b (take HALF (block_at old.used b))) (b + 1) (drop HALF (block_at old.used b)) → new.stock + 1 ≡ old.stock → IsPlaceInPair b (length (block_at new.used b)) a block within → MakesRoom old new b a block within
room_by_split old new b a block within place filled full used stock is =
    let in_use = full-within old.used b full in
    let all = block_at old.used b in
    let front = take HALF all in
    let back = drop HALF all in
    let rest = all_facts (drop (suc b) old.used) in
    let first : length front ≡ HALF = length-take-le HALF all (omega (arith, full)) in
    let second : length back ≡ HALF = omega (arith, length-drop HALF all, full) in
    let halves : new.used ≡ take b old.used ++ front ∷ back ∷ drop (suc b) old.used = used ∙ ap (λ n. insert (set old.used b front) n back) (add-one b) ∙ insert_after_set old.used b front back in_use in
    let same : all_facts new.used ≡ all_facts old.used =
    ap all_facts halves ∙ flat_map-append (λ x. x) (take b old.used) (front ∷ back ∷ drop (suc b) old.used) ∙ ap (λ l. all_facts (take b old.used) ++ l) (sym (append_assoc front back rest) ∙ ap (λ l. l ++ rest) (take-append-drop HALF all)) ∙ sym (flat-split old.used b in_use) in
    let here : block_at new.used b ≡ front = ap (λ l. get_or l b []) halves ∙ get_or_at (take b old.used) front (back ∷ drop (suc b) old.used) [] b (length-take-le b old.used (omega arith)) in
    let lighter : load new.used + HALF ≤ load old.used = omega (arith, ap load halves, load_split old.used b front back in_use full first second) in
    room_in_pair old new b (suc b) front back in_use filled halves same
    (record { filled = record { some = omega (arith, first); most = omega (arith, first) }; room = omega (arith, first) })
    (record { filled = record { some = omega (arith, second); most = omega (arith, second) }; room = omega (arith, second) })
    (omega (arith, lighter)) (omega arith) b a a (length (block_at new.used b)) block within refl (omega (arith, first, second, full, place.at)) (ap length here) is

-- two blocks next to each other are leveled
pub room_by_level : (old new : BlockList) (b a first at block within : ℕ) → AllFilled old.used → IsPairWithRoom old.used b first → new.used ≡ leveled old.used first → new.stock ≡ old.stock
    → place_in_all old.used first at ≡ place_in_all old.used b a → at ≤ length (block_at old.used first) + length (block_at old.used (first + 1)) → IsPlaceInPair first (length (block_at new.used first)) at block within → MakesRoom old new b a block within
room_by_level old new b a first at block within filled pair used stock place le is =
    let front = block_at old.used first in
    let back = block_at old.used (first + 1) in
    let one = length-first_half front back in
    let two = length-second_half front back in
    let halves : new.used ≡ take first old.used ++ first_half front back ∷ second_half front back ∷ drop (suc (suc first)) old.used = used ∙ leveled-apart old.used first pair.there in
    let here : block_at new.used first ≡ first_half front back = ap (λ l. get_or l first []) used ∙ leveled-first old.used first pair.there in
    room_in_pair old new first (suc (suc first)) (first_half front back) (second_half front back) (omega (arith, pair.there)) filled halves (ap all_facts used ∙ all_facts-leveled old.used first pair.there)
    (record { filled = record { some = omega (arith, one, pair.many); most = omega (arith, one, pair.few) }; room = omega (arith, one, pair.few) })
    (record { filled = record { some = omega (arith, two, pair.many); most = omega (arith, two, pair.few) }; room = omega (arith, two, pair.few) })
    (omega (arith, ap load used, load-leveled old.used first pair.there pair.many, stock)) (omega arith) b a at (length (block_at new.used first)) block within place (omega (arith, one, two, le)) (ap length here) is

-- both blocks of a pair are in use afterwards
pub split-within : (used used' : List (List Fact)) (b : ℕ) (front back : List Fact) → b < length used → used' ≡ insert (set used b front) (b + 1) back → b + 1 < length used'
split-within used used' b front back in_use is =
    omega (arith, ap length is, length-insert (set used b front) (b + 1) back (omega (arith, length-set used b front)), length-set used b front)
