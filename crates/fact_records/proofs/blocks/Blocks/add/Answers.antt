use Rattle.std.proofs.Common.{◌≡◌, ◌<◌, [], ◌∷◌, ◌++◌, length, sym, ap, ◌∙◌, arith, rules, length-append}
use Rattle.std.specs.List.{insert}
use Rattle.std.specs.Vec.{vec_len}
use Rattle.std.proofs.lemmas.List.{append-nil}
use Rattle.std.proofs.lemmas.List.Concat.{flat_map-append}
use Rattle.std.proofs.lemmas.List.Edits.{insert_end}
use Rattle.fact_records.specs.BlockList.{all_facts}
use Rattle.fact_records.specs.Starts.{starts_of}
use Rattle.fact_records.proofs.BlockStarts.{length-counted, length-starts, starts-added}
use Rattle.fact_records.proofs.Stocking.{stocked-popped}
use Rattle.fact_records.proofs.blocks.Blocks.add.Goals as goal

pub insert_in_room-requires-2-clause-place : goal.insert_in_room-requires-2-clause-place
insert_in_room-requires-2-clause-place c =
    let place : c.args.block ≡ length c.self.inside.used.items = rw (← c.self.view_is) at c.requires.place in
    omega (arith, place, length-counted c.self.inside.used.items c.self.inside.starts.items c.self.invariant.counted, c.self.inside.starts.ok)

pub insert_in_room-requires-2-clause-room : goal.insert_in_room-requires-2-clause-room
insert_in_room-requires-2-clause-room c =
    let some : 0 < vec_len c.self.inside.stock = rw (← c.self.view_is) at c.requires.stock in
    omega (arith, some, c.self.invariant.fits_starts, length-counted c.self.inside.used.items c.self.inside.starts.items c.self.invariant.counted, c.self.inside.starts.ok, c.self.inside.used.ok, c.self.inside.stock.ok)

pub invariant_of-self : goal.invariant_of-self
invariant_of-self c =
    let used = c.self.inside.used.items in
    let start = c.count_all-start.result in
    let place : c.args.block ≡ length c.self.inside.used.items = rw (← c.self.view_is) at c.requires.place in
    let none : c.unwrap-empty.result ≡ [] = search rules in
    let blocks : c.insert_in_room.new.items.items ≡ c.self.inside.used.items ++ [] ∷ [] =
    c.insert_in_room.ensures.items ∙ ap (insert used c.args.block) none ∙ ap (λ n. insert used n []) place ∙ insert_end used [] in
    let all : c.count_all-start.result ≡ length (all_facts c.self.inside.used.items) = c.count_all-start.ensures ∙ ap (λ l. length (all_facts l)) c.deref.ensures.value in
    let popped : c.self.inside.stock.items ≡ c.pop.new.self.items ++ c.unwrap-empty.result ∷ [] = rw c.unwrap-empty.ensures at c.pop.ensures.items in
    let stocked = stocked-popped c.self.inside.used.len c.insert_in_room.new.items.len c.self.inside.used.cap c.insert_in_room.new.items.cap c.self.inside.stock.cap c.pop.new.self.cap c.self.inside.stock.items c.pop.new.self.items c.unwrap-empty.result c.self.invariant.stocked c.insert_in_room.ensures.capacity (omega (arith, c.pop.ensures.capacity)) popped c.insert_in_room.ensures.len in
    record {
      stocked = stocked;
      counted =
          c.insert_in_room-2.ensures.items ∙ ap (λ l. insert l c.args.block start) c.self.invariant.counted
          ∙ ap (λ n. insert (starts_of used) n start) (place ∙ sym (length-starts used)) ∙ insert_end (starts_of used) start
          ∙ sym (starts-added used start all) ∙ ap starts_of (sym blocks);
      few = omega (arith, c.self.invariant.few, ap length (ap all_facts blocks ∙ flat_map-append (λ b. b) used ([] ∷ []) ∙ append-nil (all_facts used)));
      fits_starts = omega (arith, c.self.invariant.fits_starts, c.insert_in_room.ensures.len, c.insert_in_room-2.ensures.capacity, ap length popped, length-append c.pop.new.self.items (c.unwrap-empty.result ∷ []));
    }
