-- What is staged of statistics, of the index and of groups makes them those of the facts after an edit.
use Rattle.std.proofs.Common.{◌≡◌, ℕ, ◌<◌, Bool, true, false, cond, List, [], ◌∷◌, map, eqb, refl, ap, sym, subst, ◌∙◌, arith, unwrap_or}
use Rattle.std.specs.Prelude.{All, AllPairs, Option, Some, None, filter, find, not, ◌&&◌, ◌||◌, ◌==◌, if◌then◌else◌}
use Rattle.std.specs.List.{IsDistinct, list_any}
use Rattle.std.specs.Map.{keys_of}
use Rattle.std.specs.Option.{option_map_or, option_to_list}
use Rattle.std.proofs.lemmas.Bool.Decides.{nat_tests}
use Rattle.std.proofs.lemmas.List.Elements.{All-cons, All-nil}
use Rattle.cube_model.specs.declared.edit.Edit.{Edit}
use Rattle.cube_model.specs.declared.edit.Edit.TheVariants.{Put, Change, Withdraw}
use Rattle.cube_model.specs.declared.edit.Fact.{Fact}
use Rattle.cube_model.specs.declared.statistic.CellStat.{CellStat}
use Rattle.cube_model.specs.Allocation.{Policy, stat_of}
use Rattle.cube_model.specs.Cells.{is_among}
use Rattle.cube_model.specs.Facts.{after, is_precise}
use Rattle.cube_model.specs.Tree.{Dimension}
use Rattle.cube_model.proofs.Ascending.{ascends_filter, ascends_map, same_members}
use Rattle.region_algebra.specs.Space.{code_of}
use Rattle.staged_map.specs.Staged.{Places, have_places, value_at}
use Rattle.staged_map.proofs.Entries.{keys_of-made, staged_entry-made}
use Rattle.cell_weight.specs.Stats.{IsStat, have_stat_places, stat_at}
use Rattle.alloc_rows.specs.Changed.{new_stats}
use Rattle.region_index.specs.Changes.{IsStagedFor, Pair, Staging, ids_after, is_named}
use Rattle.region_index.specs.Content.{AreAscending, Content, ids_at}
use Rattle.region_index.specs.Indexed.{Indexes, is_indexed_at}
use Rattle.region_index.proofs.Changing.{among-after, ascends-after}
use Rattle.view_store.proofs.Ascending.{IsDistinct-ascending}
use Rattle.fact_groups.specs.Changes.{touched_cells}
use Rattle.fact_groups.specs.Edits.{edited_id, given, taken}
use Rattle.fact_groups.specs.Groups.{Group, group_at}
use Rattle.fact_groups.proofs.Ascending.{ascends-from_pairs}
use Rattle.fact_groups.proofs.Edits.{find-after, pairs-after}
use Rattle.fact_groups.proofs.Groups.{first-passes}
use Rattle.fact_groups.proofs.Refreshing.{among-kept, any-found}
use Rattle.fact_groups.proofs.Statistics.{ascends-touched}
use Rattle.cube_state.specs.Moves.{indexed_as}
use Rattle.cube_state.specs.Sets.{SetGroups, SetIndex, SetStats}
use Rattle.cube_state.specs.Regrouped.{HoldChanged, group_is_respread, groups_after, is_edited_at, regrouped}
use Rattle.touched_cells.specs.Touched.{touched}
use Rattle.cube_state.proofs.LeftOut.{groups-left_out}
use Rattle.cube_state.proofs.Spreading.{stat_after-touched}

-- the statistics
module _ (policy : Policy) (dims : List Dimension) (edit : Edit) (facts : List Fact) (up : AllPairs (λ f g. f.id < g.id) facts) where
  abbrev set_stats : List (ℕ × CellStat)
  set_stats = new_stats (touched policy dims edit facts)

  keys-touched : (cells : List ℕ) → keys_of (new_stats (map (λ cell. (cell, stat_of policy dims facts cell, stat_of policy dims (after edit facts) cell)) cells)) ≡ cells
  keys-touched [] = refl
  keys-touched (cell ∷ cells) = ap (λ rest. cell ∷ rest) (keys-touched cells)

  possible-touched : ((cell : ℕ) → IsStat (stat_of policy dims (after edit facts) cell)) → (cells : List ℕ)
      → All (λ (change : ℕ × CellStat). IsStat change.1) (new_stats (map (λ cell. (cell, stat_of policy dims facts cell, stat_of policy dims (after edit facts) cell)) cells))
  possible-touched possible [] = All-nil (λ (change : ℕ × CellStat). IsStat change.1)
  possible-touched possible (cell ∷ cells) =
      All-cons (λ (change : ℕ × CellStat). IsStat change.1) (cell, stat_of policy dims (after edit facts) cell)
      (new_stats (map (λ cell. (cell, stat_of policy dims facts cell, stat_of policy dims (after edit facts) cell)) cells)) (possible cell) (possible-touched possible cells)

  pub SetStats-staged : (places : Places CellStat) → ((cell : ℕ) → stat_at places cell ≡ stat_of policy dims facts cell) → ((cell : ℕ) → IsStat (stat_of policy dims (after edit facts) cell))
      → have_stat_places places set_stats ≡ true → SetStats policy dims (after edit facts) places set_stats
  SetStats-staged places are possible placed = record {
    different = subst (IsDistinct eqb) (sym (keys-touched (touched_cells dims edit facts))) (IsDistinct-ascending 0 (touched_cells dims edit facts) (ascends-touched dims edit facts));
    placed = placed;
    possible = possible-touched possible (touched_cells dims edit facts);
    made = λ cell. stat_after-touched policy dims edit facts up (stat_at places) are cell;
  }

-- the index
named-one : (dims : List Dimension) (code id : ℕ) (fact : Option Fact) → is_named (option_to_list (indexed_as dims fact)) code id ≡ option_map_or (λ f. is_indexed_at dims code f && f.id == id) fact false
named-one dims code id None = refl
named-one dims code id (Some f) = either (is_precise dims f) refl
  where
    either : (b : Bool) → is_precise dims f ≡ b
        → is_named (option_to_list (if b then None else Some (code_of dims f.region, f.id))) code id ≡ ((code_of dims f.region == code && not b) && f.id == id)
    either true is = grind arith
    either false is = grind arith

module _ (dims : List Dimension) (edit : Edit) (facts : List Fact) (up : AllPairs (λ f g. f.id < g.id) facts) where
  abbrev drops : List Pair
  drops = option_to_list (indexed_as dims (taken edit facts))

  abbrev puts : List Pair
  puts = option_to_list (indexed_as dims (given edit))

  -- an id is among those of the facts that pass where the fact that has it passes
  among-found : (p : Fact → Bool) (some : List Fact) (id : ℕ) → AllPairs (λ f g. f.id < g.id) some → is_among (map (λ f. f.id) (filter p some)) id ≡ option_map_or p (find (λ f. f.id == id) some) false
  among-found p some id ascend = among-kept id p some ∙ any-found id p some ascend

  -- what is found by an id has it
  found-with : (p : Fact → Bool) (id : ℕ) (found : Option Fact) → option_map_or (λ f. f.id == id) found true ≡ true → option_map_or (λ f. p f && f.id == id) found false ≡ option_map_or p found false
  found-with p id None has = refl
  found-with p id (Some f) has = rw has (last (p f))
    where
      last : (b : Bool) → (b && true) ≡ b
      last true = refl
      last false = refl

  found-without : (p : Fact → Bool) (id : ℕ) (found : Option Fact) → option_map_or (λ f. f.id == id) found false ≡ false → option_map_or (λ f. p f && f.id == id) found false ≡ false
  found-without p id None has = refl
  found-without p id (Some f) has = rw has (last (p f))
    where
      last : (b : Bool) → (b && false) ≡ false
      last true = refl
      last false = refl

  -- the ids after are those that are put, and those before that are not dropped
  follows : (code id : ℕ) → is_among (map (λ f. f.id) (filter (is_indexed_at dims code) (after edit facts))) id
      ≡ (is_named puts code id || (is_among (map (λ f. f.id) (filter (is_indexed_at dims code) facts)) id && not (is_named drops code id)))
  follows code id =
      among-found p (after edit facts) id (pairs-after edit facts up)
      ∙ ap (λ o. option_map_or p o false) (find-after edit facts id)
      ∙ either (edited_id edit == id) refl
      ∙ sym (ap (λ (b : Bool). is_named puts code id || (b && not (is_named drops code id))) (among-found p facts id up))
    where
      p : Fact → Bool
      p f = is_indexed_at dims code f

      gives : (edit : Edit) (b : Bool) → (edited_id edit == id) ≡ b → option_map_or (λ f. f.id == id) (given edit) b ≡ b
      gives (Put fact) b is = is
      gives (Change fact) b is = is
      gives (Withdraw i) b is = refl

      takes : (b : Bool) (found : Option Fact) → (edited_id edit == id) ≡ b → taken edit facts ≡ found → option_map_or (λ f. f.id == id) found b ≡ b
      takes b None is found = refl
      takes b (Some f) is found =
          let its : (f.id == edited_id edit) ≡ true = first-passes (λ f. f.id == edited_id edit) facts f found in
          let same : f.id ≡ edited_id edit = grind (arith, nat_tests, its) in
          rw same is

      own : (a b : Bool) → a ≡ (a || (b && not b))
      own true true = refl
      own true false = refl
      own false true = refl
      own false false = refl

      other : (b : Bool) → b ≡ (false || (b && not false))
      other true = refl
      other false = refl

      either : (b : Bool) → (edited_id edit == id) ≡ b
          → option_map_or p (if b then given edit else find (λ f. f.id == id) facts) false ≡ (is_named puts code id || (option_map_or p (find (λ f. f.id == id) facts) false && not (is_named drops code id)))
      either true is =
          let same : edited_id edit ≡ id = grind (arith, nat_tests) in
          let found : taken edit facts ≡ find (λ f. f.id == id) facts = ap (λ n. find (λ f. f.id == n) facts) same in
          let put : is_named puts code id ≡ option_map_or p (given edit) false = named-one dims code id (given edit) ∙ found-with p id (given edit) (gives edit true is) in
          let dropped : is_named drops code id ≡ option_map_or p (find (λ f. f.id == id) facts) false =
          named-one dims code id (taken edit facts) ∙ found-with p id (taken edit facts) (takes true (taken edit facts) is refl) ∙ ap (λ o. option_map_or p o false) found in
          rw (put, dropped) (own (option_map_or p (given edit) false) (option_map_or p (find (λ f. f.id == id) facts) false))
      either false is =
          let put : is_named puts code id ≡ false = named-one dims code id (given edit) ∙ found-without p id (given edit) (gives edit false is) in
          let dropped : is_named drops code id ≡ false = named-one dims code id (taken edit facts) ∙ found-without p id (taken edit facts) (takes false (taken edit facts) is refl) in
          rw (put, dropped) (other (option_map_or p (find (λ f. f.id == id) facts) false))

  pub SetIndex-staged : (content : Content) (stage : Staging) → Indexes dims facts content → IsStagedFor content stage → stage.puts ≡ puts → stage.drops ≡ drops → SetIndex dims (after edit facts) content stage
  SetIndex-staged content stage indexes staged puts_are drops_are = record {
    staged = staged;
    made = λ code.
        let was : AreAscending (ids_at content code) = rw (indexes.ids code) (ascends facts code up) in
        ap (λ (ps : List Pair). ids_after ps stage.drops code (ids_at content code)) puts_are
        ∙ ap (λ (ds : List Pair). ids_after puts ds code (ids_at content code)) drops_are
        ∙ same_members 0 0 (ids_after puts drops code (ids_at content code)) (map (λ f. f.id) (filter (is_indexed_at dims code) (after edit facts)))
        (ascends-after puts drops code (ids_at content code) was) (ascends (after edit facts) code (pairs-after edit facts up))
        (λ id. among-after puts drops code (ids_at content code) id ∙ ap (λ (ids : List ℕ). is_named puts code id || (is_among ids id && not (is_named drops code id))) (indexes.ids code) ∙ sym (follows code id));
  }
    where
      ascends : (some : List Fact) (code : ℕ) → AllPairs (λ f g. f.id < g.id) some → AreAscending (map (λ f. f.id) (filter (is_indexed_at dims code) some))
      ascends some code ascend =
          ascends_map (λ (id : ℕ). id) (λ (f : Fact). f.id) 0 (filter (is_indexed_at dims code) some)
          ∙ ascends_filter (λ (f : Fact). f.id) (is_indexed_at dims code) 0 some (ascends-from_pairs (λ (f : Fact). f.id) 0 some ascend (λ k d within. omega arith))

-- the groups
among-turned : (xs : List ℕ) (n : ℕ) → list_any (eqb n) xs ≡ is_among xs n
among-turned [] n = refl
among-turned (x ∷ xs) n =
    let turned : eqb n x ≡ (x == n) = grind (arith, nat_tests) in
    rw (turned, among-turned xs n) refl

module _ (policy : Policy) (columns : ℕ) (dims : List Dimension) (edit : Edit) (facts : List Fact) (up : AllPairs (λ f g. f.id < g.id) facts) where
  pub SetGroups-staged : (codes : List ℕ) (places : Places Group) → HoldChanged policy columns dims edit facts codes → ((code : ℕ) → value_at places code ≡ group_at policy columns dims facts code)
      → have_places places (groups_after policy columns dims edit facts codes) ≡ true → SetGroups policy columns dims (after edit facts) places (groups_after policy columns dims edit facts codes)
  SetGroups-staged codes places hold are placed = record {
    different = subst (IsDistinct eqb) (sym (keys_of-made group some)) (IsDistinct-ascending 0 some (ascends_filter (λ (c : ℕ). c) anew 0 codes hold.ascending));
    placed = placed;
    made = λ code.
        ap (λ o. unwrap_or o (value_at places code)) (staged_entry-made group some code ∙ ap (λ (b : Bool). cond b (Some (group code)) None) (among-turned some code))
        ∙ either code (is_among some code) refl;
  }
    where
      group : ℕ → Option Group
      group code = group_at policy columns dims (after edit facts) code

      anew : ℕ → Bool
      anew c = is_edited_at dims edit facts c || group_is_respread (group_at policy columns dims facts c) (group_at policy columns dims (after edit facts) c)

      some : List ℕ
      some = regrouped policy columns dims edit facts codes

      either : (code : ℕ) (b : Bool) → is_among some code ≡ b → unwrap_or (cond b (Some (group code)) None) (value_at places code) ≡ group code
      either code true is = refl
      either code false is = are code ∙ sym (groups-left_out policy columns dims edit facts up codes hold code is)
