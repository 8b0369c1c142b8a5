-- Which facts an edit refreshes, given by the cells that weigh otherwise, or by the groups that are spread otherwise.
use Rattle.std.specs.Prelude.{ℕ, Bool, List, true, false, filter, map, not, ◌&&◌, ◌==◌, if◌then◌else◌, find}
use Rattle.std.specs.List.{flat_map}
use Rattle.std.specs.Option.{option_map_or}
use Rattle.cube_model.specs.declared.edit.Edit.{Edit}
use Rattle.cube_model.specs.declared.edit.Fact.{Fact}
use Rattle.cube_model.specs.Allocation.{Policy}
use Rattle.cube_model.specs.Difference.{is_same}
use Rattle.cube_model.specs.Facts.{after, is_precise}
use Rattle.cube_model.specs.Tree.{Dimension}
use Rattle.fact_groups.specs.Changes.{covers_any, reweighed_cells}
use Rattle.fact_groups.specs.Edits.{edited_id}
use Rattle.fact_groups.specs.Groups.{group_at, has_code, spread_at}

-- a region is spread otherwise after an edit than another was before it
abbrev pub is_spread_otherwise : Policy → List Dimension → Edit → List Fact → List ℕ → List ℕ → Bool
is_spread_otherwise policy dims edit facts before now = not (is_same (spread_at policy dims facts before) (spread_at policy dims (after edit facts) now))

-- an edit's new fact has a new id, or its allocation differs from that of the fact with its id
abbrev pub is_new_or_moved : Policy → List Dimension → Edit → List Fact → Fact → Bool
is_new_or_moved policy dims edit facts fact = option_map_or (λ f. is_spread_otherwise policy dims edit facts f.region fact.region) (find (λ f. f.id == fact.id) facts) true

-- another fact is imprecise, its region holds a cell that weighs otherwise, and it is spread otherwise
abbrev pub is_spread_anew : Policy → List Dimension → Edit → List Fact → Fact → Bool
is_spread_anew policy dims edit facts fact = covers_any dims (reweighed_cells policy dims edit facts) fact && is_spread_otherwise policy dims edit facts fact.region fact.region

-- an edit refreshes a fact that is there after it
abbrev pub is_refreshed : Policy → List Dimension → Edit → List Fact → Fact → Bool
is_refreshed policy dims edit facts fact = if edited_id edit == fact.id then is_new_or_moved policy dims edit facts fact else is_spread_anew policy dims edit facts fact

-- the group of a code is there before and after an edit, and is spread otherwise
abbrev pub is_respread : Policy → ℕ → List Dimension → Edit → List Fact → ℕ → Bool
is_respread policy columns dims edit facts code =
    option_map_or (λ before. option_map_or (λ now. not (is_same before.spread now.spread)) (group_at policy columns dims (after edit facts) code) false) (group_at policy columns dims facts code) false

-- those of some codes at which it is so
abbrev pub respread_codes : Policy → ℕ → List Dimension → Edit → List Fact → List ℕ → List ℕ
respread_codes policy columns dims edit facts codes = filter (is_respread policy columns dims edit facts) codes

-- the ids of the imprecise facts whose regions have one of these codes, code by code
abbrev pub imprecise_ids : List Dimension → List Fact → List ℕ → List ℕ
imprecise_ids dims facts codes = flat_map (λ code. map (λ f. f.id) (filter (λ f. has_code dims code f && not (is_precise dims f)) facts)) codes
