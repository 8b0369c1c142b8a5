-- Answers from the entries of a view.
use Rattle.std.specs.Prelude.{◌≡◌, ℕ, ◌-◌, ◌<◌, All, Bool, true, false, List, [], ◌∷◌, map, filter, is_some, nat_le, ◌&&◌, Option, bytes_eq, take}
use Rattle.std.specs.List.{find}
use Rattle.std.specs.Option.{option_map_or}
use Rattle.cube_model.specs.declared.term.Term.{Term}
use Rattle.cube_model.specs.Answer.{merge_all}
use Rattle.cube_model.specs.Cells.{is_inside}
use Rattle.cube_model.specs.Tree.{Dimension, entry_of}
use Rattle.group_sum.specs.Terms.{TermList}
use Rattle.region_algebra.specs.Space.{region_total}
use Rattle.staged_map.specs.Staged.{Places, value_at}
use Rattle.view_store.specs.Changes.{IsWithinWide}
use Rattle.view_store.specs.Views.{ViewMap, ViewMaps, codes_of, held_at, listed, region_at}

-- a view serves a region where in every dimension the depth of the region's node is at most the view's
abbrev pub serves : List Dimension → List ℕ → List ℕ → Bool
serves [] [] [] = true
serves (dim ∷ dims) (depth ∷ depths) (node ∷ nodes) = option_map_or (λ e. nat_le e.depth depth) (entry_of dim node) false && serves dims depths nodes
serves dims depths nodes = false

-- a region lies under another where in every dimension its node is under that of the other
abbrev pub is_below : List Dimension → List ℕ → ℕ → Bool
is_below dims region code = is_inside dims region (region_at dims code)

-- the terms that are held at those of some codes whose regions lie under a region
abbrev pub term_lists_below : ℕ → List Dimension → List ℕ → Places TermList → List ℕ → List (List Term)
term_lists_below columns dims region entries codes = map (λ code. (held_at columns entries code).terms) (filter (is_below dims region) codes)

-- no numerator of any first of them merged passes WIDE
abbrev pub FitsBelow : ℕ → List Dimension → List ℕ → Places TermList → List ℕ → Type 0
FitsBelow columns dims region entries codes = (n : ℕ) → IsWithinWide columns (merge_all (columns - 1) (take n (term_lists_below columns dims region entries codes)))

-- codes are those of regions, and something is held at each
abbrev pub AreCodes : List Dimension → Places TermList → List ℕ → Type 0
AreCodes dims entries codes = All (λ code. (code < region_total dims) × (is_some (value_at entries code) ≡ true)) codes

-- the terms of the entries under a region, ascending by code
abbrev pub entries_under : List Dimension → ViewMap → List ℕ → List (List Term)
entries_under dims view region = term_lists_below view.columns dims region view.entries (codes_of dims view)

-- merged
abbrev pub rolled_up : List Dimension → ViewMap → List ℕ → List Term
rolled_up dims view region = merge_all (view.columns - 1) (entries_under dims view region)

-- the first view that serves a region
abbrev pub serving : List Dimension → ViewMaps → List ℕ → Option ViewMap
serving dims content region = find (λ view. serves dims view.depths region) content.views

-- no numerator of any first of these entries merged passes WIDE
abbrev pub FitsUnder : List Dimension → List ℕ → ViewMap → Type 0
FitsUnder dims region view = (n : ℕ) → IsWithinWide view.columns (merge_all (view.columns - 1) (take n (entries_under dims view region)))

-- those that a view lists whose regions lie under a region
abbrev pub listed_under : List Dimension → ViewMap → List ℕ → List (List ℕ × TermList)
listed_under dims view region = filter (λ entry. is_inside dims region entry.0) (listed dims view)

-- a view has these depths
abbrev pub has_depths : List ℕ → ViewMap → Bool
has_depths depths view = bytes_eq view.depths depths

-- the first view that has them
abbrev pub view_with : ViewMaps → List ℕ → Option ViewMap
view_with content depths = find (has_depths depths) content.views
