-- The nodes that a node is under lie less deep than it, and at each depth there is one of them at most.
use Rattle.std.proofs.Common.{◌≡◌, ℕ, ◌+◌, ◌<◌, ◌≤◌, Bool, true, false, List, [], ◌∷◌, length, map, refl, ap, ◌∙◌, arith}
use Rattle.std.specs.Prelude.{if◌then◌else◌, not, ◌&&◌, ◌||◌, ◌==◌, nat_le, Option, Some, None}
use Rattle.std.specs.List.{list_all, list_any}
use Rattle.std.specs.Option.{option_map, option_map_or}
use Rattle.std.proofs.lemmas.Bool.Decides.{nat_tests}
use Rattle.cube_model.specs.Limits.{MAX_DEPTH}
use Rattle.cube_model.specs.Tree.{Dimension, Entry, IsTree, are_distinct, climb, entry_of, is_under, numbers, parent, path, path_after, place_of}
use Rattle.dim_tree.proofs.Building.{entries_shallow}
use Rattle.dim_tree.proofs.Climbing.{agrees, both, meets}
use Rattle.dim_tree.proofs.Renumbering.{accepted_lines, are_numbers, place_of-place_at}
use Rattle.region_algebra.proofs.Meets.{places_from-never, places_from-same}
use Rattle.region_index.specs.Patterns.{depth_of, places_at_depth}
use Rattle.region_index.proofs.Chains.{is_under-alone, is_under-parent}
use Rattle.region_index.proofs.Places.{found, has-at, other, places-single}

-- no node of these lies deeper than the most
shallow : (dim : Dimension) (node : ℕ) → list_all (λ depth. nat_le depth MAX_DEPTH) (map (λ e. e.depth) dim) ≡ true → depth_of dim node ≤ MAX_DEPTH
shallow [] node all = omega arith
shallow (e ∷ dim) node all =
    let parts = both (nat_le e.depth MAX_DEPTH) (list_all (λ depth. nat_le depth MAX_DEPTH) (map (λ e. e.depth) dim)) all in
    here (e.number == node) (grind (arith, nat_tests, parts.0)) (shallow dim node parts.1)
  where
    here : (b : Bool) → e.depth ≤ MAX_DEPTH → depth_of dim node ≤ MAX_DEPTH → option_map_or (λ (e : Entry). e.depth) (if b then Some e else entry_of dim node) 0 ≤ MAX_DEPTH
    here true first others = first
    here false first others = others

pub depth-most : (dim : Dimension) (node : ℕ) → IsTree dim → depth_of dim node ≤ MAX_DEPTH
depth-most dim node tree = shallow dim node (entries_shallow dim (accepted_lines dim tree))

-- where none of these has the number, they agree on any depth
absent-agrees : (y f : ℕ) (es : List Entry) → list_any (λ m. m == y) (numbers es) ≡ false → agrees y f es ≡ true
absent-agrees y f [] none = refl
absent-agrees y f (e ∷ es) none = grind (arith, nat_tests, none, absent-agrees y f es)

-- the nodes of distinct numbers agree on the depth of each
depth-agrees : (y : ℕ) (es : List Entry) → are_distinct (numbers es) ≡ true → agrees y (depth_of es y) es ≡ true
depth-agrees y [] distinct = refl
depth-agrees y (e ∷ es) distinct =
    let parts = both (not (list_any (λ m. m == e.number) (numbers es))) (are_distinct (numbers es)) distinct in
    here (e.number == y) refl parts.0 (depth-agrees y es parts.1)
  where
    here : (b : Bool) → (e.number == y) ≡ b → not (list_any (λ m. m == e.number) (numbers es)) ≡ true → agrees y (depth_of es y) es ≡ true
        → (not (e.number == y) || e.depth == option_map_or (λ (e : Entry). e.depth) (if b then Some e else entry_of es y) 0) && agrees y (option_map_or (λ (e : Entry). e.depth) (if b then Some e else entry_of es y) 0) es ≡ true
    here true is absent others =
        let same : e.number ≡ y = grind (arith, nat_tests, is) in
        let none : list_any (λ m. m == y) (numbers es) ≡ false = rw (← same) (grind (arith, absent)) in
        grind (arith, nat_tests, absent-agrees y e.depth es none)
    here false is absent others = grind (arith, is, others)

-- what climbing from a depth meets lies less deep
climb-less : (y f depth : ℕ) (es : List Entry) → agrees y f es ≡ true → meets y (climb depth es) ≡ true → f < depth
climb-less y f depth [] agree met = absurd (grind (arith, met))
climb-less y f depth (e ∷ es) agree met =
    let parts = both (not (e.number == y) || e.depth == f) (agrees y f es) agree in
    here (e.depth + 1 == depth) refl parts.0 met (climb-less y f e.depth es parts.1) (climb-less y f depth es parts.1)
  where
    here : (b : Bool) → (e.depth + 1 == depth) ≡ b → (not (e.number == y) || e.depth == f) ≡ true → meets y (if b then e ∷ climb e.depth es else climb depth es) ≡ true
        → (meets y (climb e.depth es) ≡ true → f < e.depth) → (meets y (climb depth es) ≡ true → f < depth) → f < depth
    here true is at met above past = grind (arith, nat_tests, is, at, met, above)
    here false is at met above past = past met

-- and so does what another node is under
path-less : (x y f g : ℕ) (earlier rest : List Entry) → agrees y f earlier ≡ true → agrees y f rest ≡ true → agrees x g rest ≡ true → (x == y) ≡ false
    → meets y (path_after earlier x rest) ≡ true → f < g
path-less x y f g earlier [] before agree own differs met = absurd (grind (arith, met))
path-less x y f g earlier (e ∷ rest) before agree own differs met =
    let parts = both (not (e.number == y) || e.depth == f) (agrees y f rest) agree in
    let owns = both (not (e.number == x) || e.depth == g) (agrees x g rest) own in
    here (e.number == x) refl owns.0 met (climb-less y f e.depth earlier before)
    (path-less x y f g (e ∷ earlier) rest (grind (arith, parts.0, before)) parts.1 owns.1 differs)
  where
    here : (b : Bool) → (e.number == x) ≡ b → (not (e.number == x) || e.depth == g) ≡ true → meets y (if b then e ∷ climb e.depth earlier else path_after (e ∷ earlier) x rest) ≡ true
        → (meets y (climb e.depth earlier) ≡ true → f < e.depth) → (meets y (path_after (e ∷ earlier) x rest) ≡ true → f < g) → f < g
    here true is at met above later = grind (arith, nat_tests, is, at, met, above, differs)
    here false is at met above later = later met

module _ (dim : Dimension) (tree : IsTree dim) where
  depth-less : (x y : ℕ) → (x == y) ≡ false → is_under dim x y ≡ true → depth_of dim y < depth_of dim x
  unfolding is_under path
  depth-less x y differs under =
      let distinct = (are_numbers dim tree).distinct in
      path-less x y (depth_of dim y) (depth_of dim x) [] dim refl (depth-agrees y dim distinct) (depth-agrees x dim distinct) differs under

  -- a node is under itself
  under-self : (x i : ℕ) → x < length dim → place_of dim x ≡ Some i → (p : Option ℕ) → parent dim x ≡ p → is_under dim x x ≡ true
  under-self x i within placed None is = is_under-alone dim x x (has-at (numbers dim) i x (found dim tree x i within placed)) is ∙ grind (arith, nat_tests)
  under-self x i within placed (Some p) is = is_under-parent dim x p x (are_numbers dim tree).distinct is ∙ grind (arith, nat_tests)

  module _ (x : ℕ) (within : x < length dim) where
    -- a node's place
    abbrev i : ℕ
    i = option_map_or (λ place. place) (place_of dim x) 0

    placed : place_of dim x ≡ Some i
    placed =
        let is = place_of-place_at dim (are_numbers dim tree) x within in
        rw is refl

    -- at the depth of a node itself there is that node alone
    pub places_at_depth-own : (depth : ℕ) → depth_of dim x ≡ depth → places_at_depth dim x depth ≡ i ∷ []
    unfolding places_at_depth
    places_at_depth-own depth own =
        places-single (λ y. is_under dim x y && depth_of dim y == depth) i x (numbers dim) (found dim tree x i within placed) here
        (λ j y apart there. elsewhere y (other dim tree x i within placed j y apart there) (is_under dim x y) refl)
      where
        here : (is_under dim x x && depth_of dim x == depth) ≡ true
        here =
            let under : is_under dim x x ≡ true = under-self x i within placed (parent dim x) refl in
            grind (arith, nat_tests, under, own)

        elsewhere : (y : ℕ) → (x == y) ≡ false → (b : Bool) → is_under dim x y ≡ b → (is_under dim x y && depth_of dim y == depth) ≡ false
        elsewhere y differs true under =
            let less : depth_of dim y < depth_of dim x = depth-less x y differs under in
            grind (arith, nat_tests, less, own)
        elsewhere y differs false under = grind (arith, under)

    -- deeper there is none
    pub places_at_depth-deeper : (depth : ℕ) → depth_of dim x < depth → places_at_depth dim x depth ≡ []
    unfolding places_at_depth
    places_at_depth-deeper depth less = places_from-never (λ y. is_under dim x y && depth_of dim y == depth) 0 (numbers dim) (λ y. none y (x == y) refl (is_under dim x y) refl)
      where
        none : (y : ℕ) (same : Bool) → (x == y) ≡ same → (b : Bool) → is_under dim x y ≡ b → (is_under dim x y && depth_of dim y == depth) ≡ false
        none y true same b under =
            let it : x ≡ y = grind (arith, nat_tests, same) in
            let own : depth_of dim x ≡ depth_of dim y = ap (depth_of dim) it in
            grind (arith, nat_tests, own, less)
        none y false differs true under =
            let above : depth_of dim y < depth_of dim x = depth-less x y differs under in
            grind (arith, nat_tests, above, less)
        none y false differs false under = grind (arith, under)

    -- elsewhere there are those of the parent
    pub places_at_depth-parent : (p depth : ℕ) → parent dim x ≡ Some p → (depth_of dim x ≡ depth → ⊥) → places_at_depth dim x depth ≡ places_at_depth dim p depth
    unfolding places_at_depth
    places_at_depth-parent p depth is apart =
        places_from-same (λ y. is_under dim x y && depth_of dim y == depth) (λ y. is_under dim p y && depth_of dim y == depth) 0 (numbers dim)
        (λ y. ap (λ b. b && depth_of dim y == depth) (is_under-parent dim x p y (are_numbers dim tree).distinct is) ∙ same y (x == y) refl)
      where
        same : (y : ℕ) (b : Bool) → (x == y) ≡ b → (((x == y) || is_under dim p y) && depth_of dim y == depth) ≡ (is_under dim p y && depth_of dim y == depth)
        same y true is =
            let it : x ≡ y = grind (arith, nat_tests, is) in
            let own : depth_of dim x ≡ depth_of dim y = ap (depth_of dim) it in
            grind (arith, nat_tests, own, apart)
        same y false is = grind (arith, is)

    pub places_at_depth-root : (depth : ℕ) → parent dim x ≡ None → (depth_of dim x ≡ depth → ⊥) → places_at_depth dim x depth ≡ []
    unfolding places_at_depth
    places_at_depth-root depth is apart =
        places_from-never (λ y. is_under dim x y && depth_of dim y == depth) 0 (numbers dim)
        (λ y. ap (λ b. b && depth_of dim y == depth) (is_under-alone dim x y (has-at (numbers dim) i x (found dim tree x i within placed)) is) ∙ none y (x == y) refl)
      where
        none : (y : ℕ) (b : Bool) → (x == y) ≡ b → ((x == y) && depth_of dim y == depth) ≡ false
        none y true is =
            let it : x ≡ y = grind (arith, nat_tests, is) in
            let own : depth_of dim x ≡ depth_of dim y = ap (depth_of dim) it in
            grind (arith, nat_tests, own, apart)
        none y false is = grind (arith, is)

    under-own : is_under dim x x ≡ true
    under-own = under-self x i within placed (parent dim x) refl

  -- a parent lies less deep
  pub depth-parent : (x p : ℕ) → p < length dim → parent dim x ≡ Some p → p < x → depth_of dim p < depth_of dim x
  depth-parent x p within is below =
      let differs : (x == p) ≡ false = grind (arith, nat_tests, below) in
      let under : is_under dim x p ≡ true = is_under-parent dim x p p (are_numbers dim tree).distinct is ∙ grind (arith, differs, under-own p within) in
      depth-less x p differs under

-- a depth that was read is the node's
pub depth-read : (dim : Dimension) (node depth : ℕ) → option_map (λ e. e.depth) (entry_of dim node) ≡ Some depth → depth_of dim node ≡ depth
depth-read dim node depth is = read (entry_of dim node) is
  where
    read : (e : Option Entry) → option_map (λ e. e.depth) e ≡ Some depth → option_map_or (λ (e : Entry). e.depth) e 0 ≡ depth
    read None is = absurd (grind arith)
    read (Some e) is = grind (arith, is)
