-- The nodes of a cut: over each leaf there is one.
use Rattle.std.proofs.Common.{◌≡◌, ℕ, zero, suc, ◌+◌, ◌<◌, ◌≤◌, ◌≢◌, ◌⊎◌, Bool, true, false, List, [], ◌∷◌, filter, length, map, get_or, refl, sym, ap, ◌∙◌, inl, inr, eq-eqb, ne_eqb, true≢false, arith}
use Rattle.std.specs.Prelude.{◌↔◌, IsNone, IsSome, if◌then◌else◌, ◌&&◌, ◌||◌, ◌==◌, nat_lt, nat_le, Option, Some, None, slice_get}
use Rattle.std.specs.Option.{option_map, option_map_or}
use Rattle.std.proofs.lemmas.Bool.{cases_eq, cases_lt}
use Rattle.std.proofs.lemmas.Bool.Decides.{nat_tests}
use Rattle.std.proofs.lemmas.List.{length-map}
use Rattle.cube_model.specs.declared.tree.NodeLine.{NodeLine}
use Rattle.cube_model.specs.Cells.{is_among}
use Rattle.cube_model.specs.Cut.{cut, in_cut}
use Rattle.cube_model.specs.Tree.{Dimension, Entry, IsTree, entry_of, first_fault, is_leaf, is_under, node_lines, numbered, parent}
use Rattle.dim_tree.specs.Places.{parents_from}
use Rattle.dim_tree.proofs.Climbing.{depths_of}
use Rattle.dim_tree.proofs.Entries.{length-node_lines}
use Rattle.dim_tree.proofs.Nodes.{is_leaf-end, is_under-parent, parent-place}
use Rattle.dim_tree.proofs.Queries.{depth-read}
use Rattle.dim_tree.proofs.Renumbering.{accepted_lines, are_numbers, entry_of-number_at, is_leaf-number_at, kept_parent, number_at, number_at-place_at, number_at-read, number_at-within, place_at, place_at-number_at, place_at-root, place_at-within, plain}
use Rattle.dim_tree.proofs.Rising.{first_fault-parts}
use Rattle.dim_tree.proofs.Siblings.{parent_at-within}
use Rattle.dim_tree.proofs.NearestParents.{ends_from-deeper, nearest_at}
use Rattle.region_algebra.proofs.Intervals.{end_of, end_of-above, end_of-nested, is_under-interval, nested_or_apart}
use Rattle.region_algebra.proofs.Numbers.{is_under-plain}
use Rattle.view_store.specs.Cuts.{IsCutNode, reaches_cut}

-- how deep a node lies
abbrev pub depth_of : Dimension → ℕ → ℕ
depth_of dim n = get_or (depths_of (node_lines dim)) (place_at dim n) 0

length-depths : (dim : Dimension) → length (depths_of (node_lines dim)) ≡ length dim
length-depths dim = length-map (node_lines dim) (λ (line : NodeLine). line.depth) ∙ length-node_lines dim

-- the first line has depth 0
first-depth : (lines : List NodeLine) → first_fault [] 0 lines ≡ None → get_or (depths_of lines) 0 0 ≡ 0
first-depth [] accepted = refl
first-depth (line ∷ lines) accepted =
    let first = (first_fault-parts [] 0 line lines accepted).0 in
    grind (arith, nat_tests, first)

-- a number among those of the entries that pass is that of one of them
pub record IsOfEntry (p : Entry → Bool) (dim : List Entry) (n : ℕ) : Type 0 where
  pub place : ℕ
  pub entry : Entry
  pub at : slice_get dim place ≡ Some entry
  pub passes : p entry ≡ true
  pub number : entry.number ≡ n

pub among-entries : (p : Entry → Bool) (dim : List Entry) (n : ℕ) → is_among (map (λ e. e.number) (filter p dim)) n ≡ true → IsOfEntry p dim n
among-entries p [] n among = absurd (grind arith)
among-entries p (e ∷ dim) n among = here (p e) refl (among-entries p dim n)
  where
    behind : IsOfEntry p dim n → IsOfEntry p (e ∷ dim) n
    behind it = record { place = suc it.place; entry = it.entry; at = it.at; passes = it.passes; number = it.number }

    here : (b : Bool) → p e ≡ b → (is_among (map (λ e. e.number) (filter p dim)) n ≡ true → IsOfEntry p dim n) → IsOfEntry p (e ∷ dim) n
    here false is rest = behind (rest (rw is at among))
    here true is rest = elim (cases_eq e.number n) [
      | inl same ↦ record { place = 0; entry = e; at = refl; passes = is; number = same }
      | inr other ↦ behind (rest (grind (arith, nat_tests, rw is at among)))
    ]

pub entry-among : (p : Entry → Bool) (dim : List Entry) (i : ℕ) (e : Entry) → slice_get dim i ≡ Some e → p e ≡ true → is_among (map (λ e. e.number) (filter p dim)) e.number ≡ true
entry-among p [] i e at passes = absurd (grind arith)
entry-among p (f ∷ dim) zero e at passes =
    let same : f ≡ e = grind arith in
    rw (same, passes) (grind (arith, nat_tests))
entry-among p (f ∷ dim) (suc i) e at passes = behind (p f) (entry-among p dim i e at passes)
  where
    behind : (b : Bool) → is_among (map (λ e. e.number) (filter p dim)) e.number ≡ true → is_among (map (λ e. e.number) (if b then f ∷ filter p dim else filter p dim)) e.number ≡ true
    behind true rest = grind (arith, nat_tests, rest)
    behind false rest = rest

-- what is said of a node's parent
pub record IsParent (dim : Dimension) (n p : ℕ) : Type 0 where
  pub within : p < length dim
  pub depth : depth_of dim p + 1 ≡ depth_of dim n
  pub over : is_under dim n p ≡ true

-- a node of the cut: it has the depth, or is a leaf that lies less deep
pub record IsInCut (dim : Dimension) (depth n : ℕ) : Type 0 where
  pub within : n < length dim
  pub most : depth_of dim n ≤ depth
  pub leaf : depth_of dim n < depth → is_leaf dim n ≡ true

-- What climbing from a node has met so far: that node itself, or one that lies no less deep than the cut.
pub record IsAbove (dim : Dimension) (depth leaf node : ℕ) : Type 0 where
  pub within : node < length dim
  pub over : is_under dim leaf node ≡ true
  pub least : (node ≡ leaf) ⊎ (depth ≤ depth_of dim node)

-- the depth that is told of a node, against a cut
least-test : (found : Option Entry) (deep depth : ℕ) → option_map (λ e. e.depth) found ≡ Some deep → option_map_or (λ e. nat_le depth e.depth) found false ≡ nat_le depth deep
least-test None deep depth is = absurd (grind arith)
least-test (Some e) deep depth is =
    let same : e.depth ≡ deep = grind arith in
    ap (nat_le depth) same

-- over a leaf there is a node of the cut
pub record HasCutNode (dim : Dimension) (depth leaf : ℕ) : Type 0 where
  pub node : ℕ
  pub is_cut_node : IsCutNode dim depth leaf node

module _ (dim : Dimension) (tree : IsTree dim) where
  named : (n : ℕ) → number_at dim (place_at dim n) ≡ n
  named n = number_at-place_at dim (are_numbers dim tree) n

  placed : (n : ℕ) → n < length dim → place_at dim n < length dim
  placed n within = place_at-within dim (are_numbers dim tree) n within

  -- the depth of a node
  pub depth_is : (n : ℕ) → n < length dim → option_map (λ e. e.depth) (entry_of dim n) ≡ Some (depth_of dim n)
  depth_is n within =
      ap (λ m. option_map (λ (e : Entry). e.depth) (entry_of dim m)) (sym (named n)) ∙ ap (option_map (λ (e : Entry). e.depth)) (entry_of-number_at dim (are_numbers dim tree) (place_at dim n)) ∙ depth-read dim (place_at dim n) (placed n within)

  pub depth-told : (n depth : ℕ) → n < length dim → option_map (λ e. e.depth) (entry_of dim n) ≡ Some depth → depth ≡ depth_of dim n
  depth-told n depth within is = grind (arith, depth_is n within, is)

  -- whether a node reaches the cut
  pub reaches-is : (depth n : ℕ) → n < length dim → reaches_cut dim depth n ≡ (nat_le depth (depth_of dim n) || is_leaf dim n)
  reaches-is depth n within = ap (λ b. b || is_leaf dim n) (least-test (entry_of dim n) (depth_of dim n) depth (depth_is n within))

  -- one that reaches it is a leaf where it lies less deep
  pub reaches-leaf : (depth n : ℕ) → n < length dim → reaches_cut dim depth n ≡ true → depth_of dim n < depth → is_leaf dim n ≡ true
  reaches-leaf depth n within reaches less = grind (arith, nat_tests, sym (reaches-is depth n within) ∙ reaches, less)

  -- the root lies at 0
  pub depth-root : depth_of dim 0 ≡ 0
  depth-root = ap (λ i. get_or (depths_of (node_lines dim)) i 0) (place_at-root dim tree) ∙ first-depth (node_lines dim) (accepted_lines dim tree)

  pub is_parent : (n p : ℕ) → n < length dim → parent dim n ≡ Some p → IsParent dim n p
  is_parent n p within is =
      let lines = node_lines dim in
      let accepted = accepted_lines dim tree in
      let i = place_at dim n in
      let q = get_or (parents_from [] (depths_of lines)) i 0 in
      let inside : i < length lines = omega (arith, placed n within, length-node_lines dim) in
      let kept : (if i == 0 then None else Some (number_at dim q)) ≡ Some p = sym (kept_parent dim (are_numbers dim tree) i accepted (placed n within)) ∙ ap (parent dim) (named n) ∙ is in
      let some : 0 < i = elim (cases_eq i 0) [
        | inl first ↦ let test : (i == 0) ≡ true = eq-eqb i 0 first in absurd (grind (arith, nat_tests, test, kept))
        | inr other ↦ omega (arith, other)
      ] in
      let its : number_at dim q ≡ p = grind (arith, nat_tests, kept, some) in
      let at : place_at dim p ≡ q = ap (place_at dim) (sym its) ∙ place_at-number_at dim (are_numbers dim tree) q in
      let near = nearest_at lines accepted i inside some in
      let q_within : q < length dim = omega (arith, parent_at-within lines accepted i inside, length-node_lines dim) in
      record {
        within = omega (arith, its, number_at-within dim (are_numbers dim tree) q q_within);
        depth = ap (λ m. get_or (depths_of lines) m 0 + 1) at ∙ near.depth_above;
        over =
            let place_parent : parent (numbered lines) i ≡ Some q = parent-place lines accepted i inside ∙ grind (arith, nat_tests, some) in
            is_under-plain dim tree n p ∙ ap (is_under (plain dim) i) at ∙ is_under-parent lines accepted i q place_parent;
      }

  -- what is kept as a node's parent
  abbrev parent_number : ℕ → ℕ
  parent_number n = number_at dim (get_or (parents_from [] (depths_of (node_lines dim))) (place_at dim n) 0)

  -- a node that does not lie at 0 has a parent
  parent_of : (n : ℕ) → n < length dim → 0 < depth_of dim n → parent dim n ≡ Some (parent_number n)
  parent_of n within deep =
      let i = place_at dim n in
      let kept : parent dim n ≡ (if i == 0 then None else Some (parent_number n)) = ap (parent dim) (sym (named n)) ∙ kept_parent dim (are_numbers dim tree) i (accepted_lines dim tree) (placed n within) in
      let other : i ≢ 0 = λ first. omega (arith, deep, ap (λ j. get_or (depths_of (node_lines dim)) j 0) first, first-depth (node_lines dim) (accepted_lines dim tree)) in
      let test : (i == 0) ≡ false = ne_eqb i 0 other in
      kept ∙ ap (λ b. if b then None else Some (parent_number n)) test

  held : (x y : ℕ) → y < length dim → is_under dim x y ≡ true → (place_at dim y ≤ place_at dim x) × (place_at dim x < end_of dim (place_at dim y))
  held x y within under =
      let inside : (nat_le (place_at dim y) (place_at dim x) && nat_lt (place_at dim x) (end_of dim (place_at dim y))) ≡ true = sym (is_under-interval dim tree x y within) ∙ under in
      (grind (arith, nat_tests, inside), grind (arith, nat_tests, inside))

  -- what is under a node is under each that the node is under
  pub under-under : (x y z : ℕ) → y < length dim → z < length dim → is_under dim x y ≡ true → is_under dim y z ≡ true → is_under dim x z ≡ true
  under-under x y z second third first after =
      let low = held x y second first in
      let high = held y z third after in
      let nested = end_of-nested dim (place_at dim y) (place_at dim z) (placed y second) high.0 high.1 in
      is_under-interval dim tree x z third ∙ grind (arith, nat_tests, low.0, low.1, high.0, high.1, nested)

  same_place : (x y : ℕ) → place_at dim x ≡ place_at dim y → x ≡ y
  same_place x y same = sym (named x) ∙ ap (number_at dim) same ∙ named y

  -- a node under another is it, or lies deeper
  pub under-deeper : (x y : ℕ) → x < length dim → y < length dim → is_under dim x y ≡ true → (x ≡ y) ⊎ (depth_of dim y < depth_of dim x)
  under-deeper x y first second under =
      let place = held x y second under in
      elim (cases_eq (place_at dim x) (place_at dim y)) [
        | inl same ↦ inl (same_place x y same)
        | inr other ↦ inr (ends_from-deeper 0 (depths_of (node_lines dim)) (place_at dim y) (place_at dim x) (omega (arith, length-depths dim, placed y second)) (omega (arith, place.0, other)) (omega (arith, place.1)))
      ]

  -- under a leaf there is only itself
  pub under-leaf : (x y : ℕ) → y < length dim → is_leaf dim y ≡ true → is_under dim x y ≡ true → x ≡ y
  under-leaf x y within leaf under =
      let i = place_at dim y in
      let ends : (end_of dim i == i + 1) ≡ true =
      sym (is_leaf-end (node_lines dim) (accepted_lines dim tree) i (omega (arith, placed y within, length-node_lines dim))) ∙ sym (is_leaf-number_at dim (are_numbers dim tree) i) ∙ ap (is_leaf dim) (named y) ∙ leaf in
      let place = held x y within under in
      same_place x y (grind (arith, nat_tests, ends, place.0, place.1))

  pub entry_at : (i : ℕ) (e : Entry) → slice_get dim i ≡ Some e → (i < length dim) × ((e.number ≡ number_at dim i) × (e.depth ≡ get_or (depths_of (node_lines dim)) i 0))
  entry_at i e at =
      let within : i < length dim = slice_get-within dim i e at in
      let number : option_map (λ (f : Entry). f.number) (slice_get dim i) ≡ Some (number_at dim i) = number_at-read dim i within in
      let depth : option_map (λ (f : Entry). f.depth) (slice_get dim i) ≡ Some (get_or (depths_of (node_lines dim)) i 0) = depth-read dim i within in
      (within, (grind (arith, rw at at number), grind (arith, rw at at depth)))
    where
      slice_get-within : (es : List Entry) (i : ℕ) (e : Entry) → slice_get es i ≡ Some e → i < length es
      slice_get-within [] i e at = absurd (grind arith)
      slice_get-within (f ∷ es) zero e at = omega arith
      slice_get-within (f ∷ es) (suc i) e at = omega (arith, slice_get-within es i e at)

  pub in_cut-from : (depth n : ℕ) → is_among (cut dim depth) n ≡ true → IsInCut dim depth n
  unfolding cut in_cut
  in_cut-from depth n among =
      let it = among-entries (in_cut dim depth) dim n among in
      let is = entry_at it.place it.entry it.at in
      let at : number_at dim it.place ≡ n = sym is.1.0 ∙ it.number in
      let place : place_at dim n ≡ it.place = ap (place_at dim) (sym at) ∙ place_at-number_at dim (are_numbers dim tree) it.place in
      let deep : depth_of dim n ≡ it.entry.depth = ap (λ i. get_or (depths_of (node_lines dim)) i 0) place ∙ sym is.1.1 in
      let leaf : is_leaf dim it.entry.number ≡ is_leaf dim n = ap (is_leaf dim) it.number in
      record {
        within = omega (arith, at, number_at-within dim (are_numbers dim tree) it.place is.0);
        most = grind (arith, nat_tests, it.passes, deep);
        leaf = λ less. grind (arith, nat_tests, it.passes, deep, leaf, less);
      }

  pub in_cut-to : (depth n : ℕ) → IsInCut dim depth n → is_among (cut dim depth) n ≡ true
  unfolding cut in_cut
  in_cut-to depth n is =
      let i = place_at dim n in
      let found : option_map (λ (f : Entry). f.number) (slice_get dim i) ≡ Some n = number_at-read dim i (placed n is.within) ∙ ap Some (named n) in
      go (slice_get dim i) refl found
    where
      go : (o : Option Entry) → slice_get dim (place_at dim n) ≡ o → option_map (λ (f : Entry). f.number) o ≡ Some n → is_among (map (λ e. e.number) (filter (in_cut dim depth) dim)) n ≡ true
      go None at number = absurd (grind arith)
      go (Some e) at number =
          let same : e.number ≡ n = grind arith in
          let deep : e.depth ≡ depth_of dim n = (entry_at (place_at dim n) e at).1.1 in
          let leaf : is_leaf dim e.number ≡ is_leaf dim n = ap (is_leaf dim) same in
          let passes : in_cut dim depth e ≡ true = elim (cases_lt (depth_of dim n) depth) [
            | inl less ↦ grind (arith, nat_tests, is.leaf less, leaf, deep)
            | inr least ↦ let equal : depth_of dim n ≡ depth = omega (arith, is.most) in grind (arith, nat_tests, equal, deep)
          ] in
          rw (← same) (entry-among (in_cut dim depth) dim (place_at dim n) e at passes)

  -- over a node there is one of the cut at most
  higher : (depth x y : ℕ) → IsInCut dim depth x → IsInCut dim depth y → is_under dim x y ≡ true → x ≡ y
  higher depth x y first second under = elim (under-deeper x y first.within second.within under) [
    | inl same ↦ same
    | inr deeper ↦ under-leaf x y second.within (second.leaf (omega (arith, deeper, first.most))) under
  ]

  pub one_in_cut : (depth x y z : ℕ) → z < length dim → IsInCut dim depth x → IsInCut dim depth y → is_under dim z x ≡ true → is_under dim z y ≡ true → x ≡ y
  one_in_cut depth x y z within first second below_x below_y = elim (nested_or_apart dim x y tree first.within second.within) [
    | inl under ↦ higher depth x y first second under
    | inr (inl over) ↦ sym (higher depth y x second first over)
    | inr (inr apart) ↦ absurd (apart z within below_x below_y)
  ]

  pub above-first : (depth leaf : ℕ) → leaf < length dim → IsAbove dim depth leaf leaf
  above-first depth leaf within = record {
    within = within;
    over =
        let above = end_of-above dim (place_at dim leaf) (placed leaf within) in
        is_under-interval dim tree leaf leaf within ∙ grind (arith, nat_tests, above);
    least = inl refl;
  }

  pub above-next : (depth leaf node p : ℕ) → IsAbove dim depth leaf node → depth < depth_of dim node → parent dim node ≡ Some p → IsAbove dim depth leaf p
  above-next depth leaf node p above deeper is =
      let its = is_parent node p above.within is in
      record {
        within = its.within;
        over = under-under leaf node p above.within its.within above.over its.over;
        least = inr (omega (arith, its.depth));
      }

  pub above-last : (depth leaf node : ℕ) → (depth_of dim leaf < depth → is_leaf dim leaf ≡ true) → IsAbove dim depth leaf node → depth_of dim node ≤ depth → IsCutNode dim depth leaf node
  above-last depth leaf node is above most = record {
    within = above.within;
    over = above.over;
    in_cut = in_cut-to depth node (record {
      within = above.within;
      most = most;
      leaf = λ less. elim above.least [
        | inl same ↦ ap (is_leaf dim) same ∙ is (omega (arith, less, ap (depth_of dim) same))
        | inr least ↦ absurd (omega (arith, least, less))
      ];
    });
  }

  climbed-from : (depth leaf fuel node : ℕ) → is_leaf dim leaf ≡ true → IsAbove dim depth leaf node → depth_of dim node ≤ depth + fuel → HasCutNode dim depth leaf
  climbed-from depth leaf zero node is above most = record { node = node; is_cut_node = above-last depth leaf node (λ less. is) above (omega (arith, most)) }
  climbed-from depth leaf (suc fuel) node is above most = elim (cases_lt depth (depth_of dim node)) [
    | inl deeper ↦
        let up = parent_of node above.within (omega (arith, deeper)) in
        let its = is_parent node (parent_number node) above.within up in
        climbed-from depth leaf fuel (parent_number node) is (above-next depth leaf node (parent_number node) above deeper up) (omega (arith, its.depth, most))
    | inr least ↦ record { node = node; is_cut_node = above-last depth leaf node (λ less. is) above (omega (arith, least)) }
  ]

  -- over each leaf there is a node of the cut
  pub some_in_cut : (depth leaf : ℕ) → leaf < length dim → is_leaf dim leaf ≡ true → HasCutNode dim depth leaf
  some_in_cut depth leaf within is = climbed-from depth leaf (depth_of dim leaf) leaf is (above-first depth leaf within) (omega arith)

  -- A leaf is under a node that lies no deeper than the cut where the leaf's node of the cut is.
  pub under-from_cut : (depth leaf node over : ℕ) → leaf < length dim → over < length dim → depth_of dim over ≤ depth → IsCutNode dim depth leaf node → is_under dim leaf over ≡ is_under dim node over
  under-from_cut depth leaf node over within room most is = by (is_under dim node over) (is_under dim leaf over) refl refl
    where
      cuts : IsInCut dim depth node
      cuts = in_cut-from depth node is.in_cut

      below : is_under dim leaf over ≡ true → is_under dim node over ≡ true
      below under = elim (nested_or_apart dim node over tree is.within room) [
        | inl is_below ↦ is_below
        | inr (inl above) ↦ elim (under-deeper over node room is.within above) [
          | inl same ↦ ap (is_under dim node) same ∙ (above-first 0 node is.within).over
          | inr deeper ↦ ap (is_under dim node) (under-leaf over node is.within (cuts.leaf (omega (arith, deeper, most))) above) ∙ (above-first 0 node is.within).over
        ]
        | inr (inr apart) ↦ absurd (apart leaf within is.over under)
      ]

      by : (b c : Bool) → is_under dim node over ≡ b → is_under dim leaf over ≡ c → c ≡ b
      by true c high low = sym low ∙ under-under leaf node over is.within room is.over high
      by false true high low = absurd (true≢false (sym (below low) ∙ high))
      by false false high low = refl

-- a node that lies deeper than some depth has a parent
pub some_parent : (dim : Dimension) (node depth : ℕ) (found : Option ℕ) → IsTree dim → depth < depth_of dim node → (IsNone found ↔ (node ≡ 0)) → IsSome found
some_parent dim node depth None tree deeper root =
    let first : node ≡ 0 = root.0 refl in
    absurd (omega (arith, deeper, ap (depth_of dim) first, depth-root dim tree))
some_parent dim node depth (Some p) tree deeper root = refl
