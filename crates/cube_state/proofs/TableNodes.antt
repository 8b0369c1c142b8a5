-- The members of a table in a dimension are the nodes of one cut that lie under the asked node.
use Rattle.std.proofs.Common.{◌≡◌, ℕ, zero, suc, ◌<◌, ◌≢◌, Bool, true, false, List, [], ◌∷◌, filter, map, get_or, refl, sym, ap, ◌∙◌, inl, inr, ne_eqb, length, arith}
use Rattle.std.specs.Prelude.{if◌then◌else◌, ◌&&◌, ◌==◌, nat_lt, Option, Some, None, slice_get}
use Rattle.std.specs.Option.{option_map, option_map_or}
use Rattle.std.proofs.lemmas.Bool.{cases_eq}
use Rattle.std.proofs.lemmas.Bool.Decides.{nat_tests}
use Rattle.cube_model.specs.Cut.{cut, in_cut}
use Rattle.cube_model.specs.Tree.{Dimension, Entry, IsTree, entry_of, is_under, node_lines}
use Rattle.dim_tree.proofs.Climbing.{depths_of}
use Rattle.dim_tree.proofs.Renumbering.{are_numbers, number_at, number_at-place_at, number_at-read, place_at, place_at-number_at, place_at-within}
use Rattle.view_store.proofs.CutNodes.{above-first, depth_is, depth_of, entry-among, entry_at, in_cut-from, under-deeper}
use Rattle.view_store.proofs.CutOrder.{filter-map}
use Rattle.cube_state.specs.Tables.{depth_under, is_deeper, members}

-- where no item passes, and where one alone does
none-pass : {X : Type 0} (p : X → Bool) (xs : List X) → ((i : ℕ) (x : X) → slice_get xs i ≡ Some x → p x ≡ false) → filter p xs ≡ []
none-pass p [] none = refl
none-pass p (x ∷ xs) none = let here : p x ≡ false = none 0 x refl in rw here (none-pass p xs (λ i y at. none (suc i) y at))

one-passes : {X : Type 0} (p : X → Bool) (xs : List X) (j : ℕ) (x : X) → slice_get xs j ≡ Some x → ((i : ℕ) (y : X) → slice_get xs i ≡ Some y → p y ≡ (i == j)) → filter p xs ≡ x ∷ []
one-passes p [] j x at tells = absurd (grind arith)
one-passes p (y ∷ ys) zero x at tells =
    let same : y ≡ x = grind arith in
    let here : p y ≡ true = tells 0 y refl ∙ grind (arith, nat_tests) in
    let rest : filter p ys ≡ [] = none-pass p ys (λ i z there. tells (suc i) z there ∙ grind (arith, nat_tests)) in
    rw (here, rest, same) refl
one-passes p (y ∷ ys) (suc j) x at tells =
    let here : p y ≡ false = tells 0 y refl ∙ grind (arith, nat_tests) in
    rw here (one-passes p ys j x at (λ i z there. tells (suc i) z there ∙ grind (arith, nat_tests)))

-- two filters
filter-filter : {X : Type 0} (p q : X → Bool) (xs : List X) → filter q (filter p xs) ≡ filter (λ x. p x && q x) xs
filter-filter p q [] = refl
filter-filter {X} p q (x ∷ xs) = by (p x) (q x) refl refl (filter-filter p q xs)
  where
    by : (a b : Bool) → p x ≡ a → q x ≡ b → filter q (filter p xs) ≡ filter (λ x. p x && q x) xs → filter q (filter p (x ∷ xs)) ≡ filter (λ x. p x && q x) (x ∷ xs)
    by true true first second rest = rw (first, second, rest) refl
    by true false first second rest = rw (first, second, rest) refl
    by false b first second rest = rw (first, rest) refl

-- what is told of the depth of a node
deeper-test : (found : Option Entry) (deep depth : ℕ) → option_map (λ e. e.depth) found ≡ Some deep → option_map_or (λ e. nat_lt depth e.depth) found false ≡ nat_lt depth deep
deeper-test None deep depth is = absurd (grind arith)
deeper-test (Some e) deep depth is = let same : e.depth ≡ deep = grind arith in ap (nat_lt depth) same

depth-test : (found : Option Entry) (deep depth : ℕ) → option_map (λ e. e.depth) found ≡ Some deep → option_map_or (λ e. if nat_lt depth e.depth then e.depth else depth) found depth ≡ (if nat_lt depth deep then deep else depth)
depth-test None deep depth is = absurd (grind arith)
depth-test (Some e) deep depth is = let same : e.depth ≡ deep = grind arith in ap (λ n. if nat_lt depth n then n else depth) same

pub depth_under-told : (dim : Dimension) (node depth deep : ℕ) → option_map (λ e. e.depth) (entry_of dim node) ≡ Some deep → depth_under dim depth node ≡ (if nat_lt depth deep then deep else depth)
depth_under-told dim node depth deep is = depth-test (entry_of dim node) deep depth is

module _ (dim : Dimension) (tree : IsTree dim) (node : ℕ) (within : node < length dim) where
  abbrev deep : ℕ
  deep = depth_of dim node

  abbrev place : ℕ
  place = place_at dim node

  abbrev is_here : Entry → Bool
  is_here e = in_cut dim deep e && is_under dim e.number node

  -- of the nodes of the cut at its own depth, only the node itself is under it
  not-elsewhere : (i : ℕ) (e : Entry) → slice_get dim i ≡ Some e → place_at dim e.number ≡ i → i ≢ place → is_here e ≡ false
  unfolding cut
  not-elsewhere i e at at_place other = by (in_cut dim deep e) (is_under dim e.number node) refl refl
    where
      by : (a b : Bool) → in_cut dim deep e ≡ a → is_under dim e.number node ≡ b → (a && b) ≡ false
      by false b passes under = refl
      by true false passes under = refl
      by true true passes under =
          let cuts = in_cut-from dim tree deep e.number (entry-among (in_cut dim deep) dim i e at passes) in
          elim (under-deeper dim tree e.number node cuts.within within under) [
            | inl same ↦ absurd (other (sym at_place ∙ ap (place_at dim) same))
            | inr deeper ↦ absurd (omega (arith, deeper, cuts.most))
          ]

  here-only : (i : ℕ) (e : Entry) → slice_get dim i ≡ Some e → is_here e ≡ (i == place)
  unfolding in_cut
  here-only i e at =
      let its = entry_at dim tree i e at in
      elim (cases_eq i place) [
        | inl same ↦
            let number : e.number ≡ node = its.1.0 ∙ ap (number_at dim) same ∙ number_at-place_at dim (are_numbers dim tree) node in
            let depth : e.depth ≡ deep = its.1.1 ∙ ap (λ j. get_or (depths_of (node_lines dim)) j 0) same in
            let under : is_under dim e.number node ≡ true = ap (λ n. is_under dim n node) number ∙ (above-first dim tree 0 node within).over in
            grind (arith, nat_tests, under, depth, same)
        | inr other ↦ not-elsewhere i e at (ap (place_at dim) its.1.0 ∙ place_at-number_at dim (are_numbers dim tree) i) other ∙ sym (ne_eqb i place other)
      ]

  members-alone : filter (λ low. is_under dim low node) (cut dim deep) ≡ node ∷ []
  unfolding cut
  members-alone = by (slice_get dim place) refl (number_at-read dim place (place_at-within dim (are_numbers dim tree) node within) ∙ ap Some (number_at-place_at dim (are_numbers dim tree) node))
    where
      by : (o : Option Entry) → slice_get dim place ≡ o → option_map (λ (f : Entry). f.number) o ≡ Some node → filter (λ low. is_under dim low node) (map (λ e. e.number) (filter (in_cut dim deep) dim)) ≡ node ∷ []
      by None at number = absurd (grind arith)
      by (Some e) at number =
          let same : e.number ≡ node = grind arith in
          filter-map (λ (e : Entry). e.number) (λ e. is_under dim e.number node) (λ low. is_under dim low node) (filter (in_cut dim deep) dim) (λ i x there. refl)
          ∙ ap (map (λ (e : Entry). e.number)) (filter-filter (in_cut dim deep) (λ e. is_under dim e.number node) dim ∙ one-passes is_here dim place e at here-only)
          ∙ ap (λ n. n ∷ []) same

-- so the members are those of the cut at the deeper one of the depths
pub members-under : (dim : Dimension) (depth node : ℕ) → IsTree dim → node < length dim → members dim depth node ≡ filter (λ low. is_under dim low node) (cut dim (depth_under dim depth node))
members-under dim depth node tree within = by (nat_lt depth deep) refl
  where
    deep : ℕ
    deep = depth_of dim node

    some : ℕ → List ℕ
    some d = filter (λ low. is_under dim low node) (cut dim d)

    is : is_deeper dim depth node ≡ nat_lt depth deep
    is = deeper-test (entry_of dim node) deep depth (depth_is dim tree node within)

    lies : depth_under dim depth node ≡ (if nat_lt depth deep then deep else depth)
    lies = depth_under-told dim node depth deep (depth_is dim tree node within)

    by : (b : Bool) → nat_lt depth deep ≡ b → members dim depth node ≡ some (depth_under dim depth node)
    by true less =
        let cuts : depth_under dim depth node ≡ deep = lies ∙ ap (λ b. if b then deep else depth) less in
        ap (λ b. if b then node ∷ [] else some depth) (is ∙ less) ∙ sym (members-alone dim tree node within) ∙ ap some (sym cuts)
    by false least =
        let cuts : depth_under dim depth node ≡ depth = lies ∙ ap (λ b. if b then deep else depth) least in
        ap (λ b. if b then node ∷ [] else some depth) (is ∙ least) ∙ ap some (sym cuts)
