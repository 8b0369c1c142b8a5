-- What the definitions say of the nodes of accepted lines, by their places.
use Rattle.std.proofs.Common.{◌≡◌, ℕ, ◌+◌, ◌<◌, ◌≤◌, Bool, true, false, List, [], ◌∷◌, length, get_or, slice_get, Option, Some, None, option_map, not, ◌&&◌, ◌==◌, nat_lt, nat_le, if◌then◌else◌, zero, suc, refl, sym, ap, ◌∙◌, inl, inr, eq-eqb, ne_eqb, arith}
use Rattle.std.specs.List.{list_any}
use Rattle.std.specs.Option.{option_map_or}
use Rattle.std.proofs.lemmas.Bool.{cases_eq}
use Rattle.std.proofs.lemmas.Bool.Decides.{nat_tests}
use Rattle.std.proofs.lemmas.List.{length-map}
use Rattle.std.proofs.lemmas.List.Folds.{list_any_none, list_any_at}
use Rattle.cube_model.specs.declared.tree.NodeLine.{NodeLine}
use Rattle.cube_model.specs.Tree.{Entry, path_after, numbered, numbered_from, first_fault, path, parent, is_under, is_leaf}
use Rattle.dim_tree.specs.Places.{count_deeper, ends_from, parents_from}
use Rattle.dim_tree.proofs.Climbing.{depths_of, meets, meets-path}
use Rattle.dim_tree.proofs.Rising.{first_fault-rises_on}
use Rattle.dim_tree.proofs.Parents.{parent-path, parents_from-below, child-next}
use Rattle.dim_tree.proofs.Outlines.{length-numbered_from}

-- nodes are numbered by their places
pub number-numbered_from : (k : ℕ) (lines : List NodeLine) (i : ℕ) (d : Entry) → i < length lines → (get_or (numbered_from k lines) i d).number ≡ k + i
number-numbered_from k [] i d within = absurd (omega arith)
number-numbered_from k (line ∷ lines) zero d within = omega arith
number-numbered_from k (line ∷ lines) (suc i) d within = number-numbered_from (k + 1) lines i d (omega arith) ∙ omega arith

-- a node stands before its end
pub ends_from-above : (k : ℕ) (ds : List ℕ) (i : ℕ) → i < length ds → k + i < get_or (ends_from k ds) i 0
ends_from-above k [] i within = absurd (omega arith)
ends_from-above k (d ∷ ds) zero within = omega arith
ends_from-above k (d ∷ ds) (suc i) within = grind (arith, ends_from-above (k + 1) ds i (omega arith))

-- no more nodes lie deeper than there are
pub count_deeper-within : (f : ℕ) (ds : List ℕ) → count_deeper f ds ≤ length ds
count_deeper-within f [] = omega arith
count_deeper-within f (d ∷ ds) = grind (arith, nat_tests, count_deeper-within f ds)

-- and the end is within the nodes
pub ends_from-within : (k : ℕ) (ds : List ℕ) (i : ℕ) → i < length ds → get_or (ends_from k ds) i 0 ≤ k + length ds
ends_from-within k [] i within = absurd (omega arith)
ends_from-within k (d ∷ ds) zero within = grind (arith, count_deeper-within d ds)
ends_from-within k (d ∷ ds) (suc i) within = grind (arith, ends_from-within (k + 1) ds i (omega arith))

-- the second on a path is on it
second-meets : (y : ℕ) (es : List Entry) → option_map (λ e. e.number) (slice_get es 1) ≡ Some y → meets y es ≡ true
second-meets y [] second = grind arith
second-meets y (a ∷ []) second = grind arith
second-meets y (a ∷ b ∷ es) second = grind (arith, nat_tests)

-- stands for a node past the last
abbrev pub no_entry : Entry
no_entry = record { depth = 0; name = []; number = 0 }

-- a number that is not in an `Option` fails the test on it
other_number : (x : ℕ) (o : Option ℕ) → (o ≡ Some x → ⊥) → option_map_or (λ p. p == x) o false ≡ false
other_number x None differs = refl
other_number x (Some y) differs = ne_eqb y x (λ same. differs (ap Some same))

module _ (lines : List NodeLine) (accepted : first_fault [] 0 lines ≡ None) where
  -- the place behind the last node under y
  abbrev end_at : ℕ → ℕ
  end_at y = get_or (ends_from 0 (depths_of lines)) y 0

  -- what is kept as the parent of x
  abbrev parent_at : ℕ → ℕ
  parent_at x = get_or (parents_from [] (depths_of lines)) x 0

  -- a node is under y from y up to its end
  pub is_under-end : (x y : ℕ) → y < length lines → is_under (numbered lines) x y ≡ (nat_le y x && nat_lt x (end_at y))
  unfolding is_under path
  is_under-end x y within = meets-path lines [] 0 y x y (omega arith) within (omega arith) refl (first_fault-rises_on [] 0 lines accepted) refl

  -- each node but the first has a parent
  pub parent-place : (x : ℕ) → x < length lines → parent (numbered lines) x ≡ (if x == 0 then None else Some (parent_at x))
  unfolding parent path
  parent-place x within = parent-path lines [] 0 x x refl (omega arith) within refl (first_fault-rises_on [] 0 lines accepted) refl

  -- a node is under its parent
  pub is_under-parent : (x y : ℕ) → parent (numbered lines) x ≡ Some y → is_under (numbered lines) x y ≡ true
  unfolding is_under parent path
  is_under-parent x y parent_is = second-meets y (path_after [] x (numbered lines)) parent_is

  -- whether x is the parent of a node
  abbrev has_parent : ℕ → Entry → Bool
  has_parent x e = option_map_or (λ p. p == x) (parent (numbered lines) e.number) false

  -- what lies before the end of a node but just behind it is its child
  child : (x : ℕ) → x + 1 < end_at x → x < length lines → list_any (has_parent x) (numbered lines) ≡ true
  child x more within =
      let few = length-map lines (λ (line : NodeLine). line.depth) in
      let next : x + 1 < length lines = omega (arith, few, ends_from-within 0 (depths_of lines) x (omega (arith, few))) in
      let at : (get_or (numbered lines) (x + 1) no_entry).number ≡ x + 1 = number-numbered_from 0 lines (x + 1) no_entry next ∙ omega arith in
      let its : parent_at (x + 1) ≡ x = child-next lines [] 0 x refl next (first_fault-rises_on [] 0 lines accepted) (omega arith) ∙ omega arith in
      let parent_is : parent (numbered lines) (x + 1) ≡ Some x = parent-place (x + 1) next ∙ grind (arith, nat_tests, its) in
      list_any_at (has_parent x) (numbered lines) (x + 1) no_entry (omega (arith, length-numbered_from 0 lines)) (ap (λ n. option_map_or (λ p. p == x) (parent (numbered lines) n) false) at ∙ ap (λ o. option_map_or (λ p. p == x) o false) parent_is ∙ eq-eqb x x refl)

  -- what lies just before its end is no node's parent
  not_parent : (x j : ℕ) → end_at x ≡ x + 1 → x < length lines → j < length lines → parent (numbered lines) j ≡ Some x → ⊥
  not_parent x j none within inside parent_is =
      let under : (nat_le x j && nat_lt j (end_at x)) ≡ true = sym (is_under-end j x within) ∙ is_under-parent j x parent_is in
      let its : (if j == 0 then None else Some (parent_at j)) ≡ Some x = sym (parent-place j inside) ∙ parent_is in
      grind (arith, nat_tests, under, its, parents_from-below [] (depths_of lines) j (omega (arith, length-map lines (λ (line : NodeLine). line.depth))))

  -- so it has no child
  no_child : (x : ℕ) → end_at x ≡ x + 1 → x < length lines → list_any (has_parent x) (numbered lines) ≡ false
  no_child x none within = list_any_none (has_parent x) (numbered lines) (λ j d inside.
      let in_lines : j < length lines = omega (arith, length-numbered_from 0 lines) in
      let at : (get_or (numbered lines) j d).number ≡ j = number-numbered_from 0 lines j d in_lines ∙ omega arith in
      ap (λ n. option_map_or (λ p. p == x) (parent (numbered lines) n) false) at ∙ other_number x (parent (numbered lines) j) (not_parent x j none within in_lines))

  -- a leaf ends just behind itself
  pub is_leaf-end : (x : ℕ) → x < length lines → is_leaf (numbered lines) x ≡ (end_at x == x + 1)
  unfolding is_leaf
  is_leaf-end x within = elim (cases_eq (end_at x) (x + 1)) [
    | inl none ↦ ap not (no_child x none within) ∙ sym (eq-eqb (end_at x) (x + 1) none)
    | inr some ↦ ap not (child x (omega (arith, some, ends_from-above 0 (depths_of lines) x (omega (arith, length-map lines (λ (line : NodeLine). line.depth))))) within) ∙ sym (ne_eqb (end_at x) (x + 1) some)
  ]
