-- The product of cuts is the regions whose codes are in it, ascending, and so a view's list is in the order of the product.
use Rattle.std.proofs.Common.{◌≡◌, ℕ, suc, ◌+◌, ◌<◌, Bool, true, false, List, [], ◌∷◌, ◌++◌, filter, length, map, get_or, refl, sym, ap, ◌∙◌, arith}
use Rattle.std.specs.Prelude.{All, Some, if◌then◌else◌, ◌&&◌, nat_lt, slice_get}
use Rattle.std.specs.List.{range_with_len}
use Rattle.std.proofs.lemmas.Bool.Decides.{nat_tests}
use Rattle.std.proofs.lemmas.List.Elements.{All-head, All-tail, filter-append}
use Rattle.std.proofs.lemmas.Option.{same_Some}
use Rattle.cube_model.specs.Cells.{is_among}
use Rattle.cube_model.specs.Cut.{cut, in_cut}
use Rattle.cube_model.specs.Tree.{Dimension, Entry, IsTree, numbers}
use Rattle.dim_tree.proofs.Renumbering.{are_numbers, place_at, place_at-number_at}
use Rattle.region_algebra.specs.Space.{all_regions, region_total}
use Rattle.region_algebra.proofs.Codes.{length-all_regions}
use Rattle.view_store.specs.Cuts.{cut_regions, regions_behind}
use Rattle.view_store.specs.Views.{is_in_cuts, is_in_view, region_at}
use Rattle.view_store.proofs.CutNodes.{among-entries, entry-among, entry_at as node-entry}

-- a filter of what a function makes of items
pub filter-map : {X Y : Type 0} (f : X → Y) (p : X → Bool) (q : Y → Bool) (xs : List X) → ((i : ℕ) (x : X) → slice_get xs i ≡ Some x → q (f x) ≡ p x) → filter q (map f xs) ≡ map f (filter p xs)
filter-map f p q [] same = refl
filter-map {X} {Y} f p q (x ∷ xs) same = by (p x) refl (filter-map f p q xs (λ i y at. same (suc i) y at))
  where
    by : (b : Bool) → p x ≡ b → filter q (map f xs) ≡ map f (filter p xs) → filter q (map f (x ∷ xs)) ≡ map f (filter p (x ∷ xs))
    by true is rest = let here : q (f x) ≡ true = same 0 x refl ∙ is in rw (here, is, rest) refl
    by false is rest = let here : q (f x) ≡ false = same 0 x refl ∙ is in rw (here, is, rest) refl

-- what a function makes of the places of a list's items that pass
map-places : {X : Type 0} (xs : List X) (d : X) (f : ℕ → X) (p : ℕ → Bool) (q : X → Bool) (from : ℕ) → ((i c : ℕ) → c ≡ from + i → i < length xs → (f c ≡ get_or xs i d) × (p c ≡ q (get_or xs i d)))
    → map f (filter p (range_with_len from (length xs))) ≡ filter q xs
map-places [] d f p q from same = refl
map-places {X} (x ∷ xs) d f p q from same = by (q x) refl (map-places xs d f p q (from + 1) (λ i c at within. same (suc i) c (omega (arith, at)) (omega (arith, within))))
  where
    first : (f from ≡ x) × (p from ≡ q x)
    first = same 0 from (omega arith) (omega arith)

    by : (b : Bool) → q x ≡ b → map f (filter p (range_with_len (from + 1) (length xs))) ≡ filter q xs → map f (filter p (range_with_len from (length (x ∷ xs)))) ≡ filter q (x ∷ xs)
    by true is rest = let here : p from ≡ true = first.1 ∙ is in rw (here, is, rest, first.0) refl
    by false is rest = let here : p from ≡ false = first.1 ∙ is in rw (here, is, rest) refl

-- Of nodes before regions, those where both pass.
module _ (a : ℕ → Bool) (b t : List ℕ → Bool) (parts : (n : ℕ) (r : List ℕ) → t (n ∷ r) ≡ (a n && b r)) where
  one-node : (n : ℕ) (c : Bool) (rs : List (List ℕ)) → a n ≡ c → filter t (map (λ r. n ∷ r) rs) ≡ (if c then map (λ r. n ∷ r) (filter b rs) else [])
  one-node n true [] is = refl
  one-node n false [] is = refl
  one-node n true (r ∷ rs) is = by (b r) refl (one-node n true rs is)
    where
      by : (c : Bool) → b r ≡ c → filter t (map (λ r. n ∷ r) rs) ≡ map (λ r. n ∷ r) (filter b rs) → filter t (map (λ r. n ∷ r) (r ∷ rs)) ≡ map (λ r. n ∷ r) (filter b (r ∷ rs))
      by true passes rest = let here : t (n ∷ r) ≡ true = parts n r ∙ rw (is, passes) refl in rw (here, passes, rest) refl
      by false passes rest = let here : t (n ∷ r) ≡ false = parts n r ∙ rw (is, passes) refl in rw (here, passes, rest) refl
  one-node n false (r ∷ rs) is = let here : t (n ∷ r) ≡ false = parts n r ∙ rw is refl in rw here (one-node n false rs is)

  pub some-nodes : (ns : List ℕ) (rs : List (List ℕ)) → filter t (regions_behind ns rs) ≡ regions_behind (filter a ns) (filter b rs)
  some-nodes [] rs = refl
  some-nodes (n ∷ ns) rs =
      filter-append t (map (λ r. n ∷ r) rs) (regions_behind ns rs) ∙ by (a n) refl (some-nodes ns rs)
    where
      by : (c : Bool) → a n ≡ c → filter t (regions_behind ns rs) ≡ regions_behind (filter a ns) (filter b rs) → filter t (map (λ r. n ∷ r) rs) ++ filter t (regions_behind ns rs) ≡ regions_behind (filter a (n ∷ ns)) (filter b rs)
      by true is rest = rw (one-node n true rs is, rest, is) refl
      by false is rest = rw (one-node n false rs is, rest, is) refl

-- a node is among those of a cut where its entry is in the cut
in_cut-entry : (dim : Dimension) (depth i : ℕ) (e : Entry) → IsTree dim → slice_get dim i ≡ Some e → is_among (map (λ e. e.number) (filter (in_cut dim depth) dim)) e.number ≡ in_cut dim depth e
in_cut-entry dim depth i e tree at = by (in_cut dim depth e) (is_among (map (λ e. e.number) (filter (in_cut dim depth) dim)) e.number) refl refl
  where
    by : (p a : Bool) → in_cut dim depth e ≡ p → is_among (map (λ e. e.number) (filter (in_cut dim depth) dim)) e.number ≡ a → a ≡ p
    by true a passes among = sym among ∙ entry-among (in_cut dim depth) dim i e at passes
    by false false passes among = refl
    by false true passes among =
        let it = among-entries (in_cut dim depth) dim e.number among in
        let here = (node-entry dim tree i e at).1.0 in
        let there = (node-entry dim tree it.place it.entry it.at).1.0 in
        let place : it.place ≡ i =
        sym (place_at-number_at dim (are_numbers dim tree) it.place) ∙ ap (place_at dim) (sym there ∙ it.number ∙ here) ∙ place_at-number_at dim (are_numbers dim tree) i in
        let same : it.entry ≡ e = same_Some it.entry e (sym it.at ∙ ap (slice_get dim) place ∙ at) in
        sym (sym (ap (in_cut dim depth) same) ∙ it.passes) ∙ passes

-- the nodes of a cut, in order, are those of the dimension that are among them
cut-filtered : (dim : Dimension) (depth : ℕ) → IsTree dim → filter (is_among (cut dim depth)) (numbers dim) ≡ cut dim depth
unfolding cut
cut-filtered dim depth tree = filter-map (λ (e : Entry). e.number) (in_cut dim depth) (is_among (map (λ e. e.number) (filter (in_cut dim depth) dim))) dim (λ i e at. in_cut-entry dim depth i e tree at)

-- the product of the cuts is the regions in it, in their order
pub cut_regions-filtered : (dims : List Dimension) (depths : List ℕ) → All IsTree dims → length depths ≡ length dims → cut_regions dims depths ≡ filter (is_in_cuts dims depths) (all_regions dims)
unfolding all_regions
cut_regions-filtered [] [] trees deep = refl
cut_regions-filtered [] (depth ∷ depths) trees deep = absurd (omega (arith, deep))
cut_regions-filtered (dim ∷ dims) [] trees deep = absurd (omega (arith, deep))
cut_regions-filtered (dim ∷ dims) (depth ∷ depths) trees deep =
    sym (some-nodes (is_among (cut dim depth)) (is_in_cuts dims depths) (is_in_cuts (dim ∷ dims) (depth ∷ depths)) (λ n r. refl) (numbers dim) (all_regions dims)
    ∙ ap (λ ns. regions_behind ns (filter (is_in_cuts dims depths) (all_regions dims))) (cut-filtered dim depth (All-head IsTree dim dims trees))
    ∙ ap (regions_behind (cut dim depth)) (sym (cut_regions-filtered dims depths (All-tail IsTree dim dims trees) (omega (arith, deep)))))

-- and those of the codes in the view
pub cut_regions-coded : (dims : List Dimension) (depths : List ℕ) → All IsTree dims → length depths ≡ length dims → map (region_at dims) (filter (is_in_view dims depths) (range_with_len 0 (region_total dims))) ≡ cut_regions dims depths
cut_regions-coded dims depths trees deep =
    ap (λ n. map (region_at dims) (filter (is_in_view dims depths) (range_with_len 0 n))) (sym (length-all_regions dims))
    ∙ map-places (all_regions dims) [] (region_at dims) (is_in_view dims depths) (is_in_cuts dims depths) 0 same ∙ sym (cut_regions-filtered dims depths trees deep)
  where
    same : (i c : ℕ) → c ≡ 0 + i → i < length (all_regions dims) → (region_at dims c ≡ get_or (all_regions dims) i []) × (is_in_view dims depths c ≡ is_in_cuts dims depths (get_or (all_regions dims) i []))
    same i c at within =
        let place : c ≡ i = omega (arith, at) in
        let below : nat_lt c (region_total dims) ≡ true = grind (arith, nat_tests, place, within, length-all_regions dims) in
        (ap (region_at dims) place, ap (λ b. b && is_in_cuts dims depths (region_at dims c)) below ∙ ap (λ k. is_in_cuts dims depths (region_at dims k)) place)
