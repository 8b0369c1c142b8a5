-- What the definitions say of nodes whose numbers are renamed by a function that keeps different numbers apart.
use Rattle.std.proofs.Common.{◌≡◌, ℕ, ◌+◌, Bool, true, false, List, [], ◌∷◌, map, filter, slice_get, Option, Some, None, option_map, position, not, ◌||◌, ◌&&◌, ◌==◌, nat_lt, cond, refl, sym, ap, ◌∙◌}
use Rattle.std.specs.List.{find, list_any, position_from}
use Rattle.std.specs.Option.{option_and_then, option_map_or}
use Rattle.std.specs.Str.{bytes_eq}
use Rattle.std.proofs.Math.Path.{fun_ext}
use Rattle.std.proofs.lemmas.Iterator.Adapters.{position_from-zero}
use Rattle.std.proofs.lemmas.Option.{slice_get-map}
use Rattle.cube_model.specs.Tree.{Dimension, Entry, climb, path_after, path, parent, is_under, is_leaf, leaves, entry_of, node_named, numbers, place_of}
use Rattle.cube_model.specs.Cells.{leaf_places, places_from}
use Rattle.cube_model.specs.Cut.{behind, children, first_child, next_sibling, in_cut, cut}

-- the node with its number renamed
abbrev pub renamed : (ℕ → ℕ) → Entry → Entry
renamed f e = record { depth = e.depth; name = e.name; number = f e.number }

-- each of one of two lists
map-cond : {X Y : Type 0} (f : X → Y) (b : Bool) (xs ys : List X) → map f (cond b xs ys) ≡ cond b (map f xs) (map f ys)
map-cond f true xs ys = refl
map-cond f false xs ys = refl

-- each of each
pub map-map : {X Y Z : Type 0} (f : Y → Z) (g : X → Y) (xs : List X) → map f (map g xs) ≡ map (λ x. f (g x)) xs
map-map f g [] = refl
map-map f g (x ∷ xs) = ap (λ ys. f (g x) ∷ ys) (map-map f g xs)

-- some of the images passes where some item's image passes
pub list_any-map : {X Y : Type 0} (p : Y → Bool) (f : X → Y) (xs : List X) → list_any p (map f xs) ≡ list_any (λ x. p (f x)) xs
list_any-map p f [] = refl
list_any-map p f (x ∷ xs) = ap (λ b. p (f x) || b) (list_any-map p f xs)

-- the images that pass are those of the items whose images pass
filter-map : {X Y : Type 0} (p : Y → Bool) (f : X → Y) (xs : List X) → filter p (map f xs) ≡ map f (filter (λ x. p (f x)) xs)
filter-map p f [] = refl
filter-map p f (x ∷ xs) = ap (λ ys. cond (p (f x)) (f x ∷ ys) ys) (filter-map p f xs) ∙ sym (map-cond f (p (f x)) (x ∷ filter (λ y. p (f y)) xs) (filter (λ y. p (f y)) xs))

-- the first image that passes is that of the first item whose image passes
find-step : {X Y : Type 0} (f : X → Y) (b : Bool) (x : X) (o : Option X) → cond b (Some (f x)) (option_map f o) ≡ option_map f (cond b (Some x) o)
find-step f true x o = refl
find-step f false x o = refl

find-map : {X Y : Type 0} (p : Y → Bool) (f : X → Y) (xs : List X) → find p (map f xs) ≡ option_map f (find (λ x. p (f x)) xs)
find-map p f [] = refl
find-map p f (x ∷ xs) = ap (cond (p (f x)) (Some (f x))) (find-map p f xs) ∙ find-step f (p (f x)) x (find (λ y. p (f y)) xs)

-- images pass at the same places
pub position_from-map : {X Y : Type 0} (p : Y → Bool) (f : X → Y) (k : ℕ) (xs : List X) → position_from p k (map f xs) ≡ position_from (λ x. p (f x)) k xs
position_from-map p f k [] = refl
position_from-map p f k (x ∷ xs) = ap (cond (p (f x)) (Some k)) (position_from-map p f (k + 1) xs)

pub position-map : {X Y : Type 0} (p : Y → Bool) (f : X → Y) (xs : List X) → position p (map f xs) ≡ position (λ x. p (f x)) xs
position-map p f xs = position_from-zero p (map f xs) ∙ position_from-map p f 0 xs ∙ sym (position_from-zero (λ x. p (f x)) xs)

places_from-map : {X Y : Type 0} (p : Y → Bool) (f : X → Y) (k : ℕ) (xs : List X) → places_from p k (map f xs) ≡ places_from (λ x. p (f x)) k xs
places_from-map p f k [] = refl
places_from-map p f k (x ∷ xs) = ap (λ ks. cond (p (f x)) (k ∷ ks) (places_from p (k + 1) (map f xs))) (places_from-map p f (k + 1) xs) ∙ ap (cond (p (f x)) (k ∷ places_from (λ y. p (f y)) (k + 1) xs)) (places_from-map p f (k + 1) xs)

-- an image of an image
option_map-map : {X Y Z : Type 0} (f : Y → Z) (g : X → Y) (o : Option X) → option_map f (option_map g o) ≡ option_map (λ x. f (g x)) o
option_map-map f g None = refl
option_map-map f g (Some x) = refl

module _ (f : ℕ → ℕ) (same : (x y : ℕ) → (f x == f y) ≡ (x == y)) where
  -- the nodes with their numbers renamed
  abbrev all : List Entry → List Entry
  all es = map (renamed f) es

  -- climbing goes by the depths
  pub climb-renamed : (d : ℕ) (es : List Entry) → climb d (all es) ≡ all (climb d es)
  climb-renamed d [] = refl
  climb-renamed d (e ∷ es) =
      ap (λ ps. cond (e.depth + 1 == d) (renamed f e ∷ ps) (climb d (all es))) (climb-renamed e.depth es) ∙ ap (cond (e.depth + 1 == d) (renamed f e ∷ all (climb e.depth es))) (climb-renamed d es) ∙ sym (map-cond (renamed f) (e.depth + 1 == d) (e ∷ climb e.depth es) (climb d es))

  -- so the path is that of the node of the former number
  path_after-renamed : (earlier : List Entry) (x : ℕ) (es : List Entry) → path_after (all earlier) (f x) (all es) ≡ all (path_after earlier x es)
  path_after-renamed earlier x [] = refl
  path_after-renamed earlier x (e ∷ es) =
      ap (λ b. cond b (renamed f e ∷ climb e.depth (all earlier)) (path_after (all (e ∷ earlier)) (f x) (all es))) (same e.number x) ∙ ap (λ ps. cond (e.number == x) (renamed f e ∷ ps) (path_after (all (e ∷ earlier)) (f x) (all es))) (climb-renamed e.depth earlier)
      ∙ ap (cond (e.number == x) (renamed f e ∷ all (climb e.depth earlier))) (path_after-renamed (e ∷ earlier) x es) ∙ sym (map-cond (renamed f) (e.number == x) (e ∷ climb e.depth earlier) (path_after (e ∷ earlier) x es))

  pub path-renamed : (es : Dimension) (x : ℕ) → path (all es) (f x) ≡ all (path es x)
  unfolding path
  path-renamed es x = path_after-renamed [] x es

  pub parent-renamed : (es : Dimension) (x : ℕ) → parent (all es) (f x) ≡ option_map f (parent es x)
  unfolding parent
  parent-renamed es x =
      ap (λ ps. option_map (λ e. e.number) (slice_get ps 1)) (path-renamed es x) ∙ ap (option_map (λ e. e.number)) (slice_get-map (renamed f) (path es x) 1) ∙ option_map-map (λ e. e.number) (renamed f) (slice_get (path es x) 1)
      ∙ sym (option_map-map f (λ e. e.number) (slice_get (path es x) 1))

  pub is_under-renamed : (es : Dimension) (x y : ℕ) → is_under (all es) (f x) (f y) ≡ is_under es x y
  unfolding is_under
  is_under-renamed es x y = ap (list_any (λ e. e.number == f y)) (path-renamed es x) ∙ list_any-map (λ e. e.number == f y) (renamed f) (path es x) ∙ ap (λ p. list_any p (path es x)) (fun_ext (λ e. same e.number y))

  -- the test of a parent
  is_parent-renamed : (x : ℕ) (o : Option ℕ) → option_map_or (λ p. p == f x) (option_map f o) false ≡ option_map_or (λ p. p == x) o false
  is_parent-renamed x None = refl
  is_parent-renamed x (Some p) = same p x

  has_parent-renamed : (es : Dimension) (x y : ℕ) → option_map_or (λ p. p == f x) (parent (all es) (f y)) false ≡ option_map_or (λ p. p == x) (parent es y) false
  has_parent-renamed es x y = ap (λ o. option_map_or (λ p. p == f x) o false) (parent-renamed es y) ∙ is_parent-renamed x (parent es y)

  pub is_leaf-renamed : (es : Dimension) (x : ℕ) → is_leaf (all es) (f x) ≡ is_leaf es x
  unfolding is_leaf
  is_leaf-renamed es x =
      ap not (list_any-map (λ e. option_map_or (λ p. p == f x) (parent (all es) e.number) false) (renamed f) es ∙ ap (λ p. list_any p es) (fun_ext (λ e. has_parent-renamed es x e.number)))

  pub numbers-renamed : (es : Dimension) → numbers (all es) ≡ map f (numbers es)
  numbers-renamed es = map-map (λ (e : Entry). e.number) (renamed f) es ∙ sym (map-map f (λ (e : Entry). e.number) es)

  -- the numbers that pass a test are renamed
  filter-renamed : (p q : ℕ → Bool) (es : Dimension) → ((x : ℕ) → p (f x) ≡ q x) → filter p (numbers (all es)) ≡ map f (filter q (numbers es))
  filter-renamed p q es alike = ap (filter p) (numbers-renamed es) ∙ filter-map p f (numbers es) ∙ ap (λ t. map f (filter t (numbers es))) (fun_ext alike)

  pub leaves-renamed : (es : Dimension) → leaves (all es) ≡ map f (leaves es)
  unfolding leaves
  leaves-renamed es = filter-renamed (is_leaf (all es)) (is_leaf es) es (is_leaf-renamed es)

  pub leaf_places-renamed : (es : Dimension) (x : ℕ) → leaf_places (all es) (f x) ≡ leaf_places es x
  unfolding leaf_places
  leaf_places-renamed es x =
      ap (places_from (λ leaf. is_under (all es) leaf (f x)) 0) (leaves-renamed es) ∙ places_from-map (λ leaf. is_under (all es) leaf (f x)) f 0 (leaves es) ∙ ap (λ p. places_from p 0 (leaves es)) (fun_ext (λ leaf. is_under-renamed es leaf x))

  pub children-renamed : (es : Dimension) (x : ℕ) → children (all es) (f x) ≡ map f (children es x)
  unfolding children
  children-renamed es x = filter-renamed (λ y. option_map_or (λ p. p == f x) (parent (all es) y) false) (λ y. option_map_or (λ p. p == x) (parent es y) false) es (has_parent-renamed es x)

  pub first_child-renamed : (es : Dimension) (x : ℕ) → first_child (all es) (f x) ≡ option_map f (first_child es x)
  unfolding first_child
  first_child-renamed es x = ap (λ ns. slice_get ns 0) (children-renamed es x) ∙ slice_get-map f (children es x) 0

  -- what stands behind a number
  behind-renamed : (x : ℕ) (ns : List ℕ) → behind (f x) (map f ns) ≡ map f (behind x ns)
  behind-renamed x [] = refl
  behind-renamed x (n ∷ ns) = ap (λ b. cond b (map f ns) (behind (f x) (map f ns))) (same n x) ∙ ap (cond (n == x) (map f ns)) (behind-renamed x ns) ∙ sym (map-cond f (n == x) ns (behind x ns))

  -- and behind it among the children of its parent
  sibling-renamed : (es : Dimension) (x : ℕ) (o : Option ℕ) → option_and_then (λ p. slice_get (behind (f x) (children (all es) p)) 0) (option_map f o) ≡ option_map f (option_and_then (λ p. slice_get (behind x (children es p)) 0) o)
  sibling-renamed es x None = refl
  sibling-renamed es x (Some p) = ap (λ ns. slice_get (behind (f x) ns) 0) (children-renamed es p) ∙ ap (λ ns. slice_get ns 0) (behind-renamed x (children es p)) ∙ slice_get-map f (behind x (children es p)) 0

  pub next_sibling-renamed : (es : Dimension) (x : ℕ) → next_sibling (all es) (f x) ≡ option_map f (next_sibling es x)
  unfolding next_sibling
  next_sibling-renamed es x = ap (option_and_then (λ p. slice_get (behind (f x) (children (all es) p)) 0)) (parent-renamed es x) ∙ sibling-renamed es x (parent es x)

  pub in_cut-renamed : (es : Dimension) (depth : ℕ) (e : Entry) → in_cut (all es) depth (renamed f e) ≡ in_cut es depth e
  unfolding in_cut
  in_cut-renamed es depth e = ap (λ b. e.depth == depth || (nat_lt e.depth depth && b)) (is_leaf-renamed es e.number)

  pub cut-renamed : (es : Dimension) (depth : ℕ) → cut (all es) depth ≡ map f (cut es depth)
  unfolding cut
  cut-renamed es depth =
      ap (map (λ e. e.number)) (filter-map (in_cut (all es) depth) (renamed f) es ∙ ap (λ p. map (renamed f) (filter p es)) (fun_ext (in_cut-renamed es depth))) ∙ numbers-renamed (filter (in_cut es depth) es)

  pub entry_of-renamed : (es : Dimension) (x : ℕ) → entry_of (all es) (f x) ≡ option_map (renamed f) (entry_of es x)
  entry_of-renamed es x = find-map (λ e. e.number == f x) (renamed f) es ∙ ap (λ p. option_map (renamed f) (find p es)) (fun_ext (λ e. same e.number x))

  pub place_of-renamed : (es : Dimension) (x : ℕ) → place_of (all es) (f x) ≡ place_of es x
  place_of-renamed es x = position-map (λ e. e.number == f x) (renamed f) es ∙ ap (λ p. position p es) (fun_ext (λ e. same e.number x))

  pub node_named-renamed : (es : Dimension) (name : List ℕ) → node_named (all es) name ≡ option_map f (node_named es name)
  node_named-renamed es name =
      ap (option_map (λ e. e.number)) (find-map (λ e. bytes_eq e.name name) (renamed f) es) ∙ option_map-map (λ e. e.number) (renamed f) (find (λ e. bytes_eq e.name name) es) ∙ sym (option_map-map f (λ e. e.number) (find (λ e. bytes_eq e.name name) es))
