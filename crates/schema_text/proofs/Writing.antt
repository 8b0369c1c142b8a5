-- Writing the lines of a schema one after another.
use Rattle.std.proofs.Common.{◌≡◌, ℕ, zero, suc, ◌+◌, ◌<◌, Bool, true, false, List, [], ◌∷◌, ◌++◌, length, get_or, take, drop, refl, sym, ap, ◌∙◌, arith, eqb, eq-eqb, Option, Some, None, append_assoc, append-nil, add-one}
use Rattle.std.specs.Prelude.{◌&&◌, ◌==◌, codes, if◌then◌else◌, nat_lt, not, slice_get}
use Rattle.std.specs.Option.{option_map}
use Rattle.std.specs.List.{flat_map, list_all, list_any}
use Rattle.std.specs.Fmt.{decimal}
use Rattle.std.proofs.lemmas.Bool.{and_parts}
use Rattle.std.proofs.lemmas.Bool.Decides.{nat_tests}
use Rattle.std.proofs.lemmas.List.{take_more}
use Rattle.std.proofs.lemmas.List.Concat.{flat_map-append}
use Rattle.std.proofs.lemmas.Option.{get_or_from_slice_get, none-some, same_Some, slice_get_within}
use Rattle.text_lines.specs.Text.{line_text}
use Rattle.cube_model.specs.Tree.{Dimension, Entry, IsTree, are_distinct, entry_of, is_above_parent, is_numbered, numbers}
use Rattle.schema_text.specs.declared.word.Version.{Version}
use Rattle.schema_text.specs.SchemaText.{are_places_from, dims_text, node_line, number_fields}

-- a text more
pub appended : (old between new known text all : List ℕ) → between ≡ old ++ known → new ≡ between ++ text → all ≡ known ++ text → new ≡ old ++ all
appended old between new known text all before added joined =
    added ∙ ap (λ l. l ++ text) before ∙ append_assoc old known text ∙ ap (λ l. old ++ l) (sym joined)

-- the texts of the first elements, and of one more
pub texts-next : {X : Type 0} (text : X → List ℕ) (xs : List X) (i : ℕ) (x : X) → i < length xs → get_or xs i x ≡ x → flat_map text (take (i + 1) xs) ≡ flat_map text (take i xs) ++ text x
texts-next text xs i x within at =
    let next = take_more xs i x within ∙ ap (λ y. take i xs ++ y ∷ []) at in
    ap (flat_map text) next ∙ flat_map-append text (take i xs) (x ∷ []) ∙ ap (λ l. flat_map text (take i xs) ++ l) (append-nil (text x))

pub texts-more : {X : Type 0} (text : X → List ℕ) (xs : List X) (i : ℕ) (x : X) → slice_get xs i ≡ Some x → flat_map text (take (i + 1) xs) ≡ flat_map text (take i xs) ++ text x
texts-more text xs i x at = texts-next text xs i x (slice_get_within xs i x at) (get_or_from_slice_get xs i x x at)

-- the line of a node, piece by piece
node_pieces : (old word depth name number : List ℕ) → (((old ++ word) ++ 9 ∷ depth) ++ 9 ∷ name) ++ number ++ 10 ∷ [] ≡ old ++ (word ++ ((9 ∷ depth) ++ ((9 ∷ name) ++ number)) ++ 10 ∷ [])
node_pieces old word depth name number = simp append_assoc

-- the node of a number has that number
number-either : (same : Bool) (first e : Entry) (number : ℕ) (rest : Option Entry) → eqb first.number number ≡ same → (if same then Some first else rest) ≡ Some e → (rest ≡ Some e → e.number ≡ number) → e.number ≡ number
number-either true first e number rest is found later =
    let here : first ≡ e = same_Some first e found in
    let at : first.number ≡ number = grind (arith, nat_tests) in
    ap (λ (x : Entry). x.number) (sym here) ∙ at
number-either false first e number rest is found later = later found

entry_of-number : (dim : Dimension) (number : ℕ) (e : Entry) → entry_of dim number ≡ Some e → e.number ≡ number
entry_of-number [] number e found = absurd (none-some e found)
entry_of-number (first ∷ dim) number e found = number-either (eqb first.number number) first e number (entry_of dim number) refl found (λ later. entry_of-number dim number e later)

-- what is appended for the node of a number is its line
pub node-appended : (version : Version) (old : List ℕ) (dim : Dimension) (number depth : ℕ) (name : List ℕ) → option_map (λ e. e.depth) (entry_of dim number) ≡ Some depth → option_map (λ e. e.name) (entry_of dim number) ≡ Some name
    → option_map (λ e. old ++ node_line version e) (entry_of dim number) ≡ Some ((((old ++ codes "node") ++ 9 ∷ decimal depth) ++ 9 ∷ name) ++ flat_map (λ field. 9 ∷ field) (number_fields version number) ++ 10 ∷ [])
node-appended version old dim number depth name depth_is name_is = read (entry_of dim number) refl depth_is name_is
  where
    read : (found : Option Entry) → entry_of dim number ≡ found → option_map (λ e. e.depth) found ≡ Some depth → option_map (λ e. e.name) found ≡ Some name
        → option_map (λ e. old ++ node_line version e) found ≡ Some ((((old ++ codes "node") ++ 9 ∷ decimal depth) ++ 9 ∷ name) ++ flat_map (λ field. 9 ∷ field) (number_fields version number) ++ 10 ∷ [])
    read None is depth_is name_is = absurd (none-some depth depth_is)
    read (Some e) is depth_is name_is =
        let at = entry_of-number dim number e is in
        let deep = same_Some e.depth depth depth_is in
        let named = same_Some e.name name name_is in
        ap (λ l. Some l)
        (rw (deep, named, at) (sym (node_pieces old (codes "node") (decimal depth) name (flat_map (λ field. 9 ∷ field) (number_fields version number)))))

-- the node at a place is the one of its number
not-earlier : (dim : Dimension) (place : ℕ) (e : Entry) (n : ℕ) → slice_get dim place ≡ Some e → list_any (λ m. m == n) (numbers dim) ≡ false → eqb n e.number ≡ false
not-earlier [] place e n at none = absurd (none-some e at)
not-earlier (first ∷ dim) zero e n at none =
    let here : first.number ≡ e.number = ap (λ (x : Entry). x.number) (same_Some first e at) in
    grind (arith, nat_tests)
not-earlier (first ∷ dim) (suc place) e n at none = not-earlier dim place e n at (grind (arith, nat_tests))

not-true : (b : Bool) → not b ≡ true → b ≡ false
not-true true e = cc
not-true false e = refl

entry-at : (dim : Dimension) (place : ℕ) (e : Entry) → slice_get dim place ≡ Some e → are_distinct (numbers dim) ≡ true → entry_of dim e.number ≡ Some e
entry-at [] place e at distinct = absurd (none-some e at)
entry-at (first ∷ dim) zero e at distinct =
    let here : first ≡ e = same_Some first e at in
    let same : eqb first.number e.number ≡ true = rw here (eq-eqb e.number e.number refl) in
    rw same (ap (λ x. Some x) here)
entry-at (first ∷ dim) (suc place) e at distinct =
    let parts = and_parts (not (list_any (λ m. m == first.number) (numbers dim))) (are_distinct (numbers dim)) distinct in
    let other = not-earlier dim place e first.number at (not-true _ parts.0) in
    rw other (entry-at dim place e at parts.1)

pub entry_of-at : (dim : Dimension) (place : ℕ) (e : Entry) → IsTree dim → slice_get dim place ≡ Some e → entry_of dim e.number ≡ Some e
unfolding is_numbered
entry_of-at dim place e tree at =
    let parts = and_parts (are_distinct (numbers dim) && list_all (λ n. nat_lt n (length dim)) (numbers dim)) (list_all (is_above_parent dim) dim) tree.numbered in
    entry-at dim place e at (and_parts (are_distinct (numbers dim)) (list_all (λ n. nat_lt n (length dim)) (numbers dim)) parts.0).0

-- the lines of the first nodes, and of one more
pub nodes-more : (version : Version) (dim : Dimension) (place node : ℕ) (old new : List ℕ) → IsTree dim → option_map (λ e. e.number) (slice_get dim place) ≡ Some node
    → option_map (λ e. old ++ node_line version e) (entry_of dim node) ≡ Some new
    → (line : List ℕ) × (new ≡ old ++ line) × (flat_map (node_line version) (take (place + 1) dim) ≡ flat_map (node_line version) (take place dim) ++ line)
nodes-more version dim place node old new tree at appended_is = read (slice_get dim place) refl at
  where
    read : (found : Option Entry) → slice_get dim place ≡ found → option_map (λ e. e.number) found ≡ Some node
        → (line : List ℕ) × (new ≡ old ++ line) × (flat_map (node_line version) (take (place + 1) dim) ≡ flat_map (node_line version) (take place dim) ++ line)
    read None is at = absurd (none-some node at)
    read (Some e) is at =
        let number : e.number ≡ node = same_Some e.number node at in
        let entry : entry_of dim node ≡ Some e = ap (entry_of dim) (sym number) ∙ entry_of-at dim place e tree is in
        let line_is : Some (old ++ node_line version e) ≡ Some new = rw entry at appended_is in
        (node_line version e, sym (same_Some (old ++ node_line version e) new line_is), texts-more (node_line version) dim place e is)

-- the first nodes have their places where the others have, from there on
pub are_places_from-more : (dim : Dimension) (place : ℕ) (node : ℕ) → option_map (λ e. e.number) (slice_get dim place) ≡ Some node → are_places_from place (drop place dim) ≡ (node == place && are_places_from (place + 1) (drop (place + 1) dim))
are_places_from-more dim place node at = more dim place place (place + 1) (add-one place) at
  where
    more : (dim : Dimension) (place from next : ℕ) → next ≡ suc place → option_map (λ e. e.number) (slice_get dim place) ≡ Some node → are_places_from from (drop place dim) ≡ (node == from && are_places_from (from + 1) (drop next dim))
    more [] place from next is at = absurd (none-some node at)
    more (first ∷ dim) zero from next is at = rw (is, same_Some first.number node at) refl
    more (first ∷ dim) (suc place) from next is at = rw is (more dim place from (suc place) refl at)

-- a test of all from a place on
pub list_all-more : {X : Type 0} (p : X → Bool) (xs : List X) (i : ℕ) (x : X) → slice_get xs i ≡ Some x → list_all p (drop i xs) ≡ (p x && list_all p (drop (i + 1) xs))
list_all-more p xs i x at = rw add-one (more p xs i x at)
  where
    more : {X : Type 0} (p : X → Bool) (xs : List X) (i : ℕ) (x : X) → slice_get xs i ≡ Some x → list_all p (drop i xs) ≡ (p x && list_all p (drop (suc i) xs))
    more p [] i x at = absurd (none-some x at)
    more p (first ∷ xs) zero x at = ap (λ y. p y && list_all p xs) (same_Some first x at)
    more p (first ∷ xs) (suc i) x at = more p xs i x at

-- the lines of the first dimensions, and of one more
pub dims_text-more : (version : Version) (names : List (List ℕ)) (dims : List Dimension) (d : ℕ) (name : List ℕ) (dim : Dimension) → slice_get names d ≡ Some name → slice_get dims d ≡ Some dim
    → dims_text version (take (d + 1) names) (take (d + 1) dims) ≡ dims_text version (take d names) (take d dims) ++ (line_text (codes "dimension") (name ∷ []) ++ flat_map (node_line version) dim)
dims_text-more version names dims d name dim name_at dim_at = rw add-one (more names dims d name_at dim_at)
  where
    more : (names : List (List ℕ)) (dims : List Dimension) (d : ℕ) → slice_get names d ≡ Some name → slice_get dims d ≡ Some dim
        → dims_text version (take (suc d) names) (take (suc d) dims) ≡ dims_text version (take d names) (take d dims) ++ (line_text (codes "dimension") (name ∷ []) ++ flat_map (node_line version) dim)
    more [] dims d name_at dim_at = absurd (none-some name name_at)
    more (first ∷ names) [] d name_at dim_at = absurd (none-some dim dim_at)
    more (first ∷ names) (front ∷ dims) zero name_at dim_at =
        append-nil (line_text (codes "dimension") (first ∷ []) ++ flat_map (node_line version) front)
        ∙ ap (λ n. line_text (codes "dimension") (n ∷ []) ++ flat_map (node_line version) front) (same_Some first name name_at)
        ∙ ap (λ e. line_text (codes "dimension") (name ∷ []) ++ flat_map (node_line version) e) (same_Some front dim dim_at)
    more (first ∷ names) (front ∷ dims) (suc d) name_at dim_at =
        ap (λ l. line_text (codes "dimension") (first ∷ []) ++ flat_map (node_line version) front ++ l) (more names dims d name_at dim_at)
        ∙ sym (append_assoc (line_text (codes "dimension") (first ∷ []) ++ flat_map (node_line version) front) (dims_text version (take d names) (take d dims)) (line_text (codes "dimension") (name ∷ []) ++ flat_map (node_line version) dim))
