-- Nodes stay accepted, and their numbers above those of their parents, where a node is put in behind those under another.
use Rattle.std.proofs.Common.{◌≡◌, ℕ, ◌+◌, ◌<◌, ◌≤◌, Bool, true, false, List, [], ◌∷◌, length, insert, get_or, Option, None, slice_get, not, ◌&&◌, ◌||◌, ◌==◌, nat_lt, zero, suc, refl, ap, ◌∙◌, arith}
use Rattle.std.specs.List.{find, list_all, list_any}
use Rattle.std.specs.Option.{option_map_or}
use Rattle.std.specs.Str.{bytes_eq}
use Rattle.std.proofs.lemmas.Bool.Decides.{nat_tests}
use Rattle.cube_model.specs.Limits.{MAX_DEPTH}
use Rattle.cube_model.specs.Tree.{Entry, climb, first_fault, line_fault, node_lines}
use Rattle.dim_tree.specs.Outline.{line_of_node}
use Rattle.dim_tree.specs.Places.{count_deeper, ends_from}
use Rattle.dim_tree.proofs.Climbing.{both, depths_of, together}
use Rattle.dim_tree.proofs.Judging.{bytes_eq_comm}
use Rattle.dim_tree.proofs.Nodes.{ends_from-above}
use Rattle.dim_tree.proofs.Rising.{first_fault-parts}

-- the first of these, the nearest first, that a node of this depth may be a child of
abbrev pub nearest : ℕ → List Entry → Option Entry
nearest depth earlier = find (λ p. p.depth + 1 == depth) earlier

-- it is the first that climbing meets
pub climb-nearest_first : (d : ℕ) (es : List Entry) → slice_get (climb d es) 0 ≡ nearest d es
climb-nearest_first d [] = refl
climb-nearest_first d (e ∷ es) = grind (arith, nat_tests, climb-nearest_first d es)

-- whether the number of a node is above that of its parent, if there is one
abbrev pub is_above_nearest : List Entry → Entry → Bool
is_above_nearest earlier e = option_map_or (λ p. nat_lt p.number e.number) (nearest e.depth earlier) true

-- whether those of all are, where `earlier` stand before them, the nearest first
abbrev pub above_from : List Entry → List Entry → Bool
above_from earlier [] = true
above_from earlier (e ∷ rest) = is_above_nearest earlier e && above_from (e ∷ earlier) rest

-- whether some node has a name
abbrev pub has_name : List ℕ → List Entry → Bool
has_name name es = list_any (λ e. bytes_eq e.name name) (node_lines es)

-- The nodes are accepted behind the earlier ones, and numbered above their parents.
pub record AreSound (earlier : List Entry) (k : ℕ) (nodes : List Entry) : Type 0 where
  pub judged : first_fault (node_lines earlier) k (node_lines nodes) ≡ None
  pub above : above_from earlier nodes ≡ true

-- A node may stand just behind b, which has others before it.
record StandsBehind (b : Entry) (earlier : List Entry) (n : Entry) : Type 0 where
  deep : 1 ≤ n.depth
  shallow : n.depth ≤ MAX_DEPTH
  near : n.depth ≤ b.depth + 1
  new : has_name n.name (b ∷ earlier) ≡ false
  above : is_above_nearest (b ∷ earlier) n ≡ true

-- the first of sound nodes stands behind the earlier ones
stands_first : (b : Entry) (earlier : List Entry) (k : ℕ) (n : Entry) (ns : List Entry) → AreSound (b ∷ earlier) k (n ∷ ns) → StandsBehind b earlier n
stands_first b earlier k n ns sound =
    let fault : line_fault (node_lines (b ∷ earlier)) k (line_of_node n) ≡ None = (first_fault-parts (node_lines (b ∷ earlier)) k (line_of_node n) (node_lines ns) sound.judged).0 in
    record {
      deep = grind (arith, nat_tests, fault);
      shallow = grind (arith, nat_tests, fault);
      near = grind (arith, nat_tests, fault);
      new = grind (arith, nat_tests, fault);
      above = (both (is_above_nearest (b ∷ earlier) n) (above_from (n ∷ b ∷ earlier) ns) sound.above).0;
    }

-- and the others are sound behind it
sound_rest : (earlier : List Entry) (k : ℕ) (n : Entry) (ns : List Entry) → AreSound earlier k (n ∷ ns) → AreSound (n ∷ earlier) (k + 1) ns
sound_rest earlier k n ns sound = record {
  judged = (first_fault-parts (node_lines earlier) k (line_of_node n) (node_lines ns) sound.judged).1;
  above = (both (is_above_nearest earlier n) (above_from (n ∷ earlier) ns) sound.above).1;
}

-- other nodes may take their place
sound_other : (earlier : List Entry) (k : ℕ) (n : Entry) (ns ms : List Entry) → AreSound earlier k (n ∷ ns) → AreSound (n ∷ earlier) (k + 1) ms → AreSound earlier k (n ∷ ms)
sound_other earlier k n ns ms sound more =
    let fault : line_fault (node_lines earlier) k (line_of_node n) ≡ None = (first_fault-parts (node_lines earlier) k (line_of_node n) (node_lines ns) sound.judged).0 in
    record {
      judged = grind (arith, fault, more.judged);
      above = together (both (is_above_nearest earlier n) (above_from (n ∷ earlier) ns) sound.above).0 more.above;
    }

-- a node that stands behind others, with those that are sound behind it
sound_more : (b : Entry) (earlier : List Entry) (k : ℕ) (n : Entry) (ns : List Entry) → StandsBehind b earlier n → AreSound (n ∷ b ∷ earlier) (k + 1) ns → AreSound (b ∷ earlier) k (n ∷ ns)
sound_more b earlier k n ns stand more =
    let fault : line_fault (node_lines (b ∷ earlier)) k (line_of_node n) ≡ None = grind (arith, nat_tests, stand.deep, stand.shallow, stand.near, stand.new) in
    record {
      judged = grind (arith, fault, more.judged);
      above = together stand.above more.above;
    }

-- whether a node has another name and a smaller number
abbrev pub is_apart : Entry → Entry → Bool
is_apart x e = not (bytes_eq e.name x.name) && nat_lt e.number x.number

-- none of such nodes has the name
apart-name : (x : Entry) (es : List Entry) → list_all (is_apart x) es ≡ true → has_name x.name es ≡ false
apart-name x [] apart = refl
apart-name x (e ∷ es) apart = grind (arith, apart-name x es)

-- and the nearest has a smaller number
apart-nearest : (x : Entry) (d : ℕ) (es : List Entry) → list_all (is_apart x) es ≡ true → option_map_or (λ p. nat_lt p.number x.number) (nearest d es) true ≡ true
apart-nearest x d [] apart = refl
apart-nearest x d (e ∷ es) apart = grind (arith, nat_tests, apart-nearest x d es)

-- where the nearest nodes agree behind others, they do with one more between
nearest_more : (d m : ℕ) (n : Entry) (es fs : List Entry) → n.depth ≤ m → ((c : ℕ) → c ≤ m → nearest c es ≡ nearest c fs) → d ≤ n.depth + 1 → nearest d (n ∷ es) ≡ nearest d (n ∷ fs)
nearest_more d m n es fs near same within = grind (arith, nat_tests, λ (h : d ≤ m). same d h)

-- what comes behind the node that was put in is sound as without it
later : (x l : Entry) (es fs : List Entry) (k j : ℕ) (ns : List Entry) → ((name : List ℕ) → has_name name fs ≡ (bytes_eq x.name name || has_name name es)) → ((d : ℕ) → d ≤ l.depth + 1 → nearest d (l ∷ fs) ≡ nearest d (l ∷ es))
    → list_all (is_apart x) ns ≡ true → AreSound (l ∷ es) k ns → AreSound (l ∷ fs) j ns
later x l es fs k j [] named same apart sound = record { judged = refl; above = refl }
later x l es fs k j (n ∷ ns) named same apart sound =
    let stand = stands_first l es k n ns sound in
    let parts = both (is_apart x n) (list_all (is_apart x) ns) apart in
    let here : StandsBehind l fs n = record {
      deep = stand.deep;
      shallow = stand.shallow;
      near = stand.near;
      new = grind (arith, named n.name, bytes_eq_comm x.name n.name, parts.0, stand.new);
      above = ap (λ o. option_map_or (λ p. nat_lt p.number n.number) o true) (same n.depth stand.near) ∙ stand.above;
    } in
    let named_more : (name : List ℕ) → has_name name (l ∷ fs) ≡ (bytes_eq x.name name || has_name name (l ∷ es)) = λ name. grind (arith, named name) in
    sound_more l fs j n ns here (later x n (l ∷ es) (l ∷ fs) (k + 1) (j + 1) ns named_more (λ d within. nearest_more d (l.depth + 1) n (l ∷ fs) (l ∷ es) stand.near same within) parts.1 (sound_rest (l ∷ es) k n ns sound))

module _ (x : Entry) (f : ℕ) (under : x.depth ≡ f + 1) (shallow : f < MAX_DEPTH) where
  -- the node stands behind one that lies no higher than its parent
  stands_new : (b : Entry) (es : List Entry) → f ≤ b.depth → list_all (is_apart x) (b ∷ es) ≡ true → StandsBehind b es x
  stands_new b es low apart = record {
    deep = omega arith;
    shallow = omega arith;
    near = omega arith;
    new = apart-name x (b ∷ es) apart;
    above = apart-nearest x x.depth (b ∷ es) apart;
  }

  -- and one that lies no deeper than its parent stands behind it
  stands_next : (b : Entry) (es : List Entry) (n : Entry) → n.depth ≤ f → is_apart x n ≡ true → StandsBehind b es n → StandsBehind x (b ∷ es) n
  stands_next b es n high apart stand = record {
    deep = stand.deep;
    shallow = stand.shallow;
    near = omega arith;
    new = grind (arith, bytes_eq_comm x.name n.name, apart, stand.new);
    above = grind (arith, nat_tests, stand.above);
  }

  -- put in behind those that lie deeper than its parent
  put_behind : (b : Entry) (es : List Entry) (k m : ℕ) (ns : List Entry) → f ≤ b.depth → m ≡ count_deeper f (depths_of (node_lines ns)) → list_all (is_apart x) (b ∷ es) ≡ true → list_all (is_apart x) ns ≡ true
      → AreSound (b ∷ es) k ns → AreSound (b ∷ es) k (insert ns m x)
  put_behind b es k zero [] low at before apart sound = sound_more b es k x [] (stands_new b es low before) (record { judged = refl; above = refl })
  put_behind b es k (suc m) [] low at before apart sound = absurd (omega arith)
  put_behind b es k zero (n ∷ ns) low at before apart sound =
      let high : n.depth ≤ f = grind (arith, nat_tests) in
      let parts = both (is_apart x n) (list_all (is_apart x) ns) apart in
      let next : StandsBehind x (b ∷ es) n = stands_next b es n high parts.0 (stands_first b es k n ns sound) in
      let same : (d : ℕ) → d ≤ n.depth + 1 → nearest d (n ∷ x ∷ b ∷ es) ≡ nearest d (n ∷ b ∷ es) = λ d within. grind (arith, nat_tests) in
      sound_more b es k x (n ∷ ns) (stands_new b es low before) (sound_more x (b ∷ es) (k + 1) n ns next (later x n (b ∷ es) (x ∷ b ∷ es) (k + 1) (k + 1 + 1) ns (λ name. refl) same parts.1 (sound_rest (b ∷ es) k n ns sound)))
  put_behind b es k (suc m) (n ∷ ns) low at before apart sound =
      let deep : (f < n.depth) × (m ≡ count_deeper f (depths_of (node_lines ns))) = grind (arith, nat_tests) in
      let parts = both (is_apart x n) (list_all (is_apart x) ns) apart in
      sound_other (b ∷ es) k n ns (insert ns m x) sound (put_behind n (b ∷ es) (k + 1) m ns (omega (arith, deep.0)) deep.1 (together parts.0 before) parts.1 (sound_rest (b ∷ es) k n ns sound))

  -- put in behind the nodes under the one at a place, which is its parent
  pub put_in : (es : List Entry) (k j i m : ℕ) (ns : List Entry) → i < length (depths_of (node_lines ns)) → get_or (depths_of (node_lines ns)) i 0 ≡ f → get_or (ends_from j (depths_of (node_lines ns))) i 0 ≡ j + m
      → list_all (is_apart x) es ≡ true → list_all (is_apart x) ns ≡ true → AreSound es k ns → AreSound es k (insert ns m x)
  put_in es k j i m [] within parent ends before apart sound = absurd (omega arith)
  put_in es k j i zero (n ∷ ns) within parent ends before apart sound = absurd (omega (arith, ends, ends_from-above j (depths_of (node_lines (n ∷ ns))) i within))
  put_in es k j zero (suc m) (n ∷ ns) within parent ends before apart sound =
      let parts = both (is_apart x n) (list_all (is_apart x) ns) apart in
      let at : m ≡ count_deeper f (depths_of (node_lines ns)) = omega (arith, ends, ap (λ d. count_deeper d (depths_of (node_lines ns))) parent) in
      sound_other es k n ns (insert ns m x) sound (put_behind n es (k + 1) m ns (omega (arith, parent)) at (together parts.0 before) parts.1 (sound_rest es k n ns sound))
  put_in es k j (suc i) (suc m) (n ∷ ns) within parent ends before apart sound =
      let parts = both (is_apart x n) (list_all (is_apart x) ns) apart in
      sound_other es k n ns (insert ns m x) sound (put_in (n ∷ es) (k + 1) (j + 1) i m ns (omega arith) parent (omega arith) (together parts.0 before) parts.1 (sound_rest es k n ns sound))
