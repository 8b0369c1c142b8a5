-- What has been kept of the first nodes, or of the last, on the way to what is kept of all.
use Rattle.std.proofs.Common.{◌≡◌, ℕ, ◌+◌, ◌-◌, ◌<◌, ◌≤◌, List, [], ◌∷◌, ◌++◌, length, get_or, set, take, drop, reverse, nat_lt, nat_le, if◌then◌else◌, true, false, zero, suc, refl, sym, ap, ◌∙◌, append_assoc, append-nil, arith}
use Rattle.std.specs.List.{list_all}
use Rattle.std.proofs.lemmas.Bool.Decides.{nat_tests}
use Rattle.std.proofs.lemmas.List.{take_more, drop_more, drop_all, reverse-append, length-reverse, length-take, drop-set, length_push}
use Rattle.std.proofs.lemmas.Grind.{common_steps}
use Rattle.cube_model.specs.Limits.{MAX_DEPTH}
use Rattle.dim_tree.specs.Places.{is_childless, count_deeper, ends_from, nearest_parent, parents_from, leaves_from, leaf_counts_from}

-- a depth on the way is one of the depths
pub shallow_at : (depths : List ℕ) (i : ℕ) → list_all (λ depth. nat_le depth MAX_DEPTH) depths ≡ true → i < length depths → get_or depths i 0 ≤ MAX_DEPTH
shallow_at [] i all within = omega arith
shallow_at (d ∷ depths) zero all within = grind (arith, nat_tests)
shallow_at (d ∷ depths) (suc i) all within = grind (arith, nat_tests, shallow_at depths i)

-- no node is the parent of one of depth 0
no_parent : (ds : List ℕ) → nearest_parent 0 ds ≡ 0
no_parent [] = refl
no_parent (d ∷ ds) = grind (arith, nat_tests, no_parent ds)

-- The first k parents, and at each depth d the last of the first k nodes: the nearest parent for a node one deeper.
pub record HasParents (depths : List ℕ) (k : ℕ) (last parents : List ℕ) : Type 0 where
  pub room : length last ≡ MAX_DEPTH + 1
  pub left : parents ++ parents_from (reverse (take k depths)) (drop k depths) ≡ parents_from [] depths
  pub nearest : (d : ℕ) → d ≤ MAX_DEPTH → get_or last d 0 ≡ nearest_parent (d + 1) (reverse (take k depths))

-- the parent that is looked up
pub parent_found : (depths : List ℕ) (k : ℕ) (last parents : List ℕ) (depth parent : ℕ) → HasParents depths k last parents → depth ≤ MAX_DEPTH → (depth ≡ 0 → parent ≡ 0) → (1 ≤ depth → parent ≡ get_or last (depth - 1) 0) → parent ≡ nearest_parent depth (reverse (take k depths))
parent_found depths k last parents zero parent has shallow root other = root refl ∙ sym (no_parent (reverse (take k depths)))
parent_found depths k last parents (suc d) parent has shallow root other = grind (arith, other (omega arith), has.nearest d (omega arith))

-- with the parent of one more node
pub HasParents_more : (depths : List ℕ) (k : ℕ) (last parents : List ℕ) (depth parent : ℕ) → HasParents depths k last parents → k < length depths → depth ≡ get_or depths k 0 → depth ≤ MAX_DEPTH → parent ≡ nearest_parent depth (reverse (take k depths))
    → HasParents depths (k + 1) (set last depth k) (parents ++ parent ∷ [])
HasParents_more depths k last parents depth parent has within at shallow found =
    let turned : reverse (take (k + 1) depths) ≡ depth ∷ reverse (take k depths) = ap reverse (take_more depths k 0 within ∙ ap (λ d. take k depths ++ d ∷ []) (sym at)) ∙ reverse-append (take k depths) (depth ∷ []) in
    let dropped : drop k depths ≡ depth ∷ drop (k + 1) depths = drop_more depths k 0 within ∙ ap (λ d. d ∷ drop (k + 1) depths) (sym at) in
    let long : length (reverse (take k depths)) ≡ k = grind (arith, length-reverse (take k depths), length-take k depths) in
    record {
      room = grind (arith, common_steps, has.room);
      left = grind (arith, turned, dropped, found, has.left, append_assoc parents (parent ∷ []) (parents_from (depth ∷ reverse (take k depths)) (drop (k + 1) depths)));
      nearest = λ d lt. grind (arith, nat_tests, common_steps, turned, long, has.room, has.nearest d lt);
    }

-- The ends from place k on, and for each depth d the next node from k on that lies no deeper.
pub record HasEnds (depths : List ℕ) (k : ℕ) (next ends : List ℕ) : Type 0 where
  pub done : drop k ends ≡ ends_from k (drop k depths)
  pub room : length ends ≡ length depths
  pub shallower : (d : ℕ) → d ≤ MAX_DEPTH → get_or next d 0 ≡ k + count_deeper d (drop k depths)

-- one place earlier, where for each depth from this one on the node itself is the next
pub HasEnds_more : (depths : List ℕ) (k after : ℕ) (next new ends : List ℕ) (depth : ℕ) → after ≡ k + 1 → HasEnds depths after next ends → k < length depths → depth ≡ get_or depths k 0 → depth ≤ MAX_DEPTH → ((d : ℕ) → d ≤ MAX_DEPTH → get_or new d 0 ≡ (if nat_lt d depth then get_or next d 0 else k))
    → HasEnds depths k new (set ends k (get_or next depth 0))
HasEnds_more depths k after next new ends depth follows has within at shallow written =
    let dropped : drop k depths ≡ depth ∷ drop after depths = drop_more depths k 0 within ∙ ap (λ d. d ∷ drop (k + 1) depths) (sym at) ∙ ap (λ n. depth ∷ drop n depths) (sym follows) in
    let placed : drop k (set ends k (get_or next depth 0)) ≡ get_or next depth 0 ∷ drop after ends = drop-set ends k (get_or next depth 0) (omega (arith, has.room)) ∙ ap (λ n. get_or next depth 0 ∷ drop n ends) (sym follows) in
    record {
      done = grind (arith, dropped, placed, has.done, has.shallower depth (omega arith), follows);
      room = grind (arith, common_steps, has.room);
      shallower = λ d lt. grind (arith, nat_tests, dropped, written d lt, has.shallower d lt);
    }

-- The counts and the leaves of the first k nodes.
pub record HasLeaves (depths : List ℕ) (k : ℕ) (counts leaves : List ℕ) : Type 0 where
  pub counts_left : counts ++ leaf_counts_from (length leaves) (drop k depths) ≡ leaf_counts_from 0 depths
  pub leaves_left : leaves ++ leaves_from k (drop k depths) ≡ leaves_from 0 depths
  pub few : length leaves ≤ k

module _ (depths : List ℕ) (k : ℕ) (counts leaves : List ℕ) (has : HasLeaves depths k counts leaves) (within : k < length depths) where
  -- the depth at place k comes first of what is left
  dropped : drop k depths ≡ get_or depths k 0 ∷ drop (k + 1) depths
  dropped = drop_more depths k 0 within

  -- with one more node, which is a leaf
  pub HasLeaves_leaf : is_childless (get_or depths k 0) (drop (k + 1) depths) ≡ true → HasLeaves depths (k + 1) (counts ++ length leaves ∷ []) (leaves ++ k ∷ [])
  HasLeaves_leaf leaf =
      let rest = drop (k + 1) depths in
      let counted : leaf_counts_from (length leaves) (get_or depths k 0 ∷ rest) ≡ length leaves ∷ leaf_counts_from (length leaves + 1) rest = ap (λ b. length leaves ∷ leaf_counts_from (if b then length leaves + 1 else length leaves) rest) leaf in
      let kept : leaves_from k (get_or depths k 0 ∷ rest) ≡ k ∷ leaves_from (k + 1) rest = ap (λ b. if b then k ∷ leaves_from (k + 1) rest else leaves_from (k + 1) rest) leaf in
      record {
        counts_left = ap (λ n. counts ++ length leaves ∷ [] ++ leaf_counts_from n rest) (length_push leaves k) ∙ append_assoc counts (length leaves ∷ []) (leaf_counts_from (length leaves + 1) rest) ∙ ap (λ l. counts ++ l) (sym counted) ∙ ap (λ l. counts ++ leaf_counts_from (length leaves) l) (sym dropped) ∙ has.counts_left;
        leaves_left = append_assoc leaves (k ∷ []) (leaves_from (k + 1) rest) ∙ ap (λ l. leaves ++ l) (sym kept) ∙ ap (λ l. leaves ++ leaves_from k l) (sym dropped) ∙ has.leaves_left;
        few = omega (arith, has.few, length_push leaves k);
      }

  -- with one more node, which is none
  pub HasLeaves_other : is_childless (get_or depths k 0) (drop (k + 1) depths) ≡ false → HasLeaves depths (k + 1) (counts ++ length leaves ∷ []) leaves
  HasLeaves_other leaf =
      let rest = drop (k + 1) depths in
      let counted : leaf_counts_from (length leaves) (get_or depths k 0 ∷ rest) ≡ length leaves ∷ leaf_counts_from (length leaves) rest = ap (λ b. length leaves ∷ leaf_counts_from (if b then length leaves + 1 else length leaves) rest) leaf in
      let kept : leaves_from k (get_or depths k 0 ∷ rest) ≡ leaves_from (k + 1) rest = ap (λ b. if b then k ∷ leaves_from (k + 1) rest else leaves_from (k + 1) rest) leaf in
      record {
        counts_left = append_assoc counts (length leaves ∷ []) (leaf_counts_from (length leaves) rest) ∙ ap (λ l. counts ++ l) (sym counted) ∙ ap (λ l. counts ++ leaf_counts_from (length leaves) l) (sym dropped) ∙ has.counts_left;
        leaves_left = ap (λ l. leaves ++ l) (sym kept) ∙ ap (λ l. leaves ++ leaves_from k l) (sym dropped) ∙ has.leaves_left;
        few = omega (arith, has.few);
      }

-- with all nodes, the last count is that of all leaves
pub HasLeaves_all : (depths : List ℕ) (k : ℕ) (counts leaves : List ℕ) → HasLeaves depths k counts leaves → length depths ≤ k → (counts ++ length leaves ∷ [] ≡ leaf_counts_from 0 depths) × (leaves ≡ leaves_from 0 depths)
HasLeaves_all depths k counts leaves has all =
    let none : drop k depths ≡ [] = drop_all k depths all in
    (ap (λ l. counts ++ leaf_counts_from (length leaves) l) (sym none) ∙ has.counts_left, sym (append-nil leaves) ∙ ap (λ l. leaves ++ leaves_from k l) (sym none) ∙ has.leaves_left)

-- there is one for each node
pub length-ends_from : (k : ℕ) (depths : List ℕ) → length (ends_from k depths) ≡ length depths
length-ends_from k [] = refl
length-ends_from k (d ∷ depths) = ap suc (length-ends_from (k + 1) depths)
