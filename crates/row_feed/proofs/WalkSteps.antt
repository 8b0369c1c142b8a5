-- The steps of a walk through the lines behind that of a batch.
use Rattle.std.proofs.Common.{◌≡◌, ℕ, suc, ◌+◌, ◌-◌, ◌≤◌, Bool, true, false, List, [], ◌∷◌, ◌++◌, length, take, drop, get_or, sym, ap, ◌∙◌, arith, append_assoc}
use Rattle.std.specs.Prelude.{codes}
use Rattle.std.specs.List.{flat_map}
use Rattle.std.proofs.lemmas.List.{drop-drop, drop_at, length-map, take-append-drop, take_all}
use Rattle.cube_model.specs.Tree.{Dimension}
use Rattle.fact_keeper.specs.declared.content.KeptRows.{KeptRows}
use Rattle.row_feed.specs.BatchLines.{GoesOnWith, IsBatchWalk, lines_left}
use Rattle.row_feed.specs.FeedText.{feed_bytes, row_line, rows_lines}

-- the lines behind an entry's
behind : List Dimension → List KeptRows → List (List ℕ)
behind dims entries = flat_map (rows_lines dims) entries ++ codes "done" ∷ []

whole-is : (dims : List Dimension) (kept : KeptRows) (entries : List KeptRows) → flat_map (rows_lines dims) (kept ∷ entries) ++ codes "done" ∷ [] ≡ rows_lines dims kept ++ behind dims entries
unfolding behind
whole-is dims kept entries = append_assoc (rows_lines dims kept) (flat_map (rows_lines dims) entries) (codes "done" ∷ [])

length-rows_lines : (dims : List Dimension) (kept : KeptRows) → length (rows_lines dims kept) ≡ suc (length kept.rows)
length-rows_lines dims kept = ap suc (length-map kept.rows (row_line dims))

-- where the walk stands behind the first line
left-more : (dims : List Dimension) (entries : List KeptRows) (place : ℕ) → lines_left dims entries (place + 1) false ≡ drop 1 (lines_left dims entries place false)
left-more dims entries place = sym (drop-drop 1 place (flat_map (rows_lines dims) entries ++ codes "done" ∷ []))

left-through : (dims : List Dimension) (kept : KeptRows) (entries : List KeptRows) (place : ℕ) → place ≡ length kept.rows → lines_left dims entries 0 false ≡ drop 1 (lines_left dims (kept ∷ entries) place false)
unfolding behind
left-through dims kept entries place last =
    let all = flat_map (rows_lines dims) (kept ∷ entries) ++ codes "done" ∷ [] in
    sym (drop-drop 1 place all ∙ ap (drop (place + 1)) (whole-is dims kept entries)
    ∙ drop_at (rows_lines dims kept) (behind dims entries) (place + 1) (length-rows_lines dims kept ∙ omega (arith, last)))

pub pass-more : (dims : List Dimension) (entries : List KeptRows) (place : ℕ) (ended : Bool) (before : List (List ℕ)) → lines_left dims entries place ended ≡ before → IsBatchWalk dims entries place ended → 1 ≤ length entries
    → lines_left dims entries (place + 1) ended ≡ drop 1 before
pass-more dims entries place true before is walk some = absurd (omega (arith, ap length walk.through))
pass-more dims entries place false before is walk some = left-more dims entries place ∙ ap (drop 1) is

pub pass-through : (dims : List Dimension) (entries : List KeptRows) (place : ℕ) (ended : Bool) (before : List (List ℕ)) (kept : KeptRows) → lines_left dims entries place ended ≡ before → IsBatchWalk dims entries place ended → 1 ≤ length entries
    → kept ≡ get_or entries 0 kept → length kept.rows ≤ place → lines_left dims (take (length entries - 1) (drop 1 entries)) 0 ended ≡ drop 1 before
pass-through dims [] place ended before kept is walk some first last = absurd (omega arith)
pass-through dims (entry ∷ entries) place true before kept is walk some first last = cc (walk.through)
pass-through dims (entry ∷ entries) place false before kept is walk some first last =
    let all : take (suc (length entries) - 1) entries ≡ entries = take_all (suc (length entries) - 1) entries (omega arith) in
    let end : place ≡ length entry.rows = omega (arith, walk.place_in, ap (λ (k : KeptRows). length k.rows) first, last) in
    ap (λ (rest : List KeptRows). lines_left dims rest 0 false) all ∙ left-through dims entry entries place end ∙ ap (drop 1) is

-- the line that a text goes on with, and its LF, are the first bytes of those that are left
appended-line : (before after : List (List ℕ)) (old new : List ℕ) → GoesOnWith true before old new after → new ++ (10 ∷ feed_bytes after) ≡ old ++ feed_bytes before
appended-line before after old new on =
    let line = drop (length old) new in
    let whole : new ≡ old ++ line = sym (take-append-drop (length old) new) ∙ ap (λ t. t ++ line) on.keeps in
    ap (λ t. t ++ (10 ∷ feed_bytes after)) whole ∙ append_assoc old line (10 ∷ feed_bytes after) ∙ ap (λ t. old ++ t) (sym (append_assoc line (10 ∷ []) (feed_bytes after)))
    ∙ ap (λ l. old ++ feed_bytes l) (sym on.next)

pub behind-more : (before after : List (List ℕ)) (old new ended whole : List ℕ) → old ++ feed_bytes before ≡ whole → GoesOnWith true before old new after → ended ≡ new ++ 10 ∷ [] → ended ++ feed_bytes after ≡ whole
behind-more before after old new ended whole so_far on last =
    ap (λ t. t ++ feed_bytes after) last ∙ append_assoc new (10 ∷ []) (feed_bytes after) ∙ appended-line before after old new on ∙ so_far
