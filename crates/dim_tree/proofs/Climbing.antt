-- What climbing meets, by the places of nodes.
use Rattle.std.proofs.Common.{◌≡◌, ℕ, ◌+◌, ◌<◌, ◌≤◌, Bool, true, false, List, [], ◌∷◌, length, map, get_or, zero, suc, not, ◌&&◌, ◌||◌, ◌==◌, nat_lt, nat_le, if◌then◌else◌, cond, refl, sym, ap, ◌∙◌, true≢false, arith}
use Rattle.std.specs.List.{list_any, list_all}
use Rattle.std.proofs.lemmas.Bool.{leb-true}
use Rattle.std.proofs.lemmas.Bool.Decides.{nat_tests}
use Rattle.cube_model.specs.declared.tree.NodeLine.{NodeLine}
use Rattle.cube_model.specs.Tree.{Entry, climb, path_after, numbered_from}
use Rattle.dim_tree.specs.Places.{count_deeper, ends_from}

-- both parts of a test that passes, pass
pub both : (a b : Bool) → (a && b) ≡ true → (a ≡ true) × (b ≡ true)
both true b h = (refl, h)
both false b h = absurd (true≢false (sym h))

-- a test passes whose parts do
pub together : {a b : Bool} → a ≡ true → b ≡ true → (a && b) ≡ true
together {a} {b} h i = ap (λ c. c && b) h ∙ i

-- whether a node of this depth may stand behind these, the nearest first
abbrev pub stands : List Entry → ℕ → Bool
stands [] depth = depth == 0
stands (before ∷ earlier) depth = nat_le 1 depth && nat_le depth (before.depth + 1)

-- whether each of these, the nearest first, stands behind the others
abbrev pub is_rising : List Entry → Bool
is_rising [] = true
is_rising (e ∷ earlier) = stands earlier e.depth && is_rising earlier

-- whether the node of this number is among these
abbrev pub meets : ℕ → List Entry → Bool
meets y es = list_any (λ e. e.number == y) es

-- whether the depth of the node of this number, if it is among these, is f
abbrev pub agrees : ℕ → ℕ → List Entry → Bool
agrees y f es = list_all (λ e. not (e.number == y) || e.depth == f) es

-- how a node at depth g bears on what climbing from depth d meets of the nodes before it
step : (f d g h : ℕ) (here near above past : Bool) → g ≤ h + 1 → d ≤ g + 1 → (here ≡ true → g ≡ f) → above ≡ (near && nat_lt f g) → (d ≤ h + 1 → past ≡ (near && nat_lt f d)) → cond (g + 1 == d) (here || above) past ≡ ((here || above) && nat_lt f d)
step f d g h here near above past rise start same up over = grind (arith, nat_tests)

-- what is met of one of two paths
meets-cond : (y : ℕ) (b : Bool) (es fs : List Entry) → meets y (cond b es fs) ≡ cond b (meets y es) (meets y fs)
meets-cond y true es fs = refl
meets-cond y false es fs = refl

-- a node met by climbing from depth d is on the path of the nearest node and lies above d
pub meets-climb : (y f d : ℕ) (e : Entry) (es : List Entry) → is_rising (e ∷ es) ≡ true → d ≤ e.depth + 1 → agrees y f (e ∷ es) ≡ true → meets y (climb d (e ∷ es)) ≡ (meets y (e ∷ climb e.depth es) && nat_lt f d)
meets-climb y f d e [] rising near agree = grind (arith, nat_tests)
meets-climb y f d e (b ∷ es) rising near agree =
    let rising' : is_rising (b ∷ es) ≡ true = grind (arith, nat_tests) in
    let agree' : agrees y f (b ∷ es) ≡ true = grind (arith, nat_tests) in
    let near' : e.depth ≤ b.depth + 1 = grind (arith, nat_tests) in
    let same : (e.number == y) ≡ true → e.depth ≡ f = grind (arith, nat_tests) in
    meets-cond y (e.depth + 1 == d) (e ∷ climb e.depth (b ∷ es)) (climb d (b ∷ es)) ∙ step f d e.depth b.depth (e.number == y) (meets y (b ∷ climb b.depth es)) (meets y (climb e.depth (b ∷ es))) (meets y (climb d (b ∷ es))) near' near same (meets-climb y f e.depth b es rising' near' agree') (λ h. meets-climb y f d b es rising' h agree')

-- whether each node stands behind the others, where `earlier` stand before them
abbrev pub rises_on : List Entry → List Entry → Bool
rises_on earlier [] = true
rises_on earlier (e ∷ rest) = stands earlier e.depth && rises_on (e ∷ earlier) rest

-- whether none of these has the number y
abbrev pub lacks : ℕ → List Entry → Bool
lacks y es = list_all (λ e. not (e.number == y)) es

-- climbing over nodes that lack a number does not meet it
lacks-climb : (y d : ℕ) (es : List Entry) → lacks y es ≡ true → meets y (climb d es) ≡ false
lacks-climb y d [] none = refl
lacks-climb y d (e ∷ es) none = meets-cond y (e.depth + 1 == d) (e ∷ climb e.depth es) (climb d es) ∙ grind (arith, nat_tests, lacks-climb y d es, lacks-climb y e.depth es)

-- nodes that lack a number do not disagree on its depth
lacks-agrees : (y f : ℕ) (es : List Entry) → lacks y es ≡ true → agrees y f es ≡ true
lacks-agrees y f [] none = refl
lacks-agrees y f (e ∷ es) none = grind (arith, lacks-agrees y f es)

-- how deep lines lie
abbrev pub depths_of : List NodeLine → List ℕ
depths_of lines = map (λ line. line.depth) lines

-- the node of a line at place k
abbrev pub node_at : ℕ → NodeLine → Entry
node_at k line = record { depth = line.depth; name = line.name; number = k }

-- a node behind y does not disagree on the depth of y
agrees_more : (y f k : ℕ) (line : NodeLine) (es : List Entry) → y < k → agrees y f es ≡ true → agrees y f (node_at k line ∷ es) ≡ true
agrees_more y f k line es before agree = grind (arith, nat_tests)

-- a path that has no node meets none
alive_end : (k x : ℕ) (alive : Bool) → k ≤ x → false ≡ (alive && nat_lt x (k + 0))
alive_end k x alive from = grind (arith, nat_tests)

-- one node further on, where y was met on the paths so far as long as `alive`
alive_step : (y f d k x c : ℕ) (alive here past : Bool) → y < k → k ≤ x → here ≡ (alive && nat_lt f d) → (k + 1 ≤ x → past ≡ ((k == y || here) && nat_lt x (k + 1 + c)))
    → cond (k == x) (k == y || here) past ≡ (alive && nat_lt x (k + (if nat_lt f d then suc c else 0)))
alive_step y f d k x c alive here past before from now later = grind (arith, nat_tests)

-- the path to a node after place k: y is on it exactly if it is on the path of the node before k, and all in between lie deeper than y
pub meets-path_alive : (y f : ℕ) (lines : List NodeLine) (k x : ℕ) (e : Entry) (es : List Entry) → y < k → k ≤ x → is_rising (e ∷ es) ≡ true → rises_on (e ∷ es) (numbered_from k lines) ≡ true → agrees y f (e ∷ es) ≡ true
    → meets y (path_after (e ∷ es) x (numbered_from k lines)) ≡ (meets y (e ∷ climb e.depth es) && nat_lt x (k + count_deeper f (depths_of lines)))
meets-path_alive y f [] k x e es before from rising rises agree = alive_end k x (meets y (e ∷ climb e.depth es)) from
meets-path_alive y f (line ∷ lines) k x e es before from rising rises agree =
    let next = both (stands (e ∷ es) line.depth) (rises_on (node_at k line ∷ e ∷ es) (numbered_from (k + 1) lines)) rises in
    let near : line.depth ≤ e.depth + 1 = leb-true line.depth (e.depth + 1) (both (nat_le 1 line.depth) (nat_le line.depth (e.depth + 1)) next.0).1 in
    let here = meets-climb y f line.depth e es rising near agree in
    let later : k + 1 ≤ x → meets y (path_after (node_at k line ∷ e ∷ es) x (numbered_from (k + 1) lines)) ≡ (meets y (node_at k line ∷ climb line.depth (e ∷ es)) && nat_lt x (k + 1 + count_deeper f (depths_of lines)))
    = λ more. meets-path_alive y f lines (k + 1) x (node_at k line) (e ∷ es) (omega arith) more (together next.0 rising) next.1 (agrees_more y f k line (e ∷ es) before agree) in
    meets-cond y (k == x) (node_at k line ∷ climb line.depth (e ∷ es)) (path_after (node_at k line ∷ e ∷ es) x (numbered_from (k + 1) lines)) ∙ alive_step y f line.depth k x (count_deeper f (depths_of lines)) (meets y (e ∷ climb e.depth es)) (meets y (climb line.depth (e ∷ es))) _ before from here later

-- y itself agrees on its depth
agrees_here : (y k : ℕ) (line : NodeLine) (es : List Entry) → agrees y line.depth es ≡ true → agrees y line.depth (node_at k line ∷ es) ≡ true
agrees_here y k line es agree = grind (arith, nat_tests)

-- a node before y is not y
lacks_more : (y k : ℕ) (line : NodeLine) (es : List Entry) → k < y → lacks y es ≡ true → lacks y (node_at k line ∷ es) ≡ true
lacks_more y k line es above none = grind (arith, nat_tests)

-- one node further on, from y itself
here_step : (k x y c : ℕ) (here past : Bool) → y ≡ k → k ≤ x → (k + 1 ≤ x → past ≡ ((k == y || here) && nat_lt x (k + 1 + c))) → cond (k == x) (k == y || here) past ≡ (nat_le y x && nat_lt x (k + 1 + c))
here_step k x y c here past at from later = grind (arith, nat_tests)

-- one node further on, from a node before y
there_step : (k x y end : ℕ) (here past : Bool) → k < y → k ≤ x → here ≡ false → (k + 1 ≤ x → past ≡ (nat_le y x && nat_lt x end)) → cond (k == x) (k == y || here) past ≡ (nat_le y x && nat_lt x end)
there_step k x y end here past above from none later = grind (arith, nat_tests)

-- the path to a node from place k on: y is on it exactly if it is at most x, and x is before the end of y
pub meets-path : (lines : List NodeLine) (earlier : List Entry) (k i x y : ℕ) → y ≡ k + i → i < length lines → k ≤ x → is_rising earlier ≡ true → rises_on earlier (numbered_from k lines) ≡ true → lacks y earlier ≡ true
    → meets y (path_after earlier x (numbered_from k lines)) ≡ (nat_le y x && nat_lt x (get_or (ends_from k (depths_of lines)) i 0))
meets-path [] earlier k i x y at within from rising rises none = absurd (omega arith)
meets-path (line ∷ lines) earlier k zero x y at within from rising rises none =
    let next = both (stands earlier line.depth) (rises_on (node_at k line ∷ earlier) (numbered_from (k + 1) lines)) rises in
    let later : k + 1 ≤ x → meets y (path_after (node_at k line ∷ earlier) x (numbered_from (k + 1) lines)) ≡ (meets y (node_at k line ∷ climb line.depth earlier) && nat_lt x (k + 1 + count_deeper line.depth (depths_of lines)))
    = λ more. meets-path_alive y line.depth lines (k + 1) x (node_at k line) earlier (omega arith) more (together next.0 rising) next.1 (agrees_here y k line earlier (lacks-agrees y line.depth earlier none)) in
    meets-cond y (k == x) (node_at k line ∷ climb line.depth earlier) (path_after (node_at k line ∷ earlier) x (numbered_from (k + 1) lines)) ∙ here_step k x y (count_deeper line.depth (depths_of lines)) (meets y (climb line.depth earlier)) _ (omega arith) from later
meets-path (line ∷ lines) earlier k (suc i) x y at within from rising rises none =
    let next = both (stands earlier line.depth) (rises_on (node_at k line ∷ earlier) (numbered_from (k + 1) lines)) rises in
    let later : k + 1 ≤ x → meets y (path_after (node_at k line ∷ earlier) x (numbered_from (k + 1) lines)) ≡ (nat_le y x && nat_lt x (get_or (ends_from (k + 1) (depths_of lines)) i 0))
    = λ more. meets-path lines (node_at k line ∷ earlier) (k + 1) i x y (omega arith) (omega arith) more (together next.0 rising) next.1 (lacks_more y k line earlier (omega arith) none) in
    meets-cond y (k == x) (node_at k line ∷ climb line.depth earlier) (path_after (node_at k line ∷ earlier) x (numbered_from (k + 1) lines)) ∙ there_step k x y (get_or (ends_from (k + 1) (depths_of lines)) i 0) (meets y (climb line.depth earlier)) _ (omega arith) from (lacks-climb y line.depth earlier none) later
