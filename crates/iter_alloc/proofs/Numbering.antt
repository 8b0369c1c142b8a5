-- Cells are given places one after another.
use Rattle.iter_alloc.specs.declared.rounds.Span.{Span}
use Rattle.iter_alloc.specs.declared.spots.First.{First}
use Rattle.cube_model.specs.Cells.{cells_of}
use Rattle.cube_model.specs.Limits.{MAX_CELLS}
use Rattle.cube_model.specs.Tree.{Dimension}
use Rattle.indexmap.specs.IndexSet.{insert_key}
use Rattle.iter_alloc.proofs.InSpots.{place-within, place-kept, place-new, place-absent}
use Rattle.iter_alloc.proofs.Tests.{itself, or-left, or-right}
use Rattle.iter_alloc.specs.Forest.{at}
use Rattle.iter_alloc.specs.LaidOut.{AreOwnPlaces, KeepsPlace, AreNumbered, marked_cells, part_at, AreLaidOut}
use Rattle.iter_alloc.specs.Places.{Part, parts}
use Rattle.iter_alloc.specs.Spotting.{is_among_codes, place_in}
use Rattle.std.proofs.Common.{◌≡◌, ℕ, suc, ◌+◌, ◌<◌, ◌≤◌, Bool, true, false, List, [], ◌∷◌, ◌++◌, get_or, take, drop, length, map, refl, ap, sym, ◌∙◌, subst, arith, inl, inr, ◌⊎◌}
use Rattle.std.proofs.lemmas.Bool.{cases_lt}
use Rattle.std.proofs.lemmas.List.{get_or-map, append_assoc, length-append, length-map, length_push, get_or_append_left, get_or_push, map_push, take-append-le, drop-append-le, length-drop, take_all, nil_from_length}
use Rattle.std.proofs.lemmas.List.Elements.{All-map, All-push, All-append, All-weaker}
use Rattle.std.proofs.lemmas.List.Folds.{list_any_at, list_any-append}
use Rattle.std.proofs.lemmas.List.FromFn.{map-range_with_len_more, get_or-range_with_len, length-range_with_len}
use Rattle.std.proofs.lemmas.List.Sums.{sum_by-cons, sum_by_push}
use Rattle.std.specs.List.{sum_by, range_with_len}
use Rattle.std.specs.Prelude.{All, if◌then◌else◌, nat_eq}

map-alike : {X Y : Type 0} (f g : X → Y) (xs : List X) → All (λ x. f x ≡ g x) xs → map f xs ≡ map g xs
map-alike f g [] same = refl
map-alike f g (x ∷ xs) same = ap (λ y. y ∷ map f xs) (same 0 x (omega arith)) ∙ ap (λ ys. g x ∷ ys) (map-alike f g xs (λ k d within. same (suc k) d (omega arith)))

module _ (keys : List ℕ) (cell : ℕ) where
  insert-cases : (P : List ℕ → Type 0) → (is_among_codes keys cell ≡ true → P keys) → (is_among_codes keys cell ≡ false → P (keys ++ cell ∷ [])) → P (insert_key nat_eq keys cell)
  insert-cases P old new = either (is_among_codes keys cell) refl
    where
      either : (b : Bool) → is_among_codes keys cell ≡ b → P (if b then keys else keys ++ cell ∷ [])
      either true is = old is
      either false is = new is

  pub insert-kept : (x : ℕ) → is_among_codes keys x ≡ true → KeepsPlace keys (insert_key nat_eq keys cell) x
  insert-kept x has =
      insert-cases (λ now. KeepsPlace keys now x) (λ _. record { has = has; place = refl }) (λ _. record {
        has = list_any-append (λ c. nat_eq x c) keys (cell ∷ []) ∙ or-left (is_among_codes keys x) (is_among_codes (cell ∷ []) x) has;
        place = place-kept keys (cell ∷ []) x has;
      })

  -- the place that the cell has afterwards is the one that it would have had
  pub insert-placed : KeepsPlace keys (insert_key nat_eq keys cell) cell
  insert-placed =
      insert-cases (λ now. KeepsPlace keys now cell) (λ has. record { has = has; place = refl }) (λ absent. record {
        has = list_any-append (λ c. nat_eq cell c) keys (cell ∷ []) ∙ or-right (is_among_codes keys cell) (is_among_codes (cell ∷ []) cell) (or-left (nat_eq cell cell) false (itself cell));
        place = place-new keys [] cell absent ∙ sym (place-absent keys cell absent);
      })

  pub insert-own : AreOwnPlaces keys → AreOwnPlaces (insert_key nat_eq keys cell)
  insert-own are = insert-cases (λ now. AreOwnPlaces now) (λ _. are) (λ absent. record { own = λ i within. either absent i (cases_lt i (length keys)) within })
    where
      either : is_among_codes keys cell ≡ false → (i : ℕ) → (i < length keys) ⊎ (length keys ≤ i) → i < length (keys ++ cell ∷ []) → place_in (keys ++ cell ∷ []) (at (keys ++ cell ∷ []) i) ≡ i
      either absent i (inl there) within =
          let has : is_among_codes keys (at keys i) ≡ true = list_any_at (λ c. nat_eq (at keys i) c) keys i 0 there (itself (at keys i)) in
          ap (λ c. place_in (keys ++ cell ∷ []) c) (get_or_append_left keys (cell ∷ []) 0 i there) ∙ place-kept keys (cell ∷ []) (at keys i) has ∙ are.own i there
      either absent i (inr last) within =
          let is : length keys ≡ i = omega (arith, last, within, length_push keys cell) in
          ap (λ c. place_in (keys ++ cell ∷ []) c) (get_or_push keys cell 0 i is) ∙ place-new keys [] cell absent ∙ is

  pub insert-long : length keys ≤ length (insert_key nat_eq keys cell)
  insert-long = insert-cases (λ now. length keys ≤ length now) (λ _. omega arith) (λ _. omega (arith, length_push keys cell))

module _ (before keys begun flat cells : List ℕ) (are : AreNumbered before keys begun flat cells) (cell : ℕ) where
  abbrev after : List ℕ
  after = insert_key nat_eq keys cell

  kept-after : (x : ℕ) → KeepsPlace before keys x → KeepsPlace before after x
  kept-after x is = let later = insert-kept keys cell x is.has in record { has = later.has; place = later.place ∙ is.place }

  pub numbered-push : (now : List ℕ) (place : ℕ) (more : List ℕ) → now ≡ after → place ≡ place_in keys cell → more ≡ flat ++ place ∷ [] → AreNumbered before now begun more (cells ++ cell ∷ [])
  numbered-push now place more is_now is_place is_more =
      subst (λ (ks : List ℕ). AreNumbered before ks begun more (cells ++ cell ∷ [])) (sym is_now)
      (record {
        longer = omega (arith, are.longer, insert-long keys cell);
        kept = λ x has. kept-after x (are.kept x has);
        flat_is =
            is_more
            ∙ ap (λ p. flat ++ p ∷ []) (is_place ∙ sym (insert-placed keys cell).place)
            ∙ ap (λ (fs : List ℕ). fs ++ place_in after cell ∷ []) (are.flat_is ∙ ap (λ (ps : List ℕ). begun ++ ps) (map-alike (place_in keys) (place_in after) cells (λ k d within. sym (insert-kept keys cell (get_or cells k d) (are.has k d within)).place)))
            ∙ append_assoc begun (map (place_in after) cells) (place_in after cell ∷ [])
            ∙ ap (λ (ps : List ℕ). begun ++ ps) (sym (map_push (place_in after) cells cell));
        has =
            All-push (λ c. is_among_codes after c ≡ true) cells cell (All-weaker (λ c. is_among_codes keys c ≡ true) (λ c. is_among_codes after c ≡ true) (λ c has. (insert-kept keys cell c has).has) cells are.has)
            (insert-placed keys cell).has;
        own = insert-own keys cell are.own;
      })

-- places are left free, which changes none
pub free-start : (keys : List ℕ) → AreOwnPlaces keys → AreNumbered keys keys [] [] []
free-start keys own = record { longer = omega arith; kept = λ x has. record { has = has; place = refl }; flat_is = refl; has = λ k d within. absurd (omega (arith, within)); own = own }

pub free-behind : (before keys now begun flat cells : List ℕ) → AreNumbered before keys begun flat cells → AreNumbered keys now [] [] [] → AreNumbered before now begun flat cells
free-behind before keys now begun flat cells are free = record {
  longer = omega (arith, are.longer, free.longer);
  kept = λ x has. let was = are.kept x has in let is = free.kept x was.has in record { has = is.has; place = is.place ∙ was.place };
  flat_is = are.flat_is ∙ ap (λ (ps : List ℕ). begun ++ ps) (map-alike (place_in keys) (place_in now) cells (λ k d within. sym (free.kept (get_or cells k d) (are.has k d within)).place));
  has = All-weaker (λ c. is_among_codes keys c ≡ true) (λ c. is_among_codes now c ≡ true) (λ c has. (free.kept c has).has) cells are.has;
  own = free.own;
}

pub free-next : (before keys now : List ℕ) → AreNumbered before keys [] [] [] → (key : ℕ) → now ≡ insert_key nat_eq keys key → AreNumbered before now [] [] []
free-next before keys now are key is =
    subst (λ (ks : List ℕ). AreNumbered before ks [] [] []) (sym is)
    (free-behind before keys (insert_key nat_eq keys key) [] [] [] are
    (record { longer = insert-long keys key; kept = insert-kept keys key; flat_is = refl; has = λ k d within. absurd (omega (arith, within)); own = insert-own keys key are.own }))

-- the cells of a region so far
pub record Numbering (before begun cells done left keys flat : List ℕ) : Type 0 where
  pub all : done ++ left ≡ cells
  pub numbered : AreNumbered before keys begun flat done

pub numbering-next : (before begun cells done left keys flat : List ℕ) → Numbering before begun cells done left keys flat → (cell : ℕ) (rest : List ℕ) → left ≡ cell ∷ rest → (now : List ℕ) (place : ℕ) (longer : List ℕ)
    → now ≡ insert_key nat_eq keys cell → place ≡ place_in keys cell → longer ≡ flat ++ place ∷ [] → Numbering before begun cells (done ++ cell ∷ []) rest now longer
numbering-next before begun cells done left keys flat numbering cell rest first now place longer is_now is_place is_longer = record {
  all = append_assoc done (cell ∷ []) rest ∙ ap (λ (ns : List ℕ). done ++ ns) (sym first) ∙ numbering.all;
  numbered = numbered-push before keys begun flat done numbering.numbered cell now place longer is_now is_place is_longer;
}

-- a spot more has its places behind the others
parts-push : (spans : List Span) (flat more : List ℕ) (last : Span) → sum_by (λ span. span.len) spans ≡ length flat → last.len ≡ length more
    → parts (spans ++ last ∷ []) (flat ++ more) ≡ parts spans flat ++ record { own = more; members = last.members } ∷ []
parts-push [] flat more last parted long =
    let none : flat ≡ [] = nil_from_length flat (sym parted) in
    ap (λ (fs : List ℕ). record { own = take last.len (fs ++ more); members = last.members } ∷ []) none ∙ ap (λ (ps : List ℕ). record { own = ps; members = last.members } ∷ []) (take_all last.len more (omega (arith, long)))
parts-push (span ∷ spans) flat more last parted long =
    let inside : span.len ≤ length flat = omega (arith, parted, sum_by-cons (λ (s : Span). s.len) span spans) in
    ap (λ (ps : List ℕ). record { own = ps; members = span.members } ∷ parts (spans ++ last ∷ []) (drop span.len (flat ++ more))) (take-append-le span.len flat more inside)
    ∙ ap (λ (ps : List ℕ). record { own = take span.len flat; members = span.members } ∷ parts (spans ++ last ∷ []) ps) (drop-append-le span.len flat more inside)
    ∙ ap (λ (ps : List Part). record { own = take span.len flat; members = span.members } ∷ ps)
    (parts-push spans (drop span.len flat) more last (omega (arith, parted, sum_by-cons (λ (s : Span). s.len) span spans, length-drop span.len flat)) long)

module _ (dims : List Dimension) (firsts : List First) (marks : List Bool) (members : List ℕ) where
  module _ (k : ℕ) (keys flat : List ℕ) (spans : List Span) (are : AreLaidOut dims firsts marks members k keys flat spans) (now longer : List ℕ)
      (numbered : AreNumbered keys now flat longer (marked_cells dims firsts marks k)) where
    abbrev cells : List ℕ
    cells = marked_cells dims firsts marks k

    abbrev added : List ℕ
    added = map (place_in now) cells

    old-same : (spot : ℕ) → spot < k → part_at dims firsts marks members keys spot ≡ part_at dims firsts marks members now spot
    old-same spot below =
        ap (λ (ps : List ℕ). record { own = ps; members = at members spot })
        (map-alike (place_in keys) (place_in now) (marked_cells dims firsts marks spot) (λ j d inside. sym (numbered.kept (get_or (marked_cells dims firsts marks spot) j d) (are.has spot below j d inside)).place))

    same : All (λ spot. part_at dims firsts marks members keys spot ≡ part_at dims firsts marks members now spot) (range_with_len 0 k)
    same j d inside =
        let below : j < k = omega (arith, inside, length-range_with_len 0 k) in
        old-same (get_or (range_with_len 0 k) j d) (omega (arith, get_or-range_with_len 0 k j d below, below))

    old-within : All (λ place. place < length now) flat
    old-within j d inside = omega (arith, are.within j d inside, numbered.longer)

    new-within : All (λ place. place < length now) added
    new-within = All-map (λ place. place < length now) (place_in now) cells (λ j d inside. (place-within now (get_or cells j d) (numbered.has j d inside)).0)

    has-more : (spot : ℕ) → (spot < k) ⊎ (k ≤ spot) → spot < k + 1 → All (λ cell. is_among_codes now cell ≡ true) (marked_cells dims firsts marks spot)
    has-more spot (inl below) last = λ j d inside. (numbered.kept (get_or (marked_cells dims firsts marks spot) j d) (are.has spot below j d inside)).has
    has-more spot (inr up) last = let is : k ≡ spot = omega (arith, up, last) in subst (λ s. All (λ cell. is_among_codes now cell ≡ true) (marked_cells dims firsts marks s)) is numbered.has

    pub laid-next : (span : Span) (more : List Span) → span.len ≡ length cells → span.members ≡ at members k → length cells ≤ MAX_CELLS → more ≡ spans ++ span ∷ [] → AreLaidOut dims firsts marks members (k + 1) now longer more
    laid-next span more long is_members few is_more =
        subst (λ (ss : List Span). AreLaidOut dims firsts marks members (k + 1) now longer ss) (sym is_more)
        (subst (λ (fs : List ℕ). AreLaidOut dims firsts marks members (k + 1) now fs (spans ++ span ∷ [])) (sym numbered.flat_is)
        (record {
          parts_are =
              parts-push spans flat added span are.parted (long ∙ sym (length-map cells (place_in now)))
              ∙ ap (λ (ps : List Part). ps ++ record { own = added; members = span.members } ∷ []) (are.parts_are ∙ map-alike (part_at dims firsts marks members keys) (part_at dims firsts marks members now) (range_with_len 0 k) same)
              ∙ ap (λ n. map (part_at dims firsts marks members now) (range_with_len 0 k) ++ record { own = added; members = n } ∷ []) is_members
              ∙ sym (map-range_with_len_more (part_at dims firsts marks members now) 0 k k (omega arith));
          parted = omega (arith, sum_by_push (λ (s : Span). s.len) spans span, are.parted, long, length-map cells (place_in now), length-append flat added);
          within = All-append (λ place. place < length now) flat added old-within new-within;
          few = All-push (λ (s : Span). s.len ≤ MAX_CELLS) spans span are.few (omega (arith, long, few));
          has = λ spot below. has-more spot (cases_lt spot k) below;
          own = numbered.own;
        }))

-- the cells of a spot by its first fact
pub marked-is : (dims : List Dimension) (firsts : List First) (marks : List Bool) (k : ℕ) (first : First) → k < length firsts → first ≡ get_or firsts k first
    → marked_cells dims firsts marks k ≡ (if get_or marks k false then cells_of dims first.region else [])
marked-is dims firsts marks k first within is =
    ap (λ (r : List ℕ). if get_or marks k false then cells_of dims r else []) (get_or-map (λ (h : First). h.region) firsts k first [] within ∙ ap (λ (h : First). h.region) (sym is))

pub marked-few : (dims : List Dimension) (firsts : List First) (marks : List Bool) (k : ℕ) (first : First) → k < length firsts → first ≡ get_or firsts k first
    → All (λ first. length (cells_of dims first.region) ≤ MAX_CELLS) firsts → length (marked_cells dims firsts marks k) ≤ MAX_CELLS
marked-few dims firsts marks k first within is sizes =
    let size = subst (λ (h : First). length (cells_of dims h.region) ≤ MAX_CELLS) (sym is) (sizes k first within) in
    subst (λ (cs : List ℕ). length cs ≤ MAX_CELLS) (sym (marked-is dims firsts marks k first within is)) (either (get_or marks k false) size)
  where
    either : (b : Bool) → length (cells_of dims first.region) ≤ MAX_CELLS → length (if b then cells_of dims first.region else []) ≤ MAX_CELLS
    either true size = size
    either false size = omega arith
