-- Spots whose regions share a cell have one root once all have claimed their cells, and spots of one root are joined by a way.
use Rattle.cube_model.specs.Cells.{cells_of, is_among}
use Rattle.cube_model.specs.Tree.{Dimension}
use Rattle.iter_alloc.proofs.Roots.{renamed, renamed-both, renamed-cases, at-relabelled}
use Rattle.iter_alloc.proofs.Tests.{itself, equal, or-left, or-right}
use Rattle.iter_alloc.specs.Claims.{Claimed, owner_of, claim_from, claim_cell, claim_cells, claim_regions, unclaimed, roots_of}
use Rattle.iter_alloc.specs.Forest.{at, AreRoots, relabelled}
use Rattle.std.proofs.Common.{◌≡◌, ℕ, zero, suc, ◌+◌, ◌<◌, ◌≤◌, ◌≢◌, Bool, true, false, List, [], ◌∷◌, ◌++◌, get_or, length, refl, ap, sym, ◌∙◌, subst, arith, inl, inr, ◌⊎◌, add-one}
use Rattle.std.proofs.lemmas.Bool.{cases_eq}
use Rattle.std.proofs.lemmas.List.{append-nil, append_assoc, length-append, length-map, get_or_at, length_push}
use Rattle.std.specs.List.{range_with_len}
use Rattle.std.specs.Option.{option_or}
use Rattle.std.specs.Prelude.{Option, Some, None, ◌||◌, ◌==◌, if◌then◌else◌, nat_eq}

-- a spot whose region has the cell
pub record IsHolder (dims : List Dimension) (regions : List (List ℕ)) (spot cell : ℕ) : Type 0 where
  pub within : spot < length regions
  pub has : is_among (cells_of dims (get_or regions spot [])) cell ≡ true

-- from one spot to another by spots of which each shares a cell with the next
pub data Way (dims : List Dimension) (regions : List (List ℕ)) : ℕ → ℕ → Type 0 where
  stay : (i : ℕ) → Way dims regions i i
  step : (i j k cell : ℕ) → IsHolder dims regions i cell → IsHolder dims regions j cell → Way dims regions j k → Way dims regions i k

-- owners hold their cells, and spots of one root are joined by a way
pub record AreSound (dims : List Dimension) (regions : List (List ℕ)) (claimed : Claimed) : Type 0 where
  pub as_many : length claimed.roots ≡ length regions
  pub owned : (cell owner : ℕ) → owner_of claimed.owners cell ≡ Some owner → IsHolder dims regions owner cell
  pub sound : (i j : ℕ) → i < length regions → j < length regions → at claimed.roots i ≡ at claimed.roots j → Way dims regions i j

-- a spot has the root of the owner of a cell
pub record HasOwner (claimed : Claimed) (spot cell : ℕ) : Type 0 where
  pub owner : ℕ
  pub is : owner_of claimed.owners cell ≡ Some owner
  pub same : at claimed.roots owner ≡ at claimed.roots spot

-- what later claims leave of earlier ones
pub record Keeps (dims : List Dimension) (regions : List (List ℕ)) (before after : Claimed) : Type 0 where
  pub sound : AreSound dims regions after
  pub kept : (spot cell : ℕ) → spot < length regions → HasOwner before spot cell → HasOwner after spot cell

-- the owner of a cell after one cell more has an owner
owner-push : (owners : List (ℕ × ℕ)) (cell spot c : ℕ) → owner_of (owners ++ (cell, spot) ∷ []) c ≡ option_or (owner_of owners c) (if nat_eq c cell then Some spot else None)
owner-push [] cell spot c = refl
owner-push (e ∷ owners) cell spot c = either (nat_eq c e.0) (owner-push owners cell spot c)
  where
    either : (b : Bool) → owner_of (owners ++ (cell, spot) ∷ []) c ≡ option_or (owner_of owners c) (if nat_eq c cell then Some spot else None)
        → (if b then Some e.1 else owner_of (owners ++ (cell, spot) ∷ []) c) ≡ option_or (if b then Some e.1 else owner_of owners c) (if nat_eq c cell then Some spot else None)
    either true rest = refl
    either false rest = rest

module _ (dims : List Dimension) (regions : List (List ℕ)) where
  pub way-append : {i j k : ℕ} → Way dims regions i j → Way dims regions j k → Way dims regions i k
  way-append (stay i) later = later
  way-append (step i j k cell of_i of_j rest) later = step i j _ cell of_i of_j (way-append rest later)

  pub way-back : {i j : ℕ} → Way dims regions i j → Way dims regions j i
  way-back (stay i) = stay i
  way-back (step i j k cell of_i of_j rest) = way-append (way-back rest) (step j i i cell of_j of_i (stay i))

  module _ (claimed : Claimed) (are : AreSound dims regions claimed) (spot cell : ℕ) (holder : IsHolder dims regions spot cell) where
    -- the cell is a new one
    module _ (none : owner_of claimed.owners cell ≡ None) where
      abbrev owners : List (ℕ × ℕ)
      owners = claimed.owners ++ (cell, spot) ∷ []

      there : (c owner : ℕ) → owner_of claimed.owners c ≡ Some owner → owner_of owners c ≡ Some owner
      there c owner is = owner-push claimed.owners cell spot c ∙ ap (λ (o : Option ℕ). option_or o (if nat_eq c cell then Some spot else None)) is

      here_now : owner_of owners cell ≡ Some spot
      here_now =
          owner-push claimed.owners cell spot cell ∙ ap (λ (o : Option ℕ). option_or o (if nat_eq cell cell then Some spot else None)) none
          ∙ ap (λ (b : Bool). option_or None (if b then Some spot else None)) (itself cell)

      owned : (c owner : ℕ) → owner_of owners c ≡ Some owner → IsHolder dims regions owner c
      owned c owner is = either (owner_of claimed.owners c) refl (nat_eq c cell) refl (sym (owner-push claimed.owners cell spot c) ∙ is)
        where
          either : (o : Option ℕ) → owner_of claimed.owners c ≡ o → (b : Bool) → nat_eq c cell ≡ b → option_or o (if b then Some spot else None) ≡ Some owner → IsHolder dims regions owner c
          either (Some old) was b same is = are.owned c owner (was ∙ is)
          either None was true same is =
              let here : spot ≡ owner = cc in
              subst (λ s. IsHolder dims regions s c) here (subst (λ n. IsHolder dims regions spot n) (sym (equal c cell same)) holder)
          either None was false same is = cc

      pub new-cell : Keeps dims regions claimed (record { owners = owners; roots = claimed.roots })
      new-cell = record {
        sound = record { as_many = are.as_many; owned = owned; sound = are.sound };
        kept = λ s c within has. record { owner = has.owner; is = there c has.owner has.is; same = has.same };
      }

      pub new-owner : HasOwner (record { owners = owners; roots = claimed.roots }) spot cell
      new-owner = record { owner = spot; is = here_now; same = refl }

    -- the cell has an owner
    module _ (owner : ℕ) (is : owner_of claimed.owners cell ≡ Some owner) where
      abbrev x : ℕ
      x = at claimed.roots spot

      abbrev y : ℕ
      y = at claimed.roots owner

      abbrev roots : List ℕ
      roots = relabelled x y claimed.roots

      holds : IsHolder dims regions owner cell
      holds = are.owned cell owner is

      at-roots : (i : ℕ) → i < length regions → at roots i ≡ renamed x y (at claimed.roots i)
      at-roots i within = at-relabelled x y claimed.roots i (omega (arith, within, are.as_many))

      across : Way dims regions spot owner
      across = step spot owner owner cell holder holds (stay owner)

      sound : (i j : ℕ) → i < length regions → j < length regions → at roots i ≡ at roots j → Way dims regions i j
      sound i j in_i in_j same = either (renamed-cases x y (at claimed.roots i) (at claimed.roots j) (sym (at-roots i in_i) ∙ same ∙ at-roots j in_j))
        where
          either : (at claimed.roots i ≡ at claimed.roots j) ⊎ (((at claimed.roots i ≡ x) × (at claimed.roots j ≡ y)) ⊎ ((at claimed.roots i ≡ y) × (at claimed.roots j ≡ x))) → Way dims regions i j
          either (inl old) = are.sound i j in_i in_j old
          either (inr (inl both)) =
              way-append (are.sound i spot in_i holder.within both.0) (way-append across (are.sound owner j holds.within in_j (sym both.1)))
          either (inr (inr both)) =
              way-append (are.sound i owner in_i holds.within both.0) (way-append (way-back across) (are.sound spot j holder.within in_j (sym both.1)))

      kept : (s c : ℕ) → s < length regions → HasOwner claimed s c → HasOwner (record { owners = claimed.owners; roots = roots }) s c
      kept s c within has =
          record { owner = has.owner; is = has.is; same = at-roots has.owner (are.owned c has.owner has.is).within ∙ ap (renamed x y) has.same ∙ sym (at-roots s within) }

      pub old-cell : Keeps dims regions claimed (record { owners = claimed.owners; roots = roots })
      old-cell = record { sound = record { as_many = length-map claimed.roots (renamed x y) ∙ are.as_many; owned = are.owned; sound = sound }; kept = kept }

      pub old-owner : HasOwner (record { owners = claimed.owners; roots = roots }) spot cell
      old-owner = record { owner = owner; is = is; same = at-roots owner holds.within ∙ sym (renamed-both x y) ∙ sym (at-roots spot holder.within) }

    claim-keeps : (o : Option ℕ) → owner_of claimed.owners cell ≡ o → Keeps dims regions claimed (claim_from o spot claimed cell) × HasOwner (claim_from o spot claimed cell) spot cell
    claim-keeps None is = (new-cell is, new-owner is)
    claim-keeps (Some owner) is = (old-cell owner is, old-owner owner is)

  keeps-itself : (claimed : Claimed) → AreSound dims regions claimed → Keeps dims regions claimed claimed
  keeps-itself claimed are = record { sound = are; kept = λ s c within has. has }

  keeps-both : (first second third : Claimed) → Keeps dims regions first second → Keeps dims regions second third → Keeps dims regions first third
  keeps-both first second third one two = record { sound = two.sound; kept = λ s c within has. two.kept s c within (one.kept s c within has) }

  -- a spot claims several cells of its region
  cells-claimed : (spot : ℕ) (cells : List ℕ) (claimed : Claimed) → AreSound dims regions claimed → ((cell : ℕ) → is_among cells cell ≡ true → IsHolder dims regions spot cell)
      → Keeps dims regions claimed (claim_cells spot claimed cells) × ((cell : ℕ) → is_among cells cell ≡ true → HasOwner (claim_cells spot claimed cells) spot cell)
  cells-claimed spot [] claimed are holds = (keeps-itself claimed are, λ cell among. absurd (cc among))
  cells-claimed spot (c ∷ cells) claimed are holds =
      let holder = holds c (or-left (c == c) (is_among cells c) (itself c)) in
      let now = claim-keeps claimed are spot c holder (owner_of claimed.owners c) refl in
      let rest = cells-claimed spot cells (claim_cell spot claimed c) now.0.sound (λ cell among. holds cell (or-right (c == cell) (is_among cells cell) among)) in
      (keeps-both claimed (claim_cell spot claimed c) (claim_cells spot (claim_cell spot claimed c) cells) now.0 rest.0, λ cell among. either cell holder.within now.1 rest.0 rest.1 (c == cell) refl among)
    where
      either : (cell : ℕ) → spot < length regions → HasOwner (claim_cell spot claimed c) spot c → Keeps dims regions (claim_cell spot claimed c) (claim_cells spot (claim_cell spot claimed c) cells)
          → ((cell : ℕ) → is_among cells cell ≡ true → HasOwner (claim_cells spot (claim_cell spot claimed c) cells) spot cell) → (b : Bool) → (c == cell) ≡ b → (b || is_among cells cell) ≡ true
          → HasOwner (claim_cells spot (claim_cell spot claimed c) cells) spot cell
      either cell within has keeps rest true same among = keeps.kept spot cell within (subst (λ n. HasOwner (claim_cell spot claimed c) spot n) (equal c cell same) has)
      either cell within has keeps rest false same among = rest cell among

  -- and so do all spots from one on
  regions-claimed : (spot : ℕ) (front rest : List (List ℕ)) (claimed : Claimed) → front ++ rest ≡ regions → length front ≡ spot → AreSound dims regions claimed
      → Keeps dims regions claimed (claim_regions dims spot claimed rest) × ((s cell : ℕ) → spot ≤ s → IsHolder dims regions s cell → HasOwner (claim_regions dims spot claimed rest) s cell)
  regions-claimed spot front [] claimed all long are = (keeps-itself claimed are, λ s cell from holder. absurd (omega (arith, from, holder.within, long, ap (λ (rs : List (List ℕ)). length rs) (sym (append-nil front) ∙ all))))
  regions-claimed spot front (region ∷ rest) claimed all long are =
      let mine : get_or regions spot [] ≡ region = ap (λ (rs : List (List ℕ)). get_or rs spot []) (sym all) ∙ get_or_at front region rest [] spot long in
      let in_spot : spot < length regions = omega (arith, long, ap (λ (rs : List (List ℕ)). length rs) all, length-append front (region ∷ rest)) in
      let holds = λ (cell : ℕ) (among : is_among (cells_of dims region) cell ≡ true). holder-of spot cell region mine in_spot among in
      let now = cells-claimed spot (cells_of dims region) claimed are holds in
      let later = regions-claimed (spot + 1) (front ++ region ∷ []) rest (claim_cells spot claimed (cells_of dims region)) (append_assoc front (region ∷ []) rest ∙ all) (length_push front region ∙ ap (λ n. n + 1) long) now.0.sound in (
        keeps-both claimed (claim_cells spot claimed (cells_of dims region)) (claim_regions dims (spot + 1) (claim_cells spot claimed (cells_of dims region)) rest) now.0 later.0,
        λ s cell from holder. either s cell region mine holder now.1 later.0 later.1 (cases_eq s spot) from,
      )
    where
      holder-of : (spot cell : ℕ) (region : List ℕ) → get_or regions spot [] ≡ region → spot < length regions → is_among (cells_of dims region) cell ≡ true → IsHolder dims regions spot cell
      holder-of spot cell region mine within among = record { within = within; has = subst (λ (r : List ℕ). is_among (cells_of dims r) cell ≡ true) (sym mine) among }

      either : (s cell : ℕ) (region : List ℕ) → get_or regions spot [] ≡ region → IsHolder dims regions s cell
          → ((cell : ℕ) → is_among (cells_of dims region) cell ≡ true → HasOwner (claim_cells spot claimed (cells_of dims region)) spot cell)
          → Keeps dims regions (claim_cells spot claimed (cells_of dims region)) (claim_regions dims (spot + 1) (claim_cells spot claimed (cells_of dims region)) rest)
          → ((s cell : ℕ) → spot + 1 ≤ s → IsHolder dims regions s cell → HasOwner (claim_regions dims (spot + 1) (claim_cells spot claimed (cells_of dims region)) rest) s cell)
          → (s ≡ spot) ⊎ (s ≢ spot) → spot ≤ s → HasOwner (claim_regions dims (spot + 1) (claim_cells spot claimed (cells_of dims region)) rest) s cell
      either s cell region mine holder now keeps later (inl is) from =
          let has = subst (λ n. is_among (cells_of dims (get_or regions n [])) cell ≡ true) is holder.has in
          let mine_has = subst (λ (r : List ℕ). is_among (cells_of dims r) cell ≡ true) mine has in
          keeps.kept s cell holder.within (subst (λ n. HasOwner (claim_cells spot claimed (cells_of dims region)) n cell) (sym is) (now cell mine_has))
      either s cell region mine holder now keeps later (inr differ) from = later s cell (omega (arith, from, differ)) holder

-- the roots of spots that have claimed all cells
pub record AreRooted (dims : List Dimension) (regions : List (List ℕ)) (roots : List ℕ) : Type 0 where
  pub as_many : length roots ≡ length regions
  pub joined : (i j cell : ℕ) → IsHolder dims regions i cell → IsHolder dims regions j cell → at roots i ≡ at roots j
  pub sound : (i j : ℕ) → i < length regions → j < length regions → at roots i ≡ at roots j → Way dims regions i j

at-range : (n k i : ℕ) → i < n → at (range_with_len k n) i ≡ k + i
at-range zero k i within = absurd (omega arith)
at-range (suc n) k zero within = omega arith
at-range (suc n) k (suc i) within = at-range n (k + 1) i (omega (arith, within)) ∙ omega arith

pub length-range : (n k : ℕ) → length (range_with_len k n) ≡ n
length-range zero k = refl
length-range (suc n) k = omega (arith, length-range n (k + 1))

-- one number more
pub range-push : (k n last : ℕ) → last ≡ k + n → range_with_len k (n + 1) ≡ range_with_len k n ++ last ∷ []
range-push k zero last is = let same : k ≡ last = omega (arith, is) in ap (λ m. m ∷ []) same
range-push k (suc n) last is = ap (λ m. range_with_len k m) (add-one (suc n)) ∙ ap (λ ns. k ∷ ns) (ap (λ m. range_with_len (k + 1) m) (sym (add-one n)) ∙ range-push (k + 1) n last (omega (arith, is)))

pub range-roots : (n : ℕ) → AreRoots (range_with_len 0 n) (range_with_len 0 n)
range-roots n = record {
  low = λ i within. omega (arith, at-range n 0 i (omega (arith, length-range n 0, within)));
  as_many = refl;
  each = λ i within. own i (at-range n 0 i (omega (arith, length-range n 0, within)));
}
  where
    own : (i : ℕ) → at (range_with_len 0 n) i ≡ 0 + i → at (range_with_len 0 n) i ≡ (if at (range_with_len 0 n) i == i then i else at (range_with_len 0 n) (at (range_with_len 0 n) i))
    own i is =
        let same : at (range_with_len 0 n) i ≡ i = omega (arith, is) in
        either (at (range_with_len 0 n) i == i) (ap (λ m. m == i) same ∙ itself i) same
      where
        either : (b : Bool) → b ≡ true → at (range_with_len 0 n) i ≡ i → at (range_with_len 0 n) i ≡ (if b then i else at (range_with_len 0 n) (at (range_with_len 0 n) i))
        either true truly same = same
        either false truly same = cc truly

pub regions-rooted : (dims : List Dimension) (regions : List (List ℕ)) → AreRooted dims regions (roots_of dims regions)
unfolding roots_of
regions-rooted dims regions =
    let all = regions-claimed dims regions 0 [] regions (unclaimed (length regions)) refl refl begun in
    record {
      as_many = all.0.sound.as_many;
      joined = λ i j cell of_i of_j. both (claim_regions dims 0 (unclaimed (length regions)) regions) i j cell (all.1 i cell (omega arith) of_i) (all.1 j cell (omega arith) of_j);
      sound = all.0.sound.sound;
    }
  where
    begun : AreSound dims regions (unclaimed (length regions))
    begun = record {
      as_many = length-range (length regions) 0;
      owned = λ cell owner is. cc is;
      sound = λ i j in_i in_j same. alone i j (omega (arith, same, at-range (length regions) 0 i in_i, at-range (length regions) 0 j in_j));
    }
      where
        alone : (i j : ℕ) → i ≡ j → Way dims regions i j
        alone i j is = subst (λ n. Way dims regions i n) is (stay i)

    both : (claimed : Claimed) (i j cell : ℕ) → HasOwner claimed i cell → HasOwner claimed j cell → at claimed.roots i ≡ at claimed.roots j
    both claimed i j cell of_i of_j =
        let same : of_i.owner ≡ of_j.owner = cc (sym of_i.is ∙ of_j.is) in
        sym of_i.same ∙ ap (at claimed.roots) same ∙ of_j.same
