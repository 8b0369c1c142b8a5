-- What the facts of spots give is added place by place, and spot by spot.
use Rattle.iter_alloc.specs.declared.rounds.Place.{Place}
use Rattle.iter_alloc.specs.declared.rounds.Span.{Span}
use Rattle.cube_model.specs.Limits.{MAX_CELLS}
use Rattle.iter_alloc.proofs.PlaceLists.{none, levels-long, nexts-long, next-at, raised-levels, raised-nexts, share-at}
use Rattle.iter_alloc.proofs.PlaceSums.{raised-at}
use Rattle.iter_alloc.proofs.Tests.{itself}
use Rattle.iter_alloc.specs.Forest.{at}
use Rattle.iter_alloc.specs.Places.{Part, parts, falls, amount, amounts, AreLevels, ArePlaced, IsRaised, LEVEL_LIMIT, levels_in, nexts_in}
use Rattle.iter_alloc.specs.Rounds.{share_by, share_of}
use Rattle.std.proofs.Common.{◌≡◌, ℕ, ◌+◌, ◌^◌, ◌<◌, ◌≤◌, List, ◌∷◌, get_or, set, take, drop, length, refl, ap, sym, ◌∙◌, subst, arith}
use Rattle.std.proofs.lemmas.List.{drop_more, length-drop, length-set}
use Rattle.std.proofs.lemmas.List.Elements.{All-drop, All-tail}
use Rattle.std.proofs.lemmas.List.Sums.{sum_by-cons, sum_by-le}
use Rattle.std.specs.List.{sum_by}
use Rattle.std.specs.Prelude.{All, ◌==◌, if◌then◌else◌}

-- what is added already and what is left to add are all
pub record Sharing (gets : ℕ → ℕ) (own old rest next : List ℕ) : Type 0 where
  pub as_many : length next ≡ length old
  pub all : (i : ℕ) → i < length old → at next i + falls gets rest i ≡ at old i + falls gets own i

module _ (gets : ℕ → ℕ) (own old : List ℕ) where
  module _ (k x : ℕ) (next : List ℕ) (more : k < length own) (is : x ≡ get_or own k x) (within : x < length old) (sharing : Sharing gets own old (drop k own) next) where
    falls-next : (i : ℕ) → falls gets (drop k own) i ≡ (if x == i then gets x else 0) + falls gets (drop (k + 1) own) i
    falls-next i =
        ap (λ (xs : List ℕ). falls gets xs i) (drop_more own k x more ∙ ap (λ y. y ∷ drop (k + 1) own) (sym is)) ∙ sum_by-cons (λ j. if j == i then gets j else 0) x (drop (k + 1) own)

    pub sharing-next : (raised : List ℕ) → raised ≡ set next x (at next x + gets x) → Sharing gets own old (drop (k + 1) own) raised
    sharing-next raised is_raised = record {
      as_many = ap (λ (xs : List ℕ). length xs) is_raised ∙ length-set next x (at next x + gets x) ∙ sharing.as_many;
      all = λ i inside. omega (arith, ap (λ (xs : List ℕ). at xs i) is_raised, raised-at next x i (gets x) (omega (arith, within, sharing.as_many)), falls-next i, sharing.all i inside);
    }

    -- what is next fits, where all does
    pub sharing-fits : (bound : ℕ) → ((i : ℕ) → i < length old → at old i + falls gets own i < bound) → at next x + gets x < bound
    sharing-fits bound fits = omega (arith, fits x within, sharing.all x within, falls-next x, here)
      where
        here : (if x == x then gets x else 0) ≡ gets x
        here = ap (λ b. if b then gets x else 0) (itself x)

-- to places is added, and they stand as they stood
pub record Giving (gets : ℕ → ℕ) (own : List ℕ) (old : List Place) (rest : List ℕ) (places : List Place) : Type 0 where
  pub levels : levels_in places ≡ levels_in old
  pub nexts : Sharing gets own (nexts_in old) rest (nexts_in places)

module _ (gets : ℕ → ℕ) (own : List ℕ) (old : List Place) (k x : ℕ) (places : List Place) (more : k < length own) (is : x ≡ get_or own k x) (within : x < length places) (giving : Giving gets own old (drop k own) places) where
  in-nexts : x < length (nexts_in old)
  in-nexts = omega (arith, within, nexts-long places, giving.nexts.as_many)

  pub giving-share : (shared sum count : ℕ) → shared ≡ share_of (get_or places x none).level sum count → sum ≡ sum_by (at (levels_in old)) own → count ≡ length own → shared ≡ share_by (at (levels_in old)) own x
  giving-share shared sum count is_shared is_sum is_count =
      share-at places own x within shared sum count is_shared (is_sum ∙ ap (λ (ls : List ℕ). sum_by (at ls) own) (sym giving.levels)) is_count ∙ ap (λ (ls : List ℕ). share_by (at ls) own x) giving.levels

  pub giving-fits : (bound : ℕ) → ((i : ℕ) → i < length old → at (nexts_in old) i + falls gets own i < bound) → (get_or places x none).next + gets x < bound
  giving-fits bound fits =
      omega (arith, next-at places x within, sharing-fits gets own (nexts_in old) k x (nexts_in places) more is in-nexts giving.nexts bound (λ i inside. fits i (omega (arith, inside, nexts-long old))))

  pub giving-next : (given : ℕ) → given ≡ gets x → Giving gets own old (drop (k + 1) own) (set places x (record { level = (get_or places x none).level; next = (get_or places x none).next + given }))
  giving-next given is_given = record {
    levels = raised-levels places x ((get_or places x none).next + given) ∙ giving.levels;
    nexts = sharing-next gets own (nexts_in old) k x (nexts_in places) more is in-nexts giving.nexts _ (raised-nexts places x given within ∙ ap (λ n. set (nexts_in places) x (at (nexts_in places) x + n)) is_given);
  }

-- the sum of levels at places fits
pub mass-fits : (levels own : List ℕ) → AreLevels levels → All (λ i. i < length levels) own → length own ≤ MAX_CELLS → sum_by (at levels) own < 2 ^ 64
mass-fits levels own low within few = omega (arith, sum_by-le (at levels) LEVEL_LIMIT own (λ k d inside. low (get_or own k d) 0 (within k d inside)), few)

-- what is added already, and what is left to add of the spots behind, are all
pub record Rounding (levels : List ℕ) (all : List Part) (old : List ℕ) (left : List Span) (rest next : List ℕ) : Type 0 where
  pub as_many : length next ≡ length old
  pub placed : ArePlaced left rest (length levels)
  pub sums : (i : ℕ) → i < length old → at next i + amounts (at levels) (parts left rest) i ≡ at old i + amounts (at levels) all i

module _ (levels : List ℕ) (all : List Part) (old : List ℕ) (k : ℕ) (spans : List Span) (span : Span) (rest next : List ℕ) (more : k < length spans) (is : span ≡ get_or spans k span)
    (rounding : Rounding levels all old (drop k spans) rest next) where
  abbrev part : Part
  part = record { own = take span.len rest; members = span.members }

  split : drop k spans ≡ span ∷ drop (k + 1) spans
  split = drop_more spans k span more ∙ ap (λ s. s ∷ drop (k + 1) spans) (sym is)

  lengths : span.len + sum_by (λ s. s.len) (drop (k + 1) spans) ≡ length rest
  lengths = sym (sum_by-cons (λ (s : Span). s.len) span (drop (k + 1) spans)) ∙ ap (λ (ss : List Span). sum_by (λ s. s.len) ss) (sym split) ∙ rounding.placed.parted

  few : All (λ s. s.len ≤ MAX_CELLS) (span ∷ drop (k + 1) spans)
  few = subst (λ (ss : List Span). All (λ s. s.len ≤ MAX_CELLS) ss) split rounding.placed.few

  amounts-next : (i : ℕ) → amounts (at levels) (parts (drop k spans) rest) i ≡ amount (at levels) i part + amounts (at levels) (parts (drop (k + 1) spans) (drop span.len rest)) i
  amounts-next i = ap (λ (ss : List Span). amounts (at levels) (parts ss rest) i) split ∙ sum_by-cons (amount (at levels) i) part (parts (drop (k + 1) spans) (drop span.len rest))

  pub round-fits : (bound : ℕ) → ((i : ℕ) → i < length old → at old i + amounts (at levels) all i < bound) → (i : ℕ) → i < length next → at next i + amount (at levels) i part < bound
  round-fits bound fits i within =
      let inside : i < length old = omega (arith, within, rounding.as_many) in
      omega (arith, fits i inside, rounding.sums i inside, amounts-next i)

  pub round-next : (raised behind : List ℕ) → behind ≡ drop span.len rest → IsRaised (λ i. amount (at levels) i part) next raised → Rounding levels all old (drop (k + 1) spans) behind raised
  round-next raised behind is_behind adds =
      subst (λ (ps : List ℕ). Rounding levels all old (drop (k + 1) spans) ps raised) (sym is_behind)
      (record {
        as_many = adds.as_many ∙ rounding.as_many;
        placed = record {
          parted = omega (arith, lengths, length-drop span.len rest);
          within = All-drop (λ i. i < length levels) span.len rest rounding.placed.within;
          few = All-tail (λ (s : Span). s.len ≤ MAX_CELLS) span (drop (k + 1) spans) few;
        };
        sums = λ i within. omega (arith, adds.each i (omega (arith, within, rounding.as_many)), amounts-next i, rounding.sums i within);
      })

-- the spots so far have given, and the places stand as they stood
pub record Adding (all : List Part) (old : List Place) (left : List Span) (rest : List ℕ) (places : List Place) : Type 0 where
  pub levels : levels_in places ≡ levels_in old
  pub nexts : Rounding (levels_in old) all (nexts_in old) left rest (nexts_in places)

pub adding-start : (old : List Place) (spans : List Span) (flat : List ℕ) → ArePlaced spans flat (length old) → Adding (parts spans flat) old spans flat old
adding-start old spans flat placed = record {
  levels = refl;
  nexts = record { as_many = refl; placed = subst (λ n. ArePlaced spans flat n) (sym (levels-long old)) placed; sums = λ i within. refl };
}

module _ (all : List Part) (old : List Place) (k : ℕ) (spans : List Span) (span : Span) (rest : List ℕ) (places : List Place) (more : k < length spans) (is : span ≡ get_or spans k span) (adding : Adding all old (drop k spans) rest places) where
  long : length places ≡ length old
  long = sym (nexts-long places) ∙ adding.nexts.as_many ∙ nexts-long old

  pub adding-within : All (λ i. i < length places) rest
  adding-within j d inside = omega (arith, adding.nexts.placed.within j d inside, levels-long old, long)

  pub adding-low : AreLevels (levels_in old) → AreLevels (levels_in places)
  adding-low low = subst (λ (ls : List ℕ). AreLevels ls) (sym adding.levels) low

  pub adding-fits : (bound : ℕ) → ((i : ℕ) → i < length old → at (nexts_in old) i + amounts (at (levels_in old)) all i < bound) → (i : ℕ) → i < length places
      → at (nexts_in places) i + amount (at (levels_in places)) i (record { own = take span.len rest; members = span.members }) < bound
  adding-fits bound fits i within =
      subst (λ (ls : List ℕ). at (nexts_in places) i + amount (at ls) i (record { own = take span.len rest; members = span.members }) < bound) (sym adding.levels)
      (round-fits (levels_in old) all (nexts_in old) k spans span rest (nexts_in places) more is adding.nexts bound (λ j inside. fits j (omega (arith, inside, nexts-long old))) i (omega (arith, within, nexts-long places)))

  pub adding-next : (raised : List Place) (behind : List ℕ) → behind ≡ drop span.len rest → levels_in raised ≡ levels_in places
      → IsRaised (λ i. amount (at (levels_in places)) i (record { own = take span.len rest; members = span.members })) (nexts_in places) (nexts_in raised) → Adding all old (drop (k + 1) spans) behind raised
  adding-next raised behind is_behind same adds = record {
    levels = same ∙ adding.levels;
    nexts =
        round-next (levels_in old) all (nexts_in old) k spans span rest (nexts_in places) more is adding.nexts (nexts_in raised) behind is_behind
        (subst (λ (ls : List ℕ). IsRaised (λ i. amount (at ls) i (record { own = take span.len rest; members = span.members })) (nexts_in places) (nexts_in raised)) adding.levels adds);
  }
