-- Portions are found place by place, spot by spot and fact by fact.
use Rattle.cube_model.specs.declared.edit.Fact.{Fact}
use Rattle.iter_alloc.specs.declared.rounds.Span.{Span}
use Rattle.cube_model.specs.Cells.{cells_of, is_among}
use Rattle.cube_model.specs.Limits.{MAX_CELLS}
use Rattle.cube_model.specs.Tree.{Dimension}
use Rattle.iter_alloc.proofs.Bounded.{share-unit}
use Rattle.iter_alloc.proofs.PlaceSums.{sum_by-among}
use Rattle.iter_alloc.specs.Forest.{at}
use Rattle.iter_alloc.specs.Places.{Part, parts, ArePlaced}
use Rattle.iter_alloc.specs.Portions.{portion_in, portion_by, portions_by}
use Rattle.iter_alloc.specs.Rounds.{WHOLE_FACT, share_of, share_by}
use Rattle.region_algebra.specs.Space.{common_cells, IsRegion}
use Rattle.std.proofs.Common.{◌≡◌, ℕ, ◌+◌, ◌*◌, ◌^◌, ◌<◌, ◌≤◌, Bool, true, false, List, [], ◌∷◌, ◌++◌, get_or, take, drop, length, map, refl, ap, sym, ◌∙◌, subst, arith}
use Rattle.std.proofs.lemmas.List.{append_assoc, drop_more, length-drop}
use Rattle.std.proofs.lemmas.List.Elements.{All-head, All-tail, All-drop}
use Rattle.std.proofs.lemmas.List.Sums.{sum_by-cons, sum_by-le, get_or-le-sum_by, length-filter, count_by-le-length}
use Rattle.std.specs.List.{sum_by}
use Rattle.std.specs.Prelude.{All, Option, if◌then◌else◌}

-- what is found, and what is left to find, are all
pub record Finding (term : ℕ → ℕ) (own : List ℕ) (k found : ℕ) : Type 0 where
  pub all : found + sum_by term (drop k own) ≡ sum_by term own
  pub fits : sum_by term own < 2 ^ 64

-- the terms of a portion
abbrev pub term_in : List ℕ → List ℕ → List ℕ → List ℕ → ℕ → ℕ
term_in inside keys levels own i = if is_among inside (at keys i) then share_by (at levels) own i else 0

module _ (inside keys levels own : List ℕ) where
  term-small : All (λ i. term_in inside keys levels own i ≤ WHOLE_FACT) own
  term-small k d within = either (is_among inside (at keys (get_or own k d)))
    where
      share-small : share_by (at levels) own (get_or own k d) ≤ WHOLE_FACT
      share-small = share-unit (at levels (get_or own k d)) (sum_by (at levels) own) (length own) (get_or-le-sum_by (at levels) own k d within)

      either : (b : Bool) → (if b then share_by (at levels) own (get_or own k d) else 0) ≤ WHOLE_FACT
      either true = share-small
      either false = omega arith

  pub find-start : length own ≤ MAX_CELLS → Finding (term_in inside keys levels own) own 0 0
  find-start few = record { all = omega arith; fits = omega (arith, sum_by-le (term_in inside keys levels own) WHOLE_FACT own term-small, few) }

  module _ (k found : ℕ) (finding : Finding (term_in inside keys levels own) own k found) (more : k < length own) where
    here : (d : ℕ) → sum_by (term_in inside keys levels own) (drop k own) ≡ term_in inside keys levels own (get_or own k d) + sum_by (term_in inside keys levels own) (drop (k + 1) own)
    here d = ap (λ (ns : List ℕ). sum_by (term_in inside keys levels own) ns) (drop_more own k d more) ∙ sum_by-cons (term_in inside keys levels own) (get_or own k d) (drop (k + 1) own)

    pub find-skip : (d : ℕ) → is_among inside (at keys (get_or own k d)) ≡ false → Finding (term_in inside keys levels own) own (k + 1) found
    find-skip d outside = record { all = omega (arith, finding.all, here d, ap (λ b. if b then share_by (at levels) own (get_or own k d) else 0) outside); fits = finding.fits }

    pub find-fits : (d : ℕ) → is_among inside (at keys (get_or own k d)) ≡ true → found + share_by (at levels) own (get_or own k d) < 2 ^ 64
    find-fits d within = omega (arith, finding.all, finding.fits, here d, ap (λ b. if b then share_by (at levels) own (get_or own k d) else 0) within)

    pub find-next : (d : ℕ) → is_among inside (at keys (get_or own k d)) ≡ true → Finding (term_in inside keys levels own) own (k + 1) (found + share_by (at levels) own (get_or own k d))
    find-next d within = record { all = omega (arith, finding.all, here d, ap (λ b. if b then share_by (at levels) own (get_or own k d) else 0) within); fits = finding.fits }

-- the portions of the spots so far
pub record Collecting (portion : Part → ℕ) (all : List Part) (count : ℕ) (left : List Span) (rest portions : List ℕ) : Type 0 where
  pub sums : portions ++ map portion (parts left rest) ≡ map portion all
  pub placed : ArePlaced left rest count

module _ (portion : Part → ℕ) (all : List Part) (count k : ℕ) (spans : List Span) (span : Span) (rest portions : List ℕ) (more : k < length spans) (is : span ≡ get_or spans k span)
    (collecting : Collecting portion all count (drop k spans) rest portions) where
  abbrev part : Part
  part = record { own = take span.len rest; members = span.members }

  split : drop k spans ≡ span ∷ drop (k + 1) spans
  split = drop_more spans k span more ∙ ap (λ s. s ∷ drop (k + 1) spans) (sym is)

  lengths : span.len + sum_by (λ s. s.len) (drop (k + 1) spans) ≡ length rest
  lengths = sym (sum_by-cons (λ (s : Span). s.len) span (drop (k + 1) spans)) ∙ ap (λ (ss : List Span). sum_by (λ s. s.len) ss) (sym split) ∙ collecting.placed.parted

  few : All (λ s. s.len ≤ MAX_CELLS) (span ∷ drop (k + 1) spans)
  few = subst (λ (ss : List Span). All (λ s. s.len ≤ MAX_CELLS) ss) split collecting.placed.few

  pub collect-next : (found : ℕ) (behind later : List ℕ) → found ≡ portion part → behind ≡ drop span.len rest → later ≡ portions ++ found ∷ [] → Collecting portion all count (drop (k + 1) spans) behind later
  collect-next found behind later is_found is_behind is_later =
      subst (λ (ps : List ℕ). Collecting portion all count (drop (k + 1) spans) ps later) (sym is_behind)
      (record {
        sums =
            ap (λ (ns : List ℕ). ns ++ map portion (parts (drop (k + 1) spans) (drop span.len rest))) (is_later ∙ ap (λ n. portions ++ n ∷ []) is_found)
            ∙ append_assoc portions (portion part ∷ []) (map portion (parts (drop (k + 1) spans) (drop span.len rest)))
            ∙ ap (λ (ss : List Span). portions ++ map portion (parts ss rest)) (sym split)
            ∙ collecting.sums;
        placed = record {
          parted = omega (arith, lengths, length-drop span.len rest);
          within = All-drop (λ i. i < count) span.len rest collecting.placed.within;
          few = All-tail (λ (s : Span). s.len ≤ MAX_CELLS) span (drop (k + 1) spans) few;
        };
      })

-- portions depend on how the places stand
pub portions-alike : (inside keys : List ℕ) (l m : ℕ → ℕ) (count : ℕ) (all : List Part) → ((i : ℕ) → i < count → l i ≡ m i) → All (λ part. All (λ i. i < count) part.own) all → map (portion_in inside keys l) all ≡ map (portion_in inside keys m) all
portions-alike inside keys l m count [] same within = refl
portions-alike inside keys l m count (part ∷ all) same within =
    ap (λ n. n ∷ map (portion_in inside keys l) all) one ∙ ap (λ (ns : List ℕ). portion_in inside keys m part ∷ ns) (portions-alike inside keys l m count all same (All-tail (λ (p : Part). All (λ i. i < count) p.own) part all within))
  where
    own_within : All (λ i. i < count) part.own
    own_within = All-head (λ (p : Part). All (λ i. i < count) p.own) part all within

    mass : sum_by l part.own ≡ sum_by m part.own
    mass = sum_by-among l m part.own (λ k d inside. same (get_or part.own k d) (own_within k d inside))

    one : portion_in inside keys l part ≡ portion_in inside keys m part
    one =
        sum_by-among (λ i. if is_among inside (at keys i) then share_by l part.own i else 0) (λ i. if is_among inside (at keys i) then share_by m part.own i else 0) part.own
        (λ k d here.
        ap (λ n. if is_among inside (at keys (get_or part.own k d)) then share_of n (sum_by l part.own) (length part.own) else 0) (same (get_or part.own k d) (own_within k d here))
        ∙ ap (λ n. if is_among inside (at keys (get_or part.own k d)) then share_of (m (get_or part.own k d)) n (length part.own) else 0) mass)

-- the portions of the facts so far
pub record Apportioning (dims : List Dimension) (region portions : List ℕ) (facts : List Fact) (spots : List (Option ℕ)) (left : List Fact) (i : ℕ) (found : List ℕ) : Type 0 where
  pub all : found ++ portions_by dims region portions left (drop i spots) ≡ portions_by dims region portions facts spots
  pub long : length left + i ≡ length spots
  pub regions : All (λ fact. IsRegion dims fact.region) left
  pub sizes : All (λ fact. length (cells_of dims fact.region) ≤ MAX_CELLS) left

module _ (dims : List Dimension) (region portions : List ℕ) (facts : List Fact) (spots : List (Option ℕ)) where
  module _ (left : List Fact) (f : Fact) (others : List Fact) (i : ℕ) (found : List ℕ) (first : left ≡ f ∷ others) (apportioning : Apportioning dims region portions facts spots left i found) where
    pub apportion-within : i < length spots
    apportion-within = omega (arith, apportioning.long, ap (λ (fs : List Fact). length fs) first)

    pub apportion-fits : WHOLE_FACT * length (common_cells dims f.region region) < 2 ^ 64
    apportion-fits =
        omega (
          arith,
          All-head (λ fact. length (cells_of dims fact.region) ≤ MAX_CELLS) f others (subst (λ (fs : List Fact). All (λ fact. length (cells_of dims fact.region) ≤ MAX_CELLS) fs) first apportioning.sizes),
          length-filter (is_among (cells_of dims region)) (cells_of dims f.region),
          count_by-le-length (is_among (cells_of dims region)) (cells_of dims f.region),
        )

    pub apportion-next : (spot : Option ℕ) (portion : ℕ) (later : List ℕ) → spot ≡ get_or spots i spot → portion ≡ portion_by dims region portions f spot → later ≡ found ++ portion ∷ [] → Apportioning dims region portions facts spots others (i + 1) later
    apportion-next spot portion later is_spot is is_later = record {
      all =
          ap (λ (ns : List ℕ). ns ++ portions_by dims region portions others (drop (i + 1) spots)) is_later
          ∙ append_assoc found (portion ∷ []) (portions_by dims region portions others (drop (i + 1) spots))
          ∙ ap (λ n. found ++ n ∷ portions_by dims region portions others (drop (i + 1) spots)) is
          ∙ ap (λ (ss : List (Option ℕ)). found ++ portions_by dims region portions (f ∷ others) ss) (ap (λ s. s ∷ drop (i + 1) spots) is_spot ∙ sym (drop_more spots i spot apportion-within))
          ∙ ap (λ (fs : List Fact). found ++ portions_by dims region portions fs (drop i spots)) (sym first)
          ∙ apportioning.all;
      long = omega (arith, apportioning.long, ap (λ (fs : List Fact). length fs) first);
      regions = All-tail (λ fact. IsRegion dims fact.region) f others (subst (λ (fs : List Fact). All (λ fact. IsRegion dims fact.region) fs) first apportioning.regions);
      sizes = All-tail (λ fact. length (cells_of dims fact.region) ≤ MAX_CELLS) f others (subst (λ (fs : List Fact). All (λ fact. length (cells_of dims fact.region) ≤ MAX_CELLS) fs) first apportioning.sizes);
    }
