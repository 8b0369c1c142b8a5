-- How places stand, and how they are to stand, as two lists.
use Rattle.iter_alloc.specs.declared.rounds.Place.{Place}
use Rattle.iter_alloc.specs.Forest.{at}
use Rattle.iter_alloc.specs.Places.{AreLevels, LEVEL_LIMIT, levels_in, nexts_in}
use Rattle.iter_alloc.specs.Rounds.{share_by, share_of}
use Rattle.std.specs.List.{sum_by}
use Rattle.std.proofs.Common.{◌≡◌, ℕ, ◌+◌, ◌<◌, ◌≤◌, List, ◌++◌, get_or, set, take, length, refl, ap, sym, ◌∙◌, subst, arith, inl, inr, ◌⊎◌}
use Rattle.std.proofs.lemmas.Bool.{cases_lt}
use Rattle.std.proofs.lemmas.List.{get_or-map, get_or-set_other, get_or-set_same, get_or_default, length-map, length-set, map-set, same_lists}
use Rattle.std.proofs.Math.Seq.{map-set_same, take-append_seam}
use Rattle.std.specs.Prelude.{All}

-- in place of one that is not there
abbrev pub none : Place
none = record { level = 0; next = 0 }

-- the first so many are what so many were
pub taken : (n : ℕ) (xs ys : List Place) → length xs ≡ n → take n (xs ++ ys) ≡ xs
taken n xs ys long = subst (λ k. take k (xs ++ ys) ≡ xs) long (take-append_seam xs ys)

pub levels-long : (places : List Place) → length (levels_in places) ≡ length places
levels-long places = length-map places (λ (p : Place). p.level)

pub nexts-long : (places : List Place) → length (nexts_in places) ≡ length places
nexts-long places = length-map places (λ (p : Place). p.next)

pub level-at : (places : List Place) (i : ℕ) → i < length places → at (levels_in places) i ≡ (get_or places i none).level
level-at places i within = get_or-map (λ (p : Place). p.level) places i none 0 within

pub next-at : (places : List Place) (i : ℕ) → i < length places → at (nexts_in places) i ≡ (get_or places i none).next
next-at places i within = get_or-map (λ (p : Place). p.next) places i none 0 within

pub in-levels : (places : List Place) (own : List ℕ) → All (λ i. i < length places) own → All (λ i. i < length (levels_in places)) own
in-levels places own within k d inside = omega (arith, within k d inside, levels-long places)

pub level-low : (places : List Place) → AreLevels (levels_in places) → (x : ℕ) → x < length places → (get_or places x none).level ≤ LEVEL_LIMIT
level-low places low x within = omega (arith, level-at places x within, low x 0 (omega (arith, within, levels-long places)))

-- a share by a place and by a mass is one by all places
pub share-at : (places : List Place) (own : List ℕ) (x : ℕ) → x < length places → (shared sum count : ℕ) → shared ≡ share_of (get_or places x none).level sum count → sum ≡ sum_by (at (levels_in places)) own → count ≡ length own
    → shared ≡ share_by (at (levels_in places)) own x
share-at places own x within shared sum count is_shared is_sum is_count =
    is_shared
    ∙ ap (λ n. share_of n sum count) (sym (level-at places x within))
    ∙ ap (λ n. share_of (at (levels_in places) x) n count) is_sum
    ∙ ap (λ n. share_of (at (levels_in places) x) (sum_by (at (levels_in places)) own) n) is_count

-- a place is to stand higher
pub raised-levels : (places : List Place) (x more : ℕ) → levels_in (set places x (record { level = (get_or places x none).level; next = more })) ≡ levels_in places
raised-levels places x more = map-set_same (λ (p : Place). p.level) places x (record { level = (get_or places x none).level; next = more }) none refl

pub raised-nexts : (places : List Place) (x gets : ℕ) → x < length places
    → nexts_in (set places x (record { level = (get_or places x none).level; next = (get_or places x none).next + gets })) ≡ set (nexts_in places) x (at (nexts_in places) x + gets)
raised-nexts places x gets within =
    map-set (λ (p : Place). p.next) places x (record { level = (get_or places x none).level; next = (get_or places x none).next + gets }) ∙ ap (λ n. set (nexts_in places) x (n + gets)) (sym (next-at places x within))

-- the places before one stand as they were to stand, and begin anew
pub record Renewing (begun : List ℕ) (old : List Place) (i : ℕ) (places : List Place) : Type 0 where
  pub as_many : length places ≡ length old
  pub before : (j : ℕ) → j < i → get_or places j none ≡ record { level = (get_or old j none).next; next = get_or begun j 0 }
  pub behind : (j : ℕ) → i ≤ j → get_or places j none ≡ get_or old j none

pub renewing-start : (begun : List ℕ) (old : List Place) → Renewing begun old 0 old
renewing-start begun old = record { as_many = refl; before = λ j below. absurd (omega (arith, below)); behind = λ j above. refl }

module _ (begun : List ℕ) (old : List Place) (i : ℕ) (places : List Place) (renewing : Renewing begun old i places) where
  module _ (within : i < length places) (renewed : Place) (is : renewed ≡ record { level = (get_or places i none).next; next = get_or begun i 0 }) where
    here : get_or (set places i renewed) i none ≡ record { level = (get_or old i none).next; next = get_or begun i 0 }
    here = get_or-set_same places i renewed none within ∙ is ∙ ap (λ (p : Place). record { level = p.next; next = get_or begun i 0 }) (renewing.behind i (omega arith))

    elsewhere : (j : ℕ) → (i ≡ j → ⊥) → get_or (set places i renewed) j none ≡ get_or places j none
    elsewhere j other = get_or-set_other places i j renewed none (λ same. other (sym same))

    pub renewing-next : Renewing begun old (i + 1) (set places i renewed)
    renewing-next = record {
      as_many = length-set places i renewed ∙ renewing.as_many;
      before = λ j below. either j below (cases_lt j i);
      behind = λ j above. elsewhere j (λ same. absurd (omega (arith, same, above))) ∙ renewing.behind j (omega (arith, above));
    }
      where
        either : (j : ℕ) → j < i + 1 → (j < i) ⊎ (i ≤ j) → get_or (set places i renewed) j none ≡ record { level = (get_or old j none).next; next = get_or begun j 0 }
        either j below (inl sooner) = elsewhere j (λ same. absurd (omega (arith, same, sooner))) ∙ renewing.before j sooner
        either j below (inr last) =
            let same : i ≡ j = omega (arith, below, last) in
            subst (λ k. get_or (set places i renewed) k none ≡ record { level = (get_or old k none).next; next = get_or begun k 0 }) same here

  module _ (as_many : length old ≡ length begun) (all : i ≡ length begun) where
    at-all : (k : ℕ) → k < length old → get_or places k none ≡ record { level = (get_or old k none).next; next = get_or begun k 0 }
    at-all k within = renewing.before k (omega (arith, within, as_many, all))

    pub renewed-levels : levels_in places ≡ nexts_in old
    renewed-levels = same_lists (levels_in places) (nexts_in old) (levels-long places ∙ renewing.as_many ∙ sym (nexts-long old)) (λ k d within. each k d (omega (arith, within, levels-long places, renewing.as_many)))
      where
        each : (k d : ℕ) → k < length old → get_or (levels_in places) k d ≡ get_or (nexts_in old) k d
        each k d within =
            get_or-map (λ (p : Place). p.level) places k none d (omega (arith, within, renewing.as_many))
            ∙ ap (λ (p : Place). p.level) (at-all k within)
            ∙ sym (get_or-map (λ (p : Place). p.next) old k none d within)

    pub renewed-nexts : nexts_in places ≡ begun
    renewed-nexts = same_lists (nexts_in places) begun (nexts-long places ∙ renewing.as_many ∙ as_many) (λ k d within. each k d (omega (arith, within, nexts-long places, renewing.as_many)))
      where
        each : (k d : ℕ) → k < length old → get_or (nexts_in places) k d ≡ get_or begun k d
        each k d within =
            get_or-map (λ (p : Place). p.next) places k none d (omega (arith, within, renewing.as_many))
            ∙ ap (λ (p : Place). p.next) (at-all k within)
            ∙ get_or_default begun k 0 d (omega (arith, within, as_many))
