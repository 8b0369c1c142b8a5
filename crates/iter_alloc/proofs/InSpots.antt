-- Spots of facts: each imprecise fact has the spot of its region, whose first fact is no later.
use Rattle.cube_model.specs.declared.edit.Fact.{Fact}
use Rattle.iter_alloc.specs.declared.spots.First.{First}
use Rattle.cube_model.proofs.Ascending.{ascends_first}
use Rattle.cube_model.specs.Ascending.{ascends_from}
use Rattle.cube_model.specs.Facts.{is_precise}
use Rattle.cube_model.specs.Tree.{Dimension}
use Rattle.fact_groups.proofs.Ascending.{ascends-from_pairs}
use Rattle.fact_records.specs.FactList.{IsAscending}
use Rattle.iter_alloc.proofs.Tests.{itself, equal, or-left, or-right}
use Rattle.iter_alloc.specs.Spotting.{first_of, Spotted, spot_codes, place_in, is_among_codes, spot_of, spot_in, spotted_next, spotted_all}
use Rattle.region_algebra.specs.Space.{code_of}
use Rattle.std.proofs.Common.{◌≡◌, ℕ, suc, ◌+◌, ◌<◌, ◌≤◌, Bool, true, false, List, [], ◌∷◌, ◌++◌, get_or, length, map, refl, ap, sym, ◌∙◌, subst, arith, inl, inr, ◌⊎◌}
use Rattle.std.proofs.lemmas.Bool.{cases_lt}
use Rattle.std.proofs.lemmas.List.{append-nil, append_assoc, length-map, get_or_append_left, length_push, get_or_push, map_push}
use Rattle.std.proofs.lemmas.List.Elements.{All-push, All-weaker, All-contains, Contains-append_left, Contains-push}
use Rattle.std.proofs.lemmas.List.Folds.{list_any-append}
use Rattle.std.specs.List.{fold, Contains}
use Rattle.std.specs.Prelude.{All, Option, Some, None, not, ◌||◌, if◌then◌else◌, AllPairs, nat_eq}

module _ (codes : List ℕ) (code : ℕ) where
  abbrev test : ℕ → Bool
  test c = nat_eq code c

pub place-within : (codes : List ℕ) (code : ℕ) → is_among_codes codes code ≡ true → (place_in codes code < length codes) × (get_or codes (place_in codes code) 0 ≡ code)
place-within [] code has = cc
place-within (c ∷ codes) code has = either (nat_eq code c) refl has (place-within codes code)
  where
    either : (b : Bool) → nat_eq code c ≡ b → (b || is_among_codes codes code) ≡ true → (is_among_codes codes code ≡ true → (place_in codes code < length codes) × (get_or codes (place_in codes code) 0 ≡ code))
        → ((if not b then 1 + place_in codes code else 0) < length (c ∷ codes)) × (get_or (c ∷ codes) (if not b then 1 + place_in codes code else 0) 0 ≡ code)
    either true is h rest = (omega arith, sym (equal code c is))
    either false is h rest = let later = rest h in (omega (arith, later.0), next-at (place_in codes code) (1 + place_in codes code) (omega arith) later.1)
      where
        next-at : (k m : ℕ) → m ≡ k + 1 → get_or codes k 0 ≡ code → get_or (c ∷ codes) m 0 ≡ code
        next-at k m is found = let up : suc k ≡ m = omega (arith, is) in subst (λ n. get_or (c ∷ codes) n 0 ≡ code) up found

-- a code that is there keeps its place
pub place-kept : (codes more : List ℕ) (code : ℕ) → is_among_codes codes code ≡ true → place_in (codes ++ more) code ≡ place_in codes code
place-kept [] more code has = cc
place-kept (c ∷ codes) more code has = either (nat_eq code c) has (place-kept codes more code)
  where
    either : (b : Bool) → (b || is_among_codes codes code) ≡ true → (is_among_codes codes code ≡ true → place_in (codes ++ more) code ≡ place_in codes code)
        → (if not b then 1 + place_in (codes ++ more) code else 0) ≡ (if not b then 1 + place_in codes code else 0)
    either true h rest = refl
    either false h rest = ap (λ n. 1 + n) (rest h)

-- and one that is not has its place behind them
pub place-new : (codes more : List ℕ) (code : ℕ) → is_among_codes codes code ≡ false → place_in (codes ++ code ∷ more) code ≡ length codes
place-new [] more code has = ap (λ (b : Bool). if not b then 1 + place_in more code else 0) (itself code)
place-new (c ∷ codes) more code has = either (nat_eq code c) has (place-new codes more code)
  where
    either : (b : Bool) → (b || is_among_codes codes code) ≡ false → (is_among_codes codes code ≡ false → place_in (codes ++ code ∷ more) code ≡ length codes)
        → (if not b then 1 + place_in (codes ++ code ∷ more) code else 0) ≡ length (c ∷ codes)
    either true h rest = cc
    either false h rest = omega (arith, rest h)

pub place-absent : (codes : List ℕ) (code : ℕ) → is_among_codes codes code ≡ false → place_in codes code ≡ length codes
place-absent [] code has = refl
place-absent (c ∷ codes) code has = either (nat_eq code c) has (place-absent codes code)
  where
    either : (b : Bool) → (b || is_among_codes codes code) ≡ false → (is_among_codes codes code ≡ false → place_in codes code ≡ length codes) → (if not b then 1 + place_in codes code else 0) ≡ length (c ∷ codes)
    either true h rest = cc
    either false h rest = omega (arith, rest h)

-- the first of a spot is a fact that is imprecise
pub record IsFirst (dims : List Dimension) (facts : List Fact) (first : First) : Type 0 where
  pub fact : Fact
  pub among : Contains facts fact
  pub several : is_precise dims fact ≡ false
  pub is : first_of fact ≡ first

-- a fact has a spot, whose first fact is no later
pub record HasSpot (dims : List Dimension) (firsts : List First) (fact : Fact) : Type 0 where
  pub has : is_among_codes (spot_codes dims firsts) (code_of dims fact.region) ≡ true
  pub least : (d : First) → (get_or firsts (spot_of dims firsts fact) d).id ≤ fact.id

pub record AreSpotted (dims : List Dimension) (facts : List Fact) (spotted : Spotted) : Type 0 where
  pub spots : spotted.spots ≡ map (spot_in dims spotted.firsts) facts
  pub each : All (λ f. is_precise dims f ≡ false → HasSpot dims spotted.firsts f) facts
  pub firsts : All (IsFirst dims facts) spotted.firsts
  pub order : AllPairs (λ g h. g.id < h.id) spotted.firsts

map-alike : {X Y : Type 0} (f g : X → Y) (xs : List X) → All (λ x. f x ≡ g x) xs → map f xs ≡ map g xs
map-alike f g [] same = refl
map-alike f g (x ∷ xs) same = ap (λ y. y ∷ map f xs) (same 0 x (omega arith)) ∙ ap (λ ys. g x ∷ ys) (map-alike f g xs (λ k d within. same (suc k) d (omega arith)))

pairs-push : {X : Type 0} (key : X → ℕ) (xs : List X) (y : X) → AllPairs (λ g h. key g < key h) xs → All (λ x. key x < key y) xs → AllPairs (λ g h. key g < key h) (xs ++ y ∷ [])
pairs-push key xs y pairs below i j d before within = either (cases_lt j (length xs))
  where
    either : (j < length xs) ⊎ (length xs ≤ j) → key (get_or (xs ++ y ∷ []) i d) < key (get_or (xs ++ y ∷ []) j d)
    either (inl there) =
        let first = ap key (get_or_append_left xs (y ∷ []) d i (omega (arith, before, there))) in
        let second = ap key (get_or_append_left xs (y ∷ []) d j there) in
        omega (arith, first, second, pairs i j d before there)
    either (inr last) =
        let is : j ≡ length xs = omega (arith, last, within, length_push xs y) in
        let first = ap key (get_or_append_left xs (y ∷ []) d i (omega (arith, before, is))) in
        let second = ap key (get_or_push xs y d j (sym is)) in
        omega (arith, first, second, below i d (omega (arith, before, is)))

module _ (dims : List Dimension) (facts : List Fact) (spotted : Spotted) (are : AreSpotted dims facts spotted) (f : Fact) (later : All (λ g. g.id < f.id) facts) where
  abbrev code : ℕ
  code = code_of dims f.region

  abbrev codes : List ℕ
  codes = spot_codes dims spotted.firsts

  first-more : (first : First) → IsFirst dims facts first → IsFirst dims (facts ++ f ∷ []) first
  first-more first is = record { fact = is.fact; among = Contains-append_left facts (f ∷ []) is.fact is.among; several = is.several; is = is.is }

  first-below : (first : First) → IsFirst dims facts first → first.id < f.id
  first-below first is = omega (arith, All-contains (λ g. g.id < f.id) facts is.fact later is.among, ap (λ (g : First). g.id) is.is)

  -- with as many firsts
  same-firsts : (spot : Option ℕ) → spot ≡ spot_in dims spotted.firsts f → (is_precise dims f ≡ false → HasSpot dims spotted.firsts f)
      → AreSpotted dims (facts ++ f ∷ []) (record { firsts = spotted.firsts; spots = spotted.spots ++ spot ∷ [] })
  same-firsts spot is has = record {
    spots = ap (λ ss. ss ++ spot ∷ []) are.spots ∙ ap (λ s. map (spot_in dims spotted.firsts) facts ++ s ∷ []) is ∙ sym (map_push (spot_in dims spotted.firsts) facts f);
    each = All-push (λ f. is_precise dims f ≡ false → HasSpot dims spotted.firsts f) facts f are.each has;
    firsts = All-weaker (IsFirst dims facts) (IsFirst dims (facts ++ f ∷ [])) first-more spotted.firsts are.firsts;
    order = are.order;
  }

  -- with one more
  module _ (several : is_precise dims f ≡ false) (absent : is_among_codes codes code ≡ false) where
    abbrev firsts : List First
    firsts = spotted.firsts ++ first_of f ∷ []

    codes-more : spot_codes dims firsts ≡ codes ++ code ∷ []
    codes-more = map_push (λ (g : First). code_of dims g.region) spotted.firsts (first_of f)

    spot-kept : (g : Fact) → HasSpot dims spotted.firsts g → spot_of dims firsts g ≡ spot_of dims spotted.firsts g
    spot-kept g has = ap (λ (cs : List ℕ). place_in cs (code_of dims g.region)) codes-more ∙ place-kept codes (code ∷ []) (code_of dims g.region) has.has

    spot-in : (g : Fact) (b : Bool) → is_precise dims g ≡ b → (is_precise dims g ≡ false → HasSpot dims spotted.firsts g) → spot_in dims spotted.firsts g ≡ spot_in dims firsts g
    spot-in g true is has = ap (λ (b : Bool). if b then None else Some (spot_of dims spotted.firsts g)) is ∙ sym (ap (λ (b : Bool). if b then None else Some (spot_of dims firsts g)) is)
    spot-in g false is has = ap (λ n. if is_precise dims g then None else Some n) (sym (spot-kept g (has is)))

    has-kept : (g : Fact) → HasSpot dims spotted.firsts g → HasSpot dims firsts g
    has-kept g has =
        let at_place = place-within codes (code_of dims g.region) has.has in
        let within : spot_of dims spotted.firsts g < length spotted.firsts = omega (arith, at_place.0, length-map spotted.firsts (λ (h : First). code_of dims h.region)) in
        record {
          has = ap (λ (cs : List ℕ). is_among_codes cs (code_of dims g.region)) codes-more ∙ list_any-append (λ c. nat_eq (code_of dims g.region) c) codes (code ∷ []) ∙ or-left (is_among_codes codes (code_of dims g.region)) (is_among_codes (code ∷ []) (code_of dims g.region)) has.has;
          least = λ d. omega (arith, has.least d, ap (λ k. (get_or firsts k d).id) (spot-kept g has), ap (λ (h : First). h.id) (get_or_append_left spotted.firsts (first_of f ∷ []) d (spot_of dims spotted.firsts g) within));
        }

    new-place : spot_of dims firsts f ≡ length spotted.firsts
    new-place = ap (λ (cs : List ℕ). place_in cs code) codes-more ∙ place-new codes [] code absent ∙ length-map spotted.firsts (λ (h : First). code_of dims h.region)

    old-place : spot_of dims spotted.firsts f ≡ length spotted.firsts
    old-place = place-absent codes code absent ∙ length-map spotted.firsts (λ (h : First). code_of dims h.region)

    new-has : HasSpot dims firsts f
    new-has = record {
      has = ap (λ (cs : List ℕ). is_among_codes cs code) codes-more ∙ list_any-append (λ c. nat_eq code c) codes (code ∷ []) ∙ or-right (is_among_codes codes code) (is_among_codes (code ∷ []) code) (or-left (nat_eq code code) false (itself code));
      least = λ d. omega (arith, ap (λ k. (get_or firsts k d).id) new-place, ap (λ (h : First). h.id) (get_or_push spotted.firsts (first_of f) d (length spotted.firsts) refl));
    }

    new-spot : spot_in dims spotted.firsts f ≡ spot_in dims firsts f
    new-spot = ap (λ n. if is_precise dims f then None else Some n) (old-place ∙ sym new-place)

    more-firsts : AreSpotted dims (facts ++ f ∷ []) (record { firsts = firsts; spots = spotted.spots ++ spot_in dims spotted.firsts f ∷ [] })
    more-firsts = record {
      spots =
          ap (λ ss. ss ++ spot_in dims spotted.firsts f ∷ []) (are.spots ∙ map-alike (spot_in dims spotted.firsts) (spot_in dims firsts) facts (λ k d within. spot-in (get_or facts k d) (is_precise dims (get_or facts k d)) refl (are.each k d within)))
          ∙ ap (λ s. map (spot_in dims firsts) facts ++ s ∷ []) new-spot
          ∙ sym (map_push (spot_in dims firsts) facts f);
      each = All-push (λ f. is_precise dims f ≡ false → HasSpot dims firsts f) facts f (λ k d within several. has-kept (get_or facts k d) (are.each k d within several)) (λ several. new-has);
      firsts =
          All-push (IsFirst dims (facts ++ f ∷ [])) spotted.firsts (first_of f) (All-weaker (IsFirst dims facts) (IsFirst dims (facts ++ f ∷ [])) first-more spotted.firsts are.firsts)
          (record { fact = f; among = Contains-push facts f; several = several; is = refl });
      order = pairs-push (λ (g : First). g.id) spotted.firsts (first_of f) are.order (All-weaker (IsFirst dims facts) (λ g. g.id < f.id) first-below spotted.firsts are.firsts);
    }

  -- the region of an imprecise fact may be one that is there
  old-has : is_among_codes codes code ≡ true → HasSpot dims spotted.firsts f
  old-has has = record { has = has; least = λ d. omega (arith, first-below (get_or spotted.firsts (spot_of dims spotted.firsts f) d) (are.firsts (spot_of dims spotted.firsts f) d within)) }
    where
      within : spot_of dims spotted.firsts f < length spotted.firsts
      within = omega (arith, (place-within codes code has).0, length-map spotted.firsts (λ (h : First). code_of dims h.region))

  pub spotted-more : AreSpotted dims (facts ++ f ∷ []) (spotted_next dims spotted f)
  spotted-more = either (is_precise dims f) refl (is_among_codes codes code) refl
    where
      either : (b : Bool) → is_precise dims f ≡ b → (h : Bool) → is_among_codes codes code ≡ h
          → AreSpotted dims (facts ++ f ∷ []) (record { firsts = if b then spotted.firsts else (if h then spotted.firsts else spotted.firsts ++ first_of f ∷ []); spots = spotted.spots ++ spot_in dims spotted.firsts f ∷ [] })
      either true precise h has = same-firsts (spot_in dims spotted.firsts f) refl (λ several. absurd (cc (precise, several)))
      either false several true has = same-firsts (spot_in dims spotted.firsts f) refl (λ _. old-has has)
      either false several false has = more-firsts several has

spotted-rest : (dims : List Dimension) (done : List Fact) (spotted : Spotted) (least : ℕ) (rest : List Fact) → AreSpotted dims done spotted → All (λ g. g.id < least) done → ascends_from (λ f. f.id) least rest ≡ true
    → AreSpotted dims (done ++ rest) (fold (spotted_next dims) spotted rest)
spotted-rest dims done spotted least [] are below ascends = subst (λ (fs : List Fact). AreSpotted dims fs spotted) (sym (append-nil done)) are
spotted-rest dims done spotted least (f ∷ rest) are below ascends =
    let first = ascends_first (λ (f : Fact). f.id) least f rest ascends in
    let now = All-weaker (λ (g : Fact). g.id < least) (λ g. g.id < f.id) (λ g under. omega (arith, under, first.from)) done below in
    let under = All-push (λ (g : Fact). g.id < f.id + 1) done f (All-weaker (λ (g : Fact). g.id < least) (λ g. g.id < f.id + 1) (λ g low. omega (arith, low, first.from)) done below) (omega arith) in
    subst (λ (fs : List Fact). AreSpotted dims fs (fold (spotted_next dims) (spotted_next dims spotted f) rest)) (append_assoc done (f ∷ []) rest)
    (spotted-rest dims (done ++ f ∷ []) (spotted_next dims spotted f) (f.id + 1) rest (spotted-more dims done spotted are f now) under first.others)

pub facts-spotted : (dims : List Dimension) (facts : List Fact) → IsAscending facts → AreSpotted dims facts (spotted_all dims facts)
unfolding spotted_all
facts-spotted dims facts ascends =
    spotted-rest dims [] (record { firsts = []; spots = [] }) 0 facts
    (record { spots = refl; each = λ k d within. absurd (omega arith); firsts = λ k d within. absurd (omega arith); order = λ i j d before within. absurd (omega arith) })
    (λ k d within. absurd (omega arith)) (ascends-from_pairs (λ f. f.id) 0 facts ascends (λ i d within. omega arith))
