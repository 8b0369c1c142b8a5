-- Which ids an edit refreshes, told by the groups that are spread otherwise.
use Rattle.std.proofs.Common.{◌≡◌, ℕ, ◌<◌, Bool, true, false, List, [], ◌∷◌, length, map, refl, ap, sym, ◌∙◌, arith}
use Rattle.std.specs.Prelude.{All, AllPairs, IfSome, Option, Some, None, filter, find, not, ◌&&◌, ◌||◌, ◌==◌, if◌then◌else◌}
use Rattle.std.specs.List.{flat_map, list_any}
use Rattle.std.specs.Option.{option_map_or}
use Rattle.std.proofs.lemmas.Bool.Decides.{nat_tests}
use Rattle.std.proofs.lemmas.List.Folds.{list_any-append}
use Rattle.cube_model.specs.declared.edit.Edit.{Edit}
use Rattle.cube_model.specs.declared.edit.Fact.{Fact}
use Rattle.cube_model.specs.Allocation.{Policy}
use Rattle.cube_model.specs.Cells.{is_among}
use Rattle.cube_model.specs.Difference.{is_same, refreshed}
use Rattle.cube_model.specs.Facts.{after, is_precise}
use Rattle.cube_model.specs.Tree.{Dimension, IsTree}
use Rattle.region_algebra.specs.Space.{IsRegion, code_of}
use Rattle.fact_groups.specs.Changes.{holds_any, reweighed_cells}
use Rattle.fact_groups.specs.Edits.{edited_id, given}
use Rattle.fact_groups.specs.Groups.{Group, HaveSameGroupsBut, column_sums, facts_with, group_at, has_code, spread_at}
use Rattle.fact_groups.specs.Refreshed.{imprecise_ids, is_new_or_moved, is_refreshed, is_respread, is_spread_anew, is_spread_otherwise, respread_codes}
use Rattle.fact_groups.proofs.Edits.{find-after}
use Rattle.fact_groups.proofs.Groups.{first-holds, group_at-region, kept-some}
use Rattle.fact_groups.proofs.Refreshing.{among-kept, among-refreshed, any-found, found-has, otherwise, same_allocation}
use Rattle.fact_groups.proofs.Statistics.{passing-are}

-- what is among the lists of some numbers is among one of them
among-each : (h : ℕ → List ℕ) (codes : List ℕ) (id : ℕ) → is_among (flat_map h codes) id ≡ list_any (λ code. is_among (h code) id) codes
among-each h [] id = refl
among-each h (code ∷ codes) id = list_any-append (λ n. n == id) (h code) (flat_map h codes) ∙ ap (λ b. is_among (h code) id || b) (among-each h codes id)

any-alike : (p q : ℕ → Bool) (codes : List ℕ) → ((code : ℕ) → p code ≡ q code) → list_any p codes ≡ list_any q codes
any-alike p q [] each = refl
any-alike p q (code ∷ codes) each = ap (λ b. b || list_any p codes) (each code) ∙ ap (λ b. q code || b) (any-alike p q codes each)

any-never : (codes : List ℕ) → list_any (λ code. false) codes ≡ false
any-never [] = refl
any-never (code ∷ codes) = any-never codes

-- a code is one of some
any-is : (c : ℕ) (b : Bool) (codes : List ℕ) → list_any (λ code. c == code && b) codes ≡ (is_among codes c && b)
any-is c b [] = refl
any-is c b (code ∷ codes) = let rest = any-is c b codes in grind (arith, nat_tests, rest)

-- the ids at codes are those of the imprecise facts whose regions have one of the codes
among-imprecise : (dims : List Dimension) (facts : List Fact) (codes : List ℕ) (id : ℕ) → AllPairs (λ f g. f.id < g.id) facts
    → is_among (imprecise_ids dims facts codes) id ≡ option_map_or (λ f. is_among codes (code_of dims f.region) && not (is_precise dims f)) (find (λ f. f.id == id) facts) false
among-imprecise dims facts codes id up =
    among-each (λ code. map (λ f. f.id) (filter (λ f. has_code dims code f && not (is_precise dims f)) facts)) codes id
    ∙ any-alike (λ code. is_among (map (λ f. f.id) (filter (λ f. has_code dims code f && not (is_precise dims f)) facts)) id)
    (λ code. option_map_or (λ f. has_code dims code f && not (is_precise dims f)) (find (λ f. f.id == id) facts) false) codes
    (λ code. among-kept id (λ f. has_code dims code f && not (is_precise dims f)) facts ∙ any-found id (λ f. has_code dims code f && not (is_precise dims f)) facts up)
    ∙ either (find (λ f. f.id == id) facts)
  where
    either : (found : Option Fact) → list_any (λ code. option_map_or (λ f. has_code dims code f && not (is_precise dims f)) found false) codes
        ≡ option_map_or (λ f. is_among codes (code_of dims f.region) && not (is_precise dims f)) found false
    either None = any-never codes
    either (Some f) = any-is (code_of dims f.region) (not (is_precise dims f)) codes

module _ (policy : Policy) (dims : List Dimension) (edit : Edit) (facts : List Fact) (up : AllPairs (λ f g. f.id < g.id) facts) where
  abbrev later : List Fact
  later = after edit facts

  -- the fact that the edit gives
  pub edited-refreshed : is_among (refreshed policy dims facts later) (edited_id edit) ≡ option_map_or (is_new_or_moved policy dims edit facts) (given edit) false
  edited-refreshed =
      let its_own : (edited_id edit == edited_id edit) ≡ true = grind (arith, nat_tests) in
      let found : find (λ f. f.id == edited_id edit) later ≡ given edit =
      find-after edit facts (edited_id edit) ∙ ap (λ (b : Bool). if b then given edit else find (λ f. f.id == edited_id edit) facts) its_own in
      among-refreshed policy dims edit facts up (edited_id edit) ∙ ap (λ o. option_map_or (is_refreshed policy dims edit facts) o false) found ∙ either (given edit) found
    where
      either : (gave : Option Fact) → find (λ f. f.id == edited_id edit) later ≡ gave → option_map_or (is_refreshed policy dims edit facts) gave false ≡ option_map_or (is_new_or_moved policy dims edit facts) gave false
      either None found = refl
      either (Some fact) found =
          let its : fact.id ≡ edited_id edit = found-has (edited_id edit) later fact found in
          let same : (edited_id edit == fact.id) ≡ true = grind (arith, nat_tests) in
          ap (λ (b : Bool). if b then is_new_or_moved policy dims edit facts fact else is_spread_anew policy dims edit facts fact) same

  -- a fact of one cell is not spread otherwise
  spread-imprecise : (fact : Fact) → is_spread_otherwise policy dims edit facts fact.region fact.region ≡ (is_spread_otherwise policy dims edit facts fact.region fact.region && not (is_precise dims fact))
  spread-imprecise fact =
      imprecise (is_precise dims fact) (holds_any dims fact.region (reweighed_cells policy dims edit facts)) (is_spread_otherwise policy dims edit facts fact.region fact.region) (otherwise policy dims edit facts up fact)
    where
      imprecise : (precise holds spread : Bool) → spread ≡ ((not precise && holds) && spread) → spread ≡ (spread && not precise)
      imprecise true holds spread is = is ∙ sym (ap (λ (b : Bool). b && false) is)
      imprecise false holds true is = refl
      imprecise false holds false is = refl

  is_imprecise : (spread precise : Bool) → spread ≡ (spread && not precise) → spread ≡ true → precise ≡ false
  is_imprecise true true is does = cc
  is_imprecise true false is does = refl
  is_imprecise false precise is does = cc

  module _ (columns : ℕ) (codes : List ℕ) (trees : All IsTree dims) (regions : All (λ f. IsRegion dims f.region) facts) (later_regions : All (λ f. IsRegion dims f.region) later)
      (same : HaveSameGroupsBut codes policy columns dims facts later) where
    abbrev with_spread : List Fact → List Fact → List ℕ → Group
    with_spread among members region = record { spread = spread_at policy dims among region; count = length members; sums = column_sums columns members }

    -- the group of a region that facts have, before and afterwards, is spread as the region is
    respread-region : (region : List ℕ) → IsRegion dims region → (length (facts_with dims (code_of dims region) facts) == 0) ≡ false → (length (facts_with dims (code_of dims region) later) == 0) ≡ false
        → is_respread policy columns dims edit facts (code_of dims region) ≡ is_spread_otherwise policy dims edit facts region region
    respread-region region named some later_some =
        let members = facts_with dims (code_of dims region) facts in
        let later_members = facts_with dims (code_of dims region) later in
        let before = group_at-region policy columns dims facts region trees regions named ∙ ap (λ (b : Bool). if b then None else Some (with_spread facts members region)) some in
        let now = group_at-region policy columns dims later region trees later_regions named ∙ ap (λ (b : Bool). if b then None else Some (with_spread later later_members region)) later_some in
        ap (λ (o : Option Group). option_map_or (λ was. option_map_or (λ is. not (is_same was.spread is.spread)) (group_at policy columns dims later (code_of dims region)) false) o false) before
        ∙ ap (λ (o : Option Group). option_map_or (λ is. not (is_same (spread_at policy dims facts region) is.spread)) o false) now

    -- a group that stays is not
    respread-same : (code : ℕ) → is_among codes code ≡ false → is_respread policy columns dims edit facts code ≡ false
    respread-same code other =
        ap (λ (o : Option Group). option_map_or (λ was. option_map_or (λ is. not (is_same was.spread is.spread)) o false) (group_at policy columns dims facts code) false) (same code other)
        ∙ either (group_at policy columns dims facts code)
      where
        either : (o : Option Group) → option_map_or (λ was. option_map_or (λ is. not (is_same was.spread is.spread)) o false) o false ≡ false
        either None = refl
        either (Some g) = ap not (same_allocation g.spread)

    -- the facts that the edit does not give
    module _ (id : ℕ) (other : (edited_id edit == id) ≡ false) where
      stays : find (λ f. f.id == id) later ≡ find (λ f. f.id == id) facts
      stays = find-after edit facts id ∙ ap (λ (b : Bool). if b then given edit else find (λ f. f.id == id) facts) other

      respread-fact : (fact : Fact) → find (λ f. f.id == id) facts ≡ Some fact → is_among (respread_codes policy columns dims edit facts codes) (code_of dims fact.region) ≡ is_spread_otherwise policy dims edit facts fact.region fact.region
      respread-fact fact found =
          let here : has_code dims (code_of dims fact.region) fact ≡ true = grind (arith, nat_tests) in
          passing-are (is_respread policy columns dims edit facts) codes (code_of dims fact.region) (respread-same (code_of dims fact.region))
          ∙ respread-region fact.region (first-holds (λ f. IsRegion dims f.region) (λ f. f.id == id) facts fact regions found)
          (kept-some (has_code dims (code_of dims fact.region)) (λ f. f.id == id) facts fact found here)
          (kept-some (has_code dims (code_of dims fact.region)) (λ f. f.id == id) later fact (stays ∙ found) here)

      refreshed-fact : (fact : Fact) → find (λ f. f.id == id) facts ≡ Some fact → is_refreshed policy dims edit facts fact ≡ is_spread_otherwise policy dims edit facts fact.region fact.region
      refreshed-fact fact found =
          let its : fact.id ≡ id = found-has id facts fact found in
          ap (λ (b : Bool). if b then is_new_or_moved policy dims edit facts fact else is_spread_anew policy dims edit facts fact) (ap (λ n. edited_id edit == n) its ∙ other)
          ∙ sym (otherwise policy dims edit facts up fact)

      before-refreshed : is_among (refreshed policy dims facts later) id ≡ option_map_or (is_refreshed policy dims edit facts) (find (λ f. f.id == id) facts) false
      before-refreshed = among-refreshed policy dims edit facts up id ∙ ap (λ o. option_map_or (is_refreshed policy dims edit facts) o false) stays

      pub others-refreshed : is_among (refreshed policy dims facts later) id
          ≡ option_map_or (λ f. is_among (respread_codes policy columns dims edit facts codes) (code_of dims f.region)) (find (λ f. f.id == id) facts) false
      others-refreshed = before-refreshed ∙ either (find (λ f. f.id == id) facts) refl
        where
          either : (found : Option Fact) → find (λ f. f.id == id) facts ≡ found
              → option_map_or (is_refreshed policy dims edit facts) found false ≡ option_map_or (λ f. is_among (respread_codes policy columns dims edit facts codes) (code_of dims f.region)) found false
          either None is = refl
          either (Some fact) is = refreshed-fact fact is ∙ sym (respread-fact fact is)

      ids-refreshed : is_among (refreshed policy dims facts later) id ≡ is_among (imprecise_ids dims facts (respread_codes policy columns dims edit facts codes)) id
      ids-refreshed =
          before-refreshed ∙ either (find (λ f. f.id == id) facts) refl ∙ sym (among-imprecise dims facts (respread_codes policy columns dims edit facts codes) id up)
        where
          either : (found : Option Fact) → find (λ f. f.id == id) facts ≡ found → option_map_or (is_refreshed policy dims edit facts) found false
              ≡ option_map_or (λ f. is_among (respread_codes policy columns dims edit facts codes) (code_of dims f.region) && not (is_precise dims f)) found false
          either None is = refl
          either (Some fact) is = refreshed-fact fact is ∙ spread-imprecise fact ∙ ap (λ b. b && not (is_precise dims fact)) (sym (respread-fact fact is))

      pub imprecise-refreshed : is_among (refreshed policy dims facts later) id ≡ true → IfSome (find (λ f. f.id == id) facts) (λ f. is_precise dims f ≡ false)
      imprecise-refreshed among = either (find (λ f. f.id == id) facts) refl (sym before-refreshed ∙ among)
        where
          either : (found : Option Fact) → find (λ f. f.id == id) facts ≡ found → option_map_or (is_refreshed policy dims edit facts) found false ≡ true → IfSome found (λ f. is_precise dims f ≡ false)
          either None is never = tt
          either (Some fact) is does =
              is_imprecise (is_spread_otherwise policy dims edit facts fact.region fact.region) (is_precise dims fact) (spread-imprecise fact) (sym (refreshed-fact fact is) ∙ does)

    -- the ids, that of the edit's fact and those of others
    pub among-respread : (id : ℕ) → is_among (refreshed policy dims facts later) id
        ≡ (if edited_id edit == id then option_map_or (is_new_or_moved policy dims edit facts) (given edit) false else is_among (imprecise_ids dims facts (respread_codes policy columns dims edit facts codes)) id)
    among-respread id = either (edited_id edit == id) refl
      where
        either : (b : Bool) → (edited_id edit == id) ≡ b → is_among (refreshed policy dims facts later) id
            ≡ (if b then option_map_or (is_new_or_moved policy dims edit facts) (given edit) false else is_among (imprecise_ids dims facts (respread_codes policy columns dims edit facts codes)) id)
        either true is = let its : edited_id edit ≡ id = grind (arith, nat_tests) in ap (λ n. is_among (refreshed policy dims facts later) n) (sym its) ∙ edited-refreshed
        either false is = ids-refreshed id is
