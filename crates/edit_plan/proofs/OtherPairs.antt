-- The ids of imprecise facts whose regions have some codes, but for one id, each with the code.
use Rattle.std.proofs.Common.{◌≡◌, ℕ, ◌+◌, ◌<◌, ◌≤◌, Bool, true, false, List, [], ◌∷◌, ◌++◌, map, get_or, refl, ap, sym, ◌∙◌, subst, inl, inr, arith}
use Rattle.std.specs.Prelude.{All, AllPairs, IfSome, Option, Some, None, filter, find, not, ◌&&◌, ◌||◌, ◌==◌, if◌then◌else◌}
use Rattle.std.specs.List.{count_by, list_any, sum_by}
use Rattle.std.specs.Option.{option_map_or, option_to_list}
use Rattle.std.proofs.lemmas.Bool.{cases_eq}
use Rattle.std.proofs.lemmas.Bool.Decides.{nat_tests}
use Rattle.std.proofs.lemmas.List.Elements.{All-map}
use Rattle.std.proofs.lemmas.List.Folds.{list_any-append, list_any_at}
use Rattle.std.proofs.lemmas.List.Sums.{sum_by-append, sum_by-cons, sum_by-le-sum_by}
use Rattle.cube_model.specs.declared.edit.Fact.{Fact}
use Rattle.cube_model.specs.Ascending.{ascends_from}
use Rattle.cube_model.specs.Cells.{is_among}
use Rattle.cube_model.specs.Tree.{Dimension}
use Rattle.cube_model.proofs.Ascending.{any-turned, ascends_filter, ascends_map}
use Rattle.region_algebra.specs.Space.{code_of}
use Rattle.region_index.specs.Content.{AreAscending}
use Rattle.region_index.specs.Indexed.{is_indexed_at}
use Rattle.fact_groups.specs.Refreshed.{imprecise_ids}
use Rattle.fact_groups.proofs.Ascending.{ascends-from_pairs, once_among}
use Rattle.fact_groups.proofs.Filters.{sum_by-filter-le}
use Rattle.fact_groups.proofs.Groups.{sum_by-map}
use Rattle.fact_groups.proofs.Refreshing.{among-kept, any-found}
use Rattle.fact_groups.proofs.Statistics.{among-filter}
use Rattle.cube_state.specs.State.{ids_with}
use Rattle.edit_plan.specs.Refreshing.{others_at, others_with}
use Rattle.edit_plan.proofs.FlatLists.{All-flat, any-alike, any-flat, sum_by-flat}

pub any-map : {X Y : Type 0} (p : Y → Bool) (h : X → Y) (xs : List X) → list_any p (map h xs) ≡ list_any (λ x. p (h x)) xs
any-map p h [] = refl
any-map p h (x ∷ xs) = ap (λ b. p (h x) || b) (any-map p h xs)

-- what holds of each number that is among some holds of each of these
All-among : (P : ℕ → Type 0) (xs : List ℕ) → ((n : ℕ) → is_among xs n ≡ true → P n) → All P xs
All-among P xs each k d within = each (get_or xs k d) (list_any_at (λ m. m == get_or xs k d) xs k d within (grind (arith, nat_tests)))

any-and : (b : Bool) (p : ℕ → Bool) (codes : List ℕ) → list_any (λ code. b && p code) codes ≡ (b && list_any p codes)
any-and true p codes = refl
any-and false p [] = refl
any-and false p (code ∷ codes) = any-and false p codes

module _ (dims : List Dimension) (facts : List Fact) (up : AllPairs (λ f g. f.id < g.id) facts) where
  -- an id is there at a code where its fact is imprecise and its region has the code
  among-with : (code n : ℕ) → is_among (ids_with dims facts code) n ≡ option_map_or (is_indexed_at dims code) (find (λ f. f.id == n) facts) false
  among-with code n = among-kept n (is_indexed_at dims code) facts ∙ any-found n (is_indexed_at dims code) facts up

  pub ascends-with : (code : ℕ) → ascends_from (λ n. n) 0 (ids_with dims facts code) ≡ true
  ascends-with code =
      ascends_map (λ (n : ℕ). n) (λ (f : Fact). f.id) 0 (filter (is_indexed_at dims code) facts)
      ∙ ascends_filter (λ (f : Fact). f.id) (is_indexed_at dims code) 0 facts (ascends-from_pairs (λ (f : Fact). f.id) 0 facts up (λ k d within. omega arith))

  -- so it is there once at most, and at one code alone
  once-with : (n code : ℕ) → count_by (λ x. n == x) (ids_with dims facts code) ≤ option_map_or (λ f. if code_of dims f.region == code then 1 else 0) (find (λ f. f.id == n) facts) 0
  once-with n code =
      let once = once_among 0 (ids_with dims facts code) (ascends-with code) n in
      let here = any-turned n (ids_with dims facts code) ∙ among-with code n in
      omega (arith, once, ap {B = ℕ} (λ (b : Bool). if b then 1 else 0) here, either (find (λ f. f.id == n) facts))
    where
      within : (a b : Bool) → (if a && b then 1 else 0) ≤ (if a then 1 else 0)
      within true true = omega arith
      within true false = omega arith
      within false b = omega arith

      either : (found : Option Fact) → (if option_map_or (is_indexed_at dims code) found false then 1 else 0) ≤ option_map_or (λ f. if code_of dims f.region == code then 1 else 0) found 0
      either None = omega arith
      either (Some f) = within (code_of dims f.region == code) _

  module _ (id : ℕ) where
    counted-with : (n code : ℕ) (ids : List ℕ) → count_by (λ pair. n == pair.0) (others_with id code ids) ≤ count_by (λ x. n == x) ids
    counted-with n code ids =
        omega (
          arith,
          sum_by-map (λ (pair : ℕ × ℕ). if n == pair.0 then 1 else 0) (λ (other : ℕ). (other, code)) (filter (λ other. not (other == id)) ids),
          sum_by-filter-le (λ (other : ℕ). not (other == id)) (λ x. if n == x then 1 else 0) ids,
        )

    -- that of the one is not there
    left-out : (code : ℕ) (ids : List ℕ) → count_by (λ pair. id == pair.0) (others_with id code ids) ≤ 0
    left-out code [] = omega arith
    left-out code (other ∷ ids) = either (other == id) refl (left-out code ids)
      where
        either : (b : Bool) → (other == id) ≡ b → count_by (λ pair. id == pair.0) (others_with id code ids) ≤ 0 → count_by (λ pair. id == pair.0) (others_with id code (other ∷ ids)) ≤ 0
        either true is rest = rw is rest
        either false is rest =
            let differs : ◌≡◌ {A = ℕ} (if id == other then 1 else 0) 0 = grind (arith, nat_tests) in
            rw is (omega (arith, rest, differs, sum_by-cons (λ (pair : ℕ × ℕ). if id == pair.0 then 1 else 0) (other, code) (others_with id code ids)))

    never-one : (codes : List ℕ) → count_by (λ pair. id == pair.0) (others_at dims facts id codes) ≤ 0
    never-one codes = omega (arith, sum_by-flat (λ (pair : ℕ × ℕ). if id == pair.0 then 1 else 0) (λ code. others_with id code (ids_with dims facts code)) codes, none codes)
      where
        none : (codes : List ℕ) → sum_by (λ code. count_by (λ pair. id == pair.0) (others_with id code (ids_with dims facts code))) codes ≤ 0
        none [] = omega arith
        none (code ∷ codes) = omega (arith, none codes, left-out code (ids_with dims facts code), sum_by-cons (λ code. count_by (λ pair. id == pair.0) (others_with id code (ids_with dims facts code))) code codes)

    once-other : (codes : List ℕ) → AreAscending codes → (n : ℕ) → count_by (λ pair. n == pair.0) (others_at dims facts id codes) ≤ 1
    once-other codes ascends n =
        let f = λ (code : ℕ). count_by (λ (pair : ℕ × ℕ). n == pair.0) (others_with id code (ids_with dims facts code)) in
        let g = λ (code : ℕ). option_map_or {U = ℕ} (λ fact. if code_of dims fact.region == code then 1 else 0) (find (λ fact. fact.id == n) facts) 0 in
        let each = sum_by-le-sum_by f g codes (λ code. omega (arith, counted-with n code (ids_with dims facts code), once-with n code)) in
        omega (arith, sum_by-flat (λ (pair : ℕ × ℕ). if n == pair.0 then 1 else 0) (λ code. others_with id code (ids_with dims facts code)) codes, each, either (find (λ fact. fact.id == n) facts))
      where
        none : (codes : List ℕ) → sum_by (λ code. 0) codes ≤ 0
        none [] = omega arith
        none (code ∷ codes) = omega (arith, none codes, sum_by-cons (λ (code : ℕ). 0) code codes)

        one : (b : Bool) → (if b then 1 else 0) ≤ 1
        one true = omega arith
        one false = omega arith

        either : (found : Option Fact) → sum_by (λ code. option_map_or {U = ℕ} (λ fact. if code_of dims fact.region == code then 1 else 0) found 0) codes ≤ 1
        either None = omega (arith, none codes)
        either (Some fact) = let c = code_of dims fact.region in omega (arith, once_among 0 codes ascends c, one (list_any (λ x. c == x) codes))

    -- with at most one pair of that id, each id is there once at most
    pub once-all : (codes : List ℕ) → AreAscending codes → (own : Option (ℕ × ℕ)) → IfSome own (λ pair. pair.0 ≡ id) → (n : ℕ) → count_by (λ pair. n == pair.0) (others_at dims facts id codes ++ option_to_list own) ≤ 1
    once-all codes ascends own its n =
        elim (cases_eq n id) [
          | inl same ↦ omega (arith, both, one own, ap (λ i. count_by (λ (pair : ℕ × ℕ). i == pair.0) (others_at dims facts id codes)) same, never-one codes)
          | inr other ↦ omega (arith, both, once-other codes ascends n, none own its other)
        ]
      where
        both : count_by (λ pair. n == pair.0) (others_at dims facts id codes ++ option_to_list own) ≡ count_by (λ pair. n == pair.0) (others_at dims facts id codes) + count_by (λ pair. n == pair.0) (option_to_list own)
        both = sum_by-append (λ (pair : ℕ × ℕ). if n == pair.0 then 1 else 0) (others_at dims facts id codes) (option_to_list own)

        least : (b : Bool) → (if b then 1 else 0) ≤ 1
        least true = omega arith
        least false = omega arith

        one : (own : Option (ℕ × ℕ)) → count_by (λ pair. n == pair.0) (option_to_list own) ≤ 1
        one None = omega arith
        one (Some pair) = omega (arith, sum_by-cons (λ (pair : ℕ × ℕ). if n == pair.0 then 1 else 0) pair [], least (n == pair.0))

        none : (own : Option (ℕ × ℕ)) → IfSome own (λ pair. pair.0 ≡ id) → (n ≡ id → ⊥) → count_by (λ pair. n == pair.0) (option_to_list own) ≤ 0
        none None its other = omega arith
        none (Some pair) its other =
            let differs : ◌≡◌ {A = ℕ} (if n == pair.0 then 1 else 0) 0 = grind (arith, nat_tests, its, other) in
            omega (arith, sum_by-cons (λ (pair : ℕ × ℕ). if n == pair.0 then 1 else 0) pair [], differs)

    -- which ids are there
    among-others : (n : ℕ) (codes : List ℕ) → list_any (λ pair. pair.0 == n) (others_at dims facts id codes) ≡ (not (n == id) && is_among (imprecise_ids dims facts codes) n)
    among-others n codes =
        any-flat (λ (pair : ℕ × ℕ). pair.0 == n) (λ code. others_with id code (ids_with dims facts code)) codes
        ∙ any-alike (λ code. list_any (λ (pair : ℕ × ℕ). pair.0 == n) (others_with id code (ids_with dims facts code))) (λ code. not (n == id) && is_among (ids_with dims facts code) n) codes
        (λ code.
        any-map (λ (pair : ℕ × ℕ). pair.0 == n) (λ (other : ℕ). (other, code)) (filter (λ other. not (other == id)) (ids_with dims facts code))
        ∙ among-filter (λ (other : ℕ). not (other == id)) (ids_with dims facts code) n)
        ∙ any-and (not (n == id)) (λ code. is_among (ids_with dims facts code) n) codes
        ∙ ap (λ b. not (n == id) && b) (sym (any-flat (λ (m : ℕ). m == n) (ids_with dims facts) codes))

    pub among-all : (n : ℕ) (codes : List ℕ) (own : Option (ℕ × ℕ)) → IfSome own (λ pair. pair.0 ≡ id)
        → is_among (map (λ pair. pair.0) (others_at dims facts id codes ++ option_to_list own)) n ≡ (if id == n then option_map_or (λ pair. true) own false else is_among (imprecise_ids dims facts codes) n)
    among-all n codes own its =
        any-map (λ (m : ℕ). m == n) (λ (pair : ℕ × ℕ). pair.0) (others_at dims facts id codes ++ option_to_list own)
        ∙ list_any-append (λ (pair : ℕ × ℕ). pair.0 == n) (others_at dims facts id codes) (option_to_list own)
        ∙ ap (λ b. b || list_any (λ (pair : ℕ × ℕ). pair.0 == n) (option_to_list own)) (among-others n codes)
        ∙ either own its
      where
        one : (pair same : Bool) → pair ≡ same → (among : Bool) → ((not same && among) || (pair || false)) ≡ (if same then true else among)
        one true true is among = refl
        one false false is true = refl
        one false false is false = refl
        one true false is among = cc
        one false true is among = cc

        without : (same among : Bool) → ((not same && among) || false) ≡ (if same then false else among)
        without true among = refl
        without false true = refl
        without false false = refl

        turned : (n == id) ≡ (id == n)
        turned = grind (arith, nat_tests)

        either : (own : Option (ℕ × ℕ)) → IfSome own (λ pair. pair.0 ≡ id)
            → ((not (n == id) && is_among (imprecise_ids dims facts codes) n) || list_any (λ pair. pair.0 == n) (option_to_list own)) ≡ (if id == n then option_map_or (λ pair. true) own false else is_among (imprecise_ids dims facts codes) n)
        either None none = ap (λ b. (not b && is_among (imprecise_ids dims facts codes) n) || false) turned ∙ without (id == n) (is_among (imprecise_ids dims facts codes) n)
        either (Some pair) is =
            ap (λ b. (not b && is_among (imprecise_ids dims facts codes) n) || ((pair.0 == n) || false)) turned ∙ one (pair.0 == n) (id == n) (ap (λ i. i == n) is) (is_among (imprecise_ids dims facts codes) n)

    -- each pair but those of the id is of a fact of the code
    pub All-others : (P : ℕ × ℕ → Type 0) (codes : List ℕ)
        → ((n : ℕ) (fact : Fact) → find (λ f. f.id == n) facts ≡ Some fact → (n == id) ≡ false → P (n, code_of dims fact.region)) → All P (others_at dims facts id codes)
    All-others P codes each =
        All-flat P (λ code. others_with id code (ids_with dims facts code)) codes
        (λ k d within. here (get_or codes k d))
      where
        here : (code : ℕ) → All P (others_with id code (ids_with dims facts code))
        here code = All-map P (λ (other : ℕ). (other, code)) (filter (λ other. not (other == id)) (ids_with dims facts code)) (All-among (λ n. P (n, code)) (filter (λ other. not (other == id)) (ids_with dims facts code)) one)
          where
            parts : (a b : Bool) → (not a && b) ≡ true → (a ≡ false) × (b ≡ true)
            parts true b is = cc
            parts false b is = (refl, is)

            one : (n : ℕ) → is_among (filter (λ other. not (other == id)) (ids_with dims facts code)) n ≡ true → P (n, code)
            one n among =
                let both = parts (n == id) (is_among (ids_with dims facts code) n) (sym (among-filter (λ (other : ℕ). not (other == id)) (ids_with dims facts code) n) ∙ among) in
                found (find (λ f. f.id == n) facts) refl (sym (among-with code n) ∙ both.1) both.0
              where
                found : (o : Option Fact) → find (λ f. f.id == n) facts ≡ o → option_map_or (is_indexed_at dims code) o false ≡ true → (n == id) ≡ false → P (n, code)
                found None none passes other = cc
                found (Some fact) is passes other = at (code_of dims fact.region == code) _ refl passes
                  where
                    at : (a b : Bool) → (code_of dims fact.region == code) ≡ a → (a && b) ≡ true → P (n, code)
                    at true b same both = let its : code_of dims fact.region ≡ code = grind (arith, nat_tests) in subst (λ (c : ℕ). P (n, c)) its (each n fact is other)
                    at false b same both = cc
