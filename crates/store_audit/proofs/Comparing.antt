-- Kept rows beside those that facts make.
use Rattle.std.proofs.Common.{◌≡◌, ℕ, zero, suc, ◌+◌, ◌<◌, ◌≤◌, Bool, true, false, Bor, List, [], ◌∷◌, drop, length, map, refl, ap, sym, ◌∙◌, arith, add-one, below_more}
use Rattle.std.specs.Prelude.{AllPairs, Option, Some, None, find, nat_lt, slice_get, ◌==◌, ◌&&◌}
use Rattle.std.specs.List.{HoldsAt}
use Rattle.std.specs.Option.{MatchOption, option_copied, option_map}
use Rattle.std.proofs.lemmas.Bool.Decides.{nat_tests}
use Rattle.std.proofs.lemmas.List.{length-map}
use Rattle.std.proofs.lemmas.Option.{slice_get-map, slice_get_past, slice_get_read}
use Rattle.cube_model.specs.declared.edit.Fact.{Fact}
use Rattle.cube_model.specs.Allocation.{Allocation, ExtendedFact, Policy, allocation, allocation_of, extended}
use Rattle.cube_model.specs.Difference.{is_same}
use Rattle.cube_model.specs.Tree.{Dimension}
use Rattle.fact_groups.proofs.Refreshing.{same_allocation, same_allocations}
use Rattle.fact_keeper.specs.declared.content.KeptRows.{KeptRows}
use Rattle.edit_plan.specs.Plan.{kept_rows}
use Rattle.cube_state.proofs.Listing.{All-found}
use Rattle.cube_state.proofs.Looking.{allocation_of-found, find-itself}
use Rattle.store_audit.specs.Loading.{DiffersAt, IsRowsFault, rows_told, spread_told}
use Rattle.store_audit.specs.declared.finding.Finding.TheVariants as finding
use Rattle.store_audit.specs.declared.finding.LoadFault.{LoadFault}
use Rattle.store_audit.specs.declared.finding.LoadFault.TheVariants as load_fault

-- what is left of a list from a place on: the item at the place, and what is left behind it
pub left-first : {X : Type 0} (xs : List X) (place : ℕ) (x : X) (rest : List X) → drop place xs ≡ x ∷ rest → slice_get xs place ≡ Some x
left-first [] zero x rest is = cc
left-first [] (suc place) x rest is = cc
left-first (y ∷ ys) zero x rest is = cc
left-first (y ∷ ys) (suc place) x rest is = left-first ys place x rest is

left-rest : {X : Type 0} (xs : List X) (place : ℕ) (x : X) (rest : List X) → drop place xs ≡ x ∷ rest → drop (suc place) xs ≡ rest
left-rest [] zero x rest is = cc
left-rest [] (suc place) x rest is = cc
left-rest (y ∷ ys) zero x rest is = cc
left-rest (y ∷ ys) (suc place) x rest is = left-rest ys place x rest is

left-none : {X : Type 0} (xs : List X) (place : ℕ) → drop place xs ≡ [] → length xs ≤ place
left-none [] place none = omega arith
left-none (y ∷ ys) zero none = cc
left-none (y ∷ ys) (suc place) none = omega (arith, left-none ys place none)

-- a list has nothing from its end on
none-past : {X : Type 0} (xs : List X) (place : ℕ) → slice_get xs place ≡ None → length xs ≤ place
none-past [] place none = omega arith
none-past (x ∷ xs) zero none = cc
none-past (x ∷ xs) (suc place) none = omega (arith, none-past xs place none)

-- an item that is looked up is the one at the place
pub got : {X : Type 0} (xs : List X) (place : ℕ) (found : Option (Bor X)) → MatchOption found (length xs ≤ place) (λ x. (place < length xs) × HoldsAt (λ y. x.now ≡ y) xs place) → option_copied found ≡ slice_get xs place
got xs place None past = sym (slice_get_past xs place past)
got xs place (Some x) is = sym (slice_get_read xs (length xs) place x.now refl is.0 (is.1 x.now))

-- lists that have the same at each place are one
same-everywhere : {X : Type 0} (xs ys : List X) → ((place : ℕ) → slice_get xs place ≡ slice_get ys place) → xs ≡ ys
same-everywhere [] [] same = refl
same-everywhere [] (y ∷ ys) same = let no = same 0 in cc
same-everywhere (x ∷ xs) [] same = let no = same 0 in cc
same-everywhere (x ∷ xs) (y ∷ ys) same =
    let first : ◌≡◌ {A = Option _} (Some x) (Some y) = same 0 in
    let here : x ≡ y = cc in
    let rest : xs ≡ ys = same-everywhere xs ys (λ place. same (suc place)) in
    cc

-- rows are told to be those of an id and a spread exactly where they are
pub rows-same : (kept : KeptRows) (id : ℕ) (spread : Allocation) → (kept.id == id && is_same (spread_told kept) spread) ≡ true → Some kept ≡ Some (rows_told id spread)
rows-same kept id spread is = either (kept.id == id) (is_same (spread_told kept) spread) refl refl is
  where
    either : (a b : Bool) → (kept.id == id) ≡ a → is_same (spread_told kept) spread ≡ b → (a && b) ≡ true → Some kept ≡ Some (rows_told id spread)
    either true true named so both =
        let its : kept.id ≡ id = grind (arith, nat_tests, named) in
        ap (λ a. Some (rows_told kept.id a)) (same_allocations (spread_told kept) spread so) ∙ ap (λ n. Some (rows_told n spread)) its
    either true false named so both = cc
    either false b named so both = cc

pub same-rows : (kept : KeptRows) (id : ℕ) (spread : Allocation) → Some kept ≡ Some (rows_told id spread) → (kept.id == id && is_same (spread_told kept) spread) ≡ true
same-rows kept id spread is =
    let its : kept ≡ rows_told id spread = cc in
    ap (λ (rows : KeptRows). rows.id == id && is_same (spread_told rows) spread) its ∙ itself (id == id) (is_same spread spread) (grind (arith, nat_tests)) (same_allocation spread)
  where
    itself : (a b : Bool) → a ≡ true → b ≡ true → (a && b) ≡ true
    itself true true named so = refl
    itself true false named so = so
    itself false b named so = named

-- Rows before a place are alike, and so many facts are left.
pub record AreAlike (facts : List Fact) (kept anew : List KeptRows) (place : ℕ) (left : List Fact) : Type 0 where
  pub left_is : drop place facts ≡ left
  pub first : (earlier : ℕ) → earlier < place → slice_get kept earlier ≡ slice_get anew earlier

pub none-alike : (facts : List Fact) (kept anew : List KeptRows) (left : List Fact) → left ≡ facts → AreAlike facts kept anew 0 left
none-alike facts kept anew left is = record { left_is = sym is; first = λ earlier below. absurd (omega (arith, below)) }

module _ (facts : List Fact) (kept anew : List KeptRows) (place : ℕ) (left : List Fact) (are : AreAlike facts kept anew place left) where
  pub fact-here : (fact : Fact) (rest : List Fact) → left ≡ fact ∷ rest → slice_get facts place ≡ Some fact
  fact-here fact rest is = left-first facts place fact rest (are.left_is ∙ is)

  pub alike-next : (fact : Fact) (rest : List Fact) → left ≡ fact ∷ rest → slice_get kept place ≡ slice_get anew place → AreAlike facts kept anew (place + 1) rest
  alike-next fact rest is same = record {
    left_is = rw add-one (left-rest facts place fact rest (are.left_is ∙ is));
    first = below_more (λ earlier. slice_get kept earlier ≡ slice_get anew earlier) place are.first same;
  }

  -- behind the last fact nothing is anew
  pub anew-ended : left ≡ [] → length anew ≡ length facts → slice_get anew place ≡ None
  anew-ended none count = slice_get_past anew place (omega (arith, left-none facts place (are.left_is ∙ none), count))

  -- so where nothing is kept there, the lists are one
  pub all-alike : slice_get kept place ≡ None → slice_get anew place ≡ None → kept ≡ anew
  all-alike none_kept none_anew = same-everywhere kept anew (λ other. either other (nat_lt other place) refl)
    where
      either : (other : ℕ) (b : Bool) → nat_lt other place ≡ b → slice_get kept other ≡ slice_get anew other
      either other true is = are.first other (grind (arith, nat_tests, is))
      either other false is =
          let behind : place ≤ other = grind (arith, nat_tests, is) in
          slice_get_past kept other (omega (arith, none-past kept place none_kept, behind)) ∙ sym (slice_get_past anew other (omega (arith, none-past anew place none_anew, behind)))

  -- and what differs there is the first difference
  pub differ-first : (here there : Option KeptRows) (fault : LoadFault) → here ≡ slice_get kept place → there ≡ slice_get anew place → DiffersAt place here there fault → IsRowsFault kept anew fault
  differ-first here there load_fault.Memory here_is there_is told = tt
  differ-first here there (load_fault.Bad (finding.Schema line why)) here_is there_is told = told
  differ-first here there (load_fault.Bad (finding.Fact at id why)) here_is there_is told = told
  differ-first here there (load_fault.Bad (finding.TooManyRows would)) here_is there_is told = told
  differ-first here there (load_fault.Bad (finding.Rows at one other)) here_is there_is told = record {
    here_is = told.here_is ∙ here_is ∙ ap (slice_get kept) (sym told.place_is);
    there_is = told.there_is ∙ there_is ∙ ap (slice_get anew) (sym told.place_is);
    different = told.different;
    first = λ earlier below. are.first earlier (omega (arith, below, told.place_is));
  }

-- the rows of the fact at a place
module _ (policy : Policy) (dims : List Dimension) (facts : List Fact) where
  abbrev whole : Fact → ExtendedFact
  whole f = record { id = f.id; values = f.cols; allocation = allocation policy dims facts f }

  pub rows-count : length (map kept_rows (extended policy dims facts)) ≡ length facts
  unfolding extended
  rows-count = length-map (map whole facts) kept_rows ∙ length-map facts whole

  module _ (place : ℕ) (fact : Fact) (at : slice_get facts place ≡ Some fact) where
    pub rows-here : slice_get (map kept_rows (extended policy dims facts)) place ≡ Some (rows_told fact.id (allocation policy dims facts fact))
    unfolding extended
    rows-here = slice_get-map kept_rows (map whole facts) place ∙ ap (option_map kept_rows) (slice_get-map whole facts place ∙ ap (option_map whole) at)

    pub spread-here : AllPairs (λ f g. f.id < g.id) facts → allocation_of fact.id (extended policy dims facts) ≡ Some (allocation policy dims facts fact)
    spread-here up =
        allocation_of-found policy dims facts fact.id
        ∙ ap (option_map (allocation policy dims facts)) (All-found (λ f. find (λ g. g.id == f.id) facts ≡ Some f) facts place fact (find-itself facts up) at)

    -- which a look-up finds
    module _ (up : AllPairs (λ f g. f.id < g.id) facts) (found : Option (Bor Allocation)) (is : option_copied found ≡ allocation_of fact.id (extended policy dims facts)) where
      pub never-lost : found ≡ None → ⊥
      never-lost none = let no : None ≡ Some (allocation policy dims facts fact) = sym (ap option_copied none) ∙ is ∙ spread-here up in cc

      pub rows-found : (spread : Allocation) → option_copied found ≡ Some spread → Some (rows_told fact.id spread) ≡ slice_get (map kept_rows (extended policy dims facts)) place
      rows-found spread some =
          let same : Some spread ≡ Some (allocation policy dims facts fact) = sym some ∙ is ∙ spread-here up in
          let its : spread ≡ allocation policy dims facts fact = cc in
          ap (λ a. Some (rows_told fact.id a)) its ∙ sym rows-here
