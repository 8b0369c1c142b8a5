-- The codes of the entries, ascending, and what goes over them.
use Rattle.std.proofs.Common.{◌≡◌, ℕ, zero, suc, ◌+◌, ◌<◌, ◌≤◌, Bool, true, false, List, [], ◌∷◌, ◌++◌, append-nil, eqb, filter, length, map, get_or, refl, ap, sym, ◌∙◌, inl, inr, arith, take, Some, is_some, unwrap_or}
use Rattle.std.specs.Prelude.{if◌then◌else◌, ◌&&◌, nat_le, nat_lt}
use Rattle.std.specs.List.{list_any, range_with_len}
use Rattle.std.proofs.lemmas.Bool.{cases_eq}
use Rattle.std.proofs.lemmas.Bool.Decides.{nat_tests}
use Rattle.std.proofs.lemmas.List.{map-append, take_more}
use Rattle.std.proofs.lemmas.List.Elements.{filter-append}
use Rattle.cube_model.specs.Ascending.{ascends_from}
use Rattle.cube_model.proofs.Ascending.{any-turned, ascends_cons, ascends_increasing, same_members}
use Rattle.cube_model.specs.Cells.{is_inside}
use Rattle.cube_model.specs.Tree.{Dimension}
use Rattle.group_sum.specs.Terms.{TermList}
use Rattle.region_algebra.specs.Space.{region_total}
use Rattle.staged_map.specs.Staged.{AreKeys, Places, value_at}
use Rattle.view_store.specs.Rolling.{is_below}
use Rattle.view_store.specs.Views.{IsViewOf, ViewMap, codes_of, entry_at, no_terms, region_at}
use Rattle.view_store.proofs.Ascending.{has}
use Rattle.view_store.proofs.Keeping.{AreAhead}

-- the numbers of a range that pass ascend, and are those of it that pass
ascends-from : (p : ℕ → Bool) (from n least : ℕ) → least ≤ from → ascends_from (λ x. x) least (filter p (range_with_len from n)) ≡ true
ascends-from p from zero least le = refl
ascends-from p from (suc n) least le = by (p from) (ascends-from p (from + 1) n (from + 1) (omega arith)) (ascends-from p (from + 1) n least (omega arith))
  where
    by : (b : Bool) → ascends_from (λ x. x) (from + 1) (filter p (range_with_len (from + 1) n)) ≡ true → ascends_from (λ x. x) least (filter p (range_with_len (from + 1) n)) ≡ true
        → ascends_from (λ x. x) least (if b then from ∷ filter p (range_with_len (from + 1) n) else filter p (range_with_len (from + 1) n)) ≡ true
    by true behind rest = ascends_cons (λ x. x) least from (filter p (range_with_len (from + 1) n)) (record { from = le; others = behind })
    by false behind rest = rest

has-range : (p : ℕ → Bool) (from n k : ℕ) → has (filter p (range_with_len from n)) k ≡ (p k && (nat_le from k && nat_lt k (from + n)))
has-range p from zero k = by (p k)
  where
    by : (b : Bool) → false ≡ (b && (nat_le from k && nat_lt k (from + 0)))
    by true = grind (arith, nat_tests)
    by false = refl
has-range p from (suc n) k = elim (cases_eq k from) [
  | inl same ↦ rw same (here (p from) refl (ap (λ c. has (filter p (range_with_len (from + 1) n)) c) refl ∙ has-range p (from + 1) n from))
  | inr other ↦ behind (p from) other (has-range p (from + 1) n k)
]
  where
    here : (b : Bool) → p from ≡ b → has (filter p (range_with_len (from + 1) n)) from ≡ (p from && (nat_le (from + 1) from && nat_lt from (from + 1 + n)))
        → has (if b then from ∷ filter p (range_with_len (from + 1) n) else filter p (range_with_len (from + 1) n)) from ≡ (p from && (nat_le from from && nat_lt from (from + suc n)))
    here true is rest = rw is (grind (arith, nat_tests))
    here false is rest = rest ∙ rw is refl

    behind : (b : Bool) → (k ≡ from → ⊥) → has (filter p (range_with_len (from + 1) n)) k ≡ (p k && (nat_le (from + 1) k && nat_lt k (from + 1 + n)))
        → has (if b then from ∷ filter p (range_with_len (from + 1) n) else filter p (range_with_len (from + 1) n)) k ≡ (p k && (nat_le from k && nat_lt k (from + suc n)))
    behind true other rest = grind (arith, nat_tests, rest, other)
    behind false other rest = grind (arith, nat_tests, rest, other)

-- the keys of the entries are their codes
pub keys-are : (dims : List Dimension) (view : ViewMap) (keys : List ℕ) → IsViewOf dims view → AreKeys view.entries keys → keys ≡ codes_of dims view
keys-are dims view keys of are =
    same_members 0 0 keys (codes_of dims view) (ascends_increasing 0 keys are.ascending (λ some. omega arith))
    (ascends-from (λ code. is_some (value_at view.entries code)) 0 (region_total dims) 0 (omega arith))
    (λ k. sym (any-turned k keys) ∙ are.among k ∙ by k (is_some (value_at view.entries k)) refl ∙ sym (has-range (λ code. is_some (value_at view.entries code)) 0 (region_total dims) k) ∙ any-turned k (codes_of dims view))
  where
    by : (k : ℕ) (b : Bool) → is_some (value_at view.entries k) ≡ b → b ≡ (b && (nat_le 0 k && nat_lt k (0 + region_total dims)))
    by k true is = let below : k < region_total dims = of.regions k is in grind (arith, nat_tests, below)
    by k false is = refl

-- a key is that of a region, and has a value
pub key-below : (dims : List Dimension) (view : ViewMap) (keys : List ℕ) (i : ℕ) → IsViewOf dims view → AreKeys view.entries keys → i < length keys
    → (get_or keys i 0 < region_total dims) × (is_some (value_at view.entries (get_or keys i 0)) ≡ true)
key-below dims view keys i of are within =
    let there : is_some (value_at view.entries (get_or keys i 0)) ≡ true = sym (are.among (get_or keys i 0)) ∙ member keys i within in
    (of.regions (get_or keys i 0) there, there)
  where
    member : (xs : List ℕ) (i : ℕ) → i < length xs → list_any (eqb (get_or xs i 0)) xs ≡ true
    member [] i within = absurd (omega arith)
    member (x ∷ xs) zero within = grind (arith, nat_tests)
    member (x ∷ xs) (suc i) within = grind (arith, member xs i (omega arith))

-- the first of what is listed
abbrev pub listed_first : List Dimension → ViewMap → List ℕ → List (List ℕ × TermList)
listed_first dims view codes = map (λ code. (region_at dims code, entry_at view code)) codes

pub listed-next : (dims : List Dimension) (view : ViewMap) (keys : List ℕ) (i : ℕ) (list more : List (List ℕ × TermList)) (region : List ℕ) (terms : TermList) → i < length keys
    → list ≡ listed_first dims view (take i keys) → region ≡ region_at dims (get_or keys i 0) → value_at view.entries (get_or keys i 0) ≡ Some terms → more ≡ list ++ (region, terms) ∷ []
    → more ≡ listed_first dims view (take (i + 1) keys)
listed-next dims view keys i list more region terms within before is has next =
    let code = get_or keys i 0 in
    let entry : entry_at view code ≡ terms = ap (λ o. unwrap_or o (no_terms view.columns)) has in
    let item : (region, terms) ≡ (region_at dims code, entry_at view code) = ap (λ r. (r, terms)) is ∙ ap (λ t. (region_at dims code, t)) (sym entry) in
    next ∙ ap (λ xs. xs ++ (region, terms) ∷ []) before ∙ ap (λ x. listed_first dims view (take i keys) ++ x ∷ []) item
    ∙ sym (ap (listed_first dims view) (take_more keys i 0 within) ∙ map-append (λ (c : ℕ). (region_at dims c, entry_at view c)) (take i keys) (code ∷ []))

-- the first of what is listed under a region
abbrev pub listed_below : List Dimension → ViewMap → List ℕ → List ℕ → List (List ℕ × TermList)
listed_below dims view region codes = filter (λ entry. is_inside dims region entry.0) (listed_first dims view codes)

-- the next is added where its region lies below
module _ (dims : List Dimension) (view : ViewMap) (under keys : List ℕ) (i : ℕ) (list : List (List ℕ × TermList)) (within : i < length keys) (before : list ≡ listed_below dims view under (take i keys)) where
  abbrev item : List ℕ × TermList
  item = (region_at dims (get_or keys i 0), entry_at view (get_or keys i 0))

  below-one : (b : Bool) → is_below dims under (get_or keys i 0) ≡ b → (if b then item ∷ [] else []) ≡ filter (λ entry. is_inside dims under entry.0) (item ∷ [])
  below-one true is = rw is refl
  below-one false is = rw is refl

  below-more : (b : Bool) → is_below dims under (get_or keys i 0) ≡ b → list ++ (if b then item ∷ [] else []) ≡ listed_below dims view under (take (i + 1) keys)
  below-more b is =
      ap (λ xs. xs ++ (if b then item ∷ [] else [])) before ∙ ap (λ xs. listed_below dims view under (take i keys) ++ xs) (below-one b is)
      ∙ sym (ap (listed_below dims view under) (take_more keys i 0 within)
      ∙ ap (filter (λ (entry : List ℕ × TermList). is_inside dims under entry.0)) (map-append (λ (c : ℕ). (region_at dims c, entry_at view c)) (take i keys) (get_or keys i 0 ∷ []))
      ∙ filter-append (λ (entry : List ℕ × TermList). is_inside dims under entry.0) (listed_first dims view (take i keys)) (item ∷ []))

  pub below-next : is_below dims under (get_or keys i 0) ≡ true → (more : List (List ℕ × TermList)) (region : List ℕ) (terms : TermList) → region ≡ region_at dims (get_or keys i 0)
      → value_at view.entries (get_or keys i 0) ≡ Some terms → more ≡ list ++ (region, terms) ∷ [] → more ≡ listed_below dims view under (take (i + 1) keys)
  below-next inside more region terms is has next =
      let code = get_or keys i 0 in
      let entry : entry_at view code ≡ terms = ap (λ o. unwrap_or o (no_terms view.columns)) has in
      let same : (region, terms) ≡ item = ap (λ r. (r, terms)) is ∙ ap (λ t. (region_at dims code, t)) (sym entry) in
      next ∙ ap (λ x. list ++ x ∷ []) same ∙ below-more true inside

  pub below-same : is_below dims under (get_or keys i 0) ≡ false → list ≡ listed_below dims view under (take (i + 1) keys)
  below-same outside = sym (append-nil list) ∙ below-more false outside

-- What is listed of a view by the codes before a place, while its entries are taken out; those of the codes from there on are there.
pub record IsListedTo (dims : List Dimension) (view : ViewMap) (under keys : List ℕ) (i : ℕ) (list : List (List ℕ × TermList)) (now : Places TermList) : Type 0 where
  pub listed : list ≡ listed_below dims view under (take i keys)
  pub ahead : AreAhead view.entries keys i now
