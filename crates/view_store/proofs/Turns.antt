-- What is staged so far, and what is installed so far.
use Rattle.std.proofs.Common.{◌≡◌, ℕ, zero, suc, ◌+◌, ◌<◌, ◌≤◌, true, false, List, [], ◌∷◌, ◌++◌, append-nil, arith, ap, drop, get_or, inl, inr, length, length-append, refl, set, sym, subst, take, Option, Some, None, unwrap_or, ◌∙◌}
use Rattle.std.specs.Prelude.{All, IfSome, if◌then◌else◌, slice_get, ◌==◌}
use Rattle.std.proofs.lemmas.Bool.{cases_eq, cases_lt}
use Rattle.std.proofs.lemmas.Bool.Decides.{nat_tests}
use Rattle.std.proofs.lemmas.List.{drop_all, length-set, take_all}
use Rattle.std.proofs.lemmas.List.Elements.{All-get_or}
use Rattle.std.proofs.lemmas.Option.{slice_get-get_or, slice_get_past, unwrap_or-slice_get}
use Rattle.region_algebra.proofs.Codes.{slice_get-back, slice_get-front}
use Rattle.cube_model.specs.Tree.{Dimension}
use Rattle.group_sum.specs.Terms.{TermList}
use Rattle.staged_map.specs.Staged.{Entries}
use Rattle.view_store.specs.declared.change.ViewChange.{ViewChange}
use Rattle.view_store.specs.Changes.{AreSame, AreStaged, HasRoomFor, IsMadeFor, IsSameView, IsSet}
use Rattle.view_store.specs.Views.{ViewMap}

-- the views before a place are staged, and those from it on are as they were
pub record IsStaging (dims : List Dimension) (changes : List ViewChange) (old now : List ViewMap) (v : ℕ) (stages : List (Entries TermList)) : Type 0 where
  pub views : length now ≡ length old
  pub count : length stages ≡ v
  pub ahead : (i : ℕ) → v ≤ i → slice_get now i ≡ slice_get old i
  pub same : (i : ℕ) → i < v → IfSome (slice_get old i) (λ before. IfSome (slice_get now i) (IsSameView before))
  pub room : (i : ℕ) → i < v → IfSome (slice_get now i) (λ view. IfSome (slice_get stages i) (HasRoomFor view))
  pub made : (i : ℕ) → i < v → IfSome (slice_get now i) (λ view. IfSome (slice_get stages i) (IsMadeFor dims changes view))

-- the views from a place on are set, and those before it are as they were
pub record IsInstalling (old now : List ViewMap) (v : ℕ) (stages left : List (Entries TermList)) : Type 0 where
  pub views : length now ≡ length old
  pub left_are : left ≡ take v stages
  pub within : v ≤ length old
  pub ahead : (i : ℕ) → i < v → slice_get now i ≡ slice_get old i
  pub done : (i : ℕ) → v ≤ i → IfSome (slice_get old i) (λ before. IfSome (slice_get stages i) (λ entries. IfSome (slice_get now i) (IsSet before entries)))

-- what is read of a list with one item written
read-set : {X : Type 0} (xs : List X) (v i : ℕ) (x : X) → v < length xs → slice_get (set xs v x) i ≡ (if i == v then Some x else slice_get xs i)
read-set [] v i x within = absurd (omega arith)
read-set (y ∷ xs) zero zero x within = refl
read-set (y ∷ xs) zero (suc i) x within = grind (arith, nat_tests)
read-set (y ∷ xs) (suc v) zero x within = grind (arith, nat_tests)
read-set (y ∷ xs) (suc v) (suc i) x within = read-set xs v i x (omega arith) ∙ grind (arith, nat_tests)

same-here : (view : Option ViewMap) → IfSome view (λ before. IfSome view (IsSameView before))
same-here None = tt
same-here (Some view) = record { columns = refl; depths = refl; values = λ code. refl; places = λ code there. there }

pub IsStaging-none : (dims : List Dimension) (changes : List ViewChange) (old : List ViewMap) → IsStaging dims changes old old 0 []
IsStaging-none dims changes old = record {
  views = refl;
  count = refl;
  ahead = λ i le. refl;
  same = λ i lt. absurd (omega arith);
  room = λ i lt. absurd (omega arith);
  made = λ i lt. absurd (omega arith);
}

module _ (dims : List Dimension) (changes : List ViewChange) (old now : List ViewMap) (v : ℕ) (stages : List (Entries TermList)) (before : IsStaging dims changes old now v stages) where
  -- the next view is as it was
  pub next-was : (P : ViewMap → Type 0) (d : ViewMap) → v < length now → All P old → P (get_or now v d)
  next-was P d within all =
      let same : get_or now v d ≡ get_or old v d = sym (unwrap_or-slice_get now v d) ∙ ap (λ o. unwrap_or o d) (before.ahead v (omega arith)) ∙ unwrap_or-slice_get old v d in
      subst P (sym same) (All-get_or P old v d (omega (arith, before.views)) all)

  -- all views have the same content once the next has
  pub all-same : (d new : ViewMap) → v < length now → IsSameView (get_or now v d) new → AreSame old (set now v new)
  all-same d new within one = record {
    count = length-set now v new ∙ before.views;
    each = λ i. elim (cases_eq i v) [
      | inl same ↦
          let test : (i == v) ≡ true = grind (arith, nat_tests) in
          let was : slice_get old i ≡ Some (get_or now v d) = ap (slice_get old) same ∙ sym (before.ahead v (omega arith)) ∙ slice_get-get_or now v d within in
          let is : slice_get (set now v new) i ≡ Some new = read-set now v i new within ∙ grind (arith, test) in
          rw (was, is) one
      | inr other ↦
          let test : (i == v) ≡ false = grind (arith, nat_tests) in
          let is : slice_get (set now v new) i ≡ slice_get now i = read-set now v i new within ∙ grind (arith, test) in
          rw is (elim (cases_lt i v) [
            | inl lt ↦ before.same i lt
            | inr le ↦ rw (before.ahead i le) (same-here (slice_get old i))
          ])
    ];
  }

  pub IsStaging-next : (d new : ViewMap) (entries : Entries TermList) → v < length now → IsSameView (get_or now v d) new → HasRoomFor new entries → IsMadeFor dims changes new entries
      → IsStaging dims changes old (set now v new) (v + 1) (stages ++ entries ∷ [])
  IsStaging-next d new entries within one room made = record {
    views = length-set now v new ∙ before.views;
    count = length-append stages (entries ∷ []) ∙ omega (arith, before.count);
    ahead = λ i le.
        let test : (i == v) ≡ false = grind (arith, nat_tests) in
        read-set now v i new within ∙ grind (arith, test, before.ahead i (omega arith));
    same = λ i lt. (all-same d new within one).each i;
    room = λ i lt. each HasRoomFor before.room room i lt;
    made = λ i lt. each (IsMadeFor dims changes) before.made made i lt;
  }
    where
      each : (P : ViewMap → Entries TermList → Type 0) → ((i : ℕ) → i < v → IfSome (slice_get now i) (λ view. IfSome (slice_get stages i) (P view))) → P new entries → (i : ℕ) → i < v + 1
          → IfSome (slice_get (set now v new) i) (λ view. IfSome (slice_get (stages ++ entries ∷ []) i) (P view))
      each P all last i lt = elim (cases_eq i v) [
        | inl same ↦
            let test : (i == v) ≡ true = grind (arith, nat_tests) in
            let is : slice_get (set now v new) i ≡ Some new = read-set now v i new within ∙ grind (arith, test) in
            let staged : slice_get (stages ++ entries ∷ []) i ≡ Some entries = slice_get-back stages (entries ∷ []) 0 i (omega (arith, before.count, same)) in
            rw (is, staged) last
        | inr other ↦
            let test : (i == v) ≡ false = grind (arith, nat_tests) in
            let is : slice_get (set now v new) i ≡ slice_get now i = read-set now v i new within ∙ grind (arith, test) in
            let staged : slice_get (stages ++ entries ∷ []) i ≡ slice_get stages i = slice_get-front stages (entries ∷ []) i (omega (arith, before.count, other, lt)) in
            rw (is, staged) (all i (omega (arith, other, lt)))
      ]

  -- once the last is staged, all are
  pub all-staged : length now ≤ v → v ≤ length now → AreStaged dims changes now stages
  all-staged most least = record {
    room = record { count = omega (arith, before.count, most, least); each = λ i. within HasRoomFor before.room i };
    each = λ i. within (IsMadeFor dims changes) before.made i;
  }
    where
      within : (P : ViewMap → Entries TermList → Type 0) → ((i : ℕ) → i < v → IfSome (slice_get now i) (λ view. IfSome (slice_get stages i) (P view))) → (i : ℕ) → IfSome (slice_get now i) (λ view. IfSome (slice_get stages i) (P view))
      within P all i = elim (cases_lt i v) [
        | inl lt ↦ all i lt
        | inr le ↦ rw (slice_get_past now i (omega (arith, most, le))) tt
      ]

-- the items of a list whose slice was written
pub written : (items new : List ViewMap) (len : ℕ) → length new ≡ len → length items ≡ len → take len (new ++ drop (length new) items) ≡ new
written items new len many count =
    let none : drop (length new) items ≡ [] = drop_all (length new) items (omega (arith, many, count)) in
    rw (none, append-nil new) (take_all len new (omega (arith, many)))
