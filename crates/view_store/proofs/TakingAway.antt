-- Entries without what is taken away from them, place by place.
use Rattle.std.proofs.Common.{◌≡◌, ℕ, zero, suc, ◌+◌, ◌<◌, ◌≤◌, true, false, List, [], ◌∷◌, eqb, length, get_or, ap, sym, subst, ◌∙◌, inl, inr, arith, refl, take, Option, Some, None, is_some, unwrap_or}
use Rattle.std.specs.Prelude.{IfSome, ◌==◌, ◌||◌}
use Rattle.std.specs.List.{AllByRecursion, IsDistinct, list_any, slice_get}
use Rattle.std.specs.Map.{keys_of}
use Rattle.std.specs.Option.{option_and_then, option_flatten}
use Rattle.std.proofs.lemmas.Bool.{cases_eq}
use Rattle.std.proofs.lemmas.Bool.Decides.{nat_tests}
use Rattle.std.proofs.lemmas.Grind.{common_steps}
use Rattle.std.proofs.lemmas.List.{take_all, take_more}
use Rattle.std.proofs.lemmas.List.Folds.{list_any-append}
use Rattle.std.proofs.lemmas.Map.Keys.{IsDistinct-head, IsDistinct-tail}
use Rattle.std.proofs.lemmas.Map.Entries.{length-keys_of}
use Rattle.std.proofs.lemmas.Map.Made.{is_some-lookup}
use Rattle.group_sum.specs.Merge.{IsDifference}
use Rattle.group_sum.specs.Terms.{TermList}
use Rattle.staged_map.specs.Staged.{Places, Sets, held_of, key_of_place, key_place, value_at}
use Rattle.staged_map.proofs.Places.{key-met, nothing-met, value-met}
use Rattle.view_store.specs.Drafts.{AreOver, AreWithout, CanTake, CanTakeAt, LeavesAt}
use Rattle.view_store.specs.Views.{IsOver, held_at, no_terms}

-- at a place
module _ (columns : ℕ) (entries parts : Places TermList) (i : ℕ) (distinct : IsDistinct eqb (keys_of parts)) where
  module _ (code : ℕ) (part : TermList) (is : Some (code, part) ≡ option_and_then held_of (slice_get parts i)) where
    -- what a walk meets can be taken from its entry
    pub met-can : IfSome (value_at parts (key_of_place parts i)) (CanTakeAt columns entries (key_of_place parts i)) → CanTakeAt columns entries code part
    met-can there =
        let at : IfSome (value_at parts code) (CanTakeAt columns entries code) = subst (λ k. IfSome (value_at parts k) (CanTakeAt columns entries k)) (key-met code part parts i is) there in
        subst (λ (o : Option TermList). IfSome o (CanTakeAt columns entries code)) (value-met code part parts i is distinct) at

    -- and is over the columns
    pub met-over : AreOver columns parts → IsOver columns part
    met-over over = subst (λ (o : Option TermList). IfSome o (IsOver columns)) (value-met code part parts i is distinct) (over code)

    -- and then the entry without it is left
    pub met-leaves : (new : Places TermList) (rest : TermList) → IsDifference (held_at columns entries code) part rest → IsOver columns rest → AreOver columns parts
        → Sets parts new (key_of_place parts i) rest → keys_of new ≡ keys_of parts → LeavesAt columns entries (key_of_place parts i) parts new
    met-leaves new rest difference rest_over over sets keys = record {
      keys = keys;
      codes = λ k. elim (cases_eq k at) [
        | inl same ↦ ap is_some (here k same) ∙ sym (ap is_some (ap (value_at parts) same ∙ held))
        | inr other ↦ ap is_some (there k other)
      ];
      left = subst (λ (o : Option TermList). IfSome o (λ p. IsDifference (held_at columns entries at) p (held_at columns new at))) (sym held) left;
      others = λ k apart. sets.values k ∙ grind (arith, apart);
      over = λ k. elim (cases_eq k at) [
        | inl same ↦ subst (λ (o : Option TermList). IfSome o (IsOver columns)) (sym (here k same)) rest_over
        | inr other ↦ subst (λ (o : Option TermList). IfSome o (IsOver columns)) (sym (there k other)) (over k)
      ];
    }
      where
        at : ℕ
        at = key_of_place parts i

        key : at ≡ code
        key = key-met code part parts i is

        held : value_at parts at ≡ Some part
        held = ap (value_at parts) key ∙ value-met code part parts i is distinct

        here : (k : ℕ) → k ≡ at → value_at new k ≡ Some rest
        here k same =
            let test : (at == k) ≡ true = grind (arith, nat_tests) in
            sets.values k ∙ grind (arith, test)

        there : (k : ℕ) → (k ≡ at → ⊥) → value_at new k ≡ value_at parts k
        there k other =
            let test : (at == k) ≡ false = grind (arith, nat_tests) in
            sets.values k ∙ grind (arith, test)

        left : IsDifference (held_at columns entries at) part (held_at columns new at)
        left =
            let rest_is : rest ≡ held_at columns new at = sym (ap (λ o. unwrap_or o (no_terms columns)) (here at refl)) in
            subst (IsDifference (held_at columns entries at) part) rest_is (subst (λ k. IsDifference (held_at columns entries k) part rest) (sym key) difference)

  -- where it meets nothing, nothing was to be taken away
  pub nothing-leaves : i < length parts → None ≡ option_and_then held_of (slice_get parts i) → AreOver columns parts → LeavesAt columns entries (key_of_place parts i) parts parts
  nothing-leaves within is over = record {
    keys = refl;
    codes = λ k. refl;
    left = subst (λ (o : Option TermList). IfSome o (λ p. IsDifference (held_at columns entries (key_of_place parts i)) p (held_at columns parts (key_of_place parts i)))) (sym (nothing-met parts i within distinct is)) tt;
    others = λ k apart. refl;
    over = over;
  }

-- At the first places stands what is left of the entry without what stood there, at all others what stood there.
pub record AreLeft (columns : ℕ) (entries taken : Places TermList) (i : ℕ) (now : Places TermList) : Type 0 where
  pub distinct : IsDistinct eqb (keys_of taken)
  pub keys : keys_of now ≡ keys_of taken
  pub codes : (code : ℕ) → is_some (value_at now code) ≡ is_some (value_at taken code)
  pub without : (code : ℕ) → list_any (eqb code) (take i (keys_of taken)) ≡ true → IfSome (value_at taken code) (λ part. IsDifference (held_at columns entries code) part (held_at columns now code))
  pub ahead : (code : ℕ) → list_any (eqb code) (take i (keys_of taken)) ≡ false → value_at now code ≡ value_at taken code
  pub over : AreOver columns now

-- none so far
pub AreLeft-none : (columns : ℕ) (entries taken : Places TermList) → IsDistinct eqb (keys_of taken) → AreOver columns taken → AreLeft columns entries taken 0 taken
AreLeft-none columns entries taken distinct over = record {
  distinct = distinct;
  keys = refl;
  codes = λ code. refl;
  without = λ code among. absurd (grind (arith, among));
  ahead = λ code behind. refl;
  over = over;
}

-- and all
pub AreLeft-all : (columns : ℕ) (entries taken : Places TermList) (i : ℕ) (now : Places TermList) → length taken ≤ i → AreLeft columns entries taken i now → AreWithout columns entries taken now
AreLeft-all columns entries taken i now end done = record {
  codes = done.codes;
  left = λ code. by code (value_at taken code) refl;
  over = done.over;
}
  where
    keys : List ℕ
    keys = keys_of taken

    has-place : (place : Option (Option TermList)) (part : TermList) → option_flatten place ≡ Some part → is_some place ≡ true
    has-place None part is = absurd (grind (arith, is))
    has-place (Some held) part is = refl

    is-among : (code : ℕ) (part : TermList) → value_at taken code ≡ Some part → list_any (eqb code) (take i keys) ≡ true
    is-among code part is =
        ap (list_any (eqb code)) (take_all i keys (omega (arith, end, length-keys_of taken))) ∙ sym (is_some-lookup (eqb code) taken) ∙ has-place (key_place taken code) part is

    by : (code : ℕ) (o : Option TermList) → value_at taken code ≡ o → IfSome o (λ part. IsDifference (held_at columns entries code) part (held_at columns now code))
    by code None is = tt
    by code (Some part) is = rw is at (done.without code (is-among code part is))

-- of keys that differ each is apart from those before it
apart-at : (x : ℕ) (xs : List ℕ) (i : ℕ) → AllByRecursion (λ k. eqb x k ≡ false) xs → i < length xs → eqb x (get_or xs i 0) ≡ false
apart-at x [] i apart within = absurd (omega (arith, within))
apart-at x (y ∷ xs) zero apart within = apart.0
apart-at x (y ∷ xs) (suc i) apart within = apart-at x xs i apart.1 (omega (arith, within))

distinct-before : (xs : List ℕ) (i : ℕ) → IsDistinct eqb xs → i < length xs → list_any (eqb (get_or xs i 0)) (take i xs) ≡ false
distinct-before [] i distinct within = absurd (omega (arith, within))
distinct-before (x ∷ xs) zero distinct within = refl
distinct-before (x ∷ xs) (suc i) distinct within =
    let first = apart-at x xs i (IsDistinct-head eqb x xs distinct) (omega (arith, within)) in
    grind (arith, nat_tests, first, distinct-before xs i (IsDistinct-tail eqb x xs distinct) (omega (arith, within)))

module _ (columns : ℕ) (entries taken : Places TermList) (i : ℕ) (now : Places TermList) (within : i < length taken) (before : AreLeft columns entries taken i now) where
  abbrev code : ℕ
  code = key_of_place taken i

  inside : i < length (keys_of taken)
  inside = omega (arith, within, length-keys_of taken)

  key : key_of_place now i ≡ code
  key = ap (λ ks. get_or ks i 0) before.keys

  -- what stands at the next place stood there before
  here : value_at now code ≡ value_at taken code
  here = before.ahead code (distinct-before (keys_of taken) i before.distinct inside)

  pub next-within : i < length now
  next-within = omega (arith, within, length-keys_of taken, length-keys_of now, ap length before.keys)

  pub next-distinct : IsDistinct eqb (keys_of now)
  next-distinct = subst (IsDistinct eqb) (sym before.keys) before.distinct

  -- and can be taken from its entry
  pub next-can : CanTake columns entries taken → IfSome (value_at now (key_of_place now i)) (CanTakeAt columns entries (key_of_place now i))
  next-can can =
      let at : IfSome (value_at now code) (CanTakeAt columns entries code) = subst (λ (o : Option TermList). IfSome o (CanTakeAt columns entries code)) (sym here) (can code) in
      subst (λ k. IfSome (value_at now k) (CanTakeAt columns entries k)) (sym key) at

  -- one key more is among the first
  one-more : (k : ℕ) → list_any (eqb k) (take (i + 1) (keys_of taken)) ≡ (list_any (eqb k) (take i (keys_of taken)) || eqb k code)
  one-more k = ap (list_any (eqb k)) (take_more (keys_of taken) i 0 inside) ∙ list_any-append (eqb k) (take i (keys_of taken)) (code ∷ []) ∙ grind (arith, common_steps)

  -- and its entry is left without what is taken away from it
  pub AreLeft-next : (new : Places TermList) → LeavesAt columns entries (key_of_place now i) now new → AreLeft columns entries taken (i + 1) new
  AreLeft-next new leaves_now = record {
    distinct = before.distinct;
    keys = leaves.keys ∙ before.keys;
    codes = λ k. leaves.codes k ∙ before.codes k;
    without = λ k among. elim (cases_eq k code) [
      | inl same ↦
          let left = subst (λ (o : Option TermList). IfSome o (λ p. IsDifference (held_at columns entries code) p (held_at columns new code))) here leaves.left in
          subst (λ n. IfSome (value_at taken n) (λ p. IsDifference (held_at columns entries n) p (held_at columns new n))) (sym same) left
      | inr other ↦
          let apart : eqb k code ≡ false = grind (arith, nat_tests) in
          let held : held_at columns now k ≡ held_at columns new k = ap (λ o. unwrap_or o (no_terms columns)) (sym (there k other)) in
          subst (λ list. IfSome (value_at taken k) (λ p. IsDifference (held_at columns entries k) p list)) held (before.without k (grind (arith, among, one-more k, apart)))
    ];
    ahead = λ k behind. elim (cases_eq k code) [
      | inl same ↦
          let test : eqb k code ≡ true = grind (arith, nat_tests) in
          absurd (grind (arith, common_steps, behind, one-more k, test))
      | inr other ↦ there k other ∙ before.ahead k (grind (arith, common_steps, behind, one-more k))
    ];
    over = leaves.over;
  }
    where
      leaves : LeavesAt columns entries code now new
      leaves = subst (λ k. LeavesAt columns entries k now new) key leaves_now

      there : (k : ℕ) → (k ≡ code → ⊥) → value_at new k ≡ value_at now k
      there k other = leaves.others k (grind (arith, nat_tests))
