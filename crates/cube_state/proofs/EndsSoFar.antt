-- The ends of the facts at several codes, added up code by code.
use Rattle.std.proofs.Common.{◌≡◌, ℕ, ◌+◌, ◌*◌, ◌≤◌, Bor, eqb, List, [], ◌∷◌, ◌++◌, length, map, take, refl, ap, sym, ◌∙◌, arith, ℤ, pos, ◌+ℤ◌, Option, Some, None}
use Rattle.std.specs.Prelude.{find, nat_abs, slice_get}
use Rattle.std.specs.List.{IsDistinct}
use Rattle.std.specs.Map.{keys_of}
use Rattle.std.specs.Option.{option_and_then, option_copied, option_map}
use Rattle.std.proofs.lemmas.Int.{ints}
use Rattle.std.proofs.lemmas.List.{append-nil, map-append}
use Rattle.cube_model.specs.declared.edit.Fact.{Fact}
use Rattle.cube_model.specs.declared.statistic.CellStat.{CellStat}
use Rattle.cube_model.specs.Allocation.{allocation}
use Rattle.cube_model.specs.Limits.{MAX_FACTS, MAX_VALUE}
use Rattle.cube_model.proofs.Totals.{total_by-append}
use Rattle.fact_groups.specs.Groups.{Group, column_sums, facts_with, group_at, has_code}
use Rattle.fact_records.specs.Shape.{width_of_all}
use Rattle.fact_indexes.specs.Kept.{IsState}
use Rattle.fact_indexes.proofs.GroupsSoFar.{filter-never}
use Rattle.fact_indexes.proofs.HeldGroups.{held-group}
use Rattle.staged_map.specs.Staged.{Places, held, held_copied, held_of, value_at}
use Rattle.world_range.specs.declared.extreme.Extreme.{Extreme}
use Rattle.world_range.specs.declared.extreme.Extreme.TheVariants.{Greatest, Least}
use Rattle.world_range.specs.Picks.{end_of}
use Rattle.cube_state.specs.declared.ranging.Ends.{Ends}
use Rattle.cube_state.specs.Ranging.{AreEndsAt, LieWithin, end_at, end_over, row_in}
use Rattle.cube_state.specs.State.{StateValue, policy_in}

module _ {P : Type 0} (weigh : P → CellStat → ℕ) (state : StateValue P) (cells : List ℕ) (column : ℕ) where
  -- the ends of the facts at these codes, after so many steps
  pub record AreEndsOver (codes : List ℕ) (steps : ℕ) (ends : Ends) : Type 0 where
    pub least : ends.least ≡ end_over weigh Least cells column state codes
    pub greatest : ends.greatest ≡ end_over weigh Greatest cells column state codes
    pub small : LieWithin (steps * (MAX_FACTS * MAX_VALUE)) ends

  -- a code more
  end-push : (extreme : Extreme) (codes : List ℕ) (code : ℕ) → end_over weigh extreme cells column state (codes ++ code ∷ []) ≡ end_over weigh extreme cells column state codes +ℤ end_at weigh extreme cells column state code
  end-push extreme codes code =
      let both = total_by-append (end_at weigh extreme cells column state) codes (code ∷ []) in
      omega (arith, ints, both)

  module _ (codes more : List ℕ) (steps : ℕ) (ends : Ends) (before : AreEndsOver codes steps ends) where
    module _ (code : ℕ) (next : more ≡ codes ++ code ∷ []) where
      pub ends-some : (here new : Ends) → AreEndsAt weigh cells column state code here → new.least ≡ ends.least +ℤ here.least → new.greatest ≡ ends.greatest +ℤ here.greatest → AreEndsOver more (steps + 1) new
      ends-some here new are least greatest = record {
        least =
            least ∙ ap (λ z. z +ℤ here.least) before.least ∙ ap (λ z. end_over weigh Least cells column state codes +ℤ z) are.least
            ∙ sym (ap (end_over weigh Least cells column state) next ∙ end-push Least codes code);
        greatest =
            greatest ∙ ap (λ z. z +ℤ here.greatest) before.greatest ∙ ap (λ z. end_over weigh Greatest cells column state codes +ℤ z) are.greatest
            ∙ sym (ap (end_over weigh Greatest cells column state) next ∙ end-push Greatest codes code);
        small = record {
          least = added ends.least here.least new.least (steps * (MAX_FACTS * MAX_VALUE)) _ before.small.least are.small.least least (omega arith);
          greatest = added ends.greatest here.greatest new.greatest (steps * (MAX_FACTS * MAX_VALUE)) _ before.small.greatest are.small.greatest greatest (omega arith);
        };
      }
        where
          added : (a b c : ℤ) (m n : ℕ) → nat_abs a ≤ m → nat_abs b ≤ MAX_FACTS * MAX_VALUE → c ≡ a +ℤ b → n ≡ m + MAX_FACTS * MAX_VALUE → nat_abs c ≤ n
          added a b c m n first second is sum = omega (arith, ints, first, second, is, sum)

      -- one at which there is no fact
      pub ends-none : facts_with state.dims code state.facts ≡ [] → AreEndsOver more (steps + 1) ends
      ends-none none = record {
        least = nothing Least ends.least before.least;
        greatest = nothing Greatest ends.greatest before.greatest;
        small = record { least = omega (arith, before.small.least); greatest = omega (arith, before.small.greatest) };
      }
        where
          nothing : (extreme : Extreme) (sum : ℤ) → sum ≡ end_over weigh extreme cells column state codes → sum ≡ end_over weigh extreme cells column state more
          nothing extreme sum is =
              let push = ap (end_over weigh extreme cells column state) next ∙ end-push extreme codes code in
              let empty : end_at weigh extreme cells column state code ≡ pos 0 = ap (λ (fs : List Fact). end_of extreme cells column (map (row_in weigh state) fs)) none in
              omega (arith, ints, is, push, empty)

    -- no code more
    pub ends-same : more ≡ codes ++ [] → AreEndsOver more (steps + 1) ends
    ends-same next = record {
      least = before.least ∙ ap (end_over weigh Least cells column state) (sym (next ∙ append-nil codes));
      greatest = before.greatest ∙ ap (end_over weigh Greatest cells column state) (sym (next ∙ append-nil codes));
      small = record { least = omega (arith, before.small.least); greatest = omega (arith, before.small.greatest) };
    }

-- where there is no group there is no fact
pub none-with : {P : Type 0} (weigh : P → CellStat → ℕ) (state : StateValue P) (code : ℕ) → group_at (policy_in weigh state) (width_of_all state.shape.measures) state.dims state.facts code ≡ None
    → facts_with state.dims code state.facts ≡ []
none-with weigh state code none = filter-never (has_code state.dims code) state.facts (by (find (has_code state.dims code) state.facts) none)
  where
    whole : Fact → Group
    whole f = record {
      spread = allocation (policy_in weigh state) state.dims state.facts f;
      count = length (facts_with state.dims code state.facts);
      sums = column_sums (width_of_all state.shape.measures) (facts_with state.dims code state.facts);
    }

    by : (found : Option Fact) → option_map whole found ≡ None → found ≡ None
    by None is = refl
    by (Some f) is = cc

-- the codes of the places before one and at it
pub keys-next : (places : Places Group) (i code : ℕ) (g : Group) → held (take (i + 1) places) ≡ held (take i places) ++ (code, g) ∷ [] → keys_of (held (take (i + 1) places)) ≡ keys_of (held (take i places)) ++ code ∷ []
keys-next places i code g next = ap (λ (entries : List (ℕ × Group)). keys_of entries) next ∙ map-append (λ (e : ℕ × Group). e.0) (held (take i places)) ((code, g) ∷ [])

pub keys-none : (places : Places Group) (i : ℕ) → held (take (i + 1) places) ≡ held (take i places) ++ [] → keys_of (held (take (i + 1) places)) ≡ keys_of (held (take i places)) ++ []
keys-none places i next = ap (λ (entries : List (ℕ × Group)). keys_of entries) next ∙ map-append (λ (e : ℕ × Group). e.0) (held (take i places)) []

-- the groups of a state, as it is seen
module _ {P : Type 0} (weigh : P → CellStat → ℕ) (state seen : StateValue P) (same : seen ≡ state) (kept : IsState (policy_in weigh seen) seen.shape seen.dims seen.cuts seen.facts seen.kept) (code : ℕ) where
  kept-group : value_at seen.kept.groups code ≡ group_at (policy_in weigh state) (width_of_all state.shape.measures) state.dims state.facts code
  kept-group = kept.groups code ∙ ap (λ (s : StateValue P). group_at (policy_in weigh s) (width_of_all s.shape.measures) s.dims s.facts code) same

  -- one that is found at a code, and one at a place
  pub group-found : (found : Option (Bor Group)) (group : Bor Group) → option_copied found ≡ value_at seen.kept.groups code → found ≡ Some group
      → group_at (policy_in weigh state) (width_of_all state.shape.measures) state.dims state.facts code ≡ Some group.now
  group-found found group is some = sym kept-group ∙ sym is ∙ ap option_copied some

  pub group-placed : (i : ℕ) (found : Option (ℕ × Bor Group)) (group : Bor Group) → IsDistinct eqb (keys_of seen.kept.groups) → held_copied found ≡ option_and_then held_of (slice_get seen.kept.groups i) → found ≡ Some (code, group)
      → group_at (policy_in weigh state) (width_of_all state.shape.measures) state.dims state.facts code ≡ Some group.now
  group-placed i found group distinct is some =
      ap (λ (s : StateValue P). group_at (policy_in weigh s) (width_of_all s.shape.measures) s.dims s.facts code) (sym same)
      ∙ held-group (policy_in weigh seen) (width_of_all seen.shape.measures) seen.dims seen.facts seen.kept.groups kept.groups i code group.now distinct (sym is ∙ ap held_copied some)

  -- where none is found there is no fact
  pub group-missing : (found : Option (Bor Group)) → option_copied found ≡ value_at seen.kept.groups code → found ≡ None → facts_with state.dims code state.facts ≡ []
  group-missing found is none = none-with weigh state code (sym kept-group ∙ sym is ∙ ap option_copied none)
