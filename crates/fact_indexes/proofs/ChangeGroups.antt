-- What changes of views put and take away, as groups of facts.
use Rattle.std.proofs.Common.{◌≡◌, ℕ, zero, suc, ◌≤◌, Bool, true, false, List, [], ◌∷◌, ◌++◌, map, take, refl, ap, arith}
use Rattle.std.specs.Prelude.{All, filter, not, if◌then◌else◌, Option, Some, None}
use Rattle.std.specs.List.{cons_option, flat_map}
use Rattle.std.proofs.lemmas.List.Elements.{All-cons, All-head, All-nil, All-tail}
use Rattle.std.proofs.lemmas.List.Sums.{sum_by-cons}
use Rattle.cube_model.specs.Tree.{Dimension}
use Rattle.fact_groups.specs.Groups.{Group, group_facts}
use Rattle.view_store.specs.declared.change.ViewChange.{ViewChange}
use Rattle.view_store.specs.Changes.{change_facts, facts_put, facts_taken_away}
use Rattle.view_store.specs.Views.{region_at}
use Rattle.fact_indexes.specs.ViewChanges.{group_change, group_changes}
use Rattle.fact_indexes.proofs.Modest.{members}

-- the group of a change
abbrev pub group_of : ViewChange → Group
group_of change = record { spread = record { den = change.den; rows = change.rows }; count = change.facts; sums = change.cols }

-- the groups of the changes of a kind
abbrev pub groups_that : (ViewChange → Bool) → List ViewChange → List Group
groups_that kind changes = map group_of (filter kind changes)

abbrev pub takes_away : ViewChange → Bool
takes_away change = not change.put

abbrev pub puts : ViewChange → Bool
puts change = change.put

-- the facts of changes are those of their groups
facts-groups : (changes : List ViewChange) → flat_map change_facts changes ≡ flat_map group_facts (map group_of changes)
facts-groups [] = refl
facts-groups (change ∷ changes) = ap (λ facts. change_facts change ++ facts) (facts-groups changes)

pub facts_taken_away-groups : (changes : List ViewChange) → facts_taken_away changes ≡ flat_map group_facts (groups_that takes_away changes)
facts_taken_away-groups changes = facts-groups (filter takes_away changes)

pub facts_put-groups : (changes : List ViewChange) → facts_put changes ≡ flat_map group_facts (groups_that puts changes)
facts_put-groups changes = facts-groups (filter puts changes)

module _ (kind : ViewChange → Bool) where
  -- the first of them have no more facts
  pub members-take : (n : ℕ) (changes : List ViewChange) → members (groups_that kind (take n changes)) ≤ members (groups_that kind changes)
  members-take zero changes = omega arith
  members-take (suc n) [] = omega arith
  members-take (suc n) (change ∷ changes) = either (kind change) (members-take n changes)
    where
      either : (b : Bool) → members (groups_that kind (take n changes)) ≤ members (groups_that kind changes)
          → members (map group_of (if b then change ∷ filter kind (take n changes) else filter kind (take n changes))) ≤ members (map group_of (if b then change ∷ filter kind changes else filter kind changes))
      either true rest =
          omega (
            arith,
            rest,
            sum_by-cons (λ (g : Group). g.count) (group_of change) (groups_that kind (take n changes)),
            sum_by-cons (λ (g : Group). g.count) (group_of change) (groups_that kind changes),
          )
      either false rest = rest

  -- what holds of all groups holds of those of a kind
  pub All-that : (P : Group → Type 0) (changes : List ViewChange) → All (λ change. P (group_of change)) changes → All P (groups_that kind changes)
  All-that P [] each = All-nil P
  All-that P (change ∷ changes) each = either (kind change) (All-that P changes (All-tail (λ change. P (group_of change)) change changes each))
    where
      either : (b : Bool) → All P (groups_that kind changes) → All P (map group_of (if b then change ∷ filter kind changes else filter kind changes))
      either true rest = All-cons P (group_of change) (groups_that kind changes) (All-head (λ change. P (group_of change)) change changes each) rest
      either false rest = rest

  -- and of the first of those
  pub All-first : (P : Group → Type 0) (n : ℕ) (changes : List ViewChange) → All (λ change. P (group_of change)) changes → All P (groups_that kind (take n changes))
  All-first P zero changes each = All-nil P
  All-first P (suc n) [] each = All-nil P
  All-first P (suc n) (change ∷ changes) each = either (kind change) (All-first P n changes (All-tail (λ change. P (group_of change)) change changes each))
    where
      either : (b : Bool) → All P (groups_that kind (take n changes)) → All P (map group_of (if b then change ∷ filter kind (take n changes) else filter kind (take n changes)))
      either true rest = All-cons P (group_of change) (groups_that kind (take n changes)) (All-head (λ change. P (group_of change)) change changes each) rest
      either false rest = rest

module _ (dims : List Dimension) where
  -- what the group at a code, if there is one, puts or takes away
  pub facts_taken_away-of : (put : Bool) (code : ℕ) (o : Option Group) (changes : List ViewChange) → groups_that takes_away (group_changes put dims code o ++ changes) ≡ (if put then groups_that takes_away changes else cons_option o (groups_that takes_away changes))
  facts_taken_away-of true code None changes = refl
  facts_taken_away-of true code (Some g) changes = refl
  facts_taken_away-of false code None changes = refl
  facts_taken_away-of false code (Some g) changes = refl

  pub facts_put-of : (put : Bool) (code : ℕ) (o : Option Group) (changes : List ViewChange) → groups_that puts (group_changes put dims code o ++ changes) ≡ (if put then cons_option o (groups_that puts changes) else groups_that puts changes)
  facts_put-of true code None changes = refl
  facts_put-of true code (Some g) changes = refl
  facts_put-of false code None changes = refl
  facts_put-of false code (Some g) changes = refl

  -- what holds of it and its region holds of those of its change
  pub each-of : (P : List ℕ → Group → Type 0) (put : Bool) (code : ℕ) (o : Option Group) → ((g : Group) → o ≡ Some g → P (region_at dims code) g) → All (λ change. P change.region (group_of change)) (group_changes put dims code o)
  each-of P put code None each = All-nil (λ change. P change.region (group_of change))
  each-of P put code (Some g) each = All-cons (λ change. P change.region (group_of change)) (group_change put (region_at dims code) g) [] (each g refl) (All-nil (λ change. P change.region (group_of change)))
