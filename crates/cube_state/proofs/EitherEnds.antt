-- The facts of ids, of which each may stand inside and outside, one after another.
use Rattle.std.proofs.Common.{◌≡◌, ℕ, ◌+◌, ◌*◌, ◌<◌, ◌≤◌, ◌^◌, Bool, true, false, List, [], ◌∷◌, get_or, length, map, take, ap, sym, ◌∙◌, arith, ℤ, pos, ◌+ℤ◌, Option, Some, None}
use Rattle.std.specs.Prelude.{All, filter, find, nat_abs, not, ◌==◌, if◌then◌else◌}
use Rattle.std.specs.Option.{option_map_or}
use Rattle.std.proofs.lemmas.Int.{ints}
use Rattle.std.proofs.lemmas.List.{take_more}
use Rattle.std.proofs.lemmas.List.Elements.{All-filter}
use Rattle.cube_model.specs.declared.edit.Fact.{Fact}
use Rattle.cube_model.specs.Answer.{total_by}
use Rattle.cube_model.specs.Tree.{Dimension}
use Rattle.cube_model.proofs.Totals.{total_by-append, total_by-same}
use Rattle.region_index.specs.Indexed.{is_indexed_at}
use Rattle.fact_groups.proofs.Groups.{first-holds, total_by-map}
use Rattle.world_range.specs.declared.extreme.Extreme.{Extreme}
use Rattle.world_range.specs.declared.extreme.Extreme.TheVariants.{Greatest, Least}
use Rattle.world_range.specs.Picks.{wants_inside}
use Rattle.cube_state.specs.declared.ranging.Ends.{Ends}
use Rattle.cube_state.specs.Ranging.{AreIdsOfSome, LieWithin, column_in, either_part, id_part}
use Rattle.cube_state.specs.State.{ids_with}
use Rattle.cube_state.proofs.GroupEnds.{either_end}

-- the ids of facts stand for the facts
pub either-ids : (extreme : Extreme) (column : ℕ) (facts : List Fact) → All (λ f. find (λ g. g.id == f.id) facts ≡ Some f) facts → (p : Fact → Bool)
    → total_by (id_part extreme column facts) (map (λ f. f.id) (filter p facts)) ≡ either_end extreme column (filter p facts)
either-ids extreme column facts found p =
    let there = All-filter p (λ f. find (λ g. g.id == f.id) facts ≡ Some f) facts found in
    total_by-map (id_part extreme column facts) (λ (f : Fact). f.id) (filter p facts)
    ∙ total_by-same (λ f. id_part extreme column facts f.id) (λ f. either_part extreme (column_in column f)) (filter p facts)
    (λ k d within. ap (λ (o : Option Fact). option_map_or (λ f. either_part extreme (column_in column f)) o (pos 0)) (there k d within))

-- the ids of the imprecise facts of a region are those of some of the facts
pub ids-some : (dims : List Dimension) (facts all : List Fact) → facts ≡ all → (code : ℕ) (ids : List ℕ) → ids ≡ ids_with dims all code → AreIdsOfSome facts ids
ids-some dims facts all are code ids listed = record { holds = is_indexed_at dims code; are = listed ∙ ap (λ fs. ids_with dims fs code) (sym are) }

-- a fact that is found is one of the facts
pub found-wide : (column : ℕ) (facts : List Fact) (id : ℕ) (fact : Fact) → All (λ f. column ≤ length f.cols) facts → find (λ f. f.id == id) facts ≡ Some fact → column ≤ length fact.cols
found-wide column facts id fact wide found = first-holds (λ f. column ≤ length f.cols) (λ f. f.id == id) facts fact wide found

either-le : (b : Bool) (value : ℤ) (limit : ℕ) → nat_abs value ≤ limit → nat_abs (if not b then pos 0 else value) ≤ limit
either-le true value limit small = small
either-le false value limit small = omega arith

module _ (column : ℕ) (facts : List Fact) where
  -- the ends of the facts of these ids, after so many steps
  pub record AreOfIds (ids : List ℕ) (steps : ℕ) (ends : Ends) : Type 0 where
    pub least : ends.least ≡ total_by (id_part Least column facts) ids
    pub greatest : ends.greatest ≡ total_by (id_part Greatest column facts) ids
    pub small : LieWithin (steps * 2 ^ 63) ends

  -- an id more
  module _ (ids : List ℕ) (i d : ℕ) (within : i < length ids) (ends : Ends) (before : AreOfIds (take i ids) i ends) where
    id-push : (extreme : Extreme) → total_by (id_part extreme column facts) (take (i + 1) ids) ≡ total_by (id_part extreme column facts) (take i ids) +ℤ id_part extreme column facts (get_or ids i d)
    id-push extreme =
        let both = total_by-append (id_part extreme column facts) (take i ids) (get_or ids i d ∷ []) in
        let all = ap (total_by (id_part extreme column facts)) (take_more ids i d within) in
        omega (arith, ints, both, all)

    pub of-id-some : (id : ℕ) → id ≡ get_or ids i d → (fact : Fact) → find (λ f. f.id == id) facts ≡ Some fact → (value : ℤ) → value ≡ column_in column fact → nat_abs value ≤ 2 ^ 63 → (new : Ends) → new.least ≡ ends.least +ℤ either_part Least value → new.greatest ≡ ends.greatest +ℤ either_part Greatest value
        → AreOfIds (take (i + 1) ids) (i + 1) new
    of-id-some id at fact found value valued fits new least greatest = record {
      least = more Least ends.least new.least before.least least;
      greatest = more Greatest ends.greatest new.greatest before.greatest greatest;
      small = record {
        least = added Least ends.least new.least before.small.least least;
        greatest = added Greatest ends.greatest new.greatest before.small.greatest greatest;
      };
    }
      where
        here : (extreme : Extreme) → id_part extreme column facts (get_or ids i d) ≡ either_part extreme value
        here extreme =
            ap (id_part extreme column facts) (sym at)
            ∙ ap (λ (o : Option Fact). option_map_or (λ f. either_part extreme (column_in column f)) o (pos 0)) found
            ∙ ap (either_part extreme) (sym valued)

        more : (extreme : Extreme) (old later : ℤ) → old ≡ total_by (id_part extreme column facts) (take i ids) → later ≡ old +ℤ either_part extreme value → later ≡ total_by (id_part extreme column facts) (take (i + 1) ids)
        more extreme old later was adds = adds ∙ ap (λ z. z +ℤ either_part extreme value) was ∙ ap (λ z. total_by (id_part extreme column facts) (take i ids) +ℤ z) (sym (here extreme)) ∙ sym (id-push extreme)

        added : (extreme : Extreme) (old later : ℤ) → nat_abs old ≤ i * 2 ^ 63 → later ≡ old +ℤ either_part extreme value → nat_abs later ≤ (i + 1) * 2 ^ 63
        added extreme old later was adds =
            let one : nat_abs (either_part extreme value) ≤ 2 ^ 63 = either-le (wants_inside extreme value) value (2 ^ 63) fits in
            omega (arith, ints, was, adds, one)

    -- of which there is no fact
    pub of-id-none : (id : ℕ) → id ≡ get_or ids i d → (found : Option Fact) → found ≡ find (λ f. f.id == id) facts → found ≡ None → AreOfIds (take (i + 1) ids) (i + 1) ends
    of-id-none id at found is none = record {
      least = more Least ends.least before.least;
      greatest = more Greatest ends.greatest before.greatest;
      small = record { least = omega (arith, before.small.least); greatest = omega (arith, before.small.greatest) };
    }
      where
        more : (extreme : Extreme) (old : ℤ) → old ≡ total_by (id_part extreme column facts) (take i ids) → old ≡ total_by (id_part extreme column facts) (take (i + 1) ids)
        more extreme old was =
            let push = id-push extreme in
            let nothing : id_part extreme column facts (get_or ids i d) ≡ pos 0 =
            ap (id_part extreme column facts) (sym at) ∙ ap (λ (o : Option Fact). option_map_or (λ f. either_part extreme (column_in column f)) o (pos 0)) (sym is ∙ none) in
            omega (arith, ints, was, push, nothing)
