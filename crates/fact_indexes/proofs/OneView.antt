-- The groups of facts, put into one view place by place, make it a view of these facts.
use Rattle.std.proofs.Common.{◌≡◌, ℕ, ◌+◌, ◌-◌, ◌*◌, ◌<◌, ◌≤◌, true, List, [], ◌∷◌, ◌++◌, drop, eqb, length, take, append-nil, refl, ap, sym, ◌∙◌, subst, arith, pos, Some}
use Rattle.std.specs.Prelude.{All, slice_get}
use Rattle.std.specs.List.{IsDistinct, flat_map}
use Rattle.std.specs.Map.{keys_of, values_of}
use Rattle.std.specs.Option.{option_and_then}
use Rattle.std.proofs.lemmas.Grind.{flat_map-append}
use Rattle.std.proofs.lemmas.Int.{ints}
use Rattle.std.proofs.lemmas.List.{map-append, take-append-drop, take_all}
use Rattle.std.proofs.lemmas.List.Concat.{flat_map-cons}
use Rattle.std.proofs.lemmas.List.Elements.{All-cons, All-head, All-nil, All-tail, All-weaker, filter_map-append}
use Rattle.std.proofs.lemmas.List.Sums.{sum_by-append}
use Rattle.cube_model.specs.declared.edit.Fact.{Fact}
use Rattle.cube_model.specs.declared.statistic.CellStat.{CellStat}
use Rattle.cube_model.specs.Allocation.{ExtendedFact, Policy, extended}
use Rattle.cube_model.specs.Answer.{count_at, sum_at}
use Rattle.cube_model.specs.Cells.{cells_of}
use Rattle.cube_model.specs.Limits.{MAX_FACTS, MAX_VALUE}
use Rattle.cube_model.specs.Tree.{Dimension, IsTree}
use Rattle.region_algebra.specs.Space.{IsRegion, region_total}
use Rattle.staged_map.specs.Staged.{Places, held, held_of}
use Rattle.cell_weight.specs.Stats.{IsStat}
use Rattle.fact_groups.specs.Groups.{AreGrouped, Group, count_in, group_at, group_facts, groups_at, sum_in}
use Rattle.fact_groups.proofs.AsFacts.{count-as_facts, sum-as_facts}
use Rattle.fact_groups.proofs.Groups.{count-grouped, sum-grouped}
use Rattle.fact_records.specs.Shape.{IsShape, ShapeValue, policy_over, width_of_all}
use Rattle.fact_records.specs.Valid.{AreValid}
use Rattle.view_store.specs.declared.change.ViewChange.{ViewChange}
use Rattle.view_store.specs.Changes.{FitsView}
use Rattle.view_store.specs.Facts.{AddsFacts, IsViewOfFacts}
use Rattle.view_store.specs.Views.{ViewMap, region_at}
use Rattle.view_store.proofs.OfFacts.{answers-alike}
use Rattle.fact_indexes.specs.Anew.{AreGroupsOf}
use Rattle.fact_indexes.specs.Kept.{IsCutView}
use Rattle.fact_indexes.specs.ViewChanges.{group_change}
use Rattle.fact_indexes.proofs.ChangeGroups.{group_of}
use Rattle.fact_indexes.proofs.ChangedEntries.{IsPlaced, StandFor, fits-views}
use Rattle.fact_indexes.proofs.EmptyViews.{view-none}
use Rattle.fact_indexes.proofs.GroupRegions.{group-region}
use Rattle.fact_indexes.proofs.HeldGroups.{group-rows, grouped-held, groups-held, held-group}
use Rattle.fact_indexes.proofs.Modest.{IsModest, members}
use Rattle.fact_indexes.proofs.SmallGroups.{group-modest, groups-modest}
use Rattle.fact_indexes.proofs.SplitGroups.{members-grouped}
use Rattle.fact_indexes.proofs.ValidFacts.{valid-regions}

-- what holds of all holds of the first of them
first-all : {X : Type 0} (P : X → Type 0) (xs ys : List X) → All P (xs ++ ys) → All P xs
first-all P [] ys each = All-nil P
first-all P (x ∷ xs) ys each = All-cons P x xs (All-head P x (xs ++ ys) each) (first-all P xs ys (All-tail P x (xs ++ ys) each))

-- the groups of the first places, and those of a place more
abbrev pub groups_before : Places Group → ℕ → List Group
groups_before places i = values_of (held (take i places))

values-append : (first second : List (ℕ × Group)) → values_of (first ++ second) ≡ values_of first ++ values_of second
values-append first second = map-append (λ (e : ℕ × Group). e.1) first second

before-all : (places : Places Group) (i : ℕ) → values_of (held places) ≡ groups_before places i ++ values_of (held (drop i places))
before-all places i =
    sym (ap (λ (ps : Places Group). values_of (held ps)) (take-append-drop i places))
    ∙ ap (λ (es : List (ℕ × Group)). values_of es) (filter_map-append held_of (take i places) (drop i places))
    ∙ values-append (held (take i places)) (held (drop i places))

pub before-next : (places : Places Group) (i code : ℕ) (g : Group) → held (take (i + 1) places) ≡ held (take i places) ++ (code, g) ∷ [] → groups_before places (i + 1) ≡ groups_before places i ++ g ∷ []
before-next places i code g next = ap (λ (es : List (ℕ × Group)). values_of es) next ∙ values-append (held (take i places)) ((code, g) ∷ [])

pub before-none : (places : Places Group) (i : ℕ) → held (take (i + 1) places) ≡ held (take i places) ++ [] → groups_before places (i + 1) ≡ groups_before places i
before-none places i next = ap (λ (es : List (ℕ × Group)). values_of es) (next ∙ append-nil (held (take i places)))

-- a view without entries is one of no groups
pub cut-none : (dims : List Dimension) (cuts : List ℕ) (columns width : ℕ) (places : Places Group) → columns ≡ 1 + width → length cuts ≡ length dims
    → IsCutView dims cuts (width + 1) (flat_map group_facts (groups_before places 0)) (record { columns = columns; depths = cuts; entries = [] })
cut-none dims cuts columns width places wide deep =
    let view : ViewMap = record { columns = columns; depths = cuts; entries = [] } in
    record {
      columns_are = omega (arith, wide);
      cuts_are = refl;
      over = record { depths = deep; regions = λ code there. cc };
      answers = view-none dims view refl;
    }

module _ (weigh : CellStat → ℕ) (bound : (s : CellStat) → IsStat s → weigh s ≤ 1 + s.count * MAX_VALUE) (shape : ShapeValue) (dims : List Dimension) (facts : List Fact)
    (is : IsShape shape) (trees : All IsTree dims) (valid : AreValid shape dims facts)
    (places : Places Group) (kept : AreGroupsOf (policy_over weigh shape) shape dims facts places) (distinct : IsDistinct eqb (keys_of places)) (once : IsDistinct eqb (keys_of (held places))) where
  abbrev policy : Policy
  policy = policy_over weigh shape

  abbrev width : ℕ
  width = width_of_all shape.measures

  abbrev all : List Group
  all = values_of (held places)

  regions : All (λ f. IsRegion dims f.region) facts
  regions = valid-regions shape dims facts valid

  grouped : AreGrouped dims facts (keys_of (held places))
  grouped = grouped-held policy width dims facts places kept distinct once trees regions

  all-are : groups_at policy width dims facts (keys_of (held places)) ≡ all
  all-are = groups-held policy width dims facts places kept distinct once

  all-modest : All (IsModest width) all
  all-modest = subst (All (IsModest width)) all-are (groups-modest weigh bound shape dims facts is trees valid (keys_of (held places)))

  all-few : members all ≤ MAX_FACTS
  all-few = omega (arith, ap members (sym all-are), members-grouped policy width dims facts (keys_of (held places)) grouped, valid.few)

  -- some of them
  module _ (i : ℕ) where
    abbrev before : List Group
    before = groups_before places i

    abbrev rows : List ExtendedFact
    rows = flat_map group_facts before

    before-modest : All (IsModest width) before
    before-modest = first-all (IsModest width) before (values_of (held (drop i places))) (subst (All (IsModest width)) (before-all places i) all-modest)

    before-few : members before ≤ MAX_FACTS
    before-few = omega (arith, all-few, ap members (before-all places i), sum_by-append (λ (g : Group). g.count) before (values_of (held (drop i places))))

    counts-are : (cells : List ℕ) (d : ℕ) → count_at cells rows d ≡ count_in cells before d
    counts-are cells d = count-as_facts cells d before (All-weaker (IsModest width) (λ g. 1 ≤ g.count) (λ g one. one.some) before before-modest)

  -- the group of the next place
  module _ (i code : ℕ) (g : Group) (at : option_and_then held_of (slice_get places i) ≡ Some (code, g)) (next : held (take (i + 1) places) ≡ held (take i places) ++ (code, g) ∷ []) where
    abbrev change : ViewChange
    change = group_change true (region_at dims code) g

    its : group_at policy width dims facts code ≡ Some g
    its = held-group policy width dims facts places kept i code g distinct at

    pub code-below : code < region_total dims
    code-below = (group-region policy width dims facts code g trees regions its).below

    placed : IsPlaced dims width change.region (group_of change)
    placed =
        let lies = group-region policy width dims facts code g trees regions its in
        record { modest = group-modest weigh bound shape dims facts is trees valid code g its; cells = group-rows policy width dims facts code g its; named = lies.named; inside = lies.inside }

    stand-for : StandFor dims width (rows i) (change ∷ []) (before i)
    stand-for = record {
      each = All-cons (λ (c : ViewChange). IsPlaced dims width c.region (group_of c)) change [] placed (All-nil (λ (c : ViewChange). IsPlaced dims width c.region (group_of c)));
      stay = before-modest i;
      counts = λ cells d. let none : count_in cells [] d ≡ 0 = refl in omega (arith, counts-are i cells d, none);
      sums = λ cells k d lt. let none : sum_in cells [] k d ≡ pos 0 = refl in omega (arith, ints, sum-as_facts cells k d (before i), none);
      few_before = let none : members [] ≡ 0 = refl in omega (arith, before-few i, none);
      few_after = let one : members (g ∷ []) ≡ g.count = omega arith in omega (arith, before-few (i + 1), ap members (before-next places i code g next), sum_by-append (λ (x : Group). x.count) (before i) (g ∷ []), one);
    }

    -- fits the view of those before it
    pub fits-next : (view : ViewMap) (cuts : List ℕ) → IsCutView dims cuts (width + 1) (rows i) view → FitsView dims (change ∷ []) view
    fits-next view cuts of =
        All-head (FitsView dims (change ∷ [])) view []
        (fits-views dims width (rows i) (change ∷ []) (before i) stand-for (view ∷ []) (All-cons (IsViewOfFacts dims (rows i)) view [] of.answers (All-nil (IsViewOfFacts dims (rows i))))
        (All-cons (λ (v : ViewMap). v.columns ≡ width + 1) view [] of.columns_are (All-nil (λ (v : ViewMap). v.columns ≡ width + 1))))

    rows-next : rows (i + 1) ≡ rows i ++ group_facts g
    rows-next =
        ap (flat_map group_facts) (before-next places i code g next) ∙ flat_map-append group_facts (before i) (g ∷ [])
        ∙ ap (λ (more : List ExtendedFact). rows i ++ more) (flat_map-cons group_facts g [] ∙ append-nil (group_facts g))

    -- and makes it one of these and it
    pub cut-next : (view new : ViewMap) (cuts : List ℕ) → IsCutView dims cuts (width + 1) (rows i) view → AddsFacts dims change view new → IsCutView dims cuts (width + 1) (rows (i + 1)) new
    cut-next view new cuts of adds = record {
      columns_are = adds.columns ∙ of.columns_are;
      cuts_are = adds.depths ∙ of.cuts_are;
      over = adds.over;
      answers = subst (λ (es : List ExtendedFact). IsViewOfFacts dims es new) (sym rows-next) (adds.facts (rows i) of.answers);
    }

  pub cut-same : (i : ℕ) (view : ViewMap) (cuts : List ℕ) → held (take (i + 1) places) ≡ held (take i places) ++ [] → IsCutView dims cuts (width + 1) (rows i) view → IsCutView dims cuts (width + 1) (rows (i + 1)) view
  cut-same i view cuts none of = subst (λ (gs : List Group). IsCutView dims cuts (width + 1) (flat_map group_facts gs) view) (sym (before-none places i none)) of

  -- All of them are all facts.
  module _ (i : ℕ) (end : length places ≤ i) (view : ViewMap) (cuts : List ℕ) (of : IsCutView dims cuts (width + 1) (rows i) view) where
    all-before : before i ≡ all
    all-before = ap (λ (ps : Places Group). values_of (held ps)) (take_all i places end)

    facts-count : (cells : List ℕ) (d : ℕ) → count_at cells (rows i) d ≡ count_at cells (extended policy dims facts) d
    facts-count cells d =
        counts-are i cells d ∙ ap (λ (gs : List Group). count_in cells gs d) (all-before ∙ sym all-are) ∙ sym (count-grouped policy width dims facts (keys_of (held places)) grouped cells d)

    facts-sum : (cells : List ℕ) (k d : ℕ) → k < width → sum_at cells (rows i) k d ≡ sum_at cells (extended policy dims facts) k d
    facts-sum cells k d lt =
        sum-as_facts cells k d (before i) ∙ ap (λ (gs : List Group). sum_in cells gs k d) (all-before ∙ sym all-are) ∙ sym (sum-grouped policy width dims facts (keys_of (held places)) grouped cells k d lt)

    pub cut-all : IsCutView dims cuts (width + 1) (extended policy dims facts) view
    cut-all = record {
      columns_are = of.columns_are;
      cuts_are = of.cuts_are;
      over = of.over;
      answers = record {
        columns = of.answers.columns;
        answers = λ code inside.
            of.answers.answers code inside
            ∙ answers-alike (view.columns - 1) dims (rows i) (extended policy dims facts) (region_at dims code) (λ d. facts-count (cells_of dims (region_at dims code)) d)
            (λ d k lt. facts-sum (cells_of dims (region_at dims code)) k d (omega (arith, lt, of.columns_are)));
        others = of.answers.others;
      };
    }
