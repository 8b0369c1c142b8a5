-- The facts of a state, picked one after another.
use Rattle.std.proofs.Common.{◌≡◌, ℕ, ◌+◌, ◌*◌, ◌<◌, ◌≤◌, ◌^◌, Bool, true, false, Bor, List, [], ◌∷◌, ◌++◌, get_or, length, map, refl, ap, sym, ◌∙◌, subst, arith, ℤ, pos, ◌+ℤ◌, Option, Some, None}
use Rattle.std.specs.Prelude.{All, filter, find, nat_abs, not, ◌==◌, if◌then◌else◌}
use Rattle.std.specs.Option.{option_copied, option_map}
use Rattle.std.proofs.lemmas.Bool.{not-false, not-true}
use Rattle.std.proofs.lemmas.Int.{ints}
use Rattle.std.proofs.lemmas.List.{append-nil}
use Rattle.std.proofs.lemmas.List.Elements.{All-append, All-cons, All-contains, All-nil}
use Rattle.std.proofs.lemmas.Option.{same_Some}
use Rattle.cube_model.specs.declared.edit.Fact.{Fact}
use Rattle.cube_model.specs.declared.statistic.CellStat.{CellStat}
use Rattle.cube_model.specs.Allocation.{Allocation, ExtendedFact, Policy, allocation, extended}
use Rattle.cube_model.specs.Answer.{total_by}
use Rattle.cube_model.specs.Cells.{AreRows, all_cells, cells_of, is_among}
use Rattle.cube_model.specs.Facts.{is_precise}
use Rattle.cube_model.specs.Limits.{MAX_FACTS}
use Rattle.cube_model.specs.Tree.{Dimension, IsTree}
use Rattle.alloc_rows.specs.Alloc.{IsAllocation}
use Rattle.cube_state.specs.Ranging.{column_in}
use Rattle.cube_state.specs.State.{StateValue, policy_in}
use Rattle.edit_plan.proofs.AllRefreshed.{gathered-all, gathered-next, gathered-none, left-first}
use Rattle.fact_groups.specs.Groups.{Group, group_at}
use Rattle.fact_groups.proofs.Groups.{first-holds, total_by-map}
use Rattle.fact_indexes.proofs.ValidFacts.{valid-regions}
use Rattle.fact_records.proofs.SmallValues.{count-accepted}
use Rattle.fact_records.specs.Shape.{ShapeValue, width_of_all}
use Rattle.fact_records.specs.Valid.{AreValid}
use Rattle.region_algebra.specs.Space.{IsRegion, code_of}
use Rattle.world_range.specs.declared.extreme.Extreme.{Extreme}
use Rattle.world_range.specs.Picks.{end_of, part, pick, pick_among}
use Rattle.world_range.proofs.Reached.{picked_row}
use Rattle.cube_core.specs.Ranging.{imprecise_picks, pair_of}
use Rattle.cube_core.proofs.Rows.{AreRows-allocation}
use Rattle.cube_state.proofs.GroupEnds.{rows-some}
use Rattle.cube_state.proofs.Looking.{find-itself, group-found}

-- what is picked among rows of cells of the space is such a cell
pub picked-cell : (dims : List Dimension) (extreme : Extreme) (cells : List ℕ) (value : ℤ) (rows : List (ℕ × ℕ)) → AreRows dims rows → 1 ≤ length rows → pick_among extreme cells value rows < length (all_cells dims)
picked-cell dims extreme cells value rows are some =
    let one = picked_row extreme cells value rows some in
    subst (λ cell. cell < length (all_cells dims)) one.is (All-contains (λ (row : ℕ × ℕ). row.0 < length (all_cells dims)) rows one.row are one.there)

-- a fact is told to be imprecise, or not
pub pushed-imprecise : (dims : List Dimension) (f : Fact) (imprecise : Bool) → imprecise ≡ not (is_precise dims f) → imprecise ≡ true → (picks new : List (ℕ × ℕ)) (pair : ℕ × ℕ) → new ≡ picks ++ pair ∷ []
    → new ≡ picks ++ (if is_precise dims f then [] else pair ∷ [])
pushed-imprecise dims f imprecise told is picks new pair pushed =
    let many : is_precise dims f ≡ false = not-true (is_precise dims f) (sym told ∙ is) in
    pushed ∙ sym (ap (λ (b : Bool). picks ++ (if b then [] else pair ∷ [])) many)

pub pushed-precise : (dims : List Dimension) (f : Fact) (imprecise : Bool) → imprecise ≡ not (is_precise dims f) → imprecise ≡ false → (picks : List (ℕ × ℕ)) (pair : ℕ × ℕ)
    → picks ≡ picks ++ (if is_precise dims f then [] else pair ∷ [])
pushed-precise dims f imprecise told is picks pair =
    let one : is_precise dims f ≡ true = not-false (is_precise dims f) (sym told ∙ is) in
    sym (ap (λ (b : Bool). picks ++ (if b then [] else pair ∷ [])) one ∙ append-nil picks)

module _ (policy : Policy) (shape : ShapeValue) (dims : List Dimension) (facts : List Fact) (extreme : Extreme) (region : List ℕ) (column : ℕ) where
  abbrev row : Fact → ExtendedFact
  row f = record { id = f.id; values = f.cols; allocation = allocation policy dims facts f }

  abbrev own_part : Fact → ℤ
  own_part f = part extreme (cells_of dims region) column (row f)

  -- a fact that is left is there, in a region of the space, and has all columns
  pub record IsLeft (f : Fact) : Type 0 where
    pub found : find (λ g. g.id == f.id) facts ≡ Some f
    pub named : IsRegion dims f.region
    pub width : length f.cols ≡ width_of_all shape.measures

  -- Some facts are picked, and the others are left.
  pub record ArePicked (sum : ℤ) (picks : List (ℕ × ℕ)) (left : List Fact) : Type 0 where
    pub sums : sum +ℤ total_by own_part left ≡ total_by own_part facts
    pub pairs : picks ++ map (pair_of policy dims facts extreme region column) (filter (λ f. not (is_precise dims f)) left) ≡ imprecise_picks policy dims facts extreme region column
    pub cells : All (λ pick. pick.1 < length (all_cells dims)) picks
    pub each : All IsLeft left
    pub small : nat_abs sum + length left * 2 ^ 63 ≤ MAX_FACTS * 2 ^ 63

  pub picked-none : (picks : List (ℕ × ℕ)) (walk : List Fact) → AreValid shape dims facts → picks ≡ [] → walk ≡ facts → ArePicked (pos 0) picks walk
  picked-none picks walk valid none is =
      let itself = find-itself facts valid.ascending in
      let all : All IsLeft facts = λ k d lt. record {
        found = itself k d lt;
        named = (valid.each k d lt).accepted.placed.region;
        width = count-accepted shape (get_or facts k d).cols (valid.each k d lt).accepted.values;
      } in
      record {
        sums = let start : (z : ℤ) → pos 0 +ℤ z ≡ z = λ z. omega (arith, ints) in start (total_by own_part walk) ∙ ap (total_by own_part) is;
        pairs = gathered-none (λ (f : Fact). not (is_precise dims f)) (pair_of policy dims facts extreme region column) facts walk picks none is;
        cells = subst (All {X = ℕ × ℕ} (λ pick. pick.1 < length (all_cells dims))) (sym none) (All-nil {X = ℕ × ℕ} (λ pick. pick.1 < length (all_cells dims)));
        each = subst (All IsLeft) (sym is) all;
        small = omega (arith, valid.few, ap length is);
      }

  module _ {sum : ℤ} {picks : List (ℕ × ℕ)} {ahead left : List Fact} {f : Fact} (before : ArePicked sum picks ahead) (cut : ahead ≡ f ∷ left) where
    pub picked-left : IsLeft f
    picked-left = (left-first IsLeft ahead f left before.each cut).0

    -- a fact less is left
    module _ (asked : List ℕ) (same : asked ≡ cells_of dims region) (value : ℤ) (valued : value ≡ column_in column f) (small : nat_abs value ≤ 2 ^ 63) (spread : Allocation) (spread_is : spread ≡ allocation policy dims facts f)
        (allocated : IsAllocation spread) (rows : List (ℕ × ℕ)) (listed : rows ≡ spread.rows) (cell : ℕ) (chosen : cell ≡ pick_among extreme asked value rows) where
      chosen-is : cell ≡ pick extreme (cells_of dims region) column (row f)
      chosen-is =
          chosen ∙ ap (λ cs. pick_among extreme cs value rows) same ∙ ap (pick_among extreme (cells_of dims region) value) (listed ∙ ap (λ (a : Allocation). a.rows) spread_is)
          ∙ ap (λ v. pick_among extreme (cells_of dims region) v (row f).allocation.rows) valued

      within : cell < length (all_cells dims)
      within =
          let are : AreRows dims rows = subst (AreRows dims) (sym (listed ∙ ap (λ (a : Allocation). a.rows) spread_is)) (AreRows-allocation policy dims facts f) in
          subst (λ k. k < length (all_cells dims)) (sym chosen) (picked-cell dims extreme asked value rows are (rows-some spread rows listed allocated))

      part-is : (if is_among asked cell then value else pos 0) ≡ own_part f
      part-is =
          ap (λ cs. if is_among cs cell then value else pos 0) same ∙ ap (λ c. if is_among (cells_of dims region) c then value else pos 0) chosen-is
          ∙ ap (λ v. if is_among (cells_of dims region) (pick extreme (cells_of dims region) column (row f)) then v else pos 0) valued

      added : (a b whole : ℤ) (more sum : ℤ) → a +ℤ (b +ℤ whole) ≡ sum → more ≡ a +ℤ b → more +ℤ whole ≡ sum
      added a b whole more sum all is = omega (arith, ints, all, is)

      either-small : (b : Bool) (z : ℤ) → nat_abs z ≤ 2 ^ 63 → nat_abs (if b then z else pos 0) ≤ 2 ^ 63
      either-small true z fits = fits
      either-small false z fits = omega arith

      either-pair : (b : Bool) → (if b then [] else (f.id, cell) ∷ []) ≡ map (pair_of policy dims facts extreme region column) (if not b then f ∷ [] else [])
      either-pair true = refl
      either-pair false = ap (λ c. (f.id, c) ∷ []) chosen-is

      either-cells : (b : Bool) → All {X = ℕ × ℕ} (λ pick. pick.1 < length (all_cells dims)) (if b then [] else (f.id, cell) ∷ [])
      either-cells true = All-nil {X = ℕ × ℕ} (λ pick. pick.1 < length (all_cells dims))
      either-cells false = All-cons {X = ℕ × ℕ} (λ pick. pick.1 < length (all_cells dims)) (f.id, cell) [] within (All-nil {X = ℕ × ℕ} (λ pick. pick.1 < length (all_cells dims)))

      pub picked-next : (more : ℤ) (new : List (ℕ × ℕ)) → more ≡ sum +ℤ (if is_among asked cell then value else pos 0) → new ≡ picks ++ (if is_precise dims f then [] else (f.id, cell) ∷ []) → ArePicked more new left
      picked-next more new adds pushed = record {
        sums = added sum (own_part f) (total_by own_part left) more (total_by own_part facts) (sym (ap (λ fs. sum +ℤ total_by own_part fs) cut) ∙ before.sums) (adds ∙ ap (λ z. sum +ℤ z) part-is);
        pairs =
            gathered-next (λ (f : Fact). not (is_precise dims f)) (pair_of policy dims facts extreme region column) (imprecise_picks policy dims facts extreme region column) picks new ahead f left before.pairs cut
            (pushed ∙ ap (λ ps. picks ++ ps) (either-pair (is_precise dims f)));
        cells = subst (All {X = ℕ × ℕ} (λ pick. pick.1 < length (all_cells dims))) (sym pushed) (All-append {X = ℕ × ℕ} (λ pick. pick.1 < length (all_cells dims)) picks _ before.cells (either-cells (is_precise dims f)));
        each = (left-first IsLeft ahead f left before.each cut).1;
        small =
            let one = either-small (is_among asked cell) value small in
            let both : nat_abs (sum +ℤ (if is_among asked cell then value else pos 0)) ≤ nat_abs sum + nat_abs (if is_among asked cell then value else pos 0) = omega (arith, ints) in
            omega (arith, one, both, before.small, ap length cut, ap nat_abs adds);
      }

  -- at the end none is left
  pub picked-sum : (sum : ℤ) (picks : List (ℕ × ℕ)) (left : List Fact) → ArePicked sum picks left → left ≡ [] → sum ≡ end_of extreme (cells_of dims region) column (extended policy dims facts)
  unfolding extended
  picked-sum sum picks left are none =
      let stop : (z : ℤ) → z ≡ z +ℤ pos 0 = λ z. omega (arith, ints) in
      stop sum ∙ sym (ap (λ fs. sum +ℤ total_by own_part fs) none) ∙ are.sums ∙ sym (total_by-map (part extreme (cells_of dims region) column) row facts)

  pub picked-pairs : (sum : ℤ) (picks : List (ℕ × ℕ)) (left : List Fact) → ArePicked sum picks left → left ≡ [] → picks ≡ imprecise_picks policy dims facts extreme region column
  picked-pairs sum picks left are none = gathered-all (λ (f : Fact). not (is_precise dims f)) (pair_of policy dims facts extreme region column) (imprecise_picks policy dims facts extreme region column) picks left are.pairs none

-- a fact of a state is spread as the group of its region is
module _ {P : Type 0} (weigh : P → CellStat → ℕ) (state : StateValue P) (valid : AreValid state.shape state.dims state.facts) (trees : All IsTree state.dims) (fact : Fact) (there : find (λ f. f.id == fact.id) state.facts ≡ Some fact) where
  pub named-there : IsRegion state.dims fact.region
  named-there = first-holds (λ f. IsRegion state.dims f.region) (λ f. f.id == fact.id) state.facts fact (valid-regions state.shape state.dims state.facts valid) there

  module _ (code : ℕ) (coded : code ≡ code_of state.dims fact.region) (found : Option (Bor Allocation))
      (is : option_copied found ≡ option_map (λ (g : Group). g.spread) (group_at (policy_in weigh state) (width_of_all state.shape.measures) state.dims state.facts code)) where
    spread-found : option_copied found ≡ Some (allocation (policy_in weigh state) state.dims state.facts fact)
    spread-found =
        is ∙ ap (λ c. option_map (λ (g : Group). g.spread) (group_at (policy_in weigh state) (width_of_all state.shape.measures) state.dims state.facts c)) coded
        ∙ group-found (policy_in weigh state) (width_of_all state.shape.measures) state.dims state.facts trees (valid-regions state.shape state.dims state.facts valid) fact.id fact there

    pub spread-never : found ≡ None → ⊥
    spread-never none = let some = sym spread-found ∙ ap option_copied none in cc

    pub spread-told : (spread : Bor Allocation) → found ≡ Some spread → spread.now ≡ allocation (policy_in weigh state) state.dims state.facts fact
    spread-told spread some = same_Some spread.now _ (sym (ap option_copied some) ∙ spread-found)
