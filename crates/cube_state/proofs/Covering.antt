-- The codes of the regions whose imprecise facts cover changed cells.
use Rattle.std.proofs.Common.{◌≡◌, ℕ, ◌+◌, ◌<◌, ◌≤◌, Bool, true, false, List, [], ◌∷◌, length, take, get_or, refl, ap, sym, ◌∙◌, subst, arith}
use Rattle.std.specs.Prelude.{All, AllPairs, ◌&&◌, ◌||◌, ◌==◌, not, IfSome, Option, Some, None}
use Rattle.std.specs.List.{list_any}
use Rattle.std.specs.Option.{option_map_or}
use Rattle.std.proofs.lemmas.List.{take_all, take_more}
use Rattle.std.proofs.lemmas.List.Elements.{All-weaker}
use Rattle.std.proofs.lemmas.List.Folds.{list_any-append}
use Rattle.std.proofs.lemmas.List.Sums.{sum_by_more, sum_by_more_le}
use Rattle.cube_model.specs.declared.edit.Edit.{Edit}
use Rattle.cube_model.specs.declared.edit.Edit.TheVariants.{Put, Change, Withdraw}
use Rattle.cube_model.specs.declared.edit.Fact.{Fact}
use Rattle.cube_model.specs.Allocation.{Policy, stat_of}
use Rattle.cube_model.specs.Cells.{all_cells, cells_of, is_among}
use Rattle.cube_model.specs.Facts.{is_precise}
use Rattle.cube_model.specs.Tree.{Dimension}
use Rattle.region_algebra.specs.Space.{IsRegion}
use Rattle.alloc_rows.specs.Changed.{Change as CellChange}
use Rattle.fact_groups.specs.Changes.{covers_any, reweighed_cells}
use Rattle.fact_groups.specs.Edits.{edited_id, given, taken}
use Rattle.fact_groups.specs.Groups.{has_code}
use Rattle.fact_groups.proofs.Groups.{first-holds}
use Rattle.fact_records.specs.Shape.{ShapeValue}
use Rattle.fact_records.specs.Valid.{AreValid, IsEditOver}
use Rattle.region_index.specs.Content.{AreAscending}
use Rattle.region_index.specs.Indexed.{covers}
use Rattle.region_index.specs.Over.{codes_over}
use Rattle.cube_state.specs.declared.edit_moves.Moves.{Moves}
use Rattle.cube_state.specs.Covering.{covers_one, is_over_one, probes_over}
use Rattle.cube_state.specs.Moves.{AreMoves, region_code}
use Rattle.cube_state.specs.Regrouped.{HoldChanged, is_edited_at}
use Rattle.touched_cells.specs.Touched.{reweighing, touched}
use Rattle.fact_records.proofs.SmallValues.{none_of}
use Rattle.fact_groups.proofs.Elsewhere.{group_at-uncovered}
use Rattle.cube_state.proofs.Below.{reweighing-below}
use Rattle.fact_indexes.proofs.ValidFacts.{valid-regions}
use Rattle.cube_state.proofs.Spreading.{holds-reweighing}

-- one of two tests
any-both : {X : Type 0} (p q r : X → Bool) (xs : List X) → ((x : X) → r x ≡ (p x || q x)) → list_any r xs ≡ (list_any p xs || list_any q xs)
any-both p q r [] each = refl
any-both p q r (x ∷ xs) each = rw (each x, any-both p q r xs each) (parts (p x) (q x) (list_any p xs) (list_any q xs))
  where
    parts : (a b c d : Bool) → ((a || b) || (c || d)) ≡ ((a || c) || (b || d))
    parts a b c d = grind arith

-- a test of all alike
any-and : {X : Type 0} (p : X → Bool) (b : Bool) (xs : List X) → list_any (λ x. p x && b) xs ≡ (b && list_any p xs)
any-and p true [] = refl
any-and p false [] = refl
any-and p b (x ∷ xs) = rw (any-and p b xs) (parts (p x) b (list_any p xs))
  where
    parts : (a b c : Bool) → ((a && b) || (b && c)) ≡ (b && (a || c))
    parts a b c = grind arith

-- what is found over some of the changed cells
pub record AreOver (dims : List Dimension) (facts : List Fact) (changes : List CellChange) (codes : List ℕ) (before after : ℕ) : Type 0 where
  pub members : (code : ℕ) → is_among codes code ≡ is_over_one dims changes facts code
  pub steps : after ≤ before + probes_over dims changes

-- no code over no cell
pub over-none : (dims : List Dimension) (facts : List Fact) (codes : List ℕ) (steps : ℕ) → codes ≡ [] → AreOver dims facts [] codes steps steps
over-none dims facts codes steps none = record { members = λ code. ap (λ cs. is_among cs code) none ∙ never facts code; steps = omega arith }
  where
    never : (some : List Fact) (code : ℕ) → false ≡ is_over_one dims [] some code
    never [] code = refl
    never (fact ∷ some) code = never some code

-- nor over any cells where no fact covers one
pub over-empty : (dims : List Dimension) (facts : List Fact) (changes : List CellChange) (code : ℕ) → ((cell : ℕ) → list_any (λ f. covers dims cell f && has_code dims code f) facts ≡ false) → is_over_one dims changes facts code ≡ false
over-empty dims facts [] code none = sym ((over-none dims facts [] 0 refl).members code)
over-empty dims facts (change ∷ changes) code none =
    any-both (λ f. covers dims change.0 f && has_code dims code f) (λ f. covers_one dims changes f && has_code dims code f) (λ f. covers_one dims (change ∷ changes) f && has_code dims code f) facts
    (λ f. parts (covers dims change.0 f) (covers_one dims changes f) (has_code dims code f))
    ∙ rw (none change.0, over-empty dims facts changes code none) refl
  where
    parts : (a b c : Bool) → ((a || b) && c) ≡ ((a && c) || (b && c))
    parts a b c = grind arith

-- over all
pub over-all : (dims : List Dimension) (facts : List Fact) (changes : List CellChange) (i : ℕ) (codes : List ℕ) (before after : ℕ) → length changes ≤ i → AreOver dims facts (take i changes) codes before after → AreOver dims facts changes codes before after
over-all dims facts changes i codes before after past found = subst (λ (cs : List CellChange). AreOver dims facts cs codes before after) (take_all i changes past) found

module _ (dims : List Dimension) (facts : List Fact) (changes : List CellChange) (i : ℕ) (d : CellChange) (codes : List ℕ) (start before : ℕ) (within : i < length changes) (found : AreOver dims facts (take i changes) codes start before) where
  cost : CellChange → ℕ
  cost change = length (codes_over dims change.0)

  -- over one more
  pub over-next : (more now : List ℕ) (after : ℕ) → ((code : ℕ) → is_among more code ≡ list_any (λ f. covers dims (get_or changes i d).0 f && has_code dims code f) facts)
      → ((code : ℕ) → is_among now code ≡ (is_among codes code || is_among more code)) → after ≤ before + length (codes_over dims (get_or changes i d).0) → AreOver dims facts (take (i + 1) changes) now start after
  unfolding cost
  over-next more now after held both counted = record {
    members = λ code.
        both code
        ∙ ap (λ b. b || is_among more code) (found.members code)
        ∙ ap (λ b. is_over_one dims (take i changes) facts code || b) (held code)
        ∙ sym (any-both
        (λ f. covers_one dims (take i changes) f && has_code dims code f)
        (λ f. covers dims (get_or changes i d).0 f && has_code dims code f)
        (λ f. covers_one dims (take (i + 1) changes) f && has_code dims code f) facts (one_more code));
    steps = omega (arith, found.steps, counted, sum_by_more cost changes i d within);
  }
    where
      last : (a b c : Bool) → ((a || (b || false)) && c) ≡ ((a && c) || (b && c))
      last a b c = grind arith

      one_more : (code : ℕ) (f : Fact) → (covers_one dims (take (i + 1) changes) f && has_code dims code f) ≡ ((covers_one dims (take i changes) f && has_code dims code f) || (covers dims (get_or changes i d).0 f && has_code dims code f))
      one_more code f =
          ap (λ cs. covers_one dims cs f && has_code dims code f) (take_more changes i d within)
          ∙ ap (λ b. b && has_code dims code f) (list_any-append (λ (change : CellChange). covers dims change.0 f) (take i changes) (get_or changes i d ∷ []))
          ∙ last (covers_one dims (take i changes) f) (covers dims (get_or changes i d).0 f) (has_code dims code f)

  -- where it runs out of memory then
  pub over-broken : (after : ℕ) → after ≤ before + length (codes_over dims (get_or changes i d).0) → after ≤ start + probes_over dims changes
  unfolding cost
  over-broken after counted = omega (arith, found.steps, counted, sum_by_more_le cost changes i d within)

module _ (policy : Policy) (dims : List Dimension) (edit : Edit) (facts : List Fact) (up : AllPairs (λ f g. f.id < g.id) facts) where
  -- a fact covers a cell that is reweighed where it covers one of the changes that reweigh
  covers-reweighing : (f : Fact) → covers_one dims (reweighing policy.weigh (touched policy dims edit facts)) f ≡ covers_any dims (reweighed_cells policy dims edit facts) f
  covers-reweighing f =
      any-and (λ (change : CellChange). is_among (cells_of dims f.region) change.0) (not (is_precise dims f)) (reweighing policy.weigh (touched policy dims edit facts))
      ∙ ap (λ b. not (is_precise dims f) && b) (holds-reweighing policy dims edit facts up (stat_of policy dims facts) (λ cell. refl) f.region)

  -- no fact of the code does where it is none of those over them
  uncovered : (changes : List CellChange) (code : ℕ) → changes ≡ reweighing policy.weigh (touched policy dims edit facts) → is_over_one dims changes facts code ≡ false
      → All (λ f. has_code dims code f ≡ true → covers_any dims (reweighed_cells policy dims edit facts) f ≡ false) facts
  uncovered changes code reweighs none =
      All-weaker (λ f. (covers_one dims changes f && has_code dims code f) ≡ false) (λ f. has_code dims code f ≡ true → covers_any dims (reweighed_cells policy dims edit facts) f ≡ false)
      (λ f out has. sym (ap (λ cs. covers_one dims cs f) reweighs ∙ covers-reweighing f) ∙ first (covers_one dims changes f) (has_code dims code f) out has) facts
      (none_of (λ f. covers_one dims changes f && has_code dims code f) facts none)
    where
      first : (a b : Bool) → (a && b) ≡ false → b ≡ true → a ≡ false
      first a b none is = grind (arith, none, is)

-- the facts that an edit takes and gives have regions of the space
pub region-taken : (shape : ShapeValue) (dims : List Dimension) (facts : List Fact) (edit : Edit) (took : Option Fact) → AreValid shape dims facts → took ≡ taken edit facts → IfSome took (λ f. IsRegion dims f.region)
region-taken shape dims facts edit None valid is = tt
region-taken shape dims facts edit (Some fact) valid is = first-holds (λ f. IsRegion dims f.region) (λ f. f.id == edited_id edit) facts fact (valid-regions shape dims facts valid) (sym is)

pub region-given : (dims : List Dimension) (edit : Edit) (gave : Option Fact) → IsEditOver dims edit → gave ≡ given edit → IfSome gave (λ f. IsRegion dims f.region)
region-given dims edit gave over is = rw is (by edit over)
  where
    by : (edit : Edit) → IsEditOver dims edit → IfSome (given edit) (λ f. IsRegion dims f.region)
    by (Put fact) over = over.region
    by (Change fact) over = over.region
    by (Withdraw id) over = tt

-- the code of a fact's region is one where the fact has it
pub is-coded : (dims : List Dimension) (code : ℕ) (fact : Option Fact) (at : Option ℕ) → at ≡ region_code dims fact → option_map_or (λ k. k == code) at false ≡ option_map_or (has_code dims code) fact false
is-coded dims code None at is = rw is refl
is-coded dims code (Some fact) at is = rw is refl

-- so the codes of an edit's facts tell whether it edits a region
pub edited-coded : (policy : Policy) (shape : ShapeValue) (dims : List Dimension) (facts : List Fact) (moves : Moves) (code : ℕ) → AreMoves policy shape dims facts moves
    → (option_map_or (λ k. k == code) moves.taken_code false || option_map_or (λ k. k == code) moves.given_code false) ≡ is_edited_at dims moves.edit facts code
edited-coded policy shape dims facts moves code are =
    rw (is-coded dims code moves.taken moves.taken_code are.taken_at, is-coded dims code moves.given moves.given_code are.given_at, are.takes, are.gives) refl

module _ (policy : Policy) (shape : ShapeValue) (dims : List Dimension) (facts : List Fact) (moves : Moves) (are : AreMoves policy shape dims facts moves) (valid : AreValid shape dims facts) where
  -- the cells that are reweighed are cells of the space
  pub cells-within : All (λ change. change.0 < length (all_cells dims)) moves.reweighing
  cells-within = subst (λ (cs : List CellChange). All (λ change. change.0 < length (all_cells dims)) cs) (sym are.reweighs) (reweighing-below policy dims moves.edit facts)

  -- ascending codes that are those over the cells that are reweighed, and those of these two, hold all whose group changes
  pub hold-changed : (columns : ℕ) (codes : List ℕ) → AreAscending codes
      → ((code : ℕ) → is_among codes code ≡ ((is_over_one dims moves.reweighing facts code || option_map_or (has_code dims code) moves.taken false) || option_map_or (has_code dims code) moves.given false))
      → HoldChanged policy columns dims moves.edit facts codes
  hold-changed columns codes ascending members = record {
    ascending = ascending;
    others = λ code out.
        let none = three (is_over_one dims moves.reweighing facts code) (option_map_or (has_code dims code) moves.taken false) (option_map_or (has_code dims code) moves.given false) (sym (members code) ∙ out) in
        group_at-uncovered policy columns dims moves.edit facts valid.ascending code
        (sym (ap (λ o. option_map_or (has_code dims code) o false) are.takes) ∙ none.1)
        (sym (ap (λ o. option_map_or (has_code dims code) o false) are.gives) ∙ none.2)
        (uncovered policy dims moves.edit facts valid.ascending moves.reweighing code are.reweighs none.0);
  }
    where
      three : (a b c : Bool) → ((a || b) || c) ≡ false → (a ≡ false) × (b ≡ false) × (c ≡ false)
      three true b c is = cc
      three false true c is = cc
      three false false true is = cc
      three false false false is = (refl, refl, refl)
