-- What an edit moves, as a state is seen.
use Rattle.std.proofs.Common.{◌≡◌, ℕ, ◌+◌, ◌≤◌, true, List, [], ◌∷◌, length, ap, refl, sym, ◌∙◌, subst, arith}
use Rattle.std.specs.Prelude.{All, IfSome, ◌&&◌, ◌==◌, Option, Some, None}
use Rattle.std.specs.List.{list_any}
use Rattle.cube_model.specs.declared.edit.Edit.{Edit}
use Rattle.cube_model.specs.declared.edit.Fact.{Fact}
use Rattle.cube_model.specs.declared.statistic.CellStat.{CellStat}
use Rattle.cube_model.specs.Cells.{is_among}
use Rattle.cube_model.specs.Tree.{Dimension, IsTree}
use Rattle.alloc_rows.specs.Changed.{Change}
use Rattle.cell_weight.specs.Stats.{stat_at}
use Rattle.fact_groups.specs.Edits.{edited_id, given, taken}
use Rattle.fact_groups.specs.Groups.{has_code}
use Rattle.fact_groups.proofs.Groups.{first-holds}
use Rattle.fact_records.specs.Shape.{ShapeValue, adds_of}
use Rattle.fact_records.specs.Valid.{AreValid, IsFactOf, IsValid}
use Rattle.region_index.specs.Content.{Content, held_codes}
use Rattle.region_index.specs.Indexed.{covers}
use Rattle.region_index.specs.Over.{codes_over}
use Rattle.region_index.proofs.HeldCodes.{held_codes-cover}
use Rattle.cube_state.specs.Covering.{is_over_one, probes_over}
use Rattle.cube_state.proofs.Covering.{over-empty}
use Rattle.std.proofs.lemmas.Bool.Decides.{nat_tests}
use Rattle.fact_indexes.specs.Kept.{IsState}
use Rattle.cube_state.specs.State.{StateValue, policy_in}
use Rattle.touched_cells.specs.Touched.{Lying, added_at, changes_of, lying_of, number_at, touched}
use Rattle.fact_indexes.proofs.ValidFacts.{valid-regions}
use Rattle.touched_cells.proofs.Touching.{added-taken, changes-touched, number-taken}

-- the fact that an edit takes is one of the facts
pub taken-valid : (shape : ShapeValue) (dims : List Dimension) (edit : Edit) (facts : List Fact) (took : Option Fact) → AreValid shape dims facts → took ≡ taken edit facts → IfSome took (IsFactOf shape dims)
taken-valid shape dims edit facts None valid is = tt
taken-valid shape dims edit facts (Some fact) valid is =
    (first-holds (IsValid shape dims) (λ f. f.id == edited_id edit) facts fact valid.each (sym is)).accepted

module _ {P : Type 0} (weigh : P → CellStat → ℕ) (state seen : StateValue P) (same : seen ≡ state) (kept : IsState (policy_in weigh seen) seen.shape seen.dims seen.cuts seen.facts seen.kept)
    (edit : Edit) (took : Option Fact) (lost : Lying) (took_is : took ≡ taken edit seen.facts) (lost_is : lost ≡ lying_of seen.dims (adds_of seen.shape) took) where
  its : lost ≡ lying_of seen.dims (adds_of seen.shape) (taken edit seen.facts)
  its = lost_is ∙ ap (lying_of seen.dims (adds_of seen.shape)) took_is

  -- what is taken was counted
  pub lost-number : (cell : ℕ) → number_at lost cell ≤ (stat_at seen.kept.stats cell).count
  lost-number cell =
      omega (
        arith,
        ap (λ (l : Lying). number_at l cell) its,
        number-taken (policy_in weigh seen) seen.dims edit seen.facts kept.valid.ascending cell,
        ap (λ (s : CellStat). s.count) (kept.stats cell),
      )

  pub lost-added : (cell : ℕ) → added_at lost cell ≤ (stat_at seen.kept.stats cell).sum
  lost-added cell =
      omega (
        arith,
        ap (λ (l : Lying). added_at l cell) its,
        added-taken (policy_in weigh seen) seen.dims edit seen.facts kept.valid.ascending cell,
        ap (λ (s : CellStat). s.sum) (kept.stats cell),
      )

  -- the changes are those of the cells that the edit touches
  pub touched-seen : (gave : Option Fact) (won : Lying) → gave ≡ given edit → won ≡ lying_of seen.dims (adds_of seen.shape) gave
      → changes_of (stat_at seen.kept.stats) lost won ≡ touched (policy_in weigh state) state.dims edit state.facts
  touched-seen gave won gave_is won_is =
      ap (λ (l : Lying). changes_of (stat_at seen.kept.stats) l won) its
      ∙ ap (changes_of (stat_at seen.kept.stats) (lying_of seen.dims (adds_of seen.shape) (taken edit seen.facts))) (won_is ∙ ap (lying_of seen.dims (adds_of seen.shape)) gave_is)
      ∙ changes-touched (policy_in weigh seen) seen.dims edit seen.facts kept.valid.ascending (stat_at seen.kept.stats) kept.stats
      ∙ ap (λ (s : StateValue P). touched (policy_in weigh s) s.dims edit s.facts) same

-- an index without places holds nothing
nothing-held : (content : Content) (codes : List ℕ) → (length content == 0) ≡ true → [] ≡ held_codes content codes
nothing-held content [] empty = refl
nothing-held [] (code ∷ codes) empty = nothing-held [] codes empty
nothing-held (place ∷ places) (code ∷ codes) empty = absurd (grind (arith, nat_tests, empty))

module _ {P : Type 0} (state seen : StateValue P) (same : seen ≡ state) where
  -- what the index gives over a cell
  pub held-seen : (weigh : P → CellStat → ℕ) → IsState (policy_in weigh seen) seen.shape seen.dims seen.cuts seen.facts seen.kept → (cell : ℕ) (codes : List ℕ) → All IsTree seen.dims
      → codes ≡ held_codes seen.kept.index (codes_over seen.dims cell) → (code : ℕ) → is_among codes code ≡ list_any (λ f. covers seen.dims cell f && has_code seen.dims code f) seen.facts
  held-seen weigh kept cell codes trees are code =
      ap (λ cs. is_among cs code) are ∙ held_codes-cover seen.dims seen.facts seen.kept.index cell code trees (valid-regions seen.shape seen.dims seen.facts kept.valid) kept.index

  pub bound-seen : (changes : List Change) (m n : ℕ) → n ≤ m + probes_over seen.dims changes → n ≤ m + probes_over state.dims changes
  bound-seen changes m n le = subst (λ (s : StateValue P). n ≤ m + probes_over s.dims changes) same le

  pub over-seen : (changes : List Change) (codes : List ℕ) → ((code : ℕ) → is_among codes code ≡ is_over_one seen.dims changes seen.facts code) → (code : ℕ) → is_among codes code ≡ is_over_one state.dims changes state.facts code
  over-seen changes codes are code = are code ∙ ap (λ (s : StateValue P). is_over_one s.dims changes s.facts code) same

  -- where it has no places, no codes are over any cells
  pub empty-seen : (weigh : P → CellStat → ℕ) → IsState (policy_in weigh seen) seen.shape seen.dims seen.cuts seen.facts seen.kept → All IsTree seen.dims → (length seen.kept.index == 0) ≡ true
      → (changes : List Change) (codes : List ℕ) → codes ≡ [] → (code : ℕ) → is_among codes code ≡ is_over_one state.dims changes state.facts code
  empty-seen weigh kept trees empty changes codes none =
      over-seen changes codes (λ code. ap (λ cs. is_among cs code) none ∙ sym (over-empty seen.dims seen.facts changes code (λ cell. sym (held-seen weigh kept cell [] trees (nothing-held seen.kept.index (codes_over seen.dims cell) empty) code))))
