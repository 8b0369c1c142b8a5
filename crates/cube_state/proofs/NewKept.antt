-- New facts beside those of a state, with all that is kept of them, as the state sees its own.
use Rattle.std.proofs.Common.{◌≡◌, ℕ, ◌+◌, List, [], ◌∷◌, map, refl, ap, sym, ◌∙◌, subst, arith}
use Rattle.std.specs.Prelude.{All, IfOk, Ok, Err, Result}
use Rattle.std.proofs.lemmas.List.Elements.{All-cons, All-head, All-nil, All-tail, All-weaker}
use Rattle.cube_model.specs.declared.edit.Fact.{Fact}
use Rattle.cube_model.specs.declared.statistic.CellStat.{CellStat}
use Rattle.cube_model.specs.Tree.{Dimension}
use Rattle.region_algebra.specs.Space.{IsRegion}
use Rattle.region_index.specs.Patterns.{KnowsPatterns, Patterns}
use Rattle.fact_records.specs.New.{AreNew, put_all}
use Rattle.fact_records.specs.Shape.{ShapeValue, width_of_all}
use Rattle.fact_records.specs.Valid.{AreValid}
use Rattle.fact_indexes.specs.Anew.{AreEmpty, cuts_of, kept_of}
use Rattle.fact_indexes.specs.Kept.{IsState}
use Rattle.fact_indexes.specs.declared.fault.TooMany.{TooMany}
use Rattle.fact_indexes.specs.declared.kept.FactsKept.{FactsKept}
use Rattle.view_store.specs.Views.{AreViewsOf, IsViewOf, ViewMap, ViewMaps, without_entries}
use Rattle.cube_state.specs.Knowing.{IsKnowingState}
use Rattle.cube_state.specs.Sets.{AreAllFor}
use Rattle.cube_state.specs.State.{StateValue, policy_in}
use Rattle.cube_state.proofs.Accepting.{AreValid-new}
use Rattle.cube_state.proofs.Installing.{replaced}
use Rattle.fact_indexes.proofs.ValidFacts.{valid-regions}
use Rattle.fact_indexes.proofs.ViewsKept.{cuts-emptied}

-- emptied views are empty
record AreEmptied (dims : List Dimension) (columns : ℕ) (views : List ViewMap) : Type 0 where
  wide : All (λ (view : ViewMap). view.columns ≡ columns) views
  over : All (IsViewOf dims) views
  none : All (λ (view : ViewMap). view.entries ≡ []) views

emptied-each : (dims : List Dimension) (columns : ℕ) (views : List ViewMap) → All (λ (view : ViewMap). view.columns ≡ columns) views → All (IsViewOf dims) views → AreEmptied dims columns (map without_entries views)
emptied-each dims columns [] wide over = record { wide = All-nil (λ (view : ViewMap). view.columns ≡ columns); over = All-nil (IsViewOf dims); none = All-nil (λ (view : ViewMap). view.entries ≡ []) }
emptied-each dims columns (view ∷ views) wide over =
    let C : ViewMap → Type 0 = λ view. view.columns ≡ columns in
    let N : ViewMap → Type 0 = λ view. view.entries ≡ [] in
    let rest = emptied-each dims columns views (All-tail C view views wide) (All-tail (IsViewOf dims) view views over) in
    let first : IsViewOf dims (without_entries view) = record { depths = (All-head (IsViewOf dims) view views over).depths; regions = λ code some. absurd (grind (arith, some)) } in
    record {
      wide = All-cons C (without_entries view) (map without_entries views) (All-head C view views wide) rest.wide;
      over = All-cons (IsViewOf dims) (without_entries view) (map without_entries views) first rest.over;
      none = All-cons N (without_entries view) (map without_entries views) refl rest.none;
    }

pub emptied-empty : (shape : ShapeValue) (dims : List Dimension) (maps emptied : ViewMaps) → maps.columns ≡ width_of_all shape.measures + 1 → (columns : ℕ) → columns ≡ maps.columns → All (λ (view : ViewMap). view.columns ≡ columns) maps.views → AreViewsOf dims maps
    → emptied ≡ record { columns = maps.columns; views = map without_entries maps.views } → AreEmpty shape dims emptied
emptied-empty shape dims maps emptied width columns counted wide over is =
    let right = All-weaker (λ (view : ViewMap). view.columns ≡ columns) (λ (view : ViewMap). view.columns ≡ width_of_all shape.measures + 1) (λ view one. one ∙ counted ∙ width) maps.views wide in
    let all = emptied-each dims (width_of_all shape.measures + 1) maps.views right over in
    subst (AreEmpty shape dims) (sym is) (record { columns = width; each = all.wide; over = all.over; none = all.none })

module _ {P : Type 0} (weigh : P → CellStat → ℕ) (state seen : StateValue P) (same : seen ≡ state) where
  -- all facts are such as a cube may have
  pub valid-with : (new facts : List Fact) → AreNew state.shape state.dims state.facts new → AreValid seen.shape seen.dims seen.facts → facts ≡ put_all new seen.facts → AreValid seen.shape seen.dims facts
  valid-with new facts are valid is =
      subst (AreValid seen.shape seen.dims) (sym is) (AreValid-new seen.shape seen.dims new seen.facts (subst (λ (s : StateValue P). AreNew s.shape s.dims s.facts new) (sym same) are) valid)

  -- what is kept of them is that of the state
  pub kept-for : (facts : List Fact) (maps views : ViewMaps) (all : FactsKept) → seen.cuts ≡ map (λ (view : ViewMap). view.depths) maps.views → views ≡ record { columns = maps.columns; views = map without_entries maps.views } → all.facts.facts ≡ facts
      → IsState (policy_in weigh seen) seen.shape seen.dims (cuts_of views) facts (kept_of all) → AreAllFor weigh state all
  kept-for facts maps views all cuts emptied facts_are is =
      let same_cuts : cuts_of views ≡ seen.cuts = ap cuts_of emptied ∙ cuts-emptied maps.views ∙ sym cuts in
      subst (λ (s : StateValue P). AreAllFor weigh s all) same
      (subst (λ cs. IsState (policy_in weigh seen) seen.shape seen.dims cs all.facts.facts (kept_of all)) same_cuts
      (subst (λ fs. IsState (policy_in weigh seen) seen.shape seen.dims (cuts_of views) fs (kept_of all)) (sym facts_are) is))

  pub kept-for_all : (facts : List Fact) (maps views : ViewMaps) (result : Result FactsKept TooMany) → seen.cuts ≡ map (λ (view : ViewMap). view.depths) maps.views → views ≡ record { columns = maps.columns; views = map without_entries maps.views }
      → IfOk result (λ all. all.facts.facts ≡ facts) → IfOk result (λ all. IsState (policy_in weigh seen) seen.shape seen.dims (cuts_of views) facts (kept_of all)) → IfOk result (AreAllFor weigh state)
  kept-for_all facts maps views (Err fault) cuts emptied facts_are is = tt
  kept-for_all facts maps views (Ok all) cuts emptied facts_are is = kept-for facts maps views all cuts emptied facts_are is

module _ {P : Type 0} (weigh : P → CellStat → ℕ) (state seen : StateValue P) (same : seen ≡ state) (all : FactsKept) (fit : AreAllFor weigh state all) where
  fits : AreAllFor weigh seen all
  fits = subst (λ (s : StateValue P). AreAllFor weigh s all) (sym same) fit

  -- all facts that fit the state lie in the space
  pub regions-all : All (λ f. IsRegion seen.dims f.region) all.facts.facts
  regions-all = valid-regions seen.shape seen.dims all.facts.facts fits.valid

  -- so with their patterns the state is one of them
  pub knowing-all : (patterns : Patterns) → KnowsPatterns seen.dims all.facts.facts patterns
      → IsKnowingState (policy_in weigh seen) seen.shape seen.dims (map (λ (view : ViewMap). view.depths) all.views.views) all.facts.facts (kept_of all) patterns
  knowing-all patterns known = record {
    state = replaced (policy_in weigh seen) seen.shape seen.dims seen.cuts all.facts.facts (kept_of all) fits;
    known = known;
  }
