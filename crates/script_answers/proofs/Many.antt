-- What is told of a component, where imprecise facts lie in few enough cells, and where they do not.
use Rattle.std.proofs.Common.{◌≡◌, ℕ, ◌<◌, ◌≤◌, true, false, List, ◌∷◌, length, map, pos, refl, ap, ◌∙◌, arith, Ok, Err, ℤ}
use Rattle.std.specs.Prelude.{nat_lt}
use Rattle.std.proofs.lemmas.Bool.Decides.{nat_tests}
use Rattle.cube_base.specs.declared.code.Code.TheVariants.{Many}
use Rattle.cube_model.specs.Facts.{has_id}
use Rattle.cube_model.specs.Tree.{Dimension}
use Rattle.iter_alloc.specs.Components.{component_of}
use Rattle.iter_alloc.specs.Counting.{MOST_CELLS, cells_in_all}
use Rattle.script_text.specs.declared.reply.Answer.TheVariants as told
use Rattle.script_answers.specs.Answers.{State, component_answer}

module _ (state : State) (id : ℕ) (dims : List Dimension) (is : dims ≡ state.dims) (there : true ≡ has_id id state.facts) where
  pub component-few : (ids : List ℕ) (numbers : List ℤ) → cells_in_all dims state.facts ≤ MOST_CELLS → ids ≡ component_of dims state.facts id → numbers ≡ pos (length ids) ∷ map (λ n. pos n) ids
      → Ok (told.Numbers numbers) ≡ component_answer state id
  component-few ids numbers few ids_are numbers_are =
      let few_enough : nat_lt MOST_CELLS (cells_in_all state.dims state.facts) ≡ false = grind (arith, nat_tests, few, is) in
      let all : ids ≡ component_of state.dims state.facts id = ids_are ∙ ap (λ ds. component_of ds state.facts id) is in
      ap (λ ns. Ok (told.Numbers ns)) (numbers_are ∙ ap (λ ns. pos (length ns) ∷ map (λ n. pos n) ns) all) ∙ rw (← there, few_enough) refl

  pub component-many : (cells : ℕ) → cells ≡ cells_in_all dims state.facts → MOST_CELLS < cells → Err Many ≡ component_answer state id
  component-many cells cells_are many =
      let too_many : nat_lt MOST_CELLS (cells_in_all state.dims state.facts) ≡ true = grind (arith, nat_tests, many, cells_are ∙ ap (λ ds. cells_in_all ds state.facts) is) in
      rw (← there, too_many) refl
