-- One edit more.
use Rattle.std.proofs.Common.{◌≡◌, ℕ, ◌+◌, ◌*◌, ◌%◌, suc, List, [], ◌∷◌, ◌++◌, map, refl, sym, ap, ◌∙◌, arith, append-nil}
use Rattle.std.specs.Prelude.{◌==◌, filter}
use Rattle.std.proofs.lemmas.Bool.Decides.{nat_tests}
use Rattle.std.specs.List.{range_with_len}
use Rattle.std.proofs.lemmas.List.FromFn.{map-range_with_len_more}
use Rattle.std.proofs.lemmas.List.Elements.{filter-append}
use Rattle.std.proofs.lemmas.List.{map_push}
use Rattle.cube_model.specs.declared.edit.Edit.{Edit}
use Rattle.cube_model.specs.declared.edit.Edit.TheVariants.{Put, Withdraw}
use Rattle.cube_model.specs.declared.edit.Fact.{Fact}
use Rattle.dim_tree.proofs.Placing.{range_more}
use Rattle.schema_text.specs.Schema.{SchemaValue}
use Rattle.drill_run.specs.Doing.{Tally, edit_all, edit_once}
use Rattle.drill_run.specs.Edits.{fact_after, fact_drawn, first_puts, thirds}
use Rattle.drill_run.specs.Numbers.{drawn_number, drawn_state, next_state}

-- edits, and then others
pub edit_all-both : (schema : SchemaValue) (first then : List Edit) (tally : Tally) → edit_all schema (first ++ then) tally ≡ edit_all schema then (edit_all schema first tally)
edit_all-both schema [] then tally = refl
edit_all-both schema (edit ∷ first) then tally = edit_all-both schema first then (edit_once schema edit tally)

-- one fact more comes
pub put-more : (schema : SchemaValue) (seed k : ℕ) (tally : Tally) → edit_all schema (first_puts seed (k + 1)) tally ≡ edit_once schema (Put (fact_after seed k)) (edit_all schema (first_puts seed k) tally)
put-more schema seed k tally =
    ap (λ edits. edit_all schema edits tally) (map-range_with_len_more (λ earlier. Put (fact_after seed earlier)) 0 k k (omega arith)) ∙ edit_all-both schema (first_puts seed k) (Put (fact_after seed k) ∷ []) tally

ids-more : (k id : ℕ) → id ≡ 1 + k → filter (λ id. id % 3 == 0) (range_with_len 1 (k + 1)) ≡ filter (λ id. id % 3 == 0) (range_with_len 1 k) ++ filter (λ id. id % 3 == 0) (id ∷ [])
ids-more k id is = ap (filter (λ id. id % 3 == 0)) (range_more 1 k) ∙ filter-append (λ id. id % 3 == 0) (range_with_len 1 k) ((1 + k) ∷ []) ∙ ap (λ i. filter (λ id. id % 3 == 0) (range_with_len 1 k) ++ filter (λ id. id % 3 == 0) (i ∷ [])) (sym is)

-- the next id goes, which 3 divides
pub third-goes : (schema : SchemaValue) (k id : ℕ) (tally : Tally) → id ≡ k + 1 → id % 3 ≡ 0 → edit_all schema (thirds (k + 1)) tally ≡ edit_once schema (Withdraw id) (edit_all schema (thirds k) tally)
third-goes schema k id tally is here =
    let one : filter (λ id. id % 3 == 0) (id ∷ []) ≡ id ∷ [] = grind (arith, nat_tests, here) in
    let ids = ids-more k id (omega (arith, is)) ∙ ap (λ l. filter (λ id. id % 3 == 0) (range_with_len 1 k) ++ l) one in
    ap (λ l. edit_all schema (map (λ id. Withdraw id) l) tally) ids
    ∙ ap (λ edits. edit_all schema edits tally) (map_push (λ id. Withdraw id) (filter (λ id. id % 3 == 0) (range_with_len 1 k)) id)
    ∙ edit_all-both schema (thirds k) (Withdraw id ∷ []) tally

-- or stays
pub third-stays : (schema : SchemaValue) (k id : ℕ) (tally : Tally) → id ≡ k + 1 → (id % 3 ≡ 0 → ⊥) → edit_all schema (thirds (k + 1)) tally ≡ edit_all schema (thirds k) tally
third-stays schema k id tally is stays =
    let none : filter (λ id. id % 3 == 0) (id ∷ []) ≡ [] = grind (arith, nat_tests, stays) in
    let ids = ids-more k id (omega (arith, is)) ∙ ap (λ l. filter (λ id. id % 3 == 0) (range_with_len 1 k) ++ l) none ∙ append-nil (filter (λ id. id % 3 == 0) (range_with_len 1 k)) in
    ap (λ l. edit_all schema (map (λ id. Withdraw id) l) tally) ids

-- one draw more
state-next : (seed k j : ℕ) → j ≡ k + 1 → drawn_state seed j ≡ next_state (drawn_state seed k)
state-next seed k j is = let same : j ≡ suc k = omega (arith, is) in ap (drawn_state seed) same

-- four draws more
record FourDraws (seed k state : ℕ) : Type 0 where
  first : drawn_state seed (4 * k + 1) ≡ next_state state
  second : drawn_state seed (4 * k + 2) ≡ next_state (next_state state)
  third : drawn_state seed (4 * k + 3) ≡ next_state (next_state (next_state state))
  fourth : drawn_state seed (4 * k + 4) ≡ next_state (next_state (next_state (next_state state)))

four_draws : (seed k state : ℕ) → state ≡ drawn_state seed (4 * k) → FourDraws seed k state
four_draws seed k state is =
    let first = state-next seed (4 * k) (4 * k + 1) refl ∙ ap next_state (sym is) in
    let second = state-next seed (4 * k + 1) (4 * k + 2) (omega arith) ∙ ap next_state first in
    let third = state-next seed (4 * k + 2) (4 * k + 3) (omega arith) ∙ ap next_state second in
    let fourth = state-next seed (4 * k + 3) (4 * k + 4) (omega arith) ∙ ap next_state third in
    record { first = first; second = second; third = third; fourth = fourth }

-- the state after the draws of one fact more
pub state-more : (seed k state after : ℕ) → state ≡ drawn_state seed (4 * k) → after ≡ next_state (next_state (next_state (next_state state))) → after ≡ drawn_state seed (4 * (k + 1))
state-more seed k state after is fourth =
    let same : 4 * k + 4 ≡ 4 * (k + 1) = omega arith in
    fourth ∙ sym (four_draws seed k state is).fourth ∙ ap (drawn_state seed) same

-- these draws make the next fact
pub fact-next : (seed k id state after : ℕ) (fact : Fact) → state ≡ drawn_state seed (4 * k) → id ≡ k + 1 → after ≡ next_state (next_state (next_state (next_state state)))
    → fact ≡ fact_drawn id (drawn_number (next_state state)) (drawn_number (next_state (next_state state))) (drawn_number (next_state (next_state (next_state state)))) (drawn_number after)
    → fact ≡ fact_after seed k
fact-next seed k id state after fact is is_id fourth made =
    let draws = four_draws seed k state is in
    made ∙ cc (is_id, fourth, draws.first, draws.second, draws.third, draws.fourth)
