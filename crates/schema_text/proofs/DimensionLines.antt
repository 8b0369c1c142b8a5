-- The line of a dimension, whose name is judged first, then the dimension that ends, then the names that are there.
use Rattle.std.proofs.Common.{◌≡◌, ℕ, ◌<◌, Bool, true, false, List, [], ◌∷◌, ◌++◌, length, refl, sym, subst, arith, Option, Some, None, Ok, Err, Result, ◌∙◌}
use Rattle.std.specs.Prelude.{IfErr, OnOk, if◌then◌else◌, nat_le, not}
use Rattle.std.specs.List.{list_all}
use Rattle.std.proofs.lemmas.Bool.Decides.{nat_tests}
use Rattle.cube_base.specs.declared.code.Code.{Code}
use Rattle.cube_base.specs.declared.code.Code.TheVariants as code
use Rattle.cube_model.specs.Limits.{MAX_DIMS}
use Rattle.cube_model.specs.Tree.{Dimension, is_numbered}
use Rattle.text_lines.specs.LineText.{field_at}
use Rattle.schema_text.specs.declared.fault.LineFault.{LineFault}
use Rattle.schema_text.specs.declared.fault.LineFault.TheVariants.{Refused, Memory}
use Rattle.schema_text.specs.declared.word.SchemaWord.{SchemaWord}
use Rattle.schema_text.specs.declared.word.SchemaWord.TheVariants.{Dimension as DimensionWord}
use Rattle.schema_text.specs.Draft.{dimension_fault, ended_fault}
use Rattle.schema_text.specs.Fault.{IsCause}
use Rattle.schema_text.specs.SchemaText.{Draft, ended, has_wrong_count, is_wrong_name, with_word, word_fault}

module _ (names : List (List ℕ)) (nodes : Dimension) (fields : List (List ℕ)) (right : is_wrong_name (field_at fields 1) names ≡ false) where
  pub IsCause-ends : (fault : LineFault) → IsCause (ended_fault nodes) fault → IsCause (dimension_fault names nodes fields) fault
  IsCause-ends Memory cause = tt
  IsCause-ends (Refused reason) cause = next (is_wrong_name (field_at fields 1) names) (list_all is_numbered (ended nodes)) (nat_le MAX_DIMS (length names)) right cause
    where
      next : (n k r : Bool) → n ≡ false → (if k then None else Some code.Number) ≡ Some reason
          → (if n then Some code.Name else (if not k then Some code.Number else (if r then Some code.Limit else None))) ≡ Some reason
      next true k r right e = cc
      next false true r right e = cc
      next false false r right e = e

  pub accepted : ended_fault nodes ≡ None → length names < MAX_DIMS → dimension_fault names nodes fields ≡ None
  accepted ends room = none (is_wrong_name (field_at fields 1) names) (list_all is_numbered (ended nodes)) (nat_le MAX_DIMS (length names)) right ends (grind (arith, nat_tests))
    where
      none : (n k r : Bool) → n ≡ false → (if k then None else Some code.Number) ≡ None → r ≡ false
          → (if n then Some code.Name else (if not k then Some code.Number else (if r then Some code.Limit else None))) ≡ None
      none true k r right ends room = cc
      none false true true right ends room = cc
      none false true false right ends room = refl
      none false false r right ends room = cc

-- such a line with as many fields as it wants is refused by these conditions, and else says this
module _ {T : Type 0} (draft later : Draft) (fields : List (List ℕ)) (word : SchemaWord) (is : word ≡ DimensionWord) (result : Result T LineFault) where
  pub says : OnOk result (later.names ≡ draft.names ++ field_at fields 1 ∷ []) → OnOk result (later.dims ≡ draft.dims ++ ended draft.nodes) → OnOk result (later.nodes ≡ []) → later.version ≡ draft.version
      → (later.policy ≡ draft.policy) → (later.measures ≡ draft.measures) → (later.views ≡ draft.views) → OnOk result (record later { last = Some word } ≡ with_word draft fields word)
  says names dims nodes version policy measures views = made result names dims nodes
    where
      made : (result : Result T LineFault) → OnOk result (later.names ≡ draft.names ++ field_at fields 1 ∷ []) → OnOk result (later.dims ≡ draft.dims ++ ended draft.nodes) → OnOk result (later.nodes ≡ []) → OnOk result (record later { last = Some word } ≡ with_word draft fields word)
      made (Ok taken) names dims nodes = rw (is, names, dims, nodes, version, policy, measures, views) refl
      made (Err fault) names dims nodes = tt

  pub refused : has_wrong_count draft.version (length draft.names) fields word ≡ false → IfErr result (IsCause (dimension_fault draft.names draft.nodes fields)) → IfErr result (IsCause (word_fault draft fields word))
  refused count cause = subst (λ fault. IfErr result (IsCause fault)) (subst (λ w. has_wrong_count draft.version (length draft.names) fields w ≡ false → dimension_fault draft.names draft.nodes fields ≡ word_fault draft fields w) (sym is) same count) cause
    where
      skipped : (a : Bool) (rest : Option Code) → a ≡ false → rest ≡ (if a then Some code.Fields else rest)
      skipped true rest e = cc
      skipped false rest e = refl

      same : has_wrong_count draft.version (length draft.names) fields DimensionWord ≡ false → dimension_fault draft.names draft.nodes fields ≡ word_fault draft fields DimensionWord
      same count = skipped (has_wrong_count draft.version (length draft.names) fields DimensionWord) (dimension_fault draft.names draft.nodes fields) count
