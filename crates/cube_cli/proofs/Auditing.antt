-- What a cube and a content say of each other, and what is told of them.
use Rattle.std.proofs.Common.{◌≡◌, ℕ, List, [], ◌∷◌, ◌++◌, refl, sym, ap, ◌∙◌, subst, append_assoc, append-nil, Ok, Some}
use Rattle.std.specs.Prelude.{IsOkAnd}
use Rattle.std.specs.List.{flat_map}
use Rattle.std.specs.Option.{option_map_or}
use Rattle.std.specs.Result.{result_ok}
use Rattle.fact_keeper.specs.declared.content.Stored.{Stored}
use Rattle.text_lines.specs.Text.{line_text}
use Rattle.schema_text.specs.Schema.{SchemaValue, policy_of, schema_policy, shape_of, weigh_of}
use Rattle.schema_text.specs.declared.word.PolicyWord.{PolicyWord}
use Rattle.store_audit.specs.Sound.{IsSound, facts_told}
use Rattle.cube_core.specs.Cube.{CubeValue}
use Rattle.cube_cli.specs.Doing.{OneWork, text_work, with_schema}
use Rattle.cube_cli.specs.Files.{text_told}
use Rattle.cube_cli.specs.SchemaAlone.{schema_alone}
use Rattle.cube_cli.specs.Steps.{HoldsSchema, IsCubeOf}
use Rattle.cube_cli.specs.Store.{IsSoundContent, IsSoundOver}
use Rattle.cube_cli.specs.declared.telling.Telling.{Telling}

-- a cube that has the schema and the facts of a content
pub loaded_cube : (schema : SchemaValue) (policy : PolicyWord) (content : Stored) (cube : CubeValue PolicyWord) → policy ≡ schema.policy → cube.schema ≡ schema → cube.policy ≡ policy → cube.facts ≡ facts_told content
    → IsSound (schema_policy (weigh_of policy) schema) (shape_of schema) schema.dims content → HoldsSchema schema content → IsCubeOf cube content
loaded_cube schema policy content cube named schema_is policy_is facts_are sound holds = record {
  holds = subst (λ s. HoldsSchema s content) (sym schema_is) holds;
  policy_is = policy_is ∙ named ∙ sym (ap (λ (s : SchemaValue). s.policy) schema_is);
  facts_are = facts_are;
  sound = subst (λ s. IsSoundOver s content) (sym schema_is) (subst (λ p. IsSound (schema_policy (weigh_of p) schema) (shape_of schema) schema.dims content) named sound);
}

-- what is told of it is what is told of the content
pub text_same : (telling : Telling) (cube : CubeValue PolicyWord) (content : Stored) → IsCubeOf cube content
    → text_told telling (schema_policy (weigh_of cube.policy) cube.schema) cube.schema cube.facts ≡ text_told telling (policy_of cube.schema) cube.schema (facts_told content)
text_same telling cube content is =
    ap (λ p. text_told telling (schema_policy (weigh_of p) cube.schema) cube.schema cube.facts) is.policy_is
    ∙ ap (λ fs. text_told telling (policy_of cube.schema) cube.schema fs) is.facts_are

-- what is made with the schema of a content
pub work_with : (content : Stored) (schema : SchemaValue) (work : SchemaValue → OneWork) → schema_alone content.schema ≡ Ok schema → with_schema work content ≡ work schema
work_with content schema work schema_is = ap (λ read. option_map_or work (result_ok read) (text_work [])) schema_is

pub sound_content : (content : Stored) (schema : SchemaValue) → schema_alone content.schema ≡ Ok schema → IsSoundOver schema content → IsSoundContent content
sound_content content schema schema_is sound = subst (λ r. IsOkAnd r (λ schema. IsSoundOver schema content)) (sym schema_is) sound

-- its fields, one after the other
fields-joined : (word a b : List ℕ) → (word ++ 9 ∷ a) ++ 9 ∷ b ≡ word ++ flat_map (λ field. 9 ∷ field) (a ∷ b ∷ [])
fields-joined word a b = simp (append_assoc, append-nil)

pub two_fields : (word a b t0 t1 t2 all : List ℕ) → t0 ≡ word → t1 ≡ t0 ++ 9 ∷ a → t2 ≡ t1 ++ 9 ∷ b → all ≡ t2 ++ 10 ∷ [] → all ≡ line_text word (a ∷ b ∷ [])
two_fields word a b t0 t1 t2 all e0 e1 e2 end = end ∙ ap (λ t. t ++ 10 ∷ []) (e2 ∙ ap (λ t. t ++ 9 ∷ b) (e1 ∙ ap (λ t. t ++ 9 ∷ a) e0) ∙ fields-joined word a b)

three-joined : (word a b d : List ℕ) → ((word ++ 9 ∷ a) ++ 9 ∷ b) ++ 9 ∷ d ≡ word ++ flat_map (λ field. 9 ∷ field) (a ∷ b ∷ d ∷ [])
three-joined word a b d = simp (append_assoc, append-nil)

pub three_fields : (word a b d t0 t1 t2 t3 all : List ℕ) → t0 ≡ word → t1 ≡ t0 ++ 9 ∷ a → t2 ≡ t1 ++ 9 ∷ b → t3 ≡ t2 ++ 9 ∷ d → all ≡ t3 ++ 10 ∷ [] → all ≡ line_text word (a ∷ b ∷ d ∷ [])
three_fields word a b d t0 t1 t2 t3 all e0 e1 e2 e3 end =
    end ∙ ap (λ t. t ++ 10 ∷ []) (e3 ∙ ap (λ t. t ++ 9 ∷ d) (e2 ∙ ap (λ t. t ++ 9 ∷ b) (e1 ∙ ap (λ t. t ++ 9 ∷ a) e0)) ∙ three-joined word a b d)
