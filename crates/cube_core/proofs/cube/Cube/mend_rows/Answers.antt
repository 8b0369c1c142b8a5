-- Behind the batch the content is the mended one.
use Rattle.std.proofs.Common.{◌≡◌, ℕ, List, ap, ◌∙◌}
use Rattle.std.specs.Prelude.{Result, Ok, Err, IfOk, OnOk}
use Rattle.cube_model.specs.declared.statistic.CellStat.{CellStat}
use Rattle.cube_model.specs.Tree.{Dimension}
use Rattle.fact_keeper.specs.declared.content.Batch.{Batch}
use Rattle.fact_keeper.specs.declared.content.Stored.{Stored}
use Rattle.fact_keeper.specs.Batch.{apply_batch}
use Rattle.fact_records.specs.Shape.{ShapeValue, policy_over}
use Rattle.schema_text.specs.Schema.{SchemaValue, schema_policy, shape_of}
use Rattle.store_audit.specs.Mending.{IsMendable, mended, mended_batch}
use Rattle.store_audit.proofs.Mended.{mending-applied}
use Rattle.cube_core.proofs.cube.Cube.mend_rows.Goals as goal

applied-told : {M E : Type 0} (r : Result M E) (batch_of : M → Batch) (weigh : CellStat → ℕ) (schema : SchemaValue) (dims : List Dimension) (shape : ShapeValue) (content : Stored) → dims ≡ schema.dims → shape ≡ shape_of schema
    → IfOk r (λ m. batch_of m ≡ mended_batch (policy_over weigh shape) dims content) → OnOk r (IsMendable (policy_over weigh shape) shape dims content)
    → IfOk r (λ m. apply_batch (batch_of m) content ≡ mended (schema_policy weigh schema) schema.dims content)
applied-told (Ok m) batch_of weigh schema dims shape content dims_are shape_is is may =
    ap (λ batch. apply_batch batch content) is
    ∙ mending-applied (policy_over weigh shape) shape dims content may
    ∙ ap (λ (ds : List Dimension). mended (policy_over weigh shape) ds content) dims_are
    ∙ ap (λ (s : ShapeValue). mended (policy_over weigh s) schema.dims content) shape_is
applied-told (Err e) batch_of weigh schema dims shape content dims_are shape_is is may = tt

pub returns-clause-applied : goal.returns-clause-applied
returns-clause-applied g c =
    applied-told c.mend_rows.result (λ m. m.batch) (g.P.WeightPolicy.weigh c.args.policy) c.args.schema.now c.in_ok-space.space c.in-Ok.shape c.args.stored.now (c.in_ok-space.ensures ∙ c.space.ensures.dims) (c.in-Ok.ensures ∙ c.shape.ensures.shape)
    c.mend_rows.ensures.batch c.mend_rows.ensures.mendable
