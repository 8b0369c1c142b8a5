-- The lines of a schema one after the other are its text.
use Rattle.std.proofs.Common.{◌≡◌, [], ◌∷◌, ◌++◌, ℕ, List, append_assoc}
use Rattle.std.specs.Prelude.{codes}
use Rattle.std.specs.List.{flat_map}
use Rattle.std.proofs.lemmas.Result.{on_ok_weaker}
use Rattle.text_lines.specs.Text.{line_text}
use Rattle.schema_text.specs.SchemaText.{dims_text, measure_line, policy_line, schema_text, version_of, version_text, view_line}
use Rattle.schema_text.proofs.write.append_schema.Goals as goal

six : (old a b c d e f : List ℕ) → (((((old ++ a) ++ b) ++ c) ++ d) ++ e) ++ f ≡ old ++ (((((a ++ b) ++ c) ++ d) ++ e) ++ f)
six old a b c d e f = simp append_assoc

pub returns-clause-text : goal.returns-clause-text
unfolding schema_text
returns-clause-text c =
    let s = c.args.s.now in
    let version = version_of s.dims in
    let before = c.append_views.new.out.items in
    on_ok_weaker c.append_bytes.result
    (λ (ended : c.append_bytes.new.out.items ≡ before ++ line_text (codes "end") []).
    rw (
      ended,
      c.in_ok-append_views.ensures,
      c.in_ok-append_dims.ensures,
      c.in_ok-append_measures.ensures,
      c.in_ok-append_policy.ensures,
      c.in_ok-append_line.ensures,
      c.as_bytes.ensures.value,
      c.version_text.ensures,
      c.version_of-version.ensures,
      c.shape.ensures.shape,
      c.space-2.ensures.dims,
      c.space.ensures.dims,
      c.dim_names.ensures.names,
      c.views.ensures.views,
    )
    (six c.args.out.now.items (line_text (codes "cube") (version_text version ∷ [])) (policy_line s.measures s.policy) (flat_map measure_line s.measures) (dims_text version s.names s.dims) (flat_map view_line s.views) (line_text (codes "end") [])))
    c.append_bytes.ensures
