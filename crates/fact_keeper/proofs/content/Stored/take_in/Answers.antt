use Rattle.std.proofs.Common.{◌≡◌, ℕ, List, length, sym, subst, ap, ◌∙◌, refl, arith, rules, None}
use Rattle.std.specs.Prelude.{unwrap_or}
use Rattle.fact_keeper.specs.declared.content.KeptFact.{KeptFact}
use Rattle.fact_keeper.specs.declared.content.KeptRows.{KeptRows}
use Rattle.fact_keeper.specs.declared.content.Stored.{Stored}
use Rattle.fact_keeper.specs.Batch.{fact_id, rows_id, updated}
use Rattle.fact_keeper.specs.Order.{AscendsBy, IsInOrder}
use Rattle.fact_keeper.proofs.content.Stored.take_in.Goals.{in-Some, in_default}
use Rattle.fact_keeper.proofs.content.Stored.take_in.Goals as goal

-- equal entries are updated to equal ones
updated_same : {X : Type 0} (id_of : X → ℕ) (result : List X) (gone gone' : List ℕ) (new new' entries entries' : List X) → result ≡ updated id_of gone new entries → gone ≡ gone' → new ≡ new' → entries ≡ entries'
    → result ≡ updated id_of gone' new' entries'
updated_same id_of result gone gone' new new' entries entries' is same_gone same_new same_entries = is ∙ rw (same_gone, same_new, same_entries) refl

-- a content of equal parts is the same
abbrev content : List ℕ → List KeptFact → List KeptRows → Stored
content schema facts rows = record { schema = schema; facts = facts; rows = rows }

content_same : (schema schema' : List ℕ) (facts facts' : List KeptFact) (rows rows' : List KeptRows) → schema ≡ schema' → facts ≡ facts' → rows ≡ rows' → content schema facts rows ≡ content schema' facts' rows'
content_same schema schema' facts facts' rows rows' same_schema same_facts same_rows = rw (same_schema, same_facts, same_rows) refl

pub update-requires : goal.update-requires
update-requires c = record {
  room = omega (arith, c.in_ok-old_facts.ensures.room, ap length c.as_slice.ensures, ap length c.into_vec.ensures);
  order = λ is. subst (AscendsBy fact_id) (sym c.in_ok-old_facts.ensures.taken) (c.requires is).facts;
}

pub update-requires-in-Ok : goal.update-requires-in-Ok
update-requires-in-Ok c = record {
  room = omega (arith, c.in-Ok.ensures.room, ap length c.as_slice-2.ensures, ap length c.into_vec-in-Ok.ensures);
  order = λ is. subst (AscendsBy rows_id) (sym c.in-Ok.ensures.taken) (c.requires is).rows;
}

pub returns-after-schema-2-clause-ok : goal.returns-after-schema-2-clause-ok
returns-after-schema-2-clause-ok c =
    let facts : c.update.result ≡ updated fact_id c.args.batch.gone c.args.batch.facts c.args.self.now.facts =
    updated_same fact_id _ _ _ _ _ _ _ c.update.ensures.entries c.as_slice-in-Ok.ensures c.into_vec.ensures c.in_ok-old_facts.ensures.taken in
    let rows : c.update-in-Ok.result ≡ updated rows_id c.args.batch.gone c.args.batch.rows c.args.self.now.rows =
    updated_same rows_id _ _ _ _ _ _ _ c.update-in-Ok.ensures.entries c.as_slice-in-Ok-2.ensures c.into_vec-in-Ok.ensures c.in-Ok.ensures.taken in
    elim c.match-schema-2.branch [
      | in-Some w ↦ w.self-is ∙ content_same _ _ _ _ _ _ (sym (ap (λ text. unwrap_or text c.args.self.now.schema) w.in-Some.is)) facts rows
      | in_default w ↦
          let none : c.args.batch.schema ≡ None = search rules in
          w.self-is ∙ content_same _ _ _ _ _ _ (sym (ap (λ text. unwrap_or text c.args.self.now.schema) none)) facts rows
    ]

pub returns-after-schema-2-clause-order : goal.returns-after-schema-2-clause-order
returns-after-schema-2-clause-order c = λ is. elim c.match-schema-2.branch [
  | in-Some w ↦ subst (λ s. IsInOrder s) (sym w.self-is) (record { facts = c.update.ensures.order is; rows = c.update-in-Ok.ensures.order is })
  | in_default w ↦ subst (λ s. IsInOrder s) (sym w.self-is) (record { facts = c.update.ensures.order is; rows = c.update-in-Ok.ensures.order is })
]

pub returns-in-Err : goal.returns-in-Err
returns-in-Err c =
    let same : content c.args.self.now.schema c.into.result c.take_with_room-2.new.list ≡ c.args.self.now =
    content_same _ _ _ _ _ _ refl (c.into.ensures ∙ c.in_ok-old_facts.ensures.taken) c.in-Err.ensures.err in
    record { ok = tt; order = λ is. subst (λ s. IsInOrder s) (sym same) (c.requires is); err = same }
