-- The last place that is left is moved out, and where there is none all are.
use Rattle.std.proofs.Common.{◌++◌, Some, ap, sym, ◌∙◌, arith, subst}
use Rattle.std.proofs.lemmas.List.{append-nil}
use Rattle.std.specs.Option.{option_map}
use Rattle.staged_map.specs.Staged.{AreOfDifferentKeys, staged_entry, value_at}
use Rattle.staged_map.proofs.Taking.{Taking-all, Taking-next, nothing-left, taken, taken-distinct, taken-each}
use Rattle.staged_map.proofs.staged.Staged.take_entries.Goals as goal

pub loop-key-init : goal.loop-key-init
loop-key-init g c = (
  ap (λ entries. entries ++ taken c.self.inside.places.entries) (sym c.in_ok-entries.ensures.items),
  omega (arith, c.in_ok-entries.ensures, c.len-count.ensures),
)

pub loop-key-smaller : goal.loop-key-smaller
loop-key-smaller g c = omega (arith, c.in-Some.ensures.len)

pub loop-key-preserved : goal.loop-key-preserved
loop-key-preserved g c = (
  Taking-next c.self.inside.places.entries c.loop-key.self-inside.places.entries c.pop.new.self.entries c.loop-key.entries.items c.push_held.new.entries.items (c.in-Some.key, c.in-Some.value)
      c.in-Some.ensures.entries c.loop-key.invariant.0 c.push_held.ensures.items,
  omega (arith, c.push_held.ensures.len, c.push_held.ensures.capacity, c.in-Some.ensures.len, c.loop-key.invariant.1),
)

pub returns-clause-each : goal.returns-clause-each
returns-clause-each g c =
    let none = nothing-left c.loop-key.self-inside.places.entries c.in_default.ensures.found.1 in
    let are = Taking-all c.self.inside.places.entries c.loop-key.self-inside.places.entries c.loop-key.entries.items none c.loop-key.invariant.0 in
    λ key. ap (λ entries. staged_entry entries key) are ∙ taken-each c.self.inside.places.entries c.len-count.ensures.unique key ∙ ap (λ places. option_map Some (value_at places key)) c.self.view_is

pub returns-clause-distinct : goal.returns-clause-distinct
returns-clause-distinct g c =
    let none = nothing-left c.loop-key.self-inside.places.entries c.in_default.ensures.found.1 in
    let are = Taking-all c.self.inside.places.entries c.loop-key.self-inside.places.entries c.loop-key.entries.items none c.loop-key.invariant.0 in
    subst AreOfDifferentKeys (sym are) (taken-distinct c.self.inside.places.entries c.len-count.ensures.unique)

pub returns-clause-none : goal.returns-clause-none
returns-clause-none g c =
    sym (append-nil c.pop.new.self.entries) ∙ sym c.in_default.ensures.entries ∙ nothing-left c.loop-key.self-inside.places.entries c.in_default.ensures.found.1
