-- A node stands behind those above it.
use Rattle.std.proofs.Common.{ap, sym, ◌∙◌}
use Rattle.region_index.proofs.NodesInLine.{pushed-child, pushed-root}
use Rattle.region_index.proofs.touching.+push_above.Goals as goal
use Rattle.region_index.proofs.touching.+push_above.Goals.{in-Some+in_ok-push_above, in_default}

pub returns : goal.returns
returns t c =
    elim c.match-parent.branch [
      | in-Some+in_ok-push_above w ↦
          pushed-child c.args.dim.now c.len.ensures.tree c.args.node c.place.result c.requires c.place.ensures.place c.args.places.now.items c.match-parent.places.items c.push.new.self.items c.in_ok-push.ensures.items _
          (ap (λ v. v.items) w.places-is ∙ w.in_ok-push_above.ensures) (sym w.in-Some.ensures.parent)
      | in_default w ↦
          pushed-root c.args.dim.now c.len.ensures.tree c.args.node c.place.result c.requires c.place.ensures.place c.args.places.now.items c.match-parent.places.items c.push.new.self.items c.in_ok-push.ensures.items
          (ap (λ v. v.items) w.places-is) (sym w.in_default.ensures.parent)
    ]
