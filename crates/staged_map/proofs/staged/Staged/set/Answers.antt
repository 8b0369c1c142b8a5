-- The key of the place that is found is the key.
use Rattle.std.proofs.Common.{◌≡◌, ap, subst, ◌∙◌}
use Rattle.staged_map.specs.Staged.{Sets, key_of_place, value_at}
use Rattle.staged_map.proofs.Places.{found-key-some}
use Rattle.staged_map.proofs.staged.Staged.set.Goals as goal

pub returns-clause-had : goal.returns-clause-had
returns-clause-had g c =
    let is = found-key-some c.args.self.now c.args.key c.unwrap-i.result c.find_noted.result c.unwrap-i.ensures c.find_noted.ensures.place c.requires in
    let had = subst (λ places. c.set_at.result ≡ value_at places (key_of_place places c.unwrap-i.result)) c.find_noted.ensures.same c.set_at.ensures.had in
    had ∙ ap (value_at c.args.self.now) is

pub returns-clause-sets : goal.returns-clause-sets
returns-clause-sets g c =
    let is = found-key-some c.args.self.now c.args.key c.unwrap-i.result c.find_noted.result c.unwrap-i.ensures c.find_noted.ensures.place c.requires in
    let sets = subst (λ places. Sets places c.set_at.new.self (key_of_place places c.unwrap-i.result) c.args.value) c.find_noted.ensures.same c.set_at.ensures.sets in
    subst (λ key. Sets c.args.self.now c.set_at.new.self key c.args.value) is sets
