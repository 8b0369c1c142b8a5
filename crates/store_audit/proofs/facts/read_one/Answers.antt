-- A fact that is not refused is above all that are there.
use Rattle.std.proofs.Common.{ap, ◌∙◌}
use Rattle.cube_model.specs.Facts.{put}
use Rattle.store_audit.specs.Sound.{fact_told}
use Rattle.store_audit.proofs.Reading.{order-next, put-last}
use Rattle.store_audit.proofs.facts.read_one.Goals as goal

pub returns-clause-put : goal.returns-clause-put
returns-clause-put c =
    c.put.ensures.facts
    ∙ ap (λ f. put f c.args.facts.now.facts) c.in_ok-fact.ensures.told
    ∙ put-last (fact_told c.args.kept.now) c.args.before c.args.facts.now.facts c.requires.order c.in_ok-fact.ensures.above

pub returns-clause-order : goal.returns-clause-order
returns-clause-order c =
    order-next (fact_told c.args.kept.now) c.args.before c.args.facts.now.facts c.put.new.self.facts c.requires.order c.in_ok-fact.ensures.above
    (c.put.ensures.facts
    ∙ ap (λ f. put f c.args.facts.now.facts) c.in_ok-fact.ensures.told
    ∙ put-last (fact_told c.args.kept.now) c.args.before c.args.facts.now.facts c.requires.order c.in_ok-fact.ensures.above)
