use Rattle.std.proofs.Common.{sym, ap, ◌∙◌}
use Rattle.script_text.specs.ScriptLine.{line_of}
use Rattle.feed_run.proofs.LeadSteps.{leads_line}
use Rattle.feed_run.proofs.lead.LeadRun.do_line.Goals as goal

pub returns-clause-leads : goal.returns-clause-leads
returns-clause-leads g c =
    leads_line c.args.line.now c.in-Ok.read c.args.self.now c.do_read-led.new.self _ _ c.do_read-led.result (ap (λ s. line_of s c.args.line.now) (sym c.schema.ensures) ∙ c.in-Ok.ensures.read) c.do_read-led.ensures.leads
