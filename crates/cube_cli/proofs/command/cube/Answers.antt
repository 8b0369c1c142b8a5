-- The laws of answers hold of every input that the source tells, and of every content that the keeper tells.
use Rattle.std.proofs.Common.{map, string_bytes}
use Rattle.script_run.specs.Seen.{SeenAll, seen_of}
use Rattle.cube_cli.specs.Command.{asked_line, command_of}
use Rattle.cube_cli.proofs.Completing.{complete}
use Rattle.cube_cli.proofs.Sound.{adds_up, adds_up_over, expects, expects_over, holds_around, labels_components, labels_components_over, ranges, ranges_over, tables_merge, tables_merge_over}
use Rattle.cube_cli.proofs.command.cube.Goals as goal

-- what says how the run ended says that it is done where nothing is in the way
pub returns-clause-complete : goal.returns-clause-complete
returns-clause-complete g c =
    let words = map string_bytes c.args.words.now in
    let seen : SeenAll = seen_of g.S.Source.tells g.K.Sink.tells g.Q.Keeper.tells c.args.source.now c.run_command.new.source c.args.out.now c.run_command.new.out c.args.keeper.now c.run_command.new.keeper in
    complete (asked_line words) (command_of words) seen c.run_command.result c.run_command.ensures.says

pub returns-clause-expectations : goal.returns-clause-expectations
returns-clause-expectations g c = expects (g.S.Source.tells c.args.source.now).left

pub returns-clause-children : goal.returns-clause-children
returns-clause-children g c = adds_up (g.S.Source.tells c.args.source.now).left

pub returns-clause-expectations_over_store : goal.returns-clause-expectations_over_store
returns-clause-expectations_over_store g c = expects_over (g.Q.Keeper.tells c.args.keeper.now).content (g.S.Source.tells c.args.source.now).left

pub returns-clause-children_over_store : goal.returns-clause-children_over_store
returns-clause-children_over_store g c = adds_up_over (g.Q.Keeper.tells c.args.keeper.now).content (g.S.Source.tells c.args.source.now).left

pub returns-clause-ranges : goal.returns-clause-ranges
returns-clause-ranges g c = ranges (g.S.Source.tells c.args.source.now).left

pub returns-clause-components : goal.returns-clause-components
returns-clause-components g c = labels_components (g.S.Source.tells c.args.source.now).left

pub returns-clause-tables : goal.returns-clause-tables
returns-clause-tables g c = tables_merge (g.S.Source.tells c.args.source.now).left

pub returns-clause-ranges_over_store : goal.returns-clause-ranges_over_store
returns-clause-ranges_over_store g c = ranges_over (g.Q.Keeper.tells c.args.keeper.now).content (g.S.Source.tells c.args.source.now).left

pub returns-clause-components_over_store : goal.returns-clause-components_over_store
returns-clause-components_over_store g c = labels_components_over (g.Q.Keeper.tells c.args.keeper.now).content (g.S.Source.tells c.args.source.now).left

pub returns-clause-tables_over_store : goal.returns-clause-tables_over_store
returns-clause-tables_over_store g c = tables_merge_over (g.Q.Keeper.tells c.args.keeper.now).content (g.S.Source.tells c.args.source.now).left

pub returns-clause-around_asked : goal.returns-clause-around_asked
returns-clause-around_asked g c = holds_around (asked_line (map string_bytes c.args.words.now)) (g.Q.Keeper.tells c.args.keeper.now).content
