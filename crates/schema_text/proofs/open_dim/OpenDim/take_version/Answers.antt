-- Where there is no node, none of their numbers is known in any version.
use Rattle.schema_text.proofs.NodesMore.{AreTaken-none}
use Rattle.schema_text.proofs.open_dim.OpenDim.take_version.Goals as goal

pub returns-in-Some-clause-kept : goal.returns-in-Some-clause-kept
returns-in-Some-clause-kept c = record {
  known = c.requires.kept.known;
  taken = AreTaken-none c.args.self.now.version c.in-Some.version c.args.self.now.nodes.items c.args.self.now.taken.keys c.requires.none c.requires.kept.taken;
}
