use Rattle.dim_tree.proofs.MoreLeaves.{leaves-grown}
use Rattle.dim_tree.proofs.NewLeaf.{IsTree-grown, length-grown}
use Rattle.dim_tree.proofs.laws.grown_stays_a_tree.Goals as goal

pub returns : goal.returns
returns c = record {
  tree = λ dim parent name tree within shallow few new named. IsTree-grown dim parent name tree within shallow few new named;
  nodes = λ dim parent name tree within. length-grown dim parent name tree within;
  leaves = λ dim parent name tree within shallow few new named. leaves-grown dim parent name tree within shallow few new named;
}
