use Rattle.conda_version.proofs.TreeLemmas.{allows-means, allows-tree, no-fault-tree, tree-no-fault}
use Rattle.conda_version.proofs.laws.a_constraint_says_what_its_tree_says.Goals as goal

pub returns : goal.returns
returns c = record {
  tree = λ text. (no-fault-tree text, tree-no-fault text);
  says = allows-tree;
  allows = allows-means;
}
