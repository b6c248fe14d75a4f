use Rattle.lama_model.proofs.LabelLaw.{graph-ends, labels_are, labels-only, labels_first}
use Rattle.lama_model.proofs.laws.labels_are_least_vertices.Goals as goal

pub returns : goal.returns
returns c = record {
  are = λ g graph. labels_are g (graph-ends g graph);
  first = λ g graph. labels_first g (graph-ends g graph) _ (labels_are g (graph-ends g graph));
  only = λ g ls graph h. labels-only g (graph-ends g graph) ls h;
}
