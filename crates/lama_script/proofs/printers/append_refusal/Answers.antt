use Rattle.lama_model.specs.Lines.{refusal_line}
use Rattle.lama_script.proofs.printers.append_refusal.Goals as goal

pub returns-in-UnknownVertex-clause-ok : goal.returns-in-UnknownVertex-clause-ok
returns-in-UnknownVertex-clause-ok c = rw c.in-UnknownVertex.is c.append_unknown.ensures.ok

pub returns-in-FullVertices-clause-ok : goal.returns-in-FullVertices-clause-ok
unfolding refusal_line
returns-in-FullVertices-clause-ok c = rw c.in-FullVertices.is c.append_text.ensures.ok

pub returns-in-FullEdges-clause-ok : goal.returns-in-FullEdges-clause-ok
unfolding refusal_line
returns-in-FullEdges-clause-ok c = rw c.in-FullEdges.is c.append_text-in-FullEdges.ensures.ok

pub returns-in-FullKept-clause-ok : goal.returns-in-FullKept-clause-ok
unfolding refusal_line
returns-in-FullKept-clause-ok c = rw c.in-FullKept.is c.append_text-in-FullKept.ensures.ok

pub returns-in-FullNumbers-clause-ok : goal.returns-in-FullNumbers-clause-ok
unfolding refusal_line
returns-in-FullNumbers-clause-ok c = rw c.in-FullNumbers.is c.append_text-in-FullNumbers.ensures.ok

pub returns-in-NoSnapshot-clause-ok : goal.returns-in-NoSnapshot-clause-ok
returns-in-NoSnapshot-clause-ok c = rw c.in-NoSnapshot.is c.append_missing.ensures.ok
