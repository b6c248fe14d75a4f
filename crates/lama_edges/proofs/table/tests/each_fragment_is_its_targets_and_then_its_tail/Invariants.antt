use Rattle.lama_edges.proofs.table.tests.each_fragment_is_its_targets_and_then_its_tail.Given as goal

abbrev pub ghosts-two_fragments_counted : goal.ghosts-two_fragments_counted
ghosts-two_fragments_counted g a = record { name = a.blank.name; parts = a.blank.parts }
