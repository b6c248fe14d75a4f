-- The ledger that the call counts in is the one that the blank opens.
use Rattle.lama_book.proofs.tests.parallel_edges_of_the_base_and_a_level.Given as goal

abbrev pub ghosts-after_base : goal.ghosts-after_base
ghosts-after_base g a = record { name = a.blank.name; parts = a.blank.parts }
