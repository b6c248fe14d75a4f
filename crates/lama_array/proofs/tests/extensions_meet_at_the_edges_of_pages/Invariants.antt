-- The ledger that the call counts in is the one that the blank opens.
use Rattle.lama_array.proofs.tests.extensions_meet_at_the_edges_of_pages.Given as goal

abbrev pub ghosts-extended : goal.ghosts-extended
ghosts-extended g a = record { name = a.blank.name; parts = a.blank.parts }
