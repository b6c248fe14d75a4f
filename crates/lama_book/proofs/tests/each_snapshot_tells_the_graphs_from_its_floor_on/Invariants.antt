-- The ledger that the call counts in is the one that the blank opens.
use Rattle.lama_book.proofs.tests.each_snapshot_tells_the_graphs_from_its_floor_on.Given as goal

abbrev pub ghosts-earlier_rows : goal.ghosts-earlier_rows
ghosts-earlier_rows g a = record { name = a.blank.name; parts = a.blank.parts }
