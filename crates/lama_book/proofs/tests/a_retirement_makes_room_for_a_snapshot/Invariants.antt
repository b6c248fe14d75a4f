-- The ledger that the call counts in is the one that the blank opens.
use Rattle.lama_book.proofs.tests.a_retirement_makes_room_for_a_snapshot.Given as goal

abbrev pub ghosts-make_room : goal.ghosts-make_room
ghosts-make_room g a = record { name = a.blank.name; parts = a.blank.parts }
