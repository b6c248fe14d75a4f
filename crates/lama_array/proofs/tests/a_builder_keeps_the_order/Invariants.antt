-- The ledger that the call counts in is the one that the blank opens.
use Rattle.lama_array.proofs.tests.a_builder_keeps_the_order.Given as goal

abbrev pub ghosts-two_pushed : goal.ghosts-two_pushed
ghosts-two_pushed g a = record { name = a.blank.name; parts = a.blank.parts }
