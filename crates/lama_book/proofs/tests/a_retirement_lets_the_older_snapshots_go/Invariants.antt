-- The ledger that the call counts in is the one that the blank opens.
use Rattle.lama_book.proofs.tests.a_retirement_lets_the_older_snapshots_go.Given as goal

abbrev pub ghosts-retire_each : goal.ghosts-retire_each
ghosts-retire_each g a = record { name = a.blank.name; parts = a.blank.parts }
