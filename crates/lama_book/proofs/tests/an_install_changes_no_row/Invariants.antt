-- The ledger that the call counts in is the one that the blank opens.
use Rattle.lama_book.proofs.tests.an_install_changes_no_row.Given as goal

abbrev pub ghosts-installed_late : goal.ghosts-installed_late
ghosts-installed_late g a = record { name = a.blank.name; parts = a.blank.parts }
