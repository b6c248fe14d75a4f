-- What a contract sees of the fields of a book.
use Rattle.std.specs.Prelude.{ℕ, ◌-◌, length, map, vec_capacity, nat_lt, if◌then◌else◌}
use Rattle.std.specs.Arc.{arc_value}
use Rattle.lama_book.specs.Book.{Book, IsWhole}
use Rattle.lama_book.specs.declared.book.Book.TheInside.{Inside}

-- the smaller of two numbers
abbrev pub least : ℕ → ℕ → ℕ
least a b = if nat_lt b a then b else a

-- the book that the fields stand for
abbrev pub shown : Inside → Book
shown b = record {
  journal = b.journal.items;
  kept = map arc_value b.kept.items;
  pending = b.delta.writes;
  spare = least (least (vec_capacity b.journal - length b.journal.items) b.delta.spare) 4194304;
  count = b.count;
  added = b.added;
  oldest = b.oldest;
}

abbrev pub IsShown : Inside → Type 0
IsShown b = IsWhole (shown b)
