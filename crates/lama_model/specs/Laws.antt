-- Words that the laws on journals add.
use Rattle.std.specs.Prelude.{ℕ, ◌+◌, if◌then◌else◌, List, [], ◌∷◌}
use Rattle.lama_model.specs.Opening.{Opening}
use Rattle.lama_model.specs.Journal.{Standing, after, is_made}
use Rattle.lama_model.specs.declared.calls.Entry.{Entry}

-- how many of the entries are accepted checkpoints, for calls made where s stands
abbrev pub count_made : Opening → Standing → List Entry → ℕ
count_made o s [] = 0
count_made o s (e ∷ journal) = (if is_made o s e.call then 1 else 0) + count_made o (after o s e.call) journal
