-- The grammar of a script: bytes, lines, words, commands.
use Rattle.std.specs.Prelude.{ℕ, ◌+◌, ◌-◌, ◌*◌, ◌==◌, nat_le, nat_lt, Bool, true, false, ◌&&◌, ◌||◌, if◌then◌else◌, List, [], ◌∷◌, length, filter, fold, codes, bytes_eq, Option, Some, None}
use Rattle.std.specs.List.{slice_split, list_all}
use Rattle.std.specs.Option.{option_map, option_and_then}
use Rattle.lama_model.specs.declared.calls.Write.TheVariants.{Vertices, Add, Remove, Weigh}
use Rattle.lama_model.specs.declared.commands.Command.{Command}
use Rattle.lama_model.specs.declared.commands.Command.TheVariants.{Write as Writes, Checkpoint as Checkpoints, Merge as Merges, Retire as Retires, Read as Reads}
use Rattle.lama_model.specs.declared.commands.Read.{Read}
use Rattle.lama_model.specs.declared.commands.Read.TheVariants.{Row, Edges, Degrees, Bfs, Labels, Rank, Dist, AsOf}

abbrev pub is_line_feed : ℕ → Bool
is_line_feed b = b == 10

-- a blank or a tab
abbrev pub is_blank : ℕ → Bool
is_blank b = (b == 32) || (b == 9)

abbrev pub is_digit : ℕ → Bool
is_digit b = nat_le 48 b && nat_le b 57

abbrev pub is_nonempty : List ℕ → Bool
is_nonempty [] = false
is_nonempty (b ∷ bs) = true

-- nothing after the last line feed is no line
abbrev pub without_empty_last : List (List ℕ) → List (List ℕ)
without_empty_last [] = []
without_empty_last (part ∷ []) = if is_nonempty part then part ∷ [] else []
without_empty_last (part ∷ next ∷ parts) = part ∷ without_empty_last (next ∷ parts)

-- the lines of the bytes, without their line feeds
unfoldable pub lines : List ℕ → List (List ℕ)
lines bytes = without_empty_last (slice_split is_line_feed bytes)

-- a line without the carriage return at its end
abbrev pub without_return : List ℕ → List ℕ
without_return [] = []
without_return (b ∷ []) = if b == 13 then [] else b ∷ []
without_return (b ∷ c ∷ bs) = b ∷ without_return (c ∷ bs)

-- the words of a line, parted by blanks and tabs
unfoldable pub words : List ℕ → List (List ℕ)
words line = filter is_nonempty (slice_split is_blank line)

-- the value of digits, the first one the highest
abbrev pub value_of : List ℕ → ℕ
value_of digits = fold (λ n d. n * 10 + (d - 48)) 0 digits

-- a number: one or more digits, with a value of at most 2 ^ 32 - 1
unfoldable pub number : List ℕ → Option ℕ
number word =
    if is_nonempty word && list_all is_digit word && nat_le (value_of word) 4294967295 then Some (value_of word) else None

-- add U V W, where all three are numbers
abbrev pub add_of : Option ℕ → Option ℕ → Option ℕ → Option Command
add_of u v w = option_and_then (λ u. option_and_then (λ v. option_map (λ w. Writes (Add u v w)) w) v) u

-- weigh U V W, where all three are numbers
abbrev pub weigh_of : Option ℕ → Option ℕ → Option ℕ → Option Command
weigh_of u v w = option_and_then (λ u. option_and_then (λ v. option_map (λ w. Writes (Weigh u v w)) w) v) u

-- del U V, where both are numbers
abbrev pub del_of : Option ℕ → Option ℕ → Option Command
del_of u v = option_and_then (λ u. option_map (λ v. Writes (Remove u v)) v) u

abbrev pub vertices_command : List (List ℕ) → Option Command
vertices_command [] = None
vertices_command (n ∷ []) = option_map (λ n. Writes (Vertices n)) (number n)
vertices_command (n ∷ more ∷ args) = None

-- the weight is 1 where it is absent
abbrev pub add_command : List (List ℕ) → Option Command
add_command [] = None
add_command (u ∷ []) = None
add_command (u ∷ v ∷ []) = add_of (number u) (number v) (Some 1)
add_command (u ∷ v ∷ w ∷ []) = add_of (number u) (number v) (number w)
add_command (u ∷ v ∷ w ∷ more ∷ args) = None

abbrev pub del_command : List (List ℕ) → Option Command
del_command [] = None
del_command (u ∷ []) = None
del_command (u ∷ v ∷ []) = del_of (number u) (number v)
del_command (u ∷ v ∷ more ∷ args) = None

abbrev pub weigh_command : List (List ℕ) → Option Command
weigh_command [] = None
weigh_command (u ∷ []) = None
weigh_command (u ∷ v ∷ []) = None
weigh_command (u ∷ v ∷ w ∷ []) = weigh_of (number u) (number v) (number w)
weigh_command (u ∷ v ∷ w ∷ more ∷ args) = None

abbrev pub checkpoint_command : List (List ℕ) → Option Command
checkpoint_command [] = Some Checkpoints
checkpoint_command (more ∷ args) = None

abbrev pub merge_command : List (List ℕ) → Option Command
merge_command [] = Some Merges
merge_command (more ∷ args) = None

abbrev pub retire_command : List (List ℕ) → Option Command
retire_command [] = None
retire_command (k ∷ []) = option_map (λ k. Retires k) (number k)
retire_command (k ∷ more ∷ args) = None

abbrev pub row_read : List (List ℕ) → Option Read
row_read [] = None
row_read (v ∷ []) = option_map (λ v. Row v) (number v)
row_read (v ∷ more ∷ args) = None

abbrev pub edges_read : List (List ℕ) → Option Read
edges_read [] = Some Edges
edges_read (more ∷ args) = None

abbrev pub degrees_read : List (List ℕ) → Option Read
degrees_read [] = Some Degrees
degrees_read (more ∷ args) = None

-- whether `sum` stands after a command's words, or nothing
abbrev pub sum_of : List (List ℕ) → Option Bool
sum_of [] = Some false
sum_of (word ∷ []) = if bytes_eq word (codes "sum") then Some true else None
sum_of (word ∷ more ∷ args) = None

-- bfs S, where S is a number
abbrev pub bfs_of : Option Bool → Option ℕ → Option Read
bfs_of sum s = option_and_then (λ sum. option_map (λ s. Bfs s sum) s) sum

abbrev pub bfs_read : List (List ℕ) → Option Read
bfs_read [] = None
bfs_read (s ∷ args) = bfs_of (sum_of args) (number s)

abbrev pub labels_read : List (List ℕ) → Option Read
labels_read args = option_map (λ sum. Labels sum) (sum_of args)

-- so many rounds, of which there are at most 100
abbrev pub rank_within : Bool → ℕ → Option Read
rank_within sum rounds = if nat_le rounds 100 then Some (Rank rounds sum) else None

-- rank R, where R is a number
abbrev pub rank_of : Option Bool → Option ℕ → Option Read
rank_of sum rounds = option_and_then (λ sum. option_and_then (rank_within sum) rounds) sum

abbrev pub rank_read : List (List ℕ) → Option Read
rank_read [] = None
rank_read (rounds ∷ args) = rank_of (sum_of args) (number rounds)

-- dist S, where S is a number
abbrev pub dist_of : Option Bool → Option ℕ → Option Read
dist_of sum s = option_and_then (λ sum. option_map (λ s. Dist s sum) s) sum

abbrev pub dist_read : List (List ℕ) → Option Read
dist_read [] = None
dist_read (s ∷ args) = dist_of (sum_of args) (number s)

-- asof J V, where both are numbers
abbrev pub as_of_numbers : Option ℕ → Option ℕ → Option Read
as_of_numbers j v = option_and_then (λ j. option_map (λ v. AsOf j v) v) j

abbrev pub as_of_read : List (List ℕ) → Option Read
as_of_read [] = None
as_of_read (j ∷ []) = None
as_of_read (j ∷ v ∷ []) = as_of_numbers (number j) (number v)
as_of_read (j ∷ v ∷ more ∷ args) = None

-- what is read by a word and the words after it
unfoldable pub read_of : List ℕ → List (List ℕ) → Option Read
read_of word args =
    if bytes_eq word (codes "row") then row_read args
    else (if bytes_eq word (codes "edges") then edges_read args
    else (if bytes_eq word (codes "bfs") then bfs_read args
    else (if bytes_eq word (codes "labels") then labels_read args
    else (if bytes_eq word (codes "degrees") then degrees_read args
    else (if bytes_eq word (codes "rank") then rank_read args
    else (if bytes_eq word (codes "dist") then dist_read args
    else (if bytes_eq word (codes "asof") then as_of_read args
    else None)))))))

-- what stands behind an at sign at the front of a word
abbrev pub behind_at : List ℕ → Option (List ℕ)
behind_at [] = None
behind_at (b ∷ bs) = if b == 64 then Some bs else None

-- a reading command: of the snapshot of a number, where a word `@K` stands before it, or of the newest one
abbrev pub reading_of : Option (List ℕ) → List ℕ → List (List ℕ) → Option Command
reading_of None word args = option_map (λ what. Reads None what) (read_of word args)
reading_of (Some digits) word [] = None
reading_of (Some digits) word (name ∷ args) = option_and_then (λ k. option_map (λ what. Reads (Some k) what) (read_of name args)) (number digits)

-- the command that the words spell, first word first
unfoldable pub command_of : List ℕ → List (List ℕ) → Option Command
command_of word args =
    if bytes_eq word (codes "vertices") then vertices_command args
    else (if bytes_eq word (codes "add") then add_command args
    else (if bytes_eq word (codes "del") then del_command args
    else (if bytes_eq word (codes "weigh") then weigh_command args
    else (if bytes_eq word (codes "checkpoint") then checkpoint_command args
    else (if bytes_eq word (codes "merge") then merge_command args
    else (if bytes_eq word (codes "retire") then retire_command args
    else reading_of (behind_at word) word args))))))

-- what a line says
pub data Meaning : Type 0 where
  -- no words, or a comment
  Skipped : Meaning
  Says : Command → Meaning
  Bad : Meaning

abbrev pub said_or_bad : Option Command → Meaning
said_or_bad (Some c) = Says c
said_or_bad None = Bad

-- a comment's first word begins with a number sign
abbrev pub is_comment : List ℕ → Bool
is_comment [] = false
is_comment (b ∷ bs) = b == 35

abbrev pub meaning_of_words : List (List ℕ) → Meaning
meaning_of_words [] = Skipped
meaning_of_words (word ∷ args) = if is_comment word then Skipped else said_or_bad (command_of word args)

-- what a line says, given without its line feed
unfoldable pub meaning : List ℕ → Meaning
meaning line = if nat_lt 1024 (length line) then Bad else meaning_of_words (words (without_return line))

-- what a script does in one step
pub data Item : Type 0 where
  One : Command → Item

-- how a script ends
pub data End : Type 0 where
  -- without a bad line
  Whole : End
  -- at its first bad line, of this number
  BadAt : ℕ → End
  -- after the greatest number of lines
  TooMany : End

-- the items that count, and the end
pub record Script : Type 0 where
  pub items : List Item
  pub end : End

-- the line of number n, before the rest of the script
abbrev pub with_line : ℕ → Meaning → Script → Script
with_line n Skipped rest = rest
with_line n (Says c) rest = record { items = One c ∷ rest.items; end = rest.end }
with_line n Bad rest = record { items = []; end = BadAt n }

-- the lines from the one of number n on
abbrev pub script_from : ℕ → List (List ℕ) → Script
script_from n [] = record { items = []; end = Whole }
script_from n (line ∷ rest) =
    if nat_lt 2097152 n then record { items = []; end = TooMany } else with_line n (meaning line) (script_from (n + 1) rest)

-- the script of the bytes
abbrev pub script : List ℕ → Script
script bytes = script_from 1 (lines bytes)
