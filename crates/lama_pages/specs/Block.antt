-- What a block of 256 places owns and lends, at records of the row R: the first places are written, with xs, and the others are room.
use Rattle.std.specs.Prelude.{ℕ, ◌+◌, ◌*◌, ◌^◌, List, ◌++◌, ◌∷◌, length, take, drop}
use Rattle.std.specs.Mem.{type_size}
use base.Fml.{Fml, Lft, fsep, flt}
use mir.Syntax.{Ty}
use denote.RattleType.{RattleType}
use denote.RawPtr.{Ptr, in_block}
use denote.Array.{Array}
use denote.Sharing.{said, beside}
use denote.Struct.Lending.{lent_at}
use Rattle.core.specs.Allocator.{block_with_items}

-- the places take fewer than 2 ^ 63 bytes
abbrev pub fits : RattleType → Fml
fits R = flt (256 * type_size R) (2 ^ 63)

-- the written places, the room behind them, and the right to free the block, which is the token t
abbrev pub block_owns : (Ty → Ptr → Fml) → (R : RattleType) → Ptr → List R.Denot → Fml
block_owns t R p xs = fsep (fits R) (in_block p (block_with_items t R p (length xs) 256 xs))

-- the written places alone
abbrev pub block_lends : (R : RattleType) → Ptr → List R.Denot → Lft → Fml
block_lends R p xs = beside (said (fits R)) (lent_at (Array R (length xs)) p xs)

-- xs with x at place i, where i is a written place or the first that is not
abbrev pub with_record : {A : Type 0} → List A → ℕ → A → List A
with_record xs i x = take i xs ++ x ∷ drop (i + 1) xs
