-- Sources and sinks over memory: what they hold, how much one call moves, and which calls fail.
use Rattle.std.specs.Prelude.{ℕ, ◌+◌, ◌-◌, ◌^◌, ◌==◌, List, Bool, if◌then◌else◌, min, max}
use Rattle.std.specs.List.{list_any}

-- the bytes that a source has left or that a sink was given, and how many one call moves at most
pub record SureMemory : Type 0 where
  pub bytes : List ℕ
  pub most : ℕ

-- the same with the numbers of the calls that fail, and how many calls were made and have failed
pub record Memory : Type 0 where
  pub bytes : List ℕ
  pub most : ℕ
  pub failing : List ℕ
  pub calls : ℕ
  pub faults : ℕ

-- how many bytes one call moves where there is room for so many: no more than the most, which is 1 where it is given as 0
abbrev pub moved : ℕ → ℕ → ℕ
moved most room = min (max most 1) room

-- a count of 64 bits with one more, which stands still at its last value
abbrev pub more : ℕ → ℕ
more count = min (count + 1) (2 ^ 64 - 1)

-- the next call is one that fails; calls are numbered from 0
abbrev pub fails : Memory → Bool
fails m = list_any (λ number. number == m.calls) m.failing

-- the next call is counted, and its failure where it fails
abbrev pub counted : Memory → Memory
counted m = record m { calls = more m.calls; faults = if fails m then more m.faults else m.faults }
