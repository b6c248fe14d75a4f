-- What a level holds.
use Rattle.std.specs.Arc.{arc_value}
use Rattle.lama_model.specs.Change.{Change}
use Rattle.lama_snapshot.specs.Chains.{Table}
use Rattle.lama_snapshot.specs.Written.{level_sources}
use Rattle.lama_snapshot.specs.declared.level.Level.{Level}

-- its slots and their sources
abbrev pub table_of : Level → Table
table_of l = record { slots = l.edges; sources = level_sources (arc_value l.change).rows }

-- its change
abbrev pub change_of : Level → Change
change_of l = arc_value l.change
