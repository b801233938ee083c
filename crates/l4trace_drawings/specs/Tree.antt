-- Derivation trees as they are drawn.
use Rattle.mapdb.specs.Held.{Mapping}
use Rattle.l4trace_drawings.specs.declared.tree.Row.{Row}

-- the mapping that a row draws
abbrev pub mapping_in : Row → Mapping
mapping_in row = row.mapping
