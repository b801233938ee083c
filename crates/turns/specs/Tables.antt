-- The rule as a table of shared words has it.
use Rattle.std.specs.Prelude.{ℕ, List, [], length}
use Rattle.std.specs.List.{range_with_len}
use Rattle.atomic_table.specs.Table.{State}
use Rattle.turns.specs.Rules.{Holds}
use Rattle.turns.specs.declared.sharing.Indexes.{Indexes}
use Rattle.turns.specs.declared.sharing.Indexes.TheVariants as indexes
use Rattle.turns.specs.declared.view.Opening.{Opening}
use Rattle.turns.specs.declared.view.View.{View}
use Rattle.turns.specs.declared.rule.Fixed.{Fixed}

-- the indexes of the words that are shared, of so many words
abbrev pub indexes_of : ℕ → Indexes → List ℕ
indexes_of n indexes.All = range_with_len 0 n
indexes_of n (indexes.Listed at) = at.items

-- those that are listed
abbrev pub listed : Indexes → List ℕ
listed indexes.All = []
listed (indexes.Listed at) = at.items

-- the phase of a table
abbrev pub opened : Fixed → Opening
opened key = record { words = key.words.value.items; pieces = key.pieces.value.items; indexes = indexes_of (length key.words.value.items) key.indexes.value; watchers = key.watchers.value }

-- the rule of its words and views; it has no slots
abbrev pub Ruled : Opening → State (Unit {0}) View → Type 0
Ruled o s = Holds o s.words s.views
