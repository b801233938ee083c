-- Why a database gives no mappings.
use Rattle.std.specs.Prelude.{Bool, true, false}
use Rattle.mapdb.specs.declared.error.DbError.{DbError}
use Rattle.mapdb.specs.declared.error.DbError.TheVariants.{Halted}

-- whether it is that the database is halted
abbrev pub is_halted : DbError → Bool
is_halted Halted = true
is_halted error = false
