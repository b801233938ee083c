-- Why a call was refused whose pieces were not worked.
use Rattle.std.specs.Prelude.{◌≡◌}
use Rattle.crew.specs.declared.error.CrewError.{CrewError}
use Rattle.crew.specs.declared.error.CrewError.TheVariants as crew
use Rattle.mapdb.specs.declared.error.DbError.{DbError}
use Rattle.mapdb.specs.declared.error.DbError.TheVariants.{NoMemory, NoWorker}

-- for the same reason
abbrev pub IsOfCrew : CrewError → DbError → Type 0
IsOfCrew crew.NoMemory e = e ≡ NoMemory
IsOfCrew crew.NoWorker e = e ≡ NoWorker
