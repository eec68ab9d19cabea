-- Why a store is not opened, by the error of the database.
use Rattle.sqlite.specs.declared.error.Error.{Error}
use Rattle.sqlite.specs.declared.error.Error.TheVariants.{SqliteFailure}
use Rattle.sqlite.specs.declared.error.ErrorCode.TheVariants as code
use Rattle.mt_keeper_sql.specs.declared.files.Unopened.{Unopened}
use Rattle.mt_keeper_sql.specs.declared.files.Unopened.TheVariants.{Memory, Busy, Path, Damaged, Disk}

-- every other failure is one of the disk
abbrev pub unopened_by : Error → Unopened
unopened_by (SqliteFailure code.OutOfMemory) = Memory
unopened_by (SqliteFailure code.DatabaseBusy) = Busy
unopened_by (SqliteFailure code.CannotOpen) = Path
unopened_by (SqliteFailure code.NotADatabase) = Damaged
unopened_by (SqliteFailure code.DatabaseCorrupt) = Damaged
unopened_by _ = Disk
