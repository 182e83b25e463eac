-- A read with its rows, as what a run keeps of it.
use Rattle.proc_run.specs.declared.asked.Got.{Got}
use Rattle.rel_base.specs.declared.access.Made.{Made}

-- the same read and the same rows
abbrev pub as_made : Got → Made
as_made got = record { read = got.read; rows = got.rows }
