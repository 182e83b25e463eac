-- The two forms of a transaction's own writes.
use Rattle.row_sets.specs.Overlay.{Written}
use Rattle.row_sets.specs.declared.overlay.Writes.{Writes}
use Rattle.row_sets.specs.declared.overlay.Writes.TheVariants.{Few, Many}

abbrev pub written_in : Writes → Written
written_in (Few own) = own
written_in (Many own) = own
