-- Instances by their numbers alone.
use Rattle.sv_instance.specs.Standing as seen
use Rattle.sv_instance.specs.declared.place.Standing.{Standing}
pub use Rattle.sv_view.specs.View.{inst_number}

abbrev pub standing_of : Standing → seen.Standing
standing_of s = record { tag = s.tag; owner = s.owner.number }
