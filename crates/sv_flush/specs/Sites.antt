-- Sites and new instances as definitions see them.
use Rattle.std.specs.Prelude.{ℕ, Option, option_map, Result, Ok, Err}
use Rattle.sv_flush.specs.Creation as spec
use Rattle.sv_flush.specs.declared.site.Site.{Site}
use Rattle.sv_instance.specs.Place.{standing_of}
use Rattle.sv_parts.specs.declared.refusal.PatchError.{PatchError}
use Rattle.sv_value.specs.declared.value.Inst.{Inst}
use Rattle.sv_view.specs.View.{inst_number}

abbrev pub site_seen : Site → spec.Site
site_seen s = record { file = s.file; parent = option_map inst_number s.parent; standing = option_map standing_of s.standing; span = s.span }

-- what was made, by its number
abbrev pub made_seen : Result (Option Inst) PatchError → Result (Option ℕ) PatchError
made_seen (Ok made) = Ok (option_map inst_number made)
made_seen (Err e) = Err e
