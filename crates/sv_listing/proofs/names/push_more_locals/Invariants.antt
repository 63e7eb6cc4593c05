use Rattle.std.proofs.Common.{◌≡◌, ◌++◌, map, drop}
use Rattle.std.specs.String.{string_bytes}
use Rattle.sv_listing.specs.Names.{name_text, behind_commas}
use Rattle.sv_listing.proofs.names.push_more_locals.Given as goal

abbrev pub invariant-loop-local : goal.invariant-loop-local
invariant-loop-local l = string_bytes l.fn.text ++ behind_commas (map (name_text l.names) l.locals) ≡ string_bytes l.text ++ behind_commas (map (name_text l.names) (drop l.local-index l.locals))
