use Rattle.std.proofs.Common.{◌≡◌, ◌++◌, map, drop}
use Rattle.std.specs.String.{string_bytes}
use Rattle.std.specs.List.{flat_map}
use Rattle.sv_listing.specs.Listing.{part_line}
use Rattle.sv_listing.proofs.rows.push_parts.Given as goal

abbrev pub invariant-loop-part : goal.invariant-loop-part
invariant-loop-part l = string_bytes l.fn.text ++ flat_map (part_line l.names l.cells l.lines) (map (λ part. part.now) l.parts) ≡ string_bytes l.text ++ flat_map (part_line l.names l.cells l.lines) (map (λ part. part.now) (drop l.part-index l.parts))
