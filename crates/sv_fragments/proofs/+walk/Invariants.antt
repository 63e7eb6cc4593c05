use Rattle.std.proofs.Common.{◌≡◌, map, drop}
use Rattle.sv_names.specs.Locals.{names_of}
use Rattle.sv_fragments.specs.Around.{seen}
use Rattle.sv_fragments.specs.Content.{piece}
use Rattle.sv_fragments.specs.Frags.{arm}
use Rattle.sv_lower.specs.Does.{each}
use Rattle.sv_fragments.specs.Pieces.{made}
use Rattle.sv_lower.proofs.Loops.{ahead}
use Rattle.sv_fragments.proofs.+walk.Given as goal

abbrev pub «invariant-markup::make_kept-loop-piece» : goal.«invariant-markup::make_kept-loop-piece»
«invariant-markup::make_kept-loop-piece» l =
    each (map (piece l.scope.names.now) (map (made l.nodes) l.kept)) (seen l.around) (names_of l.scope.outer.now) l.fn.tables
    ≡ ahead l.fragments (each (map (piece l.scope.names.now) (map (made l.nodes) (drop l.piece-index l.kept))) (seen l.around) (names_of l.scope.outer.now) l.tables)

abbrev pub «invariant-markup::make_arms-loop-of» : goal.«invariant-markup::make_arms-loop-of»
«invariant-markup::make_arms-loop-of» l =
    each (map arm l.list) (seen l.around) (names_of l.locals) l.fn.tables ≡ ahead l.arms (each (map arm (drop l.of-index l.list)) (seen l.around) (names_of l.locals) l.tables)
