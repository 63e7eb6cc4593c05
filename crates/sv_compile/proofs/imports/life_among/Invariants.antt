use Rattle.std.proofs.Common.{◌≡◌, map}
use Rattle.sv_compile.specs.Constants.{life_among}
use Rattle.sv_compile.proofs.imports.life_among.Given as goal

abbrev pub invariant-loop-text : goal.invariant-loop-text
invariant-loop-text l =
    life_among l.names (map (λ text. text.now) l.texts) l.lives l.name ≡ life_among l.names (map (λ text. text.now) l.text-iterator.a.rest.now) l.text-iterator.b.rest.now l.name
