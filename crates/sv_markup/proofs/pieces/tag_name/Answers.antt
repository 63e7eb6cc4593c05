use Rattle.std.proofs.Common.{◌-◌, sym, subst, take, drop, length}
use Rattle.std.specs.Str.{IsUtf8}
use Rattle.sv_tags.specs.declared.classes.Class.TheVariants.{TagRest}
use Rattle.sv_tags.proofs.Names.{front_utf8}
use Rattle.sv_markup.proofs.pieces.tag_name.Goals as goal

pub unreachable-requires : goal.unreachable-requires
unreachable-requires c =
    let z = c.args.z.now in
    let name = front_utf8 TagRest (take (length z - 1) (drop 1 z)) in
    c.in-Err.ensures.cases.0 (subst (λ n. IsUtf8 (take n (take (length z - 1) (drop 1 z)))) (sym c.front_len.ensures.value) name)
