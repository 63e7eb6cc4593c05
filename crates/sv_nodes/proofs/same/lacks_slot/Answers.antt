use Rattle.std.proofs.Common.{◌≡◌, ◌<◌, ◌≤◌, ◌⊎◌, inl, inr, length, arith, sym, true}
use Rattle.std.specs.Prelude.{nat_eq}
use Rattle.std.proofs.lemmas.Bool.{cases_lt, eq-eqb, eqb-true}
use Rattle.sv_tokens.specs.Edit.{drop_slot}
use Rattle.sv_nodes.proofs.Attributes.{none-dropped, dropped-less}
use Rattle.sv_nodes.proofs.same.lacks_slot.Goals as goal

pub returns : goal.returns
returns c =
    let xs = c.args.attributes.now in
    let n = c.place_of_slot.result in (
      λ same. (let e : n ≡ length xs = eqb-true n (length xs) same in sym (none-dropped c.args.slot xs n c.place_of_slot.ensures.count (omega (arith, e)))),
      λ same. past same (cases_lt n (length xs)),
    )
  where
    past : drop_slot c.args.slot c.args.attributes.now ≡ c.args.attributes.now → (c.place_of_slot.result < length c.args.attributes.now) ⊎ (length c.args.attributes.now ≤ c.place_of_slot.result)
        → nat_eq c.place_of_slot.result (length c.args.attributes.now) ≡ true
    past same (inl inside) = absurd (dropped-less c.args.slot c.args.attributes.now c.place_of_slot.result c.place_of_slot.ensures.count inside same)
    past same (inr late) = eq-eqb c.place_of_slot.result (length c.args.attributes.now) (omega (arith, late, c.place_of_slot.ensures.bound))
