-- What a family keeps as instances are made and lent views.
use Rattle.sv_code.specs.declared.program.Program.{Program}
use Rattle.sv_family.proofs.Course.{Makes}
use Rattle.sv_family.proofs.Holding.{create_hold, set_hold}
use Rattle.sv_family.proofs.Lending.{lent_family, spared}
use Rattle.sv_family.proofs.Making.{made_family, made_hold}
use Rattle.sv_family.proofs.Rooting.{root_family}
use Rattle.sv_family.specs.Family.{Family}

pub family_makes : (p : Program) → Makes p (λ pend new leaving ks s next. Family p pend new leaving ks s next)
family_makes p = record {
  for_create = λ pend q place t props view es ks s next f. create_hold p pend q place props es ks s t view f.pending;
  for_set = λ pend q place props view es ks s next f. set_hold p pend q place props es ks s view f.pending;
  makes = λ pend q place t props view es ks s next tag c is_tag is_component deep f.
      (made_family p pend q place t props view es ks s next tag c is_component deep f, made_hold p pend q place t props view es ks s next tag c is_component deep f);
  roots = λ ks s next c is_component f. root_family p ks s next c is_component f;
  lends = λ pend new q place n kin view ks s next fresh has is live takes f. lent_family p pend new q place n kin view ks s next fresh has is live takes f;
  spares = λ pend n kin ks s next live takes f. spared p pend n kin ks s next live takes f;
}
