-- An instance that is made with no parent: the root.
use Rattle.std.proofs.Common.{◌≡◌, ⊎_elim, ℕ, [], None, Some, is_some, refl, sym, ap, subst, ◌∙◌, arith}
use Rattle.std.proofs.lemmas.Option.{none-some}
use Rattle.sv_code.proofs.Each.{each_mono}
use Rattle.sv_code.specs.Names.{Each}
use Rattle.sv_code.specs.declared.program.Component.{Component}
use Rattle.sv_code.specs.declared.program.Program.{Program}
use Rattle.sv_family.proofs.Born.{MayStand, at_other, live_other, born_stay, which_parent, born_parents, born_cells, born_lent, born_shown, born_kept, born_kid}
use Rattle.sv_family.proofs.Course.{with_born, root_place}
use Rattle.sv_family.proofs.Staying.{child_live, parent_stays, shown_holds}
use Rattle.sv_family.specs.Family.{Family, ArePlaces, AreChildren, AreKept, HoldIsKept, holds_in}
use Rattle.sv_family.specs.Kin.{Kins}
use Rattle.sv_flush.specs.Creation.{cell_count}
use Rattle.sv_meaning.specs.Components.{component_at}
use Rattle.sv_shapes.specs.Showing.{Showing}
use Rattle.sv_stands.specs.Holds.{Hold}

module _ (p : Program) (ks : Kins) (s : Showing) (next : ℕ) (c : Component) (is_component : component_at p 0 ≡ Some c) (f : Family p [] None [] ks s next) where
  abbrev cells : ℕ
  cells = cell_count c

  abbrev later : Kins
  later = with_born ks root_place cells

  may : MayStand ks root_place
  may = record { live = λ q e. absurd (none-some q e); deeper = λ q e. absurd (none-some q e); shallow = omega (arith); tagged = λ k e. absurd (none-some k e) }

  root_places : ArePlaces [] later s next
  root_places = record { once = f.places.once; apart = f.places.apart; kids = λ r n. let e = born_kid ks root_place cells [] s f.children r n in let k = f.places.kids r n in omega (arith, e, k); due = f.places.due }

  root_children : AreChildren [] later s
  root_children = record {
    sorted = f.children.sorted;
    parent = λ n m e. ap is_some (parent_stays ks later (born_stay ks root_place cells) m (child_live [] ks s f.children n m e)) ∙ f.children.parent n m e;
    once = f.children.once;
    left = f.children.left;
    stand = λ n r e. ⊎_elim (λ old. f.children.stand n r old) (λ new. absurd (none-some r new.1)) (which_parent ks root_place cells n r e);
  }

  one_kept : (h : Hold) → HoldIsKept ks s h → HoldIsKept later s h
  one_kept h kept n kin e live =
      let before = sym (at_other ks root_place cells n (live_other ks root_place cells n (child_live [] ks s f.children h.place n e))) ∙ live in
      born_kept ks root_place cells p s f.parents f.shown f.lent h n kin before (kept n kin e before)

  root_kept : AreKept p later s
  root_kept n x is =
      subst (λ z. Each (HoldIsKept later s) z) (sym (shown_holds ks later (born_stay ks root_place cells) f.parents p n x (f.shown n x is)))
      (each_mono (HoldIsKept ks s) (HoldIsKept later s) one_kept (holds_in p ks n x) (f.kept n x is))

  pub root_family : Family p [] None [] later s next
  root_family = record {
    parents = born_parents ks root_place cells f.parents may;
    cells = born_cells ks root_place cells p c is_component refl f.cells;
    lent = born_lent ks root_place cells p s f.parents f.shown f.lent None (λ e. absurd (cc)) (λ n e. absurd (none-some n e));
    sorted = f.sorted;
    shown = born_shown ks root_place cells p s f.parents f.shown f.lent;
    places = root_places;
    children = root_children;
    kept = root_kept;
    pending = record { ascend = tt; made = tt; for = tt; shown = tt };
  }
