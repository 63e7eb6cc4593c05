-- Where instances stand, that numbers stand once, and that tags have their children: each step of a flush keeps all three.
use Rattle.std.proofs.Common.{ℕ, [], ◌∷◌, length, None, refl}
use Rattle.sv_code.specs.declared.program.Program.{Program}
use Rattle.sv_family.proofs.Course.{Fact, Leaves, Passes, Makes, Shows, Course, with_born, child_place, root_place}
use Rattle.sv_family.proofs.Filled.{filled_shows}
use Rattle.sv_family.proofs.Filling.{filled_ends, filled_sets, filled_creates, filled_destroys, filled_leaves, filled_leaves_destroyed, filled_goes, filled_stays, filled_makes}
use Rattle.sv_family.proofs.Born.{born_stay}
use Rattle.sv_family.proofs.Lending.{lent_stay}
use Rattle.sv_family.proofs.Leaving.{family_leaves}
use Rattle.sv_family.proofs.Makes.{family_makes}
use Rattle.sv_family.proofs.Numbering.{numbers_same, numbers_gone, numbers_patched}
use Rattle.sv_family.proofs.Passing.{family_passes}
use Rattle.sv_family.proofs.Showing.{family_shows}
use Rattle.sv_family.specs.Family.{Family, AreFilled}
use Rattle.sv_family.specs.Numbers.{AreNumbers}
use Rattle.sv_family.specs.Owners.{SlotsAreOwned}
use Rattle.sv_family.specs.Kin.{with_lent}
use Rattle.sv_flush.specs.Creation.{cell_count}
use Rattle.sv_numbered.specs.Numbered.{altered}
use Rattle.sv_parts.specs.declared.state.Effect.TheVariants.{Create}
use Rattle.sv_shapes.specs.Showing.{Showing, with_child, without_child}

abbrev pub Whole : Program → Fact
Whole p pend new leaving ks s next = Family p pend new leaving ks s next × AreNumbers s next × AreFilled p pend leaving ks s

-- children stand apart from what is shown
without : (s : Showing) (place next : ℕ) → AreNumbers s next → AreNumbers (without_child s place) next
without s place next h = numbers_same s (without_child s place) next (λ q. refl) h

with_one : (s : Showing) (place n next : ℕ) → AreNumbers s next → AreNumbers (with_child s place n) next
with_one s place n next h = numbers_same s (with_child s place n) next (λ q. refl) h

module _ (p : Program) where
  pub whole_leaves : Leaves (Whole p)
  whole_leaves = let f = family_leaves p in record {
    parents = λ pend new leaving ks s next h. f.parents pend new leaving ks s next h.0;
    child_of = λ pend leaving n place d ks s next before some there h. f.child_of pend leaving n place d ks s next before some there h.0;
    leaves = λ pend leaving q place n ks s next there parent going h.
        (f.leaves pend leaving q place n ks s next there parent going h.0, without s place next h.1, filled_leaves p pend leaving q place n ks s next there parent going h.0 h.2);
    destroyed_child = λ pend q place es n ks s next there h. f.destroyed_child pend q place es n ks s next there h.0;
    leaves_destroyed = λ pend q place es n ks s next there h. (f.leaves_destroyed pend q place es n ks s next there h.0, without s place next h.1, filled_leaves_destroyed p pend q place es n ks s next h.0 h.2);
    goes = λ pend leaving n ks s next before earlier none h. (f.goes pend leaving n ks s next before earlier none h.0, numbers_gone s n next h.0.sorted h.1, filled_goes p pend leaving n ks s next before earlier none h.0 h.2);
  }

  pub whole_passes : Passes p (Whole p)
  whole_passes = let f = family_passes p in record {
    ends = λ pend q ks s next h. (f.ends pend q ks s next h.0, h.1, filled_ends p pend q ks s h.2);
    sets = λ pend q place props view es ks s next h. (f.sets pend q place props view es ks s next h.0, h.1, filled_sets p pend q place props view es ks s h.2);
    creates = λ pend q place t props view es ks s next none h. (f.creates pend q place t props view es ks s next none h.0, h.1, filled_creates p pend q place t props view es ks s none h.2);
    destroys = λ pend q place es ks s next none h. (f.destroys pend q place es ks s next none h.0, without s place next h.1, filled_destroys p pend q place es ks s none h.2);
    ascend = λ pend new leaving ks s next h. f.ascend pend new leaving ks s next h.0;
  }

  pub whole_makes : Makes p (Whole p)
  whole_makes = let f = family_makes p in record {
    for_create = λ pend q place t props view es ks s next h. f.for_create pend q place t props view es ks s next h.0;
    for_set = λ pend q place props view es ks s next h. f.for_set pend q place props view es ks s next h.0;
    makes = λ pend q place t props view es ks s next tag c is_tag is_component deep h.
        let made = f.makes pend q place t props view es ks s next tag c is_tag is_component deep h.0 in
        let stand = child_place ks tag q t view in
        let stays = filled_stays p ((q, Create place t props view ∷ es) ∷ pend) None [] ks (with_born ks stand (cell_count c)) s next (born_stay ks stand (cell_count c)) h.0 h.2 in
        ((made.0, with_one s place _ next h.1, filled_makes p pend q place t props view es (length ks) (with_born ks stand (cell_count c)) s stays), made.1);
    roots = λ ks s next c is_component h. (f.roots ks s next c is_component h.0, h.1, filled_stays p [] None [] ks (with_born ks root_place (cell_count c)) s next (born_stay ks root_place (cell_count c)) h.0 h.2);
    lends = λ pend new q place n kin view ks s next fresh has is live takes h.
        let stay = lent_stay p pend new q place n kin view ks s next fresh has is live takes h.0 in
        (f.lends pend new q place n kin view ks s next fresh has is live takes h.0, h.1, filled_stays p pend new [] ks (altered (with_lent view) ks n) s next stay h.0 h.2);
    spares = λ pend n kin ks s next live takes h. (f.spares pend n kin ks s next live takes h.0, h.1, h.2);
  }

  pub whole_shows : SlotsAreOwned p → Shows p (Whole p)
  whole_shows owned = record {
    shows = λ pend n kin view ks s counters tally after live now before e h. (
      (family_shows p owned).shows pend n kin view ks s counters tally after live now before e h.0,
      numbers_patched p pend ks n kin live view now s counters h.0 tally after e h.1,
      filled_shows p pend ks n kin live view now s counters before h.0 h.2 tally after e,
    );
  }

  pub whole_course : SlotsAreOwned p → Course p (Whole p)
  whole_course owned = record { leaves = whole_leaves; passes = whole_passes; makes = whole_makes; shows = whole_shows owned }
