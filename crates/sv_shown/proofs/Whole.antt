-- Where instances stand, and that what is shown of them is true: each step of a flush keeps both.
use Rattle.std.proofs.Common.{◌∷◌, None, Some, inl, inr, refl, sym, subst}
use Rattle.sv_code.specs.Compiled.{IsCompiled}
use Rattle.sv_code.specs.declared.program.Program.{Program}
use Rattle.sv_course.proofs.Course.{Passes, Sets, Makes, Shows, Course}
use Rattle.sv_family.proofs.Course.{Fact, Leaves}
use Rattle.sv_family.proofs.Destroying.{KeepsSorted}
use Rattle.sv_family.proofs.Going.{childless}
use Rattle.sv_family.proofs.Owning.{slots_are_owned}
use Rattle.sv_family.proofs.Passing.{child-absent}
use Rattle.sv_family.proofs.Whole.{Whole, whole_leaves, whole_passes, whole_makes, whole_shows}
use Rattle.sv_family.specs.Kin.{with_lent}
use Rattle.sv_family.specs.Pending.{Pending}
use Rattle.sv_flush.specs.Creation.{cell_count}
use Rattle.sv_numbered.specs.Numbered.{altered}
use Rattle.sv_parts.specs.declared.state.Effect.TheVariants.{Create, Set, Destroy}
use Rattle.sv_shown.proofs.Leaving.{true_taken, true_gone}
use Rattle.sv_shown.proofs.Lending.{true_lends, lends_pass}
use Rattle.sv_shown.proofs.Making.{true_root, true_makes}
use Rattle.sv_shown.proofs.Passing.{true_next, true_done, true_ends, passes_no_view, passes_nobody, passes_dead, passes_spared}
use Rattle.sv_shown.proofs.Showing.{true_shows}
use Rattle.sv_shown.specs.True.{Modules, AreTrue}
use Rattle.sv_within.specs.Keys.{AreAllKeysSeen}

abbrev pub Shown : Program → Modules → Fact
Shown p ms pend new leaving ks s next = Whole p pend new leaving ks s next × AreTrue p ms pend ks s next

pub shown_sorted : (p : Program) (ms : Modules) → KeepsSorted (Shown p ms)
shown_sorted p ms pend new leaving ks s next h = h.0.0.children.sorted

module _ (p : Program) (ms : Modules) where
  shown_leaves : Leaves (Shown p ms)
  shown_leaves = let w = whole_leaves p in record {
    parents = λ pend new leaving ks s next h. w.parents pend new leaving ks s next h.0;
    child_of = λ pend leaving n place d ks s next before some there h. w.child_of pend leaving n place d ks s next before some there h.0;
    leaves = λ pend leaving q place n ks s next there parent going h. (w.leaves pend leaving q place n ks s next there parent going h.0, true_taken p ms pend ks s next place h.0.0.children.sorted h.1);
    destroyed_child = λ pend q place es n ks s next there h. w.destroyed_child pend q place es n ks s next there h.0;
    leaves_destroyed = λ pend q place es n ks s next there h.
        (w.leaves_destroyed pend q place es n ks s next there h.0, true_taken p ms ((q, es) ∷ pend) ks s next place h.0.0.children.sorted (true_done p ks s ms next pend q (Destroy place) es (λ hold lends. absurd lends) h.1));
    goes = λ pend leaving n ks s next before earlier none h.
        (w.goes pend leaving n ks s next before earlier none h.0, true_gone p pend (n ∷ leaving) n ks s next (childless p pend leaving n ks s next before earlier none h.0.0) h.0.0 ms h.1);
  }

  shown_passes : Passes p (Shown p ms)
  shown_passes = let w = whole_passes p in record {
    ends = λ pend q ks s next h. (w.ends pend q ks s next h.0, true_ends p ks s ms next pend q h.1);
    creates = λ pend q place t props view es ks s next none h.
        (w.creates pend q place t props view es ks s next none h.0, true_done p ks s ms next pend q (Create place t props view) es (λ hold lends. absurd lends) h.1);
    destroys = λ pend q place es ks s next none h. (
      w.destroys pend q place es ks s next none h.0,
      subst (λ t. AreTrue p ms ((q, es) ∷ pend) ks t next) (sym (child-absent s place none)) (true_done p ks s ms next pend q (Destroy place) es (λ hold lends. absurd lends) h.1),
    );
    ascend = λ pend new leaving ks s next h. w.ascend pend new leaving ks s next h.0;
  }

  shown_sets : Sets p (Shown p ms)
  shown_sets = let w = whole_passes p in let m = whole_makes p in record {
    no_view = λ pend q place props es ks s next h.
        (w.sets pend q place props None es ks s next h.0, true_done p ks s ms next pend q (Set place props None) es (passes_no_view p ks s place props) h.1);
    nobody = λ pend q place props view es ks s next none h.
        (w.sets pend q place props view es ks s next h.0, true_done p ks s ms next pend q (Set place props view) es (passes_nobody p ks s place props view none) h.1);
    dead = λ pend q place n props view es ks s next there none h.
        (w.sets pend q place props view es ks s next h.0, true_done p ks s ms next pend q (Set place props view) es (passes_dead p ks s place props view n there none) h.1);
    spares = λ pend q place n kin props view es ks s next there live spared h. (
      w.sets pend q place props (Some view) es ks s next h.0,
      true_done p ks s ms next pend q (Set place props (Some view)) es (passes_spared p ks s place props ms ((q, Set place props (Some view) ∷ es) ∷ pend) next (Some view) n kin there live spared h.1) h.1,
    );
    lends = λ pend q place n kin props view es ks s next there live takes h.
        let has = m.for_set pend q place props view es ks s next h.0 in
        let more : Pending = (q, Set place props (Some view) ∷ es) ∷ pend in (
          m.lends ((q, es) ∷ pend) None q place n kin view ks s next (inl refl) has there live takes (w.sets pend q place props (Some view) es ks s next h.0),
          true_next p (altered (with_lent view) ks n) s ms next pend q (Set place props (Some view)) es (lends_pass p ms more None q place n kin view ks s next has there live takes h.0.0 h.1 props)
              (true_lends p ms more None q place n kin view ks s next has there live takes h.0.0 h.1),
        );
  }

  shown_makes : IsCompiled p → Makes p (Shown p ms)
  shown_makes compiled = let m = whole_makes p in record {
    makes = λ pend q place t props view es ks s next tag c is_tag is_component deep h.
        let made = m.makes pend q place t props view es ks s next tag c is_tag is_component deep h.0 in
        ((made.0, true_makes p ms compiled.contents pend q place t props view es ks s next tag is_tag (cell_count c) h.0.0 h.1), made.1);
    roots = λ ks s next c is_component h. (m.roots ks s next c is_component h.0, true_root p ms ks s next (cell_count c) h.0.0 h.1);
    lends = λ pend q place n kin view ks s next has there live takes h. (
      m.lends pend (Some n) q place n kin view ks s next (inr refl) has there live takes h.0,
      true_lends p ms pend (Some n) q place n kin view ks s next has there live takes h.0.0 h.1,
    );
    spares = λ pend n kin ks s next live takes h. (m.spares pend n kin ks s next live takes h.0, h.1);
  }

  shown_shows : IsCompiled p → AreAllKeysSeen p → Shows p ms (Shown p ms)
  shown_shows compiled keys = let w = whole_shows p (slots_are_owned p compiled.contents compiled) in record {
    shows = λ pend n kin view ks s counters tally after live now is_now before e h.
        let whole = w.shows pend n kin view ks s counters tally after live now before e h.0 in
        (whole, true_shows p ms compiled keys pend n kin view ks s counters tally after live now is_now before e h.0 h.1 whole);
  }

  pub shown_course : IsCompiled p → AreAllKeysSeen p → Course p ms (Shown p ms)
  shown_course compiled keys = record { leaves = shown_leaves; passes = shown_passes; sets = shown_sets; makes = shown_makes compiled; shows = shown_shows compiled keys }
