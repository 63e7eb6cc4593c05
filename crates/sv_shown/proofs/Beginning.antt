-- Nobody has the number 0, whatever a flush does.
use Rattle.std.proofs.Common.{◌≡◌, ℕ, zero, suc, [], ◌∷◌, Option, Some, None, refl}
use Rattle.std.specs.Prelude.{slice_set}
use Rattle.sv_code.specs.Compiled.{IsCompiled}
use Rattle.sv_code.specs.declared.program.Program.{Program}
use Rattle.sv_family.proofs.Blank.{family_blank, filled_blank}
use Rattle.sv_family.proofs.Course.{Fact, Leaves, Passes, Makes, Shows, Course, child_place, root_place, with_born}
use Rattle.sv_family.proofs.Numbering.{numbers_blank}
use Rattle.sv_family.proofs.Owning.{slots_are_owned}
use Rattle.sv_family.proofs.Playing.{On, mounted_keeps, flushed_keeps}
use Rattle.sv_family.proofs.Whole.{Whole, whole_course}
use Rattle.sv_family.specs.Kin.{Kin, Kins, with_lent}
use Rattle.sv_flush.proofs.Bringing.{Brings}
use Rattle.sv_flush.specs.Creation.{cell_count, mounted}
use Rattle.sv_flush.specs.Flush.{flushed}
use Rattle.sv_flush.specs.Page.{begun, blank}
use Rattle.sv_flush.specs.declared.page.Page.{Page}
use Rattle.sv_instance.specs.Standing.{Place}
use Rattle.sv_numbered.specs.Numbered.{at, altered, altered_over}
use Rattle.sv_view.specs.Level.{View}

abbrev pub BeginWithNobody : Kins → Type 0
BeginWithNobody [] = ⊥
BeginWithNobody (None ∷ ks) = Unit {0}
BeginWithNobody (Some kin ∷ ks) = ⊥

pub nobody_there : (ks : Kins) → BeginWithNobody ks → at ks 0 ≡ None
nobody_there [] h = absurd h
nobody_there (None ∷ ks) h = refl
nobody_there (Some kin ∷ ks) h = absurd h

born_begin : (ks : Kins) (place : Place) (cells : ℕ) → BeginWithNobody ks → BeginWithNobody (with_born ks place cells)
born_begin [] place cells h = absurd h
born_begin (None ∷ ks) place cells h = tt
born_begin (Some kin ∷ ks) place cells h = absurd h

gone_begin : (ks : Kins) (n : ℕ) → BeginWithNobody ks → BeginWithNobody (slice_set ks n None)
gone_begin [] n h = absurd h
gone_begin (None ∷ ks) zero h = tt
gone_begin (None ∷ ks) (suc n) h = tt
gone_begin (Some kin ∷ ks) n h = absurd h

altered_begin : (f : Kin → Kin) (ks : Kins) (n : ℕ) (o : Option Kin) → BeginWithNobody (altered_over f o (None ∷ ks) (suc n))
altered_begin f ks n None = tt
altered_begin f ks n (Some kin) = tt

lent_begin : (ks : Kins) (n : ℕ) (view : View) → BeginWithNobody ks → BeginWithNobody (altered (with_lent view) ks n)
lent_begin [] n view h = absurd h
lent_begin (None ∷ ks) zero view h = tt
lent_begin (None ∷ ks) (suc n) view h = altered_begin (with_lent view) ks n (at (None ∷ ks) (suc n))
lent_begin (Some kin ∷ ks) n view h = absurd h

-- and instances stand as they should
abbrev pub Begun : Program → Fact
Begun p pend new leaving ks s next = Whole p pend new leaving ks s next × BeginWithNobody ks

module _ (p : Program) (whole : Course p (Whole p)) where
  begun_leaves : Leaves (Begun p)
  begun_leaves = let f = whole.leaves in record {
    parents = λ pend new leaving ks s next h. f.parents pend new leaving ks s next h.0;
    child_of = λ pend leaving n place d ks s next before some there h. f.child_of pend leaving n place d ks s next before some there h.0;
    leaves = λ pend leaving q place n ks s next there parent going h. (f.leaves pend leaving q place n ks s next there parent going h.0, h.1);
    destroyed_child = λ pend q place es n ks s next there h. f.destroyed_child pend q place es n ks s next there h.0;
    leaves_destroyed = λ pend q place es n ks s next there h. (f.leaves_destroyed pend q place es n ks s next there h.0, h.1);
    goes = λ pend leaving n ks s next before earlier none h. (f.goes pend leaving n ks s next before earlier none h.0, gone_begin ks n h.1);
  }

  begun_passes : Passes p (Begun p)
  begun_passes = let f = whole.passes in record {
    ends = λ pend q ks s next h. (f.ends pend q ks s next h.0, h.1);
    sets = λ pend q place props view es ks s next h. (f.sets pend q place props view es ks s next h.0, h.1);
    creates = λ pend q place t props view es ks s next none h. (f.creates pend q place t props view es ks s next none h.0, h.1);
    destroys = λ pend q place es ks s next none h. (f.destroys pend q place es ks s next none h.0, h.1);
    ascend = λ pend new leaving ks s next h. f.ascend pend new leaving ks s next h.0;
  }

  begun_makes : Makes p (Begun p)
  begun_makes = let f = whole.makes in record {
    for_create = λ pend q place t props view es ks s next h. f.for_create pend q place t props view es ks s next h.0;
    for_set = λ pend q place props view es ks s next h. f.for_set pend q place props view es ks s next h.0;
    makes = λ pend q place t props view es ks s next tag c is_tag is_component deep h.
        let made = f.makes pend q place t props view es ks s next tag c is_tag is_component deep h.0 in
        ((made.0, born_begin ks (child_place ks tag q t view) (cell_count c) h.1), made.1);
    roots = λ ks s next c is_component h. (f.roots ks s next c is_component h.0, born_begin ks root_place (cell_count c) h.1);
    lends = λ pend new q place n kin view ks s next fresh has is live takes h. (f.lends pend new q place n kin view ks s next fresh has is live takes h.0, lent_begin ks n view h.1);
    spares = λ pend n kin ks s next live takes h. (f.spares pend n kin ks s next live takes h.0, h.1);
  }

  begun_shows : Shows p (Begun p)
  begun_shows = record { shows = λ pend n kin view ks s counters tally after live now before e h. (whole.shows.shows pend n kin view ks s counters tally after live now before e h.0, h.1) }

  begun_course : Course p (Begun p)
  begun_course = record { leaves = begun_leaves; passes = begun_passes; makes = begun_makes; shows = begun_shows }

-- so it is on a page between turns
abbrev pub Begins : Program → Page → Type 0
Begins p m = On (Begun p) [] None [] m

module _ (p : Program) (compiled : IsCompiled p) where
  course : Course p (Begun p)
  course = begun_course p (whole_course p (slots_are_owned p compiled.contents compiled))

  pub mounted_begins : Brings (Begins p) (Begins p) (mounted p)
  mounted_begins = mounted_keeps p (Begun p) course (λ pend new leaving ks s next h. h.0.0.children.sorted)

  pub flushed_begins : Brings (Begins p) (Begins p) (flushed p)
  flushed_begins = flushed_keeps p (Begun p) course (λ pend new leaving ks s next h. h.0.0.children.sorted)

pub blank_begins : (p : Program) → Begins p (begun blank)
blank_begins p = ((family_blank p blank.counters.next, numbers_blank blank.counters.next, filled_blank p), tt)
