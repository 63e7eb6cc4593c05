-- The first patch of an instance: its children are still to be made.
use Rattle.std.proofs.Common.{◌≡◌, ◌≢◌, ⊎_elim, ℕ, ◌≤◌, List, [], ◌∷◌, ◌++◌, Option, Some, None, Ok, Err, refl, sym, ap, subst, ◌∙◌, if◌then◌else◌}
use Rattle.std.proofs.lemmas.Bool.{cases_eq, eq-eqb}
use Rattle.std.proofs.lemmas.List.{append-nil}
use Rattle.std.proofs.lemmas.Option.{none-some, same_Some}
use Rattle.sv_code.proofs.Each.{each_mono}
use Rattle.sv_code.specs.Names.{Each}
use Rattle.sv_code.specs.declared.fragments.Frag.{Frag}
use Rattle.sv_code.specs.declared.program.Program.{Program}
use Rattle.sv_family.proofs.Going.{pending-none}
use Rattle.sv_family.proofs.Held.{none_yet}
use Rattle.sv_family.proofs.Patching.{Records, patch_records, made_at}
use Rattle.sv_family.proofs.Whole.{Whole, whole_course}
use Rattle.sv_family.specs.Family.{markup_in, holds_in, due}
use Rattle.sv_family.specs.Kin.{Kin, Kins, tags_in, insts_now}
use Rattle.sv_family.specs.Owners.{SlotsAreOwned}
use Rattle.sv_family.specs.Pending.{Pending, AreBefore, pending_of}
use Rattle.sv_first.proofs.Facts.{IsOn, HoldIsLent, AreOn, First}
use Rattle.sv_flush.proofs.Handing.{Hands, HandsView}
use Rattle.sv_numbered.specs.Numbered.{at}
use Rattle.sv_parts.specs.State.{Outcome}
use Rattle.sv_parts.specs.declared.counters.Counters.{Counters}
use Rattle.sv_parts.specs.declared.state.Effect.{Effect}
use Rattle.sv_parts.specs.declared.state.Effect.TheVariants.{Create, Set, Destroy}
use Rattle.sv_parts.specs.declared.tally.Tally.{Tally}
use Rattle.sv_places.proofs.Lookups.{found-put, found-put_other}
use Rattle.sv_places.specs.Keeping.{created_at, parts_of}
use Rattle.sv_places.specs.Numbers.{count}
use Rattle.sv_plan.specs.Patch.{After, begun, ended, old_parts, patched, planned}
use Rattle.sv_seen.proofs.Plans.{Bears, plan-bears}
use Rattle.sv_shapes.specs.Showing.{Showing, shown_of, child_at, recorded}
use Rattle.sv_shapes.specs.declared.shape.Shape.{Shape}
use Rattle.sv_shapes.specs.declared.shown.Shown.{Shown}
use Rattle.sv_stands.proofs.Patches.{patch_makes}
use Rattle.sv_stands.specs.Holds.{Hold, holds}
use Rattle.sv_stands.specs.Lent.{IsMade}
use Rattle.sv_view.specs.Level.{View}
use Rattle.sv_view.specs.View.{insts, levels_of}

-- ---- effects

-- a child is made
abbrev pub IsBirth : Effect → Type 0
IsBirth = Bears (λ v. Unit {0})

-- any view will do
any-view : (o : Option View) → HandsView (λ v. Unit {0}) o
any-view None = tt
any-view (Some v) = tt

any-hands : (e : Effect) → Hands (λ v. Unit {0}) e
any-hands (Create place k props view) = tt
any-hands (Set place props view) = any-view view
any-hands (Destroy place) = tt

all-hands : (es : List Effect) → Each (Hands (λ v. Unit {0})) es
all-hands [] = tt
all-hands (e ∷ es) = (any-hands e, all-hands es)

module _ (p : Program) (tags : List (Option ℕ)) (n : ℕ) (markup : List Frag) (view : View) (s : Showing) (counters : Counters) (tally : Tally) (after : After) where
  births_end : (o : Outcome (List Shape)) → planned p tags markup None view (begun counters tally) ≡ o → ended s n view o ≡ Ok after → Each IsBirth after.effects
  unfolding planned
  births_end (Ok x) is e =
      let same : record { effects = x.1.effects; kept = x.1.kept; showing = recorded s n view x.0; counters = x.1.counters; tally = x.1.tally } ≡ after = cc in
      subst (Each IsBirth) (ap (λ (a : After). a.effects) same)
      (plan-bears (λ v. Unit {0}) p tags markup (record { old = view; new = view }) counters tally x.0 x.1 is (all-hands x.1.effects))
  births_end (Err r) is e = absurd (cc)

  births_of : (o : Option Shown) → o ≡ None → ended s n view (planned p tags markup o view (begun counters tally)) ≡ Ok after → Each IsBirth after.effects
  births_of None none e = births_end _ refl e
  births_of (Some x) none e = absurd (none-some x (sym none))

  -- what wasn't shown has children to be made, and nothing else is to be done
  pub births : shown_of s n ≡ None → patched p tags n markup view s counters tally ≡ Ok after → Each IsBirth after.effects
  unfolding patched
  births unseen e = births_of (shown_of s n) unseen e

-- ---- what is shown

module _ (p : Program) (owned : SlotsAreOwned p) (pend : Pending) (n : ℕ) (kin : Kin) (view : View) (ks : Kins) (s : Showing) (counters : Counters) (tally : Tally) (after : After)
    (live : at ks n ≡ Some kin) (now : insts view ≡ insts_now n kin) (before : AreBefore n pend) (unseen : shown_of s n ≡ None)
    (inst : view.own.inst ≡ n) (locals : view.own.locals ≡ []) (owners : view.owners ≡ levels_of kin.lent)
    (e : patched p (tags_in ks view) n (markup_in p ks n) view s counters tally ≡ Ok after) (h : First p pend None [] ks s counters.next) where
  abbrev all_pending : Pending
  all_pending = (n, after.effects) ∷ pend

  whole : Whole p all_pending None [] ks after.showing after.counters.next
  whole = (whole_course p owned).shows.shows pend n kin view ks s counters tally after live now before e h.0

  due_here : pending_of all_pending n ≡ after.effects
  due_here = ap (λ b. (if b then after.effects else []) ++ pending_of pend n) (eq-eqb n n refl) ∙ (ap (λ es. after.effects ++ es) (pending-none pend n before) ∙ append-nil after.effects)

  -- where a child is still to be made, nobody was lent anything
  made_lent : (g : Hold) → IsMade after.effects g → HoldIsLent ks after.showing g
  made_lent g made m k v there is lent = absurd (none-some m (sym (none_yet all_pending ks after.showing after.counters.next whole.0.places [] whole.0.children n g.place due_one) ∙ there)) where
    due_one : 1 ≤ due all_pending n g.place
    due_one = subst (λ es. 1 ≤ count g.place (created_at es)) (sym due_here) (made_at g after.effects made)

  news : Each (HoldIsLent ks after.showing) (holds p (tags_in ks view) (markup_in p ks n) view (parts_of after.showing n))
  news = each_mono (IsMade after.effects) (HoldIsLent ks after.showing) made_lent _ (patch_makes p (tags_in ks view) n (markup_in p ks n) view s counters tally after unseen e).made

  module _ (r : Records s n view after) where
    abbrev last : Shown
    last = record { view = view; parts = r.parts }

    here : shown_of after.showing n ≡ Some last
    here = ap (λ t. shown_of t n) r.is ∙ found-put s.shown n last

    others : (q : ℕ) → q ≢ n → shown_of after.showing q ≡ shown_of s q
    others q other = ap (λ t. shown_of t q) r.is ∙ found-put_other s.shown n last q other

    same_child : (a : ℕ) → child_at after.showing a ≡ child_at s a
    same_child a = ap (λ t. child_at t a) r.is

    last_on : IsOn ks n last
    last_on = record { kin = kin; live = live; inst = inst; locals = locals; owners = owners }

    last_lent : Each (HoldIsLent ks after.showing) (holds_in p ks n last)
    last_lent = subst (λ parts. Each (HoldIsLent ks after.showing) (holds p (tags_in ks view) (markup_in p ks n) view parts)) (ap old_parts here) news

    stays : (g : Hold) → HoldIsLent ks s g → HoldIsLent ks after.showing g
    stays g k m kin' v there = k m kin' v (sym (same_child g.place) ∙ there)

    on_after : (q : ℕ) (x : Shown) → shown_of after.showing q ≡ Some x → IsOn ks q x
    on_after q x is = ⊎_elim
        (λ same. subst (λ k. IsOn ks k x) (sym same) (subst (IsOn ks n) (same_Some last x (sym here ∙ (ap (shown_of after.showing) (sym same) ∙ is))) last_on))
        (λ other. h.1.on q x (sym (others q other) ∙ is))
        (cases_eq q n)

    lent_after : (q : ℕ) (x : Shown) → shown_of after.showing q ≡ Some x → Each (HoldIsLent ks after.showing) (holds_in p ks q x)
    lent_after q x is = ⊎_elim
        (λ same. subst (λ k. Each (HoldIsLent ks after.showing) (holds_in p ks k x)) (sym same)
        (subst (λ y. Each (HoldIsLent ks after.showing) (holds_in p ks n y)) (same_Some last x (sym here ∙ (ap (shown_of after.showing) (sym same) ∙ is))) last_lent))
        (λ other. each_mono (HoldIsLent ks s) (HoldIsLent ks after.showing) stays (holds_in p ks q x) (h.1.lent q x (sym (others q other) ∙ is)))
        (cases_eq q n)

    all_on : AreOn p ks after.showing
    all_on = record { some = h.1.some; nobody = h.1.nobody; on = on_after; lent = lent_after }

  pub first_shows : First p all_pending None [] ks after.showing after.counters.next × Each IsBirth after.effects
  first_shows = (
    (whole, all_on (patch_records p (tags_in ks view) n (markup_in p ks n) view s counters tally after e)),
    births p (tags_in ks view) n (markup_in p ks n) view s counters tally after unseen e,
  )
