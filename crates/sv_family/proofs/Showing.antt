-- An instance is shown on its present view: what its patch leaves.
use Rattle.std.proofs.Common.{◌≡◌, ◌≢◌, ◌⊎◌, ⊎_elim, inr, ℕ, ◌+◌, ◌≤◌, true, List, [], ◌∷◌, ◌++◌, map, Option, Some, None, Ok, refl, sym, ap, subst, ◌∙◌, is_some, if◌then◌else◌, arith}
use Rattle.std.proofs.lemmas.Bool.{cases_eq, eq-eqb, ne_eqb}
use Rattle.std.proofs.lemmas.List.{append-nil}
use Rattle.std.proofs.lemmas.Option.{none-some, same_Some}
use Rattle.sv_code.specs.Names.{Each}
use Rattle.sv_code.specs.declared.fragments.Frag.{Frag}
use Rattle.sv_code.specs.declared.program.Program.{Program}
use Rattle.sv_family.proofs.Course.{Shows}
use Rattle.sv_family.proofs.Entries.{sorted_put}
use Rattle.sv_family.proofs.Going.{pending-none}
use Rattle.sv_family.proofs.Patching.{Records, patch_records, given_later, bare_place, all_made_kept, all_lent_kept}
use Rattle.sv_family.proofs.Shown.{shown_now}
use Rattle.sv_family.specs.Family.{Family, IsShown, ArePlaces, AreChildren, HoldIsKept, AreKept, ArePending, markup_in, holds_in, load, due}
use Rattle.sv_family.specs.Family as family
use Rattle.sv_family.specs.Kin.{Kin, Kins, tag_at, tags_in, tags_now, insts_now}
use Rattle.sv_family.specs.Owners.{SlotsAreOwned}
use Rattle.sv_family.specs.Pending.{Pending, AreBefore, pending_of}
use Rattle.sv_numbered.specs.Numbered.{at}
use Rattle.sv_parts.specs.declared.counters.Counters.{Counters}
use Rattle.sv_parts.specs.declared.state.Effect.{Effect}
use Rattle.sv_parts.specs.declared.state.Kept.{Kept}
use Rattle.sv_parts.specs.declared.tally.Tally.{Tally}
use Rattle.sv_places.proofs.Lookups.{found-put, found-put_other}
use Rattle.sv_places.proofs.Patches.{plan-walks, patch-keeps}
use Rattle.sv_places.specs.Fits.{Fits}
use Rattle.sv_places.specs.Keeping.{Keeps, Patches, created_at, destroyed_at, parts_of}
use Rattle.sv_places.specs.Numbers.{count, given}
use Rattle.sv_plan.specs.Patch.{After, old_view, old_parts, patched}
use Rattle.sv_shapes.specs.Places.{places_all}
use Rattle.sv_shapes.specs.Showing.{Showing, shown_of, child_at, recorded}
use Rattle.sv_shapes.specs.declared.shape.Shape.{Shape}
use Rattle.sv_shapes.specs.declared.shown.Shown.{Shown}
use Rattle.sv_stands.proofs.Patches.{patch_lends, patch_makes}
use Rattle.sv_stands.specs.Holds.{Hold, holds}
use Rattle.sv_stands.specs.Lent.{IsFor}
use Rattle.sv_states.proofs.Altering.{at_within}
use Rattle.sv_view.specs.Level.{View}
use Rattle.sv_view.specs.View.{insts}

module _ (p : Program) (pend : Pending) (ks : Kins) (n : ℕ) (kin : Kin) (live : at ks n ≡ Some kin) (view : View) (now : insts view ≡ insts_now n kin) (s : Showing) where
  abbrev tags : List (Option ℕ)
  tags = tags_in ks view

  abbrev markup : List Frag
  markup = markup_in p ks n

  abbrev shown_on : List Shape → Shown
  shown_on parts = record { view = view; parts = parts }

  -- what a patch does, from one next number to another
  record Step (effects : List Effect) (parts : List Shape) (next to : ℕ) : Type 0 where
    fits : Fits p tags markup parts
    stays : List Kept
    keeps : Keeps (places_all (parts_of s n)) (places_all parts) effects stays
    more : next ≤ to
    created : (place : ℕ) → count place (created_at effects) ≤ given next to place
    kept : Each (HoldIsKept ks s) (holds p tags markup view parts)
    for : Each (IsFor (holds p tags markup view parts)) effects

  -- ---- each patch does so

  module _ (counters : Counters) (h : Family p pend None [] ks s counters.next) where
    -- the tags of the view on which it was shown before are those of its present view
    pub same_tags : (x : Shown) → shown_of s n ≡ Some x → tags_in ks x.view ≡ tags
    same_tags x e = let i = h.shown n x e in i.tags ∙ (ap (tags_now ks n) (same_Some i.kin kin (sym i.live ∙ live)) ∙ sym (ap (map (tag_at ks)) now))

    pub fit_before : (o : Option Shown) → shown_of s n ≡ o → Fits p tags markup (old_parts o)
    fit_before None e = (plan-walks 0 p tags markup).empty
    fit_before (Some x) e = subst (λ ts. Fits p ts markup x.parts) (same_tags x e) (h.shown n x e).fits

    kept_before : (o : Option Shown) → shown_of s n ≡ o → (x : Shown) → o ≡ Some x → Each (HoldIsKept ks s) (holds p tags markup (old_view o view) (old_parts o))
    kept_before None e x is = absurd (none-some x is)
    kept_before (Some y) e x is = subst (λ ts. Each (HoldIsKept ks s) (holds p ts markup y.view y.parts)) (same_tags y e) (h.kept n y e)

    module _ (tally : Tally) (after : After) (e : patched p tags n markup view s counters tally ≡ Ok after) where
      pub patches : Patches p tags n markup s counters.next after
      patches = patch-keeps p tags n markup view s counters tally after (fit_before (shown_of s n) refl) e

      bare : (place c : ℕ) → 1 ≤ count place (created_at after.effects) → child_at s place ≡ Some c → ⊥
      bare place c some there = bare_place ks s pend [] counters.next after.counters.next place c patches.gives.next h.places h.children (omega (arith, some, patches.gives.created place)) there

      abbrev news : List Hold
      news = holds p tags markup view (parts_of after.showing n)

      holds_are : (o : Option Shown) → shown_of s n ≡ o → Each (HoldIsKept ks s) news × Each (IsFor news) after.effects
      holds_are None is =
          let made = patch_makes p tags n markup view s counters tally after is e in
          (all_made_kept ks s after.effects bare news made.made, made.effects_for)
      holds_are (Some x) is =
          let lent = patch_lends p tags n markup view s counters tally after (fit_before (shown_of s n) refl) e in
          (all_lent_kept ks s after.effects bare p after.kept (holds p tags markup (old_view (shown_of s n) view) (parts_of s n)) news (kept_before (shown_of s n) refl x is) lent.lent, lent.effects_for)

      step_to : (parts : List Shape) → parts_of after.showing n ≡ parts → Step after.effects parts counters.next after.counters.next
      step_to parts same = record {
        fits = subst (Fits p tags markup) same patches.fits;
        stays = after.kept;
        keeps = subst (λ xs. Keeps (places_all (parts_of s n)) (places_all xs) after.effects after.kept) same patches.keeps;
        more = patches.gives.next;
        created = patches.gives.created;
        kept = subst (λ xs. Each (HoldIsKept ks s) (holds p tags markup view xs)) same (holds_are (shown_of s n) refl).0;
        for = subst (λ xs. Each (IsFor (holds p tags markup view xs)) after.effects) same (holds_are (shown_of s n) refl).1;
      }

      step_of : (r : Records s n view after) → Step after.effects r.parts counters.next after.counters.next
      step_of r = step_to r.parts (ap (λ t. parts_of t n) r.is ∙ ap old_parts (found-put s.shown n (shown_on r.parts)))

  -- ---- what it leaves

  module _ (effects : List Effect) (parts : List Shape) (next to : ℕ) (step : Step effects parts next to) (before : AreBefore n pend) (h : Family p pend None [] ks s next) where
    abbrev left : Showing
    left = recorded s n view parts

    abbrev all_pending : Pending
    all_pending = (n, effects) ∷ pend

    here : shown_of left n ≡ Some (shown_on parts)
    here = found-put s.shown n (shown_on parts)

    others : (q : ℕ) → q ≢ n → shown_of left q ≡ shown_of s q
    others q other = found-put_other s.shown n (shown_on parts) q other

    -- a fact of each instance, by what is shown of it
    by_shown : (Q : ℕ → Option Shown → Type 0) → Q n (Some (shown_on parts)) → ((q : ℕ) → Q q (shown_of s q)) → (q : ℕ) → Q q (shown_of left q)
    by_shown Q a b q = ⊎_elim
        (λ same. subst (λ m. Q m (shown_of left m)) (sym same) (subst (Q n) (sym here) a))
        (λ other. subst (Q q) (sym (others q other)) (b q))
        (cases_eq q n)

    -- and of effects that were to run before
    of_others : (Q : ℕ × List Effect → Option Shown → Type 0) (es : Pending) → AreBefore n es → Each (λ e. Q e (shown_of s e.0)) es → Each (λ e. Q e (shown_of left e.0)) es
    of_others Q [] older all = tt
    of_others Q (e ∷ es) older all = (subst (Q e) (sym (others e.0 (λ same. omega (arith, same, older.0)))) all.0, of_others Q es older.1 all.1)

    -- ---- places

    none_due : pending_of pend n ≡ []
    none_due = pending-none pend n before

    due_here : pending_of all_pending n ≡ effects
    due_here = ap (λ b. (if b then effects else []) ++ pending_of pend n) (eq-eqb n n refl) ∙ (ap (λ es. effects ++ es) none_due ∙ append-nil effects)

    due_other : (q : ℕ) → q ≢ n → pending_of all_pending q ≡ pending_of pend q
    due_other q other = ap (λ b. (if b then effects else []) ++ pending_of pend q) (ne_eqb n q (λ same. other (sym same)))

    parts_here : parts_of left n ≡ parts
    parts_here = ap old_parts here

    -- what is shown or is to be left grows by what is made
    grows : (place q : ℕ) → load all_pending left q place + due pend q place ≡ load pend s q place + due all_pending q place
    grows place q = ⊎_elim (λ same. subst (λ m. load all_pending left m place + due pend m place ≡ load pend s m place + due all_pending m place) (sym same) at_here) (λ other. at_other other) (cases_eq q n)
      where
        at_here : load all_pending left n place + due pend n place ≡ load pend s n place + due all_pending n place
        at_here = omega (
          arith,
          step.keeps.lost place,
          ap (λ xs. count place (places_all xs)) parts_here,
          ap (λ es. count place (destroyed_at es)) due_here,
          ap (λ es. count place (created_at es)) due_here,
          ap (λ es. count place (destroyed_at es)) none_due,
          ap (λ es. count place (created_at es)) none_due,
        )

        at_other : q ≢ n → load all_pending left q place + due pend q place ≡ load pend s q place + due all_pending q place
        at_other other = omega (arith, ap (λ o. count place (places_all (old_parts o))) (others q other), ap (λ es. count place (destroyed_at es)) (due_other q other), ap (λ es. count place (created_at es)) (due_other q other))

    -- what is made is given now
    makes : (place q : ℕ) → due all_pending q place ≤ due pend q place + given next to place
    makes place q = ⊎_elim (λ same. subst (λ m. due all_pending m place ≤ due pend m place + given next to place) (sym same) at_here) (λ other. omega (arith, ap (λ es. count place (created_at es)) (due_other q other))) (cases_eq q n)
      where
        at_here : due all_pending n place ≤ due pend n place + given next to place
        at_here = omega (arith, step.created place, ap (λ es. count place (created_at es)) due_here)

    -- to one instance alone
    makes_one : (place q r : ℕ) → q ≢ r → due all_pending q place + due all_pending r place ≤ due pend q place + due pend r place + given next to place
    makes_one place q r apart = ⊎_elim
        (λ same. omega (arith, makes place q, ap (λ es. count place (created_at es)) (due_other r (λ alike. apart (same ∙ sym alike)))))
        (λ other. omega (arith, makes place r, ap (λ es. count place (created_at es)) (due_other q other)))
        (cases_eq q n)

    due_shown : (place q : ℕ) → due all_pending q place ≤ count place (places_all (parts_of left q))
    due_shown place q = ⊎_elim
        (λ same. subst (λ m. due all_pending m place ≤ count place (places_all (parts_of left m))) (sym same) at_here)
        (λ other. omega (arith, h.places.due q place, ap (λ o. count place (places_all (old_parts o))) (others q other), ap (λ es. count place (created_at es)) (due_other q other)))
        (cases_eq q n)
      where
        at_here : due all_pending n place ≤ count place (places_all (parts_of left n))
        at_here = omega (arith, step.keeps.there place, ap (λ xs. count place (places_all xs)) parts_here, ap (λ es. count place (created_at es)) due_here)

    places_left : ArePlaces all_pending ks left to
    places_left = record {
      once = λ q place. omega (arith, grows place q, makes place q, h.places.once q place, given_later next to place step.more);
      apart = λ q r place other. omega (arith, grows place q, grows place r, makes_one place q r other, h.places.apart q r place other, given_later next to place step.more);
      kids = λ q place. omega (arith, grows place q, h.places.kids q place);
      due = λ q place. due_shown place q;
    }

    -- ---- the others

    children_left : AreChildren [] ks left
    children_left = record { sorted = h.children.sorted; parent = h.children.parent; once = h.children.once; left = h.children.left; stand = h.children.stand }

    kept_left : AreKept p ks left
    kept_left = by_shown (λ q o. (x : Shown) → o ≡ Some x → Each (HoldIsKept ks s) (holds_in p ks q x)) (λ x e. subst (λ y. Each (HoldIsKept ks s) (holds_in p ks n y)) (same_Some (shown_on parts) x e) step.kept) h.kept

    pending_left : ArePending p all_pending ks left
    pending_left = record {
      ascend = (before, h.pending.ascend);
      made = (at_within ks n kin live, h.pending.made);
      for = (
        λ x e. subst (λ y. Each (IsFor (holds_in p ks n y)) effects) (same_Some (shown_on parts) x (sym here ∙ e)) step.for,
        of_others (λ e o. (x : Shown) → o ≡ Some x → Each (IsFor (holds_in p ks e.0 x)) e.1) pend before h.pending.for,
      );
      shown = (inr (ap is_some here), of_others (λ e o. e.1 ≡ [] ⊎ (is_some o ≡ true)) pend before h.pending.shown);
    }

    lent_left : family.AreLent p None ks left
    lent_left = record { above = h.lent.above; owners = h.lent.owners; there = h.lent.there; unseen = λ m e. absurd (none-some m e) }

    family_left : SlotsAreOwned p → Family p all_pending None [] ks left to
    family_left owned = record {
      parents = h.parents;
      cells = h.cells;
      lent = lent_left;
      sorted = sorted_put s.shown n (shown_on parts) h.sorted;
      shown = by_shown (λ q o. (x : Shown) → o ≡ Some x → IsShown p ks q x)
          (λ x e. subst (IsShown p ks n) (same_Some (shown_on parts) x e) (shown_now p owned ks h.cells n kin live s h.parents h.lent view parts now step.fits)) h.shown;
      places = places_left;
      children = children_left;
      kept = kept_left;
      pending = pending_left;
    }

-- an instance that is shown on its present view leaves the family as it should be
pub family_shows : (p : Program) → SlotsAreOwned p → Shows p (λ pend new leaving ks s next. Family p pend new leaving ks s next)
family_shows p owned = record { shows = shows }
  where
    shows : (pend : Pending) (n : ℕ) (kin : Kin) (view : View) (ks : Kins) (s : Showing) (counters : Counters) (tally : Tally) (after : After) → at ks n ≡ Some kin → insts view ≡ insts_now n kin →
        AreBefore n pend → patched p (tags_in ks view) n (markup_in p ks n) view s counters tally ≡ Ok after → Family p pend None [] ks s counters.next →
        Family p ((n, after.effects) ∷ pend) None [] ks after.showing after.counters.next
    shows pend n kin view ks s counters tally after live now before e h =
        let r = patch_records p (tags_in ks view) n (markup_in p ks n) view s counters tally after e in
        subst (λ t. Family p ((n, after.effects) ∷ pend) None [] ks t after.counters.next) (sym r.is)
        (family_left p pend ks n kin live view now s after.effects r.parts counters.next after.counters.next (step_of p pend ks n kin live view now s counters h tally after e r) before h owned)
