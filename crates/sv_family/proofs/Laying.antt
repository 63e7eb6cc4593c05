-- A state that a user leaves in an element changes nothing of where instances stand.
use Rattle.std.proofs.Common.{◌≡◌, ◌⊎◌, ℕ, ◌+◌, ◌≤◌, List, [], Option, Some, None, refl, sym, ap, subst, ◌∙◌, ⊎_elim}
use Rattle.std.proofs.lemmas.Bool.{cases_eq}
use Rattle.std.proofs.lemmas.Option.{none-some, same_Some}
use Rattle.sv_code.specs.Names.{Each}
use Rattle.sv_code.specs.declared.fragments.Frag.{Frag}
use Rattle.sv_code.specs.declared.program.Program.{Program}
use Rattle.sv_family.proofs.Entries.{sorted_put}
use Rattle.sv_family.specs.Family.{Family, IsShown, IsFilled, AreFilled, ArePlaces, HoldIsKept, holds_in, markup_in, load, kid, due}
use Rattle.sv_family.specs.Kin.{Kins, tags_in}
use Rattle.sv_places.proofs.Blind.{fits-laid}
use Rattle.sv_places.proofs.Lookups.{found-put, found-put_other}
use Rattle.sv_places.proofs.Typing.{places-laid}
use Rattle.sv_places.specs.Fits.{fits_all}
use Rattle.sv_places.specs.Keeping.{parts_of}
use Rattle.sv_places.specs.Numbers.{count, given}
use Rattle.sv_plan.specs.Patch.{old_parts}
use Rattle.sv_shapes.specs.Places.{places_all}
use Rattle.sv_shapes.specs.Showing.{Showing, shown_of, recorded, laid_in, laid_on}
use Rattle.sv_shapes.specs.Typed.{laid_all}
use Rattle.sv_shapes.specs.declared.shown.Shown.{Shown}
use Rattle.sv_stands.proofs.Markup.{all_stands}
use Rattle.sv_stands.specs.Holds.{holds}
use Rattle.sv_tokens.specs.declared.element.Typed.{Typed}
use Rattle.sv_view.specs.Level.{View}

module _ (p : Program) (s : Showing) (n mark : ℕ) (typed : Typed) (x : Shown) (is : shown_of s n ≡ Some x) where
  abbrev after : Showing
  after = recorded s n x.view (laid_all mark typed x.parts)

  -- what is shown of an instance differs in states that users left alone
  record Like (y z : Shown) : Type 0 where
    view : y.view ≡ z.view
    fits : (tags : List (Option ℕ)) (frags : List Frag) → fits_all p tags frags y.parts ≡ fits_all p tags frags z.parts
    held : (tags : List (Option ℕ)) (frags : List Frag) (v : View) → holds p tags frags v y.parts ≡ holds p tags frags v z.parts
    places : places_all y.parts ≡ places_all z.parts

  like_same : (y : Shown) → Like y y
  like_same y = record { view = refl; fits = λ tags frags. refl; held = λ tags frags v. refl; places = refl }

  like_laid : Like (record { view = x.view; parts = laid_all mark typed x.parts }) x
  like_laid = record {
    view = refl;
    fits = λ tags frags. fits-laid mark typed p tags frags x.parts;
    held = λ tags frags v. (all_stands p tags frags).same mark typed v x.parts;
    places = places-laid mark typed x.parts;
  }

  record Was (q : ℕ) (y : Shown) : Type 0 where
    old : Shown
    there : shown_of s q ≡ Some old
    like : Like y old

  was : (q : ℕ) (y : Shown) → shown_of after q ≡ Some y → Was q y
  was q y e = ⊎_elim
      (λ here. record {
        old = x;
        there = ap (shown_of s) here ∙ is;
        like = subst (λ z. Like z x) (same_Some _ y (sym (found-put s.shown n (record { view = x.view; parts = laid_all mark typed x.parts })) ∙ (sym (ap (shown_of after) here) ∙ e))) like_laid;
      })
      (λ other. record { old = y; there = sym (found-put_other s.shown n _ q other) ∙ e; like = like_same y })
      (cases_eq q n)

  same_places : (q : ℕ) → places_all (parts_of after q) ≡ places_all (parts_of s q)
  same_places q = ⊎_elim
      (λ here. subst (λ k. places_all (parts_of after k) ≡ places_all (parts_of s k)) (sym here)
      (ap (λ o. places_all (old_parts o)) (found-put s.shown n (record { view = x.view; parts = laid_all mark typed x.parts })) ∙ (places-laid mark typed x.parts ∙ sym (ap (λ o. places_all (old_parts o)) is))))
      (λ other. ap (λ o. places_all (old_parts o)) (found-put_other s.shown n _ q other))
      (cases_eq q n)

  module _ (ks : Kins) (next : ℕ) (h : Family p [] None [] ks s next) where
    shown_laid : (q : ℕ) (y : Shown) → Was q y → IsShown p ks q y
    shown_laid q y w =
        let k = h.shown q w.old w.there in
        subst (λ v. IsShown p ks q (record { view = v; parts = y.parts })) (sym w.like.view) (record {
          kin = k.kin;
          live = k.live;
          around = k.around;
          owners = k.owners;
          tags = k.tags;
          fits = w.like.fits (tags_in ks w.old.view) (markup_in p ks q) ∙ k.fits;
        })

    same_load : (q place : ℕ) → load [] after q place ≡ load [] s q place
    same_load q place = ap (λ ps. count place ps + 0) (same_places q)

    places_laid : ArePlaces [] ks after next
    places_laid = record {
      once = λ q place. subst (λ l. l ≤ given 0 next place) (sym (same_load q place)) (h.places.once q place);
      apart = λ q r place ne. subst (λ l. l + load [] after r place ≤ given 0 next place) (sym (same_load q place)) (subst (λ l. load [] s q place + l ≤ given 0 next place) (sym (same_load r place)) (h.places.apart q r place ne));
      kids = λ q place. subst (λ l. kid ks s q place + due [] q place ≤ l) (sym (same_load q place)) (h.places.kids q place);
      due = λ q place. subst (λ ps. due [] q place ≤ count place ps) (sym (same_places q)) (h.places.due q place);
    }

    held_laid : (q : ℕ) (y : Shown) (w : Was q y) → holds_in p ks q y ≡ holds_in p ks q w.old
    held_laid q y w =
        w.like.held (tags_in ks y.view) (markup_in p ks q) y.view ∙ ap (λ v. holds p (tags_in ks v) (markup_in p ks q) v w.old.parts) w.like.view

    pub recorded_laid : Family p [] None [] ks after next
    recorded_laid = record {
      parents = h.parents;
      cells = h.cells;
      lent = record { above = h.lent.above; owners = h.lent.owners; there = h.lent.there; unseen = λ q e. absurd (none-some q e) };
      sorted = sorted_put s.shown n _ h.sorted;
      shown = λ q y e. shown_laid q y (was q y e);
      places = places_laid;
      children = record { sorted = h.children.sorted; parent = h.children.parent; once = h.children.once; left = h.children.left; stand = h.children.stand };
      kept = λ q y e. let w = was q y e in subst (λ hs. Each (HoldIsKept ks after) hs) (sym (held_laid q y w)) (h.kept q w.old w.there);
      pending = record { ascend = tt; made = tt; for = tt; shown = tt };
    }

    filled_recorded : AreFilled p [] [] ks s → AreFilled p [] [] ks after
    filled_recorded filled q y e = let w = was q y e in subst (λ hs. ⊥ ⊎ Each (IsFilled p s []) hs) (sym (held_laid q y w)) (filled q w.old w.there)

-- so it is wherever a state is laid down
pub family_lays : (p : Program) (ks : Kins) (s : Showing) (next n mark : ℕ) (typed : Typed) → Family p [] None [] ks s next → Family p [] None [] ks (laid_on s n mark typed) next
family_lays p ks s next n mark typed h = by (shown_of s n) refl where
  by : (o : Option Shown) → shown_of s n ≡ o → Family p [] None [] ks (laid_in s n mark typed o) next
  by None e = h
  by (Some x) e = recorded_laid p s n mark typed x e ks next h

pub filled_lays : (p : Program) (ks : Kins) (s : Showing) (next n mark : ℕ) (typed : Typed) → Family p [] None [] ks s next → AreFilled p [] [] ks s → AreFilled p [] [] ks (laid_on s n mark typed)
filled_lays p ks s next n mark typed h filled = by (shown_of s n) refl where
  by : (o : Option Shown) → shown_of s n ≡ o → AreFilled p [] [] ks (laid_in s n mark typed o)
  by None e = filled
  by (Some x) e = filled_recorded p s n mark typed x e ks next h filled
