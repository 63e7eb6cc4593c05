-- An instance is shown on a later view: all that is shown stays true.
use Rattle.std.proofs.Common.{◌≡◌, ℕ, ◌<◌, nat_eq, [], ◌∷◌, map, Option, Some, None, Ok, refl, sym, subst, ◌∙◌, ⊎_elim, inl, inr, if◌then◌else◌, arith}
use Rattle.std.proofs.lemmas.Option.{same_Some}
use Rattle.sv_code.proofs.Each.{each_mono}
use Rattle.sv_code.specs.Compiled.{IsCompiled}
use Rattle.sv_code.specs.Names.{Each}
use Rattle.sv_code.specs.declared.program.Program.{Program}
use Rattle.sv_course.specs.Watched.{view_cells, IsNow}
use Rattle.sv_family.proofs.Whole.{Whole}
use Rattle.sv_family.specs.Family.{holds_in, markup_in}
use Rattle.sv_family.specs.Kin.{Kin, Kins, tags_in, insts_now}
use Rattle.sv_family.specs.Pending.{Pending, AreBefore, pending_of}
use Rattle.sv_numbered.specs.Numbered.{at}
use Rattle.sv_parts.specs.declared.counters.Counters.{Counters}
use Rattle.sv_parts.specs.declared.tally.Tally.{Tally}
use Rattle.sv_plan.specs.Patch.{After, patched}
use Rattle.sv_right.specs.Given.{versions_all}
use Rattle.sv_right.specs.Later.{AreOwnersLater}
use Rattle.sv_shapes.specs.Showing.{Showing}
use Rattle.sv_shapes.specs.declared.shown.Shown.{Shown}
use Rattle.sv_shown.proofs.Later.{owners_same}
use Rattle.sv_shown.proofs.Patch.{IsPatch, by_shown, more, plan, right_now, same_child}
use Rattle.sv_shown.proofs.Patching.{held_now}
use Rattle.sv_shown.specs.Chains.{IsChain}
use Rattle.sv_shown.specs.True.{Modules, IsRight, IsBehind, IsHeld, ChildIsHeld, AreTrue}
use Rattle.sv_stands.proofs.Lending.{any_back}
use Rattle.sv_stands.specs.Holds.{Hold}
use Rattle.sv_stands.specs.Lent.{Lends}
use Rattle.sv_view.specs.Level.{View}
use Rattle.sv_view.specs.View.{insts, levels_of}
use Rattle.sv_within.specs.Keys.{AreAllKeysSeen}

module _ (p : Program) (ms : Modules) (pend : Pending) (n : ℕ) (kin : Kin) (view : View) (ks : Kins) (s : Showing) (counters : Counters) (tally : Tally) (after : After)
    (h : IsPatch p ms pend n kin view ks s counters tally after) where
  abbrev all_pending : Pending
  all_pending = (n, after.effects) ∷ pend

  abbrev last : Shown
  last = record { view = view; parts = (plan p ms pend n kin view ks s counters tally after h).parts }

  -- ---- what is right

  chain_now : (o : Option View) → kin.lent ≡ o → IsChain ks (n ∷ map (λ l. l.inst) (levels_of o))
  chain_now None is = (tt, tt)
  chain_now (Some v) is = (h.was.lent n kin v h.live is).chain

  right_here : IsRight p ms ks after.counters.next n last
  right_here = record {
    stands = right_now p ms pend n kin view ks s counters tally after h;
    inst = h.now.inst;
    locals = h.now.locals;
    modules = h.now.modules;
    chain = subst (IsChain ks) (sym h.around) (chain_now kin.lent refl);
  }

  -- numbers stay below the next one
  right_there : (q : ℕ) (x : Shown) → IsRight p ms ks counters.next q x → IsRight p ms ks after.counters.next q x
  right_there q x k = record {
    stands = record {
      right = k.stands.right;
      below = each_mono (λ m. m < counters.next) (λ m. m < after.counters.next) (λ m lt. omega (arith, lt, more p ms pend n kin view ks s counters tally after h)) (versions_all x.parts) k.stands.below;
    };
    inst = k.inst;
    locals = k.locals;
    modules = k.modules;
    chain = k.chain;
  }

  behind_here : (k : Kin) → at ks n ≡ Some k → IsBehind p ks ms k last
  behind_here k there =
      subst (λ (z : Kin). IsBehind p ks ms z last) (same_Some kin k (sym h.live ∙ there))
      (subst (λ ls. AreOwnersLater (view_cells p ks) ms ms view.owners ls) h.now.owners (owners_same (view_cells p ks) ms view.owners))

  -- ---- children of the others

  lends_later : (q : ℕ) (hold : Hold) (c : ℕ) (k : Kin) → IsHeld p pend ks q hold c k → IsHeld p all_pending ks q hold c k
  lends_later q hold c k held = record {
    owner = held.owner;
    followed = λ v lent. let f = held.followed v lent in record {
      later = f.later;
      agrees = ⊎_elim (λ lends. inl (any_back (Lends hold) (if nat_eq n q then after.effects else []) (pending_of pend q) lends)) (λ agrees. inr agrees) f.agrees;
    };
  }

  held_there : (q : ℕ) (x : Shown) → Each (ChildIsHeld p pend ks s q) (holds_in p ks q x) → Each (ChildIsHeld p all_pending ks after.showing q) (holds_in p ks q x)
  held_there q x all =
      each_mono (ChildIsHeld p pend ks s q) (ChildIsHeld p all_pending ks after.showing q)
      (λ hold held c k there live. lends_later q hold c k (held c k (sym (same_child p ms pend n kin view ks s counters tally after h hold.place) ∙ there) live)) (holds_in p ks q x) all

  left_true : AreTrue p ms all_pending ks after.showing after.counters.next
  left_true = record {
    standing = h.was.standing;
    right = by_shown p ms pend n kin view ks s counters tally after h (IsRight p ms ks after.counters.next) right_here (λ q x is. right_there q x (h.was.right q x is));
    behind = λ q k x live is. by_shown p ms pend n kin view ks s counters tally after h (λ m y. (z : Kin) → at ks m ≡ Some z → IsBehind p ks ms z y) behind_here (λ m y there z alive. h.was.behind m z y alive there) q x is k live;
    lent = h.was.lent;
    held = by_shown p ms pend n kin view ks s counters tally after h (λ q x. Each (ChildIsHeld p all_pending ks after.showing q) (holds_in p ks q x)) (held_now p ms pend n kin view ks s counters tally after h)
        (λ q x is. held_there q x (h.was.held q x is));
  }

-- all stays true when an instance is shown on a later view
pub true_shows : (p : Program) (ms : Modules) → IsCompiled p → AreAllKeysSeen p → (pend : Pending) (n : ℕ) (kin : Kin) (view : View) (ks : Kins) (s : Showing) (counters : Counters) (tally : Tally) (after : After) →
    at ks n ≡ Some kin → insts view ≡ insts_now n kin → IsNow p ms ks s n kin view → AreBefore n pend → patched p (tags_in ks view) n (markup_in p ks n) view s counters tally ≡ Ok after →
    Whole p pend None [] ks s counters.next → AreTrue p ms pend ks s counters.next → Whole p ((n, after.effects) ∷ pend) None [] ks after.showing after.counters.next →
    AreTrue p ms ((n, after.effects) ∷ pend) ks after.showing after.counters.next
true_shows p ms compiled keys pend n kin view ks s counters tally after live around now before e whole was left =
    left_true p ms pend n kin view ks s counters tally after
    (record { compiled = compiled; keys = keys; live = live; around = around; now = now; before = before; patch = e; whole = whole; was = was; left = left })
