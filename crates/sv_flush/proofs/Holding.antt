-- Views that are held, as they are lent and shown, and as instances come and go.
use Rattle.std.proofs.Common.{◌≡◌, ◌≢◌, ℕ, ◌≤◌, List, [], ◌∷◌, ◌++◌, length, Bool, true, false, cond, Option, Some, None, sym, ap, ◌∙◌, arith, ⊎_elim, ◌⊎◌, inl, inr}
use Rattle.std.specs.BTreeMap.{is_at, insert_entry}
use Rattle.std.specs.Map.{lookup, remove_entry}
use Rattle.std.specs.Ordering.{match_ordering, nat_cmp, is_eq}
use Rattle.std.specs.Prelude.{slice_set}
use Rattle.std.specs.declared.cmp.Ordering.{Ordering}
use Rattle.std.specs.declared.cmp.Ordering.TheVariants.{Less, Equal, Greater}
use Rattle.std.proofs.lemmas.Bool.{cases_eq, cases_lt}
use Rattle.std.proofs.lemmas.List.{get_or_append_left, get_or_past, get_or_push, get_or-set_same, get_or-set_other, length_push, set_past}
use Rattle.std.proofs.lemmas.Option.{none-some, same_Some}
use Rattle.sv_flush.specs.Lent.{IsShownOn, IsLent}
use Rattle.sv_numbered.specs.Numbered.{at}
use Rattle.sv_shapes.specs.declared.shown.Shown.{Shown}
use Rattle.sv_view.specs.Level.{View}

-- ---- views that were lent

pub lent-set : (lent : List (Option (Option View))) (n : ℕ) (x : Option (Option View)) (v : View) → IsLent (slice_set lent n x) v → IsLent lent v ⊎ (x ≡ Some (Some v))
lent-set lent n x v h = ⊎_elim
    (λ is. ⊎_elim
    (λ below. inr (sym (get_or-set_same lent n x None below) ∙ (sym (ap (at (slice_set lent n x)) is) ∙ h.there)))
    (λ past. inl (record { number = h.number; there = sym (ap (λ l. at l h.number) (set_past lent n x past)) ∙ h.there }))
    (cases_lt n (length lent)))
    (λ other. inl (record { number = h.number; there = sym (get_or-set_other lent n h.number x None other) ∙ h.there }))
    (cases_eq h.number n)

beyond : (lent : List (Option (Option View))) (x : Option (Option View)) (n : ℕ) → n ≢ length lent → length lent ≤ n → length (lent ++ x ∷ []) ≤ n
beyond lent x n other past = let e = length_push lent x in omega (arith, e, other, past)

pub lent-added : (lent : List (Option (Option View))) (x : Option (Option View)) (v : View) → IsLent (lent ++ x ∷ []) v → IsLent lent v ⊎ (x ≡ Some (Some v))
lent-added lent x v h = ⊎_elim
    (λ below. inl (record { number = h.number; there = sym (get_or_append_left lent (x ∷ []) None h.number below) ∙ h.there }))
    (λ past. ⊎_elim
    (λ is. inr (sym (get_or_push lent x None h.number (sym is)) ∙ h.there))
    (λ other. absurd (none-some (Some v) (sym (get_or_past (lent ++ x ∷ []) h.number None (beyond lent x h.number other past)) ∙ h.there)))
    (cases_eq h.number (length lent)))
    (cases_lt h.number (length lent))

-- ---- views on which something is shown

pub shown-left : (k : ℕ) (es : List (ℕ × Shown)) (v : View) → IsShownOn (remove_entry (is_at (nat_cmp k)) es) v → IsShownOn es v
shown-left k [] v h = h
shown-left k (e ∷ es) v h = by (shown-left k es v) (is_eq (nat_cmp k e.0)) h where
  by : (IsShownOn (remove_entry (is_at (nat_cmp k)) es) v → IsShownOn es v) → (b : Bool) → IsShownOn (cond b es (e ∷ remove_entry (is_at (nat_cmp k)) es)) v → IsShownOn (e ∷ es) v
  by rest true g = inr g
  by rest false g = ⊎_elim (λ here. inl here) (λ there. inr (rest there)) g

pub shown-put : (es : List (ℕ × Shown)) (k : ℕ) (x : Shown) (v : View) → IsShownOn (insert_entry nat_cmp es k x) v → IsShownOn es v ⊎ (x.view ≡ v)
shown-put [] k x v h = ⊎_elim (λ here. inr here) (λ none. absurd none) h
shown-put (e ∷ es) k x v h = by (shown-put es k x v) (nat_cmp k e.0) h where
  by : (IsShownOn (insert_entry nat_cmp es k x) v → IsShownOn es v ⊎ (x.view ≡ v)) → (r : Ordering) → IsShownOn (match_ordering r ((k, x) ∷ e ∷ es) ((e.0, x) ∷ es) (e ∷ insert_entry nat_cmp es k x)) v
      → IsShownOn (e ∷ es) v ⊎ (x.view ≡ v)
  by rest Less g = ⊎_elim (λ here. inr here) (λ there. inl there) g
  by rest Equal g = ⊎_elim (λ here. inr here) (λ there. inl (inr there)) g
  by rest Greater g = ⊎_elim (λ here. inl (inl here)) (λ there. ⊎_elim (λ old. inl (inr old)) (λ new. inr new) (rest there)) g

pub shown-found : (es : List (ℕ × Shown)) (k : ℕ) (x : Shown) → lookup (is_at (nat_cmp k)) es ≡ Some x → IsShownOn es x.view
shown-found [] k x is = absurd (none-some x is)
shown-found (e ∷ es) k x is = by (shown-found es k x) (is_eq (nat_cmp k e.0)) is where
  by : (lookup (is_at (nat_cmp k)) es ≡ Some x → IsShownOn es x.view) → (b : Bool) → cond b (Some e.1) (lookup (is_at (nat_cmp k)) es) ≡ Some x → IsShownOn (e ∷ es) x.view
  by rest true g = inl (ap (λ (s : Shown). s.view) (same_Some e.1 x g))
  by rest false g = inr (rest g)
