-- Records, as instances come, go, and are shown.
use Rattle.std.proofs.Common.{◌≡◌, ◌≢◌, ℕ, ◌<◌, ◌≤◌, List, [], ◌∷◌, ◌++◌, length, Option, Some, None, is_some, true, sym, ap, subst, ◌∙◌, arith, ⊎_elim}
use Rattle.std.specs.BTreeMap.{is_at, insert_entry}
use Rattle.std.specs.List.{All}
use Rattle.std.specs.Map.{lookup, remove_entry, keys_of}
use Rattle.std.specs.Ordering.{nat_cmp}
use Rattle.std.specs.Prelude.{slice_set}
use Rattle.std.proofs.lemmas.Bool.{cases_eq, cases_lt}
use Rattle.std.proofs.lemmas.List.{get_or_append_left, get_or_past, get_or-set_same, get_or-set_other, length-set, length_push, set_past}
use Rattle.std.proofs.lemmas.Map.Views.{All-keys-insert_entry, All-map-remove_entry}
use Rattle.std.proofs.lemmas.Option.{none-some, same_Some}
use Rattle.sv_code.proofs.Compiled.{all_mono}
use Rattle.sv_places.proofs.Lookups.{found-put, found-put_other, found-left, found-all}
use Rattle.sv_flush.specs.Records.{IsRecorded, Records, nobody}
use Rattle.sv_frame.specs.Snapshots.{Snapshot}
use Rattle.sv_numbered.specs.Numbered.{at}
use Rattle.sv_shapes.specs.declared.shown.Shown.{Shown}
use Rattle.sv_view.specs.Level.{View}

-- so it is but for one instance
pub record RecordsBut (n : ℕ) (saw : List (Option Snapshot)) (shown : List (ℕ × Shown)) : Type 0 where
  pub made : All (λ k. k < length saw) (keys_of shown)
  pub whole : (k : ℕ) (s : Snapshot) → k ≢ n → at saw k ≡ Some s → is_some (lookup (is_at (nat_cmp k)) shown) ≡ true
  pub seen : (k : ℕ) → k ≢ n → (s : Snapshot) (x : Shown) → at saw k ≡ Some s → lookup (is_at (nat_cmp k)) shown ≡ Some x → IsRecorded s x

past-last : (saw : List (Option Snapshot)) (y : Option Snapshot) (n : ℕ) → n ≢ length saw → length saw ≤ n → length (saw ++ y ∷ []) ≤ n
past-last saw y n other past = let e = length_push saw y in omega (arith, e, other, past)

pub longer : (saw : List (Option Snapshot)) (y : Option Snapshot) (k : ℕ) → k < length saw → k < length (saw ++ y ∷ [])
longer saw y k h = let e = length_push saw y in omega (arith, e)

-- one is left out, and no other
abbrev pub Only : ℕ → ℕ → Type 0
Only n k = k ≡ n

pub records-weaker : (But More : ℕ → Type 0) (saw : List (Option Snapshot)) (shown : List (ℕ × Shown)) → ((n : ℕ) → But n → More n) → Records But saw shown → Records More saw shown
records-weaker But More saw shown k h = record { made = h.made; whole = λ n s free. h.whole n s (λ b. free (k n b)); seen = h.seen }

pub records-added : (saw : List (Option Snapshot)) (y : Option Snapshot) (shown : List (ℕ × Shown)) → Records nobody saw shown → Records (Only (length saw)) (saw ++ y ∷ []) shown
records-added saw y shown h = record {
  whole = λ n s free there. ⊎_elim
      (λ below. h.whole n s (λ b. b) (sym (get_or_append_left saw (y ∷ []) None n below) ∙ there))
      (λ past. absurd (none-some s (sym (get_or_past (saw ++ y ∷ []) n None (past-last saw y n free past)) ∙ there)))
      (cases_lt n (length saw));
  made = all_mono (λ k. k < length saw) (λ k. k < length (saw ++ y ∷ [])) (longer saw y) (keys_of shown) h.made;
  seen = λ n s x there is.
      let below : n < length saw = found-all (λ k. k < length saw) shown n x h.made is in
      h.seen n s x (sym (get_or_append_left saw (y ∷ []) None n below) ∙ there) is;
}

set_none : (saw : List (Option Snapshot)) (n : ℕ) → at (slice_set saw n None) n ≡ None
set_none saw n = ⊎_elim
    (λ below. get_or-set_same saw n None None below)
    (λ past. ap (λ l. at l n) (set_past saw n None past) ∙ get_or_past saw n None past)
    (cases_lt n (length saw))

sized : (saw : List (Option Snapshot)) (n : ℕ) (y : Option Snapshot) (k : ℕ) → k < length saw → k < length (slice_set saw n y)
sized saw n y k h = subst (λ l. k < l) (sym (length-set saw n y)) h

pub records-gone : (saw : List (Option Snapshot)) (n : ℕ) (shown : List (ℕ × Shown)) → Records nobody saw shown → Records nobody (slice_set saw n None) (remove_entry (is_at (nat_cmp n)) shown)
records-gone saw n shown h = record {
  whole = λ k s free there. ⊎_elim
      (λ same. absurd (none-some s (sym (ap (at (slice_set saw n None)) same ∙ set_none saw n) ∙ there)))
      (λ other. ap is_some (found-left shown n k other) ∙ h.whole k s free (sym (get_or-set_other saw n k None None other) ∙ there))
      (cases_eq k n);
  made = All-map-remove_entry (is_at (nat_cmp n)) (λ e. e.0) (λ k. k < length (slice_set saw n None)) shown
      (all_mono (λ k. k < length saw) (λ k. k < length (slice_set saw n None)) (sized saw n None) (keys_of shown) h.made);
  seen = λ k s x there is. ⊎_elim
      (λ same. absurd (none-some s (sym (ap (at (slice_set saw n None)) same ∙ set_none saw n) ∙ there)))
      (λ other. h.seen k s x (sym (get_or-set_other saw n k None None other) ∙ there) (sym (found-left shown n k other) ∙ is))
      (cases_eq k n);
}

-- a snapshot is taken of one
pub records-snapped : (saw : List (Option Snapshot)) (n : ℕ) (y : Option Snapshot) (shown : List (ℕ × Shown)) → Records (Only n) saw shown → RecordsBut n (slice_set saw n y) shown
records-snapped saw n y shown h = record {
  whole = λ k s other there. h.whole k s other (sym (get_or-set_other saw n k y None other) ∙ there);
  made = all_mono (λ k. k < length saw) (λ k. k < length (slice_set saw n y)) (sized saw n y) (keys_of shown) h.made;
  seen = λ k other s x there is. h.seen k s x (sym (get_or-set_other saw n k y None other) ∙ there) is;
}

pub records-but : (saw : List (Option Snapshot)) (n : ℕ) (shown : List (ℕ × Shown)) → Records (Only n) saw shown → RecordsBut n saw shown
records-but saw n shown h = record { made = h.made; whole = h.whole; seen = λ k other. h.seen k }

-- one that isn't live is no exception
pub records-dead : (saw : List (Option Snapshot)) (n : ℕ) (shown : List (ℕ × Shown)) → at saw n ≡ None → RecordsBut n saw shown → Records nobody saw shown
records-dead saw n shown none h = record {
  made = h.made;
  whole = λ k s free there. ⊎_elim
      (λ same. absurd (none-some s (sym (ap (at saw) same ∙ none) ∙ there)))
      (λ other. h.whole k s other there)
      (cases_eq k n);
  seen = λ k s x there is. ⊎_elim
      (λ same. absurd (none-some s (sym (ap (at saw) same ∙ none) ∙ there)))
      (λ other. h.seen k other s x there is)
      (cases_eq k n);
}

-- the one is shown
pub records-shown : (saw : List (Option Snapshot)) (n : ℕ) (shown : List (ℕ × Shown)) (s : Snapshot) (x : Shown) → n < length saw → at saw n ≡ Some s → IsRecorded s x → RecordsBut n saw shown
    → Records nobody saw (insert_entry nat_cmp shown n x)
records-shown saw n shown s x below there new h = record {
  whole = λ k t free here. ⊎_elim
      (λ same. ap (λ q. is_some (lookup (is_at (nat_cmp q)) (insert_entry nat_cmp shown n x))) same ∙ ap is_some (found-put shown n x))
      (λ other. ap is_some (found-put_other shown n x k other) ∙ h.whole k t other here)
      (cases_eq k n);
  made = All-keys-insert_entry nat_cmp n x (λ k. k < length saw) shown h.made below;
  seen = λ k t y here is. ⊎_elim
      (λ same.
      let e : s ≡ t = same_Some s t (sym there ∙ (sym (ap (at saw) same) ∙ here)) in
      let f : x ≡ y = same_Some x y (sym (found-put shown n x) ∙ (sym (ap (λ q. lookup (is_at (nat_cmp q)) (insert_entry nat_cmp shown n x)) same) ∙ is)) in
      subst (IsRecorded t) f (subst (λ z. IsRecorded z x) e new))
      (λ other. h.seen k other t y here (sym (found-put_other shown n x k other) ∙ is))
      (cases_eq k n);
}

-- what is shown of one on the same view is another thing
pub records-laid : (But : ℕ → Type 0) (saw : List (Option Snapshot)) (n : ℕ) (shown : List (ℕ × Shown)) (x y : Shown) → lookup (is_at (nat_cmp n)) shown ≡ Some x → y.view ≡ x.view → Records But saw shown → Records But saw (insert_entry nat_cmp shown n y)
records-laid But saw n shown x y was same h = record {
  whole = λ k t free here. ⊎_elim
      (λ here'. ap (λ q. is_some (lookup (is_at (nat_cmp q)) (insert_entry nat_cmp shown n y))) here' ∙ ap is_some (found-put shown n y))
      (λ other. ap is_some (found-put_other shown n y k other) ∙ h.whole k t free here)
      (cases_eq k n);
  made = All-keys-insert_entry nat_cmp n y (λ k. k < length saw) shown h.made (found-all (λ k. k < length saw) shown n x h.made was);
  seen = λ k s z there is. ⊎_elim
      (λ here.
      let e : y ≡ z = same_Some y z (sym (found-put shown n y) ∙ (sym (ap (λ q. lookup (is_at (nat_cmp q)) (insert_entry nat_cmp shown n y)) here) ∙ is)) in
      let r : IsRecorded s x = h.seen n s x (sym (ap (at saw) here) ∙ there) was in
      let v : x.view ≡ z.view = sym same ∙ ap (λ (u : Shown). u.view) e in
      record { seen = r.seen ∙ ap (λ (u : View). Some u.own.cells) v; whole = ap (λ (u : View). length u.own.cells) (sym v) ∙ r.whole })
      (λ other. h.seen k s z there (sym (found-put_other shown n y k other) ∙ is))
      (cases_eq k n);
}
