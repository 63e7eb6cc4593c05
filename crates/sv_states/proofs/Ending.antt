-- Instances that come, leave the queue, and go.
use Rattle.std.proofs.Common.{◌≡◌, ◌≢◌, ℕ, ◌+◌, ◌<◌, ◌≤◌, List, [], ◌∷◌, ◌++◌, length, Option, Some, None, refl, sym, ap, ◌∙◌, arith, Bool, true, false, cond, count_by, slice_set, is_some, ⊎_elim, ◌⊎◌, inl, inr, subst, Result, Ok, Err}
use Rattle.std.specs.Prelude.{OnOk, OnErr}
use Rattle.std.proofs.lemmas.Bool.{cases_eq, cases_lt}
use Rattle.std.proofs.lemmas.List.{get_or-set_same, get_or-set_other, get_or_past, get_or_append_left, get_or_push, length_push}
use Rattle.std.proofs.lemmas.List.Sums.{sum_by-set, sum_by_push}
use Rattle.sv_numbered.specs.Numbered.{at, altered}
use Rattle.sv_derived.specs.Derived.{Derived, frozen}
use Rattle.sv_store.specs.Stores.{Store, dropped}
use Rattle.sv_states.specs.Change.{removed}
use Rattle.sv_instance.specs.Cells.{Cells, count_at, snapped as snapped_cells}
use Rattle.sv_instance.specs.declared.instance.Instance.{Instance}
use Rattle.sv_states.specs.States.{States, count_in}
use Rattle.sv_states.specs.Waiting.{is_waiting, without, times, shown, snapped}
use Rattle.sv_states.specs.Queue.{Queue}
use Rattle.sv_states.specs.Prepared.{IsNew}
use Rattle.sv_states.specs.Board.{IsCounted, IsReady, IsKept, seen_as}
use Rattle.sv_states.specs.declared.board.Board.{Board}
use Rattle.sv_states.proofs.Altering.{altered-none, altered-some, count-altered, count-altered_less, at_within}
use Rattle.sv_states.proofs.Ready.{counted-altered, counts_of}
use Rattle.sv_states.proofs.Times.{without-absent, length-without}

pub same_states : (l m : List (Option Instance)) (stores : List Store) (q r : List ℕ) (derived : List Derived) → l ≡ m → q ≡ r
    → ◌≡◌ {A = States} (record { lives = l; stores = stores; derived = derived; queue = q }) (record { lives = m; stores = stores; derived = derived; queue = r })
same_states l m stores q r derived e f = λ k. record { lives = e k; stores = stores; derived = derived; queue = f k }

module _ (b : Board) (n : ℕ) (k : IsKept b) where
  -- who isn't live or doesn't wait isn't in the queue
  absent : is_waiting (at b.lives n) ≡ false → without b.queue.order n ≡ b.queue.order
  absent idle = without-absent b.queue.order n (k.sound.queued n ∙ ap (λ w. cond w 1 0) idle)

  -- who waits stands there
  present : is_waiting (at b.lives n) ≡ true → times b.queue.order n ≡ 1
  present waits = k.sound.queued n ∙ ap (λ w. cond w 1 0) waits

  -- a snapshot of an instance that isn't live changes nothing
  pub snapped-none : at b.lives n ≡ None → seen_as b ≡ snapped (seen_as b) n
  snapped-none none = same_states b.lives (altered shown b.lives n) b.stores b.queue.order (without b.queue.order n) b.derived (sym (altered-none shown b.lives n none)) (sym (absent (ap is_waiting none)))

  module _ (i : Instance) (there : Some i ≡ at b.lives n) (cs : Cells) (taken : cs ≡ snapped_cells i.cells) where
    -- an instance that doesn't wait has its snapshot taken
    pub snapped-idle : i.queued ≡ false → ◌≡◌ {A = States} (record { lives = slice_set b.lives n (Some (record i { cells = cs })); stores = b.stores; derived = b.derived; queue = b.queue.order }) (snapped (seen_as b) n)
    snapped-idle idle = same_states (slice_set b.lives n (Some (record i { cells = cs }))) (altered shown b.lives n) b.stores b.queue.order (without b.queue.order n) b.derived
        ((λ j. slice_set b.lives n (Some (record i { cells = taken j; queued = idle j }))) ∙ sym (altered-some shown b.lives n i (sym there)))
        (sym (absent (ap is_waiting (sym there) ∙ idle)))

    pub snapped_counts : (c : ℕ) → count_at cs.now c ≤ b.clock
    snapped_counts c = let a = counts_of b.clock b.lives n i k.ready.counted (sym there) c in let e = ap (λ x. count_at x.now c) taken in omega (arith, a, e)

    -- one that waits leaves the queue
    pub ready_left : (q : Queue) → i.queued ≡ true → q ≡ record b.queue { order = without b.queue.order n }
        → IsReady (record b { lives = slice_set b.lives n (Some (record i { cells = cs; queued = false })); queue = q })
    ready_left q waits is =
        let f : Instance → Instance = λ j. record j { cells = cs; queued = false } in
        let same = altered-some f b.lives n i (sym there) in
        let less = count-altered_less f b.lives n is_waiting i (sym there) waits refl in
        let all = count-altered f b.lives n is_some (λ j _. refl) in
        let times' = present (ap is_waiting (sym there) ∙ waits) in
        let shorter = length-without b.queue.order n (omega (arith, times')) in
        let order = ap (λ x. length x.order) is in
        let room = ap (λ x. x.room) is in
        let synced = k.ready.synced in
        let fits = k.ready.fits in
        let waiting_same = ap (count_by is_waiting) same in
        let some_same = ap (count_by is_some) same in
        record {
          synced = omega (arith, less, shorter, order, synced, waiting_same);
          fits = omega (arith, all, room, fits, some_same);
          counted = subst (IsCounted b.clock) same (counted-altered b.clock b.clock f b.lives n k.ready.counted (omega arith) (λ j here c. snapped_counts c));
        }

-- an instance that is gone
module _ (lives : List (Option Instance)) (n : ℕ) (i : Instance) (there : Some i ≡ at lives n) where
  inside : n < length lives
  inside = at_within lives n i (sym there)

  gone_count : (p : Option Instance → Bool) → p None ≡ false → count_by p (slice_set lives n None) + cond (p (Some i)) 1 0 ≡ count_by p lives
  gone_count p none =
      let e = sum_by-set (λ y. cond (p y) 1 0) lives n None None inside in
      let a : ◌≡◌ {A = ℕ} (cond (p (at lives n)) 1 0) (cond (p (Some i)) 1 0) = ap (λ y. cond (p y) 1 0) (sym there) in
      let z : ◌≡◌ {A = ℕ} (cond (p None) 1 0) 0 = ap (λ w. cond w 1 0) none in
      omega (arith, e, a, z)

  gone_counted : (k : ℕ) → IsCounted k lives → IsCounted k (slice_set lives n None)
  gone_counted k all m c = ⊎_elim
      (λ same. let e = ap (λ o. count_in o c) (ap (at (slice_set lives n None)) same ∙ get_or-set_same lives n None None inside) in omega (arith, e))
      (λ other. let e = ap (λ o. count_in o c) (get_or-set_other lives n m None None other) in let a = all m c in omega (arith, e, a))
      (cases_eq m n)

module _ (b : Board) (n : ℕ) (k : IsKept b) (i : Instance) (there : Some i ≡ at b.lives n) (lives : List (Option Instance)) (gone : lives ≡ slice_set b.lives n None) (stores : List Store) (derived : List Derived) where
  -- one that waited leaves the queue
  pub ready_removed : (q : Queue) → i.queued ≡ true → q ≡ record b.queue { order = without b.queue.order n } → IsReady (record b { lives = lives; stores = stores; derived = derived; queue = q })
  ready_removed q waits is =
      let less = gone_count b.lives n i there is_waiting refl in
      let one : ◌≡◌ {A = ℕ} (cond i.queued 1 0) 1 = ap (λ w. cond w 1 0) waits in
      let fewer = gone_count b.lives n i there is_some refl in
      let waiting_same = ap (count_by is_waiting) gone in
      let some_same = ap (count_by is_some) gone in
      let times' = k.sound.queued n ∙ ap (λ o. cond (is_waiting o) 1 0) (sym there) ∙ one in
      let shorter = length-without b.queue.order n (omega (arith, times')) in
      let order = ap (λ x. length x.order) is in
      let room = ap (λ x. x.room) is in
      let synced = k.ready.synced in
      let fits = k.ready.fits in
      record {
        synced = omega (arith, less, one, shorter, order, synced, waiting_same);
        fits = omega (arith, fewer, room, fits, some_same);
        counted = subst (IsCounted b.clock) (sym gone) (gone_counted b.lives n i there b.clock k.ready.counted);
      }

  -- one that didn't wait
  pub ready_gone : i.queued ≡ false → IsReady (record b { lives = lives; stores = stores; derived = derived })
  ready_gone idle =
      let less = gone_count b.lives n i there is_waiting refl in
      let zero' : ◌≡◌ {A = ℕ} (cond i.queued 1 0) 0 = ap (λ w. cond w 1 0) idle in
      let fewer = gone_count b.lives n i there is_some refl in
      let waiting_same = ap (count_by is_waiting) gone in
      let some_same = ap (count_by is_some) gone in
      let synced = k.ready.synced in
      let fits = k.ready.fits in
      record {
        synced = omega (arith, less, zero', synced, waiting_same);
        fits = omega (arith, fewer, fits, some_same);
        counted = subst (IsCounted b.clock) (sym gone) (gone_counted b.lives n i there b.clock k.ready.counted);
      }

-- what a live instance made is frozen when it goes
abbrev pub frozen_if : Option Instance → List Derived → ℕ → List Derived
frozen_if o derived n = cond (is_some o) (frozen derived n) derived

-- who didn't wait leaves the queue as it was
pub removed-idle : (b : Board) (n : ℕ) (k : IsKept b) → is_waiting (at b.lives n) ≡ false → (lives : List (Option Instance)) → lives ≡ slice_set b.lives n None → (stores : List Store) → stores ≡ dropped b.stores n
    → (derived : List Derived) → derived ≡ frozen_if (at b.lives n) b.derived n → ◌≡◌ {A = States} (record { lives = lives; stores = stores; derived = derived; queue = b.queue.order }) (removed (seen_as b) n)
removed-idle b n k idle lives gone stores drops derived freezes = λ j. record { lives = gone j; stores = drops j; derived = freezes j; queue = sym (absent b n k idle) j }

-- one more instance, which has changed nothing
pub ready_added : (b : Board) (i : Instance) → IsReady b → IsNew i → (lives : List (Option Instance)) → lives ≡ b.lives ++ Some i ∷ [] → (q : Queue) → q.order ≡ b.queue.order → count_by is_some b.lives + 1 ≤ q.room → IsReady (record b { lives = lives; queue = q })
ready_added b i r new lives is q order room = record {
  synced =
      let e = sum_by_push (λ y. cond (is_waiting y) 1 0) b.lives (Some i) in
      let z : ◌≡◌ {A = ℕ} (cond i.queued 1 0) 0 = ap (λ w. cond w 1 0) new.idle in
      let s = r.synced in
      let o = ap length order in
      let l = ap (count_by is_waiting) is in
      omega (arith, e, z, s, o, l);
  fits =
      let e = sum_by_push (λ y. cond (is_some y) 1 0) b.lives (Some i) in
      let l = ap (count_by is_some) is in
      omega (arith, e, l, room);
  counted = λ n c. subst (λ l. count_in (at l n) c ≤ b.clock) (sym is) (counted n c);
}
  where
    counted : (n c : ℕ) → count_in (at (b.lives ++ Some i ∷ []) n) c ≤ b.clock
    counted n c = ⊎_elim
        (λ below. let e = ap (λ o. count_in o c) (get_or_append_left b.lives (Some i ∷ []) None n below) in let a = r.counted n c in omega (arith, e, a))
        (λ above. ⊎_elim
        (λ same. let e = ap (λ o. count_in o c) (get_or_push b.lives (Some i) None n (sym same)) in let z = new.uncounted c in omega (arith, e, z))
        (λ other. let l = length_push b.lives (Some i) in let e = ap (λ o. count_in o c) (get_or_past (b.lives ++ Some i ∷ []) n None (let ne : n ≢ length b.lives = other in omega arith)) in omega (arith, e))
        (cases_eq n (length b.lives)))
        (cases_lt n (length b.lives))

-- more room in the queue
pub ready_roomier : (b : Board) → IsReady b → (lives : List (Option Instance)) → lives ≡ b.lives → (q : Queue) → q.order ≡ b.queue.order → b.queue.room ≤ q.room → IsReady (record b { lives = lives; queue = q })
ready_roomier b r lives is q order room = record {
  synced = let s = r.synced in let o = ap length order in let l = ap (count_by is_waiting) is in omega (arith, s, o, l);
  fits = let f = r.fits in let l = ap (count_by is_some) is in omega (arith, f, l, room);
  counted = subst (IsCounted b.clock) (sym is) r.counted;
}

pub ok_or_err : {T E P Q : Type 0} (r : Result T E) → OnOk r P → OnErr r Q → P ⊎ Q
ok_or_err (Ok x) p q = inl p
ok_or_err (Err e) p q = inr q
