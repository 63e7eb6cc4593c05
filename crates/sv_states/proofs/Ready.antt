-- Room in the queue and on the clock, before and after a change.
use Rattle.std.proofs.Common.{◌≡◌, ℕ, ◌+◌, ◌<◌, ◌≤◌, List, [], ◌∷◌, ◌++◌, length, Option, Some, None, refl, sym, ap, ◌∙◌, arith, Bool, true, false, cond, count_by, slice_set, is_some, ⊎_elim, subst}
use Rattle.std.proofs.lemmas.Bool.{cases_eq, cases_lt}
use Rattle.std.proofs.lemmas.List.{get_or-set_same, get_or-set_other, set_past, length_push}
use Rattle.std.proofs.lemmas.List.Sums.{sum_by-le-sum_by}
use Rattle.sv_numbered.specs.Numbered.{at, altered}
use Rattle.sv_view.specs.Cell.{Cell}
use Rattle.sv_value.specs.Value.{Val}
use Rattle.sv_value.specs.Change.{differs}
use Rattle.sv_instance.specs.Cells.{Cells, cell_at, count_of, count_at, assigned_cell, assigned, declared_cell, declared, touched_cell, touched}
use Rattle.sv_instance.specs.declared.instance.Instance.{Instance}
use Rattle.sv_states.specs.States.{count_in}
use Rattle.sv_states.specs.Waiting.{is_waiting, queued}
use Rattle.sv_states.specs.Queue.{Queue}
use Rattle.sv_states.specs.Board.{IsCounted, IsReady}
use Rattle.sv_states.specs.declared.board.Board.{Board}
use Rattle.sv_states.proofs.Altering.{altered-some, at-altered_same, at-altered_none, at-altered_other, count-altered, count-altered_more, option_cases}

-- one cell written
count-set : (cells : List (Option Cell)) (c d k : ℕ) (x : Option Cell) → ((e : ℕ) → count_at cells e ≤ k) → count_of x ≤ k → count_at (slice_set cells c x) d ≤ k
count-set cells c d k x all new = ⊎_elim
    (λ same. ⊎_elim
    (λ inside. let e = ap count_of (get_or-set_same cells c x None inside) in let s : count_at (slice_set cells c x) d ≡ count_at (slice_set cells c x) c = ap (count_at (slice_set cells c x)) same in omega (arith, e, s))
    (λ past. let e = ap (λ l. count_at l d) (set_past cells c x past) in let a = all d in omega (arith, e, a))
    (cases_lt c (length cells)))
    (λ other. let e = ap count_of (get_or-set_other cells c d x None other) in let a = all d in omega (arith, e, a))
    (cases_eq d c)

count-assigned_cell : (x : Option Cell) (v : Val) → count_of (assigned_cell x v) ≤ count_of x + 1
count-assigned_cell None v = omega arith
count-assigned_cell (Some c) v = lemma (differs c.value v)
  where
    lemma : (b : Bool) → count_of (cond b (Some (record { value = v; count = c.count + 1 })) (Some c)) ≤ c.count + 1
    lemma true = omega arith
    lemma false = omega arith

count-touched_cell : (x : Option Cell) → count_of (touched_cell x) ≤ count_of x + 1
count-touched_cell None = omega arith
count-touched_cell (Some c) = omega arith

count-declared_cell : (seen : Option (List (Option Cell))) (x : Option Cell) (v : Val) → count_of (declared_cell seen x v) ≤ count_of x
count-declared_cell None None v = omega arith
count-declared_cell None (Some c) v = omega arith
count-declared_cell (Some l) None v = omega arith
count-declared_cell (Some l) (Some c) v = omega arith

module _ (cells : Cells) (c k : ℕ) (all : (e : ℕ) → count_at cells.now e ≤ k) where
  pub counts-assigned : (v : Val) (d : ℕ) → count_at (assigned cells c v).now d ≤ k + 1
  counts-assigned v d = count-set cells.now c d (k + 1) (assigned_cell (cell_at cells.now c) v) (λ e. let a = all e in omega (arith, a)) (let a = all c in let b = count-assigned_cell (cell_at cells.now c) v in omega (arith, a, b))

  pub counts-touched : (d : ℕ) → count_at (touched cells c).now d ≤ k + 1
  counts-touched d = count-set cells.now c d (k + 1) (touched_cell (cell_at cells.now c)) (λ e. let a = all e in omega (arith, a)) (let a = all c in let b = count-touched_cell (cell_at cells.now c) in omega (arith, a, b))

  pub counts-declared : (v : Val) (d : ℕ) → count_at (declared cells c v).now d ≤ k
  counts-declared v d = count-set cells.now c d k (declared_cell cells.seen (cell_at cells.now c) v) all (let a = all c in let b = count-declared_cell cells.seen (cell_at cells.now c) v in omega (arith, a, b))

-- the counts of one instance
pub counts_of : (k : ℕ) (lives : List (Option Instance)) (n : ℕ) (i : Instance) → IsCounted k lives → at lives n ≡ Some i → (c : ℕ) → count_at i.cells.now c ≤ k
counts_of k lives n i all there c = let a = all n c in let e = ap (λ o. count_in o c) there in omega (arith, a, e)

pub counted-altered : (k k' : ℕ) (f : Instance → Instance) (lives : List (Option Instance)) (n : ℕ) → IsCounted k lives → k ≤ k' → ((i : Instance) → at lives n ≡ Some i → (c : ℕ) → count_at (f i).cells.now c ≤ k') → IsCounted k' (altered f lives n)
counted-altered k k' f lives n all le new m c = ⊎_elim
    (λ same. ⊎_elim
    (λ none. let e = ap (λ o. count_in o c) (ap (at (altered f lives n)) same ∙ at-altered_none f lives n none) in omega (arith, e))
    (λ some. let e = ap (λ o. count_in o c) (ap (at (altered f lives n)) same ∙ at-altered_same f lives n some.0 some.1) in let a = new some.0 some.1 c in omega (arith, e, a))
    (option_cases (at lives n)))
    (λ other. let e = ap (λ o. count_in o c) (at-altered_other f lives n m other) in let a = all m c in omega (arith, e, a))
    (cases_eq m n)

-- a change of an instance that doesn't queue it
pub ready-altered : (b : Board) (f : Instance → Instance) (n k : ℕ) → IsReady b → b.clock ≤ k → ((i : Instance) → (f i).queued ≡ i.queued) → ((i : Instance) → at b.lives n ≡ Some i → (c : ℕ) → count_at (f i).cells.now c ≤ k)
    → IsReady (record b { lives = altered f b.lives n; clock = k })
ready-altered b f n k r le idle counts = record {
  synced = r.synced ∙ sym (count-altered f b.lives n is_waiting (λ i _. idle i));
  fits = let e = count-altered f b.lives n is_some (λ i _. refl) in let a = r.fits in omega (arith, e, a);
  counted = counted-altered b.clock k f b.lives n r.counted le counts;
}

waiting-below : (lives : List (Option Instance)) → count_by is_waiting lives ≤ count_by is_some lives
waiting-below lives = sum_by-le-sum_by (λ o. cond (is_waiting o) 1 0) (λ o. cond (is_some o) 1 0) lives each
  where
    below : (q : Bool) → cond q 1 0 ≤ 1
    below true = omega arith
    below false = omega arith

    each : (o : Option Instance) → cond (is_waiting o) 1 0 ≤ cond (is_some o) 1 0
    each None = omega arith
    each (Some i) = below i.queued

-- one that doesn't wait finds room in the queue
pub room_for : (b : Board) (n : ℕ) (i : Instance) → IsReady b → at b.lives n ≡ Some i → i.queued ≡ false → length b.queue.order < b.queue.room
room_for b n i r there idle =
    let more = count-altered_more queued b.lives n is_waiting i there idle refl in
    let some = count-altered queued b.lives n is_some (λ j _. refl) in
    let le = waiting-below (altered queued b.lives n) in
    let s = r.synced in
    let f = r.fits in
    omega (arith, more, some, le, s, f)

pub ready-queued : (b : Board) (n : ℕ) (i : Instance) → IsReady b → at b.lives n ≡ Some i → i.queued ≡ false
    → IsReady (record b { lives = altered queued b.lives n; queue = record b.queue { order = b.queue.order ++ n ∷ [] } })
ready-queued b n i r there idle = record {
  synced = let more = count-altered_more queued b.lives n is_waiting i there idle refl in let l = length_push b.queue.order n in let s = r.synced in omega (arith, more, l, s);
  fits = let e = count-altered queued b.lives n is_some (λ j _. refl) in let f = r.fits in omega (arith, e, f);
  counted = counted-altered b.clock b.clock queued b.lives n r.counted (omega arith) (λ j here c. counts_of b.clock b.lives n j r.counted here c);
}

-- the same in the form in which the instance is written back
module _ (b : Board) (n : ℕ) (i : Instance) (r : IsReady b) (there : Some i ≡ at b.lives n) where
  pub written_back : (f : Instance → Instance) (k : ℕ) → b.clock ≤ k → ((j : Instance) → (f j).queued ≡ j.queued) → ((j : Instance) → at b.lives n ≡ Some j → (c : ℕ) → count_at (f j).cells.now c ≤ k)
      → IsReady (record b { lives = slice_set b.lives n (Some (f i)); clock = k })
  written_back f k le idle counts =
      let P : List (Option Instance) → Type 0 = λ l. IsReady (record b { lives = l; clock = k }) in
      subst P (altered-some f b.lives n i (sym there)) (ready-altered b f n k r le idle counts)

  -- its cells are others
  pub ready_cells : (cs : Cells) (k : ℕ) → b.clock ≤ k → ((c : ℕ) → count_at cs.now c ≤ k) → IsReady (record b { lives = slice_set b.lives n (Some (record i { cells = cs })); clock = k })
  ready_cells cs k le counts = written_back (λ j. record j { cells = cs }) k le (λ j. refl) (λ j here c. counts c)

  pub counts_here : (c : ℕ) → count_at i.cells.now c ≤ b.clock
  counts_here c = counts_of b.clock b.lives n i r.counted (sym there) c

  -- it waits, and stands last in the queue
  pub ready_pushed : (q : Queue) → i.queued ≡ false → q ≡ record b.queue { order = b.queue.order ++ n ∷ [] } → IsReady (record b { lives = slice_set b.lives n (Some (queued i)); queue = q })
  ready_pushed q idle is =
      let P : List (Option Instance) → Queue → Type 0 = λ l p. IsReady (record b { lives = l; queue = p }) in
      subst (λ p. P (slice_set b.lives n (Some (queued i))) p) (sym is)
      (subst (λ l. P l (record b.queue { order = b.queue.order ++ n ∷ [] })) (altered-some queued b.lives n i (sym there)) (ready-queued b n i r (sym there) idle))
