-- A value that goes its way stands in each cell of it, even where a cell stands on the way twice.
use Rattle.std.proofs.Common.{◌≡◌, ℕ, zero, suc, ◌+◌, ◌<◌, Bool, true, false, List, [], ◌∷◌, length, Option, Some, None, option_map, is_some, refl, sym, ap, subst, ◌∙◌, inl, inr, ◌⊎◌, ⊎_elim, if◌then◌else◌}
use Rattle.std.proofs.lemmas.Bool.{true≢false}
use Rattle.std.proofs.lemmas.Option.{none-some, same_Some}
use Rattle.std.proofs.lemmas.List.{get_or-set_same}
use Rattle.sv_code.proofs.Each.{each_mono}
use Rattle.sv_code.specs.Names.{Each}
use Rattle.sv_frame.proofs.Stored.{differs-same}
use Rattle.sv_instance.specs.Bound.{Bound, bound_at}
use Rattle.sv_instance.specs.Cells as cells
use Rattle.sv_instance.specs.Cells.{cell_at, changes_cell, assigned_cell}
use Rattle.sv_instance.specs.Subscriptions.{subscription_at}
use Rattle.sv_instance.specs.declared.instance.Instance.{Instance}
use Rattle.sv_instance.specs.declared.subscriptions.Subscription.{Subscription}
use Rattle.sv_numbered.specs.Numbered.{at, altered}
use Rattle.sv_states.proofs.Altering.{at_within, at-altered_same}
use Rattle.sv_states.proofs.Calm.{each_altered}
use Rattle.sv_states.specs.Assignment.{Way, onward, up, into, way_step, way, way_of, way_into, changes_in, cell_stored, handing, taken, told, end_set, written}
use Rattle.sv_states.specs.States.{States, live, depth_of, cell_in, value_in}
use Rattle.sv_states.specs.Waiting.{joins, queued, enqueued}
use Rattle.sv_store.specs.Stores.{Subscriber, with_value, differs_at, subscribers_at}
use Rattle.sv_value.specs.Change.{differs}
use Rattle.sv_value.specs.Value.{Val}
use Rattle.sv_view.specs.Cell.{Cell}
use Rattle.sv_derived.specs.Derived.{marked}
use Rattle.sv_subscribed.proofs.Known.{at_set}

-- a cell has a value
abbrev pub Holds : Val → States → Subscriber → Type 0
Holds v s q = value_in (live s q.inst) q.cell ≡ Some v

abbrev value_of : Option Cell → Option Val
value_of o = option_map (λ (c : Cell). c.value) o

pub if_either : {A : Type 0} (P : A → Type 0) (b : Bool) (x y : A) → P x → P y → P (if b then x else y)
if_either P true x y h k = h
if_either P false x y h k = k

-- ---- what takes the value has it, and what has it keeps it

-- the value of a cell that is assigned it, where it is declared
assigned-value : (v : Val) (o : Option Cell) → is_some o ≡ true → value_of (assigned_cell o v) ≡ Some v
assigned-value v None h = absurd (true≢false (sym h))
assigned-value v (Some c) h = by (differs c.value v) refl where
  by : (b : Bool) → differs c.value v ≡ b → value_of (if b then Some (record { value = v; count = c.count + 1 }) else Some c) ≡ Some v
  by true e = refl
  by false e = ap Some (differs-same c.value v e)

value-some : (o : Option Cell) (v : Val) → value_of o ≡ Some v → is_some o ≡ true
value-some None v e = absurd (none-some v e)
value-some (Some c) v e = refl

module _ (v : Val) where
  holds-stored : (s : States) (p q : Subscriber) → Holds v s q → Holds v (cell_stored s p v) q
  holds-stored s p q h =
      each_altered (λ m o. (c : ℕ) → value_in (live s m) c ≡ Some v → value_in o c ≡ Some v) _ s.lives p.inst (λ m c k. k)
      (λ i there old c k. ⊎_elim
      (λ same. ap value_of same ∙ old c k)
      (λ set. ap value_of set.1 ∙ assigned-value v (cell_at i.cells.now p.cell) (ap (λ e. is_some (cell_at i.cells.now e)) (sym set.0) ∙ value-some (cell_at i.cells.now c) v (old c k)))
      (at_set i.cells.now p.cell c (assigned_cell (cell_at i.cells.now p.cell) v)))
      q.inst q.cell h

  holds-enqueued : (s : States) (n : ℕ) (q : Subscriber) → Holds v s q → Holds v (enqueued s n) q
  holds-enqueued s n q h = if_either (λ lives. value_in (at lives q.inst) q.cell ≡ Some v) (joins (live s n)) (altered queued s.lives n) s.lives
      (each_altered (λ m o. (c : ℕ) → value_in (live s m) c ≡ Some v → value_in o c ≡ Some v) queued s.lives n (λ m c k. k) (λ i there old c k. old c k) q.inst q.cell h) h

  holds-handing : (p : Subscriber) (next : States → States) (s : States) (q : Subscriber) → ((t : States) → Holds v t q → Holds v (next t) q) → Holds v s q → Holds v (handing p v next s) q
  holds-handing p next s q k h = if_either (λ t. Holds v t q) (changes_in (live s p.inst) p.cell v) (enqueued (next (cell_stored s p v)) p.inst) s
      (holds-enqueued (next (cell_stored s p v)) p.inst q (k (cell_stored s p v) (holds-stored s p q h))) h

  holds-told : (ps : List Subscriber) (s : States) (q : Subscriber) → Holds v s q → Holds v (told ps v s) q
  holds-told [] s q h = h
  holds-told (p ∷ ps) s q h = holds-told ps (taken s p v) q (holds-handing p (λ t. t) s q (λ t k. k) h)

  holds-end : (store : Option ℕ) (s : States) (q : Subscriber) → Holds v s q → Holds v (end_set store v s) q
  holds-end None s q h = h
  holds-end (Some id) s q h = if_either (λ t. Holds v t q) (differs_at s.stores id v) _ s (holds-told (subscribers_at s.stores id) (record s { stores = with_value s.stores id v; derived = marked s.derived id }) q h) h

  pub holds-written : (ps : List Subscriber) (store : Option ℕ) (s : States) (q : Subscriber) → Holds v s q → Holds v (written ps store v s) q
  holds-written [] store s q h = holds-end store s q h
  holds-written (p ∷ ps) store s q h = holds-handing p (written ps store v) s q (λ t k. holds-written ps store t q k) h

-- ---- cells that a value counts as a change of

pub changes-cell : (o : Option Instance) (c : ℕ) (v : Val) → changes_in o c v ≡ changes_cell (cell_in o c) v
changes-cell None c v = refl
changes-cell (Some i) c v = refl

pub value-cell : (o : Option Instance) (c : ℕ) → value_in o c ≡ value_of (cell_in o c)
value-cell None c = refl
value-cell (Some i) c = refl

changes-some : (o : Option Cell) (v : Val) → changes_cell o v ≡ true → is_some o ≡ true
changes-some None v e = e
changes-some (Some c) v e = refl

-- where it doesn't, the cell has the value, which is no change of itself
pub unchanged : (o : Option Cell) (v : Val) → is_some o ≡ true → changes_cell o v ≡ false → value_of o ≡ Some v
unchanged None v some e = absurd (true≢false (sym some))
unchanged (Some c) v some e = ap Some (differs-same c.value v e)

no-change : (o : Option Cell) (v : Val) → is_some o ≡ true → changes_cell o v ≡ false → differs v v ≡ false
no-change None v some e = absurd (true≢false (sym some))
no-change (Some c) v some e = subst (λ u. differs u v ≡ false) (differs-same c.value v e) e

assigned-unchanged : (o : Option Cell) (v : Val) → differs v v ≡ false → changes_cell (assigned_cell o v) v ≡ false
assigned-unchanged None v same = refl
assigned-unchanged (Some c) v same = by (differs c.value v) refl where
  by : (b : Bool) → differs c.value v ≡ b → changes_cell (if b then Some (record { value = v; count = c.count + 1 }) else Some c) v ≡ false
  by true e = same
  by false e = e

assigned-is : (o : Option Cell) (v : Val) → is_some o ≡ true → is_some (assigned_cell o v) ≡ true
assigned-is None v h = h
assigned-is (Some c) v h = if_either (λ (o : Option Cell). is_some o ≡ true) (differs c.value v) _ _ refl refl

declared_within : (now : List (Option Cell)) (c : ℕ) → is_some (cell_at now c) ≡ true → c < length now
declared_within now c some = by (cell_at now c) refl some where
  by : (o : Option Cell) → cell_at now c ≡ o → is_some o ≡ true → c < length now
  by None e k = absurd (true≢false (sym k))
  by (Some x) e k = at_within now c x e

-- a cell alone changes where it takes the value
abbrev StoredAt : States → Subscriber → Val → ℕ → Option Instance → Type 0
StoredAt s p v m o = (c : ℕ) → (cell_in o c ≡ cell_in (live s m) c) ⊎ (((m ≡ p.inst) × (c ≡ p.cell)) × (cell_in o c ≡ assigned_cell (cell_in (live s m) c) v))

pub stored-at : (s : States) (p : Subscriber) (v : Val) (m c : ℕ)
    → (cell_in (live (cell_stored s p v) m) c ≡ cell_in (live s m) c) ⊎ (((m ≡ p.inst) × (c ≡ p.cell)) × (cell_in (live (cell_stored s p v) m) c ≡ assigned_cell (cell_in (live s m) c) v))
stored-at s p v m c = each_altered (StoredAt s p v) _ s.lives p.inst (λ k d. inl refl) (λ i there old d. by i there d (at_set i.cells.now p.cell d (assigned_cell (cell_at i.cells.now p.cell) v))) m c where
  by : (i : Instance) → live s p.inst ≡ Some i → (d : ℕ)
      → (cell_at (cells.assigned i.cells p.cell v).now d ≡ cell_at i.cells.now d) ⊎ ((d ≡ p.cell) × (cell_at (cells.assigned i.cells p.cell v).now d ≡ assigned_cell (cell_at i.cells.now p.cell) v))
      → (cell_at (cells.assigned i.cells p.cell v).now d ≡ cell_in (live s p.inst) d) ⊎ (((p.inst ≡ p.inst) × (d ≡ p.cell)) × (cell_at (cells.assigned i.cells p.cell v).now d ≡ assigned_cell (cell_in (live s p.inst) d) v))
  by i there d (inl same) = inl (same ∙ ap (λ o. cell_in o d) (sym there))
  by i there d (inr set) = inr ((refl, set.0), set.1 ∙ ap (λ o. assigned_cell o v) (ap (cell_at i.cells.now) (sym set.0) ∙ ap (λ o. cell_in o d) (sym there)))

stored-self : (s : States) (p : Subscriber) (v : Val) → is_some (cell_in (live s p.inst) p.cell) ≡ true → cell_in (live (cell_stored s p v) p.inst) p.cell ≡ assigned_cell (cell_in (live s p.inst) p.cell) v
stored-self s p v is = over (live s p.inst) refl is where
  over : (o : Option Instance) → live s p.inst ≡ o → is_some (cell_in o p.cell) ≡ true → cell_in (live (cell_stored s p v) p.inst) p.cell ≡ assigned_cell (cell_in (live s p.inst) p.cell) v
  over None e some = absurd (true≢false (sym some))
  over (Some i) e some =
      ap (λ o. cell_in o p.cell) (at-altered_same _ s.lives p.inst i e)
      ∙ (get_or-set_same i.cells.now p.cell (assigned_cell (cell_at i.cells.now p.cell) v) None (declared_within i.cells.now p.cell some)
      ∙ ap (λ o. assigned_cell (cell_in o p.cell) v) (sym e))

-- ---- a way, and what was stored on it so far

module _ (v : Val) (s0 : States) where
  abbrev Changes : States → Subscriber → Bool → Type 0
  Changes s q b = changes_cell (cell_in (live s q.inst) q.cell) v ≡ b

  -- a cell on the way took the value
  abbrev Took : States → Subscriber → Type 0
  Took s q = Changes s0 q true × Changes s q false

  abbrev point : Bound → Subscriber
  point b = record { inst = b.owner; cell = b.target }

  -- the way leads on from a cell to a variable
  pub record Leads (q r : Subscriber) : Type 0 where
    pub instance : Instance
    pub bound : Bound
    pub there : live s0 q.inst ≡ Some instance
    pub goes : bound_at instance.setup.bounds q.cell ≡ Some bound
    pub on : r ≡ point bound

  -- what it leads to from those that took it took it too, or is where it comes now, or doesn't change
  abbrev Comes : States → Subscriber → Type 0
  Comes s p = (q r : Subscriber) → Took s q → Leads q r → Took s r ⊎ ((r ≡ p) ⊎ Changes s0 r false)

  abbrev Declared : States → Type 0
  Declared s = (q : Subscriber) → Changes s0 q true → is_some (cell_in (live s q.inst) q.cell) ≡ true

  took-holds : (s : States) (q : Subscriber) → Declared s → Took s q → Holds v s q
  took-holds s q declared took = value-cell (live s q.inst) q.cell ∙ unchanged (cell_in (live s q.inst) q.cell) v (declared q took.0) took.1

  -- the way from what took it, or doesn't change, goes through such alone
  module _ (s : States) (closed : (q r : Subscriber) → Took s q → Leads q r → Took s r ⊎ Changes s0 r false) where
    took_on : (room n c : ℕ) → Took s (record { inst = n; cell = c }) ⊎ Changes s0 (record { inst = n; cell = c }) false → Each (Took s) (way room s0 v n c).cells
    took_on zero n c h = tt
    took_on (suc room) n c h = over (took_on room) (live s0 n) refl where
      p : Subscriber
      p = record { inst = n; cell = c }

      rest : ((m d : ℕ) → Took s (record { inst = m; cell = d }) ⊎ Changes s0 (record { inst = m; cell = d }) false → Each (Took s) (way room s0 v m d).cells) → (i : Instance) (o : Option Bound) → live s0 n ≡ Some i → bound_at i.setup.bounds c ≡ o → Took s p → Each (Took s) (up (record { cells = []; store = None }) o (way room s0 v)).cells
      rest on i None there goes took = tt
      rest on i (Some b) there goes took = on b.owner b.target (closed p (point b) took (record { instance = i; bound = b; there = there; goes = goes; on = refl }))

      inside : ((m d : ℕ) → Took s (record { inst = m; cell = d }) ⊎ Changes s0 (record { inst = m; cell = d }) false → Each (Took s) (way room s0 v m d).cells) → (i : Instance) (x : Option Subscription) (b : Bool) → live s0 n ≡ Some i → cells.changes i.cells c v ≡ b → Each (Took s) (into x b (bound_at i.setup.bounds c) p (way room s0 v)).cells
      inside on i (Some x) b there e = tt
      inside on i None false there e = tt
      inside on i None true there e = ⊎_elim
          (λ took. (took, rest on i (bound_at i.setup.bounds c) there refl took))
          (λ none. absurd (true≢false (sym e ∙ (ap (λ o. changes_cell (cell_in o c) v) (sym there) ∙ none))))
          h

      over : ((m d : ℕ) → Took s (record { inst = m; cell = d }) ⊎ Changes s0 (record { inst = m; cell = d }) false → Each (Took s) (way room s0 v m d).cells) → (o : Option Instance) → live s0 n ≡ o → Each (Took s) (way_step v o p (way room s0 v)).cells
      over on None e = tt
      over on (Some i) e = inside on i (subscription_at i.subscriptions c) (cells.changes i.cells c v) e refl

  -- ---- one more takes it

  module _ (s : States) (p : Subscriber) (declared : Declared s) (first : Changes s0 p true) (comes : Comes s p) where
    abbrev next : States
    next = cell_stored s p v

    next-declared : Declared next
    next-declared q k = ⊎_elim
        (λ same. ap is_some same ∙ declared q k)
        (λ set. ap is_some set.1 ∙ assigned-is (cell_in (live s q.inst) q.cell) v (declared q k))
        (stored-at s p v q.inst q.cell)

    next-unchanged : differs v v ≡ false → (q : Subscriber) → Changes s q false → Changes next q false
    next-unchanged plain q k = ⊎_elim
        (λ same. ap (λ o. changes_cell o v) same ∙ k)
        (λ set. ap (λ o. changes_cell o v) set.1 ∙ assigned-unchanged (cell_in (live s q.inst) q.cell) v plain)
        (stored-at s p v q.inst q.cell)

    next-is : cell_in (live next p.inst) p.cell ≡ assigned_cell (cell_in (live s p.inst) p.cell) v
    next-is = stored-self s p v (declared p first)

    next-holds : Holds v next p
    next-holds = value-cell (live next p.inst) p.cell ∙ (ap value_of next-is ∙ assigned-value v (cell_in (live s p.inst) p.cell) (declared p first))

    module _ (b : Bound) (leads : Leads p (point b)) where
      -- the way comes to what the cell is bound to
      its : (q r : Subscriber) → q ≡ p → Leads q r → r ≡ point b
      its q r same l =
          let i : l.instance ≡ leads.instance = same_Some l.instance leads.instance (sym l.there ∙ (ap (λ (x : Subscriber). live s0 x.inst) same ∙ leads.there)) in
          l.on ∙ ap point (same_Some l.bound leads.bound (sym l.goes ∙ ((λ k. bound_at (i k).setup.bounds (same k).cell) ∙ leads.goes))) ∙ sym leads.on

      next-comes : Comes next (point b)
      next-comes q r took l = ⊎_elim old new (stored-at s p v q.inst q.cell) where
        plain : differs v v ≡ false
        plain = no-change (cell_in (live next q.inst) q.cell) v (next-declared q took.0) took.1

        old : cell_in (live next q.inst) q.cell ≡ cell_in (live s q.inst) q.cell → Took next r ⊎ ((r ≡ point b) ⊎ Changes s0 r false)
        old same = ⊎_elim
            (λ t. inl (t.0, next-unchanged plain r t.1))
            (λ other. ⊎_elim
            (λ is. inl (subst (λ x. Took next x) (sym is) (first, ap (λ o. changes_cell o v) next-is ∙ assigned-unchanged (cell_in (live s p.inst) p.cell) v plain)))
            (λ none. inr (inr none))
            other)
            (comes q r (took.0, ap (λ o. changes_cell o v) (sym same) ∙ took.1) l)

        new : ((q.inst ≡ p.inst) × (q.cell ≡ p.cell)) × (cell_in (live next q.inst) q.cell ≡ assigned_cell (cell_in (live s q.inst) q.cell) v) → Took next r ⊎ ((r ≡ point b) ⊎ Changes s0 r false)
        new set = inr (inl (its q r (λ k. record { inst = set.0.0 k; cell = set.0.1 k }) l))

  -- ---- so it stands in each cell of a way

  -- beyond a cell that took it
  abbrev Further : ℕ → States → Option ℕ → Type 0
  Further room t store = (m d : ℕ) → Declared t → Comes t (record { inst = m; cell = d }) → Each (Holds v (written (way room s0 v m d).cells store v t)) (way room s0 v m d).cells

  went : (room n c : ℕ) (store : Option ℕ) (s : States) → Declared s → Comes s (record { inst = n; cell = c }) → Each (Holds v (written (way room s0 v n c).cells store v s)) (way room s0 v n c).cells
  went zero n c store s declared comes = tt
  went (suc room) n c store s declared comes = over (λ m d. went room m d store (cell_stored s (record { inst = n; cell = c }) v)) (live s0 n) refl where
    p : Subscriber
    p = record { inst = n; cell = c }

    beyond : (o : Option Bound) → Way
    beyond o = up (record { cells = []; store = None }) o (way room s0 v)

    stored : Further room (cell_stored s p v) store → (i : Instance) (o : Option Bound) → live s0 n ≡ Some i → bound_at i.setup.bounds c ≡ o → Changes s0 p true → Each (Holds v (written (beyond o).cells store v (cell_stored s p v))) (beyond o).cells
    stored on i None there goes first = tt
    stored on i (Some b) there goes first =
        on b.owner b.target (next-declared s p declared first comes)
        (next-comes s p declared first comes b (record { instance = i; bound = b; there = there; goes = goes; on = refl }))

    unstored : (i : Instance) (o : Option Bound) → live s0 n ≡ Some i → bound_at i.setup.bounds c ≡ o → Took s p → Each (Holds v s) (beyond o).cells
    unstored i None there goes took = tt
    unstored i (Some b) there goes took =
        each_mono (Took s) (Holds v s) (λ q t. took-holds s q declared t) (beyond (Some b)).cells
        (took_on s (closed took) room b.owner b.target (closed took p (point b) took (record { instance = i; bound = b; there = there; goes = goes; on = refl })))
      where
        closed : Took s p → (q r : Subscriber) → Took s q → Leads q r → Took s r ⊎ Changes s0 r false
        closed last q r t l = ⊎_elim (λ k. inl k) (λ other. ⊎_elim (λ is. inl (subst (Took s) (sym is) last)) (λ none. inr none) other) (comes q r t l)

    taken_or_not : Further room (cell_stored s p v) store → (i : Instance) → live s0 n ≡ Some i → Changes s0 p true → (b : Bool) → changes_in (live s n) c v ≡ b
        → Each (Holds v (if b then enqueued (written (beyond (bound_at i.setup.bounds c)).cells store v (cell_stored s p v)) n else s)) (p ∷ (beyond (bound_at i.setup.bounds c)).cells)
    taken_or_not on i there first true e =
        let rest : List Subscriber = (beyond (bound_at i.setup.bounds c)).cells in
        let t : States = written rest store v (cell_stored s p v) in (
          holds-enqueued v t n p (holds-written v rest store (cell_stored s p v) p (next-holds s p declared first comes)),
          each_mono (Holds v t) (Holds v (enqueued t n)) (λ q h. holds-enqueued v t n q h) rest (stored on i (bound_at i.setup.bounds c) there refl first),
        )
    taken_or_not on i there first false e =
        let took : Took s p = (first, sym (changes-cell (live s n) c v) ∙ e) in
        (took-holds s p declared took, unstored i (bound_at i.setup.bounds c) there refl took)

    inside : Further room (cell_stored s p v) store → (i : Instance) (x : Option Subscription) (b : Bool) → live s0 n ≡ Some i → cells.changes i.cells c v ≡ b
        → let w : Way = into x b (bound_at i.setup.bounds c) p (way room s0 v) in Each (Holds v (written w.cells store v s)) w.cells
    inside on i (Some x) b there e = tt
    inside on i None false there e = tt
    inside on i None true there e = taken_or_not on i there (ap (λ o. changes_cell (cell_in o c) v) there ∙ e) (changes_in (live s n) c v) refl

    over : Further room (cell_stored s p v) store → (o : Option Instance) → live s0 n ≡ o → let w : Way = way_step v o p (way room s0 v) in Each (Holds v (written w.cells store v s)) w.cells
    over on None e = tt
    over on (Some i) e = inside on i (subscription_at i.subscriptions c) (cells.changes i.cells c v) e refl

-- behind an assignment, also where a prop was bound meanwhile
pub went-all : (old s : States) (n c : ℕ) (v : Val) → ((m d : ℕ) → cell_in (live s m) d ≡ cell_in (live old m) d) → let w : Way = way_of old n c v in Each (Holds v (written w.cells w.store v s)) w.cells
went-all old s n c v same =
    went v old (depth_of (live old n)) n c (way_of old n c v).store s
    (λ q changes. ap is_some (same q.inst q.cell) ∙ changes-some (cell_in (live old q.inst) q.cell) v changes)
    (λ q r took leads. absurd (true≢false (sym took.0 ∙ (ap (λ o. changes_cell o v) (sym (same q.inst q.cell)) ∙ took.1))))

-- and behind what an owner hands down
pub went-down : (s : States) (p : Subscriber) (v : Val) → let w : Way = way_into s p v in Each (Holds v (written w.cells w.store v s)) w.cells
went-down s p v = by (changes_in (live s p.inst) p.cell v) refl where
  taken_if : (b : Bool) → changes_in (live s p.inst) p.cell v ≡ b → b ≡ true → Holds v (if b then enqueued (cell_stored s p v) p.inst else s) p
  taken_if false e k = absurd (true≢false (sym k))
  taken_if true e k = holds-enqueued v (cell_stored s p v) p.inst p (value-cell (live (cell_stored s p v) p.inst) p.cell ∙
      (ap value_of (stored-self s p v (changes-some (cell_in (live s p.inst) p.cell) v (sym (changes-cell (live s p.inst) p.cell v) ∙ e)))
      ∙ assigned-value v (cell_in (live s p.inst) p.cell) (changes-some (cell_in (live s p.inst) p.cell) v (sym (changes-cell (live s p.inst) p.cell v) ∙ e))))

  by : (b : Bool) → changes_in (live s p.inst) p.cell v ≡ b → let w : Way = if b then onward p (record { cells = []; store = None }) else record { cells = []; store = None } in Each (Holds v (written w.cells w.store v s)) w.cells
  by false e = tt
  by true e = (taken_if (changes_in (live s p.inst) p.cell v) refl e, tt)
