-- A new instance whose `$` names are subscribed, before its script and as variables and constants are declared.
use Rattle.std.proofs.Common.{◌≡◌, ◌≢◌, ℕ, true, List, [], ◌∷◌, ◌++◌, length, Option, Some, None, option_map, is_some, refl, sym, ap, subst, ◌∙◌, inl, inr, ◌⊎◌, ⊎_elim, slice_set}
use Rattle.std.proofs.lemmas.Bool.{cases_eq, cases_lt, true≢false}
use Rattle.std.proofs.lemmas.List.{length-set, get_or-set_same, get_or-set_other, set_past}
use Rattle.std.proofs.lemmas.Option.{none-some, same_Some}
use Rattle.sv_code.specs.Names.{Each}
use Rattle.sv_code.specs.declared.functions.CodeDecl.{CodeDecl}
use Rattle.sv_code.specs.declared.known.Known.TheVariants as known
use Rattle.sv_code.specs.declared.program.Component.{Component}
use Rattle.sv_code.specs.declared.program.Program.{Program}
use Rattle.sv_code.specs.declared.program.StoreCell.{StoreCell}
use Rattle.sv_flush.specs.Creation.{cell_count}
use Rattle.sv_instance.specs.Cells as cells
use Rattle.sv_instance.specs.Cells.{cell_at, assigned_cell, declared_cell}
use Rattle.sv_instance.specs.Subscriptions.{subscription_at}
use Rattle.sv_instance.specs.declared.instance.Instance.{Instance}
use Rattle.sv_instance.specs.declared.subscriptions.Subscription.{Subscription}
use Rattle.sv_meaning.specs.Components.{component_at}
use Rattle.sv_meaning.specs.Statements.{variable}
use Rattle.sv_states.specs.Change.{with_subscription}
use Rattle.sv_value.specs.Value.{Val, undefined}
use Rattle.sv_view.specs.Cell.{Cell}
use Rattle.sv_view.specs.Constants.{constant_at}
use Rattle.sv_subscribed.proofs.Adding.{name_push-other, Part, stands-part, part-kept, part-added}
use Rattle.sv_subscribed.proofs.Known.{at_set}
use Rattle.sv_subscribed.proofs.Stages.{AreNamed, Settles}
use Rattle.sv_subscribed.proofs.Standing.{Modules, IsUnnamed, Stand, nowhere}
use Rattle.sv_subscribed.specs.Apart.{IsApart}
use Rattle.sv_subscribed.specs.Holders.{IsAmong, store_held, held, Looks}

abbrev value_of : Option Cell → Option Val
value_of o = option_map (λ (y : Cell). y.value) o

module _ (p : Program) (many : ℕ) (ms : Modules) (c : Component) (apart : IsApart c) where
  -- an instance of the component that has had no snapshot, with as many cells and constants as it is to have
  pub record IsOpen (i : Instance) : Type 0 where
    pub is : component_at p i.place.component ≡ Some c
    pub unseen : i.cells.seen ≡ None
    pub cells : length i.cells.now ≡ cell_count c
    pub constants : length i.setup.constants ≡ c.constants

  -- nothing of it holds a store
  pub record IsBare (i : Instance) : Type 0 where
    pub open_yet : IsOpen i
    pub names : i.subscriptions ≡ []
    pub now : (k : ℕ) → (cell_at i.cells.now k ≡ None) ⊎ (value_of (cell_at i.cells.now k) ≡ Some undefined)
    pub sets : (k : ℕ) → store_held (constant_at i.setup.constants k) ≡ None

  -- some `$` names of it are still to be subscribed, where they are to be before the script
  pub record IsOpening (rest : List StoreCell) (i : Instance) : Type 0 where
    pub open_yet : IsOpen i
    pub part : Part many ms c.stores (λ x. IsAmong x rest × (subscription_at i.subscriptions x.cell ≡ None)) i.subscriptions i.cells.now i.setup.constants
    pub now : (x : StoreCell) (k : ℕ) → IsAmong x c.stores → x.holder ≡ known.Cell k → (cell_at i.cells.now k ≡ None) ⊎ (value_of (cell_at i.cells.now k) ≡ Some undefined)
    pub sets : (k : ℕ) → store_held (constant_at i.setup.constants k) ≡ None
    pub plain : (x : StoreCell) (k : ℕ) → IsAmong x c.stores → x.holder ≡ known.Constant k → subscription_at i.subscriptions x.cell ≡ None

  -- ---- cells and constants before

  -- a variable that is there from the start
  pub bare-declared : (i : Instance) (k : ℕ) → IsBare i → IsBare (record i { cells = cells.declared i.cells k undefined })
  bare-declared i k h = record {
    open_yet = record { is = h.open_yet.is; unseen = h.open_yet.unseen; cells = length-set i.cells.now k _ ∙ h.open_yet.cells; constants = h.open_yet.constants };
    names = h.names;
    now = λ d. ⊎_elim
        (λ same. ⊎_elim (λ e. inl (same ∙ e)) (λ e. inr (ap value_of same ∙ e)) (h.now d))
        (λ set. inr (ap value_of (set.1 ∙ ap (λ s. declared_cell s (cell_at i.cells.now k) undefined) h.open_yet.unseen) ∙ first (cell_at i.cells.now k) (h.now k)))
        (at_set i.cells.now k d (declared_cell i.cells.seen (cell_at i.cells.now k) undefined));
    sets = h.sets;
  } where
    first : (o : Option Cell) → (o ≡ None) ⊎ (value_of o ≡ Some undefined) → value_of (declared_cell None o undefined) ≡ Some undefined
    first None e = refl
    first (Some x) e = ⊎_elim (λ n. absurd (none-some x (sym n))) (λ u. u) e

  -- a constant that holds no store
  pub bare-set : (i : Instance) (k : ℕ) (v : Val) → store_held (Some v) ≡ None → IsBare i → IsBare (record i { setup = record i.setup { constants = slice_set i.setup.constants k (Some v) } })
  bare-set i k v none h = record {
    open_yet = record { is = h.open_yet.is; unseen = h.open_yet.unseen; cells = h.open_yet.cells; constants = length-set i.setup.constants k (Some v) ∙ h.open_yet.constants };
    names = h.names;
    now = h.now;
    sets = λ d. ⊎_elim
        (λ same. ⊎_elim
        (λ below. ap (λ e. store_held (constant_at (slice_set i.setup.constants k (Some v)) e)) same ∙ (ap store_held (get_or-set_same i.setup.constants k (Some v) None below) ∙ none))
        (λ past. ap (λ l. store_held (constant_at l d)) (set_past i.setup.constants k (Some v) past) ∙ h.sets d)
        (cases_lt k (length i.setup.constants)))
        (λ other. ap store_held (get_or-set_other i.setup.constants k d (Some v) None other) ∙ h.sets d)
        (cases_eq d k);
  }

  -- then the `$` names are to be subscribed
  pub bare-opening : (i : Instance) → IsBare i → IsOpening c.stores i
  bare-opening i h = record {
    open_yet = h.open_yet;
    part = record { of = subst (Each _) (sym h.names) tt; each = λ x among. inl (among, ap (λ l. subscription_at l x.cell) h.names) };
    now = λ x k among is. h.now k;
    sets = h.sets;
    plain = λ x k among is. ap (λ l. subscription_at l x.cell) h.names;
  }

  -- ---- a `$` name's cell takes a value

  -- it holds no store of another
  apart-cell : (x y : StoreCell) (d : ℕ) → IsAmong x c.stores → IsAmong y c.stores → x.holder ≡ known.Cell d → d ≢ y.cell
  apart-cell x y d x_is y_is holds same = apart.names.plain x y x_is y_is (holds ∙ ap known.Cell same)

  module _ (y : StoreCell) (among : IsAmong y c.stores) (i : Instance) (o : Option Cell) where
    abbrev after : Instance
    after = record i { cells = record i.cells { now = slice_set i.cells.now y.cell o } }

    still : (x : StoreCell) (d : ℕ) → IsAmong x c.stores → x.holder ≡ known.Cell d → cell_at (slice_set i.cells.now y.cell o) d ≡ cell_at i.cells.now d
    still x d is holds = get_or-set_other i.cells.now y.cell d o None (apart-cell x y d is among holds)

    open-kept : IsOpen i → IsOpen after
    open-kept h = record { is = h.is; unseen = h.unseen; cells = length-set i.cells.now y.cell o ∙ h.cells; constants = h.constants }

    part-still : {Rest : StoreCell → Type 0} → Part many ms c.stores Rest i.subscriptions i.cells.now i.setup.constants → Part many ms c.stores Rest i.subscriptions (slice_set i.cells.now y.cell o) i.setup.constants
    part-still h = part-kept (slice_set i.cells.now y.cell o) i.setup.constants (λ x is r. r) (λ x is. inr (λ d holds. still x d is holds, λ d holds. refl)) h

    opening-kept : (rest : List StoreCell) → IsOpening rest i → IsOpening rest after
    opening-kept rest h = record {
      open_yet = open-kept h.open_yet;
      part = part-still h.part;
      now = λ x k is holds. ⊎_elim (λ e. inl (still x k is holds ∙ e)) (λ e. inr (ap value_of (still x k is holds) ∙ e)) (h.now x k is holds);
      sets = h.sets;
      plain = h.plain;
    }

  pub opening-settles : (y : StoreCell) (rest : List StoreCell) → IsAmong y c.stores → Settles (IsOpening rest) y.cell
  opening-settles y rest among = record {
    assigned = λ i u h. opening-kept y among i _ rest h;
    declared = λ i u h. opening-kept y among i _ rest h;
    waits = λ i h. record { open_yet = record { is = h.open_yet.is; unseen = h.open_yet.unseen; cells = h.open_yet.cells; constants = h.open_yet.constants }; part = h.part; now = h.now; sets = h.sets; plain = h.plain };
  }

  -- ---- a `$` name is subscribed before the script, or isn't to be

  module _ (y : StoreCell) (rest : List StoreCell) (among : IsAmong y c.stores) (i : Instance) (h : IsOpening (y ∷ rest) i) where
    -- one that has it already
    pub opening-had : is_some (subscription_at i.subscriptions y.cell) ≡ true → IsOpening rest i
    opening-had some = record {
      open_yet = h.open_yet;
      part = record {
        of = h.part.of;
        each = λ x is. ⊎_elim
            (λ r. ⊎_elim
            (λ same. absurd (true≢false (sym some ∙ ap is_some (ap (λ (z : StoreCell). subscription_at i.subscriptions z.cell) same ∙ r.1))))
            (λ later. inl (later, r.1))
            r.0)
            (λ k. inr k)
            (h.part.each x is);
      };
      now = h.now;
      sets = h.sets;
      plain = h.plain;
    }

    -- one for which nothing holds a store
    pub opening-none : (subscription_at i.subscriptions y.cell ≡ None → IsUnnamed ms i.subscriptions i.cells.now i.setup.constants y) → IsOpening rest i
    opening-none unnamed = record {
      open_yet = h.open_yet;
      part = record {
        of = h.part.of;
        each = λ x is. ⊎_elim
            (λ r. ⊎_elim
            (λ same. inr (inr (subst (IsUnnamed ms i.subscriptions i.cells.now i.setup.constants) same (unnamed (ap (λ (z : StoreCell). subscription_at i.subscriptions z.cell) same ∙ r.1)))))
            (λ later. inl (later, r.1))
            r.0)
            (λ k. inr k)
            (h.part.each x is);
      };
      now = h.now;
      sets = h.sets;
      plain = h.plain;
    }

    -- one that looks at what is held
    pub opening-new : (source st : Option ℕ) → variable y.holder ≡ source → ((k : ℕ) → y.holder ≢ known.Constant k) → subscription_at i.subscriptions y.cell ≡ None
        → Looks many (held ms i.cells.now i.setup.constants y.holder) st → ((d : ℕ) → y.holder ≡ known.Cell d → is_some (cell_at i.cells.now d) ≡ true)
        → IsOpening rest (with_subscription (record { cell = y.cell; source = source; store = st }) i)
    opening-new source st from no_constant absent looks declared = record {
      open_yet = record { is = h.open_yet.is; unseen = h.open_yet.unseen; cells = h.open_yet.cells; constants = h.open_yet.constants };
      part = subst (λ s. Part many ms c.stores (λ x. IsAmong x rest × (subscription_at (i.subscriptions ++ record { cell = y.cell; source = s; store = st } ∷ []) x.cell ≡ None)) (i.subscriptions ++ record { cell = y.cell; source = s; store = st } ∷ []) i.cells.now i.setup.constants) from
          (part-added apart.names y among st absent looks declared
          (λ x is r. ⊎_elim
          (λ same. inl (apart.names.cells x y is among same))
          (λ other. ⊎_elim (λ e. inl (sym e)) (λ later. inr (later, name_push-other i.subscriptions (record { cell = y.cell; source = variable y.holder; store = st }) x.cell other ∙ r.1)) r.0)
          (cases_eq x.cell y.cell))
          h.part);
      now = h.now;
      sets = h.sets;
      plain = λ x k is holds. name_push-other i.subscriptions (record { cell = y.cell; source = source; store = st }) x.cell
          (λ same. no_constant k (ap (λ (z : StoreCell). z.holder) (sym (apart.names.cells x y is among same)) ∙ holds)) ∙ h.plain x k is holds;
    }

  -- ---- declarations

  -- the `$` name of a constant that is still to be declared isn't subscribed
  abbrev pub IsAbsent : List Subscription → CodeDecl → Type 0
  IsAbsent names d = (x : StoreCell) (k : ℕ) → IsAmong x c.stores → x.holder ≡ known.Constant k → d.target ≡ x.holder → subscription_at names x.cell ≡ None

  -- so it is with all that are still to be
  pub record IsDeclaring (rest : List CodeDecl) (i : Instance) : Type 0 where
    pub open_yet : IsOpen i
    pub absent : Each (IsAbsent i.subscriptions) rest

  pub opened-names : (i : Instance) → IsOpening [] i → AreNamed p many ms i
  opened-names i h k is = subst (λ (x : Component). Stand many ms x.stores nowhere nowhere undefined i.subscriptions i.cells.now i.setup.constants) (same_Some c k (sym h.open_yet.is ∙ is))
      (stands-part undefined (λ x among r. r.0) h.part)

  pub opened-declares : (rest : List CodeDecl) (i : Instance) → IsOpening [] i → IsDeclaring rest i
  opened-declares rest i h = record { open_yet = h.open_yet; absent = all rest } where
    all : (ds : List CodeDecl) → Each (IsAbsent i.subscriptions) ds
    all [] = tt
    all (d ∷ ds) = (λ x k among holds same. h.plain x k among holds, all ds)
