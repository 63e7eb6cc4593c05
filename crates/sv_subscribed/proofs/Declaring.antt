-- What a declaration at the top of a script does to the instance whose script it is.
use Rattle.std.proofs.Common.{◌≡◌, ◌≢◌, ℕ, ◌<◌, true, List, [], ◌∷◌, ◌++◌, length, Option, Some, None, option_map, is_some, refl, sym, ap, subst, ◌∙◌, arith, inl, inr, ◌⊎◌, ⊎_elim, slice_set}
use Rattle.std.proofs.lemmas.Bool.{cases_eq, true≢false}
use Rattle.std.proofs.lemmas.List.{length-set, get_or-set_same, get_or-set_other}
use Rattle.std.proofs.lemmas.Option.{none-some, same_Some}
use Rattle.sv_code.specs.Names.{Each}
use Rattle.sv_code.specs.declared.functions.CodeDecl.{CodeDecl}
use Rattle.sv_code.specs.declared.known.Known.TheVariants as known
use Rattle.sv_code.specs.declared.program.Component.{Component}
use Rattle.sv_code.specs.declared.program.Program.{Program}
use Rattle.sv_code.specs.declared.program.StoreCell.{StoreCell}
use Rattle.sv_instance.specs.Cells as cells
use Rattle.sv_instance.specs.Cells.{cell_at, declared_cell}
use Rattle.sv_instance.specs.Subscriptions.{subscription_at}
use Rattle.sv_instance.specs.declared.instance.Instance.{Instance}
use Rattle.sv_instance.specs.declared.subscriptions.Subscription.{Subscription}
use Rattle.sv_meaning.specs.Statements.{variable}
use Rattle.sv_states.specs.Change.{with_subscription}
use Rattle.sv_value.specs.Value.{Val, undefined}
use Rattle.sv_view.specs.Cell.{Cell}
use Rattle.sv_view.specs.Constants.{constant_at}
use Rattle.sv_subscribed.proofs.Adding.{name_push-other, Part, part-stands, stands-part, part-kept, part-added}
use Rattle.sv_subscribed.proofs.Known.{at_set}
use Rattle.sv_subscribed.proofs.Opening.{IsAbsent, IsDeclaring}
use Rattle.sv_subscribed.proofs.Stages.{AreNamed, Settles}
use Rattle.sv_subscribed.proofs.Standing.{Modules, Stand, nowhere}
use Rattle.sv_subscribed.specs.Apart.{IsApart, IsOwn}
use Rattle.sv_subscribed.specs.Holders.{IsAmong, held, Looks}

abbrev value_of : Option Cell → Option Val
value_of o = option_map (λ (y : Cell). y.value) o

module _ (p : Program) (many : ℕ) (ms : Modules) (c : Component) (apart : IsApart c) (rest : List CodeDecl) where
  abbrev PartOf : (StoreCell → Type 0) → Instance → Type 0
  PartOf Rest i = Part many ms c.stores Rest i.subscriptions i.cells.now i.setup.constants

  abbrev nobody : StoreCell → Type 0
  nobody x = ⊥

  -- all stand well, and more is to be declared
  pub record IsWell (i : Instance) : Type 0 where
    pub declaring : IsDeclaring p many ms c apart rest i
    pub part : PartOf nobody i

  pub well-named : (i : Instance) → IsWell i → AreNamed p many ms i
  well-named i h k is = subst (λ (x : Component). Stand many ms x.stores nowhere nowhere undefined i.subscriptions i.cells.now i.setup.constants) (same_Some c k (sym h.declaring.open_yet.is ∙ is))
      (stands-part undefined (λ x among r. r) h.part)

  pub named-well : (i : Instance) → IsDeclaring p many ms c apart rest i → AreNamed p many ms i → IsWell i
  named-well i d h = record { declaring = d; part = part-stands (h c d.open_yet.is) }

  -- what is to hold the store of one is declared, with a value; or it is subscribed already
  pub record IsHeld (y : StoreCell) (v : Val) (i : Instance) : Type 0 where
    pub declaring : IsDeclaring p many ms c apart rest i
    pub before : ((is_some (subscription_at i.subscriptions y.cell) ≡ true) × PartOf nobody i)
        ⊎ ((subscription_at i.subscriptions y.cell ≡ None) × (PartOf (λ x. x ≡ y) i × ((held ms i.cells.now i.setup.constants y.holder ≡ Some v) × ((d : ℕ) → y.holder ≡ known.Cell d → is_some (cell_at i.cells.now d) ≡ true))))

  -- ---- a variable that holds no store for a `$` name, or one that does

  module _ (k : ℕ) (v : Val) (i : Instance) (h : IsWell i) where
    abbrev now : List (Option Cell)
    now = slice_set i.cells.now k (declared_cell i.cells.seen (cell_at i.cells.now k) v)

    abbrev with_cell : Instance
    with_cell = record i { cells = cells.declared i.cells k v }

    cell_declaring : IsDeclaring p many ms c apart rest with_cell
    cell_declaring = record {
      open_yet = let o = h.declaring.open_yet in record { is = o.is; unseen = o.unseen; cells = length-set i.cells.now k _ ∙ o.cells; constants = o.constants };
      absent = h.declaring.absent;
    }

    other-cell : (x : StoreCell) → ((x.holder ≡ known.Cell k) → ⊥) → (d : ℕ) → x.holder ≡ known.Cell d → cell_at now d ≡ cell_at i.cells.now d
    other-cell x not d holds = get_or-set_other i.cells.now k d _ None (λ same. not (holds ∙ ap known.Cell same))

    pub well-cell : ((x : StoreCell) → IsAmong x c.stores → x.holder ≡ known.Cell k → ⊥) → IsWell with_cell
    well-cell none = record { declaring = cell_declaring; part = part-kept now i.setup.constants (λ x is r. r) (λ x is. inr (λ d holds. other-cell x (none x is) d holds, λ d holds. refl)) h.part }

    module _ (y : StoreCell) (among : IsAmong y c.stores) (holds : y.holder ≡ known.Cell k) where
      -- a variable that is declared stays
      kept : is_some (cell_at i.cells.now k) ≡ true → (d : ℕ) → cell_at now d ≡ cell_at i.cells.now d
      kept some d = ⊎_elim (λ same. same) (λ set. set.1 ∙ (ap (λ s. declared_cell s (cell_at i.cells.now k) v) h.declaring.open_yet.unseen ∙ (first (cell_at i.cells.now k) some ∙ ap (cell_at i.cells.now) (sym set.0)))) (at_set i.cells.now k d _) where
        first : (o : Option Cell) → is_some o ≡ true → declared_cell None o v ≡ o
        first None e = absurd (true≢false (sym e))
        first (Some x) e = refl

      within : k < length i.cells.now
      within = let e = h.declaring.open_yet.cells in let l = apart.cells y k among holds in omega (arith, e, l)

      new : cell_at i.cells.now k ≡ None → cell_at now k ≡ Some (record { value = v; count = 0 })
      new none = get_or-set_same i.cells.now k _ None within ∙ (λ j. declared_cell (h.declaring.open_yet.unseen j) (none j) v)

      pub held-cell : IsHeld y v with_cell
      held-cell = record {
        declaring = cell_declaring;
        before = ⊎_elim
            (λ r. absurd r)
            (λ stands. ⊎_elim
            (λ named. inl (
              ap is_some named.there,
              part-kept now i.setup.constants (λ x is r. r) (λ x is. inr (λ d e. kept (named.declared k holds) d, λ d e. refl)) h.part,
            ))
            (λ un. inr (
              un.absent,
              (
                part-kept now i.setup.constants (λ x is r. absurd r)
                    (λ x is. ⊎_elim
                    (λ same. inl (apart.names.cells x y is among same))
                    (λ other. inr (λ d e. other-cell x (λ its. other (ap (λ (z : StoreCell). z.cell) (apart.names.holders x y is among (subst IsOwn (sym its) tt) (its ∙ sym holds)))) d e, λ d e. refl))
                    (cases_eq x.cell y.cell))
                    h.part,
                (
                  ap (held ms now i.setup.constants) holds ∙ ap value_of (new (un.undeclared k holds)),
                  λ d e. ap is_some (ap (cell_at now) (same_cell d k (sym e ∙ holds)) ∙ new (un.undeclared k holds)),
                ),
              ),
            ))
            stands)
            (h.part.each y among);
      } where
        same_cell : (d e : ℕ) → known.Cell d ≡ known.Cell e → d ≡ e
        same_cell d e q = same_Some d e (ap variable q)

  -- ---- a constant

  module _ (k : ℕ) (v : Val) (i : Instance) (h : IsWell i) where
    abbrev sets : List (Option Val)
    sets = slice_set i.setup.constants k (Some v)

    abbrev with_set : Instance
    with_set = record i { setup = record i.setup { constants = sets } }

    set_declaring : IsDeclaring p many ms c apart rest with_set
    set_declaring = record {
      open_yet = let o = h.declaring.open_yet in record { is = o.is; unseen = o.unseen; cells = o.cells; constants = length-set i.setup.constants k (Some v) ∙ o.constants };
      absent = h.declaring.absent;
    }

    other-set : (x : StoreCell) → ((x.holder ≡ known.Constant k) → ⊥) → (d : ℕ) → x.holder ≡ known.Constant d → constant_at sets d ≡ constant_at i.setup.constants d
    other-set x not d holds = get_or-set_other i.setup.constants k d (Some v) None (λ same. not (holds ∙ ap known.Constant same))

    pub well-set : ((x : StoreCell) → IsAmong x c.stores → x.holder ≡ known.Constant k → ⊥) → IsWell with_set
    well-set none = record { declaring = set_declaring; part = part-kept i.cells.now sets (λ x is r. r) (λ x is. inr (λ d holds. refl, λ d holds. other-set x (none x is) d holds)) h.part }

    pub held-set : (y : StoreCell) → IsAmong y c.stores → y.holder ≡ known.Constant k → subscription_at i.subscriptions y.cell ≡ None → IsHeld y v with_set
    held-set y among holds absent = record {
      declaring = set_declaring;
      before = inr (
        absent,
        (
          part-kept i.cells.now sets (λ x is r. absurd r)
              (λ x is. ⊎_elim
              (λ same. inl (apart.names.cells x y is among same))
              (λ other. inr (λ d e. refl, λ d e. other-set x (λ its. other (ap (λ (z : StoreCell). z.cell) (apart.names.holders x y is among (subst IsOwn (sym its) tt) (its ∙ sym holds)))) d e))
              (cases_eq x.cell y.cell))
              h.part,
          (
            ap (held ms i.cells.now sets) holds
                ∙ get_or-set_same i.setup.constants k (Some v) None (let e = h.declaring.open_yet.constants in let l = apart.constants y k among holds in omega (arith, e, l)),
            λ d e. absurd (none-some d (sym (ap variable (sym e ∙ holds)))),
          ),
        ),
      );
    }

  -- ---- then its `$` name is subscribed

  pub well-settles : (y : StoreCell) → IsAmong y c.stores → Settles IsWell y.cell
  well-settles y among = record {
    assigned = λ i u h. kept i _ h;
    declared = λ i u h. kept i _ h;
    waits = λ i h. record {
      declaring = record { open_yet = let o = h.declaring.open_yet in record { is = o.is; unseen = o.unseen; cells = o.cells; constants = o.constants }; absent = h.declaring.absent };
      part = h.part;
    };
  } where
    kept : (i : Instance) (o : Option Cell) → IsWell i → IsWell (record i { cells = record i.cells { now = slice_set i.cells.now y.cell o } })
    kept i o h = record {
      declaring = record { open_yet = let q = h.declaring.open_yet in record { is = q.is; unseen = q.unseen; cells = length-set i.cells.now y.cell o ∙ q.cells; constants = q.constants }; absent = h.declaring.absent };
      part = part-kept (slice_set i.cells.now y.cell o) i.setup.constants (λ x is r. r)
          (λ x is. inr (λ d holds. get_or-set_other i.cells.now y.cell d o None (λ same. apart.names.plain x y is among (holds ∙ ap known.Cell same)), λ d holds. refl))
          h.part;
    }

  module _ (y : StoreCell) (among : IsAmong y c.stores) (v : Val) (i : Instance) (h : IsHeld y v i) where
    pub held-had : is_some (subscription_at i.subscriptions y.cell) ≡ true → IsWell i
    held-had some = record { declaring = h.declaring; part = ⊎_elim (λ k. k.1) (λ k. absurd (true≢false (sym some ∙ ap is_some k.0))) h.before }

    -- no other's name is still to be declared that is subscribed now
    pub held-new : (source st : Option ℕ) → variable y.holder ≡ source → Each (λ (e : CodeDecl). y.holder ≢ e.target) rest → subscription_at i.subscriptions y.cell ≡ None → Looks many (Some v) st
        → IsWell (with_subscription (record { cell = y.cell; source = source; store = st }) i)
    held-new source st from others absent looks = ⊎_elim (λ k. absurd (true≢false (sym k.0 ∙ ap is_some absent))) added h.before where
      one : Subscription
      one = record { cell = y.cell; source = source; store = st }

      added : (subscription_at i.subscriptions y.cell ≡ None) × (PartOf (λ x. x ≡ y) i × ((held ms i.cells.now i.setup.constants y.holder ≡ Some v) × ((d : ℕ) → y.holder ≡ known.Cell d → is_some (cell_at i.cells.now d) ≡ true)))
          → IsWell (with_subscription one i)
      added k = record {
        declaring = record {
          open_yet = let q = h.declaring.open_yet in record { is = q.is; unseen = q.unseen; cells = q.cells; constants = q.constants };
          absent = still rest others h.declaring.absent;
        };
        part = subst (λ s. Part many ms c.stores nobody (i.subscriptions ++ record { cell = y.cell; source = s; store = st } ∷ []) i.cells.now i.setup.constants) from
            (part-added apart.names y among st absent (subst (λ o. Looks many o st) (sym k.1.1.0) looks) k.1.1.1 (λ x is r. inl r) k.1.0);
      } where
        still : (ds : List CodeDecl) → Each (λ (e : CodeDecl). y.holder ≢ e.target) ds → Each (IsAbsent p many ms c apart i.subscriptions) ds → Each (IsAbsent p many ms c apart (i.subscriptions ++ one ∷ [])) ds
        still [] a b = tt
        still (d ∷ ds) a b = (
          λ x n is holds same. name_push-other i.subscriptions one x.cell (λ e. a.0 (ap (λ (z : StoreCell). z.holder) (sym (apart.names.cells x y is among e)) ∙ sym same)) ∙ b.0 x n is holds same,
          still ds a.1 b.1,
        )

-- one thing less is still to be declared
pub held-fewer : (p : Program) (many : ℕ) (ms : Modules) (c : Component) (apart : IsApart c) (d : CodeDecl) (rest : List CodeDecl) (y : StoreCell) (v : Val) (i : Instance)
    → IsHeld p many ms c apart (d ∷ rest) y v i → IsHeld p many ms c apart rest y v i
held-fewer p many ms c apart d rest y v i h = record { declaring = record { open_yet = h.declaring.open_yet; absent = h.declaring.absent.1 }; before = h.before }
