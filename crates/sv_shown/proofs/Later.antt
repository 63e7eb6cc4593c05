-- Views of which one is the later, while instances come and go.
use Rattle.std.proofs.Common.{◌≡◌, ℕ, List, [], ◌∷◌, map, Some, refl, sym, ap, ◌∙◌, arith}
use Rattle.sv_base.specs.declared.names.Name.{Name}
use Rattle.sv_code.specs.Names.{Each}
use Rattle.sv_right.specs.Later.{ViewCells, AreLater, AreOwnersLater, AreAllLater}
use Rattle.sv_shown.specs.True.{Modules}
use Rattle.sv_view.specs.Level.{Level, View}
use Rattle.sv_view.specs.View.{insts, version}
use Rattle.sv_view.specs.declared.view.At.TheVariants as at

-- an instance that has a cell for the owner's view had that one
abbrev pub Fewer : ViewCells → ViewCells → ℕ → Type 0
Fewer views later n = (c : ℕ) → later n ≡ Some c → views n ≡ Some c

module _ (views later : ViewCells) where
  own_fewer : (v v' : View) → Fewer views later v.own.inst → AreLater views v v' → AreLater later v v'
  own_fewer v v' less h = record { versions = h.versions; cells = h.cells; locals = h.locals; owners = λ n is same. h.owners n (less n is) same }

  pub owners_fewer : (ms ms' : Modules) (ls ls' : List Level) → Each (Fewer views later) (map (λ l. l.inst) ls) → AreOwnersLater views ms ms' ls ls' → AreOwnersLater later ms ms' ls ls'
  owners_fewer ms ms' [] [] less h = h
  owners_fewer ms ms' [] (l' ∷ ls') less h = h
  owners_fewer ms ms' (l ∷ ls) [] less h = h
  owners_fewer ms ms' (l ∷ ls) (l' ∷ ls') less h =
      (own_fewer (record { own = l; owners = ls; modules = ms }) (record { own = l'; owners = ls'; modules = ms' }) less.0 h.0, owners_fewer ms ms' ls ls' less.1 h.1)

  pub all_fewer : (v v' : View) → Each (Fewer views later) (insts v) → AreAllLater views v v' → AreAllLater later v v'
  all_fewer v v' less h = record { own = own_fewer v v' less.0 h.own; owners = owners_fewer v.modules v'.modules v.owners v'.owners less.1 h.owners }

module _ (views : ViewCells) where
  -- a view is no earlier than itself
  own_same : (v : View) → AreLater views v v
  own_same v = record {
    versions = record { one = record { inst = refl; constants = refl; modules = refl }; cells = λ n e. refl; locals = λ x e. refl };
    cells = λ n. omega (arith);
    locals = λ x. omega (arith);
    owners = λ n is e. refl;
  }

  pub owners_same : (ms : Modules) (ls : List Level) → AreOwnersLater views ms ms ls ls
  owners_same ms [] = tt
  owners_same ms (l ∷ ls) = (own_same (record { own = l; owners = ls; modules = ms }), owners_same ms ls)

  pub all_same : (v : View) → AreAllLater views v v
  all_same v = record { own = own_same v; owners = owners_same v.modules v.owners }

  -- what is later than a later one is later
  own_on : (u v w : View) → AreLater views u v → AreLater views v w → AreLater views u w
  own_on u v w h k = record {
    versions = record {
      one = record { inst = h.versions.one.inst ∙ k.versions.one.inst; constants = h.versions.one.constants ∙ k.versions.one.constants; modules = h.versions.one.modules ∙ k.versions.one.modules };
      cells = λ n e. let a = cell n e in h.versions.cells n a.0 ∙ k.versions.cells n a.1;
      locals = λ x e. let a = local x e in h.versions.locals x a.0 ∙ k.versions.locals x a.1;
    };
    cells = λ n. let a = h.cells n in let b = k.cells n in omega (arith, a, b);
    locals = λ x. let a = h.locals x in let b = k.locals x in omega (arith, a, b);
    owners = λ n is e. let a = cell n e in h.owners n is a.0 ∙ k.owners n (ap views (sym h.versions.one.inst) ∙ is) a.1;
  }
    where
      cell : (n : ℕ) → version u (at.Cell n) ≡ version w (at.Cell n) → (version u (at.Cell n) ≡ version v (at.Cell n)) × (version v (at.Cell n) ≡ version w (at.Cell n))
      cell n e = let a = h.cells n in let b = k.cells n in (omega (arith, a, b, e), omega (arith, a, b, e))

      local : (x : Name) → version u (at.Local x) ≡ version w (at.Local x) → (version u (at.Local x) ≡ version v (at.Local x)) × (version v (at.Local x) ≡ version w (at.Local x))
      local x e = let a = h.locals x in let b = k.locals x in (omega (arith, a, b, e), omega (arith, a, b, e))

  pub owners_on : (ls ms ns : Modules) (us vs ws : List Level) → AreOwnersLater views ls ms us vs → AreOwnersLater views ms ns vs ws → AreOwnersLater views ls ns us ws
  owners_on ls ms ns [] [] ws h k = k
  owners_on ls ms ns [] (v ∷ vs) ws h k = absurd h
  owners_on ls ms ns (u ∷ us) [] ws h k = absurd h
  owners_on ls ms ns (u ∷ us) (v ∷ vs) [] h k = k
  owners_on ls ms ns (u ∷ us) (v ∷ vs) (w ∷ ws) h k =
      (own_on (record { own = u; owners = us; modules = ls }) (record { own = v; owners = vs; modules = ms }) (record { own = w; owners = ws; modules = ns }) h.0 k.0, owners_on ls ms ns us vs ws h.1 k.1)

  pub later_on : (u v w : View) → AreAllLater views u v → AreAllLater views v w → AreAllLater views u w
  later_on u v w h k = record { own = own_on u v w h.own k.own; owners = owners_on u.modules v.modules w.modules u.owners v.owners w.owners h.owners k.owners }
