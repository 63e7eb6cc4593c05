-- Tags of which something is claimed go on: so do the tags that stand there.
use Rattle.std.proofs.Common.{◌≡◌, ◌⊎◌, ⊎_elim, inl, inr, ℕ, ◌≤◌, List, [], ◌∷◌, Option, Some, None, option_map, refl, sym, ap, subst}
use Rattle.std.specs.List.{cons_option}
use Rattle.sv_agree.proofs.Claiming.{told}
use Rattle.sv_agree.specs.Holding.{hold_of}
use Rattle.sv_code.specs.Names.{Each}
use Rattle.sv_places.specs.Any.{Any}
use Rattle.sv_right.proofs.Lists.{some_same}
use Rattle.sv_right.specs.Claims.{Claim, OfCount, OfLiteral, OfText, OfElement, OfTag, OfSlot, OfIf, OfEach, OfKey}
use Rattle.sv_right.specs.Later.{ViewCells, AreAllLater, IsEarlier, GoesOnAt, GoesOn}
use Rattle.sv_shapes.specs.Shapes.{place_in}
use Rattle.sv_stands.specs.Holds.{Hold}
use Rattle.sv_view.specs.Level.{View}

-- ---- what claims tell

-- what is so of the tag of each claim is so of each that they tell
each_told : (P : Claim → Type 0) (Q : Hold → Type 0) → ((c : Claim) (h : Hold) → P c → hold_of c ≡ Some h → Q h) → (cs : List Claim) → Each P cs → Each Q (told cs)
each_told P Q f [] k = tt
each_told P Q f (c ∷ cs) k = by (hold_of c) refl (each_told P Q f cs k.1)
  where
    by : (o : Option Hold) → hold_of c ≡ o → Each Q (told cs) → Each Q (cons_option o (told cs))
    by None is rest = rest
    by (Some h) is rest = (f c h k.0 is, rest)

-- a claim tells a hold of which something is so
record Tells (Q : Hold → Type 0) (c : Claim) : Type 0 where
  hold : Hold
  is : hold_of c ≡ Some hold
  holds : Q hold

any_under : (Q : Hold → Type 0) (o : Option Hold) (hs : List Hold) → Any Q hs → Any Q (cons_option o hs)
any_under Q None hs a = a
any_under Q (Some h) hs a = inr a

any_told : (P : Claim → Type 0) (Q : Hold → Type 0) → ((c : Claim) → P c → Tells Q c) → (cs : List Claim) → Any P cs → Any Q (told cs)
any_told P Q f [] a = absurd a
any_told P Q f (c ∷ cs) (inl k) = let t = f c k in subst (λ o. Any Q (cons_option o (told cs))) (sym t.is) (inl t.holds)
any_told P Q f (c ∷ cs) (inr a) = any_under Q (hold_of c) (told cs) (any_told P Q f cs a)

-- ---- tags that go on

-- at a place a tag stood, on a view of which another one is later
abbrev pub StoodAt : ViewCells → ℕ → View → Hold → Type 0
StoodAt views place v old = (old.place ≡ place) × AreAllLater views old.view v

-- a tag stands at a new place, or where one stood on an earlier view
abbrev pub HoldGoesOn : ViewCells → ℕ → List Hold → Hold → Type 0
HoldGoesOn views from olds h = (from ≤ h.place) ⊎ Any (StoodAt views h.place h.view) olds

abbrev hold_at : List (Option ℕ) → ℕ → View → ℕ → Hold
hold_at tags tag v = λ place. record { place = place; tag = tag; tags = tags; view = v }

module _ (views : ViewCells) where
  earlier : (v : View) (place : ℕ) (c : Claim) → IsEarlier views v place c → Tells (StoodAt views place v) c
  earlier v place (OfTag tags tag old held) e = record { hold = hold_at tags tag old place; is = ap (option_map (hold_at tags tag old)) e.0; holds = (refl, e.1) }
  earlier v place (OfCount count shapes) e = absurd e
  earlier v place (OfLiteral held) e = absurd e
  earlier v place (OfText part old held) e = absurd e
  earlier v place (OfElement attrs old held) e = absurd e
  earlier v place (OfSlot attrs old held) e = absurd e
  earlier v place (OfIf tests old held) e = absurd e
  earlier v place (OfEach head old held) e = absurd e
  earlier v place (OfKey part old held) e = absurd e

  module _ (from : ℕ) (olds : List Claim) where
    at_place : (tags : List (Option ℕ)) (tag : ℕ) (v : View) (o : Option ℕ) (h : Hold) → GoesOnAt views from olds v o → option_map (hold_at tags tag v) o ≡ Some h → HoldGoesOn views from (told olds) h
    at_place tags tag v None h g e = absurd (cc)
    at_place tags tag v (Some place) h g e =
        subst (HoldGoesOn views from (told olds)) (some_same e) (⊎_elim (λ new. inl new) (λ old. inr (any_told (IsEarlier views v place) (StoodAt views place v) (earlier v place) olds old)) g)

    claim_goes : (c : Claim) (h : Hold) → GoesOn views from olds c → hold_of c ≡ Some h → HoldGoesOn views from (told olds) h
    claim_goes (OfTag tags tag v held) h g e = at_place tags tag v (place_in held) h g e
    claim_goes (OfCount count shapes) h g e = absurd (cc)
    claim_goes (OfLiteral held) h g e = absurd (cc)
    claim_goes (OfText part v held) h g e = absurd (cc)
    claim_goes (OfElement attrs v held) h g e = absurd (cc)
    claim_goes (OfSlot attrs v held) h g e = absurd (cc)
    claim_goes (OfIf tests v held) h g e = absurd (cc)
    claim_goes (OfEach head v held) h g e = absurd (cc)
    claim_goes (OfKey part v held) h g e = absurd (cc)

    -- so do those that are told
    pub told_go_on : (news : List Claim) → Each (GoesOn views from olds) news → Each (HoldGoesOn views from (told olds)) (told news)
    told_go_on news k = each_told (GoesOn views from olds) (HoldGoesOn views from (told olds)) claim_goes news k
