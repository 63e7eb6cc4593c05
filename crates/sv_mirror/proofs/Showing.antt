-- How items are printed, one after another.
use Rattle.std.proofs.Common.{◌≡◌, ◌<◌, ◌≤◌, ◌+◌, ℕ, suc, List, [], ◌∷◌, ◌++◌, length, get_or, drop, Option, Some, None, if◌then◌else◌, refl, sym, ap, ◌∙◌, arith}
use Rattle.std.proofs.lemmas.List.{at_drop_more}
use Rattle.sv_io.specs.Sink.{AppendsFront}
use Rattle.sv_tokens.proofs.Replay.{replay_all-append}
use Rattle.sv_tokens.specs.declared.change.Change.{Change}
use Rattle.sv_watch.specs.Fits.{fits}
use Rattle.sv_watch.specs.Mirror.{blank, mirrored, mirror_html}
use Rattle.sv_wire.specs.Stream.{Standing, Told, behind}
use Rattle.sv_wire.specs.declared.item.Item.{Item}
use Rattle.sv_wire.specs.declared.item.Item.TheVariants as item
use Rattle.sv_wire.specs.declared.item.Placed.{Placed}
use Rattle.sv_mirror.proofs.Writing.{front-of, prints-same, prints-then, prints-front}
use Rattle.sv_mirror.specs.Printed.{Printed, ends, after, turn_text, at_item, printed_from}
use Rattle.sv_mirror.specs.Screen.{at_page, from_page, printed_on, left, Prints}
use Rattle.sv_mirror.specs.declared.fault.StreamFault.{StreamFault}
use Rattle.sv_mirror.specs.declared.fault.StreamFault.TheVariants as faults
use Rattle.sv_mirror.specs.declared.screen.Screen.{Screen}

-- ---- the page is what the changes before made

pub printed_from-page : (items : List Placed) (standing : Standing) (changes : List Change) (turns : ℕ) → printed_from items standing changes turns ≡ from_page items standing (mirrored changes) turns
printed_from-page [] standing changes turns = refl
printed_from-page (placed ∷ items) standing changes turns = by (λ cs n. printed_from-page items standing cs n) placed.item
  where
    by : ((cs : List Change) (n : ℕ) → printed_from items standing cs n ≡ from_page items standing (mirrored cs) n) → (x : Item)
        → at_item placed.at x (printed_from items standing) changes turns ≡ at_page placed.at x (from_page items standing) (mirrored changes) turns
    by ih (item.Change c) =
        ap (λ z. if fits c (mirrored changes) then z else ends (Some (faults.Unfit placed.at)))
        (ih (changes ++ c ∷ []) turns ∙ ap (λ v. from_page items standing v turns) (replay_all-append changes (c ∷ []) blank))
    by ih (item.Turn target) = ap (after (turn_text turns target (mirror_html changes))) (ih changes (suc turns))
    by ih item.End = ih changes turns

-- ---- items

-- those before a place were printed
pub record Shown (items : List Placed) (i : ℕ) (old now : Option (List ℕ)) (was screen : Screen) : Type 0 where
  pub prints : (told : Told) → Prints old now (printed_on was (behind items told)) (printed_on screen (behind (drop i items) told))
  pub few : screen.turns ≤ was.turns + i

module _ (items : List Placed) (i : ℕ) (old mid new : Option (List ℕ)) (was screen : Screen) (placed : Placed) (shown : Shown items i old mid was screen) (below : i < length items) (at : placed ≡ get_or items i placed) where
  -- what is told behind the item
  abbrev rest : Told → Told
  rest told = behind (drop (i + 1) items) told

  rest-is : (told : Told) → printed_on screen (behind (drop i items) told) ≡ printed_on screen (behind (placed ∷ []) (rest told))
  rest-is told = at_drop_more (λ l. printed_on screen (behind l told)) items i placed below ∙ ap (λ x. printed_on screen (behind (x ∷ drop (i + 1) items) told)) (sym at)

  shown-item : (told : Told) (next : Printed) → Prints mid new (printed_on screen (behind (placed ∷ []) (rest told))) next → Prints old new (printed_on was (behind items told)) next
  shown-item told next p = prints-then (shown.prints told) (prints-same (printed_on screen (behind (drop i items) told)) next (rest-is told) refl p)

  pub shown-front : ((told : Told) → AppendsFront mid new (printed_on screen (behind (placed ∷ []) told)).turns) → (told : Told) → AppendsFront old new (printed_on was (behind items told)).turns
  shown-front front told =
      prints-front (shown.prints told)
      (front-of (printed_on screen (behind (placed ∷ []) (rest told))).turns (printed_on screen (behind (drop i items) told)).turns (ap (λ p. p.turns) (rest-is told)) (front (rest told)))

  module _ (now : Screen) (fault : Option StreamFault) (step : (told : Told) → Prints mid new (printed_on screen (behind (placed ∷ []) told)) (left fault (printed_on now told))) where
    step-is : (told : Told) (next : Printed) → left fault (printed_on now (rest told)) ≡ next → Prints old new (printed_on was (behind items told)) next
    step-is told next is = shown-item told next (prints-same (printed_on screen (behind (placed ∷ []) (rest told))) next refl is (step (rest told)))

    -- it was the last
    pub shown-last : (last : StreamFault) → fault ≡ Some last → (told : Told) → Prints old new (printed_on was (behind items told)) (ends (Some last))
    shown-last last is told = step-is told (ends (Some last)) (ap (λ z. left z (printed_on now (rest told))) is)

    pub shown-more : fault ≡ None → now.turns ≤ screen.turns + 1 → Shown items (i + 1) old new was now
    shown-more is few = record {
      prints = λ told. step-is told (printed_on now (behind (drop (i + 1) items) told)) (ap (λ z. left z (printed_on now (rest told))) is);
      few = let before = shown.few in omega (arith, few, before);
    }
