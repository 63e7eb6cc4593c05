-- Who is left of the watchers that are told of many changes, and who is gone.
use Rattle.std.proofs.Common.{◌≡◌, ◌≤◌, ◌<◌, ◌+◌, ℕ, List, [], ◌∷◌, ◌++◌, length, get_or, drop, Bool, false, Result, Ok, Err, OnOk, refl, ap, sym, ◌∙◌, arith, subst, append_assoc}
use Rattle.std.specs.Result.{is_ok}
use Rattle.std.proofs.Math.Seq.{drop-cons}
use Rattle.std.proofs.Math.Numerals.{add-one}
use Rattle.std.proofs.lemmas.List.{append-nil, drop_all}
use Rattle.sv_base.specs.declared.memory.NoMemory.{NoMemory as Wants}
use Rattle.sv_io.specs.Faults.{Rose}
use Rattle.sv_tokens.specs.declared.change.Change.{Change}
use Rattle.sv_watch.specs.Ear.{Ear}
use Rattle.sv_watch.specs.Told.{Told, nobody, hearer, refuser, Tells}
use Rattle.sv_watch.specs.Each.{TellsEach, ended, onward, stopped, Parted, empty, stayed, went, Parts}

-- a count that rises from a later one has risen from an earlier one
rose-earlier : (a b c : ℕ) → a ≤ b → Rose b c → Rose a c
rose-earlier a b c less rose = omega (arith, less, rose)

-- one change, and then the others
parted-more : {all : Bool} {c : Change} {cs : List Change} {old mid new gone more : List Ear} → Told c old mid gone → Parted all cs mid new more → Parted all (c ∷ cs) old new (gone ++ more)
parted-more nobody empty = empty
parted-more {all} {c} (hearer {was} h t) (stayed front rest parts full heard later report p) =
    stayed (c ∷ front) rest (ap (λ z. c ∷ z) parts) full (heard ∙ (ap (λ z. z ++ front) h.heard ∙ append_assoc was.heard (c ∷ []) front)) (let a = h.later in omega (arith, a, later)) (report ∙ h.report)
    (parted-more t p)
parted-more {all} {c} {cs} (hearer {was} {now = mid} {old = olds} {gone} h t) (went {left = new} now before behind front rest next place parts heard rose report p) =
    went now (gone ++ before) behind (c ∷ front) rest next (ap (λ z. gone ++ z) place ∙ sym (append_assoc gone before (now ∷ behind))) (ap (λ z. c ∷ z) parts)
    (heard ∙ (ap (λ z. z ++ front) h.heard ∙ append_assoc was.heard (c ∷ []) front)) (rose-earlier was.faults mid.faults now.faults h.later rose) (report ∙ h.report)
    (subst (λ z. Parted all (c ∷ cs) olds new z) (sym (append_assoc gone before behind)) (parted-more t p))
parted-more {all} {c} {cs} (refuser {was} {now} {gone} r t) p = went now [] (gone ++ _) [] cs c refl refl (r.kept ∙ sym (append-nil was.heard)) r.rose r.report (parted-more t p)

-- no change
parted-none : {all : Bool} (list : List Ear) → Parted all [] list list []
parted-none [] = empty
parted-none (w ∷ ws) = stayed [] [] refl (λ e. refl) (sym (append-nil w.heard)) (omega arith) refl (parted-none ws)

-- nobody was told
parted-idle : (changes : List Change) (list : List Ear) → Parted false changes list list []
parted-idle changes [] = empty
parted-idle changes (w ∷ ws) = stayed [] changes refl (λ e. absurd (cc)) (sym (append-nil w.heard)) (omega arith) refl (parted-idle changes ws)

-- the first were told of one change, and nobody of any other
parted-stopped : {c : Change} {cs : List Change} {first left added : List Ear} (others : List Ear) → Told c first left added → Parted false (c ∷ cs) (first ++ others) (left ++ others) added
parted-stopped {c} {cs} others nobody = parted-idle (c ∷ cs) others
parted-stopped {c} {cs} others (hearer h t) = stayed (c ∷ []) cs refl (λ e. absurd (cc)) h.heard h.later h.report (parted-stopped others t)
parted-stopped {c} {cs} others (refuser {was} {now} {gone} r t) = went now [] gone [] cs c refl refl (r.kept ∙ sym (append-nil was.heard)) r.rose r.report (parted-stopped others t)

-- all were told
told-all : (change : Change) (old new was_gone now_gone : List Ear) (t : Tells change (Ok tt) old new was_gone now_gone) → Told change old new t.added
told-all change old new was_gone now_gone t =
    let a : old ≡ t.first = t.was ∙ (ap (λ z. t.first ++ z) t.all ∙ append-nil t.first) in
    let b : new ≡ t.left = t.is ∙ (ap (λ z. t.left ++ z) t.all ∙ append-nil t.left) in
    subst (λ z. Told change z new t.added) (sym a) (subst (λ z. Told change t.first z t.added) (sym b) t.told)

pub parts-each : {changes : List Change} {r : Result (Unit {0}) Wants} {old new was_gone now_gone : List Ear} → TellsEach changes r old new was_gone now_gone → Parts (is_ok r) changes old new was_gone now_gone
parts-each (ended {list} {gone}) = record { added = []; gone = sym (append-nil gone); parted = parted-none list }
parts-each (onward {change} {old} {mid} {was_gone} {mid_gone} t rest) =
    let p = parts-each rest in
    record {
      added = t.added ++ p.added;
      gone = p.gone ∙ (ap (λ z. z ++ p.added) t.gone ∙ append_assoc was_gone t.added p.added);
      parted = parted-more (told-all change old mid was_gone mid_gone t) p.parted;
    }
parts-each (stopped {change} {changes} {new} e t) =
    record {
      added = t.added;
      gone = t.gone;
      parted = subst (λ z. Parted false (change ∷ changes) z new t.added) (sym t.was) (subst (λ z. Parted false (change ∷ changes) (t.first ++ t.others) z t.added) (sym t.is) (parted-stopped t.others t.told));
    }

-- some changes, and then others
pub each-append : {xs ys : List Change} {r : Result (Unit {0}) Wants} {old mid new was_gone mid_gone now_gone : List Ear} → TellsEach xs (Ok tt) old mid was_gone mid_gone → TellsEach ys r mid new mid_gone now_gone
    → TellsEach (xs ++ ys) r old new was_gone now_gone
each-append ended later = later
each-append (onward t rest) later = onward t (each-append rest later)

-- ---- a loop over the changes

-- what is done of the changes that are left is done of all
pub Leads : (all left : List Change) (first now was_gone now_gone : List Ear) → Type 0
Leads all left first now was_gone now_gone = (r : Result (Unit {0}) Wants) (new gone : List Ear) → TellsEach left r now new now_gone gone → TellsEach all r first new was_gone gone

pub leads-next : (all : List Change) (i : ℕ) (change : Change) (r : Result (Unit {0}) Wants) (u : Unit {0}) (first now next was_gone now_gone next_gone : List Ear) → i < length all → change ≡ get_or all i change
    → Leads all (drop i all) first now was_gone now_gone → r ≡ Ok u → Tells change r now next now_gone next_gone → Leads all (drop (i + 1) all) first next was_gone next_gone
unfolding Leads
leads-next all i change r u first now next was_gone now_gone next_gone inside is before ok tells s new gone later =
    let step : drop i all ≡ change ∷ drop (i + 1) all = drop-cons all i change inside ∙ ((λ k. sym is k ∷ drop (sym (add-one i) k) all)) in
    before s new gone (subst (λ z. TellsEach z s now new now_gone gone) (sym step) (onward (subst (λ z. Tells change z now next now_gone next_gone) ok tells) later))

pub leads-stop : (all : List Change) (i : ℕ) (change : Change) (r : Result (Unit {0}) Wants) (e : Wants) (first now next was_gone now_gone next_gone : List Ear) → i < length all → change ≡ get_or all i change
    → Leads all (drop i all) first now was_gone now_gone → r ≡ Err e → Tells change r now next now_gone next_gone → (s : Result (Unit {0}) Wants) → OnOk s ⊥ → TellsEach all s first next was_gone next_gone
unfolding Leads
leads-stop all i change r e first now next was_gone now_gone next_gone inside is before stops tells (Ok u) never = absurd never
leads-stop all i change r e first now next was_gone now_gone next_gone inside is before stops tells (Err w) never =
    let step : drop i all ≡ change ∷ drop (i + 1) all = drop-cons all i change inside ∙ ((λ k. sym is k ∷ drop (sym (add-one i) k) all)) in
    before (Err w) next next_gone (subst (λ z. TellsEach z (Err w) now next now_gone next_gone) (sym step) (stopped e (subst (λ z. Tells change z now next now_gone next_gone) stops tells)))

pub leads-end : (all : List Change) (i : ℕ) (first now was_gone now_gone : List Ear) → length all ≤ i → Leads all (drop i all) first now was_gone now_gone → TellsEach all (Ok tt) first now was_gone now_gone
unfolding Leads
leads-end all i first now was_gone now_gone past before = before (Ok tt) now now_gone (subst (λ z. TellsEach z (Ok tt) now now now_gone now_gone) (sym (drop_all i all past)) ended)

pub leads-start : (all : List Change) (list gone : List Ear) → Leads all (drop 0 all) list list gone gone
unfolding Leads
leads-start all list gone r new later t = t
