-- How the watchers of a list are told, one after another.
use Rattle.std.proofs.Common.{◌≡◌, ◌≤◌, ◌<◌, ◌+◌, ℕ, zero, suc, List, [], ◌∷◌, ◌++◌, length, get_or, set, Result, Ok, Err, OnOk, OnErr, refl, ap, sym, ◌∙◌, arith, subst, append_assoc, map, take, drop}
use Rattle.std.specs.Prelude.{remove}
use Rattle.std.proofs.lemmas.List.{map-append, append-nil, length-append, length-map, set_at, get_or_at, take_at, drop_at}
use Rattle.sv_base.specs.declared.memory.NoMemory.{NoMemory as Wants}
use Rattle.sv_tokens.specs.declared.change.Change.{Change}
use Rattle.sv_watch.specs.declared.watcher.TellError.{TellError}
use Rattle.sv_watch.specs.declared.watcher.TellError.TheVariants as errors
use Rattle.sv_io.specs.Faults.{Rose}
use Rattle.sv_watch.specs.Ear.{Ear}
use Rattle.sv_watch.specs.Told.{Hears, Refuses, Answers, Told, nobody, hearer, refuser, Tells, TellsAt, Leaves}

-- ---- one watcher

pub answers : (change : Change) (r : Result (Unit {0}) TellError) (old new : Ear) → OnOk r (new.heard ≡ old.heard ++ change ∷ []) → OnErr r (new.heard ≡ old.heard)
    → old.faults ≤ new.faults → (r ≡ Err errors.Refused → Rose old.faults new.faults) → (r ≡ Err errors.NoMemory → new.faults ≡ old.faults) → new.report_of ≡ old.report_of → Answers change r old new
answers change (Ok u) old new heard kept later failed wants report = record { heard = heard; later = later; report = report }
answers change (Err errors.Refused) old new heard kept later failed wants report = record { kept = kept; rose = failed refl; report = report }
answers change (Err errors.NoMemory) old new heard kept later failed wants report = λ i. record { heard = kept i; faults = wants refl i; report_of = report i }

-- ---- a list in two parts

-- a list, split before a place of it
record Split {A : Type 0} (xs : List A) (n : ℕ) : Type 0 where
  front : List A
  item : A
  back : List A
  was : xs ≡ front ++ item ∷ back
  here : length front ≡ n

split : {A : Type 0} (xs : List A) (n : ℕ) → n < length xs → Split xs n
split [] n inside = absurd (omega (arith, inside))
split (x ∷ xs) zero inside = record { front = []; item = x; back = xs; was = refl; here = refl }
split (x ∷ xs) (suc n) inside =
    let rest = split xs n (omega (arith, inside)) in
    record { front = x ∷ rest.front; item = rest.item; back = rest.back; was = ap (λ z. x ∷ z) rest.was; here = ap suc rest.here }

-- one watcher was told, in its place
pub told-at : {B : Type 0} (ear : B → Ear) (change : Change) (r : Result (Unit {0}) TellError) (xs : List B) (n : ℕ) (x y : B) → n < length xs → x ≡ get_or xs n x → Answers change r (ear x) (ear y)
    → TellsAt change r (map ear xs) (map ear (set xs n y)) n
told-at ear change r xs n x y inside is how =
    let s = split xs n inside in
    record {
      front = map ear s.front;
      before = ear s.item;
      after = ear y;
      back = map ear s.back;
      was = ap (map ear) s.was ∙ map-append ear s.front (s.item ∷ s.back);
      is = ap (λ z. map ear (set z n y)) s.was ∙ (ap (map ear) (set_at s.front s.item s.back y n s.here) ∙ map-append ear s.front (y ∷ s.back));
      here = length-map s.front ear ∙ s.here;
      answers = subst (λ z. Answers change r (ear z) (ear y)) (is ∙ (ap (λ z. get_or z n x) s.was ∙ get_or_at s.front s.item s.back x n s.here)) how;
    }

-- one watcher left the list
pub leaves-at : {B : Type 0} (ear : B → Ear) (xs new gs gone : List B) (n : ℕ) (x : B) → n < length xs → new ≡ remove xs n → x ≡ get_or xs n x → gone ≡ gs ++ x ∷ []
    → Leaves (map ear xs) (map ear new) (map ear gs) (map ear gone) n
leaves-at ear xs new gs gone n x inside less is more =
    let s = split xs n inside in
    let later : drop (suc n) xs ≡ s.back =
    ap (drop (suc n)) (s.was ∙ sym (append_assoc s.front (s.item ∷ []) s.back)) ∙ drop_at (s.front ++ s.item ∷ []) s.back (suc n) (let a = length-append s.front (s.item ∷ []) in let b = s.here in omega (arith, a, b)) in
    let earlier : take n xs ≡ s.front = ap (take n) s.was ∙ take_at s.front (s.item ∷ s.back) n s.here in
    let same : x ≡ s.item = is ∙ (ap (λ z. get_or z n x) s.was ∙ get_or_at s.front s.item s.back x n s.here) in
    record {
      front = map ear s.front;
      watcher = ear s.item;
      back = map ear s.back;
      was = ap (map ear) s.was ∙ map-append ear s.front (s.item ∷ s.back);
      is = ap (map ear) less ∙ ((λ i. map ear (earlier i ++ later i)) ∙ map-append ear s.front s.back);
      here = length-map s.front ear ∙ s.here;
      gone = ap (map ear) more ∙ (map-append ear gs (x ∷ []) ∙ ap (λ z. map ear gs ++ ear z ∷ []) same);
    }

-- ---- the watchers of a list

-- so many of those that are left were told
pub record Begun (change : Change) (old new was_gone now_gone : List Ear) (at : ℕ) : Type 0 where
  pub first : List Ear
  pub others : List Ear
  pub left : List Ear
  pub added : List Ear
  pub told : Told change first left added
  pub was : old ≡ first ++ others
  pub is : new ≡ left ++ others
  pub gone : now_gone ≡ was_gone ++ added
  pub here : length left ≡ at

pub begun-none : {B : Type 0} (ear : B → Ear) (change : Change) (list gone later : List B) → later ≡ gone → Begun change (map ear list) (map ear list) (map ear gone) (map ear later) 0
begun-none ear change list gone later same = record {
  first = [];
  others = map ear list;
  left = [];
  added = [];
  told = nobody;
  was = refl;
  is = refl;
  gone = ap (map ear) same ∙ sym (append-nil (map ear gone));
  here = refl;
}

told-heard : {change : Change} {first left added : List Ear} {was now : Ear} → Told change first left added → Hears change was now → Told change (first ++ was ∷ []) (left ++ now ∷ []) added
told-heard nobody h = hearer h nobody
told-heard (hearer g t) h = hearer g (told-heard t h)
told-heard (refuser g t) h = refuser g (told-heard t h)

told-refused : {change : Change} {first left added : List Ear} {was now : Ear} → Told change first left added → Refuses was now → Told change (first ++ was ∷ []) left (added ++ now ∷ [])
told-refused nobody h = refuser h nobody
told-refused (hearer g t) h = hearer g (told-refused t h)
told-refused (refuser g t) h = refuser g (told-refused t h)

head : {A : Type 0} {x y : A} {xs ys : List A} → x ∷ xs ≡ y ∷ ys → x ≡ y
head e = cc

tail : {A : Type 0} {x y : A} {xs ys : List A} → x ∷ xs ≡ y ∷ ys → xs ≡ ys
tail e = cc

-- both lists are split at one place
record Same (a b c d : List Ear) : Type 0 where
  front : a ≡ c
  back : b ≡ d

same : (a b c d : List Ear) → a ++ b ≡ c ++ d → length a ≡ length c → Same a b c d
same [] b [] d e l = record { front = refl; back = e }
same [] b (y ∷ c) d e l = absurd (omega (arith, l))
same (x ∷ a) b [] d e l = absurd (omega (arith, l))
same (x ∷ a) b (y ∷ c) d e l =
    let rest = same a b c d (tail e) (omega (arith, l)) in
    record { front = (λ i. head e i ∷ rest.front i); back = rest.back }

-- the next one was told, at its place
record Next (left others : List Ear) (front back : List Ear) (before : Ear) : Type 0 where
  same_front : left ≡ front
  same_back : others ≡ before ∷ back

next : {change : Change} {old new was_gone now_gone : List Ear} {at : ℕ} (b : Begun change old new was_gone now_gone at) (front back : List Ear) (before : Ear)
    → new ≡ front ++ before ∷ back → length front ≡ at → Next b.left b.others front back before
next b front back before e here =
    let s = same b.left b.others front (before ∷ back) (sym b.is ∙ e) (b.here ∙ sym here) in
    record { same_front = s.front; same_back = s.back }

-- one more heard it
pub begun-heard : (change : Change) (old new newer was_gone now_gone : List Ear) (at : ℕ) (r : Result (Unit {0}) TellError) (u : Unit {0}) → r ≡ Ok u → Begun change old new was_gone now_gone at → TellsAt change r new newer at
    → Begun change old newer was_gone now_gone (at + 1)
begun-heard change old new newer was_gone now_gone at r u ok b t =
    let n = next b t.front t.back t.before t.was t.here in
    let heard : Hears change t.before t.after = subst (λ z. Answers change z t.before t.after) ok t.answers in
    record {
      first = b.first ++ t.before ∷ [];
      others = t.back;
      left = b.left ++ t.after ∷ [];
      added = b.added;
      told = told-heard b.told heard;
      was = b.was ∙ (ap (λ z. b.first ++ z) n.same_back ∙ sym (append_assoc b.first (t.before ∷ []) t.back));
      is = t.is ∙ (ap (λ z. z ++ t.after ∷ t.back) (sym n.same_front) ∙ sym (append_assoc b.left (t.after ∷ []) t.back));
      gone = b.gone;
      here = let a = length-append b.left (t.after ∷ []) in let c = b.here in omega (arith, a, c);
    }

-- one more refused it, and left
pub begun-refused : (change : Change) (old new newer newest was_gone now_gone later_gone : List Ear) (at : ℕ) (r : Result (Unit {0}) TellError) → r ≡ Err errors.Refused
    → Begun change old new was_gone now_gone at → TellsAt change r new newer at → Leaves newer newest now_gone later_gone at → Begun change old newest was_gone later_gone at
begun-refused change old new newer newest was_gone now_gone later_gone at r refused b t l =
    let n = next b t.front t.back t.before t.was t.here in
    let s = same t.front (t.after ∷ t.back) l.front (l.watcher ∷ l.back) (sym t.is ∙ l.was) (t.here ∙ sym l.here) in
    let refuses : Refuses t.before t.after = subst (λ z. Answers change z t.before t.after) refused t.answers in
    record {
      first = b.first ++ t.before ∷ [];
      others = t.back;
      left = b.left;
      added = b.added ++ t.after ∷ [];
      told = told-refused b.told refuses;
      was = b.was ∙ (ap (λ z. b.first ++ z) n.same_back ∙ sym (append_assoc b.first (t.before ∷ []) t.back));
      is = l.is ∙ (λ i. (sym s.front ∙ sym n.same_front) i ++ sym (tail s.back) i);
      gone = l.gone ∙ ((λ i. b.gone i ++ sym (head s.back) i ∷ []) ∙ append_assoc was_gone b.added (t.after ∷ []));
      here = b.here;
    }

-- there was no room
pub wants-room : {B : Type 0} (ear : B → Ear) (change : Change) (list gone later : List B) (r : Result (Unit {0}) Wants) → OnOk r ⊥ → later ≡ gone
    → Tells change r (map ear list) (map ear list) (map ear gone) (map ear later)
wants-room ear change list gone later (Ok u) never same = absurd never
wants-room ear change list gone later (Err e) never same = record {
  first = [];
  others = map ear list;
  left = [];
  added = [];
  told = nobody;
  was = refl;
  is = refl;
  gone = ap (map ear) same ∙ sym (append-nil (map ear gone));
  all = tt;
  wants = λ none. refl;
}
