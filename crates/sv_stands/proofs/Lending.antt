-- What steps lend, one after another.
use Rattle.std.proofs.lemmas.List.{append-nil}
use Rattle.std.proofs.Common.{◌≡◌, ◌⊎◌, inl, inr, List, [], ◌∷◌, ◌++◌, Some, None, sym, ap, ◌∙◌, append_assoc}
use Rattle.sv_code.proofs.Each.{each_append, each_mono}
use Rattle.sv_code.specs.Names.{Each}
use Rattle.sv_code.specs.declared.program.Program.{Program}
use Rattle.sv_parts.specs.declared.state.Effect.{Effect}
use Rattle.sv_parts.specs.declared.state.Effect.TheVariants.{Create, Set, Destroy}
use Rattle.sv_parts.specs.declared.state.Kept.{Kept}
use Rattle.sv_parts.specs.declared.state.State.{State}
use Rattle.sv_places.proofs.Changes.{Quiet}
use Rattle.sv_places.proofs.Quiet.{quiet-same}
use Rattle.sv_stands.specs.Holds.{Hold}
use Rattle.sv_places.specs.Any.{Any}
use Rattle.sv_stands.specs.Lent.{Makes, Lends, Keeps, StaysLent, GoesOn, IsLent, IsMade, IsFor, IsKept, AreLent, PlanLends, PlanMakes}

-- ---- facts of one of some things

pub any_front : {A : Type 0} (Q : A → Type 0) (xs ys : List A) → Any Q xs → Any Q (xs ++ ys)
any_front Q [] ys h = elim h [ ]
any_front Q (x ∷ xs) ys (inl q) = inl q
any_front Q (x ∷ xs) ys (inr h) = inr (any_front Q xs ys h)

pub any_back : {A : Type 0} (Q : A → Type 0) (xs ys : List A) → Any Q ys → Any Q (xs ++ ys)
any_back Q [] ys h = h
any_back Q (x ∷ xs) ys h = inr (any_back Q xs ys h)

pub any_mono : {A : Type 0} (Q R : A → Type 0) → ((x : A) → Q x → R x) → (xs : List A) → Any Q xs → Any R xs
any_mono Q R f [] h = elim h [ ]
any_mono Q R f (x ∷ xs) (inl q) = inl (f x q)
any_mono Q R f (x ∷ xs) (inr h) = inr (any_mono Q R f xs h)

any_both : {A : Type 0} (Q : A → Type 0) (R : Type 0) (xs ys : List A) → (Any Q xs → R) → (Any Q ys → R) → Any Q (xs ++ ys) → R
any_both Q R [] ys f g h = g h
any_both Q R (x ∷ xs) ys f g (inl q) = f (inl q)
any_both Q R (x ∷ xs) ys f g (inr h) = any_both Q R xs ys (λ q. f (inr q)) g h

-- each of some things is among others
pub record Within {A : Type 0} (xs ys : List A) : Type 1 where
  pub into : (Q : A → Type 0) → Any Q xs → Any Q ys

pub within_same : {A : Type 0} (xs : List A) → Within xs xs
within_same xs = record { into = λ Q h. h }

pub within_front : {A : Type 0} (xs ys : List A) → Within xs (xs ++ ys)
within_front xs ys = record { into = λ Q h. any_front Q xs ys h }

pub within_back : {A : Type 0} (xs ys : List A) → Within ys (xs ++ ys)
within_back xs ys = record { into = λ Q h. any_back Q xs ys h }

pub within_on : {A : Type 0} (xs ys zs : List A) → Within xs ys → Within ys zs → Within xs zs
within_on xs ys zs h k = record { into = λ Q q. k.into Q (h.into Q q) }

pub within_none : {A : Type 0} (ys : List A) → Within [] ys
within_none ys = record { into = λ Q h. elim h [ ] }

pub within_both : {A : Type 0} (xs ys zs : List A) → Within xs zs → Within ys zs → Within (xs ++ ys) zs
within_both xs ys zs h k = record { into = λ Q q. any_both Q (Any Q zs) xs ys (h.into Q) (k.into Q) q }

-- ---- what is lent

module _ (p : Program) where
  goes_on : (few all : List Effect) (kept stay : List Kept) → Within few all → Within kept stay → (h old : Hold) → GoesOn p few kept h old → GoesOn p all stay h old
  goes_on few all kept stay w u h old g = record { place = g.place; tag = g.tag; tags = g.tags; stays = u.into (Keeps h) g.stays; lent = by g.lent }
    where
      by : Any (Lends h) few ⊎ StaysLent p h.tag old.view h.view → Any (Lends h) all ⊎ StaysLent p h.tag old.view h.view
      by (inl q) = inl (w.into (Lends h) q)
      by (inr q) = inr q

  -- more effects, more places that stay, and more holds that were there
  lent_more : (few all : List Effect) (kept stay : List Kept) (olds befores : List Hold) → Within few all → Within kept stay → Within olds befores → (h : Hold) → IsLent p few kept olds h → IsLent p all stay befores h
  lent_more few all kept stay olds befores w u b h (inl q) = inl (w.into (Makes h) q)
  lent_more few all kept stay olds befores w u b h (inr q) = inr (b.into (GoesOn p all stay h) (any_mono (GoesOn p few kept h) (GoesOn p all stay h) (λ old g. goes_on few all kept stay w u h old g) olds q))

  -- more holds that there are
  for_more : (news all : List Hold) → Within news all → (e : Effect) → IsFor news e → IsFor all e
  for_more news all w (Create place tag props view) q = w.into (λ h. Makes h (Create place tag props view)) q
  for_more news all w (Set place props None) q = tt
  for_more news all w (Set place props (Some view)) q = w.into (λ h. Lends h (Set place props (Some view))) q
  for_more news all w (Destroy place) q = tt

  all_more : (few all : List Effect) (kept stay : List Kept) (olds befores news : List Hold) → Within few all → Within kept stay → Within olds befores → Each (IsLent p few kept olds) news → Each (IsLent p all stay befores) news
  all_more few all kept stay olds befores news w u b h = each_mono (IsLent p few kept olds) (IsLent p all stay befores) (λ x q. lent_more few all kept stay olds befores w u b x q) news h

  all_for : (news all : List Hold) → Within news all → (es : List Effect) → Each (IsFor news) es → Each (IsFor all) es
  all_for news all w es h = each_mono (IsFor news) (IsFor all) (λ e q. for_more news all w e q) es h

  all_kept : (news all : List Hold) → Within news all → (ks : List Kept) → Each (IsKept news) ks → Each (IsKept all) ks
  all_kept news all w ks h = each_mono (IsKept news) (IsKept all) (λ k q. w.into (λ h. Keeps h k) q) ks h

  pub lent_within : (olds befores news : List Hold) (s t : State) → Within olds befores → PlanLends p olds news s t → PlanLends p befores news s t
  lent_within olds befores news s t b k = record {
    effects = k.effects;
    kept = k.kept;
    effects_are = k.effects_are;
    kept_are = k.kept_are;
    all = record { lent = all_more k.effects k.effects k.kept k.kept olds befores news (within_same k.effects) (within_same k.kept) b k.all.lent; effects_for = k.all.effects_for; kept_for = k.all.kept_for };
  }

  both_lent : (es es' : List Effect) (ks ks' : List Kept) (olds news olds' news' : List Hold) → AreLent p es ks olds news → AreLent p es' ks' olds' news' → AreLent p (es ++ es') (ks ++ ks') (olds ++ olds') (news ++ news')
  both_lent es es' ks ks' olds news olds' news' k l = record {
    lent =
        each_append (IsLent p (es ++ es') (ks ++ ks') (olds ++ olds')) news news'
        (all_more es (es ++ es') ks (ks ++ ks') olds (olds ++ olds') news (within_front es es') (within_front ks ks') (within_front olds olds') k.lent)
        (all_more es' (es ++ es') ks' (ks ++ ks') olds' (olds ++ olds') news' (within_back es es') (within_back ks ks') (within_back olds olds') l.lent);
    effects_for = each_append (IsFor (news ++ news')) es es' (all_for news (news ++ news') (within_front news news') es k.effects_for) (all_for news' (news ++ news') (within_back news news') es' l.effects_for);
    kept_for = each_append (IsKept (news ++ news')) ks ks' (all_kept news (news ++ news') (within_front news news') ks k.kept_for) (all_kept news' (news ++ news') (within_back news news') ks' l.kept_for);
  }

  -- one step and then another
  pub lent_on : (olds news olds' news' : List Hold) (s t u : State) → PlanLends p olds news s t → PlanLends p olds' news' t u → PlanLends p (olds ++ olds') (news ++ news') s u
  lent_on olds news olds' news' s t u k l = record {
    effects = k.effects ++ l.effects;
    kept = k.kept ++ l.kept;
    effects_are = l.effects_are ∙ (ap (λ z. z ++ l.effects) k.effects_are ∙ append_assoc s.effects k.effects l.effects);
    kept_are = l.kept_are ∙ (ap (λ z. z ++ l.kept) k.kept_are ∙ append_assoc s.kept k.kept l.kept);
    all = both_lent k.effects l.effects k.kept l.kept olds news olds' news' k.all l.all;
  }

  -- ---- steps beside which no hold stands

  -- nothing is made and nothing is lent
  abbrev pub Silent : State → State → Type 0
  Silent s t = PlanLends p [] [] s t

  -- effects are added that are for no hold
  pub silent_added : (s t : State) (effects : List Effect) → t.effects ≡ s.effects ++ effects → t.kept ≡ s.kept → Each (IsFor []) effects → Silent s t
  silent_added s t effects e k q = record { effects = effects; kept = []; effects_are = e; kept_are = k ∙ sym (append-nil s.kept); all = record { lent = tt; effects_for = q; kept_for = tt } }

  pub quiet_silent : (s t : State) → Quiet s t → Silent s t
  quiet_silent s t q = silent_added s t [] (q.effects ∙ sym (append-nil s.effects)) q.kept tt

  pub silent_same : (s : State) → Silent s s
  silent_same s = quiet_silent s s (quiet-same s)

  pub silent_on : (s t u : State) → Silent s t → Silent t u → Silent s u
  silent_on s t u k l = lent_on [] [] [] [] s t u k l

  pub lent_none : (olds : List Hold) (s t : State) → Silent s t → PlanLends p olds [] s t
  lent_none olds s t k = lent_within [] olds [] s t (within_none olds) k

  pub lent_after : (olds news : List Hold) (s t u : State) → Silent s t → PlanLends p olds news t u → PlanLends p olds news s u
  lent_after olds news s t u k l = lent_on [] [] olds news s t u k l

  -- ---- where no hold was there, each is made

  made_from : (effects : List Effect) (kept : List Kept) (h : Hold) → IsLent p effects kept [] h → IsMade effects h
  made_from effects kept h (inl q) = q
  made_from effects kept h (inr q) = elim q [ ]

  pub lent_made : (news : List Hold) (s t : State) → PlanLends p [] news s t → PlanMakes news s t
  lent_made news s t k = record {
    effects = k.effects;
    effects_are = k.effects_are;
    all = record { made = each_mono (IsLent p k.effects k.kept []) (IsMade k.effects) (λ h q. made_from k.effects k.kept h q) news k.all.lent; effects_for = k.all.effects_for };
  }
