-- Subscribers told one after the other.
use Rattle.std.proofs.Common.{◌≡◌, ℕ, zero, suc, ◌+◌, ◌<◌, ◌≤◌, List, [], ◌∷◌, drop, length, map, get_or, refl, sym, ap, ◌∙◌, arith, ⊎_elim}
use Rattle.std.proofs.lemmas.Bool.{cases_Bool}
use Rattle.std.proofs.lemmas.List.{drop_more, drop_all, length-map}
use Rattle.sv_value.specs.Value.{Val}
use Rattle.sv_store.specs.Stores.{Subscriber, Store, subscribers_at}
use Rattle.sv_store.specs.Kept.{subscriber_of}
use Rattle.sv_store.specs.declared.stores.Sub.{Sub}
use Rattle.sv_states.specs.States.{States, live}
use Rattle.sv_states.specs.Assignment.{taken, told, changes_in}

-- taking a value changes no store
pub stores-taken : (s : States) (p : Subscriber) (v : Val) → (taken s p v).stores ≡ s.stores
stores-taken s p v = ⊎_elim (λ b. rw b refl) (λ b. rw b refl) (cases_Bool (changes_in (live s p.inst) p.cell v))

-- one subscriber more was told
pub told-more : (subscribers : List Subscriber) (index : ℕ) (p : Subscriber) (v : Val) (s t u : States) → index < length subscribers → get_or subscribers index p ≡ p → told (drop index subscribers) v s ≡ u → t ≡ taken s p v → told (drop (index + 1) subscribers) v t ≡ u
told-more subscribers index p v s t u inside is e next =
    ap (told (drop (index + 1) subscribers) v) next
    ∙ ap (λ q. told (drop (index + 1) subscribers) v (taken s q v)) (sym is)
    ∙ sym (ap (λ l. told l v s) (drop_more subscribers index p inside)) ∙ e

pub told-all : (subscribers : List Subscriber) (index : ℕ) (v : Val) (s u : States) → length subscribers ≤ index → told (drop index subscribers) v s ≡ u → s ≡ u
told-all subscribers index v s u past e = sym (ap (λ l. told l v s) (drop_all index subscribers past)) ∙ e

get_or-map : {A B : Type 0} (f : A → B) (xs : List A) (n : ℕ) (d : A) (e : B) → n < length xs → get_or (map f xs) n e ≡ f (get_or xs n d)
get_or-map f [] n d e h = absurd (omega arith)
get_or-map f (z ∷ xs) zero d e h = refl
get_or-map f (z ∷ xs) (suc n) d e h = get_or-map f xs n d e (omega arith)

-- the same by the subscribers as they are kept
module _ (stores now : List Store) (id index : ℕ) (xs : List Sub) (d : Sub) (v w : Val) (s t u : States) (read : map subscriber_of xs ≡ subscribers_at now id) (kept : now ≡ stores) (inside : index < length xs) (same : w ≡ v) (next : t ≡ taken s (subscriber_of (get_or xs index d)) w) where
  pub tell_more : told (drop index (subscribers_at stores id)) v s ≡ u → told (drop (index + 1) (subscribers_at stores id)) v t ≡ u
  tell_more e =
      let subscribers : map subscriber_of xs ≡ subscribers_at stores id = read ∙ ap (λ l. subscribers_at l id) kept in
      let p = subscriber_of (get_or xs index d) in
      told-more (subscribers_at stores id) index p v s t u
      (omega (arith, inside, length-map xs subscriber_of, ap length subscribers))
      (sym (ap (λ l. get_or l index p) subscribers) ∙ get_or-map subscriber_of xs index d p inside)
      e (next ∙ ap (taken s p) same)

  pub tell_stores : s.stores ≡ stores → t.stores ≡ stores
  tell_stores e = ap (λ x. x.stores) next ∙ stores-taken s (subscriber_of (get_or xs index d)) w ∙ e
