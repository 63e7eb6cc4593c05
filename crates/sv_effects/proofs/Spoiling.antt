-- Chains of calls that lead to stained bodies.
use Rattle.std.proofs.Common.{◌≡◌, ℕ, ◌<◌, Bool, true, false, List, [], ◌∷◌, Some, length, map, get_or, inl, inr, refl, sym, ap, ◌∙◌, subst, arith}
use Rattle.std.specs.Prelude.{All, is_some, slice_get, slice_index_or}
use Rattle.std.specs.List.{range_with_len}
use Rattle.std.proofs.lemmas.Bool.{false≢true}
use Rattle.std.proofs.lemmas.List.Elements.{All-from_get_or}
use Rattle.std.proofs.lemmas.Option.{slice_get_cases}
use Rattle.sv_ast.specs.declared.files.Bundle.{Bundle}
use Rattle.sv_ast.specs.declared.names.Ref.{Ref}
use Rattle.sv_effects.specs.declared.functions.Function.{Function}
use Rattle.sv_effects.specs.declared.stains.Calls.{Calls as Found}
use Rattle.sv_effects.specs.Calls.{AreCalls}
use Rattle.sv_effects.specs.Functions.{functions}
use Rattle.sv_names.specs.NameMap.{Entries}
use Rattle.sv_effects.specs.Known.{names_without, known}
use Rattle.sv_effects.specs.Stains.{LeadsToStain, stained, calling, ArePure}
use Rattle.sv_graph.specs.Links.{is_in, links_of, IsWhole}
use Rattle.sv_graph.specs.Reached.{Leads, start, further, IsReached}
use Rattle.sv_graph.specs.Search.{met_at}
use Rattle.sv_graph.proofs.Turning.{in_at}

-- a function that is there
abbrev Got : List Function → ℕ → Type 0
Got fs p = (f : Function) × (slice_get fs p ≡ Some f)

got : (fs : List Function) (p : ℕ) → is_some (slice_get fs p) ≡ true → Got fs p
got fs p h = elim (slice_get_cases fs p).1 [ inl there ↦ (there.0, there.2) | inr past ↦ absurd (false≢true (sym (ap is_some past.1) ∙ h)) ]

some_within : (fs : List Function) (p : ℕ) → is_some (slice_get fs p) ≡ true → p < length fs
some_within fs p h = elim (slice_get_cases fs p).1 [ inl there ↦ there.1 | inr past ↦ absurd (false≢true (sym (ap is_some past.1) ∙ h)) ]

-- callers are functions
pub calls_whole : (bundle : Bundle) (found : Found) (links : List (List ℕ)) → AreCalls bundle found → links ≡ found.callers.items → IsWhole links
calls_whole bundle found links a e = record {
  within = λ p q h.
      let inside : q < length (functions bundle) = some_within (functions bundle) q (a.callers_within q p (subst (λ z. is_in q (links_of z p) ≡ true) e h)) in
      omega (arith, inside, a.size, ap length e);
}

-- and so are stained bodies
pub stained_below : (bundle : Bundle) (found : Found) (links : List (List ℕ)) (points : List ℕ) → AreCalls bundle found → links ≡ found.callers.items → points ≡ found.stained.items → All (λ p. p < length links) points
stained_below bundle found links points a e s =
    All-from_get_or (λ (p : ℕ). p < length links) points 0 (λ i h.
    let inside : get_or points i 0 < length (functions bundle) = some_within (functions bundle) (get_or points i 0) (a.stained_within (get_or points i 0) (subst (λ z. is_in (get_or points i 0) z ≡ true) s (in_at points i 0 h))) in
    omega (arith, inside, a.size, ap length e))

-- what callers lead to from stained bodies leads to these by calls
leads_only : (bundle : Bundle) (found : Found) → AreCalls bundle found → {p : ℕ} → Leads (links_of found.callers.items) found.stained.items p → LeadsToStain bundle p
leads_only bundle found a {p = p} (start h) = let g = got (functions bundle) p (a.stained_within p h) in stained g.0 g.1 (sym (a.stained p g.0 g.1) ∙ h)
leads_only bundle found a (further {p = p} {q = q} way h) = let g = got (functions bundle) q (a.callers_within q p h) in calling g.0 g.1 (sym (a.callers q p g.0 g.1) ∙ h) (leads_only bundle found a way)

leads_each : (bundle : Bundle) (found : Found) → AreCalls bundle found → {p : ℕ} → LeadsToStain bundle p → Leads (links_of found.callers.items) found.stained.items p
leads_each bundle found a {p = p} (stained f g e) = start (a.stained p f g ∙ e)
leads_each bundle found a {p = p} (calling {q = q} f g i way) = further (leads_each bundle found a way) (a.callers p q f g ∙ i)

map_twice : {X Y Z : Type 0} (f : Y → Z) (g : X → Y) (xs : List X) → map f (map g xs) ≡ map (λ x. f (g x)) xs
map_twice f g [] = refl
map_twice f g (x ∷ xs) = ap (λ l. f (g x) ∷ l) (map_twice f g xs)

-- the names of functions that no stained body is reached from
pub are_pure : (bundle : Bundle) (found : Found) (links : List (List ℕ)) (points : List ℕ) (count : ℕ) (met told : List Bool) (table : List Entries) (lists : List (List Ref)) → AreCalls bundle found → links ≡ found.callers.items → points ≡ found.stained.items
    → IsReached (links_of links) points count met → told ≡ met → table ≡ map (known bundle) (range_with_len 0 (length bundle.files)) → lists ≡ map (names_without (λ p. slice_index_or told p false)) table → ArePure bundle lists
are_pure bundle found links points count met told table lists a e s r same t l =
    let reached : IsReached (links_of found.callers.items) found.stained.items count met = subst (λ z. IsReached (links_of found.callers.items) z count met) s (subst (λ z. IsReached (links_of z) points count met) e r) in
    record {
      spoiled = met_at met;
      only = λ p h. leads_only bundle found a (reached.only p h);
      each = λ p h. reached.each p (leads_each bundle found a h);
      is = l ∙ ap (λ z. map (names_without (met_at z)) table) same ∙ ap (map (names_without (met_at met))) t ∙ map_twice (names_without (met_at met)) (known bundle) (range_with_len 0 (length bundle.files));
    }
