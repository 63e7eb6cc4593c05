-- Scopes that are opened and closed.
use Rattle.std.proofs.Common.{◌≡◌, Bool, [], ◌∷◌, ◌++◌, ap, ◌∙◌, append_assoc}
use Rattle.sv_scopes.specs.declared.found.Around.{Around}
use Rattle.sv_scopes.specs.Parts.{Parts, Finds, followed, names_of, handed, made, closed}

-- one thing is found behind another
pub finds_two : (p0 p1 p2 a b : Parts) → Finds p0 p1 a → Finds p1 p2 b → Finds p0 p2 (followed a b)
finds_two p0 p1 p2 a b f g = record {
  declares = g.declares ∙ ap (λ z. z ++ b.declares) f.declares ∙ append_assoc p0.declares a.declares b.declares;
  uses = g.uses ∙ ap (λ z. z ++ b.uses) f.uses ∙ append_assoc p0.uses a.uses b.uses;
  scopes = g.scopes ∙ ap (λ z. z ++ b.scopes) f.scopes ∙ append_assoc p0.scopes a.scopes b.scopes;
}

-- what is found in a scope that was opened is found round it as the scope
pub finds_closed : (is_arrow : Bool) (p0 p1 p2 p3 p : Parts) (around : Around) → around ≡ record { declares = p0.declares; uses = p0.uses } → p1 ≡ record { declares = []; uses = []; scopes = p0.scopes }
    → Finds p1 p2 p → Finds (record { declares = around.declares; uses = around.uses; scopes = [] }) p3 (closed is_arrow p2) → Finds p0 p3 (closed is_arrow p)
unfolding closed
finds_closed is_arrow p0 p1 p2 p3 p around same empty inside out =
    let declares : p2.declares ≡ p.declares = inside.declares ∙ ap (λ z. z.declares ++ p.declares) empty in
    let uses : p2.uses ≡ p.uses = inside.uses ∙ ap (λ z. z.uses ++ p.uses) empty in
    let scopes : p2.scopes ≡ p0.scopes ++ p.scopes = inside.scopes ∙ ap (λ z. z.scopes ++ p.scopes) empty in
    record {
      declares = out.declares ∙ ap (λ z. z.declares ++ []) same;
      uses = out.uses ∙ ap (λ z. z.uses ++ handed is_arrow (names_of p2.declares) p2.uses) same
          ∙ ap (λ z. p0.uses ++ handed is_arrow (names_of z) p2.uses) declares ∙ ap (λ z. p0.uses ++ handed is_arrow (names_of p.declares) z) uses;
      scopes = out.scopes ∙ ap (λ z. z ++ made p2 ∷ []) scopes
          ∙ ap (λ z. (p0.scopes ++ p.scopes) ++ record { declares = z; uses = p2.uses } ∷ []) declares
          ∙ ap (λ z. (p0.scopes ++ p.scopes) ++ record { declares = p.declares; uses = z } ∷ []) uses
          ∙ append_assoc p0.scopes p.scopes (made p ∷ []);
    }
