-- Two values are one tree exactly where their data is.
use Rattle.std.proofs.Common.{◌≡◌, ◌↔◌, Bool, true, IsTrue, refl, sym, ap, ◌∙◌}
use Rattle.std.proofs.lemmas.Bool.{eqb-true, eq-eqb, and_parts, and_from, true≢false}
use Rattle.std.specs.Bool.{one_answer}
use base.Stored.{Gv, gnil, gnum, gcons}
use Rattle.sv_flush.specs.Same.{same, same_data}
use Rattle.sv_value.specs.Stored.{val_code}
use Rattle.sv_value.specs.Value.{Val}

itself : (g : Gv) → same_data g g ≡ true
itself gnil = refl
itself (gnum n) = eq-eqb n n refl
itself (gcons a b) = and_from _ _ (itself a) (itself b)

only : (g h : Gv) → same_data g h ≡ true → g ≡ h
only gnil gnil e = refl
only gnil (gnum n) e = absurd (true≢false (sym e))
only gnil (gcons c d) e = absurd (true≢false (sym e))
only (gnum m) gnil e = absurd (true≢false (sym e))
only (gnum m) (gnum n) e = ap gnum (eqb-true m n e)
only (gnum m) (gcons c d) e = absurd (true≢false (sym e))
only (gcons a b) gnil e = absurd (true≢false (sym e))
only (gcons a b) (gnum n) e = absurd (true≢false (sym e))
only (gcons a b) (gcons c d) e =
    let both = and_parts (same_data a c) (same_data b d) e in
    ap (λ x. gcons x b) (only a c both.0) ∙ ap (gcons c) (only b d both.1)

-- an answer that is true exactly for equal values
pub same-is : (b : Bool) (u v : Val) → (IsTrue b ↔ (u ≡ v)) → b ≡ same u v
unfolding same
same-is b u v both = one_answer b (same u v) both (λ e. val_code.inj u v (only (val_code.code u) (val_code.code v) e), λ e. ap (λ x. same_data (val_code.code u) (val_code.code x)) (sym e) ∙ itself (val_code.code u))
