-- Comments, scripts and styles tell.
use Rattle.std.proofs.Common.{◌≡◌, ◌≤◌, ◌+◌, ℕ, suc, Bool, true, false, cond, List, [], ◌∷◌, length, take, drop, refl, ap, sym, ◌∙◌, subst, arith, length-drop, length-append}
use Rattle.std.proofs.lemmas.List.{take-append-drop}
use Rattle.std.specs.Prelude.{◌==◌, codes, Option, Some, None, Ok, Err}
use Rattle.sv_ast.specs.declared.script_tree.Stmt.{Stmt}
use Rattle.sv_lex.specs.Literals.{moved}
use Rattle.sv_lex.specs.Reader.{Input, Outcome, and_then}
use Rattle.sv_expr.specs.Limits.{real}
use Rattle.sv_script.specs.Script.{component}
use Rattle.sv_tags.specs.declared.classes.Class.TheVariants.{Blank}
use Rattle.sv_tags.specs.Classes.{first, begins, before, one_more, front_len}
use Rattle.sv_tags.specs.Raw as r
use Rattle.sv_tags.specs.Raw.{comment, tag_end, has_attribute, cut, behind, script_inside, script, style_inside, style}
use Rattle.sv_tags.proofs.Bytes.{same}
use Rattle.sv_tags.proofs.Finds.{begins-split}
use Rattle.sv_blame.specs.LeftOut.{BeginsLeftOut}
use Rattle.sv_blame.specs.Places.{Placed, begins_open}
use Rattle.sv_blame.specs.Stands.{Stands}
use Rattle.sv_blame.proofs.Frame as frame
use Rattle.sv_blame.proofs.Frame.{Any, Tells, tells_from, tells_then, tells_if, stops}
use Rattle.sv_blame.proofs.Onward.{At, Fits, on, here, syntax, unclosed, left_out, some_first, front_within}
use Rattle.sv_blame.proofs.Scripts.{component_tells}
use Rattle.sv_blame.proofs.Stands as stands

pub begins_within : (w z : List ℕ) → begins w z ≡ true → length w ≤ length z
begins_within w z h = let whole = ap length (begins-split w z h) in let sizes = length-append w (drop (length w) z) in omega arith

pub before_within : (w z : List ℕ) (n : ℕ) → before w z ≡ Some n → n + length w ≤ length z
unfolding before
before_within w [] n h = absurd (cc)
before_within w (b ∷ z) n h = by (begins w (b ∷ z)) refl (before w z) h (λ m e. before_within w z m e)
  where
    by : (t : Bool) → begins w (b ∷ z) ≡ t → (o : Option ℕ) → cond t (Some 0) (one_more o) ≡ Some n → ((m : ℕ) → o ≡ Some m → m + length w ≤ length z)
        → n + length w ≤ suc (length z)
    by true e o h more = let fits = begins_within w (b ∷ z) e in let first : 0 ≡ n = cc in omega arith
    by false e None h more = absurd (cc)
    by false e (Some m) h more = let fits = more m refl in let one : m + 1 ≡ n = cc in omega arith

-- what is left of a text that is cut off
cut_stands : (bytes : List ℕ) (number n : ℕ) (i : Input) → At bytes number i → n ≤ length i.text → Stands bytes (drop n i.text) number (cut n i)
cut_stands bytes number n i at le =
    let size = at.size in let parts = length-append (take n i.text) (drop n i.text) in let whole = ap length (take-append-drop n i.text) in
    record { text = take-append-drop n i.text ∙ sym (here bytes number i at); size = omega arith; file = at.file }

module _ (bytes : List ℕ) (number : ℕ) where
  pub comment_tells : (i : Input) → At bytes number i → Fits bytes number i (comment i)
  unfolding comment
  comment_tells i at = by (before (codes "-->") (drop 4 i.text)) refl
    where
      by : (x : Option ℕ) → before (codes "-->") (drop 4 i.text) ≡ x → Fits bytes number i (r.commented x i)
      by None e = stops (syntax bytes number i.at i at (omega arith))
      by (Some n) e =
          let fits : n + 3 ≤ length (drop 4 i.text) = before_within (codes "-->") (drop 4 i.text) n e in let size = length-drop 4 i.text in
          (frame.goes (on bytes number (n + 7) i at (omega arith)) (omega arith) tt)

  pub tag_end_tells : (i : Input) → At bytes number i → Fits bytes number i (tag_end i)
  unfolding tag_end
  tag_end_tells i at =
      let n = front_len Blank i.text in
      let j = moved n i in
      let s = on bytes number n i at (front_within Blank i.text) in
      tells_if Any (first j.text == 62) _ _
      (λ e. frame.goes (on bytes number 1 j s (some_first bytes number 62 j (same (first j.text) 62 e) (omega arith))) (omega arith) tt)
      (λ e. stops (syntax bytes number j.at j s (omega arith)))

  -- ---- scripts

  -- behind a script that was read by itself
  back : (n : ℕ) (i : Input) → At bytes number i → n + 9 ≤ length i.text → (x : Outcome (List Stmt))
      → Tells (Stands bytes (drop n i.text) number) (Placed bytes number) Any (cut n i) x
      → Fits bytes number i (and_then x (λ found o. Ok (found, behind (n + 9) i o)))
  back n i at le (Ok p) h =
      let s = on bytes number (n + 9) i at le in
      (frame.goes (record { text = s.text; size = s.size; file = h.is.0.stands.file }) (omega arith) tt)
  back n i at le (Err e) h = stops h.is

  module _ (from : ℕ) (shown_open : begins_open (drop from bytes) ≡ true) where
    script_inside_tells : (i : Input) → At bytes number i → from ≤ i.at → Fits bytes number i (script_inside real from i)
    unfolding script_inside
    script_inside_tells i at low = by (before (codes "</script>") i.text) refl
      where
        by : (x : Option ℕ) → before (codes "</script>") i.text ≡ x → Fits bytes number i (r.script_before real from x i)
        by None e = stops (unclosed bytes number from i at low shown_open)
        by (Some n) e =
            let fits : n + 9 ≤ length i.text = before_within (codes "</script>") i.text n e in
            back n i at fits (component real (cut n i))
            (component_tells real (stands.frame bytes (drop n i.text) number) (cut n i) (cut_stands bytes number n i at (omega arith)) (omega arith))

    style_inside_tells : (i : Input) → At bytes number i → from ≤ i.at → Fits bytes number i (style_inside from i)
    unfolding style_inside
    style_inside_tells i at low = by (before (codes "</style>") i.text) refl
      where
        by : (x : Option ℕ) → before (codes "</style>") i.text ≡ x → Fits bytes number i (r.style_before from x i)
        by None e = stops (unclosed bytes number from i at low shown_open)
        by (Some n) e =
            let fits : n + 8 ≤ length i.text = before_within (codes "</style>") i.text n e in
            (frame.goes (on bytes number (n + 8) i at fits) (omega arith) tt)

  pub script_tells : (i : Input) → At bytes number i → 7 ≤ length i.text → begins_open i.text ≡ true → BeginsLeftOut i.text → Fits bytes number i (script real i)
  unfolding script
  script_tells i at fits shown_open out =
      let same = here bytes number i at in
      let s = on bytes number 7 i at fits in
      let le : i.at ≤ (moved 7 i).at = omega arith in
      tells_if Any (has_attribute (drop 7 i.text)) _ _ (λ e. stops (left_out bytes number i.at i at (omega arith) (subst BeginsLeftOut (sym same) out)))
      (λ e. tells_then Any Any (tag_end (moved 7 i)) _ (tells_from Any (tag_end (moved 7 i)) le (tag_end_tells (moved 7 i) s))
      (λ u j s low q. tells_from Any (script_inside real i.at j) low (script_inside_tells i.at (ap begins_open same ∙ shown_open) j s low)))

  pub style_tells : (i : Input) → At bytes number i → 6 ≤ length i.text → begins_open i.text ≡ true → Fits bytes number i (style i)
  unfolding style
  style_tells i at fits shown_open =
      let same = here bytes number i at in
      let s = on bytes number 6 i at fits in
      let le : i.at ≤ (moved 6 i).at = omega arith in
      tells_then Any Any (tag_end (moved 6 i)) _ (tells_from Any (tag_end (moved 6 i)) le (tag_end_tells (moved 6 i) s))
      (λ u j s low q. tells_from Any (style_inside i.at j) low (style_inside_tells i.at (ap begins_open same ∙ shown_open) j s low))
