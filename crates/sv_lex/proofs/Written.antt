-- One written character more, or none.
use Rattle.std.proofs.Common.{◌≡◌, ◌≤◌, ◌-◌, ℕ, zero, suc, List, [], ◌∷◌, ◌++◌, length, drop, refl, ap, sym, ◌∙◌, arith, append_assoc}
use Rattle.std.specs.Prelude.{Some, None, encode_utf8_all}
use Rattle.std.specs.Char.{encode_utf8}
use Rattle.sv_lex.specs.declared.strings.Quote.{Quote}
use Rattle.sv_lex.specs.Literals.{text_of}
use Rattle.sv_lex.specs.Strings.{written, chars_by, then_more}
use Rattle.sv_lex.proofs.Runs.{drop-one}

chars_by-drop : (quote : Quote) (n : ℕ) (z : List ℕ) → chars_by quote n z ≡ chars_by quote 0 (drop n z)
unfolding chars_by
chars_by-drop quote zero z = refl
chars_by-drop quote (suc n) [] = refl
chars_by-drop quote (suc n) (b ∷ z) = chars_by-drop quote n z

chars-none : (quote : Quote) (z : List ℕ) → written quote z ≡ None → chars_by quote 0 z ≡ []
unfolding chars_by
chars-none quote [] h = refl
chars-none quote (b ∷ z) h = ap (λ o. then_more o (λ left. chars_by quote left z)) h

chars-some : (quote : Quote) (z : List ℕ) (c n : ℕ) → written quote z ≡ Some (c, n) → 1 ≤ n → n ≤ length z → chars_by quote 0 z ≡ c ∷ chars_by quote 0 (drop n z)
unfolding chars_by
chars-some quote [] c n h some within = absurd (omega arith)
chars-some quote (b ∷ z) c n h some within =
    ap (λ o. then_more o (λ left. chars_by quote left z)) h
    ∙ ap (λ cs. c ∷ cs) (chars_by-drop quote (n - 1) z ∙ ap (chars_by quote 0) (drop-one n b z (λ e. absurd (omega arith))))

pub text_of-none : (quote : Quote) (z : List ℕ) → written quote z ≡ None → text_of quote z ≡ []
unfolding text_of
text_of-none quote z h = ap encode_utf8_all (chars-none quote z h)

pub text_of-some : (quote : Quote) (z : List ℕ) (c n : ℕ) → written quote z ≡ Some (c, n) → 1 ≤ n → n ≤ length z → text_of quote z ≡ encode_utf8 c ++ text_of quote (drop n z)
unfolding text_of
text_of-some quote z c n h some within = ap encode_utf8_all (chars-some quote z c n h some within)

-- what was read, and what is left to read
pub text_of-step : (quote : Quote) (z whole before after : List ℕ) (c n : ℕ) → written quote z ≡ Some (c, n) → 1 ≤ n → n ≤ length z
    → before ++ text_of quote z ≡ whole → after ≡ before ++ encode_utf8 c → after ++ text_of quote (drop n z) ≡ whole
text_of-step quote z whole before after c n h some within e f =
    ap (λ t. t ++ text_of quote (drop n z)) f ∙ append_assoc before (encode_utf8 c) (text_of quote (drop n z))
    ∙ ap (λ t. before ++ t) (sym (text_of-some quote z c n h some within)) ∙ e
