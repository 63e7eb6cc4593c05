-- A name that is numbered and then taken.
use Rattle.std.proofs.Common.{◌≡◌, ℕ, false, cond, List, length, refl, ap, sym, ◌∙◌}
use Rattle.std.specs.Prelude.{Ok, ◌==◌}
use Rattle.sv_base.specs.declared.names.Name.{Name}
use Rattle.sv_base.specs.declared.span.Span.{Span}
use Rattle.sv_ast.specs.declared.names.Named.{Named}
use Rattle.sv_ast.specs.declared.refusals.Kind.TheVariants.{Syntax}
use Rattle.sv_lex.specs.Reader.{Input, Outcome, next, start, len, token_span, name_of, knowing, word_of, named_here, refuse}

next-knowing : (text : List ℕ) (i : Input) → next (knowing text i) ≡ knowing text (next i)
unfolding next start len
next-knowing text i = refl

pub taken : (text : List ℕ) (i j k : Input) (name : Name) (span : Span) → (length text == 0) ≡ false → name ≡ name_of text i → j ≡ knowing text i → k ≡ next j
    → span ≡ token_span i → ◌≡◌ {A = Outcome Named} (word_of text i) (Ok (record { name = name; span = span }, k))
unfolding word_of
taken text i j k name span some n e f s =
    let there : k ≡ knowing text (next i) = f ∙ ap next e ∙ next-knowing text i in
    ap (λ b. cond b (refuse {A = Named} Syntax i) (named_here text i)) some
    ∙ (λ t. Ok (record { name = sym n t; span = sym s t }, sym there t))
