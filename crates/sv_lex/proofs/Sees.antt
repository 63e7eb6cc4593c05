-- Tests on kinds of tokens.
use Rattle.std.proofs.Common.{◌≡◌, ◌≢◌, true, false, cond, ap, rules}
use denote.Enum.Bare.{same_true, same_false, true_same, false_same}
use Rattle.sv_lex.specs.contracts.lexeme.Lexeme.{the_type}
use Rattle.sv_lex.specs.declared.lexeme.Lexeme.{Lexeme}
use Rattle.sv_lex.specs.Look.{same_lexeme}
use Rattle.sv_lex.specs.Reader.{Input, sees, sees_one, after, next}

pub same : (a b : Lexeme) → same_lexeme a b ≡ true → a ≡ b
unfolding same_lexeme
same a b h = same_true the_type (search rules) a b h

pub other : (a b : Lexeme) → same_lexeme a b ≡ false → a ≢ b
unfolding same_lexeme
other a b h = same_false the_type a b h

pub is_same : (a b : Lexeme) → a ≡ b → same_lexeme a b ≡ true
unfolding same_lexeme
is_same a b h = true_same the_type a b h

pub is_other : (a b : Lexeme) → a ≢ b → same_lexeme a b ≡ false
unfolding same_lexeme
is_other a b h = false_same the_type (search rules) a b h

-- what `sees_one` and `after` are where the kind is known
pub sees_yes : (k : Lexeme) (i : Input) → sees i ≡ k → sees_one k i ≡ true
unfolding sees_one
sees_yes k i h = is_same (sees i) k h

pub sees_no : (k : Lexeme) (i : Input) → sees i ≢ k → sees_one k i ≡ false
unfolding sees_one
sees_no k i h = is_other (sees i) k h

pub seen : (k : Lexeme) (i : Input) → sees_one k i ≡ true → sees i ≡ k
unfolding sees_one
seen k i h = same (sees i) k h

pub unseen : (k : Lexeme) (i : Input) → sees_one k i ≡ false → sees i ≢ k
unfolding sees_one
unseen k i h = other (sees i) k h

pub after_yes : (k : Lexeme) (i : Input) → sees i ≡ k → after k i ≡ next i
unfolding after
after_yes k i h = ap (λ b. cond b (next i) i) (sees_yes k i h)

pub after_no : (k : Lexeme) (i : Input) → sees i ≢ k → after k i ≡ i
unfolding after
after_no k i h = ap (λ b. cond b (next i) i) (sees_no k i h)
