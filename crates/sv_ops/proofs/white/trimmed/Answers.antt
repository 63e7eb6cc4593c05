use Rattle.std.proofs.Common.{rules, length, subst}
use Rattle.std.proofs.lemmas.List.Sorted.{answers_always}
use Rattle.sv_ops.specs.Answer.{spelled}
use Rattle.sv_ops.specs.Answers.{Answers}
use Rattle.sv_ops.proofs.Trimming.{trimmed_told}
use Rattle.sv_ops.proofs.white.trimmed.Goals as goal

pub returns : goal.returns
returns c = subst (λ t. Answers c.spell.result (spelled (length c.args.text.now) t))
    (trimmed_told _ c.args.text.now c.trim_matches.result.now c.trim_matches.ensures.matches c.utf8.text (answers_always _ _ _ (λ f a r f' k. search (rules, k)))) c.spell.ensures
