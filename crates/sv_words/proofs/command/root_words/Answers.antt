use Rattle.std.proofs.Common.{◌≡◌, rules, string_bytes}
use Rattle.sv_words.proofs.Lists.{two_words, two_bytes}
use Rattle.sv_words.proofs.command.root_words.Goals as goal
use Rattle.sv_words.proofs.command.root_words.Goals.{else-eq-via-then-eq+else-is_root, else-eq-via-else-eq}

pub returns-then-is_root-clause-some : goal.returns-then-is_root-clause-some
returns-then-is_root-clause-some c =
    let two = two_words c.args.words.now _ _ c.in-len2.len_at_least c.in-len2.len_below c.first-item.is c.root-item.is in
    let command : string_bytes c.first-item.result ≡ c.args.command.now = search rules in
    record {
      form = rw (two, command, c.as_str-then-is_root.ensures.value) (search rules);
      root_name = search rules;
    }

pub returns-else-eq-clause-none : goal.returns-else-eq-clause-none
returns-else-eq-clause-none c = λ root is.
    let two = two_words c.args.words.now _ _ c.in-len2.len_at_least c.in-len2.len_below c.first-item.is c.root-item.is in
    let words = two_bytes c.args.words.now c.first-item.result c.root-item.result c.args.command.now root two is.form in
    elim c.else-eq.branch as (λ _. ⊥) [ else-eq-via-then-eq+else-is_root w ↦ search (rules, words.1, is.root_name) | else-eq-via-else-eq w ↦ search (rules, words.0) ]
