use Rattle.std.proofs.Common.{◌≡◌, rules, codes, string_bytes, drop, ap, sym, ◌∙◌}
use Rattle.sv_words.proofs.Lists.{three_words, rest_whole}
use Rattle.sv_words.specs.Texts.{bytes_of}
use Rattle.sv_words.specs.Words.{flags_of}
use Rattle.sv_words.proofs.command.run_words.Goals as goal

pub returns-in_ok-flags_of-in-len3-up-clause-some : goal.returns-in_ok-flags_of-in-len3-up-clause-some
returns-in_ok-flags_of-in-len3-up-clause-some c =
    let three = three_words c.args.words.now _ _ _ c.in-len3-up.len_at_least c.command-item.is c.root-item.is c.events-item.is in
    let command : string_bytes c.command-item.result ≡ codes "run" = search rules in
    record {
      marks = bytes_of (drop 3 c.args.words.now);
      form = rw (three, command, c.as_str-in-len3-up.ensures.value, c.as_str-in-len3-up-2.ensures.value) (search rules);
      root_name = search rules;
      events_name = search rules;
      asked = ap (λ ws. flags_of (bytes_of ws)) (sym (rest_whole 3 c.args.words.now)) ∙ (sym c.flags_of.ensures ∙ c.in_ok-flags_of-in-len3-up.was);
    }
