use Rattle.std.proofs.Common.{◌≡◌, rules, codes, string_bytes}
use Rattle.sv_words.proofs.Lists.{three_only}
use Rattle.sv_words.proofs.command.test_words.Goals as goal

pub returns-in-len3-clause-some : goal.returns-in-len3-clause-some
returns-in-len3-clause-some c =
    let three = three_only c.args.words.now _ _ _ c.in-len3.len_at_least c.in-len3.len_below c.command-item.is c.root-item.is c.events-item.is in
    let command : string_bytes c.command-item.result ≡ codes "test" = search rules in
    record {
      form = rw (three, command, c.as_str-in-len3.ensures.value, c.as_str-in-len3-2.ensures.value) (search rules);
      root_name = search rules;
      events_name = search rules;
    }
