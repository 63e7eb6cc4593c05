use Rattle.std.proofs.Common.{◌≡◌, rules, codes, string_bytes}
use Rattle.std.proofs.lemmas.Option.{IfSome_then}
use Rattle.std.proofs.lemmas.Result.{IfOk-weaker}
use Rattle.sv_words.proofs.Lists.{two_words}
use Rattle.sv_words.proofs.command.gen_words.Goals as goal

pub returns-then-eq-clause-some : goal.returns-then-eq-clause-some
returns-then-eq-clause-some c =
    let two = two_words c.args.words.now _ _ c.in-len2.len_at_least c.in-len2.len_below c.command-item.is c.count-item.is in
    let command : string_bytes c.command-item.result ≡ codes "gen" = search rules in
    IfOk-weaker c.count_of.result _ _ (λ found is. IfSome_then found is (λ count n. record { form = rw (two, command) (search (rules, n.spelled)); most = n.most })) c.count_of.ensures.some
