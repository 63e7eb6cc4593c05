use Rattle.std.proofs.Common.{◌≡◌, ◌<◌, ◌++◌, ◌∙◌, sym, length, rules, arith, codes}
use Rattle.std.proofs.lemmas.Bool.Decides.{Decides-eqb, nat_tests}
use Rattle.std.proofs.lemmas.Slice.Eq.{strip_suffix_is}
use Rattle.sv_words.proofs.command.is_root.Goals as goal

pub returns-then-not-is_empty-clause-yes : goal.returns-then-not-is_empty-clause-yes
returns-then-not-is_empty-clause-yes c =
    let ends = strip_suffix_is Decides-eqb c.as_bytes.result.now (codes ".svelte") _ c.strip_suffix.ensures.cases in
    let is : c.as_bytes.result.now ≡ c.in-Some.name.now ++ codes ".svelte" = rw c.in-Some.is at ends in
    let some : 0 < length c.in-Some.name.now = grind (arith, nat_tests) in
    λ passed. record {
      name = c.in-Some.name.now;
      some = some;
      bytes = sym c.are_name_bytes.ensures ∙ search (rules, passed);
      ends = sym c.as_bytes.ensures.value ∙ is;
    }
