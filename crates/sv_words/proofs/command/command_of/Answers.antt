use Rattle.std.proofs.Common.{subst}
use Rattle.std.specs.Prelude.{IfNone}
use Rattle.sv_words.specs.Texts.{bytes_of}
use Rattle.sv_words.specs.Words.{IsNoGen}
use Rattle.sv_words.proofs.Forms.{no_form}
use Rattle.sv_words.proofs.command.command_of.Goals as goal

pub returns-in-None-clause-none : goal.returns-in-None-clause-none
returns-in-None-clause-none c =
    let words = bytes_of c.args.words.now in
    no_form words c.in_default.ensures.none c.in_default-root_words.ensures.none c.in_default-root_words-2.ensures.none c.in_default-root_words-3.ensures.none c.in_default-test_words.ensures.none
    (subst (λ o. IfNone o (IsNoGen words)) c.in-None.is c.in_ok-count.ensures.none)
