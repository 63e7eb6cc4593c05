use Rattle.std.proofs.Common.{sym, ◌∙◌}
use Rattle.sv_select.proofs.Ascii.{tag_words}
use Rattle.sv_select.proofs.compound.tag_of.Goals as goal

pub text_of-requires : goal.text_of-requires
text_of-requires c = tag_words c.args.word.now (sym c.is_tag.ensures ∙ c.if-not-is_tag.false)
