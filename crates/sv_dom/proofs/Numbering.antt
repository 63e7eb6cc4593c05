-- The page takes printed numbers.
use Rattle.std.proofs.Common.{◌≡◌, ◌∙◌, ℕ, ap, sym, subst, arith}
use Rattle.sv_tokens.specs.Counting.{times}
use Rattle.sv_tokens.specs.Token.{lacks_number}
use Rattle.sv_tokens.specs.Seen.{seen, IsNumbered}
use Rattle.sv_tokens.proofs.Numbering.{numbered-lacks, seen-numbered}
use Rattle.sv_nodes.specs.Nodes.{Nodes, tokens_of}
use Rattle.sv_nodes.specs.Numbers.{Numbers}
use Rattle.sv_nodes.proofs.Numbering.{sound-same}
use Rattle.sv_dom.specs.Dom.{IsDom}

module _ (old new : Nodes) (next number after : ℕ) (dom : IsDom old next number) (its : Numbers old new 0 number after) where
  -- none lacks a number
  pub none-lacks : times lacks_number (tokens_of new) ≡ 0
  none-lacks = ap (times lacks_number) its.tokens ∙ numbered-lacks number (tokens_of old)

  -- watchers see the same
  pub same-seen : seen (tokens_of new) ≡ seen (tokens_of old)
  same-seen = ap seen its.tokens ∙ seen-numbered number (tokens_of old)

  pub numbered-dom : IsDom new next after
  numbered-dom = record {
    sound = sound-same old new next its.same dom.sound;
    numbered = subst (λ z. IsNumbered z next) (sym same-seen) dom.numbered;
    counted = omega (arith, dom.counted, its.after, none-lacks);
  }
