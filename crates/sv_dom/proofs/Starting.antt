-- The empty page.
use Rattle.std.proofs.Common.{◌==◌, ap, arith}
use Rattle.std.proofs.lemmas.Bool.{ne_eqb}
use Rattle.sv_tokens.specs.Counting.{times, one}
use Rattle.sv_tokens.specs.Token.{lacks_number}
use Rattle.sv_tokens.specs.Seen.{seen, starts}
use Rattle.sv_tokens.proofs.Counting.{one-most}
use Rattle.sv_nodes.specs.Nodes.{Nodes}
use Rattle.sv_nodes.proofs.Starting.{Started, start-tokens, start-sound}
use Rattle.sv_dom.specs.Dom.{IsDom}

pub start-dom : (at : Nodes) → Started at → IsDom at 1 1
start-dom at s =
    let tokens = start-tokens at s in
    record {
      sound = start-sound at s;
      numbered = record {
        once = λ serial. (let n = ap (λ z. times (starts serial) (seen z)) tokens in let m = one-most (0 == serial) in omega (arith, n, m));
        fresh = λ serial late. (let n = ap (λ z. times (starts serial) (seen z)) tokens in let m = ap one (ne_eqb 0 serial (λ e. (omega (arith, e, late)))) in omega (arith, n, m));
      };
      counted = (let n = ap (times lacks_number) tokens in omega (arith, n));
    }
