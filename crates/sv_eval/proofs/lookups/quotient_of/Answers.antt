use Rattle.std.proofs.Common.{◌≡◌, sym, ap, ◌∙◌, map, None}
use Rattle.sv_meaning.specs.Context.{value_in, link_in}
use Rattle.sv_meaning.specs.Values.{chain, dividing}
use Rattle.sv_eval.proofs.Forms.{quotient_is, not_dividing}
use Rattle.sv_eval.proofs.lookups.quotient_of.Goals as goal

pub returns-in-Div-clause-ratio : goal.returns-in-Div-clause-ratio
returns-in-Div-clause-ratio c ctx =
    let e = c.args.code.now in
    let q = quotient_is ctx e c.in-Chain.first c.in-Chain.rest c.in_ok-last.before.now c.in_ok-last.last.now (sym c.get.ensures ∙ c.in-Chain.is) (sym c.as_slice.ensures ∙ c.in_ok-last.ensures.cases.0) in
    sym (q ∙ ap (λ op. dividing op (record { top = chain e.span (value_in ctx c.in-Chain.first) (map (link_in ctx) c.in_ok-last.before.now); bottom = value_in ctx c.in_ok-last.last.now.right })) c.in-Div.is)

pub returns-in_default-op : goal.returns-in_default-op
returns-in_default-op c = record {
  ratio = (λ ctx.
      let e = c.args.code.now in
      let q = quotient_is ctx e c.in-Chain.first c.in-Chain.rest c.in_ok-last.before.now c.in_ok-last.last.now (sym c.get.ensures ∙ c.in-Chain.is) (sym c.as_slice.ensures ∙ c.in_ok-last.ensures.cases.0) in
      sym (q ∙ not_dividing c.in_ok-last.last.now.op (record { top = chain e.span (value_in ctx c.in-Chain.first) (map (link_in ctx) c.in_ok-last.before.now); bottom = value_in ctx c.in_ok-last.last.now.right }) c.in_default-op.not-Div));
  at = (λ ctx. tt);
}
