use Rattle.std.proofs.Common.{◌≡◌, ◌≤◌, ◌<◌, ◌+◌, ◌-◌, [], ◌∷◌, ◌++◌, length, map, suc, refl, sym, ap, ap₂, ◌∙◌, subst, arith, ℕ, Bool, true, false, List, if◌then◌else◌, Option, Some, None, option_copied, get_or}
use Rattle.std.proofs.lemmas.Option.{slice_get-get_or}
use Rattle.sv_code.specs.declared.known.Known.TheVariants as known
use Rattle.sv_code.specs.Within.{is_among}
use Rattle.sv_derived.specs.Derived.{found}
use Rattle.sv_ops.specs.Answer.{Answer, list_made, object_made}
use Rattle.sv_ops.specs.Numbers.{bumped, quotient}
use Rattle.sv_value.specs.Value.{Val, items, list}
use Rattle.sv_value.specs.View.{view_of, entry_of}
use Rattle.sv_world.specs.declared.world.World.{World}
use Rattle.sv_meaning.specs.Calls.{first, on_list, on_store, call_value, make_derived}
use Rattle.sv_meaning.specs.Context.{ground_of, calls_of, mode_on, mode_of, expr_in, value_in, item_in, field_in, link_in, kind_in, run_in, doing_in, valued_in}
use Rattle.sv_meaning.specs.Derived.{input_values, handed, called_apart}
use Rattle.sv_meaning.specs.Env.{shown}
use Rattle.sv_meaning.specs.Functions.{caller, entered, env_of, returned}
use Rattle.sv_meaning.specs.Gives.{Gives, EndsAs, flow_of}
use Rattle.sv_meaning.specs.Listeners.{listener_view}
use Rattle.sv_meaning.specs.Outcome.{Ends, Fails, Done, Failed, Meaning, Deed, Flow, Next, and_then, then_do, left, doing, counted, answered}
use Rattle.sv_meaning.specs.Settling.{compute}
use Rattle.sv_meaning.specs.Sight.{Ground, read, set}
use Rattle.sv_meaning.specs.Statements.{does, done, in_order, takes_step, turns, tested, value_or}
use Rattle.sv_meaning.specs.Values.{Ratio, all_values, with_args, call_step, callee_of, life_call, convert, parts_after, chained, ratio_or, divide, math_call, method_call}
use Rattle.sv_eval.specs.Quotient.{ratio_of}
use Rattle.sv_eval.proofs.Computing.{always, answer_of, answers-answer_of, answered_leaves, bump_sets, derive_gives, ended, settles_one, store_method_is, unseen}
use Rattle.sv_eval.proofs.Exits.{err_exit, err_end, gave, ends_kept, gives_as, ends_as}
use Rattle.sv_eval.proofs.Forms.{value_is, span_is, list_is, object_is, template_is, assign_is, bump_is, called_is, dispatcher_is, run_is, block_does}
use Rattle.sv_eval.proofs.Parts.{part_is, heard_is, heard_err}
use Rattle.sv_eval.proofs.Steps.{counted_is, uncounted_is, count_err, with_args_is, member_is, method_is, member_uncounted, list_method_is, divide_is, call_is, block_is, done_silent, done_counts, turn_next, goes_on}
use Rattle.sv_eval.proofs.+eval.Goals as goal

pub calls::call_conversion-returns-clause-means : goal.calls::call_conversion-returns-clause-means
calls::call_conversion-returns-clause-means t c =
    let ctx = c.args.context.now in
    let call = c.args.call in
    let es = map (expr_in ctx) call.args.now in
    let vs = map view_of c.in_ok-args.args.items in
    let go : List Val → Deed Val = λ (us : List Val). answered call.span (convert c.args.to (first us)) in
    let d = gave (λ us. map view_of us.items) c.eval_all.result c.in_ok-args.args c.eval_all.new.locals c.eval_all.new.world (all_values es c.args.locals.now c.count.new.world) c.in_ok-args.was c.eval_all.ensures.means in
    let e = counted_is (expr_in ctx call.of.now).span (with_args es go) c.args.locals.now c.args.world.now c.count.new.world c.in_ok-count.ensures.counts ∙ with_args_is es go c.args.locals.now c.eval_all.new.locals c.count.new.world c.eval_all.new.world vs d in
    gives_as view_of c.answer.result c.eval_all.new.locals c.answer.new.world _ _ e (ends_kept view_of c.answer.result c.eval_all.new.locals c.answer.new.world (go vs c.eval_all.new.world) (c.answer.ensures.answers (convert c.args.to (first vs)) (rw c.deref.ensures.value at c.convert.ensures)))

pub calls::call_name-returns-in_ok-args-in-Life-clause-means : goal.calls::call_name-returns-in_ok-args-in-Life-clause-means
calls::call_name-returns-in_ok-args-in-Life-clause-means t c =
    let ctx = c.args.context.now in
    let call = c.args.call in
    let es = map (expr_in ctx) call.args.now in
    let vs = map view_of c.in_ok-args-in-Life.args.items in
    let go : List Val → Deed Val = life_call c.in-Life.life ctx.owner.number call.span in
    let d = gave (λ us. map view_of us.items) c.eval_all.result c.in_ok-args-in-Life.args c.eval_all.new.locals c.eval_all.new.world (all_values es c.args.locals.now c.count.new.world) c.in_ok-args-in-Life.was c.eval_all.ensures.means in
    let e = ap (λ k. call_step (callee_of k) (ground_of ctx) (calls_of ctx) ctx.owner.number (expr_in ctx call.of.now) es call.span c.args.locals.now c.args.world.now) c.in-Life.is
    ∙ counted_is (expr_in ctx call.of.now).span (with_args es go) c.args.locals.now c.args.world.now c.count.new.world c.in_ok-count-in-Life.ensures.counts
    ∙ with_args_is es go c.args.locals.now c.eval_all.new.locals c.count.new.world c.eval_all.new.world vs d in
    gives_as view_of c.call_life.result c.eval_all.new.locals c.call_life.new.world _ _ e (ends_kept view_of c.call_life.result c.eval_all.new.locals c.call_life.new.world (go vs c.eval_all.new.world) (rw c.deref.ensures.value at c.call_life.ensures.means))

pub calls::call_member-returns-in_err-count-clause-means : goal.calls::call_member-returns-in_err-count-clause-means
calls::call_member-returns-in_err-count-clause-means t c =
    let ctx = c.args.context.now in
    let call = c.args.call in
    let of = expr_in ctx c.args.of.now in
    count_err view_of c.count.result c.in_err-count.field-0.0 c.from_residual.result call.of.now.span c.args.locals.now c.args.world.now c.count.new.world _ c.in_err-count.was c.from_residual.ensures.1 c.count.ensures.counts
    (λ z e. member_uncounted of.built of.means c.args.property (ground_of ctx) (calls_of ctx) ctx.owner.number (expr_in ctx call.of.now) (map (expr_in ctx) call.args.now) call.span call.of.now.span c.args.locals.now c.args.world.now c.count.new.world (span_is ctx call.of.now) z e)

pub calls::call_member-returns-in-Some-clause-means : goal.calls::call_member-returns-in-Some-clause-means
calls::call_member-returns-in-Some-clause-means t c =
    let ctx = c.args.context.now in
    let call = c.args.call in
    let of = expr_in ctx c.args.of.now in
    let d = gave view_of c.eval.result c.in_ok-value.value c.eval.new.locals c.eval.new.world (of.means c.args.locals.now c.count.new.world) c.in_ok-value.was c.eval.ensures.means in
    let e = member_is c.in-Some.built of.built of.means c.args.property (ground_of ctx) (calls_of ctx) ctx.owner.number (expr_in ctx call.of.now) (map (expr_in ctx) call.args.now) call.span call.of.now.span c.args.locals.now c.eval.new.locals c.args.world.now c.count.new.world c.eval.new.world (view_of c.in_ok-value.value) (sym (c.built_of.ensures ctx) ∙ c.in-Some.is) (span_is ctx call.of.now) c.in_ok-count.ensures.counts d in
    gives_as view_of c.call_built.result c.call_built.new.locals c.call_built.new.world _ _ e c.call_built.ensures.means

pub calls::call_member-returns-clause-means : goal.calls::call_member-returns-clause-means
calls::call_member-returns-clause-means t c =
    let ctx = c.args.context.now in
    let call = c.args.call in
    let of = expr_in ctx c.args.of.now in
    let d = gave view_of c.eval.result c.in_ok-value.value c.eval.new.locals c.eval.new.world (of.means c.args.locals.now c.count.new.world) c.in_ok-value.was c.eval.ensures.means in
    let e = method_is of.built of.means c.args.property (ground_of ctx) (calls_of ctx) ctx.owner.number (expr_in ctx call.of.now) (map (expr_in ctx) call.args.now) call.span call.of.now.span c.args.locals.now c.eval.new.locals c.args.world.now c.count.new.world c.eval.new.world (view_of c.in_ok-value.value) (sym (c.built_of.ensures ctx) ∙ c.in-None.is) (span_is ctx call.of.now) c.in_ok-count.ensures.counts d in
    gives_as view_of c.call_method.result c.call_method.new.locals c.call_method.new.world _ _ e c.call_method.ensures.means

pub calls::call_method-returns-in_ok-args-in-Some-clause-means : goal.calls::call_method-returns-in_ok-args-in-Some-clause-means
calls::call_method-returns-in_ok-args-in-Some-clause-means t c =
    let ctx = c.args.context.now in
    let call = c.args.call in
    let es = map (expr_in ctx) call.args.now in
    let vs = map view_of c.in_ok-args-in-Some.args.items in
    let d = gave (λ us. map view_of us.items) c.eval_all-in-Some.result c.in_ok-args-in-Some.args c.eval_all-in-Some.new.locals c.eval_all-in-Some.new.world (all_values es c.args.locals.now c.args.world.now) c.in_ok-args-in-Some.was c.eval_all-in-Some.ensures.means in
    let e = ap (λ v. method_call (ground_of ctx) (calls_of ctx) c.args.property call.span call.of.now.span es (view_of v) c.args.locals.now c.args.world.now) c.in-List.is
    ∙ list_method_is (ground_of ctx) (calls_of ctx) c.args.property call.span call.of.now.span es c.in-List.list c.in-Some.method c.args.locals.now c.eval_all-in-Some.new.locals c.args.world.now c.eval_all-in-Some.new.world vs c.in-Some.is (sym c.is_on_list.ensures ∙ c.if-is_on_list.true) d in
    gives_as view_of c.call_on_list.result c.eval_all-in-Some.new.locals c.call_on_list.new.world _ _ e (ends_kept view_of c.call_on_list.result c.eval_all-in-Some.new.locals c.call_on_list.new.world (on_list c.in-Some.method (calls_of ctx) call.span (items c.in-List.list) vs c.eval_all-in-Some.new.world) (rw c.deref-in-Some.ensures.value at c.call_on_list.ensures.means))

pub calls::call_rounding-returns-in-Some-clause-means : goal.calls::call_rounding-returns-in-Some-clause-means
calls::call_rounding-returns-in-Some-clause-means t c =
    let ctx = c.args.context.now in
    let call = c.args.call in
    let only = expr_in ctx c.args.only.now in
    let of = c.in-Some.of in
    gives_as view_of c.eval_quotient.result c.eval_quotient.new.locals c.eval_quotient.new.world _ _
    (ap (λ z. ratio_or z c.args.truncates call.span only.span (math_call c.args.method call.span call.of.now.span (map (expr_in ctx) call.args.now)) c.args.locals.now c.args.world.now) (sym (c.in-Some.ensures.ratio ctx))
    ∙ ap (λ x. divide c.args.truncates call.span x (ratio_of ctx of) c.args.locals.now c.args.world.now) (sym (c.in-Some.ensures.at ctx)))
    c.eval_quotient.ensures.means

pub calls::call_rounding-returns-in-None-clause-means : goal.calls::call_rounding-returns-in-None-clause-means
calls::call_rounding-returns-in-None-clause-means t c =
    let ctx = c.args.context.now in
    let call = c.args.call in
    let only = expr_in ctx c.args.only.now in
    gives_as view_of c.call_math_method.result c.call_math_method.new.locals c.call_math_method.new.world _ _
    (ap (λ z. ratio_or z c.args.truncates call.span only.span (math_call c.args.method call.span call.of.now.span (map (expr_in ctx) call.args.now)) c.args.locals.now c.args.world.now) (sym (c.in-None.ensures.ratio ctx)))
    c.call_math_method.ensures.means

pub calls::eval_quotient-returns-clause-means : goal.calls::eval_quotient-returns-clause-means
calls::eval_quotient-returns-clause-means t c =
    let ctx = c.args.context.now in
    let of = c.args.of in
    let ls = map (link_in ctx) of.before.now in
    let d = gave view_of c.eval.result c.in_ok-first.first c.eval.new.locals c.eval.new.world (value_in ctx of.first.now c.args.locals.now c.count.new.world) c.in_ok-first.was c.eval.ensures.means in
    let d' = gave view_of c.eval_links.result c.in_ok-top.top c.eval_links.new.locals c.eval_links.new.world (chained of.at (view_of c.in_ok-first.first) ls c.eval.new.locals c.eval.new.world) c.in_ok-top.was c.eval_links.ensures.means in
    let d'' = gave view_of c.eval-2.result c.in_ok-bottom.bottom c.eval-2.new.locals c.eval-2.new.world (value_in ctx of.bottom.now c.eval_links.new.locals c.eval_links.new.world) c.in_ok-bottom.was c.eval-2.ensures.means in
    let a = quotient c.args.truncates (view_of c.in_ok-top.top) (view_of c.in_ok-bottom.bottom) in
    let e = divide_is c.args.truncates c.args.span of.at (value_in ctx of.first.now) ls (value_in ctx of.bottom.now) c.args.locals.now c.eval.new.locals c.eval_links.new.locals c.eval-2.new.locals c.args.world.now c.count.new.world c.eval.new.world c.eval_links.new.world c.eval-2.new.world (view_of c.in_ok-first.first) (view_of c.in_ok-top.top) (view_of c.in_ok-bottom.bottom) c.in_ok-count.ensures.counts d d' d'' in
    gives_as view_of c.answer.result c.eval-2.new.locals c.answer.new.world _ _ e (ends_kept view_of c.answer.result c.eval-2.new.locals c.answer.new.world (answered c.args.span a c.eval-2.new.world) (c.answer.ensures.answers a c.quotient.ensures))

pub calls::call_value-returns-clause-means : goal.calls::call_value-returns-clause-means
calls::call_value-returns-clause-means t c =
    let ctx = c.args.context.now in
    let g = ground_of ctx in
    let f = c.in-Func.function in
    let n = ctx.room in
    let args = map view_of c.args.args.now in
    let vs = map view_of c.held.result.now in
    let w = c.args.world.now in
    let h = c.in-Some.ensures.lookup in
    let below = rw (c.as_slice.ensures, c.code.ensures) at h.3.0 in
    let here = rw (c.as_slice.ensures, c.code.ensures) at h.1 in
    let found = slice_get-get_or g.program.functions f.code c.in-Some.code.now below ∙ ap Some (sym here) in
    let o = ap (λ x. x.number) c.owner-owner.ensures in
    let there = sym (rw o at c.has_owner.ensures) ∙ c.if-not-has_owner.false in
    let i = call_is (mode_of g) g n (n - 1) f.code f.owner.number f.held vs args c.args.span w c.in-Some.code.now (omega (arith, c.if-context-eq0.false)) there (sym c.held.ensures.list) found in
    let v = ap (λ x. call_value (calls_of ctx) c.args.span (view_of x) args w) c.in-Func.is in
    let own = ap (λ x. is_among x g.arrows) (sym c.code-2.ensures) ∙ sym c.contains.ensures in
    let inside : Bool → Ground = λ (x : Bool). record g { is_own = x } in
    let k = ap₂ (λ x m. entered c.in-Some.code.now.body (mode_of g).tells (inside x) (caller (mode_of g) (inside x) (n - 1)) m (env_of c.in-Some.code.now vs args) args c.args.span w) own (sym o) in
    ends_as view_of c.call_function.result c.call_function.new.world _ _ (v ∙ i ∙ k) c.call_function.ensures.means

pub calls::call_function-returns-in_err-end-in-Block-clause-means : goal.calls::call_function-returns-in_err-end-in-Block-clause-means
calls::call_function-returns-in_err-end-in-Block-clause-means t c =
    let ctx = c.args.context.now in
    let args = map view_of c.args.args.now in
    let env = env_of c.args.function.now (map view_of c.args.held.now) args in
    let w = c.args.world.now in
    let run = in_order (map (run_in ctx) c.in-Block.stmts) in
    let b = block_is c.args.function.now.body c.in-Block.stmts (mode_of (ground_of ctx)).tells (ground_of ctx) (calls_of ctx) ctx.owner.number env args c.args.span w c.in-Block.is in
    let g = rw (c.as_slice.ensures, c.in_ok-locals-in-Block.ensures) at c.run_all.ensures.means in
    err_end flow_of view_of c.run_all.result c.in_err-end-in-Block.field-0.0 c.from_residual-in_err-end-in-Block.result c.run_all.new.locals c.run_all.new.world (run env w) _ c.in_err-end-in-Block.was c.from_residual-in_err-end-in-Block.ensures.1 g
    (λ k s e. b ∙ ap (λ o. then_do (left o) (λ f. Ends (returned f))) e)

pub calls::call_function-returns-in_ok-end-in-Block-clause-means : goal.calls::call_function-returns-in_ok-end-in-Block-clause-means
calls::call_function-returns-in_ok-end-in-Block-clause-means t c =
    let ctx = c.args.context.now in
    let args = map view_of c.args.args.now in
    let env = env_of c.args.function.now (map view_of c.args.held.now) args in
    let w = c.args.world.now in
    let run = in_order (map (run_in ctx) c.in-Block.stmts) in
    let b = block_is c.args.function.now.body c.in-Block.stmts (mode_of (ground_of ctx)).tells (ground_of ctx) (calls_of ctx) ctx.owner.number env args c.args.span w c.in-Block.is in
    let g = rw (c.as_slice.ensures, c.in_ok-locals-in-Block.ensures) at c.run_all.ensures.means in
    let d = gave flow_of c.run_all.result c.in_ok-end-in-Block.end c.run_all.new.locals c.run_all.new.world (run env w) c.in_ok-end-in-Block.was g in
    b ∙ ap (λ o. then_do (left o) (λ f. Ends (returned f))) d ∙ ap (λ v. Ends v c.run_all.new.world) (sym c.returned.ensures)

pub listeners::eval_part-returns : goal.listeners::eval_part-returns
listeners::eval_part-returns t c =
    part_is c.args.program.now c.args.view.now c.args.part.now c.inst.result.number c.eval.result c.in_ok-locals.locals c.eval.new.locals c.in_ok-world.world c.eval.new.world c.in_ok-world.ensures (c.in_ok-locals.ensures ∙ ap shown (c.as_slice.ensures ∙ c.locals.ensures)) c.inst.ensures c.eval.ensures.means

pub listeners::tell_part-returns-in_err-value-clause-means : goal.listeners::tell_part-returns-in_err-value-clause-means
listeners::tell_part-returns-in_err-value-clause-means t c =
    let ctx = c.args.context.now in
    let h = c.args.hearer.now in
    heard_err ctx.program.now (calls_of ctx) c.args.part.now (listener_view c.args.world.now h.owner.number h.locals) c.in-Some.view c.eval_part.result c.in_err-value.field-0.0 c.from_residual-in_err-value.result (view_of c.args.object.now) c.args.world.now (sym c.in_ok-view.ensures ∙ c.in-Some.is) c.in_err-value.was c.from_residual-in_err-value.ensures.1 c.eval_part.ensures

pub listeners::tell_part-returns-clause-means : goal.listeners::tell_part-returns-clause-means
listeners::tell_part-returns-clause-means t c =
    let ctx = c.args.context.now in
    let h = c.args.hearer.now in
    ends_as {A = Unit {0}} {B = Unit {0}} (λ u. u) c.call_listener.result c.call_listener.new.world _ _
    (heard_is ctx.program.now (calls_of ctx) c.args.part.now (listener_view c.args.world.now h.owner.number h.locals) c.in-Some.view c.eval_part.result c.in_ok-value.value (view_of c.args.object.now) c.args.world.now (sym c.in_ok-view.ensures ∙ c.in-Some.is) c.in_ok-value.was c.eval_part.ensures)
    c.call_listener.ensures.means

pub statements::run-returns-then-not-takes_step-clause-means : goal.statements::run-returns-then-not-takes_step-clause-means
statements::run-returns-then-not-takes_step-clause-means t c =
    let ctx = c.args.context.now in
    let s = c.args.stmt.now in
    let d = sym (ap (λ k. takes_step (doing_in ctx k)) c.get-kind.ensures) ∙ sym (c.takes_step.ensures ctx) ∙ c.if-not-takes_step.true in
    ap (λ m. m c.args.locals.now c.args.world.now) (run_is ctx s) ∙ done_silent (doing_in ctx s.kind) s.span c.args.locals.now c.args.world.now d

pub statements::run-returns-in_err-count-clause-means : goal.statements::run-returns-in_err-count-clause-means
statements::run-returns-in_err-count-clause-means t c =
    let ctx = c.args.context.now in
    let s = c.args.stmt.now in
    let d = sym (ap (λ k. takes_step (doing_in ctx k)) c.get-kind.ensures) ∙ sym (c.takes_step.ensures ctx) ∙ c.if-not-takes_step.false in
    let e = ap (λ m. m c.args.locals.now c.args.world.now) (run_is ctx s) ∙ done_counts (doing_in ctx s.kind) s.span c.args.locals.now c.args.world.now d in
    count_err flow_of c.count.result c.in_err-count.field-0.0 c.from_residual.result s.span c.args.locals.now c.args.world.now c.count.new.world _ c.in_err-count.was c.from_residual.ensures.1 c.count.ensures.counts
    (λ z i. e ∙ uncounted_is s.span (does (doing_in ctx s.kind) s.span) c.args.locals.now c.args.world.now c.count.new.world z i)

pub statements::run-returns-clause-means : goal.statements::run-returns-clause-means
statements::run-returns-clause-means t c =
    let ctx = c.args.context.now in
    let s = c.args.stmt.now in
    let d = sym (ap (λ k. takes_step (doing_in ctx k)) c.get-kind.ensures) ∙ sym (c.takes_step.ensures ctx) ∙ c.if-not-takes_step.false in
    let e = ap (λ m. m c.args.locals.now c.args.world.now) (run_is ctx s) ∙ done_counts (doing_in ctx s.kind) s.span c.args.locals.now c.args.world.now d ∙ counted_is s.span (does (doing_in ctx s.kind) s.span) c.args.locals.now c.args.world.now c.count.new.world c.in_ok-count.ensures.counts ∙ ap (λ k. does (doing_in ctx k) s.span c.args.locals.now c.count.new.world) (sym c.get-kind.ensures) in
    gives_as flow_of c.run_kind.result c.run_kind.new.locals c.run_kind.new.world _ _ e c.run_kind.ensures.means

pub statements::run_kind-returns-in-Block-clause-means : goal.statements::run_kind-returns-in-Block-clause-means
statements::run_kind-returns-in-Block-clause-means t c =
    let ctx = c.args.context.now in
    let e = ap (λ d. does d c.args.span c.args.locals.now c.args.world.now) (block_does ctx c.args.kind.now c.in-Block.declares c.in-Block.stmts c.in-Block.is) in
    gives_as flow_of c.run_block.result c.run_block.new.locals c.run_block.new.world _ _ e (rw (c.as_slice.ensures, c.as_slice-in-Block.ensures) at c.run_block.ensures.means)

pub values::eval_kind-returns-in-Call-clause-means : goal.values::eval_kind-returns-in-Call-clause-means
values::eval_kind-returns-in-Call-clause-means t c =
    let ctx = c.args.context.now in
    let e = ap (λ x. x.means c.args.locals.now c.args.world.now) (called_is ctx c.args.kind.now c.in-Call.of c.in-Call.args c.args.span c.in-Call.is) in
    gives_as view_of c.eval_call.result c.eval_call.new.locals c.eval_call.new.world _ _ e (rw c.as_slice-args.ensures at c.eval_call.ensures.means)

pub values::eval_kind-returns-in-Dispatcher-clause-means : goal.values::eval_kind-returns-in-Dispatcher-clause-means
values::eval_kind-returns-in-Dispatcher-clause-means t c =
    let ctx = c.args.context.now in
    let e = ap (λ x. x.means c.args.locals.now c.args.world.now) (dispatcher_is ctx c.args.kind.now c.in-Dispatcher.number c.in-Dispatcher.at c.in-Dispatcher.args c.args.span c.in-Dispatcher.is) in
    gives_as view_of c.eval_dispatcher.result c.eval_dispatcher.new.locals c.eval_dispatcher.new.world _ _ e (rw c.as_slice-in-Dispatcher.ensures at c.eval_dispatcher.ensures.means)

pub values::eval_kind-returns-in_err-made-in-List-clause-means : goal.values::eval_kind-returns-in_err-made-in-List-clause-means
values::eval_kind-returns-in_err-made-in-List-clause-means t c =
    let ctx = c.args.context.now in
    let inner = parts_after c.args.span [] (map (item_in ctx) c.in-List.parts) in
    let e = ap (λ x. x.means c.args.locals.now c.args.world.now) (list_is ctx c.args.kind.now c.in-List.parts c.args.span c.in-List.is) in
    err_exit (λ us. map view_of us.items) view_of c.eval_items.result c.in_err-made-in-List.field-0.0 c.from_residual.result c.eval_items.new.locals c.eval_items.new.world (inner c.args.locals.now c.args.world.now) _ c.in_err-made-in-List.was c.from_residual.ensures.1 (rw c.as_slice.ensures at c.eval_items.ensures.means)
    (λ k s f. e ∙ ap (λ o. and_then o (λ vs. doing (answered c.args.span (list_made vs)))) f)

pub values::eval_kind-returns-in_ok-made-in-List-clause-means : goal.values::eval_kind-returns-in_ok-made-in-List-clause-means
values::eval_kind-returns-in_ok-made-in-List-clause-means t c =
    let ctx = c.args.context.now in
    let inner = parts_after c.args.span [] (map (item_in ctx) c.in-List.parts) in
    let e = ap (λ x. x.means c.args.locals.now c.args.world.now) (list_is ctx c.args.kind.now c.in-List.parts c.args.span c.in-List.is) in
    let d = gave (λ us. map view_of us.items) c.eval_items.result c.in_ok-made-in-List.made c.eval_items.new.locals c.eval_items.new.world (inner c.args.locals.now c.args.world.now) c.in_ok-made-in-List.was (rw c.as_slice.ensures at c.eval_items.ensures.means) in
    let a = list_made (map view_of c.in_ok-made-in-List.made.items) in
    gives_as view_of c.answer-in-List.result c.eval_items.new.locals c.answer-in-List.new.world _ _ (e ∙ ap (λ o. and_then o (λ vs. doing (answered c.args.span (list_made vs)))) d)
    (ends_kept view_of c.answer-in-List.result c.eval_items.new.locals c.answer-in-List.new.world (answered c.args.span a c.eval_items.new.world) (c.answer-in-List.ensures.answers a (c.list_of.ensures)))

pub values::eval_kind-returns-in_err-made-in-Object-clause-means : goal.values::eval_kind-returns-in_err-made-in-Object-clause-means
values::eval_kind-returns-in_err-made-in-Object-clause-means t c =
    let ctx = c.args.context.now in
    let inner = parts_after c.args.span [] (map (field_in ctx) c.in-Object.parts) in
    let e = ap (λ x. x.means c.args.locals.now c.args.world.now) (object_is ctx c.args.kind.now c.in-Object.parts c.args.span c.in-Object.is) in
    err_exit (λ us. map entry_of us.items) view_of c.eval_fields.result c.in_err-made-in-Object.field-0.0 c.from_residual-in_err-made-in-Object.result c.eval_fields.new.locals c.eval_fields.new.world (inner c.args.locals.now c.args.world.now) _ c.in_err-made-in-Object.was c.from_residual-in_err-made-in-Object.ensures.1 (rw c.as_slice-in-Object.ensures at c.eval_fields.ensures.means)
    (λ k s f. e ∙ ap (λ o. and_then o (λ vs. doing (answered c.args.span (object_made vs)))) f)

pub values::eval_kind-returns-in_ok-made-in-Object-clause-means : goal.values::eval_kind-returns-in_ok-made-in-Object-clause-means
values::eval_kind-returns-in_ok-made-in-Object-clause-means t c =
    let ctx = c.args.context.now in
    let inner = parts_after c.args.span [] (map (field_in ctx) c.in-Object.parts) in
    let e = ap (λ x. x.means c.args.locals.now c.args.world.now) (object_is ctx c.args.kind.now c.in-Object.parts c.args.span c.in-Object.is) in
    let d = gave (λ us. map entry_of us.items) c.eval_fields.result c.in_ok-made-in-Object.made c.eval_fields.new.locals c.eval_fields.new.world (inner c.args.locals.now c.args.world.now) c.in_ok-made-in-Object.was (rw c.as_slice-in-Object.ensures at c.eval_fields.ensures.means) in
    let a = object_made (map entry_of c.in_ok-made-in-Object.made.items) in
    gives_as view_of c.answer-in-Object.result c.eval_fields.new.locals c.answer-in-Object.new.world _ _ (e ∙ ap (λ o. and_then o (λ vs. doing (answered c.args.span (object_made vs)))) d)
    (ends_kept view_of c.answer-in-Object.result c.eval_fields.new.locals c.answer-in-Object.new.world (answered c.args.span a c.eval_fields.new.world) (c.answer-in-Object.ensures.answers a (c.object_of.ensures)))

pub values::eval_kind-returns-in-Template-clause-means : goal.values::eval_kind-returns-in-Template-clause-means
values::eval_kind-returns-in-Template-clause-means t c =
    let ctx = c.args.context.now in
    let e = ap (λ x. x.means c.args.locals.now c.args.world.now) (template_is ctx c.args.kind.now c.in-Template.parts c.args.span c.in-Template.is) in
    gives_as view_of c.eval_template.result c.eval_template.new.locals c.eval_template.new.world _ _ e (rw c.as_slice-in-Template.ensures at c.eval_template.ensures.means)

pub statements::run_loop-loop-init : goal.statements::run_loop-loop-init
statements::run_loop-loop-init t c =
    let ctx = c.args.context.now in
    let turn = c.args.turn.now in
    let test = valued_in ctx (option_copied turn.test) in
    let next = valued_in ctx (option_copied turn.next) in
    let body = run_in ctx turn.body.now in
    let n : suc c.args.world.now.turn.steps ≡ c.from-end.result + 1 - 0 = omega (arith, c.from-end.ensures, c.steps.ensures) in
    record {
      same = ap (λ k. turns k c.args.span test next body c.args.locals.now c.args.world.now) n;
      fewer = omega arith;
    }

pub statements::run_loop-loop-preserved : goal.statements::run_loop-loop-preserved
statements::run_loop-loop-preserved t c =
    let ctx = c.args.context.now in
    let turn = c.args.turn.now in
    let test = valued_in ctx (option_copied turn.test) in
    let next = valued_in ctx (option_copied turn.next) in
    let body = run_in ctx turn.body.now in
    let env = c.loop.locals in
    let w = c.loop.world in
    let env' = c.eval_test.new.locals in
    let w' = c.eval_test.new.world in
    let env'' = c.run.new.locals in
    let w'' = c.run.new.world in
    let env''' = c.eval_or.new.locals in
    let w''' = c.eval_or.new.world in
    let below = c.loop-test.true in
    let n = (c.from-end.result + 1) - c.loop.counter in
    let m = (c.from-end.result + 1) - (c.loop.counter + 1) in
    let d = gave (λ b. b) c.eval_test.result c.in_ok-eval_test.field-0 env' w' (tested test env w) c.in_ok-eval_test.was c.eval_test.ensures.means ∙ ap (λ b. Done b env' w') c.if-not-branch.false in
    let d' = gave flow_of c.run.result c.in_ok-run.field-0 env'' w'' (body env' w') c.in_ok-run.was c.run.ensures.means in
    let f = goes_on c.in_ok-run.field-0 c.in-Next.is in
    let d'' = gave view_of c.eval_or.result c.in_ok-value.value env''' w''' (value_or next env'' w'') c.in_ok-value.was c.eval_or.ensures.means in
    let x1 = c.eval_test.ensures.fewer in
    let x2 = c.run.ensures.fewer in
    let x3 = c.eval_or.ensures.fewer in
    let x4 = c.loop.invariant.fewer in
    record {
      same = c.loop.invariant.same ∙ turn_next n m c.args.span test next body env env' env'' env''' w w' w'' w''' (flow_of c.in_ok-run.field-0) (view_of c.in_ok-value.value) (omega arith) d d' f d'';
      fewer = omega arith;
    }

pub values::eval-returns-clause-means : goal.values::eval-returns-clause-means
values::eval-returns-clause-means t c =
    let ctx = c.args.context.now in
    let code = c.args.code.now in
    let e = ap (λ m. m c.args.locals.now c.args.world.now) (value_is ctx code)
    ∙ counted_is code.span (kind_in ctx code.kind code.span).means c.args.locals.now c.args.world.now c.count.new.world c.in_ok-count.ensures.counts in
    let k = ap (λ k. (kind_in ctx k code.span).means c.args.locals.now c.count.new.world) c.get.ensures in
    subst (Gives view_of c.eval_kind.result c.eval_kind.new.locals c.eval_kind.new.world) (k ∙ sym e) c.eval_kind.ensures.means

pub calls::call_name-returns-in_ok-args-in-Derived-clause-means : goal.calls::call_name-returns-in_ok-args-in-Derived-clause-means
calls::call_name-returns-in_ok-args-in-Derived-clause-means t c =
    let ctx = c.args.context.now in
    let call = c.args.call in
    let es = map (expr_in ctx) call.args.now in
    let vs = map view_of c.in_ok-args-in-Derived.args.items in
    let go : List Val → Deed Val = make_derived ctx.program.now (calls_of ctx) ctx.owner.number call.span in
    let d = gave (λ us. map view_of us.items) c.eval_all-in-Derived.result c.in_ok-args-in-Derived.args c.eval_all-in-Derived.new.locals c.eval_all-in-Derived.new.world (all_values es c.args.locals.now c.count-in-Derived.new.world) c.in_ok-args-in-Derived.was c.eval_all-in-Derived.ensures.means in
    let e = ap (λ k. call_step (callee_of k) (ground_of ctx) (calls_of ctx) ctx.owner.number (expr_in ctx call.of.now) es call.span c.args.locals.now c.args.world.now) c.in-Derived.is
    ∙ counted_is (expr_in ctx call.of.now).span (with_args es go) c.args.locals.now c.args.world.now c.count-in-Derived.new.world c.in_ok-count-in-Derived.ensures.counts
    ∙ with_args_is es go c.args.locals.now c.eval_all-in-Derived.new.locals c.count-in-Derived.new.world c.eval_all-in-Derived.new.world vs d in
    gives_as view_of c.make_derived.result c.eval_all-in-Derived.new.locals c.make_derived.new.world _ _ e (ends_kept view_of c.make_derived.result c.eval_all-in-Derived.new.locals c.make_derived.new.world (go vs c.eval_all-in-Derived.new.world) (rw c.deref-in-Derived.ensures.value at c.make_derived.ensures.means))

pub values::eval_kind-returns-in-Assign-clause-means : goal.values::eval_kind-returns-in-Assign-clause-means
values::eval_kind-returns-in-Assign-clause-means t c =
    let ctx = c.args.context.now in
    let e = ap (λ x. x.means c.args.locals.now c.args.world.now) (assign_is ctx c.args.kind.now c.in-Assign.target c.in-Assign.at c.in-Assign.op c.in-Assign.value c.args.span c.in-Assign.is) in
    gives_as view_of c.eval_assign.result c.eval_assign.new.locals c.eval_assign.new.world _ _ e c.eval_assign.ensures.means

pub values::eval_kind-returns-in-Bump-clause-means : goal.values::eval_kind-returns-in-Bump-clause-means
values::eval_kind-returns-in-Bump-clause-means t c =
    let ctx = c.args.context.now in
    let e = ap (λ x. x.means c.args.locals.now c.args.world.now) (bump_is ctx c.args.kind.now c.in-Bump.target c.in-Bump.at c.in-Bump.up c.in-Bump.prefix c.args.span c.in-Bump.is) in
    gives_as view_of c.eval_bump.result c.eval_bump.new.locals c.eval_bump.new.world _ _ e c.eval_bump.ensures.means

pub calls::call_method-returns-in_ok-args-in-Some-method-2-clause-means : goal.calls::call_method-returns-in_ok-args-in-Some-method-2-clause-means
calls::call_method-returns-in_ok-args-in-Some-method-2-clause-means t c =
    let ctx = c.args.context.now in
    let call = c.args.call in
    let es = map (expr_in ctx) call.args.now in
    let vs = map view_of c.in_ok-args-in-Some-method-2.args.items in
    let id = c.in-Store.id in
    let m = c.in-Some-method-2.method in
    let d = gave (λ us. map view_of us.items) c.eval_all-in-Some-method-2.result c.in_ok-args-in-Some-method-2.args c.eval_all-in-Some-method-2.new.locals c.eval_all-in-Some-method-2.new.world (all_values es c.args.locals.now c.args.world.now) c.in_ok-args-in-Some-method-2.was c.eval_all-in-Some-method-2.ensures.means in
    let e = ap (λ v. method_call (ground_of ctx) (calls_of ctx) c.args.property call.span call.of.now.span es (view_of v) c.args.locals.now c.args.world.now) c.in-Store.is
    ∙ store_method_is (ground_of ctx) (calls_of ctx) c.args.property call.span call.of.now.span es id m c.args.locals.now c.eval_all-in-Some-method-2.new.locals c.args.world.now c.eval_all-in-Some-method-2.new.world vs c.in-Some-method-2.is (sym c.has_method.ensures ∙ c.if-has_method.true) d in
    gives_as view_of c.call_on_store.result c.eval_all-in-Some-method-2.new.locals c.call_on_store.new.world _ _ e (ends_kept view_of c.call_on_store.result c.eval_all-in-Some-method-2.new.locals c.call_on_store.new.world (on_store m (calls_of ctx) call.span id vs c.eval_all-in-Some-method-2.new.world) (rw c.deref-in-Some-method-2.ensures.value at c.call_on_store.ensures.means))

-- ---- derived stores

pub settling::derive-returns-clause-means : goal.settling::derive-returns-clause-means
settling::derive-returns-clause-means t c = λ r k.
    let ctx = c.args.context.now in
    let p = ctx.program.now in
    let x = c.args.computation in
    let w = c.args.world.now in
    let w' = c.answer.new.world in
    let v = view_of c.in_ok-argument.argument in
    let a = handed r.takes_list (input_values w.states.stores r.inputs) in
    let d = subst (λ z. EndsAs view_of z w' (answered x.span a w)) c.in_ok-argument.was (c.answer.ensures.answers a k.argument) in
    let d' = subst (λ s. answered s a w ≡ Ends v w') k.span d in
    let e = ap (λ o. (mode_on o p).derives ctx.room x.owner.number r w) (unseen ctx.sight (sym c.is_some.ensures ∙ c.if-is_some.false))
    ∙ derive_gives p ctx.room x.owner.number r w w' v (called_apart p ctx.room x.owner.number r v w') d' refl in
    ends_as view_of c.call_apart.result c.call_apart.new.world _ _ e (rw (c.in_ok-view.ensures, k.span, k.function) at c.call_apart.ensures.means)

pub settling::derive-returns-clause-rest : goal.settling::derive-returns-clause-rest
settling::derive-returns-clause-rest t c =
    let x = c.args.computation in
    let w = c.args.world.now in
    let w' = c.answer.new.world in
    let a = answer_of x.argument in
    let d = subst (λ z. EndsAs view_of z w' (answered x.span a w)) c.in_ok-argument.was (c.answer.ensures.answers a (answers-answer_of x.argument)) in
    let l = answered_leaves x.span a w w' (view_of c.in_ok-argument.argument) d in
    always c.call_apart.result (c.call_apart.ensures.rest ∙ ap (λ (z : World). record z { turn = c.call_apart.new.world.turn }) l)

pub settling::settle-loop-round-preserved : goal.settling::settle-loop-round-preserved
settling::settle-loop-round-preserved t c =
    let ctx = c.args.context.now in
    let derives = (calls_of ctx).derives in
    let w = c.loop-round.world in
    let w' = c.compute.new.world in
    let n = length c.args.world.now.states.derived - c.loop-round._round in
    let m = length c.args.world.now.states.derived - (c.loop-round._round + 1) in
    let below = c.loop-round-test.true in
    let count = c.derived_count-round-end.ensures in
    let id = c.in-Some.id in
    let d = ended c.compute.result c.in_ok-compute.field-0 w' (compute derives id (found w.states.derived id) w) c.in_ok-compute.was c.compute.ensures.means in
    let x1 = c.compute.ensures.fewer in
    let x2 = c.loop-round.invariant.fewer in
    record {
      same = c.loop-round.invariant.same ∙ settles_one n m derives w w' id (omega arith) (sym c.pending.ensures ∙ c.in-Some.is) d;
      fewer = omega arith;
    }

-- ---- names that are bumped

pub values::eval_bump-returns-in_err-value-clause-means : goal.values::eval_bump-returns-in_err-value-clause-means
values::eval_bump-returns-in_err-value-clause-means t c =
    let ctx = c.args.context.now in
    let g = ground_of ctx in
    let b = c.args.bump in
    let env = c.args.locals.now in
    let w' = c.read.new.world in
    let w'' = c.answer.new.world in
    let a = view_of c.in_ok-old.old in
    let v = view_of c.in_ok-new.new in
    let r = gave view_of c.read.result c.in_ok-old.old env w' (read g ctx.owner.number b.target b.at env c.args.world.now) c.in_ok-old.was c.read.ensures.means in
    let d = subst (λ z. EndsAs view_of z w'' (answered b.span (bumped b.up a) w')) c.in_ok-new.was (c.answer.ensures.answers (bumped b.up a) c.bumped.ensures) in
    let e = bump_sets g (calls_of ctx) ctx.owner.number b.target b.at b.up b.prefix b.span env c.args.world.now w' w'' a v r d in
    err_exit view_of view_of c.set.result c.in_err-value.field-0.0 c.from_residual-in_err-value.result c.set.new.locals c.set.new.world (set g (calls_of ctx) ctx.owner.number b.target v b.at env w'') _ c.in_err-value.was c.from_residual-in_err-value.ensures.1 (rw c.in_ok-share.ensures at c.set.ensures.means)
    (λ k s f. e ∙ ap (λ o. and_then o (λ u. Done (if b.prefix then v else a))) f)

pub values::eval_bump-returns-clause-means : goal.values::eval_bump-returns-clause-means
values::eval_bump-returns-clause-means t c =
    let ctx = c.args.context.now in
    let g = ground_of ctx in
    let b = c.args.bump in
    let env = c.args.locals.now in
    let w' = c.read.new.world in
    let w'' = c.answer.new.world in
    let a = view_of c.in_ok-old.old in
    let v = view_of c.in_ok-new.new in
    let r = gave view_of c.read.result c.in_ok-old.old env w' (read g ctx.owner.number b.target b.at env c.args.world.now) c.in_ok-old.was c.read.ensures.means in
    let d = subst (λ z. EndsAs view_of z w'' (answered b.span (bumped b.up a) w')) c.in_ok-new.was (c.answer.ensures.answers (bumped b.up a) c.bumped.ensures) in
    let e = bump_sets g (calls_of ctx) ctx.owner.number b.target b.at b.up b.prefix b.span env c.args.world.now w' w'' a v r d in
    let s = gave view_of c.set.result c.in_ok-value.value c.set.new.locals c.set.new.world (set g (calls_of ctx) ctx.owner.number b.target v b.at env w'') c.in_ok-value.was (rw c.in_ok-share.ensures at c.set.ensures.means) in
    e ∙ ap (λ o. and_then o (λ u. Done (if b.prefix then v else a))) s ∙ ap (λ z. Done z c.set.new.locals c.set.new.world) (sym c.bump_value.ensures)
