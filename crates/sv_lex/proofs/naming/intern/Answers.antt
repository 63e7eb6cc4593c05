use Rattle.std.proofs.Common.{◌≡◌, ◌≢◌, ◌+◌, length, refl, sym, ◌∙◌, arith, length-append}
use Rattle.sv_base.specs.Names.{number_of}
use Rattle.sv_base.specs.declared.limits.TheConstants.{NAME_LIMIT}
use Rattle.sv_lex.proofs.Joined.{number_of-front, number_of-back, number_of-le, IsTable-with_text}
use Rattle.sv_lex.proofs.naming.intern.Goals as goal

pub returns-in-Some-clause-name : goal.returns-in-Some-clause-name
returns-in-Some-clause-name c =
    let some : number_of c.args.text.now c.args.known.now ≢ length c.args.known.now = λ e. let none = c.in-Some.ensures.none.1 e in cc in
    c.in-Some.ensures.number ∙ sym (number_of-front c.args.text.now c.args.known.now c.args.added.now some)

pub overflow_add-result : goal.overflow_add-result
overflow_add-result c =
    let below = number_of-le c.args.text.now c.args.added.now in
    let number = c.in_ok-number.ensures.number in let count = c.len-count.ensures.count in
    let size = length-append c.args.known.now c.args.added.now in let few = c.requires.few in
    omega arith

pub returns-clause-name : goal.returns-clause-name
returns-clause-name c =
    let none : number_of c.args.text.now c.args.known.now ≡ length c.args.known.now = c.in_default.ensures.none.0 refl in
    let back = number_of-back c.args.text.now c.args.known.now c.args.added.now none in
    let count = c.len-count.ensures.count in let number = c.in_ok-number.ensures.number in
    omega arith

pub returns-clause-table : goal.returns-clause-table
returns-clause-table c =
    let none : number_of c.args.text.now c.args.known.now ≡ length c.args.known.now = c.in_default.ensures.none.0 refl in
    let count = c.len-count.ensures.count in let more = c.len.ensures.count in
    let room : length c.args.known.now + length c.args.added.now ≢ NAME_LIMIT = λ full. c.if-count-len-eq-NAME_LIMIT.false (omega arith) in
    IsTable-with_text c.args.text.now c.args.known.now c.args.added.now c.intern.new.self c.requires none room c.in_ok-number.ensures.table
