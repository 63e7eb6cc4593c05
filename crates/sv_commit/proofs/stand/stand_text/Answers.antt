use Rattle.std.proofs.Common.{◌++◌, ◌∷◌, ap, sym, ◌∙◌, subst}
use Rattle.sv_live.specs.declared.live.Live.{Live}
use Rattle.sv_live.specs.declared.live.Live.TheVariants as live
use Rattle.sv_live.specs.Shown.{name_of}
use Rattle.sv_live.specs.Stands.{Stands, Becomes}
use Rattle.sv_live.proofs.Stands.{Stands-then, Becomes-then}
use Rattle.sv_live.proofs.Inside.{text-stands}
use Rattle.sv_commit.proofs.Names.{mark-Text}
use Rattle.sv_commit.proofs.Standing.{at_some, from-same, put-within, put-gone, text-set}
use Rattle.sv_commit.proofs.Results.{ok-map}
use Rattle.sv_commit.proofs.stand.stand_text.Goals as goal

pub returns-in_default-clause-stands : goal.returns-in_default-clause-stands
returns-in_default-clause-stands c =
    let none = c.in_ok-live.ensures.none c.in_default.is in
    ok-map c.make_text.result c.make_text.ensures.stands (λ n f.
    from-same c.args.screen.now c.bring.new.screen _ (name_of c.args.spot.above) c.args.spot.end c.args.walk.now.rest c.args.walk.now.placed c.bring.new.walk.rest c.bring.new.walk.placed _ none.0 none.1 c.in_ok-live.ensures.placed (f c.args.mark))

pub set_text-requires : goal.set_text-requires
set_text-requires c =
    let is = c.in-Ok.ensures.text in
    let b = at_some _ c.in_ok-live.field-0 c.in-Some.live c.in-Some.is c.in_ok-live.ensures.brought in
    text-stands c.bring.new.screen.page (name_of c.args.spot.above) c.args.spot.end c.bring.new.walk.rest c.bring.new.walk.placed is.0 c.in-Ok.named is.1
    (subst (λ (l : Live). Stands c.bring.new.screen.page (name_of c.args.spot.above) c.args.spot.end (c.bring.new.walk.rest ++ l ∷ c.bring.new.walk.placed)) is.2
    (Stands-then c.args.screen.now c.bring.new.screen (name_of c.args.spot.above) c.args.spot.end _ _ c.requires b))

pub put_away-requires : goal.put_away-requires
put_away-requires c =
    put-within c.args.screen.now c.bring.new.screen (name_of c.args.spot.above) c.args.spot.end _ c.bring.new.walk.rest c.bring.new.walk.placed c.in-Some.live c.in-Err.other c.in-Err.ensures.other.0
    (at_some _ c.in_ok-live.field-0 c.in-Some.live c.in-Some.is c.in_ok-live.ensures.brought) c.requires

pub make_text-requires-in-Err : goal.make_text-requires-in-Err
make_text-requires-in-Err c =
    Stands-then c.args.screen.now c.put_away.new.screen (name_of c.args.spot.above) c.args.spot.end _ _ c.requires
    (put-gone c.args.screen.now c.bring.new.screen (name_of c.args.spot.above) c.args.spot.end _ c.bring.new.walk.rest c.bring.new.walk.placed c.in-Some.live c.in-Err.other c.in-Err.ensures.other.0
    (at_some _ c.in_ok-live.field-0 c.in-Some.live c.in-Some.is c.in_ok-live.ensures.brought) c.put_away.new.screen c.in_ok-put_away-in-Err.ensures)

pub returns-in_ok-set_text-in-Ok-clause-stands : goal.returns-in_ok-set_text-in-Ok-clause-stands
returns-in_ok-set_text-in-Ok-clause-stands c =
    let is = c.in-Ok.ensures.text in
    let b = at_some _ c.in_ok-live.field-0 c.in-Some.live c.in-Some.is c.in_ok-live.ensures.brought in
    let mark = mark-Text c.by_mark.result c.args.mark is.0 c.in-Ok.named is.1 c.args.walk.now.rest c.in-Some.live (sym c.in_ok-live.ensures.found ∙ c.in-Some.is) c.by_mark.ensures is.2 in
    let e = c.in_ok-set_text-in-Ok.ensures in
    text-set c.args.screen.now c.bring.new.screen c.set_text.new.self (name_of c.args.spot.above) c.args.spot.end _ c.bring.new.walk.rest c.bring.new.walk.placed c.args.mark c.in-Ok.named is.1 c.args.text.now
    (subst (λ (l : Live). Becomes c.args.screen.now c.bring.new.screen (name_of c.args.spot.above) c.args.spot.end (c.args.walk.now.rest ++ c.args.walk.now.placed) (c.bring.new.walk.rest ++ l ∷ c.bring.new.walk.placed))
    (is.2 ∙ ap (λ m. live.Text m c.in-Ok.named is.1) mark) b) e.tokens e.next e.tells

pub returns-in_ok-put_away-in-Err-clause-stands : goal.returns-in_ok-put_away-in-Err-clause-stands
returns-in_ok-put_away-in-Err-clause-stands c =
    ok-map c.make_text-in-Err.result c.make_text-in-Err.ensures.stands (λ n f.
    Becomes-then c.args.screen.now c.put_away.new.screen _ (name_of c.args.spot.above) c.args.spot.end _ _ _
    (put-gone c.args.screen.now c.bring.new.screen (name_of c.args.spot.above) c.args.spot.end _ c.bring.new.walk.rest c.bring.new.walk.placed c.in-Some.live c.in-Err.other c.in-Err.ensures.other.0
    (at_some _ c.in_ok-live.field-0 c.in-Some.live c.in-Some.is c.in_ok-live.ensures.brought) c.put_away.new.screen c.in_ok-put_away-in-Err.ensures) (f c.args.mark))
