-- What is drawn of what is held is what evaluations give on the present view.
use Rattle.std.proofs.Common.{List, [], ◌∷◌, Option, None, refl}
use Rattle.sv_agree.proofs.Levels.{agreeing}
use Rattle.sv_agree.specs.Drawing.{DrawnAsEvaluated}
use Rattle.sv_agree.specs.Scopes.{StaysIn, everything}
use Rattle.sv_code.proofs.Each.{each_of}
use Rattle.sv_code.specs.Content as content
use Rattle.sv_right.proofs.Holding.{holding}
use Rattle.sv_right.specs.Drawing.{AreAlike, AreOwnersAlike, AreAllAlike}
use Rattle.sv_value.specs.Value.{Val}
use Rattle.sv_view.specs.Level.{Level, View}

-- a view is alike to itself
self_alike : (v : View) → AreAlike v v
self_alike v = record { one = record { inst = refl; constants = refl; modules = refl }; cells = λ n. refl; locals = λ x. refl }

owners_alike : (ms : List (List (Option Val))) (ls : List Level) → AreOwnersAlike ms ms ls ls
owners_alike ms [] = tt
owners_alike ms (l ∷ ls) = (self_alike (record { own = l; owners = ls; modules = ms }), owners_alike ms ls)

all_alike : (v : View) → AreAllAlike v v
all_alike v = record { own = self_alike v; owners = owners_alike v.modules v.owners }

pub drawing : DrawnAsEvaluated
drawing page depth fresh drawn tags tags' frags v now kept shapes within seen fits agrees named right draws =
    holding page fresh drawn tags' frags now now kept shapes
    (agreeing page.program depth everything tags tags' frags v now shapes within seen (record { within = fits; looks = each_of (StaysIn page.program None) (λ look. tt) (content.of_frags frags []) }) agrees right)
    (all_alike now) named draws
