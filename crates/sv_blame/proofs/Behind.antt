-- The frame of texts that begin at a place of a file: no refusal stands before it.
use Rattle.std.proofs.Common.{◌≤◌, ◌==◌, ℕ, Bool, arith}
use Rattle.std.specs.Prelude.{Ok, Err}
use Rattle.sv_ast.specs.declared.refusals.Kind.TheVariants.{Syntax, TooDeep, NumberTooWide}
use Rattle.sv_ast.specs.declared.refusals.Kind.{Kind}
use Rattle.sv_ast.specs.declared.refusals.Refused.{Refused}
use Rattle.sv_lex.specs.declared.cursor.Run.{Run}
use Rattle.sv_lex.specs.declared.pieces.Piece.TheVariants.{Written}
use Rattle.sv_lex.specs.declared.strings.Quote.TheVariants.{Back}
use Rattle.sv_lex.specs.Literals.{run, end_len}
use Rattle.sv_lex.specs.Pieces.{rest}
use Rattle.sv_lex.specs.Reader.{Input, Outcome, refusal, start}
use Rattle.sv_blame.proofs.Frame.{Any, Tells, IsFrame, Since, next-up, goes, stops, tells_if}

-- a refusal of a run stands behind its beginning
run_behind : (i : Input) → Tells (λ o. Unit {0}) (λ e. i.at ≤ e.at.from) Any i (run i)
unfolding run
run_behind i = tells_if Any (end_len (rest (Written Back) i.text) == 0) _ _ (λ e. stops (omega arith)) (λ e. goes tt (omega arith) tt)

token_behind : (kind : Kind) (i : Input) → i.at ≤ (refusal kind i).at.from
unfolding refusal start
token_behind kind i = omega arith

start_behind : (i : Input) → i.at ≤ start i
unfolding start
start_behind i = omega arith

module _ {At : Input → Type 0} {Bad : Refused → Type 0} {Room Tight Links : ℕ → ℕ → Type 0} {most widest : ℕ} (f : IsFrame At Bad Room Tight Links most widest) (low : ℕ) where
  abbrev pub AtBehind : Input → Type 0
  AtBehind i = At i × (low ≤ i.at)

  abbrev pub BadBehind : Refused → Type 0
  BadBehind e = Bad e × (low ≤ e.at.from)

  refused : (kind : Kind) (i : Input) → low ≤ i.at → low ≤ (refusal kind i).at.from
  refused kind i le = let up = token_behind kind i in omega arith

  runs : (i : Input) → AtBehind i → Tells AtBehind BadBehind Any i (run i)
  runs i s = by (run i) (f.runs i s.0) (run_behind i)
    where
      by : (r : Outcome (Run × Bool)) → Tells At Bad Any i r → Tells (λ o. Unit {0}) (λ e. i.at ≤ e.at.from) Any i r → Tells AtBehind BadBehind Any i r
      by (Ok p) h g = let le = s.1 in let up = h.is.0.low in goes (h.is.0.stands, omega arith) up tt
      by (Err e) h g = let le = s.1 in let up : i.at ≤ e.at.from = g.is in stops (h.is, omega arith)

  spanned : (from : ℕ) (i : Input) → AtBehind i → Since AtBehind from i.at → BadBehind (record { kind = Syntax; at = record { file = i.file; from = from; to = i.at } })
  spanned from i s h =
      let le = h.stands.1 in let up = start_behind h.origin in let same = h.is in
      (f.spanned from i s.0 (record { origin = h.origin; stands = h.stands.0; is = h.is; le = h.le }), omega arith)

  pub behind : IsFrame AtBehind BadBehind Room Tight Links most widest
  behind = record {
    steps = λ i s. (let le = s.1 in let up = next-up i in (f.steps i s.0, omega arith));
    knows = λ text i s. (f.knows text i s.0, s.1);
    syntax = λ i s. (f.syntax i s.0, refused Syntax i s.1);
    spanned = spanned;
    wide = λ i s h wide. (f.wide i s.0 h wide, refused NumberTooWide i s.1);
    runs = runs;
    deep = λ i s room. (f.deep i s.0 room, refused TooDeep i s.1);
    long = λ i s links. (f.long i s.0 links, refused TooDeep i s.1);
    sign = λ d i s room h. f.sign d i s.0 room h;
    hole = λ d i o x s e h room. f.hole d i o x s.0 e h room;
    brace = λ d i s room h. f.brace d i s.0 room h;
    link = λ n i s links h. f.link n i s.0 links h;
    begun = f.begun;
    more = f.more;
    room_up = f.room_up;
    tight_up = f.tight_up;
    links_up = f.links_up;
    loose = f.loose;
    inner = f.inner;
  }
