-- Events that are told one after another.
use Rattle.std.proofs.Common.{◌≡◌, ◌<◌, ◌≤◌, ◌+◌, ℕ, List, [], ◌∷◌, ◌++◌, length, get_or, drop, map, refl, ap, sym, ◌∙◌, append_assoc, append-nil}
use Rattle.std.specs.Prelude.{Ok, Err, Some, None}
use Rattle.std.proofs.lemmas.List.{at_drop_more, at_drop_all}
use Rattle.serde_json.specs.View.{view}
use Rattle.serde_json.specs.declared.value.Value.{Value}
use Rattle.sv_events.specs.EventsFile.{Told, behind, first_then, each_event}
use Rattle.sv_events.specs.Form.{event_of}
use Rattle.sv_events.specs.declared.form.Version.{Version}
use Rattle.sv_events.specs.declared.event.Event.{Event}

-- what is told of the values from a place on
abbrev pub left : Version → List Value → ℕ → Told
left version vs at = each_event version at (map view (drop at vs))

pub before_any : (told : Told) → told ≡ behind [] told
before_any (Ok events) = refl
before_any (Err error) = refl

behind-behind : (some more : List Event) (told : Told) → behind some (behind more told) ≡ behind (some ++ more) told
behind-behind some more (Ok events) = ap Ok (sym (append_assoc some more events))
behind-behind some more (Err error) = refl

turn : (version : Version) (vs : List Value) (at : ℕ) (v : Value) → at < length vs → v ≡ get_or vs at v → left version vs at ≡ first_then at (event_of version (view v)) (left version vs (at + 1))
turn version vs at v below here = at_drop_more (λ rest. each_event version at (map view rest)) vs at v below ∙ ap (λ w. first_then at (event_of version (view w)) (left version vs (at + 1))) (sym here)

-- the next value is an event
pub one_more : (version : Version) (vs : List Value) (at : ℕ) (v : Value) (all : Told) (so_far now : List Event) (event : Event) → at < length vs → v ≡ get_or vs at v
    → Some event ≡ event_of version (view v) → now ≡ so_far ++ event ∷ [] → all ≡ behind so_far (left version vs at) → all ≡ behind now (left version vs (at + 1))
one_more version vs at v all so_far now event below here is grown so =
    so ∙ ap (behind so_far) (turn version vs at v below here ∙ ap (λ e. first_then at e (left version vs (at + 1))) (sym is)) ∙ behind-behind so_far (event ∷ []) (left version vs (at + 1)) ∙ ap (λ events. behind events (left version vs (at + 1))) (sym grown)

-- the next value is none
pub one_wrong : (version : Version) (vs : List Value) (at : ℕ) (v : Value) (all : Told) (so_far : List Event) → at < length vs → v ≡ get_or vs at v → None ≡ event_of version (view v)
    → all ≡ behind so_far (left version vs at) → all ≡ first_then at None all
one_wrong version vs at v all so_far below here is so = so ∙ ap (behind so_far) (turn version vs at v below here ∙ ap (λ e. first_then at e (left version vs (at + 1))) (sym is))

-- no value is left
pub all_told : (version : Version) (vs : List Value) (at : ℕ) (all : Told) (so_far : List Event) → length vs ≤ at → all ≡ behind so_far (left version vs at) → all ≡ Ok so_far
all_told version vs at all so_far past so = so ∙ ap (behind so_far) (at_drop_all (λ rest. each_event version at (map view rest)) vs at past) ∙ ap Ok (append-nil so_far)
