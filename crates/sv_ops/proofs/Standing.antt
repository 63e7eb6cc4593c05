-- Where a text stands in another.
use Rattle.std.proofs.Common.{arith, rules, ◌≡◌, ℕ, Bool, true, false, ◌↔◌, List, [], ◌∷◌, ◌++◌, length, drop, refl, ap, ◌∙◌}
use Rattle.std.specs.Str.Iter.{HasSubslice}
use Rattle.sv_ops.specs.Texts.{is_front, has_text}

pub front-append : (t b : List ℕ) → is_front t (t ++ b) ≡ true
front-append [] b = refl
front-append (c ∷ t) b = grind (arith, front-append t b)

pub front-splits : (t s : List ℕ) → is_front t s ≡ true → s ≡ t ++ drop (length t) s
front-splits [] s h = refl
front-splits (c ∷ t) [] h = absurd (search rules)
front-splits (c ∷ t) (d ∷ s) h = grind (arith, front-splits t s)

front-has : (t s : List ℕ) → is_front t s ≡ true → has_text t s ≡ true
front-has t [] h = h
front-has t (c ∷ s) h = grind (arith)

stands : (t a b : List ℕ) → has_text t (a ++ (t ++ b)) ≡ true
stands t [] b = front-has t (t ++ b) (front-append t b)
stands t (c ∷ a) b = grind (arith, stands t a b)

consed : (c : ℕ) (t s : List ℕ) → HasSubslice s t → HasSubslice (c ∷ s) t
consed c t s h = (c ∷ h.0, h.1, ap (λ u. c ∷ u) h.2)

at_front : (b : Bool) (c : ℕ) (t s : List ℕ) → is_front t (c ∷ s) ≡ b → has_text t (c ∷ s) ≡ true → (has_text t s ≡ true → HasSubslice s t) → HasSubslice (c ∷ s) t
at_front true c t s e h later = ([], drop (length t) (c ∷ s), front-splits t (c ∷ s) e)
at_front false c t s e h later = consed c t s (later (grind (arith)))

has_text-HasSubslice : (t s : List ℕ) → has_text t s ≡ true → HasSubslice s t
has_text-HasSubslice t [] h = ([], drop (length t) [], front-splits t [] h)
has_text-HasSubslice t (c ∷ s) h = at_front (is_front t (c ∷ s)) c t s refl h (has_text-HasSubslice t s)

HasSubslice-has_text : (t s : List ℕ) → HasSubslice s t → has_text t s ≡ true
HasSubslice-has_text t s h = ap (has_text t) h.2 ∙ stands t h.0 h.1

not_standing : (b : Bool) (t s : List ℕ) → has_text t s ≡ b → (HasSubslice s t → false ≡ true) → has_text t s ≡ false
not_standing false t s e h = e
not_standing true t s e h = absurd (search (rules, h (has_text-HasSubslice t s e)))

-- what a search tells
pub has_text-told : (r : Bool) (t s : List ℕ) → (r ≡ true) ↔ HasSubslice s t → has_text t s ≡ r
has_text-told true t s told = HasSubslice-has_text t s (told.0 refl)
has_text-told false t s told = not_standing (has_text t s) t s refl told.1
