-- The end of a slice is turned.
use Rattle.std.proofs.Common.{◌≡◌, ◌≤◌, ◌-◌, ℕ, List, ◌++◌, length, take, drop, ap, ◌∙◌, arith}
use Rattle.std.proofs.lemmas.List.{take_at, drop_at, take_all, drop_all, append-nil, length-append}
use borrow.Rule.Slice.PartMut.{put_mid, mid_of}

-- a slice from a place on
record Part {A : Type 0} (xs front rest : List A) (at : ℕ) : Type 0 where
  inside : mid_of at (length xs - at) xs ≡ rest
  put : (ys : List A) → put_mid at (length xs - at) xs ys ≡ front ++ ys

part : {A : Type 0} (xs front rest : List A) (at : ℕ) → xs ≡ front ++ rest → length front ≡ at → Part xs front rest at
part xs front rest at is here =
    let size = ap length is ∙ length-append front rest in
    let k : ℕ = length xs - at in
    let enough : length rest ≤ k = omega (arith, size, here) in
    let later : drop at xs ≡ rest = ap (drop at) is ∙ drop_at front rest at here in
    let earlier : take at xs ≡ front = ap (take at) is ∙ take_at front rest at here in
    record {
      inside = ap (take k) later ∙ take_all k rest enough;
      put = λ ys. (λ i. earlier i ++ (ys ++ drop k (later i))) ∙ (ap (λ z. front ++ (ys ++ z)) (drop_all k rest enough) ∙ ap (λ z. front ++ z) (append-nil ys));
    }

pub turned-left : {A : Type 0} (xs front own back new : List A) (at count : ℕ) → xs ≡ front ++ (own ++ back) → length front ≡ at → length own ≡ count
    → new ≡ drop count (mid_of at (length xs - at) xs) ++ take count (mid_of at (length xs - at) xs) → put_mid at (length xs - at) xs new ≡ front ++ (back ++ own)
turned-left xs front own back new at count is here size turns =
    let p = part xs front (own ++ back) at is here in
    p.put new
    ∙ ap (λ z. front ++ z) (turns ∙ (ap (λ z. drop count z ++ take count z) p.inside ∙ (λ i. drop_at own back count size i ++ take_at own back count size i)))

pub turned-right : {A : Type 0} (xs front own back new : List A) (at count : ℕ) → xs ≡ front ++ (back ++ own) → length front ≡ at → length own ≡ count
    → new ≡ drop (length (mid_of at (length xs - at) xs) - count) (mid_of at (length xs - at) xs) ++ take (length (mid_of at (length xs - at) xs) - count) (mid_of at (length xs - at) xs)
    → put_mid at (length xs - at) xs new ≡ front ++ (own ++ back)
turned-right xs front own back new at count is here size turns =
    let p = part xs front (back ++ own) at is here in
    let all = length-append back own in
    let rest : length back ≡ length (back ++ own) - count = omega (arith, all, size) in
    p.put new
    ∙ ap (λ z. front ++ z) (turns ∙ (ap (λ z. drop (length z - count) z ++ take (length z - count) z) p.inside
    ∙ (λ i. drop_at back own (length (back ++ own) - count) rest i ++ take_at back own (length (back ++ own) - count) rest i)))
