-- The line and the column of a place, by the lines that have begun.
use Rattle.std.proofs.Common.{◌≡◌, ◌<◌, ◌≤◌, ℕ, zero, suc, ◌+◌, ◌-◌, List, [], ◌∷◌, ◌++◌, length, get_or, take, drop, Bool, true, false, refl, ap, sym, ◌∙◌, arith, leb, leb-true, le-leb, append-nil}
use Rattle.std.specs.List.{All, AllWithin}
use denote.Param.Members.{Mut}
use denote.Ref.{Bor}
use Rattle.std.specs.Fn.{Called, ComputesKey}
use Rattle.std.specs.List.Sorted.{IsPartitionedBy, IsPartitionPoint}
use Rattle.std.proofs.lemmas.Bool.{lt-leb, leb-false}
use Rattle.std.proofs.lemmas.List.Elements.{All-head, All-tail, filter-append, filter_passes}
use Rattle.std.proofs.lemmas.List.Sorted.{IsNonDecreasingBy-from_all_adjacent, IsPartitionedBy-leb, IsPartitionPoint-from_clause}
use Rattle.std.proofs.lemmas.List.{take-append-drop, length-take-le}
use Rattle.sv_base.specs.Place.{line_of, column_of}
use Rattle.sv_lines.specs.Lines.{behind_feeds, line_starts, ascends, begun, last_start, line_in, column_in, IsPlace}
use Rattle.sv_lines.proofs.Starts.{ascends-next, behind_feeds-append, behind_feeds-above, up_to, length-last_line}

-- ---- the lines that have begun

begun-all : (starts : List ℕ) (at : ℕ) → All (λ s. s ≤ at) starts → begun starts at ≡ starts
begun-all [] at below = refl
begun-all (s ∷ starts) at below = rw (le-leb s at (All-head (λ s. s ≤ at) s starts below)) (ap (λ l. s ∷ l) (begun-all starts at (All-tail (λ s. s ≤ at) s starts below)))

begun-nothing : (starts : List ℕ) (at : ℕ) → All (λ s. at < s) starts → begun starts at ≡ []
begun-nothing [] at above = refl
begun-nothing (s ∷ starts) at above = rw (lt-leb s at (All-head (λ s. at < s) s starts above)) (begun-nothing starts at (All-tail (λ s. at < s) s starts above))

-- a place that parts the starts up to `at` from those behind it tells the lines that have begun
pub begun-parted : (starts : List ℕ) (at i : ℕ) → i ≤ length starts → AllWithin (λ s. leb s at ≡ true) starts 0 i → AllWithin (λ s. leb s at ≡ false) starts i (length starts)
    → begun starts at ≡ take i starts
begun-parted [] at zero h low high = refl
begun-parted [] at (suc i) h low high = refl
begun-parted (s ∷ starts) at zero h low high = begun-nothing (s ∷ starts) at (λ k d below. leb-false _ _ (high k d (omega arith) below))
begun-parted (s ∷ starts) at (suc i) h low high =
    rw (low 0 0 (omega arith) (omega arith)) (ap (λ l. s ∷ l)
    (begun-parted starts at i (omega arith) (λ k d from to. low (suc k) d (omega arith) (omega arith)) (λ k d from to. high (suc k) d (omega arith) (omega arith))))

-- in starts that ascend the lines that have begun stand before the others
pub ascends-parted : (starts : List ℕ) (at : ℕ) → ascends starts ≡ true → IsPartitionedBy (λ s. leb s at) starts
ascends-parted starts at up = IsPartitionedBy-leb (λ s. s) starts at (IsNonDecreasingBy-from_all_adjacent (λ s. s) starts (λ k d h. ascends-next starts k d up h))

last_start-all : (starts : List ℕ) (at : ℕ) → All (λ s. leb s at ≡ true) starts → last_start starts ≤ at
last_start-all [] at low = omega arith
last_start-all (s ∷ []) at low = leb-true s at (All-head (λ s. leb s at ≡ true) s [] low)
last_start-all (s ∷ t ∷ starts) at low = last_start-all (t ∷ starts) at (All-tail (λ s. leb s at ≡ true) s (t ∷ starts) low)

-- the last line that has begun did so at the place or before it
pub last_start-below : (starts : List ℕ) (at : ℕ) → last_start (begun starts at) ≤ at
last_start-below starts at = last_start-all (begun starts at) at (filter_passes (λ s. leb s at) starts)

last_start-get : (start : ℕ) (starts : List ℕ) → last_start (start ∷ starts) ≡ get_or (start ∷ starts) (length starts) 0
last_start-get start [] = refl
last_start-get start (s ∷ starts) = last_start-get s starts

pub last_start-last : (starts : List ℕ) → last_start starts ≡ get_or starts (length starts - 1) 0
last_start-last [] = refl
last_start-last (s ∷ starts) = let end : length (s ∷ starts) - 1 ≡ length starts = omega arith in rw end (last_start-get s starts)

-- what a search by halves finds: how many lines have begun, and where the last of them did
pub record Found (starts : List ℕ) (at line start : ℕ) : Type 0 where
  pub count : line ≡ line_in starts at
  pub last : start ≡ last_start (begun starts at)
  pub low : start ≤ at

pub found : {F : Type 0} {g : Mut F (Bor ℕ × Unit {0}) Bool} {f : F} (starts slice : List ℕ) (at line start : ℕ) → slice ≡ starts → ascends starts ≡ true → line ≤ length slice
    → ((q : ℕ → Bool) → ComputesKey g q f → IsPartitionedBy q slice → IsPartitionPoint (λ s. q s ≡ true) (λ s. q s ≡ false) slice line)
    → ((a : Bor ℕ × Unit {0}) (r : Bool) (f' : F) → Called g f a r f' → (r ≡ leb a.0.now at) × (f' ≡ f)) → start ≡ last_start (take line slice) → Found starts at line start
found starts slice at line start same up bound clause calls last =
    let parts = IsPartitionPoint-from_clause (λ s. leb s at) slice line clause (ascends-parted slice at (ap ascends same ∙ up)) calls in
    let front : begun starts at ≡ take line slice = ap (λ l. begun l at) (sym same) ∙ begun-parted slice at line bound parts.0 parts.1 in
    let begins : start ≡ last_start (begun starts at) = last ∙ ap last_start (sym front) in
    let below = last_start-below starts at in
    record {
      count = sym (ap length front ∙ length-take-le line slice bound);
      last = begins;
      low = omega arith;
    }

-- ---- the lines of a text

-- the lines that begin up to a place, and those that begin behind it
pub line_starts-split : (bytes : List ℕ) (at : ℕ) → at ≤ length bytes → line_starts bytes ≡ line_starts (take at bytes) ++ behind_feeds at (drop at bytes)
line_starts-split bytes at h =
    let size : 0 + length (take at bytes) ≡ at = omega (arith, length-take-le at bytes h) in
    ap line_starts (sym (take-append-drop at bytes))
    ∙ ap (λ l. 0 ∷ l) (behind_feeds-append 0 (take at bytes) (drop at bytes) ∙ ap (λ n. behind_feeds 0 (take at bytes) ++ behind_feeds n (drop at bytes)) size)

begun-line_starts : (bytes : List ℕ) (at : ℕ) → at ≤ length bytes → begun (line_starts bytes) at ≡ line_starts (take at bytes)
begun-line_starts bytes at h =
    ap (λ l. begun l at) (line_starts-split bytes at h)
    ∙ filter-append (λ s. leb s at) (line_starts (take at bytes)) (behind_feeds at (drop at bytes))
    ∙ ap (λ l. l ++ begun (behind_feeds at (drop at bytes)) at) (begun-all (line_starts (take at bytes)) at (up_to bytes at h).below)
    ∙ ap (λ l. line_starts (take at bytes) ++ l) (begun-nothing (behind_feeds at (drop at bytes)) at (behind_feeds-above at (drop at bytes)))
    ∙ append-nil (line_starts (take at bytes))

-- the lines that have begun tell the line of a place
pub line_in-text : (bytes : List ℕ) (at : ℕ) → at ≤ length bytes → line_in (line_starts bytes) at ≡ line_of bytes at
line_in-text bytes at h = ap length (begun-line_starts bytes at h) ∙ (up_to bytes at h).count

-- and its column
pub column_in-text : (bytes : List ℕ) (at : ℕ) → at ≤ length bytes → column_in (line_starts bytes) at ≡ column_of bytes at
column_in-text bytes at h =
    let more : List ℕ = behind_feeds 0 (take at bytes) in
    let last = ap last_start (begun-line_starts bytes at h) ∙ last_start-get 0 more in
    let end : length more ≡ length (line_starts (take at bytes)) - 1 = omega arith in
    let same : get_or (line_starts (take at bytes)) (length more) 0 ≡ get_or (line_starts (take at bytes)) (length (line_starts (take at bytes)) - 1) 0 = ap (λ n. get_or (line_starts (take at bytes)) n 0) end in
    let was = (up_to bytes at h).last in
    let long = length-last_line (take at bytes) in
    omega arith

-- where a text has its lines, they tell the line and the column of its places
pub IsPlace-lines : (bytes starts : List ℕ) (at line start : ℕ) → line ≡ line_in starts at → start ≡ last_start (begun starts at) → starts ≡ line_starts bytes → at ≤ length bytes
    → IsPlace bytes at (line, at - start + 1)
IsPlace-lines bytes starts at line start l s is h = record {
  line = l ∙ ap (λ x. line_in x at) is ∙ line_in-text bytes at h;
  column = ap (λ n. at - n + 1) s ∙ ap (λ x. column_in x at) is ∙ column_in-text bytes at h;
}
