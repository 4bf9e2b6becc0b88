-- Reads and writes in a row.
use Rattle.std.proofs.Common.{◌≡◌, ℕ, ◌<◌, ◌≤◌, ◌+◌, List, [], ◌++◌, take, drop, length, Option, Some, None, IfSome, ap, ◌∙◌, sym, append_assoc, append-nil, arith, length-append}
use Rattle.std.proofs.lemmas.List.{drop-drop, drop_all, length-take-le, take-append-drop, take_at}
use Rattle.std.proofs.Math.Seq.{take-length}
use Rattle.std.specs.Io.KnownBytes.{Appends}
use Rattle.pm_store.specs.Outside.{GainsTold, IsAtEnd, LosesTold, Moves, StaysTold}

-- one gain after another
pub Gains-then : (a b c : Option (List ℕ)) (xs ys zs : List ℕ) → GainsTold a b xs → GainsTold b c ys → xs ++ ys ≡ zs → GainsTold a c zs
Gains-then None b c xs ys zs h k e = tt
Gains-then (Some had) b c xs ys zs h k e =
    let then : c ≡ Some ((had ++ xs) ++ ys) = rw h at k in
    then ∙ ap (λ (t : List ℕ). Some t) (append_assoc had xs ys ∙ ap (λ (t : List ℕ). had ++ t) e)

-- what a writer took
pub Gains-told : (old new : Option (List ℕ)) (bytes : List ℕ) → Appends old new bytes → GainsTold old new bytes
Gains-told None new bytes h = tt
Gains-told (Some had) None bytes h = absurd h
Gains-told (Some had) (Some all) bytes h = ap (λ (t : List ℕ). Some t) h

-- a piece copied to the front of a buffer, all k bytes of it
pub Fronts-all : (piece buf new : List ℕ) (k : ℕ) → k ≡ length piece → new ≡ take k piece → new ++ drop k buf ≡ piece ++ drop (length piece) buf
Fronts-all piece buf new k all e =
    let same : new ≡ piece = e ∙ ap (λ (n : ℕ). take n piece) all ∙ take-length piece in
    ap (λ (t : List ℕ). t ++ drop k buf) same ∙ ap (λ (n : ℕ). piece ++ drop n buf) all

-- the first k bytes that are left behind a place, at the front of a buffer
pub Moves-front : (items buf piece new : List ℕ) (at k : ℕ) → k ≤ length (drop at items) → piece ≡ take k (drop at items) → new ≡ piece ++ drop (length piece) buf
    → Moves (Some (drop at items)) (Some (drop (at + k) items)) k new
Moves-front items buf piece new at k room p e =
    let long : length piece ≡ k = ap length p ∙ length-take-le k (drop at items) room in
    let front : take k new ≡ take k (drop at items) = ap (λ (t : List ℕ). take k t) e ∙ take_at piece (drop (length piece) buf) k long ∙ p in
    (room, front, ap (λ (t : List ℕ). Some t) (sym (drop-drop k at items)))

-- what was read so far and what is left make up all that there was
abbrev pub SoFar : Option (List ℕ) → Option (List ℕ) → List ℕ → Type 0
SoFar old new got = IfSome old (λ all. (all ≡ got ++ drop (length got) all) × (new ≡ Some (drop (length got) all)))

-- after a read that failed
pub SoFar-fails : (old mid new : Option (List ℕ)) (got : List ℕ) → SoFar old mid got → StaysTold mid new → LosesTold old new
SoFar-fails None mid new got h s = tt
SoFar-fails (Some all) mid new got h s = (length got, rw h.1 at s)

-- after a read that moved k bytes
pub SoFar-loses : (old mid new : Option (List ℕ)) (got buf : List ℕ) (k : ℕ) → SoFar old mid got → Moves mid new k buf → LosesTold old new
SoFar-loses None mid new got buf k h m = tt
SoFar-loses (Some all) mid new got buf k h m =
    let moved = rw h.1 at m in
    (length got + k, moved.2 ∙ ap (λ (t : List ℕ). Some t) (drop-drop k (length got) all))

-- after a read that found the end
pub SoFar-ends : (old mid new : Option (List ℕ)) (got buf : List ℕ) (k : ℕ) → SoFar old mid got → Moves mid new k buf
    → IsAtEnd mid → IfSome old (λ all. (got ≡ all) × (new ≡ Some []))
SoFar-ends None mid new got buf k h m e = tt
SoFar-ends (Some all) mid new got buf k h m e =
    let moved = rw h.1 at m in
    let none : drop (length got) all ≡ [] = rw h.1 at e in
    let all_read : got ≡ all = sym (h.0 ∙ ap (λ (t : List ℕ). got ++ t) none ∙ append-nil got) in
    (all_read, moved.2 ∙ ap (λ (t : List ℕ). Some (drop k t)) none ∙ ap (λ (t : List ℕ). Some t) (drop_all k [] (omega arith)))

-- after a read of more than the limit
pub SoFar-passes : (old mid new : Option (List ℕ)) (got buf : List ℕ) (k limit : ℕ) → SoFar old mid got → Moves mid new k buf
    → limit < length got + k → IfSome old (λ all. limit < length all)
SoFar-passes None mid new got buf k limit h m more = tt
SoFar-passes (Some all) mid new got buf k limit h m more =
    let moved = rw h.1 at m in
    let room : k ≤ length (drop (length got) all) = moved.0 in
    omega (arith, ap length h.0, length-append got (drop (length got) all))

-- with the bytes of a read behind the others
pub SoFar-more : (old mid new : Option (List ℕ)) (got more buf : List ℕ) (k : ℕ) → SoFar old mid got → Moves mid new k buf
    → more ≡ got ++ take k buf → SoFar old new more
SoFar-more None mid new got more buf k h m e = tt
SoFar-more (Some all) mid new got more buf k h m e =
    let moved = rw h.1 at m in
    let count : length (take k buf) ≡ k = ap length moved.1 ∙ length-take-le k (drop (length got) all) moved.0 in
    let read : length more ≡ length got + k = ap length e ∙ length-append got (take k buf) ∙ ap (λ (n : ℕ). length got + n) count in
    let left : drop k (drop (length got) all) ≡ drop (length more) all = drop-drop k (length got) all ∙ ap (λ (n : ℕ). drop n all) (sym read) in (
      h.0
          ∙ ap (λ (t : List ℕ). got ++ t) (sym (take-append-drop k (drop (length got) all)) ∙ ap (λ (t : List ℕ). t ++ drop k (drop (length got) all)) (sym moved.1))
          ∙ sym (append_assoc got (take k buf) (drop k (drop (length got) all)))
          ∙ ap (λ (t : List ℕ). t ++ drop k (drop (length got) all)) (sym e)
          ∙ ap (λ (t : List ℕ). more ++ t) left,
      moved.2 ∙ ap (λ (t : List ℕ). Some t) left,
    )
