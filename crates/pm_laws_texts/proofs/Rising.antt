-- Tokens stand one behind the other in their text.
use Rattle.std.proofs.Common.{◌≡◌, ◌∙◌, ◌++◌, ◌+◌, ◌-◌, ◌<◌, ◌≤◌, ℕ, zero, suc, false, List, [], ◌∷◌, ap, arith, eqb, length, length-drop, drop, take, refl, sym}
use Rattle.std.proofs.lemmas.Bool.{cond_both, eqb-false}
use Rattle.pm_books.specs.Tokens.{Token, after_gap, token_len, tokens_left, tokens_of}
use Rattle.pm_books.proofs.Lexing.{length-after_gap, token_some}

-- the places are from `low` on, each beyond the one before, and below `high`
abbrev pub Rises : ℕ → List Token → ℕ → Type 0
Rises low [] high = Unit {0}
Rises low (t ∷ ts) high = (low ≤ t.place) × (t.place < high) × Rises (t.place + 1) ts high

rises_from : (less low high : ℕ) (ts : List Token) → less ≤ low → Rises low ts high → Rises less ts high
rises_from less low high [] l h = tt
rises_from less low high (t ∷ ts) l h = (omega (arith, h.0), h.1, h.2)

left_rise : (total n : ℕ) (bytes : List ℕ) → length bytes ≤ total → Rises (total - length bytes) (tokens_left total n bytes) total
left_rise total zero bytes fits = tt
left_rise total (suc n) bytes fits =
    let rest : List ℕ = after_gap false bytes in
    let here : ℕ = token_len rest in
    let less : length rest ≤ length bytes = length-after_gap false bytes in
    let shorter : length (drop here rest) ≡ length rest - here = length-drop here rest in
    let more : Rises (total - length (drop here rest)) (tokens_left total n (drop here rest)) total = left_rise total n (drop here rest) (omega arith) in
    cond_both (eqb (length rest) 0) [] (record { place = total - length rest; text = take here rest } ∷ tokens_left total n (drop here rest)) (λ ts. Rises (total - length bytes) ts total)
    (λ e. tt)
    (λ e.
    let ne : length rest ≡ 0 → ⊥ = eqb-false (length rest) 0 e in
    let some : 0 < length rest = omega arith in
    let long : 0 < here = token_some rest some in
    (omega arith, omega arith, rises_from (total - length rest + 1) (total - length (drop here rest)) total (tokens_left total n (drop here rest)) (omega arith) more))

pub tokens_rise : (text : List ℕ) → Rises 0 (tokens_of text) (length text)
tokens_rise text = rises_from 0 (length text - length text) (length text) (tokens_of text) (omega arith) (left_rise (length text) (length text) text (omega arith))

pub rises_at : (low high : ℕ) (before : List Token) (t : Token) (after : List Token) → Rises low (before ++ t ∷ after) high → (low ≤ t.place) × (t.place < high) × Rises (t.place + 1) after high
rises_at low high [] t after h = h
rises_at low high (x ∷ before) t after h = let more = rises_at (x.place + 1) high before t after h.2 in (omega (arith, h.0, more.0), more.1, more.2)

-- ---- two cuts of one list
cons_is : {A : Type 0} {x y : A} {xs ys : List A} → x ∷ xs ≡ y ∷ ys → (x ≡ y) × (xs ≡ ys)
cons_is e = (cc, cc)

-- of two cuts of the tokens, how they stand
pub data Meets (taken rest before : List Token) (u : Token) (after : List Token) : Type 0 where
  inside : (more : List Token) → taken ≡ before ++ u ∷ more → after ≡ more ++ rest → Meets taken rest before u after
  here : before ≡ taken → rest ≡ u ∷ after → Meets taken rest before u after
  beyond : (t : Token) (more : List Token) → rest ≡ t ∷ more → t.place < u.place → Meets taken rest before u after

begun : (taken rest before after : List Token) (u : Token) (x y : Token) → x ≡ y → Meets taken rest before u after → Meets (x ∷ taken) rest (y ∷ before) u after
begun taken rest before after u x y e (inside more f g) = inside more (ap (λ (l : List Token). x ∷ l) f ∙ ap (λ (z : Token). z ∷ (before ++ u ∷ more)) e) g
begun taken rest before after u x y e (here f g) = here (ap (λ (l : List Token). y ∷ l) f ∙ ap (λ (z : Token). z ∷ taken) (sym e)) g
begun taken rest before after u x y e (beyond t more f l) = beyond t more f l

pub meets : (low high : ℕ) (taken rest before : List Token) (u : Token) (after : List Token) → taken ++ rest ≡ before ++ u ∷ after → Rises low (before ++ u ∷ after) high → Meets taken rest before u after
meets low high [] rest [] u after e h = here refl e
meets low high [] rest (x ∷ before) u after e h = let more = rises_at (x.place + 1) high before u after h.2 in beyond x (before ++ u ∷ after) e (omega (arith, more.0))
meets low high (x ∷ taken) rest [] u after e h =
    let parts = cons_is e in
    inside taken (ap (λ (z : Token). z ∷ taken) parts.0) (sym parts.1)
meets low high (x ∷ taken) rest (y ∷ before) u after e h =
    let parts = cons_is e in
    begun taken rest before after u x y parts.0 (meets (y.place + 1) high taken rest before u after parts.1 h.2)
