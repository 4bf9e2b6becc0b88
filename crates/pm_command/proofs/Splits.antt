-- Texts at their first space or dot.
use Rattle.std.proofs.Common.{refl, sym, ap, subst, ◌∙◌, ◌≡◌, ◌⊎◌, inl, inr, ◌+◌, ℕ, suc, Bool, true, false, List, [], ◌∷◌, ◌++◌, length, take, drop, get_or, not, add-one, arith, eqb}
use Rattle.std.proofs.lemmas.Bool.{cases_lt, cases_Bool, and_parts, and_from, eqb-true, false≢true, not-true, not_from_false}
use Rattle.std.proofs.lemmas.List.Sums.{split_at_first, passes_at_first}
use Rattle.std.proofs.Math.ListN.{drop_of_length-le}
use Rattle.std.specs.List.{list_all, position_or_len, before_first, after_first}

-- no byte is c
abbrev pub lacks : ℕ → List ℕ → Bool
lacks c w = list_all (λ b. not (eqb b c)) w

position-lacks : (c : ℕ) (w y : List ℕ) → eqb c c ≡ true → lacks c w ≡ true → position_or_len (λ b. eqb b c) (w ++ c ∷ y) ≡ length w
position-lacks c [] y self h = rw self refl
position-lacks c (b ∷ w) y self h =
    let p = and_parts (not (eqb b c)) (lacks c w) h in
    let other : eqb b c ≡ false = not-true (eqb b c) p.0 in
    let rest = position-lacks c w y self p.1 in
    rw other (omega arith)

take-front : (w y : List ℕ) → take (length w) (w ++ y) ≡ w
take-front [] y = refl
take-front (b ∷ w) y = ap (λ (t : List ℕ). b ∷ t) (take-front w y)

drop-front : (w : List ℕ) (c : ℕ) (y : List ℕ) → drop (suc (length w)) (w ++ c ∷ y) ≡ y
drop-front [] c y = refl
drop-front (b ∷ w) c y = drop-front w c y

pub before_first-lacks : (c : ℕ) (w y : List ℕ) → eqb c c ≡ true → lacks c w ≡ true → before_first (λ b. eqb b c) (w ++ c ∷ y) ≡ w
before_first-lacks c w y self h = ap (λ n. take n (w ++ c ∷ y)) (position-lacks c w y self h) ∙ take-front w (c ∷ y)

pub after_first-lacks : (c : ℕ) (w y : List ℕ) → eqb c c ≡ true → lacks c w ≡ true → after_first (λ b. eqb b c) (w ++ c ∷ y) ≡ y
after_first-lacks c w y self h = ap (λ n. drop (n + 1) (w ++ c ∷ y)) (position-lacks c w y self h) ∙ rw add-one (drop-front w c y)

-- what stands behind the first c is nothing, or the text is taken apart there
pub split_first : (c : ℕ) (text : List ℕ) → (after_first (λ b. eqb b c) text ≡ []) ⊎ (text ≡ before_first (λ b. eqb b c) text ++ c ∷ after_first (λ b. eqb b c) text)
split_first c text = elim (cases_lt (position_or_len (λ b. eqb b c) text) (length text)) [
  | inl within ↦
      let here : get_or text (position_or_len (λ b. eqb b c) text) 0 ≡ c = eqb-true (get_or text (position_or_len (λ b. eqb b c) text) 0) c (passes_at_first (λ b. eqb b c) text 0 within) in
      inr (split_at_first (λ b. eqb b c) text 0 within ∙ ap (λ b. before_first (λ b'. eqb b' c) text ++ b ∷ after_first (λ b'. eqb b' c) text) here)
  | inr past ↦ inl (drop_of_length-le text (omega arith))
]

-- a byte that passes a test is another than one that fails it
pub other_byte : (test : ℕ → Bool) (c b : ℕ) → test c ≡ false → test b ≡ true → eqb b c ≡ false
other_byte test c b fails passes = elim (cases_Bool (eqb b c)) [
  | inl same ↦ absurd (false≢true (sym fails ∙ subst (λ x. test x ≡ true) (eqb-true b c same) passes))
  | inr other ↦ other
]

pub lacks-passes : (test : ℕ → Bool) (c : ℕ) (w : List ℕ) → test c ≡ false → list_all test w ≡ true → lacks c w ≡ true
lacks-passes test c [] fails h = refl
lacks-passes test c (b ∷ w) fails h =
    let p = and_parts (test b) (list_all test w) h in
    and_from (not (eqb b c)) (lacks c w) (not_from_false (eqb b c) (other_byte test c b fails p.0)) (lacks-passes test c w fails p.1)
