-- Tokens are found with any count that is large enough, and one after the other.
use Rattle.std.proofs.Common.{◌≡◌, ℕ, zero, suc, ◌+◌, ◌-◌, ◌≤◌, ◌<◌, Bool, true, false, not, ◌&&◌, cond, eqb, ltb, List, [], ◌∷◌, ◌++◌, length, get_or, take, drop, refl, sym, ap, subst, ◌∙◌, append_assoc, inl, inr, arith, length-drop}
use Rattle.std.specs.List.{prefix_len}
use Rattle.std.proofs.lemmas.Bool.{cases_Bool, cond_both, eqb-false}
use Rattle.pm_rules.specs.Words.{is_letter, is_digit, is_word_byte}
use Rattle.pm_books.specs.Tokens.{Token, is_space, after_gap, number_len, token_len, tokens_left}

pub length-after_gap : (inside : Bool) (bytes : List ℕ) → length (after_gap inside bytes) ≤ length bytes
length-after_gap true [] = omega arith
length-after_gap false [] = omega arith
length-after_gap true (b ∷ bs) = omega (arith, length-after_gap (not (eqb b 10)) bs)
length-after_gap false (b ∷ bs) = cond_both (eqb b 35) (after_gap true bs) (cond (is_space b) (after_gap false bs) (b ∷ bs)) (λ r. length r ≤ suc (length bs))
    (λ e. omega (arith, length-after_gap true bs))
    (λ e. cond_both (is_space b) (after_gap false bs) (b ∷ bs) (λ r. length r ≤ suc (length bs)) (λ k. omega (arith, length-after_gap false bs)) (λ k. omega arith))

number_some : (b : ℕ) (bs : List ℕ) → is_digit b ≡ true → 0 < number_len (b ∷ bs)
number_some b bs e =
    let bytes : List ℕ = b ∷ bs in
    let whole : ℕ = prefix_len is_digit bytes in
    let more : ℕ = prefix_len is_digit (drop (whole + 1) bytes) in
    let some : 0 < whole = (let P : Bool → Type 0 = λ t. 0 < cond t (1 + prefix_len is_digit bs) 0 in subst P (sym e) (omega arith)) in
    cond_both (eqb (get_or bytes whole 0) 46 && ltb 0 more) (whole + 1 + more) whole (λ n. 0 < n) (λ k. omega arith) (λ k. some)

pub token_some : (bytes : List ℕ) → 0 < length bytes → 0 < token_len bytes
token_some [] h = absurd (omega arith)
token_some (b ∷ bs) h = cond_both (is_letter b) (suc (prefix_len is_word_byte bs)) (cond (is_digit b) (number_len (b ∷ bs)) 1) (λ n. 0 < n) (λ e. omega arith)
    (λ e. cond_both (is_digit b) (number_len (b ∷ bs)) 1 (λ n. 0 < n) (number_some b bs) (λ k. omega arith))

pub enough : (total n m : ℕ) (bytes : List ℕ) → length bytes ≤ n → length bytes ≤ m → tokens_left total n bytes ≡ tokens_left total m bytes
enough total zero zero bytes h k = refl
enough total zero (suc m) [] h k = refl
enough total zero (suc m) (b ∷ bs) h k = absurd (omega arith)
enough total (suc n) zero [] h k = refl
enough total (suc n) zero (b ∷ bs) h k = absurd (omega arith)
enough total (suc n) (suc m) bytes h k =
    let rest : List ℕ = after_gap false bytes in
    let here : ℕ = token_len rest in
    elim (cases_Bool (eqb (length rest) 0)) [
      | inl e ↦ rw e refl
      | inr e ↦ rw e (ap (λ (ts : List Token). record { place = total - length rest; text = take here rest } ∷ ts)
          (let some : 0 < length rest = (let ne : length rest ≡ 0 → ⊥ = eqb-false (length rest) 0 e in omega arith) in
          let shorter : length (drop here rest) < length bytes = omega (arith, length-drop here rest, token_some rest some, length-after_gap false bytes) in
          enough total n m (drop here rest) (omega arith) (omega arith)))
    ]

-- the first token, and then those of what comes after it
pub tokens_more : (total n : ℕ) (bytes begun : List ℕ) → begun ≡ after_gap false bytes → eqb (length begun) 0 ≡ false → length bytes ≤ n
    → tokens_left total n bytes ≡ record { place = total - length begun; text = take (token_len begun) begun } ∷ tokens_left total (length (drop (token_len begun) begun)) (drop (token_len begun) begun)
tokens_more total zero bytes begun e some h = absurd (let ne : length begun ≡ 0 → ⊥ = eqb-false (length begun) 0 some in
    omega (arith, length-after_gap false bytes, ap length e))
tokens_more total (suc n) bytes begun e some h =
    let some' : eqb (length (after_gap false bytes)) 0 ≡ false = (rw e at some) in
    let rest : List ℕ = after_gap false bytes in
    let here : ℕ = token_len rest in
    let first : tokens_left total (suc n) bytes ≡ record { place = total - length rest; text = take here rest } ∷ tokens_left total n (drop here rest) = rw some' refl in
    let positive : 0 < length rest = (let ne : length rest ≡ 0 → ⊥ = eqb-false (length rest) 0 some' in omega arith) in
    let shorter : length (drop here rest) < length bytes = omega (arith, length-drop here rest, token_some rest positive, length-after_gap false bytes) in
    first ∙ ap (λ (ts : List Token). record { place = total - length rest; text = take here rest } ∷ ts) (enough total n (length (drop here rest)) (drop here rest) (omega arith) (omega arith))
    ∙ ap (λ (r : List ℕ). record { place = total - length r; text = take (token_len r) r } ∷ tokens_left total (length (drop (token_len r) r)) (drop (token_len r) r)) (sym e)

-- a token more among those found
pub tokens_step : (total : ℕ) (old new all : List Token) (bytes begun front after : List ℕ) (here : ℕ) → old ++ tokens_left total (length bytes) bytes ≡ all
    → begun ≡ after_gap false bytes → eqb (length begun) 0 ≡ false → here ≡ token_len begun → front ≡ take here begun → after ≡ drop here begun
    → new ≡ old ++ (record { place = total - length begun; text = front } ∷ []) → new ++ tokens_left total (length after) after ≡ all
tokens_step total old new all bytes begun front after here left e some is_here is_front is_after is_new =
    let rest : List Token = tokens_left total (length after) after in
    let is_front' : front ≡ take (token_len begun) begun = is_front ∙ ap (λ k. take k begun) is_here in
    let is_after' : after ≡ drop (token_len begun) begun = is_after ∙ ap (λ k. drop k begun) is_here in
    ap (λ ts. ts ++ rest) is_new ∙ append_assoc old (record { place = total - length begun; text = front } ∷ []) rest
    ∙ ap (λ (ts : List Token). old ++ ts) (
    ap (λ (f : List ℕ). record { place = total - length begun; text = f } ∷ rest) is_front'
    ∙ ap (λ (a : List ℕ). record { place = total - length begun; text = take (token_len begun) begun } ∷ tokens_left total (length a) a) is_after'
    ∙ sym (tokens_more total (length bytes) bytes begun e some (omega arith))
    )
    ∙ left
