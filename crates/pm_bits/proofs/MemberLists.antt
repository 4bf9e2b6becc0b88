-- The members of a row as an ascending list, found word by word.
use Rattle.pm_bits.proofs.Bits.{has_bit_at}
use Rattle.pm_bits.proofs.Counts.{range_with_len-add}
use Rattle.pm_bits.proofs.Members.{has-bits_below, length-bits_below}
use Rattle.pm_bits.specs.Sets.{has}
use Rattle.pm_bits.specs.Words.{Holds, bits_below, has_bit}
use Rattle.std.proofs.Common.{ap, arith, bit_and, get_or, inl, inr, refl, subst, sym, ◌/◌, ◌^◌, ◌≢◌, ◌≤◌, ◌∙◌}
use Rattle.std.proofs.lemmas.Bool.{cases_lt, eq-eqb}
use Rattle.std.proofs.lemmas.List.Elements.{filter-append, filter_agree}
use Rattle.std.proofs.lemmas.Nat.{shr-shr}
use Rattle.std.proofs.lemmas.Nat.Bits.{bit_at-trailing_zeros, bit_at-zero, bit_at_above, shr_and_one}
use Rattle.std.specs.Int.{bit_at, trailing_zeros, w64}
use Rattle.std.specs.List.{filter, range_with_len}
use Rattle.std.specs.Prelude.{Bool, List, [], cond, false, length, suc, true, zero, ℕ, ◌*◌, ◌+◌, ◌++◌, ◌-◌, ◌<◌, ◌==◌, ◌∷◌, ◌≡◌}

picked_more : (p : ℕ → Bool) (j : ℕ) → filter p (range_with_len 0 (j + 1)) ≡ filter p (range_with_len 0 j) ++ cond (p j) (j ∷ []) []
picked_more p j = ap (filter p) (range_with_len-add 0 j 1) ∙ filter-append p (range_with_len 0 j) (range_with_len (0 + j) 1) ∙ ap (λ k. filter p (range_with_len 0 j) ++ cond (p k) (k ∷ []) []) (let e : 0 + j ≡ j = omega arith in e)

append_none : (xs : List ℕ) → xs ++ [] ≡ xs
append_none [] = refl
append_none (x ∷ xs) = ap (λ ys. x ∷ ys) (append_none xs)

with_next : (p : ℕ → Bool) (j : ℕ) (old new : List ℕ) → p j ≡ true → new ≡ old ++ j ∷ [] → old ≡ filter p (range_with_len 0 j) → new ≡ filter p (range_with_len 0 (j + 1))
with_next p j old new t n e = n ∙ ap (λ xs. xs ++ j ∷ []) e ∙ sym (picked_more p j ∙ ap (λ b. filter p (range_with_len 0 j) ++ cond b (j ∷ []) []) t)

without_next : (p : ℕ → Bool) (j : ℕ) (old new : List ℕ) → p j ≡ false → new ≡ old → old ≡ filter p (range_with_len 0 j) → new ≡ filter p (range_with_len 0 (j + 1))
without_next p j old new t n e = n ∙ e ∙ sym (picked_more p j ∙ ap (λ b. filter p (range_with_len 0 j) ++ cond b (j ∷ []) []) t ∙ append_none (filter p (range_with_len 0 j)))

none_more : (p : ℕ → Bool) (s n : ℕ) → ((b : ℕ) → b < n → p (s + b) ≡ false) → filter p (range_with_len 0 (s + n)) ≡ filter p (range_with_len 0 s)
none_more p s zero h = ap (λ k. filter p (range_with_len 0 k)) (let e : s + zero ≡ s = omega arith in e)
none_more p s (suc n) h =
    let e : s + suc n ≡ s + n + 1 = omega arith in
    ap (λ k. filter p (range_with_len 0 k)) e ∙ sym (without_next p (s + n) (filter p (range_with_len 0 (s + n))) (filter p (range_with_len 0 (s + n))) (h n (omega arith)) refl refl) ∙ none_more p s n (λ b l. h b (omega arith))

-- ---- one word, whose bits from b on are left
with_bit : (words old new : List ℕ) (k b v : ℕ) → b < 64 → bit_at (get_or words k 0) b ≡ 1 → v ≡ k * 64 + b → new ≡ old ++ v ∷ [] → old ≡ filter (has_bit words) (range_with_len 0 (k * 64 + b)) → new ≡ filter (has_bit words) (range_with_len 0 (v + 1))
with_bit words old new k b v l t ev n e =
    with_next (has_bit words) v old new (ap (has_bit words) ev ∙ has_bit_at words k b l ∙ eq-eqb (bit_at (get_or words k 0) b) 1 t) n (e ∙ ap (λ j. filter (has_bit words) (range_with_len 0 j)) (sym ev))

no_bits : (words : List ℕ) (k b n : ℕ) → b + n ≤ 64 → ((i : ℕ) → i < n → bit_at (get_or words k 0) (b + i) ≡ 0) → filter (has_bit words) (range_with_len 0 (k * 64 + b + n)) ≡ filter (has_bit words) (range_with_len 0 (k * 64 + b))
no_bits words k b n l h =
    none_more (has_bit words) (k * 64 + b) n (λ i m.
    let place : k * 64 + b + i ≡ k * 64 + (b + i) = omega arith in
    ap (has_bit words) place ∙ has_bit_at words k (b + i) (omega arith) ∙ ap (λ d. d == 1) (h i m))

shifted_bit : (w b i : ℕ) → bit_at (w / 2 ^ b) i ≡ bit_at w (b + i)
shifted_bit w b i = sym (shr_and_one (w / 2 ^ b) i) ∙ ap (λ d. bit_and d 1) (shr-shr w b i) ∙ shr_and_one w (b + i)

module _ (words : List ℕ) (k b : ℕ) (small : get_or words k 0 < 2 ^ 64) (rest : ℕ) (left : rest ≡ get_or words k 0 / 2 ^ b) where
  below_64 : (i : ℕ) → bit_at rest i ≡ 1 → b + i < 64
  below_64 i t = elim (cases_lt (b + i) 64) [
    | inl l ↦ l
    | inr g ↦ absurd (let one = sym (shifted_bit (get_or words k 0) b i) ∙ ap (λ w. bit_at w i) (sym left) ∙ t in let none = bit_at_above (get_or words k 0) 64 (b + i) small (omega arith) in let no : 0 ≡ 1 = sym none ∙ one in cc)
  ]

  -- the next member of a word
  module _ (some : rest ≢ 0) (fits : rest < 2 ^ 64) (s : ℕ) (se : s ≡ trailing_zeros w64 rest) where
    lowest : (bit_at rest s ≡ 1) × ((i : ℕ) → i < s → bit_at rest i ≡ 0)
    lowest = let w = bit_at-trailing_zeros w64 rest (omega arith) fits in (ap (λ i. bit_at rest i) se ∙ w.1, λ i l. w.2 i (omega arith))

    pub next_below : b + s < 64
    next_below = below_64 s lowest.0

    pub next_member : (old new : List ℕ) (v : ℕ) → v ≡ k * 64 + b + s → new ≡ old ++ v ∷ [] → old ≡ filter (has_bit words) (range_with_len 0 (k * 64 + b)) → new ≡ filter (has_bit words) (range_with_len 0 (v + 1))
    next_member old new v ev n e =
        let at : (i : ℕ) → bit_at (get_or words k 0) (b + i) ≡ bit_at rest i = λ i. sym (shifted_bit (get_or words k 0) b i) ∙ ap (λ w. bit_at w i) (sym left) in
        let skipped = no_bits words k b s (omega (arith, next_below)) (λ i l. at i ∙ lowest.1 i l) in
        let place : k * 64 + b + s ≡ k * 64 + (b + s) = omega arith in
        with_bit words old new k (b + s) v next_below (at s ∙ lowest.0) (ev ∙ place) n (e ∙ sym skipped ∙ ap (λ j. filter (has_bit words) (range_with_len 0 j)) place)

    pub next_left : (v : ℕ) → v ≡ rest / 2 ^ s / 2 ^ 1 → v ≡ get_or words k 0 / 2 ^ (b + s + 1)
    next_left v e = e ∙ ap (λ w. w / 2 ^ s / 2 ^ 1) left ∙ ap (λ w. w / 2 ^ 1) (shr-shr (get_or words k 0) b s) ∙ shr-shr (get_or words k 0) (b + s) 1

  -- no member is left
  pub none_left : rest ≡ 0 → b ≤ 64 → (list : List ℕ) → list ≡ filter (has_bit words) (range_with_len 0 (k * 64 + b)) → list ≡ filter (has_bit words) (range_with_len 0 ((k + 1) * 64))
  none_left z l list e =
      let zero_bits : (i : ℕ) → bit_at (get_or words k 0) (b + i) ≡ 0 = λ i. sym (shifted_bit (get_or words k 0) b i) ∙ ap (λ w. bit_at w i) (sym left ∙ z) ∙ bit_at-zero i in
      let place : k * 64 + b + (64 - b) ≡ (k + 1) * 64 = omega arith in
      e ∙ sym (no_bits words k b (64 - b) (omega arith) (λ i m. zero_bits i)) ∙ ap (λ j. filter (has_bit words) (range_with_len 0 j)) place

pub members_of_row : (list words : List ℕ) (n : ℕ) → Holds words n → list ≡ filter (has_bit words) (range_with_len 0 (length words * 64)) → list ≡ filter (has (bits_below words n)) (range_with_len 0 (length (bits_below words n)))
members_of_row list words n h e =
    let m : n + (length words * 64 - n) ≡ length words * 64 = let r = h.room in omega arith in
    e ∙ ap (λ j. filter (has_bit words) (range_with_len 0 j)) (sym m) ∙ none_more (has_bit words) n (length words * 64 - n) (λ b l. h.clear (n + b) (omega arith)) ∙ filter_agree (has_bit words) (has (bits_below words n)) (λ i. sym (has-bits_below words n h i)) (range_with_len 0 n) ∙ ap (λ j. filter (has (bits_below words n)) (range_with_len 0 j)) (sym (length-bits_below words n))

pub members_seen : (list slice words : List ℕ) (n : ℕ) (row : List Bool) → slice ≡ words → bits_below words n ≡ row → Holds words n → list ≡ filter (has_bit slice) (range_with_len 0 (length slice * 64)) → list ≡ filter (has row) (range_with_len 0 (length row))
members_seen list slice words n row same seen h e = subst (λ r. list ≡ filter (has r) (range_with_len 0 (length r))) seen (members_of_row list words n h (subst (λ ws. list ≡ filter (has_bit ws) (range_with_len 0 (length ws * 64))) same e))
