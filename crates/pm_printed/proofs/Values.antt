-- What printed numbers, costs and sets are worth; so no two have one text.
use Rattle.std.proofs.Common.{◌≡◌, ◌≢◌, ℕ, zero, suc, ◌+◌, ◌-◌, ◌*◌, ◌/◌, ◌%◌, ◌<◌, ◌≤◌, ◌^◌, Bool, true, false, IsTrue, List, [], ◌∷◌, ◌++◌, length, get_or, replicate, eqb, cond, refl, sym, ap, ap₂, ◌∙◌, subst, arith, inl, inr}
use Rattle.std.specs.Char.{digit_value}
use Rattle.std.specs.Fmt.{decimal, digits}
use Rattle.std.specs.Str.Parse.{digits_value, digits_value_after}
use Rattle.std.proofs.lemmas.Bool.{cases_Bool, eqb-true}
use Rattle.std.proofs.lemmas.Fmt.{decimal_injective, digits_is_IsNumeral}
use Rattle.pm_weights.specs.declared.Cost.{Cost}
use Rattle.pm_weights.specs.Weights.{cost_text, pair_text}
use Rattle.pm_printed.specs.Cuts.{Lacks}
use Rattle.pm_printed.specs.Printed.{IsCost}
use Rattle.pm_printed.specs.Texts.{half_text, set_text}
use Rattle.pm_printed.proofs.Plain.{decimal_pass, lacks_what_fails}
use Rattle.std.proofs.lemmas.Bool.{le-leb, and_from, leb-true}

-- ---- sets
zeros_value : (k : ℕ) (ds : List ℕ) → digits_value 16 (replicate k 48 ++ ds) ≡ digits_value 16 ds
zeros_value zero ds = refl
zeros_value (suc k) ds = zeros_value k ds

half_value : (n : ℕ) → n < 2 ^ 64 → digits_value 16 (half_text n) ≡ n
half_value n h =
    let small : n < 16 ^ 64 = omega arith in
    zeros_value (16 - length (digits 16 false n)) (digits 16 false n) ∙ (digits_is_IsNumeral 16 false (omega arith) (omega arith) n small).1

value_after : (xs ys : List ℕ) (a : ℕ) → digits_value_after 16 a (xs ++ ys) ≡ digits_value_after 16 (digits_value_after 16 a xs) ys
value_after [] ys a = refl
value_after (x ∷ xs) ys a = value_after xs ys (a * 16 + digit_value x)

pub set_value : (s : ℕ) → s < 2 ^ 64 → digits_value 16 (set_text s) ≡ s
set_value s h =
    let none : s / 2 ^ 64 ≡ 0 = omega arith in
    let all : s % 2 ^ 64 ≡ s = omega arith in
    let high : digits_value 16 (half_text (s / 2 ^ 64)) ≡ 0 = half_value (s / 2 ^ 64) (omega arith) ∙ none in
    let low : digits_value 16 (half_text (s % 2 ^ 64)) ≡ s = half_value (s % 2 ^ 64) (omega arith) ∙ all in
    value_after (half_text (s / 2 ^ 64)) (half_text (s % 2 ^ 64)) 0 ∙ ap (λ a. digits_value_after 16 a (half_text (s % 2 ^ 64))) high ∙ low

pub set_text_injective : (s t : ℕ) → s < 2 ^ 64 → t < 2 ^ 64 → set_text s ≡ set_text t → s ≡ t
set_text_injective s t h k e = sym (set_value s h) ∙ ap (digits_value 16) e ∙ set_value t k

-- ---- cuts
pub lacks_tail : (c x : ℕ) (xs : List ℕ) → Lacks c (x ∷ xs) → Lacks c xs
lacks_tail c x xs h = λ i l. h (suc i) (omega arith)

-- at the first such byte a text has one front and one rest
pub cut_same : (c : ℕ) (xs ys us vs : List ℕ) → Lacks c xs → Lacks c us → xs ++ c ∷ ys ≡ us ++ c ∷ vs → (xs ≡ us) × (ys ≡ vs)
cut_same c [] ys [] vs h k e = (refl, cc)
cut_same c [] ys (u ∷ us) vs h k e = absurd (k 0 (omega arith) (let at : c ≡ u = cc in sym at))
cut_same c (x ∷ xs) ys [] vs h k e = absurd (h 0 (omega arith) (let at : x ≡ c = cc in at))
cut_same c (x ∷ xs) ys (u ∷ us) vs h k e =
    let first : x ≡ u = cc in
    let others : xs ++ c ∷ ys ≡ us ++ c ∷ vs = cc in
    let same = cut_same c xs ys us vs (lacks_tail c x xs h) (lacks_tail c u us k) others in
    (let front : xs ≡ us = same.0 in cc, same.1)

-- a text that lacks the byte is not cut there
pub no_cut : (c : ℕ) (xs us vs : List ℕ) → Lacks c xs → xs ≡ us ++ c ∷ vs → ⊥
no_cut c [] [] vs h e = cc
no_cut c [] (u ∷ us) vs h e = cc
no_cut c (x ∷ xs) [] vs h e = h 0 (omega arith) (let at : x ≡ c = cc in at)
no_cut c (x ∷ xs) (u ∷ us) vs h e = no_cut c xs us vs (lacks_tail c x xs h) (let others : xs ≡ us ++ c ∷ vs = cc in others)

-- ---- costs
pub decimal_lacks_point : (n : ℕ) → n < 2 ^ 64 → Lacks 46 (decimal n)
decimal_lacks_point n h = lacks_what_fails (λ b. cond (eqb b 46) false true) 46 (decimal n) refl (decimal_pass (λ b. cond (eqb b 46) false true) (λ c low high. no_point c low) n h)
  where
    no_point : (c : ℕ) → 48 ≤ c → cond (eqb c 46) false true ≡ true
    no_point c low = grind (arith, eqb-true)

abbrev made : ℕ → ℕ → Cost
made c m = record { class = c; minor = m }

pub cost_text_injective : (c d : Cost) → IsCost c → IsCost d → cost_text c ≡ cost_text d → c ≡ d
cost_text_injective c d is js e = elim (cases_Bool (eqb c.class 0)) [
  | inl p ↦ (elim (cases_Bool (eqb d.class 0)) [
    | inl q ↦ (
        let e₁ : decimal c.minor ≡ decimal d.minor = rw q at (rw p at e) in
        let m : c.minor ≡ d.minor = decimal_injective c.minor d.minor is.minor js.minor e₁ in
        let k : c.class ≡ d.class = eqb-true c.class 0 p ∙ sym (eqb-true d.class 0 q) in
        ap₂ made k m
        )
    | inr q ↦ absurd (
        let e₁ : decimal c.minor ≡ decimal d.class ++ 46 ∷ decimal d.minor = rw q at (rw p at e) in
        no_cut 46 (decimal c.minor) (decimal d.class) (decimal d.minor) (decimal_lacks_point c.minor is.minor) e₁
        )
  ])
  | inr p ↦ (elim (cases_Bool (eqb d.class 0)) [
    | inl q ↦ absurd (
        let e₁ : decimal c.class ++ 46 ∷ decimal c.minor ≡ decimal d.minor = rw q at (rw p at e) in
        no_cut 46 (decimal d.minor) (decimal c.class) (decimal c.minor) (decimal_lacks_point d.minor js.minor) (sym e₁)
        )
    | inr q ↦ (
        let e₁ : decimal c.class ++ 46 ∷ decimal c.minor ≡ decimal d.class ++ 46 ∷ decimal d.minor = rw q at (rw p at e) in
        let same = cut_same 46 (decimal c.class) (decimal c.minor) (decimal d.class) (decimal d.minor) (decimal_lacks_point c.class is.class) (decimal_lacks_point d.class js.class) e₁ in
        let k : c.class ≡ d.class = decimal_injective c.class d.class is.class js.class same.0 in
        let m : c.minor ≡ d.minor = decimal_injective c.minor d.minor is.minor js.minor same.1 in
        ap₂ made k m
        )
  ])
]
