-- The least number with a decided property, and the greatest of finitely many numbers.
use Rattle.std.proofs.Common.{arith, inl, inr, refl, subst, sym}
use Rattle.std.proofs.lemmas.Bool.{cases_eq, cases_lt}
use Rattle.std.specs.Prelude.{suc, zero, ℕ, ◌+◌, ◌<◌, ◌≡◌, ◌≤◌, ◌⊎◌}

-- the least number with P
pub record Least (P : ℕ → Type 0) : Type 0 where
  pub number : ℕ
  pub has : P number
  pub least : (m : ℕ) → m < number → ¬ (P m)

least_from : (P : ℕ → Type 0) → ((k : ℕ) → P k ⊎ ¬ (P k)) → (fuel d h : ℕ) → h ≡ d + fuel → P h → ((m : ℕ) → m < d → ¬ (P m)) → Least P
least_from P dec zero d h e p below = record { number = d; has = subst P (let q : h ≡ d = omega arith in q) p; least = below }
least_from P dec (suc fuel) d h e p below = elim (dec d) [
  | inl q ↦ record { number = d; has = q; least = below }
  | inr out ↦ least_from P dec fuel (suc d) h (omega arith) p (λ m l. elim (cases_lt m d) [ inl s ↦ below m s | inr g ↦ let same : d ≡ m = omega arith in subst (λ z. ¬ (P z)) same out ])
]

pub least : (P : ℕ → Type 0) → ((k : ℕ) → P k ⊎ ¬ (P k)) → (h : ℕ) → P h → Least P
least P dec h p = least_from P dec h 0 h (omega arith) p (λ m l. absurd (omega arith))

-- of numbers one for each place below N, the greatest
pub record Greatest (Q : ℕ → ℕ → Type 0) (N : ℕ) : Type 0 where
  pub number : ℕ
  pub all : (x : ℕ) → x < N → (d : ℕ) × (d ≤ number) × Q x d
  pub some : (number ≡ 0) ⊎ ((x : ℕ) × (x < N) × Q x number)

pub greatest : (Q : ℕ → ℕ → Type 0) (N : ℕ) → ((x : ℕ) → x < N → (d : ℕ) × Q x d) → Greatest Q N
greatest Q zero f = record { number = 0; all = λ x l. absurd (omega arith); some = inl refl }
greatest Q (suc N) f = next (greatest Q N (λ x l. f x (omega arith))) (f N (omega arith))
  where
    next : Greatest Q N → (d : ℕ) × Q N d → Greatest Q (suc N)
    next r (d, q) = elim (cases_lt r.number d) [
      | inl l ↦ record {
        number = d;
        all = λ x lx. elim (cases_eq x N) [ inl e ↦ (d, omega arith, subst (λ z. Q z d) (sym e) q) | inr ne ↦ let w = r.all x (omega arith) in (w.0, (let s = w.1 in omega arith), w.2) ];
        some = inr (N, omega arith, q);
      }
      | inr g ↦ record {
        number = r.number;
        all = λ x lx. elim (cases_eq x N) [ inl e ↦ (d, omega arith, subst (λ z. Q z d) (sym e) q) | inr ne ↦ r.all x (omega arith) ];
        some = elim r.some [ inl e ↦ inl e | inr w ↦ inr (w.0, (let s = w.1 in omega arith), w.2) ];
      }
    ]
