-- The rows at chosen places; and a multiple of a row that is large enough on a list.
use Rattle.pm_vector.proofs.Lists.{Among, here, there}
use Rattle.pm_vector.proofs.Ring.{ring}
use Rattle.pm_vector.proofs.Signs.{mul_nonneg}
use Rattle.pm_vector.specs.Rows.{Row, dot}
use Rattle.pm_geom.specs.Faces.{ray}
use Rattle.pm_ranks.specs.Chosen.{chosen, keep}
use Rattle.std.proofs.Common.{arith, inl, inr, refl, subst}
use Rattle.std.proofs.lemmas.Int.{by_lt_z, ints}
use Rattle.std.specs.Prelude.{Bool, IsTrue, List, [], false, length, suc, true, zero, ℕ, ◌<◌, ◌∷◌, ◌≡◌, ◌⊎◌}
use lib.IntN.{pos, ℤ, ◌*ℤ◌, ◌+ℤ◌, ◌-ℤ◌}
use lib.Signed.{◌<ℤ◌, ◌≤ℤ◌}

kept_first : (b : Bool) (v : Row) (W : List Row) → IsTrue b → Among v (keep b v W)
kept_first true v W h = here
kept_first false v W h = absurd cc

kept_later : (b : Bool) (v : Row) (W : List Row) {x : Row} → Among x W → Among x (keep b v W)
kept_later true v W i = there i
kept_later false v W i = i

kept_back : (b : Bool) (v : Row) (W : List Row) {x : Row} → Among x (keep b v W) → (IsTrue b × (v ≡ x)) ⊎ Among x W
kept_back true v W here = inl (refl, refl)
kept_back true v W (there i) = inr i
kept_back false v W i = inr i

pub chosen_from : (f : ℕ → Bool) (V : List Row) (j : ℕ) → j < length V → IsTrue (f j) → Among (ray V j) (chosen f V)
chosen_from f [] j l t = absurd (omega arith)
chosen_from f (v ∷ V) zero l t = kept_first (f 0) v (chosen (λ j. f (suc j)) V) t
chosen_from f (v ∷ V) (suc j) l t = kept_later (f 0) v (chosen (λ j. f (suc j)) V) (chosen_from (λ j. f (suc j)) V j (omega arith) t)

pub chosen_to : (f : ℕ → Bool) (V : List Row) {x : Row} → Among x (chosen f V) → (j : ℕ) × (j < length V) × IsTrue (f j) × (ray V j ≡ x)
chosen_to f [] i = elim i [ ]
chosen_to f (v ∷ V) i = elim (kept_back (f 0) v (chosen (λ j. f (suc j)) V) i) [
  | inl w ↦ (0, omega arith, w.0, w.1)
  | inr k ↦ let r = chosen_to (λ j. f (suc j)) V k in (suc r.0, (let l = r.1 in omega arith), r.2, r.3)
]

pub chosen_some : (f : ℕ → Bool) (V : List Row) {x : Row} → Among x (chosen f V) → Among x V
chosen_some f [] i = elim i [ ]
chosen_some f (v ∷ V) i = elim (kept_back (f 0) v (chosen (λ j. f (suc j)) V) i) [ inl w ↦ first w.1 | inr k ↦ there (chosen_some (λ j. f (suc j)) V k) ]
  where
    first : {x : Row} → v ≡ x → Among x (v ∷ V)
    first e = subst (λ z. Among z (v ∷ V)) e here

-- ---- large multiples
larger : (N M a b : ℤ) → pos 0 ≤ℤ N → pos 0 ≤ℤ M → pos 0 ≤ℤ a → b ≤ℤ (N *ℤ a) → b ≤ℤ ((N +ℤ M) *ℤ a)
larger N M a b hn hm ha h = let p = mul_nonneg hm ha in simp ring (omega (arith, ints))

large : (N a b : ℤ) → pos 0 ≤ℤ N → pos 0 <ℤ a → pos 0 ≤ℤ b → b ≤ℤ ((N +ℤ b) *ℤ a)
large N a b hn ha hb =
    let s : pos 0 ≤ℤ (N +ℤ b) = omega (arith, ints) in
    let t : pos 0 ≤ℤ (a -ℤ pos 1) = omega (arith, ints) in
    let p = simp ring at (mul_nonneg s t) in
    simp ring (omega (arith, ints))

-- N a is at least b on the rows of a list on which a is not negative, and b not positive where a is 0
pub record Large (V : List Row) (a b : Row) : Type 0 where
  pub N : ℤ
  pub not_negative : pos 0 ≤ℤ N
  pub at : (v : Row) → Among v V → dot b v ≤ℤ (N *ℤ dot a v)

large_more : (v : Row) (V : List Row) (a b : Row) (M : ℤ) → pos 0 ≤ℤ M → ((v : Row) → Among v V → pos 0 ≤ℤ dot a v) → (r : Large V a b) → dot b v ≤ℤ ((r.N +ℤ M) *ℤ dot a v) → Large (v ∷ V) a b
large_more v V a b M hm f r h = record { N = r.N +ℤ M; not_negative = let p = r.not_negative in omega (arith, ints); at = at' }
  where
    at' : (u : Row) → Among u (v ∷ V) → dot b u ≤ℤ ((r.N +ℤ M) *ℤ dot a u)
    at' u here = h
    at' u (there i) = larger r.N M (dot a u) (dot b u) r.not_negative hm (f u i) (r.at u i)

pub large_on : (V : List Row) (a b : Row) → ((v : Row) → Among v V → pos 0 ≤ℤ dot a v) → ((v : Row) → Among v V → dot a v ≡ pos 0 → dot b v ≤ℤ pos 0) → Large V a b
large_on [] a b f g = record { N = pos 0; not_negative = omega (arith, ints); at = λ v i. elim i [ ] }
large_on (v ∷ V) a b f g =
    let r = large_on V a b (λ u i. f u (there i)) (λ u i. g u (there i)) in
    by_lt_z (pos 0) (dot a v)
    (λ up. by_lt_z (pos 0) (dot b v)
    (λ bup. large_more v V a b (dot b v) (omega (arith, ints)) (λ u i. f u (there i)) r (large r.N (dot a v) (dot b v) r.not_negative up (omega (arith, ints))))
    (λ low. large_more v V a b (pos 0) (omega (arith, ints)) (λ u i. f u (there i)) r (let p = mul_nonneg r.not_negative (f v here) in simp ring (omega (arith, ints)))))
    (λ none. let p = f v here in let z : dot a v ≡ pos 0 = omega (arith, ints) in
    large_more v V a b (pos 0) (omega (arith, ints)) (λ u i. f u (there i)) r (let q = g v here z in simp (z, ring) (omega (arith, ints))))
