-- Products of rows that stay in the range, and rows whose product leaves it.
use Rattle.pm_vector.proofs.Lists.{Among, among_Contains, here, there}
use Rattle.pm_vector.proofs.Ring.{ring}
use Rattle.pm_vector.proofs.RowLaws.{dot_comm}
use Rattle.pm_vector.specs.Numbers.{InRange}
use Rattle.pm_vector.specs.Rows.{IsZero, Row, dot, entry}
use Rattle.pm_vector.specs.Evidence.{unit}
use Rattle.std.proofs.lemmas.Bool.{cases_lt}
use Rattle.pm_incidence.specs.declared.fails.IncFail.TheVariants.{Memory, Wide}
use Rattle.pm_incidence.specs.declared.fails.IncFail.{IncFail}
use Rattle.pm_incidence.specs.Incidence.{AllStay, IsWideFor}
use Rattle.pm_geom.specs.declared.evidence.Evidence.TheVariants.{E4}
use Rattle.pm_vector.specs.Products.{ProductsStay}
use Rattle.std.proofs.Common.{arith, get_or, inl, inr, length, refl, subst, suc, sym, take, zero, ◌+◌, ◌<◌, ◌≡◌}
use Rattle.std.proofs.lemmas.Int.{ints}
use Rattle.std.proofs.lemmas.List.{get_or_past, take_more}
use Rattle.std.proofs.lemmas.List.Elements.{Contains-get_or, Contains-push_cases}
use Rattle.std.specs.List.{All, Contains}
use Rattle.std.specs.Prelude.{List, [], replicate, ℕ, ◌++◌, ◌∷◌}
use lib.IntN.{*ℤ_comm, pos, ◌*ℤ◌, ◌+ℤ◌}

-- ---- the order of the two rows
pub stays_turned : (a x : Row) → ProductsStay a x → ProductsStay x a
stays_turned a x h = record {
  products = λ i. subst InRange (*ℤ_comm (entry a i) (entry x i)) (h.products i);
  sums = λ k. subst InRange (dot_comm (take k a) (take k x)) (h.sums k);
}

-- ---- a zero row
zero_dot : (k : ℕ) (x y : Row) → IsZero x → dot (take k x) (take k y) ≡ pos 0
zero_dot zero x y h = refl
zero_dot (suc k) [] y h = refl
zero_dot (suc k) (a ∷ x) [] h = refl
zero_dot (suc k) (a ∷ x) (b ∷ y) h =
    let e : a ≡ pos 0 = h 0 in
    let rest = zero_dot k x y (λ i. h (suc i)) in
    rw (e, rest) (omega (arith, ints))

pub zero_stays : (x y : Row) → IsZero x → ProductsStay x y
zero_stays x y h = record {
  products = λ i. let e : entry x i ≡ pos 0 = h i in let z : entry x i *ℤ entry y i ≡ pos 0 = rw e (omega (arith, ints)) in rw z (omega (arith, ints));
  sums = λ k. rw (zero_dot k x y h) (omega (arith, ints));
}

-- ---- lists of rows
pub only_one : {X : Type 0} {x y : X} → Contains (y ∷ []) x → x ≡ y
only_one {X} {x} {y} c = by (among_Contains (y ∷ []) c)
  where
    by : {z : X} → Among z (y ∷ []) → z ≡ y
    by here = refl
    by (there i) = elim i [ ]

pub itself : {X : Type 0} (x : X) → Contains (x ∷ []) x
itself x = (0, omega arith, refl)

pub AllStay-row : (F V : List Row) (j : ℕ) (v : Row) → j < length V → v ≡ get_or V j v → AllStay F (take j V) → AllStay F (v ∷ []) → AllStay F (take (j + 1) V)
AllStay-row F V j v within is so_far last =
    let more : take (j + 1) V ≡ take j V ++ v ∷ [] = rw (take_more V j v within, ← is) refl in
    rw more (record {
      stay = λ f w c d. elim (Contains-push_cases (take j V) v w d) [
        | inl older ↦ so_far.stay f w c older
        | inr same ↦ subst (λ y. ProductsStay f y) same (last.stay f v c (itself v))
      ];
    })

pub AllStay-list : (F V : List Row) (i : ℕ) (f : Row) → i < length F → f ≡ get_or F i f → AllStay (take i F) V → AllStay (f ∷ []) V → AllStay (take (i + 1) F) V
AllStay-list F V i f within is so_far last =
    let more : take (i + 1) F ≡ take i F ++ f ∷ [] = rw (take_more F i f within, ← is) refl in
    rw more (record {
      stay = λ g w c d. elim (Contains-push_cases (take i F) f g c) [
        | inl older ↦ so_far.stay g w older d
        | inr same ↦ subst (λ y. ProductsStay y w) same (last.stay f w (itself f) d)
      ];
    })

pub listed : (V : List Row) (j : ℕ) (v : Row) → j < length V → v ≡ get_or V j v → Contains V v
listed V j v within is = subst (Contains V) (sym is) (Contains-get_or V j v within)

-- ---- where a product leaves the range
pub wide_one : (f v a x : Row) → a ≡ v → x ≡ f → (ProductsStay f v → ⊥) → IsWideFor (f ∷ []) (v ∷ []) (Wide (E4 a x))
wide_one f v a x p q h = rw (p, q) (itself v, itself f, λ s. h (stays_turned v f s))

pub wide_in_row : (F V : List Row) (v : Row) (e : IncFail) → Contains V v → IsWideFor F (v ∷ []) e → IsWideFor F V e
wide_in_row F V v Memory c h = tt
wide_in_row F V v (Wide (E4 a x)) c h = (subst (Contains V) (sym (only_one h.0)) c, h.1, h.2)
wide_in_row F V v (Wide e) c h = absurd h

pub wide_in_list : (F V : List Row) (f : Row) (e : IncFail) → Contains F f → IsWideFor (f ∷ []) V e → IsWideFor F V e
wide_in_list F V f Memory c h = tt
wide_in_list F V f (Wide (E4 a x)) c h = (h.0, subst (Contains F) (sym (only_one h.1)) c, h.2)
wide_in_list F V f (Wide e) c h = absurd h

-- ---- the row (1, 0, .., 0) has products with every row
zero_ranged : InRange (pos 0)
zero_ranged = omega (arith, ints)

entry_ranged : (x : Row) → All InRange x → (i : ℕ) → InRange (entry x i)
entry_ranged x h i = elim (cases_lt i (length x)) [
  | inl l ↦ h i (pos 0) l
  | inr l ↦ rw (get_or_past x i (pos 0) l) zero_ranged
]

zeros_are_zero : (n : ℕ) → IsZero (replicate n (pos 0))
zeros_are_zero zero i = refl
zeros_are_zero (suc n) zero = refl
zeros_are_zero (suc n) (suc i) = zeros_are_zero n i

unit_sums : (n : ℕ) (x : Row) → All InRange x → (k : ℕ) → InRange (dot (take k (pos 1 ∷ replicate n (pos 0))) (take k x))
unit_sums n x h zero = zero_ranged
unit_sums n [] h (suc k) = zero_ranged
unit_sums n (a ∷ x) h (suc k) = let z = zero_dot k (replicate n (pos 0)) x (zeros_are_zero n) in let r : InRange a = h 0 (pos 0) (omega arith) in let e : pos 1 *ℤ a +ℤ pos 0 ≡ a = simp ring (omega (arith, ints)) in rw z (subst InRange (sym e) r)

unit_products : (n : ℕ) (x : Row) → All InRange x → (i : ℕ) → InRange (entry (pos 1 ∷ replicate n (pos 0)) i *ℤ entry x i)
unit_products n x h zero = let r = entry_ranged x h 0 in simp ring r
unit_products n x h (suc i) = let z : entry (replicate n (pos 0)) i ≡ pos 0 = zeros_are_zero n i in rw z (simp ring zero_ranged)

pub unit_stays : (n : ℕ) (x : Row) → All InRange x → ProductsStay (unit n 0) x
unit_stays zero x h = zero_stays [] x (λ i. refl)
unit_stays (suc n) x h = record { products = unit_products n x h; sums = unit_sums n x h }
