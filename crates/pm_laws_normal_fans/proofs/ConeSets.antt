-- A set that is closed as cones are, and has the generators of a cone, has the cone.
use Rattle.pm_vector.proofs.Lists.{Among, here, there}
use Rattle.pm_vector.proofs.Ring.{ring}
use Rattle.pm_vector.proofs.RowLaws.{entry-opposite, entry-times, same_sym}
use Rattle.pm_vector.specs.Cones.{InCone, IsConeSet, combination}
use Rattle.pm_vector.specs.Rows.{Row, opposite}
use Rattle.std.proofs.Common.{arith}
use Rattle.std.proofs.lemmas.Int.{by_lt_z, ints}
use Rattle.std.specs.List.{AllByRecursion}
use Rattle.std.specs.Prelude.{List, [], ◌∷◌}
use lib.IntN.{neg_ℤ, pos, ℤ}
use lib.Signed.{◌≤ℤ◌}

-- ---- a cone set that has the generators, and the lines both ways, has the cone
module _ (S : Row → Type 0) (cs : IsConeSet S) (nought : S []) where
  of_combination : (c : List ℤ) (G : List Row) → AllByRecursion (λ k. pos 0 ≤ℤ k) c → ((g : Row) → Among g G → S g) → S (combination c G)
  of_combination [] G h f = nought
  of_combination (k ∷ c) [] h f = nought
  of_combination (k ∷ c) (g ∷ G) h f = cs.sum (cs.multiple h.0 (f g here)) (of_combination c G h.1 (λ y i. f y (there i)))

  of_lines : (d : List ℤ) (L : List Row) → ((l : Row) → Among l L → S l × S (opposite l)) → S (combination d L)
  of_lines [] L f = nought
  of_lines (k ∷ d) [] f = nought
  of_lines (k ∷ d) (l ∷ L) f =
      let rest = of_lines d L (λ y i. f y (there i)) in
      by_lt_z k (pos 0)
      (λ s. let n : pos 0 ≤ℤ neg_ℤ k = omega (arith, ints) in
      cs.sum (cs.same (record { at = λ i. simp (entry-times, entry-opposite, ring) (omega (arith, ints)) }) (cs.multiple n (f l here).1)) rest)
      (λ s. cs.sum (cs.multiple s (f l here).0) rest)

  pub of_cone : (G L : List Row) → ((g : Row) → Among g G → S g) → ((l : Row) → Among l L → S l × S (opposite l)) → (x : Row) → InCone G L x → S x
  of_cone G L f e x h = cs.part h.positive (cs.same (same_sym h.same) (cs.sum (of_combination h.c G h.not_negative f) (of_lines h.d L e)))
