-- The tests of products decide what they are about.
use Rattle.pm_vector.specs.Rows.{Row, dot}
use Rattle.pm_vector.proofs.Lists.{All_among, Among, among_All, here, there}
use Rattle.pm_vector.specs.NullSpaces.{IsNull}
use Rattle.pm_geom.specs.Cones.{CutOut}
use Rattle.pm_laws_normal_fans.specs.Refinements.{InHalfSpaces}
use Rattle.pm_refine.specs.CutRows.{CutRows, are_inside, are_within, is_cut_out, is_null, is_positive, is_zero}
use Rattle.std.proofs.Common.{arith, refl, sym}
use Rattle.std.proofs.lemmas.Bool.{and_from, and_parts}
use Rattle.std.proofs.lemmas.Int.{ints}
use Rattle.std.specs.List.{All}
use Rattle.std.specs.Prelude.{Bool, List, [], false, suc, true, zero, ◌&&◌, ◌∷◌, ◌↔◌, ◌≡◌}
use lib.IntN.{negsuc, pos, ℤ}
use lib.Signed.{◌≤ℤ◌}

positive_to : (z : ℤ) → is_positive z ≡ true → pos 0 ≤ℤ z
positive_to (pos k) e = omega (arith, ints)
positive_to (negsuc k) e = absurd cc

positive_of : (z : ℤ) → pos 0 ≤ℤ z → is_positive z ≡ true
positive_of (pos k) h = refl
positive_of (negsuc k) h = absurd (omega (arith, ints))

zero_to : (z : ℤ) → is_zero z ≡ true → z ≡ pos 0
zero_to (pos zero) e = refl
zero_to (pos (suc k)) e = absurd cc
zero_to (negsuc k) e = absurd cc

zero_of : (z : ℤ) → z ≡ pos 0 → is_zero z ≡ true
zero_of (pos zero) h = refl
zero_of (pos (suc k)) h = absurd cc
zero_of (negsuc k) h = absurd cc

cut_to : (F : List Row) (x : Row) → is_cut_out F x ≡ true → CutOut F x
cut_to [] x e = tt
cut_to (a ∷ F) x e = let (p, q) = and_parts (is_positive (dot a x)) (is_cut_out F x) e in (positive_to (dot a x) p, cut_to F x q)

cut_of : (F : List Row) (x : Row) → CutOut F x → is_cut_out F x ≡ true
cut_of [] x h = refl
cut_of (a ∷ F) x h = and_from (is_positive (dot a x)) (is_cut_out F x) (positive_of (dot a x) h.0) (cut_of F x h.1)

null_to : (E : List Row) (x : Row) → is_null E x ≡ true → IsNull E x
null_to [] x e = tt
null_to (a ∷ E) x e = let (p, q) = and_parts (is_zero (dot a x)) (is_null E x) e in (zero_to (dot a x) p, null_to E x q)

null_of : (E : List Row) (x : Row) → IsNull E x → is_null E x ≡ true
null_of [] x h = refl
null_of (a ∷ E) x h = and_from (is_zero (dot a x)) (is_null E x) (zero_of (dot a x) h.0) (null_of E x h.1)

-- ---- all rays in the cone that rows cut out
inside_each : (c : CutRows) (rays : List Row) → are_inside c rays ≡ true → (x : Row) → Among x rays → InHalfSpaces c.facets c.hull x
inside_each c [] e x i = elim i [ ]
inside_each c (y ∷ rays) e x i =
    let (p, q) = and_parts (is_cut_out c.facets y && is_null c.hull y) (are_inside c rays) e in
    let (a, b) = and_parts (is_cut_out c.facets y) (is_null c.hull y) p in
    at i a b (λ j. inside_each c rays q x j)
  where
    at : {x : Row} → Among x (y ∷ rays) → is_cut_out c.facets y ≡ true → is_null c.hull y ≡ true → (Among x rays → InHalfSpaces c.facets c.hull x) → InHalfSpaces c.facets c.hull x
    at here a b f = (null_to c.hull y b, cut_to c.facets y a)
    at (there j) a b f = f j

inside_all : (c : CutRows) (rays : List Row) → ((x : Row) → Among x rays → InHalfSpaces c.facets c.hull x) → are_inside c rays ≡ true
inside_all c [] f = refl
inside_all c (y ∷ rays) f =
    let h = f y here in
    and_from (is_cut_out c.facets y && is_null c.hull y) (are_inside c rays) (and_from (is_cut_out c.facets y) (is_null c.hull y) (cut_of c.facets y h.1) (null_of c.hull y h.0)) (inside_all c rays (λ x i. f x (there i)))

pub inside_to : (c : CutRows) (rays : List Row) → are_inside c rays ≡ true → All (InHalfSpaces c.facets c.hull) rays
inside_to c rays e = All_among (InHalfSpaces c.facets c.hull) rays (inside_each c rays e)

pub inside_of : (c : CutRows) (rays : List Row) → All (InHalfSpaces c.facets c.hull) rays → are_inside c rays ≡ true
inside_of c rays h = inside_all c rays (λ x i. among_All (InHalfSpaces c.facets c.hull) i h)

pub within_to : (c d : CutRows) (rays : List Row) → are_within c d rays ≡ true → All (InHalfSpaces c.facets c.hull) rays × All (InHalfSpaces d.facets d.hull) rays
within_to c d rays e = let (p, q) = and_parts (are_inside c rays) (are_inside d rays) e in (inside_to c rays p, inside_to d rays q)

pub within_of : (c d : CutRows) (rays : List Row) → All (InHalfSpaces c.facets c.hull) rays × All (InHalfSpaces d.facets d.hull) rays → are_within c d rays ≡ true
within_of c d rays h = and_from (are_inside c rays) (are_inside d rays) (inside_of c rays h.0) (inside_of d rays h.1)

-- a test that is true exactly where all rays are inside is that test
pub inside_test : (c : CutRows) (rays : List Row) (b : Bool) → (b ≡ true) ↔ All (InHalfSpaces c.facets c.hull) rays → b ≡ are_inside c rays
inside_test c rays true h = sym (inside_of c rays (h.0 refl))
inside_test c rays false h = by (are_inside c rays) refl
  where
    by : (t : Bool) → t ≡ are_inside c rays → false ≡ t
    by true e = let q : false ≡ true = h.1 (inside_to c rays (sym e)) in q
    by false e = refl
