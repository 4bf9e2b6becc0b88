-- Rows without a first entry, and the first entries that they get back from a row on which they are to vanish.
use Rattle.pm_vector.proofs.Filters.{among_filter, among_map, filter_among, map_among}
use Rattle.pm_vector.proofs.Lists.{Among}
use Rattle.pm_vector.proofs.Ring.{ring}
use Rattle.pm_vector.proofs.RowLaws.{dot-nil, dot_comm, dot-same, plus-dot, times-dot, entry-opposite, entry-plus, entry-times, length-times}
use Rattle.pm_vector.specs.Cones.{InCone, combination}
use Rattle.pm_vector.specs.Rows.{Row, Same, dot, entry, opposite, plus, times}
use Rattle.pm_geom.proofs.Facets.{opposite-dot}
use Rattle.pm_laws_normal_fans.specs.Shadows.{held, is_zero, rest, rests}
use Rattle.std.proofs.Common.{ap, arith, refl, sym, true, true≢false, ◌∙◌}
use Rattle.std.proofs.lemmas.Int.{ints}
use Rattle.std.specs.Prelude.{List, [], length, suc, zero, ℕ, ◌∷◌, ◌≡◌}
use lib.IntN.{*ℤ_comm, neg_ℤ, negsuc, pos, ℤ, ◌*ℤ◌, ◌+ℤ◌, ◌-ℤ◌}

-- ---- rows without the first entry
pub entry-rest : (x : Row) (i : ℕ) → entry (rest x) i ≡ entry x (suc i)
entry-rest [] i = refl
entry-rest (a ∷ x) i = refl

pub length-rest : (m : ℕ) (x : Row) → length x ≡ suc m → length (rest x) ≡ m
length-rest m [] e = absurd (omega arith)
length-rest m (a ∷ x) e = omega arith

combination-rests : (c : List ℤ) (X : List Row) (i : ℕ) → entry (combination c (rests X)) i ≡ entry (combination c X) (suc i)
combination-rests [] X i = refl
combination-rests (k ∷ c) [] i = refl
combination-rests (k ∷ c) (x ∷ X) i = let h = combination-rests c X i in let e = entry-rest x i in simp (entry-plus, entry-times, h, e)

pub in_rest : (G L : List Row) (x : Row) → InCone G L x → InCone (rests G) (rests L) (rest x)
in_rest G L x h = record {
  m = h.m;
  c = h.c;
  d = h.d;
  positive = h.positive;
  not_negative = h.not_negative;
  same = record { at = λ i. let e = simp (entry-times, entry-plus) at (h.same.at (suc i)) in let r = entry-rest x i in let a = combination-rests h.c G i in let b = combination-rests h.d L i in simp (entry-times, entry-plus, r, a, b, e) };
}

pub among_rests : (X : List Row) {g : Row} → Among g (rests X) → (b : Row) × Among b X × (g ≡ rest b)
among_rests X i = map_among rest X i

pub rests_among : (X : List Row) {b : Row} → Among b X → Among (rest b) (rests X)
rests_among X i = among_map rest i

pub dot-rest : (a x : Row) → dot a x ≡ entry a 0 *ℤ entry x 0 +ℤ dot (rest a) (rest x)
dot-rest [] x = simp ring
dot-rest (a ∷ as') [] = let h = dot-nil as' in simp (h, ring)
dot-rest (a ∷ as') (b ∷ x) = refl

-- ---- the rows on which a row vanishes
is_zero_yes : (z : ℤ) → is_zero z ≡ true → z ≡ pos 0
is_zero_yes (pos zero) e = refl
is_zero_yes (pos (suc k)) e = absurd (true≢false (sym e))
is_zero_yes (negsuc k) e = absurd (true≢false (sym e))

is_zero_no : (z : ℤ) → z ≡ pos 0 → is_zero z ≡ true
is_zero_no (pos zero) e = refl
is_zero_no (pos (suc k)) e = absurd (let f : pos (suc k) ≡ pos 0 = e in omega (arith, ints))
is_zero_no (negsuc k) e = absurd (let f : negsuc k ≡ pos 0 = e in omega (arith, ints))

pub held_at : (F : List Row) (a : Row) {b : Row} → Among b (held F a) → Among b F × (dot b a ≡ pos 0)
held_at F a {b} i = let r = filter_among (λ c. is_zero (dot c a)) F i in (r.0, is_zero_yes (dot b a) r.1)

pub held_all : (F : List Row) (a : Row) {b : Row} → Among b F → dot b a ≡ pos 0 → Among b (held F a)
held_all F a {b} i o = among_filter (λ c. is_zero (dot c a)) i (is_zero_no (dot b a) o)

-- ---- the row a_0 c with the first entry on which a vanishes
unfoldable pub lift : Row → Row → Row
lift a c = neg_ℤ (dot c (rest a)) ∷ times (entry a 0) c

pub length-lift : (m : ℕ) (a c : Row) → length c ≡ m → length (lift a c) ≡ suc m
unfolding lift
length-lift m a c e = ap suc (length-times (entry a 0) c ∙ e)

pub first-lift : (a c : Row) → entry (lift a c) 0 ≡ neg_ℤ (dot c (rest a))
unfolding lift
first-lift a c = refl

pub others-lift : (a c : Row) (i : ℕ) → entry (lift a c) (suc i) ≡ entry a 0 *ℤ entry c i
unfolding lift
others-lift a c i = entry-times (entry a 0) c i

pub dot-lift : (a c x : Row) → dot (lift a c) x ≡ entry a 0 *ℤ dot c (rest x) -ℤ entry x 0 *ℤ dot c (rest a)
unfolding lift
dot-lift a c x = dot-rest (neg_ℤ (dot c (rest a)) ∷ times (entry a 0) c) x ∙ (let e = times-dot (entry a 0) c (rest x) in simp (e, ring) (omega (arith, ints)))

pub null-lift : (a c : Row) → dot (lift a c) a ≡ pos 0
null-lift a c = dot-lift a c a ∙ (omega (arith, ints))

pub by_entries : (x y : Row) → entry x 0 ≡ entry y 0 → ((i : ℕ) → entry x (suc i) ≡ entry y (suc i)) → Same x y
by_entries x y e f = record { at = go }
  where
    go : (i : ℕ) → entry x i ≡ entry y i
    go zero = e
    go (suc i) = f i

-- where a vanishes on b, the lift of what stands in b after the first entry is a_0 b
pub lift-rest : (a b : Row) → dot b a ≡ pos 0 → Same (lift a (rest b)) (times (entry a 0) b)
lift-rest a b o = by_entries (lift a (rest b)) (times (entry a 0) b)
    (let e = first-lift a (rest b) in let d = dot-rest b a in let k = *ℤ_comm (entry b 0) (entry a 0) in let t = entry-times (entry a 0) b 0 in omega (arith, ints))
    (λ i. let e = others-lift a (rest b) i in let r = entry-rest b i in let t = entry-times (entry a 0) b (suc i) in simp (e, r, t))

pub lift-same : (a c d : Row) → Same c d → Same (lift a c) (lift a d)
lift-same a c d s = by_entries (lift a c) (lift a d)
    (let e = first-lift a c in let f = first-lift a d in let g = dot_comm c (rest a) in let h = dot_comm d (rest a) in let k = dot-same (rest a) c d s.at in omega (arith, ints))
    (λ i. let e = others-lift a c i in let f = others-lift a d i in let k = s.at i in simp (e, f, k))

pub lift-plus : (a c d : Row) → Same (plus (lift a c) (lift a d)) (lift a (plus c d))
lift-plus a c d = by_entries (plus (lift a c) (lift a d)) (lift a (plus c d))
    (let e = first-lift a c in let f = first-lift a d in let g = first-lift a (plus c d) in let h = plus-dot c d (rest a) in simp entry-plus (omega (arith, ints)))
    (λ i. let e = others-lift a c i in let f = others-lift a d i in let g = others-lift a (plus c d) i in simp (entry-plus, e, f, g, ring))

pub lift-times : (a : Row) (k : ℤ) (c : Row) → Same (times k (lift a c)) (lift a (times k c))
lift-times a k c = by_entries (times k (lift a c)) (lift a (times k c))
    (let e = first-lift a c in let g = first-lift a (times k c) in let h = times-dot k c (rest a) in simp (entry-times, e, g, h, ring))
    (λ i. let e = others-lift a c i in let g = others-lift a (times k c) i in simp (entry-times, e, g, ring))

pub lift-opposite : (a c : Row) → Same (opposite (lift a c)) (lift a (opposite c))
lift-opposite a c = by_entries (opposite (lift a c)) (lift a (opposite c))
    (let e = first-lift a c in let g = first-lift a (opposite c) in let h = opposite-dot c (rest a) in simp (entry-opposite, e, g, h))
    (λ i. let e = others-lift a c i in let g = others-lift a (opposite c) i in simp (entry-opposite, e, g, ring))

-- a_0 b is the lift of what stands in b after the first entry, and b.a in the first entry
pub lift-more : (a b x : Row) → entry a 0 *ℤ dot b x ≡ dot (lift a (rest b)) x +ℤ dot b a *ℤ entry x 0
lift-more a b x = let e = dot-lift a (rest b) x in let f = dot-rest b x in let g = dot-rest b a in simp (e, f, g, ring) (omega (arith, ints))
