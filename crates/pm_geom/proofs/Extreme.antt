-- A generator that the others do not generate is extreme; each extreme ray is like a generator; and a row whose opposite is in the cone needs the lines alone.
use Rattle.pm_vector.proofs.ConeLaws.{After, in_divide, in_generator, in_more, in_plus, in_same, in_times, in_to_after, lines_opposite}
use Rattle.pm_vector.proofs.Lists.{Among, here, there}
use Rattle.pm_vector.proofs.Ring.{mul_assoc, ring}
use Rattle.pm_vector.proofs.RowLaws.{entry-difference, entry-opposite, entry-plus, entry-times, length-difference, length-times}
use Rattle.pm_vector.proofs.Signs.{mul_pos, times_both, weaken}
use Rattle.pm_vector.specs.Cones.{InCone, IsConeSet}
use Rattle.pm_vector.specs.Rows.{Row, Same, difference, entry, opposite, plus, times}
use Rattle.pm_geom.specs.Cones.{IsExtreme, MultipleModulo, SameModulo}
use Rattle.std.proofs.Common.{arith, sym, ◌∙◌}
use Rattle.std.proofs.lemmas.Int.{by_lt_z, ints}
use Rattle.std.specs.Prelude.{List, [], length, ℕ, ◌∷◌, ◌≡◌}
use lib.IntN.{neg_ℤ, pos, ℤ, ◌*ℤ◌, ◌+ℤ◌, ◌-ℤ◌}
use lib.Signed.{◌<ℤ◌, ◌≤ℤ◌}

-- p g = u + v, p1 u = c g + a and p2 v = d g + b give p1 p2 p g = (p2 c + p1 d) g + p2 a + p1 b
joined : (p g u v p1 c a p2 d b : ℤ) → p *ℤ g ≡ u +ℤ v → a ≡ p1 *ℤ u -ℤ c *ℤ g → b ≡ p2 *ℤ v -ℤ d *ℤ g → (p1 *ℤ p2 *ℤ p -ℤ p2 *ℤ c -ℤ p1 *ℤ d) *ℤ g ≡ p2 *ℤ a +ℤ p1 *ℤ b
joined p g u v p1 c a p2 d b e f h =
    let x = simp ring at (times_both (p1 *ℤ p2) e) in
    simp (f, h, ring) (omega (arith, ints))

module _ (n : ℕ) (G K : List Row) (g : Row) (lg : length g ≡ n) (needed : ¬ (InCone G K g)) (not_line : ¬ (InCone (g ∷ G) K (opposite g))) where
  -- where e g is a positive combination of rows a and b of the rest, the opposite of a is in the rest too
  balanced : (a b : Row) (p1 p2 e : ℤ) → pos 0 <ℤ p1 → pos 0 <ℤ p2 → InCone G K a → InCone G K b → ((i : ℕ) → e *ℤ entry g i ≡ p2 *ℤ entry a i +ℤ p1 *ℤ entry b i) → InCone G K (opposite a)
  balanced a b p1 p2 e h1 h2 ha hb equal =
      let both : InCone G K (plus (times p2 a) (times p1 b)) = in_plus (in_times (weaken h2) ha) (in_times (weaken h1) hb) in
      by_lt_z (pos 0) e
      (λ up. absurd (needed (in_divide up (in_same (record { at = λ i. simp (entry-times, entry-plus) (sym (equal i)) }) both))))
      (λ notup. by_lt_z e (pos 0)
      (λ down. let neg_positive : pos 0 <ℤ neg_ℤ e = omega (arith, ints) in
      absurd (not_line (in_more G K g (in_divide neg_positive (in_same (record { at = λ i. let q = equal i in simp (entry-times, entry-plus, entry-opposite, ring) (omega (arith, ints)) }) both)))))
      (λ notdown. let z : e ≡ pos 0 = omega (arith, ints) in
      in_divide h2 (in_same (record { at = λ i. let q = simp (z, ring) at (equal i) in simp (entry-times, entry-opposite, ring) (omega (arith, ints)) }) (in_times (weaken h1) hb))))

  rest_on : (p : ℤ) (u v : Row) → length u ≡ n → InCone (g ∷ G) K u → InCone (g ∷ G) K v → Same (times p g) (plus u v) → MultipleModulo n (InCone (g ∷ G) K) g u
  rest_on p u v lu hu hv s =
      let a = in_to_after G K g u hu in
      let b = in_to_after G K g v hv in
      record {
        p = a.p;
        k = a.q;
        w = difference a.p u a.q g;
        cols = length-difference n a.p u a.q g lu lg;
        positive = a.positive;
        not_negative = a.not_negative;
        line = record {
          inside = in_more G K g a.rest;
          opposed = in_more G K g (balanced (difference a.p u a.q g) (difference b.p v b.q g) a.p b.p (a.p *ℤ b.p *ℤ p -ℤ b.p *ℤ a.q -ℤ a.p *ℤ b.q) a.positive b.positive a.rest b.rest
              (λ i. joined p (entry g i) (entry u i) (entry v i) a.p a.q _ b.p b.q _ (simp (entry-times, entry-plus) at (s.at i)) (entry-difference a.p u a.q g i) (entry-difference b.p v b.q g i)));
        };
        same = record { at = λ i. simp (entry-times, entry-plus, entry-difference, ring) (omega (arith, ints)) };
      }

  pub extreme : IsExtreme n (InCone (g ∷ G) K) g
  extreme = record {
    cols = lg;
    inside = in_generator here;
    not_line = not_line;
    summands = λ p u v hp lu lv hu hv s. (rest_on p u v lu hu hv s, rest_on p v u lv hv hu (record { at = λ i. let q = simp (entry-times, entry-plus) at (s.at i) in simp (entry-times, entry-plus) (omega (arith, ints)) }));
  }

-- ---- a cone set S and the generators W of a part of it, none of whose opposites is in S, with lines K
module _ (n : ℕ) (S : Row → Type 0) (cs : IsConeSet S) (K : List Row) where
  pub no_multiple : (W : List Row) (g x : Row) → (a : After (InCone W K) g x) → a.q ≤ℤ pos 0 → InCone W K x
  no_multiple W g x a h =
      let h0 = a.not_negative in
      let z : a.q ≡ pos 0 = omega (arith, ints) in
      in_divide a.positive (in_same (record { at = λ i. simp (entry-difference, entry-times, z, ring) (omega (arith, ints)) }) a.rest)

  pub in_lines : (W : List Row) → ((g : Row) → Among g W → ¬ (S (opposite g))) → ((x : Row) → InCone W K x → S x) → (x : Row) → InCone W K x → S (opposite x) → InCone [] K x
  in_lines [] f sub x h o = h
  in_lines (g ∷ W) f sub x h o =
      let a = in_to_after W K g x h in
      by_lt_z (pos 0) a.q
      (λ up. absurd (f g here (cs.part up (cs.same (record { at = λ i. simp (entry-times, entry-plus, entry-difference, entry-opposite, ring) (omega (arith, ints)) }) (cs.sum (cs.multiple (weaken a.positive) o) (sub (difference a.p x a.q g) (in_more W K g a.rest)))))))
      (λ none. in_lines W (λ y i. f y (there i)) (λ y k. sub y (in_more W K g k)) x (no_multiple W g x a none) o)

  -- an extreme row of S is like a generator
  pub like_generator : (W : List Row) → ((g : Row) → Among g W → (length g ≡ n) × S g × ¬ (S (opposite g))) → ((x : Row) → InCone W K x → S x) → (x : Row) → IsExtreme n S x → InCone W K x → (v : Row) × Among v W × SameModulo n S x v
  like_generator [] f sub x ex h = absurd (ex.not_line (sub (opposite x) (lines_opposite K x h)))
  like_generator (g ∷ W) f sub x ex h =
      let a = in_to_after W K g x h in
      by_lt_z (pos 0) a.q
      (λ up.
      let t : MultipleModulo n S x (times a.q g) = (ex.summands a.p (times a.q g) (difference a.p x a.q g) a.positive (length-times a.q g ∙ (f g here).0) (length-difference n a.p x a.q g ex.cols (f g here).0) (cs.multiple (weaken up) (f g here).1) (sub (difference a.p x a.q g) (in_more W K g a.rest)) (record { at = λ i. simp (entry-times, entry-plus, entry-difference, ring) (omega (arith, ints)) })).0 in
      by_lt_z (pos 0) t.k
      (λ kup. (
        g,
        here,
        record {
          p = t.p *ℤ a.q;
          k = t.k;
          w = t.w;
          cols = t.cols;
          p_positive = mul_pos t.positive up;
          k_positive = kup;
          line = t.line;
          same = record { at = λ i. let q = simp (entry-times, entry-plus) at (t.same.at i) in simp (entry-times, entry-plus, mul_assoc) (omega (arith, ints)) };
        },
      ))
      (λ none.
      let k0 = t.not_negative in
      let z : t.k ≡ pos 0 = omega (arith, ints) in
      absurd ((f g here).2 (cs.part (mul_pos t.positive up) (cs.same (record { at = λ i. let q = simp (entry-times, entry-plus, z, ring) at (t.same.at i) in simp (entry-times, entry-opposite, ring) (omega (arith, ints)) }) t.line.opposed)))))
      (λ none. let r = like_generator W (λ y i. f y (there i)) (λ y k. sub y (in_more W K g k)) x ex (no_multiple W g x a none) in (r.0, there r.1, r.2))
