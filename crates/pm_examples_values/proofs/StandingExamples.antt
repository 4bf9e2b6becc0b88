-- A whole row that stands for a row of whole numbers has its direction; what cones and products say of the one they say of the other.
use Rattle.pm_relations.proofs.Standing.{same_direction, stands_ratios}
use Rattle.pm_vector.proofs.ConeLaws.{in_divide, in_generator, in_line, in_of, in_same, in_through, in_times, lines_opposite}
use Rattle.pm_vector.proofs.Lists.{All_among, Among, among_All, here, there}
use Rattle.pm_vector.proofs.Ring.{ring}
use Rattle.pm_vector.proofs.RowLaws.{dot-same, dot-times, dot_comm, same_sym}
use Rattle.pm_vector.proofs.Signs.{mul_cancel, mul_nonneg, nonneg_cancel, weaken}
use Rattle.pm_vector.specs.Cones.{InCone}
use Rattle.pm_vector.specs.Rows.{Row, SameDirection, Stands, dot, entry, ratio_at, times}
use Rattle.pm_relations.proofs.Standing.{stand_for_ratios}
use Rattle.pm_geom.proofs.Polar.{cut_at, cut_from}
use Rattle.pm_types.specs.Right.{Solves, StandFor}
use Rattle.pm_geom.specs.Examples.{pair}
use Rattle.pm_examples_values.specs.RowExamples.{halved}
use Rattle.pm_types.specs.Views.{ratios}
use Rattle.std.proofs.Common.{arith, refl, sym, ◌∙◌}
use Rattle.std.proofs.lemmas.Int.{ints}
use Rattle.std.specs.Prelude.{List, [], length, map, suc, zero, ℕ, ◌∷◌, ◌≡◌, ◌<◌, ◌≤◌}
use lib.IntN.{pos, ◌*ℤ◌}
use lib.Signed.{lt_z_yes, ◌<ℤ◌, ◌≤ℤ◌}

pub stands_whole : (x : Row) → Stands (ratios x) x
stands_whole x = (stand_for_ratios (x ∷ [])).0

pub half_stands : Stands halved (pair 2 1)
half_stands = record { p = pos 1; q = pos 2; p_positive = lt_z_yes tt; q_positive = lt_z_yes tt; cols = refl; denominators = denominators; same = same }
  where
    denominators : (i : ℕ) → i < 2 → pos 0 <ℤ (ratio_at halved i).den
    denominators zero l = lt_z_yes tt
    denominators (suc zero) l = lt_z_yes tt
    denominators (suc (suc i)) l = absurd (omega arith)

    same : (i : ℕ) → i < 2 → pos 1 *ℤ (entry (pair 2 1) i *ℤ (ratio_at halved i).den) ≡ pos 2 *ℤ (ratio_at halved i).num
    same zero l = refl
    same (suc zero) l = refl
    same (suc (suc i)) l = absurd (omega arith)

entry_past : (x : Row) (i : ℕ) → length x ≤ i → entry x i ≡ pos 0
entry_past [] i l = refl
entry_past (a ∷ x) zero l = absurd (omega arith)
entry_past (a ∷ x) (suc i) l = entry_past x i (omega arith)

pub stands_back : (x : Row) {y : Row} → Stands (ratios x) y → SameDirection y x
stands_back x s = same_direction s (stands_ratios x)

module _ (x : Row) {y : Row} (s : Stands (ratios x) y) where
  product : (a : Row) → (stands_back x s).p *ℤ dot a y ≡ (stands_back x s).q *ℤ dot a x
  product a = let d = stands_back x s in simp dot-times at (dot-same a (times d.p y) (times d.q x) d.same.at)

  pub stands_in : (G L : List Row) → InCone G L y → InCone G L x
  stands_in G L h = let d = stands_back x s in in_divide d.q_positive (in_same d.same (in_times (weaken d.p_positive) h))

  pub stands_null : (a : Row) → dot a y ≡ pos 0 → dot a x ≡ pos 0
  stands_null a e = let d = stands_back x s in mul_cancel d.q_positive (sym (product a) ∙ simp (e, ring) refl)

  pub stands_not_negative : (a : Row) → pos 0 ≤ℤ dot a y → pos 0 ≤ℤ dot a x
  stands_not_negative a h =
      let d = stands_back x s in
      let up = mul_nonneg (weaken d.p_positive) h in
      let e = product a in
      nonneg_cancel d.q_positive (omega (arith, ints))

  pub stands_out : (G L : List Row) → InCone G L x → InCone G L y
  stands_out G L h = let d = stands_back x s in in_divide d.p_positive (in_same (same_sym d.same) (in_times (weaken d.q_positive) h))

  -- rows as half-spaces
  pub row_not_negative : (c : Row) → pos 0 ≤ℤ dot y c → pos 0 ≤ℤ dot x c
  row_not_negative c h = rw (dot_comm x c) (stands_not_negative c (rw dot_comm at h))

  pub row_null : (c : Row) → dot y c ≡ pos 0 → dot x c ≡ pos 0
  row_null c h = dot_comm x c ∙ stands_null c (dot_comm c y ∙ h)

  stands_not_negative_of : (a : Row) → pos 0 ≤ℤ dot a x → pos 0 ≤ℤ dot a y
  stands_not_negative_of a h =
      let d = stands_back x s in
      let up = mul_nonneg (weaken d.q_positive) h in
      let e = product a in
      nonneg_cancel d.p_positive (omega (arith, ints))

  pub row_not_negative_of : (c : Row) → pos 0 ≤ℤ dot x c → pos 0 ≤ℤ dot y c
  row_not_negative_of c h = rw (dot_comm y c) (stands_not_negative_of c (rw dot_comm at h))

  pub row_null_of : (c : Row) → dot x c ≡ pos 0 → dot y c ≡ pos 0
  row_null_of c h = let d = stands_back x s in dot_comm y c ∙ mul_cancel d.p_positive (product c ∙ simp (dot_comm c x ∙ h, ring) refl)

-- ---- lists
pub stand_among : (X xs : List Row) → StandFor (map ratios X) xs → {x : Row} → Among x X → (y : Row) × Among y xs × Stands (ratios x) y
stand_among [] xs s i = elim i [ ]
stand_among (x ∷ X) [] s i = absurd s
stand_among (x ∷ X) (y ∷ xs) s here = (y, here, s.0)
stand_among (x ∷ X) (y ∷ xs) s (there i) = let r = stand_among X xs s.1 i in (r.0, there r.1, r.2)

pub stand_from : (X xs : List Row) → StandFor (map ratios X) xs → {y : Row} → Among y xs → (x : Row) × Among x X × Stands (ratios x) y
stand_from [] [] s i = elim i [ ]
stand_from [] (y ∷ xs) s i = absurd s
stand_from (x ∷ X) [] s i = absurd s
stand_from (x ∷ X) (y ∷ xs) s here = (x, here, s.0)
stand_from (x ∷ X) (y ∷ xs) s (there i) = let r = stand_from X xs s.1 i in (r.0, there r.1, r.2)

-- rows and lines generate what those do that stand for them, and cut out the same
module _ (X K xs ls : List Row) (s : StandFor (map ratios X) xs) (t : StandFor (map ratios K) ls) where
  pub whole_generated : {x : Row} → InCone xs ls x → InCone X K x
  whole_generated h = in_through X K xs ls
      (λ g i. let r = stand_from X xs s i in stands_out r.0 r.2 X K (in_generator r.1))
      (λ l i.
      let r = stand_from K ls t i in
      let k = stands_out r.0 r.2 [] K (in_line r.1) in
      (in_of X [] K (λ g j. elim j [ ]) k, in_of X [] K (λ g j. elim j [ ]) (lines_opposite K l k)))
      h

  pub generated_whole : {x : Row} → InCone X K x → InCone xs ls x
  generated_whole h = in_through xs ls X K
      (λ g i. let r = stand_among X xs s i in stands_in g r.2 xs ls (in_generator r.1))
      (λ l i.
      let r = stand_among K ls t i in
      let k = stands_in l r.2 [] ls (in_line r.1) in
      (in_of xs [] ls (λ g j. elim j [ ]) k, in_of xs [] ls (λ g j. elim j [ ]) (lines_opposite ls l k)))
      h

  pub whole_solves : {x : Row} → Solves xs ls x → Solves X K x
  whole_solves {x} h = record {
    inequalities = cut_from X x (λ a i. let r = stand_among X xs s i in row_not_negative a r.2 x (cut_at x r.1 h.inequalities));
    equations = All_among (λ e. dot e x ≡ pos 0) K (λ e i. let r = stand_among K ls t i in row_null e r.2 x (among_All (λ e. dot e x ≡ pos 0) r.1 h.equations));
  }

  pub solves_whole : {x : Row} → Solves X K x → Solves xs ls x
  solves_whole {x} h = record {
    inequalities = cut_from xs x (λ a i. let r = stand_from X xs s i in row_not_negative_of r.0 r.2 x (cut_at x r.1 h.inequalities));
    equations = All_among (λ e. dot e x ≡ pos 0) ls (λ e i. let r = stand_from K ls t i in row_null_of r.0 r.2 x (among_All (λ e. dot e x ≡ pos 0) r.1 h.equations));
  }
