-- The form of rays is kept along the steps.
use Rattle.std.specs.Prelude.{ℕ, suc, ◌+◌, ◌≡◌, ◌<◌, ◌≤◌, List, ◌++◌, length, take}
use Rattle.std.specs.List.{All}
use Rattle.pm_vector.specs.Divisors.{IsPrimitive}
use Rattle.pm_vector.specs.Rows.{Row, entry}
use Rattle.pm_vector.proofs.Lists.{All_among, Among, among_All, here, there}
use Rattle.pm_geom.specs.Generators.{VanishAt}
use Rattle.pm_dd.specs.Form.{AreReduced, KeepForm, KeepsForm}
use Rattle.pm_elim.specs.Duals.{IsDualBasis}
use Rattle.pm_geom.specs.Faces.{ray}
use Rattle.pm_vector.specs.Bases.{column}
use Rattle.pm_dd.proofs.StepLaws.{place_of}
use Rattle.std.proofs.Common.{arith, refl, subst}
use Rattle.std.proofs.lemmas.List.{length-append, length-take-le}
use lib.IntN.{pos}

pub keep_refl : (V : List Row) → KeepForm V V
keep_refl V = All_among (KeepsForm V) V (λ v i. record { primitive = λ h. among_All IsPrimitive i h; zeros = λ c h. among_All (λ (v : Row). entry v c ≡ pos 0) i h })

-- what all rows of V have, those of W have
kept_primitive : (V W : List Row) → KeepForm V W → All IsPrimitive V → All IsPrimitive W
kept_primitive V W k h = All_among IsPrimitive W (λ w i. (among_All (KeepsForm V) i k).primitive h)

kept_zeros : (V W : List Row) → KeepForm V W → (c : ℕ) → All (λ v. entry v c ≡ pos 0) V → All (λ w. entry w c ≡ pos 0) W
kept_zeros V W k c h = All_among (λ (w : Row). entry w c ≡ pos 0) W (λ w i. (among_All (KeepsForm V) i k).zeros c h)

pub keep_trans : (U V W : List Row) → KeepForm U V → KeepForm V W → KeepForm U W
keep_trans U V W k l = All_among (KeepsForm U) W (λ w i. record {
  primitive = λ h. (among_All (KeepsForm V) i l).primitive (kept_primitive U V k h);
  zeros = λ c h. (among_All (KeepsForm V) i l).zeros c (kept_zeros U V k c h);
})

pub reduced_kept : (n : ℕ) (A V W : List Row) → AreReduced n A V → KeepForm V W → AreReduced n A W
reduced_kept n A V W r k = record {
  null = r.null;
  pivots = r.pivots;
  basis = r.basis;
  primitive = kept_primitive V W k r.primitive;
  zeros = All_among (VanishAt r.pivots) W (λ w i. All_among (λ (c : ℕ). entry w c ≡ pos 0) r.pivots (λ c j. (among_All (KeepsForm V) i k).zeros c (All_among (λ (v : Row). entry v c ≡ pos 0) V (λ v m. among_All (λ (c : ℕ). entry v c ≡ pos 0) j (among_All (VanishAt r.pivots) m r.zeros)))));
}

place_of_column : {c : ℕ} {P : List ℕ} → Among c P → (k : ℕ) × (k < length P) × (column P k ≡ c)
place_of_column (here {xs}) = (0, omega arith, refl)
place_of_column (there {xs = xs} i) = let r = place_of_column i in (suc r.0, (let l = r.1 in omega arith), r.2)

-- the dual rows of the inequalities have the form
pub start_reduced : (n : ℕ) (E J D : List Row) (start : ℕ) (W : List Row) → IsDualBasis n (E ++ take start J) D → start ≤ length J → length W ≡ start → ((k : ℕ) → k < start → ray W k ≡ ray D (length E + k)) → AreReduced n (E ++ take start J) W
start_reduced n E J D start W d le lw rows = record {
  null = d.null;
  pivots = d.pivots;
  basis = d.null_basis;
  primitive = All_among IsPrimitive W (λ w i. let p = place_of i in subst (λ (x : Row). IsPrimitive x) p.2 (rw (rows p.0 (small p.0 p.1)) (d.each (length E + p.0) (place p.0 p.1)).primitive));
  zeros = All_among (VanishAt d.pivots) W (λ w i. let p = place_of i in subst (λ (x : Row). VanishAt d.pivots x) p.2 (rw (rows p.0 (small p.0 p.1))
      (All_among (λ (c : ℕ). entry (ray D (length E + p.0)) c ≡ pos 0) d.pivots (λ c j. let q = place_of_column j in subst (λ (e : ℕ). entry (ray D (length E + p.0)) e ≡ pos 0) q.2 ((d.each (length E + p.0) (place p.0 p.1)).reduced q.0 q.1)))));
}
  where
    small : (k : ℕ) → k < length W → k < start
    small k l = omega arith

    place : (k : ℕ) → k < length W → length E + k < length (E ++ take start J)
    place k l = let a = length-append E (take start J) in let t = length-take-le start J le in omega arith
