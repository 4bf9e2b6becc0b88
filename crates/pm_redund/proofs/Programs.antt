-- A row is in the cone of rows K and lines L exactly where its program has no point (Farkas).
use Rattle.pm_vector.proofs.ConeLaws.{dot_in}
use Rattle.pm_vector.proofs.Lists.{all_append, all_at, among_Contains, append_all}
use Rattle.pm_vector.proofs.Ring.{ring}
use Rattle.pm_vector.proofs.RowLaws.{dot_comm, length-opposite}
use Rattle.pm_vector.proofs.Signs.{mul_cancel}
use Rattle.pm_vector.specs.Cones.{InCone}
use Rattle.pm_vector.specs.Numbers.{Ratio}
use Rattle.pm_vector.specs.Rows.{HasCols, Row, dot, entry, ratio_at}
use Rattle.pm_vector.specs.NullSpaces.{IsNull}
use Rattle.pm_geom.proofs.Duality.{infeasible_has_no_point}
use Rattle.pm_geom.proofs.Facets.{dot-opposite}
use Rattle.pm_geom.proofs.Polar.{cols_at, cut_at, in_or_apart}
use Rattle.pm_geom.specs.Cones.{CutOut, IsValid}
use Rattle.pm_geom.specs.Programs.{IsInfeasible, IsPoint, Solves}
use Rattle.pm_incidence.proofs.Polarity.{valid_cut}
use Rattle.pm_simplex.specs.Generated.{equations_of, lifted, tied, turned}
use Rattle.std.proofs.Common.{arith, inl, inr, refl, ◌∙◌}
use Rattle.std.proofs.lemmas.Int.{ints}
use Rattle.std.specs.List.{Contains}
use Rattle.std.specs.Prelude.{Bool, List, [], false, length, true, ℕ, ◌∷◌, ◌≡◌}
use lib.IntN.{neg_ℤ, pos, ℤ, ◌*ℤ◌}
use lib.Signed.{◌<ℤ◌}

-- ---- rows of the program at (t, a)
lifted_dot : (x : Row) (t : ℤ) (a : Row) → dot (pos 0 ∷ x) (t ∷ a) ≡ dot x a
lifted_dot x t a = simp ring (omega (arith, ints))

cut_lifted : (X : List Row) (t : ℤ) (a : Row) → CutOut X a → CutOut (lifted X) (t ∷ a)
cut_lifted [] t a h = tt
cut_lifted (x ∷ X) t a h = (let e = lifted_dot x t a in let p = h.0 in omega (arith, ints), cut_lifted X t a h.1)

lifted_cut : (X : List Row) (t : ℤ) (a : Row) → CutOut (lifted X) (t ∷ a) → CutOut X a
lifted_cut [] t a h = tt
lifted_cut (x ∷ X) t a h = (let e = lifted_dot x t a in let p = h.0 in omega (arith, ints), lifted_cut X t a h.1)

null_lifted : (X : List Row) (t : ℤ) (a : Row) → IsNull X a → IsNull (lifted X) (t ∷ a)
null_lifted [] t a h = tt
null_lifted (x ∷ X) t a h = (lifted_dot x t a ∙ h.0, null_lifted X t a h.1)

lifted_null : (X : List Row) (t : ℤ) (a : Row) → IsNull (lifted X) (t ∷ a) → IsNull X a
lifted_null [] t a h = tt
lifted_null (x ∷ X) t a h = (let e = lifted_dot x t a in let p = h.0 in omega (arith, ints), lifted_null X t a h.1)

-- the equation of r says that the product with the row that is asked about is -t
tied_from : (opposed : Bool) (r : Row) (t : ℤ) (a : Row) → t ≡ neg_ℤ (dot a (turned opposed r)) → dot (tied opposed r) (t ∷ a) ≡ pos 0
tied_from true r t a e = let c = dot_comm r a in let o = dot-opposite a r in simp ring (omega (arith, ints))
tied_from false r t a e = let c = dot_comm r a in simp ring (omega (arith, ints))

tied_to : (opposed : Bool) (r : Row) (t : ℤ) (a : Row) → dot (tied opposed r) (t ∷ a) ≡ pos 0 → dot a (turned opposed r) ≡ neg_ℤ t
tied_to true r t a e = let c = dot_comm r a in let o = dot-opposite a r in let f = simp ring at e in omega (arith, ints)
tied_to false r t a e = let c = dot_comm r a in let f = simp ring at e in omega (arith, ints)

length-turned : (opposed : Bool) (r : Row) → length (turned opposed r) ≡ length r
length-turned true r = length-opposite r
length-turned false r = refl

-- a point of the program has a positive first entry
first_positive : (p : List Ratio) (A B : List Row) (q : IsPoint A B p) → pos 0 <ℤ entry q.whole 0
first_positive p A B q =
    let d = q.times.denominators 0 q.some in
    let e = q.times.same 0 q.some in
    scaled (entry q.whole 0) q.k (ratio_at p 0).num (ratio_at p 0).den d q.times.positive q.first e
  where
    scaled : (x k n d : ℤ) → pos 0 <ℤ d → pos 0 <ℤ k → n ≡ d → x *ℤ d ≡ k *ℤ n → pos 0 <ℤ x
    scaled x k n d hd hk e f =
        let g : d *ℤ x ≡ d *ℤ k = simp ring (let h = simp (e, ring) at f in omega (arith, ints)) in
        let h = mul_cancel hd g in
        omega (arith, ints)

module _ (n : ℕ) (K L : List Row) (hK : HasCols n K) (hL : HasCols n L) (opposed : Bool) (r : Row) (lr : length r ≡ n) where
  pub infeasible_generated : {y : List Ratio} → IsInfeasible (lifted K) (equations_of L opposed r) y → InCone K L (turned opposed r)
  infeasible_generated {y} f = elim (in_or_apart n K L hK hL (turned opposed r) (length-turned opposed r ∙ lr)) [
    | inl h ↦ h
    | inr w ↦ absurd (apart w.0 w.1 w.2)
  ]
    where
      apart : (a : Row) → IsValid n K L a → dot a (turned opposed r) <ℤ pos 0 → ⊥
      apart a v low =
          let t = neg_ℤ (dot a (turned opposed r)) in
          infeasible_has_no_point (lifted K) (equations_of L opposed r) y f (t ∷ a) (record {
            inequalities = cut_lifted K t a (valid_cut n K L hK hL a v.cols v).1;
            equations = all_append (λ (b : Row). dot b (t ∷ a) ≡ pos 0) (lifted L) (tied opposed r ∷ []) (null_lifted L t a (valid_cut n K L hK hL a v.cols v).0) (tied_from opposed r t a refl, tt);
          }) (omega (arith, ints))

  pub point_apart : {p : List Ratio} → IsPoint (lifted K) (equations_of L opposed r) p → ¬ (InCone K L (turned opposed r))
  point_apart {p} q h = apart q.whole q.solves (first_positive p (lifted K) (equations_of L opposed r) q)
    where
      apart : (x : Row) → Solves (lifted K) (equations_of L opposed r) x → pos 0 <ℤ entry x 0 → ⊥
      apart [] s up = absurd (omega (arith, ints))
      apart (t ∷ a) s up =
          let (e, f) = append_all (λ (b : Row). dot b (t ∷ a) ≡ pos 0) (lifted L) (tied opposed r ∷ []) s.equations in
          let level = tied_to opposed r t a f.0 in
          let high = dot_in a K L (λ k i. rw dot_comm (cut_at a i (lifted_cut K t a s.inequalities))) (λ l i. dot_comm a l ∙ all_at (λ (b : Row). dot b a ≡ pos 0) i (lifted_null L t a e)) h in
          omega (arith, ints)

pub listed_cols : (n : ℕ) (G : List Row) (r : Row) → HasCols n G → Contains G r → length r ≡ n
listed_cols n G r h c = cols_at (among_Contains G c) h
