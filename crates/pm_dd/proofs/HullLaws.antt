-- The generators of the cones over polytopes and of cones, from half-spaces and from generators.
use Rattle.std.specs.Prelude.{ℕ, zero, suc, ◌+◌, ◌≡◌, ◌<◌, ◌≤◌, List, [], ◌∷◌, ◌++◌, drop, length, replicate}
use Rattle.std.specs.List.{Any}
use Rattle.std.proofs.Common.{arith, inl, inr, refl, subst, sym, ◌∙◌}
use Rattle.std.proofs.lemmas.Int.{by_lt_z, ints}
use Rattle.std.proofs.lemmas.List.{append_assoc, drop_more, length-append, length-replicate, length-set}
use Rattle.pm_vector.specs.Cones.{InCone}
use Rattle.pm_vector.specs.Rows.{HasCols, IsZero, Row, dot, entry, opposite}
use Rattle.pm_vector.proofs.ConeLaws.{dot_in, in_generator, in_line, in_line_opposite, in_zero}
use Rattle.pm_vector.proofs.Lists.{Any_among, all_append, all_at, all_from, among_All, append_all}
use Rattle.pm_vector.proofs.RowLaws.{dot_comm, entry-opposite, length-opposite}
use Rattle.pm_vector.specs.Bases.{row_at}
use Rattle.pm_vector.proofs.Spans.{same_span_sym}
use Rattle.pm_dd.specs.Fronts.{HalfSpaces, both_signs}
use Rattle.pm_dd.proofs.Fronts.{signs_cut_out}
use Rattle.pm_dd.proofs.MixedLaws.{generators_as}
use Rattle.pm_dd.proofs.ZeroRows.{dot_zero, no_basis, zero_of_span}
use Rattle.pm_vector.specs.Evidence.{IsBasisOf, unit}
use Rattle.pm_vector.proofs.DotLaws.{dot-unit, null_of_span}
use Rattle.pm_elim.proofs.PrefixLaws.{at_most_columns}
use Rattle.pm_geom.specs.Cones.{CutOut, InLineality, IsExtreme, IsValid}
use Rattle.pm_geom.specs.Generators.{AreGenerators}
use Rattle.pm_geom.proofs.Facets.{dot-opposite, opposite-dot, order_generates, valid_by_products}
use Rattle.pm_geom.proofs.Polar.{cols_at, cut_at, cut_from, cut_is_generated}
use Rattle.pm_dd.specs.HullRefusals.{IsDoubleList}
use Rattle.pm_dd.specs.Hulls.{HasPoint, InPolytopeCone}
use lib.IntN.{pos}
use lib.Signed.{◌<ℤ◌, ◌≤ℤ◌}

-- ---- the double description list
signs_cols : (n : ℕ) (E : List Row) → HasCols n E → HasCols n (both_signs E)
signs_cols n [] h = tt
signs_cols n (e ∷ E) h = (h.0, (length-opposite e ∙ h.0, signs_cols n E h.1))

unit_length : (n : ℕ) → length (unit n 0) ≡ n
unit_length n = length-set (replicate n (pos 0)) 0 (pos 1) ∙ length-replicate n (pos 0)

module _ (n : ℕ) (L G D : List Row) (d : IsDoubleList n L G D) where
  list_to : (x : Row) → length x ≡ n → CutOut D x → HalfSpaces L G x
  list_to x lx h = let p = (signs_cut_out d.basis G x).0 (subst (λ (Z : List Row). CutOut Z x) d.list h) in (null_of_span d.basis L x (same_span_sym d.is_basis.span) p.0, p.1)

  list_of : (x : Row) → length x ≡ n → HalfSpaces L G x → CutOut D x
  list_of x lx h = subst (λ (Z : List Row). CutOut Z x) (sym d.list) ((signs_cut_out d.basis G x).1 (null_of_span L d.basis x d.is_basis.span h.0, h.1))

  pub list_generators : {V K : List Row} → AreGenerators n (CutOut D) V K → AreGenerators n (HalfSpaces L G) V K
  list_generators g = generators_as n (CutOut D) (HalfSpaces L G) list_to list_of g

  pub list_cols : HasCols n G → HasCols n D
  list_cols h = subst (λ (Z : List Row). HasCols n Z) (sym d.list) (all_append (λ (x : Row). length x ≡ n) (both_signs d.basis) G (signs_cols n d.basis d.is_basis.echelon.cols) h)

  signs_length : (E : List Row) → length (both_signs E) ≡ length E + length E
  signs_length [] = refl
  signs_length (e ∷ E) = let h = signs_length E in omega arith

  pub list_length : length D ≤ n + n + length G
  list_length =
      let few = at_most_columns n d.basis d.pivots d.is_basis.echelon in
      let a = signs_length d.basis in
      let b = length-append (both_signs d.basis) G in
      subst (λ (Z : List Row). length Z ≤ n + n + length G) (sym d.list) (omega arith)

-- ---- polarity: the valid rows are the half-spaces of the generators
module _ (n : ℕ) (G L : List Row) (hG : HasCols n G) (hL : HasCols n L) where
  valid_of : (a : Row) → length a ≡ n → HalfSpaces L G a → IsValid n G L a
  valid_of a la h = valid_by_products n G L hG hL a la (λ g i. rw dot_comm (cut_at a i h.1)) (λ l i. dot_comm a l ∙ all_at (λ (e : Row). dot e a ≡ pos 0) i h.0)

  valid_to : (a : Row) → length a ≡ n → IsValid n G L a → HalfSpaces L G a
  valid_to a la v = (
    all_from (λ (e : Row). dot e a ≡ pos 0) L (λ l i.
        let p = v.holds l (cols_at i hL) (in_line i) in
        let q = rw dot-opposite at (v.holds (opposite l) (length-opposite l ∙ cols_at i hL) (in_line_opposite i)) in
        dot_comm l a ∙ omega (arith, ints)),
    cut_from G a (λ g i. rw dot_comm (v.holds g (cols_at i hG) (in_generator i))),
  )

  pub facets_of : {F H : List Row} → AreGenerators n (HalfSpaces L G) F H → AreGenerators n (IsValid n G L) F H
  facets_of g = generators_as n (HalfSpaces L G) (IsValid n G L) valid_of valid_to g

-- ---- the cone over a polytope
pub unit-dot : (n : ℕ) (x : Row) → length x ≡ n → dot (unit n 0) x ≡ entry x 0
unit-dot zero [] e = refl
unit-dot zero (a ∷ x) e = absurd (omega arith)
unit-dot (suc n) x e = dot_comm (unit (suc n) 0) x ∙ dot-unit x (suc n) 0 (omega arith)

module _ (n : ℕ) (A E : List Row) where
  far_to : (x : Row) → length x ≡ n → HalfSpaces E (A ++ unit n 0 ∷ []) x → HalfSpaces E A x × (pos 0 ≤ℤ entry x 0)
  far_to x lx h =
      let (a, b) = append_all (λ (b : Row). pos 0 ≤ℤ dot b x) A (unit n 0 ∷ []) h.1 in
      let first : pos 0 ≤ℤ dot (unit n 0) x = b.0 in
      ((h.0, a), subst (λ z. pos 0 ≤ℤ z) (unit-dot n x lx) first)

  far_of : (x : Row) → length x ≡ n → HalfSpaces E A x → pos 0 ≤ℤ entry x 0 → HalfSpaces E (A ++ unit n 0 ∷ []) x
  far_of x lx h p = (h.0, all_append (λ (b : Row). pos 0 ≤ℤ dot b x) A (unit n 0 ∷ []) h.1 (subst (λ z. pos 0 ≤ℤ z) (sym (unit-dot n x lx)) p, tt))

  -- where there is a point
  pub proper_generators : {V K : List Row} → AreGenerators n (HalfSpaces E (A ++ unit n 0 ∷ [])) V K → Any (λ v. pos 0 <ℤ entry v 0) V → AreGenerators n (InPolytopeCone n A E) V K
  proper_generators {V} g w = generators_as n (HalfSpaces E (A ++ unit n 0 ∷ [])) (InPolytopeCone n A E)
      (λ x lx h. let p = far_to x lx h in record { solves = p.0; first = p.1; proper = inr point })
      (λ x lx h. far_of x lx h.solves h.first) g
    where
      extreme : IsExtreme n (HalfSpaces E (A ++ unit n 0 ∷ [])) w.1
      extreme = subst (λ (v : Row). IsExtreme n (HalfSpaces E (A ++ unit n 0 ∷ [])) v) w.3 (g.order.each w.0 w.1 w.2)

      point : HasPoint n A E
      point = record { point = w.1; cols = extreme.cols; solves = (far_to w.1 extreme.cols extreme.inside).0; positive = w.4 }

  module _ (hA : HasCols n A) (hE : HasCols n E) where
    -- no ray has a positive first entry, so no solution has one
    pub no_point : {V K : List Row} → AreGenerators n (HalfSpaces E (A ++ unit n 0 ∷ [])) V K → ¬ (Any (λ v. pos 0 <ℤ entry v 0) V) → ¬ (HasPoint n A E)
    no_point {V} {K} g none p =
        let far : HasCols n (A ++ unit n 0 ∷ []) = all_append (λ (x : Row). length x ≡ n) A (unit n 0 ∷ []) hA (unit_length n, tt) in
        let (G, hG, eq) = cut_is_generated n (both_signs E ++ (A ++ unit n 0 ∷ [])) (all_append (λ (x : Row). length x ≡ n) (both_signs E) (A ++ unit n 0 ∷ []) (signs_cols n E hE) far) in
        let to = λ (x : Row) (lx : length x ≡ n) (h : CutOut (both_signs E ++ (A ++ unit n 0 ∷ [])) x). (signs_cut_out E (A ++ unit n 0 ∷ []) x).0 h in
        let of = λ (x : Row) (lx : length x ≡ n) (h : HalfSpaces E (A ++ unit n 0 ∷ []) x). (signs_cut_out E (A ++ unit n 0 ∷ []) x).1 h in
        let go : (x : Row) → length x ≡ n → HalfSpaces E (A ++ unit n 0 ∷ []) x → InCone G [] x = λ x lx h. (eq x lx).1 (of x lx h) in
        let back : (x : Row) → length x ≡ n → InCone G [] x → HalfSpaces E (A ++ unit n 0 ∷ []) x = λ x lx h. to x lx ((eq x lx).0 h) in
        let h : AreGenerators n (InCone G []) V K = generators_as n (HalfSpaces E (A ++ unit n 0 ∷ [])) (InCone G []) go back g in
        let y : Row = p.point in
        let inside : InCone V K p.point = (order_generates n G [] hG tt V K h.basis.echelon.cols h.order h.basis.lines p.point p.cols).0 (go p.point p.cols (far_of p.point p.cols p.solves (let q = p.positive in omega (arith, ints)))) in
        let low = dot_in (opposite (unit n 0)) V K
        (λ v i. let x = among_All (λ v. IsExtreme n (HalfSpaces E (A ++ unit n 0 ∷ [])) v) i g.order.each in
        let u = unit-dot n v x.cols in
        let o = opposite-dot (unit n 0) v in
        by_lt_z (pos 0) (entry v 0) (λ up. absurd (none (Any_among (λ v. pos 0 <ℤ entry v 0) i up))) (λ lo. omega (arith, ints)))
        (λ k i.
        let lk : length k ≡ n = cols_at i g.basis.echelon.cols in
        let l = (g.basis.lines k lk).1 (in_line i) in
        let a = (far_to k lk l.inside).1 in
        let b = (far_to (opposite k) (length-opposite k ∙ lk) l.opposed).1 in
        let c = rw entry-opposite at b in
        let u = unit-dot n k lk in
        let o = opposite-dot (unit n 0) k in
        omega (arith, ints))
        inside in
        let u = unit-dot n p.point p.cols in
        let o = opposite-dot (unit n 0) p.point in
        let q = p.positive in
        omega (arith, ints)

    -- the cone is {0}, which has no ray and no line
    pub empty_generators : ¬ (HasPoint n A E) → AreGenerators n (InPolytopeCone n A E) [] []
    empty_generators none = record {
      pivots = [];
      basis = record { echelon = no_basis n; lines = λ x lx. (λ h. in_zero (zero_in x h.inside), λ h. line_of_zero x (zero_of_span x h)) };
      order = record { each = λ k d l. absurd (omega arith); all = λ r e. absurd (e.not_line (opposite_in r (zero_in r e.inside))); once = λ i j d l m. absurd (omega arith) };
      primitive = λ k d l. absurd (omega arith);
      reduced = λ k d l. absurd (omega arith);
      ascending = λ i j d l m. absurd (omega arith);
    }
      where
        zero_in : (x : Row) → InPolytopeCone n A E x → IsZero x
        zero_in x h = elim h.proper [ inl z ↦ z | inr p ↦ absurd (none p) ]

        zero_solves : (x : Row) → IsZero x → InPolytopeCone n A E x
        zero_solves x z = record {
          solves = (all_from (λ (e : Row). dot e x ≡ pos 0) E (λ e i. dot_zero e x z), cut_from A x (λ b i. let q = dot_zero b x z in omega (arith, ints)));
          first = (let q = z 0 in omega (arith, ints));
          proper = inl z;
        }

        opposite_in : (x : Row) → IsZero x → InPolytopeCone n A E (opposite x)
        opposite_in x z = zero_solves (opposite x) (λ i. let q = z i in rw entry-opposite (omega (arith, ints)))

        line_of_zero : (x : Row) → IsZero x → InLineality (InPolytopeCone n A E) x
        line_of_zero x z = record { inside = zero_solves x z; opposed = opposite_in x z }

-- ---- lists, row by row
pub signs_more : (W X : List Row) (i : ℕ) → i < length X → (W ++ row_at X i ∷ []) ++ opposite (row_at X i) ∷ [] ++ both_signs (drop (i + 1) X) ≡ W ++ both_signs (drop i X)
signs_more W X i l = rw (drop_more X i [] l) (append_assoc (W ++ row_at X i ∷ []) (opposite (row_at X i) ∷ []) (both_signs (drop (i + 1) X)) ∙ append_assoc W (row_at X i ∷ []) (opposite (row_at X i) ∷ both_signs (drop (i + 1) X)))

pub double_list_made : (n : ℕ) (L G B D : List Row) (P : List ℕ) → IsBasisOf n L B P → D ≡ both_signs B ++ G → IsDoubleList n L G D
double_list_made n L G B D P b e = record { basis = B; pivots = P; is_basis = b; list = e }
