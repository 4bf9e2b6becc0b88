-- What a pivot keeps: the layout, the columns of the other rows, and what is 0 or positive where the pivot row is 0.
use Rattle.pm_vector.proofs.Ring.{ring}
use Rattle.pm_vector.proofs.Signs.{mul_cancel}
use Rattle.pm_vector.specs.Numbers.{Ratio}
use Rattle.pm_vector.specs.Rows.{Row, ratio_at}
use Rattle.pm_vector.specs.Bases.{column}
use Rattle.pm_programs.proofs.Dictionaries.{pivot_is_dictionary}
use Rattle.pm_programs.proofs.Tableaux.{column_other, column_set}
use Rattle.pm_programs.specs.Dictionaries.{AllFit, IsDictionaryOf, IsNewElsewhere, IsNewHere, IsProductSum, at, row_of}
use Rattle.pm_simplex.proofs.Steps.{apart_next, covered, different_basic}
use Rattle.pm_simplex.specs.Comparisons.{IsApart, IsCovered, rows_of}
use Rattle.pm_simplex.specs.Running.{IsLaidOut, IsPivotOf, IsResidualColumn, IsSettledRow}
use Rattle.pm_simplex.specs.States.{columns_of}
use Rattle.pm_simplex.specs.declared.dictionary.Dictionary.{Dictionary}
use Rattle.pm_simplex.specs.declared.layout.Layout.{Layout}
use Rattle.std.proofs.Common.{ap, arith, subst, sym, ◌∙◌}
use Rattle.std.proofs.lemmas.Int.{by_lt_z, ints}
use Rattle.std.proofs.lemmas.List.{length-set}
use Rattle.std.specs.Prelude.{List, length, slice_set, ℕ, ◌<◌, ◌≡◌}
use lib.IntN.{neg_ℤ, pos, ℤ, ◌*ℤ◌, ◌+ℤ◌}
use lib.Signed.{◌<ℤ◌, ◌≤ℤ◌}
use native.Mathlib.Decide.{ℕ_discrete}

-- ---- numbers
zero_product : (a q : ℤ) → ¬ (q ≡ pos 0) → a *ℤ q ≡ pos 0 → a ≡ pos 0
zero_product a q n e =
    by_lt_z (pos 0) q
    (λ h. mul_cancel h (swap q a ∙ e ∙ sym (none q)))
    (λ h. mul_cancel {a = neg_ℤ q} (below h) (minus q a ∙ ap neg_ℤ e ∙ sym (none (neg_ℤ q))))
  where
    swap : (q a : ℤ) → q *ℤ a ≡ a *ℤ q
    swap q a = omega (arith, ints)

    none : (q : ℤ) → q *ℤ pos 0 ≡ pos 0
    none q = simp ring

    minus : (q a : ℤ) → neg_ℤ q *ℤ a ≡ neg_ℤ (a *ℤ q)
    minus q a = simp ring

    below : q ≤ℤ pos 0 → pos 0 <ℤ neg_ℤ q
    below h = let m : ¬ (q ≡ pos 0) = n in omega (arith, ints)

-- a quotient of 0 is 0
quotient_zero : (r x d : ℤ) (f q : ℤ) → ¬ (d ≡ pos 0) → r *ℤ d ≡ (f *ℤ q) *ℤ x → f ≡ pos 0 → r ≡ pos 0
quotient_zero r x d f q n e h = zero_product r d n (e ∙ none f q x h)
  where
    none : (f q x : ℤ) → f ≡ pos 0 → (f *ℤ q) *ℤ x ≡ pos 0
    none f q x h = simp (h, ring)

-- the new fraction of another row is 0 where the old one and that of the entering variable are
elsewhere_zero : (x y : List Ratio) (j k : ℕ) (b r : Ratio) → IsNewElsewhere x y j k b r → (ratio_at y k).num ≡ pos 0 → (ratio_at y j).num ≡ pos 0 → r.num ≡ pos 0
elsewhere_zero x y j k b r h ek ej = elim (ℕ_discrete k j) [
  | yes q ↦ (let c = h.corner q in quotient_zero r.num r.den ((ratio_at y j).den *ℤ (ratio_at x j).num) (ratio_at y j).num (ratio_at x j).den c.divisible c.same ej)
  | no n ↦ sum_zero (h.rest n)
]
  where
    sum_zero : IsProductSum (ratio_at y k) (ratio_at y j) b r → r.num ≡ pos 0
    sum_zero s =
        let p = quotient_zero s.product.num s.product.den ((ratio_at y j).den *ℤ b.den) (ratio_at y j).num b.num s.lowest.divisible s.lowest.same ej in
        zero_product r.num ((ratio_at y k).den *ℤ s.product.den) s.sum.divisible (s.sum.same ∙ both (ratio_at y k).num s.product.den s.product.num (ratio_at y k).den r.den ek p)
      where
        both : (e td t ed rd : ℤ) → e ≡ pos 0 → t ≡ pos 0 → (e *ℤ td +ℤ t *ℤ ed) *ℤ rd ≡ pos 0
        both e td t ed rd f g = simp (f, g, ring)

-- the new fraction of the pivot row is 0 where the old one is
pub here_zero : (x : List Ratio) (j k : ℕ) (r : Ratio) → IsNewHere x j k r → ¬ (k ≡ j) → (ratio_at x k).num ≡ pos 0 → r.num ≡ pos 0
here_zero x j k r h n e =
    let w = h.rest n in
    let q = quotient_zero w.quotient.num w.quotient.den ((ratio_at x k).den *ℤ (ratio_at x j).num) (ratio_at x k).num (ratio_at x j).den w.lowest.divisible w.lowest.same e in
    ap (λ (z : Ratio). z.num) w.opposite ∙ minus w.quotient.num q
  where
    minus : (a : ℤ) → a ≡ pos 0 → neg_ℤ a ≡ pos 0
    minus a f = omega (arith, ints)

-- where the new fraction of the pivot row is 0, that of another row keeps its value
pub sum_kept : (e f b r : Ratio) → IsProductSum e f b r → b.num ≡ pos 0 → r.num *ℤ e.den ≡ e.num *ℤ r.den
sum_kept e f b r s h =
    let p = quotient_zero s.product.num s.product.den (f.den *ℤ b.den) b.num f.num s.lowest.divisible (s.lowest.same ∙ ap (λ z. z *ℤ s.product.den) (swap f.num b.num)) h in
    mul_cancel s.lowest.reduced.positive (kept r.num e.den s.product.den e.num s.product.num r.den s.sum.same p)
  where
    swap : (a b : ℤ) → a *ℤ b ≡ b *ℤ a
    swap a b = omega (arith, ints)

    kept : (r ed td e t rd : ℤ) → r *ℤ (ed *ℤ td) ≡ (e *ℤ td +ℤ t *ℤ ed) *ℤ rd → t ≡ pos 0 → td *ℤ (r *ℤ ed) ≡ td *ℤ (e *ℤ rd)
    kept r ed td e t rd q h = let q' = simp (h, ring) at q in simp ring (omega (arith, ints))

-- ---- the pivot
module _ (y : Layout) (S : List Row) (d d' : Dictionary) (l j : ℕ) (h : IsLaidOut y S d) (ll : l < length d.basis.items) (lj : j < length d.others.items) (nz : ¬ ((at (rows_of d) l j).num ≡ pos 0)) (later : 0 < column d.others.items j) (pv : IsPivotOf d l j d') where
  pub count_P : length d'.basis.items ≡ length d.basis.items
  count_P = ap length pv.basis ∙ length-set d.basis.items l _

  pub count_N : length d'.others.items ≡ length d.others.items
  count_N = ap length pv.others ∙ length-set d.others.items j _

  pub basis_own : column d'.basis.items l ≡ column d.others.items j
  basis_own = ap (λ X. column X l) pv.basis ∙ column_set d.basis.items l (column d.others.items j) ll

  pub basis_other : (i : ℕ) → ¬ (i ≡ l) → column d'.basis.items i ≡ column d.basis.items i
  basis_other i n = ap (λ X. column X i) pv.basis ∙ column_other d.basis.items l (column d.others.items j) i n

  pub others_own : column d'.others.items j ≡ column d.basis.items l
  others_own = ap (λ X. column X j) pv.others ∙ column_set d.others.items j (column d.basis.items l) lj

  pub others_other : (k : ℕ) → ¬ (k ≡ j) → column d'.others.items k ≡ column d.others.items k
  others_other k n = ap (λ X. column X k) pv.others ∙ column_other d.others.items j (column d.basis.items l) k n

  not_first : ¬ (0 ≡ j)
  not_first q = let e = h.constant in let f = ap (column d.others.items) q in omega arith

  pub laid_out_next : IsLaidOut y S d'
  laid_out_next = record {
    shaped = record {
      rectangular = pv.rectangular;
      cover = λ c lc. subst (λ X. IsCovered X d'.others.items c) (sym pv.basis) (subst (λ X. IsCovered (slice_set d.basis.items l (column d.others.items j)) X c) (sym pv.others) (covered d.basis.items d.others.items l j c ll lj (h.shaped.cover c lc)));
      variables = λ i li. elim (ℕ_discrete i l) [
        | yes q ↦ subst (λ m. 0 < column d'.basis.items m) (sym q) (subst (λ c. 0 < c) (sym basis_own) later)
        | no n ↦ subst (λ c. 0 < c) (sym (basis_other i n)) (h.shaped.variables i (let e = count_P in omega arith))
      ];
    };
    apart = subst (λ X. IsApart (columns_of y) X d'.others.items) (sym pv.basis) (subst (λ X. IsApart (columns_of y) (slice_set d.basis.items l (column d.others.items j)) X) (sym pv.others)
        (apart_next (columns_of y) d.basis.items d.others.items l j ll lj h.apart (different_basic S d.basis.items d.others.items (rows_of d) h.dictionary)));
    dictionary = subst (λ X. IsDictionaryOf S X d'.others.items (rows_of d')) (sym pv.basis) (subst (λ X. IsDictionaryOf S (slice_set d.basis.items l (column d.others.items j)) X (rows_of d')) (sym pv.others)
        (pivot_is_dictionary S d.basis.items d.others.items (rows_of d) (rows_of d') l j h.dictionary ll lj nz pv.pivoted));
    fits = λ i li. subst (λ n. AllFit n (row_of (rows_of d') i)) (sym count_N) (pv.fits i (let e = count_P in omega arith));
    some = (let e = count_N in let s = h.some in omega arith);
    constant = others_other 0 not_first ∙ h.constant;
  }

  -- a row that depends on residuals alone still does, where no residual enters
  pub settled_next : (i : ℕ) → i < length d.basis.items → ¬ (i ≡ l) → ¬ (IsResidualColumn y (column d.others.items j)) → IsSettledRow y d i → IsSettledRow y d' i
  settled_next i li ni nr s = record {
    zero = λ k lk nk.
        let lk' : k < length d.others.items = (let e = count_N in omega arith) in
        elim (ℕ_discrete k j) [
          | yes q ↦ elsewhere_zero (row_of (rows_of d) l) (row_of (rows_of d) i) j k (at (rows_of d') l k) (at (rows_of d') i k) (pv.pivoted.elsewhere i k li ni lk')
              (subst (λ m. (at (rows_of d) i m).num ≡ pos 0) (sym q) (s.zero j lj nr)) (s.zero j lj nr)
          | no n ↦ elsewhere_zero (row_of (rows_of d) l) (row_of (rows_of d) i) j k (at (rows_of d') l k) (at (rows_of d') i k) (pv.pivoted.elsewhere i k li ni lk')
              (s.zero k lk' (λ r. nk (subst (λ c. IsResidualColumn y c) (sym (others_other k n)) r))) (s.zero j lj nr)
        ];
  }
