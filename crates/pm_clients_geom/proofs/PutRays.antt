-- A ray that is divided by its first entry: its fractions stay in the range, it stands for the ray, and it has the form of a row of VERTICES.
use Rattle.pm_geom.proofs.Taken.{taken_push}
use Rattle.pm_vector.specs.Divisors.{IsPrimitive}
use Rattle.pm_vector.specs.Numbers.{Ratio}
use Rattle.pm_vector.specs.Rows.{HasCols, IsZero, Row, Stands, entry, ratio_at}
use Rattle.pm_vector.proofs.RowLaws.{entry-times}
use Rattle.pm_clients_geom.specs.Matrices.{MayBeRays}
use Rattle.pm_types.specs.Parts.{cols_over, as_put}
use Rattle.pm_clients_geom.specs.Rays.{ArePutRays, IsPutRay}
use Rattle.pm_fraction.specs.Matrices.{FractionMatrix, IsFraction}
use Rattle.pm_object_type.specs.declared.object_type.ObjectType.TheVariants.{Cone, Fan, Polytope}
use Rattle.pm_object_type.specs.declared.object_type.ObjectType.{ObjectType}
use Rattle.pm_props.specs.declared.property.PropId.TheVariants.{Vertices}
use Rattle.pm_relations.proofs.Standing.{stands_ratios}
use Rattle.pm_types.proofs.OverFirst.{over_fractions, over_one_first, over_primitive, over_stands}
use Rattle.pm_types.proofs.WholeRows.{length_ratios, ratios_fractions, ratios_primitive}
use Rattle.pm_types.specs.Canonical.{EachIs, IsRayRow}
use Rattle.pm_types.specs.Forms.{HasPrimitiveRow, first_is_below, is_row, is_zero_row}
use Rattle.pm_types.specs.Things.{Thing}
use Rattle.pm_types.specs.Views.{over_one, ratios}
use Rattle.std.proofs.Common.{ap, arith, false, get_or, inl, inr, map, refl, subst, suc, sym, take, true, true≢false, zero, ◌∙◌}
use Rattle.std.proofs.lemmas.Int.{ints}
use Rattle.std.proofs.lemmas.List.Elements.{All-cons, All-from_recursion, All-nil}
use Rattle.std.specs.List.{All}
use Rattle.std.specs.Prelude.{Bool, List, [], length, ℕ, ◌+◌, ◌++◌, ◌<◌, ◌∷◌, ◌≡◌, ◌⊎◌}
use lib.IntN.{negsuc, pos, ℤ}
use lib.Signed.{◌<ℤ◌, ◌≤ℤ◌}

-- ---- the first entry is 1, so the row passes the tests
one_passes : (r : List Ratio) → 0 < length r → ratio_at r 0 ≡ over_one (pos 1) → (is_zero_row r ≡ false) × (first_is_below r ≡ false)
one_passes [] l e = absurd (omega arith)
one_passes (q ∷ r) l e = rw e (refl, refl)

zero_or_not : (z : ℤ) → (z ≡ pos 0) ⊎ ¬ (z ≡ pos 0)
zero_or_not (pos zero) = inl refl
zero_or_not (pos (suc n)) = inr (λ e. omega (arith, ints))
zero_or_not (negsuc n) = inr (λ e. omega (arith, ints))

-- ---- a row that is not zero, as one that is primitive
all_nought : (x : Row) → is_zero_row (ratios x) ≡ true → (i : ℕ) → entry x i ≡ pos 0
all_nought [] h i = refl
all_nought (pos zero ∷ x) h zero = refl
all_nought (pos zero ∷ x) h (suc i) = all_nought x h i
all_nought (pos (suc n) ∷ x) h i = absurd (true≢false (sym h))
all_nought (negsuc n ∷ x) h i = absurd (true≢false (sym h))

pub nought_zero : (x : Row) → All (λ k. k ≡ pos 0) x → (i : ℕ) → entry x i ≡ pos 0
nought_zero [] h i = refl
nought_zero (a ∷ x) h zero = h 0 a (omega arith)
nought_zero (a ∷ x) h (suc i) = nought_zero x (λ j d l. h (suc j) d (omega arith)) i

pub zero_nought : (x : Row) → ((i : ℕ) → entry x i ≡ pos 0) → All (λ k. k ≡ pos 0) x
zero_nought [] z = All-nil (λ (k : ℤ). k ≡ pos 0)
zero_nought (a ∷ x) z = All-cons (λ (k : ℤ). k ≡ pos 0) a x (z 0) (zero_nought x (λ i. z (suc i)))

pub some_not_zero : (x : Row) → ¬ (IsZero x) → is_zero_row (ratios x) ≡ false
some_not_zero x n = by (is_zero_row (ratios x)) refl
  where
    by : (b : Bool) → is_zero_row (ratios x) ≡ b → b ≡ false
    by false e = refl
    by true e = absurd (n (all_nought x e))

pub primitive_not_zero : (x : Row) → IsPrimitive x → ¬ (IsZero x)
primitive_not_zero x p z = let t = twice in omega (arith, ints)
  where
    twice : pos 2 ≡ pos 1
    twice = p.whole (pos 2) x refl (omega (arith, ints)) (record { at = λ i. let e = z i in simp entry-times (omega (arith, ints)) })

nought_not_below : (x : Row) → entry x 0 ≡ pos 0 → first_is_below (ratios x) ≡ false
nought_not_below [] e = refl
nought_not_below (a ∷ x) e = rw e refl

-- ---- a ray of a thing
-- what such a row is
pub record IsRayForm (of : ObjectType) (r : List Ratio) (x : Row) : Type 0 where
  pub cols : length r ≡ length x
  pub passes : ¬ (IsZero x) → is_row of Vertices r ≡ true
  pub entries : All IsFraction r
  pub primitive : HasPrimitiveRow r
  pub stands : Stands r x
  pub divided : of ≡ Polytope → ¬ (entry x 0 ≡ pos 0) → ratio_at r 0 ≡ over_one (pos 1)
  pub whole : ¬ ((of ≡ Polytope) × ¬ (entry x 0 ≡ pos 0)) → r ≡ ratios x

whole_passes : (of : ObjectType) (x : Row) → (of ≡ Polytope → entry x 0 ≡ pos 0) → ¬ (IsZero x) → is_row of Vertices (ratios x) ≡ true
whole_passes Polytope x e p = rw (nought_not_below x (e refl), some_not_zero x p) refl
whole_passes Cone x e p = rw (some_not_zero x p) refl
whole_passes Fan x e p = rw (some_not_zero x p) refl

whole_form : (of : ObjectType) (r : List Ratio) (x : Row) → IsPutRay of r x → (of ≡ Polytope → entry x 0 ≡ pos 0) → IsRayForm of r x
whole_form of r x h e =
    let none : ¬ ((of ≡ Polytope) × ¬ (entry x 0 ≡ pos 0)) = λ w. w.1 (e w.0) in
    subst (λ s. IsRayForm of s x) (sym (h.whole none)) (record {
      cols = sym (length_ratios x);
      passes = whole_passes of x e;
      entries = ratios_fractions x h.in_range;
      primitive = ratios_primitive x h.in_range;
      stands = stands_ratios x;
      divided = λ p n. absurd (n (e p));
      whole = λ w. refl;
    })

positive_first : (z : ℤ) → pos 0 ≤ℤ z → ¬ (z ≡ pos 0) → pos 0 <ℤ z
positive_first (pos zero) h n = absurd (n refl)
positive_first (pos (suc k)) h n = omega (arith, ints)
positive_first (negsuc k) h n = absurd h.le

over_passes : (r : List Ratio) → 0 < length r → ratio_at r 0 ≡ over_one (pos 1) → is_row Polytope Vertices r ≡ true
over_passes r l e = let p = one_passes r l e in rw (p.0, p.1) refl

divided_form : (r : List Ratio) (x : Row) → IsPutRay Polytope r x → ¬ (entry x 0 ≡ pos 0) → IsRayForm Polytope r x
divided_form r x h n =
    let over = h.divided refl n in
    let first = positive_first (entry x 0) (h.before refl) n in
    let one = over_one_first x r over h.some first h.in_range in
    record {
      cols = over.cols;
      passes = λ p. over_passes r (let c = over.cols in let s = h.some in omega arith) one;
      entries = over_fractions x r over h.some first h.in_range;
      primitive = over_primitive x r over h.some first h.in_range;
      stands = over_stands x r over h.some first h.in_range;
      divided = λ p m. one;
      whole = λ w. absurd (w (refl, n));
    }

pub ray_form : (of : ObjectType) (r : List Ratio) (x : Row) → IsPutRay of r x → IsRayForm of r x
ray_form Polytope r x h = elim (zero_or_not (entry x 0)) [
  | inl e ↦ whole_form Polytope r x h (λ p. e)
  | inr n ↦ divided_form r x h n
]
ray_form Cone r x h = whole_form Cone r x h (λ p. cc)
ray_form Fan r x h = whole_form Fan r x h (λ p. cc)

-- ---- a list of them
pub ray_rows : (t : Thing) (of : ObjectType) (rows : List (List Ratio)) (X : List Row) → t.of ≡ of → ArePutRays of rows X → EachIs (IsRayRow t) rows X
ray_rows t of [] [] e h = tt
ray_rows t of [] (x ∷ X) e h = absurd h
ray_rows t of (r ∷ rows) [] e h = absurd h
ray_rows t of (r ∷ rows) (x ∷ X) e h =
    let f = ray_form of r x h.0 in
    (record { stands = f.stands; divided = λ d. f.divided (sym e ∙ d.polytope) d.first; whole = λ n. f.whole (λ w. n (record { polytope = e ∙ w.0; first = w.1 })) }, ray_rows t of rows X e h.1)

-- ---- row by row
-- one row more
pub each_more : (R : List Ratio → Row → Type 0) (rows : List (List Ratio)) (X : List Row) (r : List Ratio) (x : Row) → EachIs R rows X → R r x → EachIs R (rows ++ r ∷ []) (X ++ x ∷ [])
each_more R [] [] r x h last = (last, tt)
each_more R [] (y ∷ X) r x h last = absurd h
each_more R (s ∷ rows) [] r x h last = absurd h
each_more R (s ∷ rows) (y ∷ X) r x h last = (h.0, each_more R rows X r x h.1 last)

pub rays_more : (of : ObjectType) (rows : List Row) (i : ℕ) (x : Row) (a b : FractionMatrix) (r : List Ratio) → i < length rows → x ≡ get_or rows i x → ArePutRays of a.rows (take i rows)
    → b ≡ record { cols = a.cols; rows = a.rows ++ r ∷ [] } → IsPutRay of r x → ArePutRays of b.rows (take (i + 1) rows)
rays_more of rows i x a b r within is so_far put last =
    subst (λ (z : FractionMatrix). ArePutRays of z.rows (take (i + 1) rows)) (sym put)
    (subst (λ (X : List Row). ArePutRays of (a.rows ++ r ∷ []) X) (sym (taken_push rows i x within is)) (each_more (IsPutRay of) a.rows (take i rows) r x so_far last))

-- what the rows are like
pub row_some : (n : ℕ) (rows : List Row) (i : ℕ) (x : Row) → 0 < n → HasCols n rows → i < length rows → x ≡ get_or rows i x → 0 < length x
row_some n rows i x some cols within is =
    let e : length x ≡ n = ap length is ∙ All-from_recursion (λ (y : Row). length y ≡ n) rows cols i x within in
    omega arith

pub row_cols : (of : ObjectType) (n : ℕ) (rows : List Row) (i : ℕ) (x : Row) (r : List Ratio) → HasCols n rows → i < length rows → x ≡ get_or rows i x → IsPutRay of r x → length r ≡ n
row_cols of n rows i x r cols within is put = (ray_form of r x put).cols ∙ ap length is ∙ All-from_recursion (λ (y : Row). length y ≡ n) rows cols i x within

pub row_before : (of : ObjectType) (rows : List Row) (i : ℕ) (x : Row) → MayBeRays of rows → i < length rows → x ≡ get_or rows i x → of ≡ Polytope → pos 0 ≤ℤ entry x 0
row_before of rows i x may within is polytope = subst (λ (y : Row). pos 0 ≤ℤ entry y 0) (sym is) (may polytope i x within)

-- as many rows state the same columns
same_cols_over : (R : List Ratio → Row → Type 0) (n : ℕ) (rows : List (List Ratio)) (X : List Row) → EachIs R rows X → cols_over n (map ratios X) ≡ cols_over n rows
same_cols_over R n [] [] h = refl
same_cols_over R n [] (x ∷ X) h = absurd h
same_cols_over R n (r ∷ rows) [] h = absurd h
same_cols_over R n (r ∷ rows) (x ∷ X) h = refl

pub rays_stated : (of : ObjectType) (n : ℕ) (a : FractionMatrix) (X : List Row) → a.cols ≡ cols_over n (map ratios X) → ArePutRays of a.rows X → a ≡ as_put n a.rows
rays_stated of n a X e h = ap (λ (k : ℕ). record { cols = k; rows = a.rows }) (e ∙ same_cols_over (IsPutRay of) n a.rows X h)
