-- The rows of a Minkowski sum stand for the sums of the rows of both polytopes.
use Rattle.pm_vector.proofs.Lists.{Among, here, there}
use Rattle.pm_vector.proofs.Ring.{ring}
use Rattle.pm_vector.proofs.RowLaws.{entry-plus, entry-times, length-plus, length-times}
use Rattle.pm_vector.proofs.Signs.{mul_pos, pos_cancel}
use Rattle.pm_vector.specs.Numbers.{Ratio}
use Rattle.pm_vector.specs.Rows.{Row, Stands, entry, ratio_at, times}
use Rattle.pm_build.specs.Points.{far as far_rows, is_point, is_positive as is_above, pairs, pairs_with, points as point_rows}
use Rattle.pm_build.specs.SumSteps.{IsSumRow}
use Rattle.pm_build.specs.Sums.{AreSums}
use Rattle.pm_laws_normal_fans.proofs.Lifts.{entry-rest, length-rest}
use Rattle.pm_laws_normal_fans.specs.Shadows.{rest}
use Rattle.pm_laws_normal_fans.specs.Sums.{far, is_positive, point_sum, point_sums, points}
use Rattle.pm_relations.proofs.Standing.{same_direction}
use Rattle.pm_types.specs.Right.{StandFor}
use Rattle.std.proofs.Common.{Bool, ap, arith, false, refl, subst, sym, true, true≢false, ◌∙◌}
use Rattle.std.proofs.lemmas.Int.{ints}
use Rattle.std.specs.Prelude.{List, [], cond, length, map, not, suc, zero, ℕ, ◌++◌, ◌<◌, ◌∷◌, ◌≡◌}
use lib.IntN.{negsuc, pos, ℤ, ◌*ℤ◌, ◌+ℤ◌}
use lib.Signed.{◌<ℤ◌}

-- ---- the entries of a sum
pub sum_at : (x y : Row) (i : ℕ) → entry (point_sum x y) (suc i) ≡ entry y 0 *ℤ entry x (suc i) +ℤ entry x 0 *ℤ entry y (suc i)
sum_at x y i =
    let a = entry-plus (times (entry y 0) (rest x)) (times (entry x 0) (rest y)) i in
    let b = entry-times (entry y 0) (rest x) i ∙ ap (λ z. entry y 0 *ℤ z) (entry-rest x i) in
    let c = entry-times (entry x 0) (rest y) i ∙ ap (λ z. entry x 0 *ℤ z) (entry-rest y i) in
    omega (arith, ints)

pub sum_length : (n : ℕ) (x y : Row) → 0 < n → length x ≡ n → length y ≡ n → length (point_sum x y) ≡ n
sum_length zero x y some lx ly = absurd (omega arith)
sum_length (suc m) x y some lx ly = ap suc (length-plus m (times (entry y 0) (rest x)) (times (entry x 0) (rest y)) (length-times (entry y 0) (rest x) ∙ length-rest m x lx) (length-times (entry x 0) (rest y) ∙ length-rest m y ly))

-- ---- multiples of two rows: a x is b v, and c y is d w
module _ (a b c d g p q : ℤ) where
  first_multiple : (x0 y0 v0 w0 : ℤ) → a *ℤ x0 ≡ b *ℤ v0 → c *ℤ y0 ≡ d *ℤ w0 → w0 ≡ p *ℤ g → (a *ℤ c) *ℤ (x0 *ℤ y0) ≡ (b *ℤ d *ℤ g) *ℤ (v0 *ℤ p)
  first_multiple x0 y0 v0 w0 e f h =
      let s : (a *ℤ c) *ℤ (x0 *ℤ y0) ≡ (a *ℤ x0) *ℤ (c *ℤ y0) = simp ring in
      let t : (b *ℤ v0) *ℤ (d *ℤ (p *ℤ g)) ≡ (b *ℤ d *ℤ g) *ℤ (v0 *ℤ p) = simp ring in
      s ∙ ap (λ z. z *ℤ (c *ℤ y0)) e ∙ ap (λ z. (b *ℤ v0) *ℤ z) (f ∙ ap (λ z. d *ℤ z) h) ∙ t

  other_multiple : (x0 y0 v0 w0 x y v w : ℤ) → a *ℤ x0 ≡ b *ℤ v0 → c *ℤ y0 ≡ d *ℤ w0 → w0 ≡ p *ℤ g → v0 ≡ q *ℤ g → a *ℤ x ≡ b *ℤ v → c *ℤ y ≡ d *ℤ w
      → (a *ℤ c) *ℤ (y0 *ℤ x +ℤ x0 *ℤ y) ≡ (b *ℤ d *ℤ g) *ℤ (p *ℤ v +ℤ q *ℤ w)
  other_multiple x0 y0 v0 w0 x y v w e f h k i j =
      let s : (a *ℤ c) *ℤ (y0 *ℤ x +ℤ x0 *ℤ y) ≡ (c *ℤ y0) *ℤ (a *ℤ x) +ℤ (a *ℤ x0) *ℤ (c *ℤ y) = simp ring in
      let t : (d *ℤ (p *ℤ g)) *ℤ (b *ℤ v) +ℤ (b *ℤ (q *ℤ g)) *ℤ (d *ℤ w) ≡ (b *ℤ d *ℤ g) *ℤ (p *ℤ v +ℤ q *ℤ w) = simp ring in
      s ∙ ap (λ z. z *ℤ (a *ℤ x) +ℤ (a *ℤ x0) *ℤ (c *ℤ y)) (f ∙ ap (λ z. d *ℤ z) h) ∙ ap (λ z. (d *ℤ (p *ℤ g)) *ℤ z +ℤ (a *ℤ x0) *ℤ (c *ℤ y)) i
      ∙ ap (λ z. (d *ℤ (p *ℤ g)) *ℤ (b *ℤ v) +ℤ z *ℤ (c *ℤ y)) (e ∙ ap (λ z. b *ℤ z) k) ∙ ap (λ z. (d *ℤ (p *ℤ g)) *ℤ (b *ℤ v) +ℤ (b *ℤ (q *ℤ g)) *ℤ z) j ∙ t

-- s = z up to factors, and r_i = z_i / z_0
stands_at : (k m s z z0 num den : ℤ) → k *ℤ s ≡ m *ℤ z → num *ℤ z0 ≡ z *ℤ den → k *ℤ (s *ℤ den) ≡ (m *ℤ z0) *ℤ num
stands_at k m s z z0 num den e f =
    let a : k *ℤ (s *ℤ den) ≡ (k *ℤ s) *ℤ den = simp ring in
    let b : (m *ℤ z) *ℤ den ≡ m *ℤ (z *ℤ den) = simp ring in
    let c : m *ℤ (num *ℤ z0) ≡ (m *ℤ z0) *ℤ num = simp ring in
    a ∙ ap (λ t. t *ℤ den) e ∙ b ∙ ap (λ t. m *ℤ t) (sym f) ∙ c

-- x is a positive multiple of v
pub record IsAlong (x v : Row) : Type 0 where
  pub a : ℤ
  pub b : ℤ
  pub a_positive : pos 0 <ℤ a
  pub b_positive : pos 0 <ℤ b
  pub cols : length x ≡ length v
  pub some : 0 < length v
  pub first : pos 0 <ℤ entry v 0
  pub same : (i : ℕ) → a *ℤ entry x i ≡ b *ℤ entry v i

pub sum_stands : (v w x y : Row) (r : List Ratio) → IsSumRow v w r → IsAlong x v → IsAlong y w → length w ≡ length v → Stands r (point_sum x y)
sum_stands v w x y r h f k lw = record {
  p = f.a *ℤ k.a;
  q = (f.b *ℤ k.b *ℤ pos h.factors.g) *ℤ entry h.whole 0;
  p_positive = mul_pos f.a_positive k.a_positive;
  q_positive = mul_pos (mul_pos (mul_pos f.b_positive k.b_positive) divisor) first;
  cols = sum_length (length v) x y f.some f.cols (k.cols ∙ lw) ∙ sym lr;
  denominators = λ i l. (h.over.each i (within i l)).reduced.positive;
  same = λ i l. stands_at (f.a *ℤ k.a) (f.b *ℤ k.b *ℤ pos h.factors.g) (entry (point_sum x y) i) (entry h.whole i) (entry h.whole 0) (ratio_at r i).num (ratio_at r i).den (at i (omega arith)) (h.over.each i (within i l)).same;
}
  where
    lr : length r ≡ length v
    lr = h.over.cols ∙ h.before.cols

    within : (i : ℕ) → i < length r → i < length h.whole
    within i l = let e = h.over.cols in omega arith

    some : 0 < length v
    some = f.some

    first_is : entry h.whole 0 ≡ entry v 0 *ℤ h.p
    first_is = h.before.entries 0 some

    divisor : pos 0 <ℤ pos h.factors.g
    divisor = by h.factors.g (subst (λ z. pos 0 <ℤ z) h.factors.first k.first)
      where
        by : (g : ℕ) → pos 0 <ℤ (h.p *ℤ pos g) → pos 0 <ℤ pos g
        by zero u = absurd (let z : h.p *ℤ pos 0 ≡ pos 0 = simp ring in omega (arith, ints))
        by (suc g) u = omega (arith, ints)

    factor : pos 0 <ℤ h.p
    factor = pos_cancel divisor (subst (λ z. pos 0 <ℤ z) (h.factors.first ∙ (simp ring)) k.first)

    first : pos 0 <ℤ entry h.whole 0
    first = subst (λ z. pos 0 <ℤ z) (sym first_is) (mul_pos f.first factor)

    at : (i : ℕ) → i < length v → (f.a *ℤ k.a) *ℤ entry (point_sum x y) i ≡ (f.b *ℤ k.b *ℤ pos h.factors.g) *ℤ entry h.whole i
    at zero l = first_multiple f.a f.b k.a k.b (pos h.factors.g) h.p h.q (entry x 0) (entry y 0) (entry v 0) (entry w 0) (f.same 0) (k.same 0) h.factors.first ∙ ap (λ z. (f.b *ℤ k.b *ℤ pos h.factors.g) *ℤ z) (sym first_is)
    at (suc i) l = ap (λ z. (f.a *ℤ k.a) *ℤ z) (sum_at x y i)
        ∙ other_multiple f.a f.b k.a k.b (pos h.factors.g) h.p h.q (entry x 0) (entry y 0) (entry v 0) (entry w 0) (entry x (suc i)) (entry y (suc i)) (entry v (suc i)) (entry w (suc i)) (f.same 0) (k.same 0) h.factors.first h.factors.second (f.same (suc i)) (k.same (suc i))
        ∙ ap (λ z. (f.b *ℤ k.b *ℤ pos h.factors.g) *ℤ z) (sym (h.before.entries (suc i) l))

-- ---- lists of them
-- as many rows, each a positive multiple of the one at its place, and all of n entries
abbrev pub AreAlong : ℕ → List Row → List Row → Type 0
AreAlong n [] [] = Unit {0}
AreAlong n [] (v ∷ V) = ⊥
AreAlong n (x ∷ X) [] = ⊥
AreAlong n (x ∷ X) (v ∷ V) = (IsAlong x v × (length v ≡ n)) × AreAlong n X V

with_stand : (n : ℕ) (v x : Row) (W Y : List Row) (rows : List (List Ratio)) → IsAlong x v → length v ≡ n → AreAlong n Y W → AreSums (pairs_with v W) rows → StandFor rows (map (point_sum x) Y)
with_stand n v x [] [] [] f l k h = tt
with_stand n v x [] [] (r ∷ rows) f l k h = absurd h
with_stand n v x [] (y ∷ Y) rows f l k h = absurd k
with_stand n v x (w ∷ W) [] rows f l k h = absurd k
with_stand n v x (w ∷ W) (y ∷ Y) [] f l k h = absurd h
with_stand n v x (w ∷ W) (y ∷ Y) (r ∷ rows) f l k h = (sum_stands v w x y r h.0 f k.0.0 (k.0.1 ∙ sym l), with_stand n v x W Y rows f l k.1 h.1)

record AreTwoParts (P Q : List (Row × Row)) (rows : List (List Ratio)) : Type 0 where
  front : List (List Ratio)
  back : List (List Ratio)
  is : rows ≡ front ++ back
  first : AreSums P front
  second : AreSums Q back

two_parts : (P Q : List (Row × Row)) (rows : List (List Ratio)) → AreSums (P ++ Q) rows → AreTwoParts P Q rows
two_parts [] Q rows h = record { front = []; back = rows; is = refl; first = tt; second = h }
two_parts (p ∷ P) Q [] h = absurd h
two_parts (p ∷ P) Q (r ∷ rows) h = let t = two_parts P Q rows h.1 in record { front = r ∷ t.front; back = t.back; is = ap (λ z. r ∷ z) t.is; first = (h.0, t.first); second = t.second }

stand_both : (rows others : List (List Ratio)) (X Y : List Row) → StandFor rows X → StandFor others Y → StandFor (rows ++ others) (X ++ Y)
stand_both [] others [] Y h g = g
stand_both [] others (x ∷ X) Y h g = absurd h
stand_both (r ∷ rows) others [] Y h g = absurd h
stand_both (r ∷ rows) others (x ∷ X) Y h g = (h.0, stand_both rows others X Y h.1 g)

pub sums_stand : (n : ℕ) (V X W Y : List Row) (rows : List (List Ratio)) → AreAlong n X V → AreAlong n Y W → AreSums (pairs V W) rows → StandFor rows (point_sums X Y)
sums_stand n [] [] W Y [] f k h = tt
sums_stand n [] [] W Y (r ∷ rows) f k h = absurd h
sums_stand n [] (x ∷ X) W Y rows f k h = absurd f
sums_stand n (v ∷ V) [] W Y rows f k h = absurd f
sums_stand n (v ∷ V) (x ∷ X) W Y rows f k h =
    let t = two_parts (pairs_with v W) (pairs V W) rows h in
    subst (λ z. StandFor z (map (point_sum x) Y ++ point_sums X Y)) (sym t.is) (stand_both t.front t.back (map (point_sum x) Y) (point_sums X Y) (with_stand n v x W Y t.front f.0.0 f.0.1 k t.first) (sums_stand n V X W Y t.back f.1 k t.second))

-- ---- points and far rows
above_to : (z : ℤ) → is_above z ≡ true → pos 0 <ℤ z
above_to (pos zero) e = absurd (true≢false (sym e))
above_to (pos (suc k)) e = omega (arith, ints)
above_to (negsuc k) e = absurd (true≢false (sym e))

above_of : (z : ℤ) → pos 0 <ℤ z → is_above z ≡ true
above_of (pos zero) h = absurd (omega (arith, ints))
above_of (pos (suc k)) h = refl
above_of (negsuc k) h = absurd (omega (arith, ints))

positive_to : (z : ℤ) → is_positive z ≡ true → pos 0 <ℤ z
positive_to (pos zero) e = absurd (true≢false (sym e))
positive_to (pos (suc k)) e = omega (arith, ints)
positive_to (negsuc k) e = absurd (true≢false (sym e))

positive_of : (z : ℤ) → pos 0 <ℤ z → is_positive z ≡ true
positive_of (pos zero) h = absurd (omega (arith, ints))
positive_of (pos (suc k)) h = refl
positive_of (negsuc k) h = absurd (omega (arith, ints))

same_truth : (s t : Bool) → (s ≡ true → t ≡ true) → (t ≡ true → s ≡ true) → s ≡ t
same_truth true t f g = sym (f refl)
same_truth false true f g = g refl
same_truth false false f g = refl

-- p (x den) = k num: x is positive where num is
up_of : (p k x den num : ℤ) → pos 0 <ℤ p → pos 0 <ℤ k → pos 0 <ℤ den → p *ℤ (x *ℤ den) ≡ k *ℤ num → pos 0 <ℤ num → pos 0 <ℤ x
up_of p k x den num hp hk hd e h = pos_cancel hd (subst (λ z. pos 0 <ℤ z) (simp ring) (pos_cancel hp (subst (λ z. pos 0 <ℤ z) (sym e) (mul_pos hk h))))

down_of : (p k x den num : ℤ) → pos 0 <ℤ p → pos 0 <ℤ k → pos 0 <ℤ den → p *ℤ (x *ℤ den) ≡ k *ℤ num → pos 0 <ℤ x → pos 0 <ℤ num
down_of p k x den num hp hk hd e h = pos_cancel hk (subst (λ z. pos 0 <ℤ z) e (mul_pos hp (mul_pos h hd)))

pub point_same : (r : List Ratio) (x : Row) → Stands r x → is_point r ≡ is_positive (entry x 0)
point_same [] [] s = refl
point_same [] (a ∷ x) s = absurd (let e = s.cols in omega arith)
point_same (f ∷ r) x s = same_truth (is_above f.num) (is_positive (entry x 0))
    (λ e. positive_of (entry x 0) (up_of s.p s.q (entry x 0) f.den f.num s.p_positive s.q_positive (s.denominators 0 (omega arith)) (s.same 0 (omega arith)) (above_to f.num e)))
    (λ e. above_of f.num (down_of s.p s.q (entry x 0) f.den f.num s.p_positive s.q_positive (s.denominators 0 (omega arith)) (s.same 0 (omega arith)) (positive_to (entry x 0) e)))

kept_stand : (s t : Bool) (r : List Ratio) (x : Row) (rows : List (List Ratio)) (X : List Row) → s ≡ t → Stands r x → StandFor rows X → StandFor (cond s (r ∷ rows) rows) (cond t (x ∷ X) X)
kept_stand true true r x rows X e h g = (h, g)
kept_stand true false r x rows X e h g = absurd (true≢false e)
kept_stand false true r x rows X e h g = absurd (true≢false (sym e))
kept_stand false false r x rows X e h g = g

pub points_stand : (rows : List (List Ratio)) (X : List Row) → StandFor rows X → StandFor (point_rows rows) (points X)
points_stand [] [] h = tt
points_stand [] (x ∷ X) h = absurd h
points_stand (r ∷ rows) [] h = absurd h
points_stand (r ∷ rows) (x ∷ X) h = kept_stand (is_point r) (is_positive (entry x 0)) r x (point_rows rows) (points X) (point_same r x h.0) h.0 (points_stand rows X h.1)

pub far_stand : (rows : List (List Ratio)) (X : List Row) → StandFor rows X → StandFor (far_rows rows) (far X)
far_stand [] [] h = tt
far_stand [] (x ∷ X) h = absurd h
far_stand (r ∷ rows) [] h = absurd h
far_stand (r ∷ rows) (x ∷ X) h = kept_stand (not (is_point r)) (not (is_positive (entry x 0))) r x (far_rows rows) (far X) (ap not (point_same r x h.0)) h.0 (far_stand rows X h.1)

-- ---- rows that stand for the same points
along : (n : ℕ) (r : List Ratio) (x v : Row) → Stands r x → Stands r v → is_positive (entry x 0) ≡ true → 0 < n → length x ≡ n → IsAlong x v × (length v ≡ n)
along n r x v s t up some lx =
    let d = same_direction s t in
    let lv : length v ≡ n = (t.cols ∙ sym s.cols) ∙ lx in (
      record {
        a = d.p;
        b = d.q;
        a_positive = d.p_positive;
        b_positive = d.q_positive;
        cols = s.cols ∙ sym t.cols;
        some = omega arith;
        first = positive_to (entry v 0) (sym (point_same r v t) ∙ point_same r x s ∙ up);
        same = λ i. sym (entry-times d.p x i) ∙ d.same.at i ∙ entry-times d.q v i;
      },
      lv,
    )

pub all_along : (n : ℕ) (rows : List (List Ratio)) (X V : List Row) → 0 < n → StandFor rows X → StandFor rows V → ((x : Row) → Among x X → (is_positive (entry x 0) ≡ true) × (length x ≡ n)) → AreAlong n X V
all_along n [] [] [] some h g f = tt
all_along n [] [] (v ∷ V) some h g f = absurd g
all_along n [] (x ∷ X) V some h g f = absurd h
all_along n (r ∷ rows) [] V some h g f = absurd h
all_along n (r ∷ rows) (x ∷ X) [] some h g f = absurd g
all_along n (r ∷ rows) (x ∷ X) (v ∷ V) some h g f = let w = f x here in (along n r x v h.0 g.0 w.0 some w.1, all_along n rows X V some h.1 g.1 (λ y i. f y (there i)))
