-- Sets of rows that finitely many rows cut out: closed under conjunction, over finite lists too.
use Rattle.pm_vector.proofs.Lists.{Among, all_append, append_all, here, there}
use Rattle.pm_vector.specs.Rows.{HasCols, Row, dot}
use Rattle.pm_geom.specs.Cones.{CutOut}
use Rattle.std.proofs.Common.{inl, inr}
use Rattle.std.specs.List.{AllByRecursion}
use Rattle.std.specs.Prelude.{List, [], length, ℕ, ◌++◌, ◌∷◌, ◌≡◌, ◌⊎◌}
use lib.IntN.{pos}
use lib.Signed.{◌≤ℤ◌}

-- the rows of n entries with Q are cut out by a finite list
pub record CutBy (n : ℕ) (Q : Row → Type 0) : Type 0 where
  pub rows : List Row
  pub cols : HasCols n rows
  pub valid : (x : Row) → length x ≡ n → Q x → CutOut rows x
  pub enough : (x : Row) → length x ≡ n → CutOut rows x → Q x

pub cut_as : {n : ℕ} {Q : Row → Type 0} (R : Row → Type 0) → ((x : Row) → length x ≡ n → R x → Q x) → ((x : Row) → length x ≡ n → Q x → R x) → CutBy n Q → CutBy n R
cut_as R f g q = record {
  rows = q.rows;
  cols = q.cols;
  valid = λ x l h. q.valid x l (f x l h);
  enough = λ x l h. g x l (q.enough x l h);
}

pub cut_none : {n : ℕ} (Q : Row → Type 0) → ((x : Row) → Q x) → CutBy n Q
cut_none Q h = record { rows = []; cols = tt; valid = λ x l q. tt; enough = λ x l c. h x }

pub cut_one : {n : ℕ} (b : Row) → length b ≡ n → CutBy n (λ x. pos 0 ≤ℤ dot b x)
cut_one b l = record { rows = b ∷ []; cols = (l, tt); valid = λ x k h. (h, tt); enough = λ x k h. h.0 }

pub cut_both : {n : ℕ} {Q R : Row → Type 0} → CutBy n Q → CutBy n R → CutBy n (λ x. Q x × R x)
cut_both q r = record {
  rows = q.rows ++ r.rows;
  cols = all_append _ q.rows r.rows q.cols r.cols;
  valid = λ x l h. all_append _ q.rows r.rows (q.valid x l h.0) (r.valid x l h.1);
  enough = λ x l h. let (a, b) = append_all (λ c. pos 0 ≤ℤ dot c x) q.rows r.rows h in (q.enough x l a, r.enough x l b);
}

pub cut_each : {n : ℕ} {X : Type 0} (Q : X → Row → Type 0) (bs : List X) → ((b : X) → Among b bs → CutBy n (Q b)) → CutBy n (λ x. AllByRecursion (λ b. Q b x) bs)
cut_each Q [] f = cut_none (λ x. Unit) (λ x. tt)
cut_each Q (b ∷ bs) f = cut_both (f b here) (cut_each Q bs (λ c i. f c (there i)))

pub cut_if : {n : ℕ} (A : Type 0) {Q : Row → Type 0} → A ⊎ ¬ A → CutBy n Q → CutBy n (λ x. A → Q x)
cut_if A {Q} (inl a) q = cut_as (λ x. A → Q x) (λ x l h. h a) (λ x l h k. h) q
cut_if A {Q} (inr never) q = cut_none (λ x. A → Q x) (λ x k. absurd (never k))
