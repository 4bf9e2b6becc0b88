-- Rows compared column by column are compared in lexicographic order.
use Rattle.pm_vector.proofs.Ring.{ring}
use Rattle.pm_vector.proofs.Signs.{mul_pos}
use Rattle.pm_vector.specs.Numbers.{Ratio}
use Rattle.pm_vector.specs.Rows.{Row, entry}
use Rattle.pm_vector.specs.Bases.{column, row_at}
use Rattle.pm_simplex.proofs.Compare.{below_whole, lex_at}
use Rattle.pm_simplex.proofs.KeyColumns.{StandsFor, key_stands, length_upward, upward_at}
use Rattle.pm_programs.proofs.Pivots.{key-difference}
use Rattle.pm_simplex.specs.Comparisons.{IsKeyBelow, IsRectangular, IsRowBelow, IsShaped, key_of, rows_of}
use Rattle.pm_programs.specs.Dictionaries.{IsDictionaryOf, at, row_of}
use Rattle.pm_programs.specs.Lex.{key}
use Rattle.pm_simplex.specs.Sizes.{IsQuotientBelow}
use Rattle.pm_simplex.specs.States.{columns_of, is_signed, key_columns}
use Rattle.pm_programs.specs.Tableaux.{IsSign, pivot_row}
use Rattle.pm_simplex.specs.declared.dictionary.Dictionary.{Dictionary}
use Rattle.pm_simplex.specs.declared.layout.Layout.{Layout}
use Rattle.std.proofs.Common.{ap, arith, inl, inr, refl, subst, sym, ◌∙◌}
use Rattle.std.proofs.lemmas.Grind.{common_steps}
use Rattle.std.proofs.lemmas.Int.{by_lt_z, ints}
use Rattle.std.proofs.lemmas.List.{length-map}
use Rattle.std.specs.Prelude.{IsTrue, List, length, suc, zero, ℕ, ◌+◌, ◌-◌, ◌<◌, ◌≡◌, ◌≤◌, ◌⊎◌, ◌↔◌}
use lib.IntN.{neg_ℤ, pos, ℤ, ◌*ℤ◌, ◌-ℤ◌}
use lib.Signed.{◌<ℤ◌}

pub signed_is : (y : Layout) (c : ℕ) → IsTrue (is_signed y c) → ((y.cols ≤ c) × (c < y.cols + y.slacks)) ⊎ (c ≡ y.cols + y.slacks + y.residuals)
signed_is y c h = grind (arith, common_steps)

-- the place of a slack
pub slack_place : (y : Layout) (c : ℕ) → y.cols ≤ c → c < y.cols + y.slacks → (k : ℕ) × (k < y.slacks + 1) × (column (key_columns y) k ≡ c)
slack_place y c l h = (suc (c - y.cols), omega arith, upward_at y.cols y.slacks (c - y.cols) (omega arith) ∙ omega arith)

pub key_below : (y : Layout) (k : ℕ) → k < y.slacks + 1 → column (key_columns y) k < columns_of y
key_below y zero l = omega arith
key_below y (suc k) l = let e = upward_at y.cols y.slacks k (omega arith) in omega arith

pub count_keys : (y : Layout) → length (key_columns y) ≡ y.slacks + 1
count_keys y = let e = length_upward y.cols y.slacks in omega arith

module _ (y : Layout) (d : Dictionary) (h : IsShaped y d) (j : ℕ) (lj : j < length d.others.items) (S : List Row) (t : IsDictionaryOf S d.basis.items d.others.items (rows_of d)) (s : ℤ) (sg : IsSign s) where
  wide : (i : ℕ) → i < length d.basis.items → i < length t.whole
  wide i li = let a = t.tableau.tableau.as_many in omega arith

  stands : (i k : ℕ) → i < length d.basis.items → k < y.slacks + 1 → StandsFor (key_of d i (column (key_columns y) k)) (key (row_at t.whole i) (column (key_columns y) k)) (entry (row_at t.whole i) (column d.basis.items i))
  stands i k li lk =
      key_stands S d.basis.items d.others.items (rows_of d) t i (column (key_columns y) k) li
      (h.rectangular.places.each i (rw length-map (let q = h.rectangular.count in omega arith)))
      (h.cover (column (key_columns y) k) (key_below y k lk))
      (let q = h.variables i li in λ z. omega arith)

  pub below_is : (i l k : ℕ) → i < length d.basis.items → l < length d.basis.items → k < y.slacks + 1
      → pos 0 <ℤ (s *ℤ entry (row_at t.whole i) (column d.others.items j)) → pos 0 <ℤ (s *ℤ entry (row_at t.whole l) (column d.others.items j))
      → IsKeyBelow d i l j (column (key_columns y) k) ↔ (pos 0 <ℤ key (pivot_row s (row_at t.whole i) (column d.others.items j) (row_at t.whole l)) (column (key_columns y) k))
  below_is i l k li ll lk hi hl =
      let a = stands i k li lk in
      let b = stands l k ll lk in
      let f = t.entries i j li lj in
      let g = t.entries l j ll lj in
      let w = below_whole (key_of d i (column (key_columns y) k)) (at (rows_of d) i j) (key_of d l (column (key_columns y) k)) (at (rows_of d) l j)
      (entry (row_at t.whole i) (column d.basis.items i)) (entry (row_at t.whole l) (column d.basis.items l))
      (key (row_at t.whole i) (column (key_columns y) k)) (key (row_at t.whole l) (column (key_columns y) k))
      (entry (row_at t.whole i) (column d.others.items j)) (entry (row_at t.whole l) (column d.others.items j)) s sg
      (t.tableau.tableau.positive i (wide i li)) (t.tableau.tableau.positive l (wide l ll)) a.positive f.reduced.positive b.positive g.reduced.positive a.value b.value f.same g.same hi hl in
      let q = key-difference (s *ℤ entry (row_at t.whole i) (column d.others.items j)) (row_at t.whole l) (s *ℤ entry (row_at t.whole l) (column d.others.items j)) (row_at t.whole i) (column (key_columns y) k) in (
        λ z. subst (λ u. pos 0 <ℤ u) (sym q) (w.0 z),
        λ z. w.1 (subst (λ u. pos 0 <ℤ u) q z),
      )

  pub opposite : (x z : Row) (c : ℕ) → key (pivot_row s x (column d.others.items j) z) c ≡ neg_ℤ (key (pivot_row s z (column d.others.items j) x) c)
  opposite x z c =
      key-difference (s *ℤ entry x (column d.others.items j)) z (s *ℤ entry z (column d.others.items j)) x c
      ∙ turned (s *ℤ entry x (column d.others.items j)) (key z c) (s *ℤ entry z (column d.others.items j)) (key x c)
      ∙ ap neg_ℤ (sym (key-difference (s *ℤ entry z (column d.others.items j)) x (s *ℤ entry x (column d.others.items j)) z c))
    where
      turned : (p u q v : ℤ) → p *ℤ u -ℤ q *ℤ v ≡ neg_ℤ (q *ℤ v -ℤ p *ℤ u)
      turned p u q v = omega (arith, ints)

  -- neither is below the other
  pub tied : (i l k : ℕ) → i < length d.basis.items → l < length d.basis.items → k < y.slacks + 1
      → pos 0 <ℤ (s *ℤ entry (row_at t.whole i) (column d.others.items j)) → pos 0 <ℤ (s *ℤ entry (row_at t.whole l) (column d.others.items j))
      → ¬ (IsKeyBelow d i l j (column (key_columns y) k)) → ¬ (IsKeyBelow d l i j (column (key_columns y) k))
      → key (pivot_row s (row_at t.whole i) (column d.others.items j) (row_at t.whole l)) (column (key_columns y) k) ≡ pos 0
  tied i l k li ll lk hi hl n m =
      let o = opposite (row_at t.whole i) (row_at t.whole l) (column (key_columns y) k) in
      by_lt_z (pos 0) (key (pivot_row s (row_at t.whole i) (column d.others.items j) (row_at t.whole l)) (column (key_columns y) k))
      (λ p. absurd (n ((below_is i l k li ll lk hi hl).1 p)))
      (λ p. by_lt_z (key (pivot_row s (row_at t.whole i) (column d.others.items j) (row_at t.whole l)) (column (key_columns y) k)) (pos 0)
      (λ q. absurd (m ((below_is l i k ll li lk hl hi).1 (omega (arith, ints)))))
      (λ q. omega (arith, ints)))

-- the first column in which they differ decides
pub below_from : (y : Layout) (d : Dictionary) (i l j k : ℕ) → IsShaped y d → i < length d.basis.items → l < length d.basis.items → j < length d.others.items → k < y.slacks + 1
    → ((n : ℕ) → n < k → ¬ (IsKeyBelow d i l j (column (key_columns y) n))) → ((n : ℕ) → n < k → ¬ (IsKeyBelow d l i j (column (key_columns y) n)))
    → IsKeyBelow d i l j (column (key_columns y) k) → IsRowBelow y d i l j
below_from y d i l j k h li ll lj lk n m b = record {
  stays = λ S t s sg hi hl.
      lex_at (key_columns y) (key (pivot_row s (row_at t.whole i) (column d.others.items j) (row_at t.whole l))) k (rw (count_keys y) lk)
      (λ u lu. tied y d h j lj S t s sg i l u li ll (omega arith) hi hl (n u lu) (m u lu))
      ((below_is y d h j lj S t s sg i l k li ll lk hi hl).0 b);
}

pub place_in_row : (d : Dictionary) (i : ℕ) (x : List Ratio) → IsRectangular d → i < length d.basis.items → row_of (rows_of d) i ≡ x → length x ≡ length d.others.items
place_in_row d i x h li e = sym (ap length e) ∙ h.places.each i (rw length-map (let q = h.count in omega arith))

pub in_rows : (d : Dictionary) (i : ℕ) → IsRectangular d → i < length d.basis.items → i < length d.rows.items
in_rows d i h li = let q = h.count in omega arith

-- ---- one of the two rows is below the other
pub never_tied : (y : Layout) (d : Dictionary) (i l j : ℕ) → IsShaped y d → i < length d.basis.items → l < length d.basis.items → j < length d.others.items → ¬ (i ≡ l)
    → IsTrue (is_signed y (column d.basis.items i)) → IsTrue (is_signed y (column d.basis.items l))
    → ((n : ℕ) → n < y.slacks + 1 → ¬ (IsKeyBelow d i l j (column (key_columns y) n))) → ((n : ℕ) → n < y.slacks + 1 → ¬ (IsKeyBelow d l i j (column (key_columns y) n)))
    → (S : List Row) (t : IsDictionaryOf S d.basis.items d.others.items (rows_of d)) (s : ℤ) → IsSign s
    → pos 0 <ℤ (s *ℤ entry (row_at t.whole i) (column d.others.items j)) → pos 0 <ℤ (s *ℤ entry (row_at t.whole l) (column d.others.items j)) → ⊥
never_tied y d i l j h li ll lj ne si sl n m S t s sg hi hl = elim (signed_is y (column d.basis.items i) si) [
  | inl w ↦ (
      let k = slack_place y (column d.basis.items i) w.0 w.1 in
      let z = tied y d h j lj S t s sg i l k.0 li ll k.1 hi hl (n k.0 k.1) (m k.0 k.1) in
      own_first (subst (λ c. key (pivot_row s (row_at t.whole i) (column d.others.items j) (row_at t.whole l)) c ≡ pos 0) k.2 z))
  | inr a ↦ elim (signed_is y (column d.basis.items l) sl) [
    | inl w ↦ (
        let k = slack_place y (column d.basis.items l) w.0 w.1 in
        let z = tied y d h j lj S t s sg i l k.0 li ll k.1 hi hl (n k.0 k.1) (m k.0 k.1) in
        own_second (subst (λ c. key (pivot_row s (row_at t.whole i) (column d.others.items j) (row_at t.whole l)) c ≡ pos 0) k.2 z))
    | inr b ↦ two_own (a ∙ sym b)
  ]
]
  where
    wi : i < length t.whole
    wi = let a = t.tableau.tableau.as_many in omega arith

    wl : l < length t.whole
    wl = let a = t.tableau.tableau.as_many in omega arith

    key_later : (x : Row) (c : ℕ) → 0 < c → key x c ≡ entry x c
    key_later x zero h = absurd (omega arith)
    key_later x (suc c) h = refl

    gone : (p u q v : ℤ) → p *ℤ u -ℤ q *ℤ v ≡ pos 0 → u ≡ pos 0 → pos 0 <ℤ q → pos 0 <ℤ v → ⊥
    gone p u q v e z hq hv = let m = mul_pos hq hv in let f = simp (z, ring) at e in omega (arith, ints)

    gone_too : (p u q v : ℤ) → p *ℤ u -ℤ q *ℤ v ≡ pos 0 → v ≡ pos 0 → pos 0 <ℤ p → pos 0 <ℤ u → ⊥
    gone_too p u q v e z hp hu = let m = mul_pos hp hu in let f = simp (z, ring) at e in omega (arith, ints)

    own_first : key (pivot_row s (row_at t.whole i) (column d.others.items j) (row_at t.whole l)) (column d.basis.items i) ≡ pos 0 → ⊥
    own_first z =
        let c = column d.basis.items i in
        let hc = h.variables i li in
        gone (s *ℤ entry (row_at t.whole i) (column d.others.items j)) (key (row_at t.whole l) c) (s *ℤ entry (row_at t.whole l) (column d.others.items j)) (key (row_at t.whole i) c)
        (sym (key-difference (s *ℤ entry (row_at t.whole i) (column d.others.items j)) (row_at t.whole l) (s *ℤ entry (row_at t.whole l) (column d.others.items j)) (row_at t.whole i) c) ∙ z)
        (key_later (row_at t.whole l) c hc ∙ t.tableau.tableau.solved l i wl wi (λ q. ne (sym q))) hl
        (subst (λ u. pos 0 <ℤ u) (sym (key_later (row_at t.whole i) c hc)) (t.tableau.tableau.positive i wi))

    own_second : key (pivot_row s (row_at t.whole i) (column d.others.items j) (row_at t.whole l)) (column d.basis.items l) ≡ pos 0 → ⊥
    own_second z =
        let c = column d.basis.items l in
        let hc = h.variables l ll in
        gone_too (s *ℤ entry (row_at t.whole i) (column d.others.items j)) (key (row_at t.whole l) c) (s *ℤ entry (row_at t.whole l) (column d.others.items j)) (key (row_at t.whole i) c)
        (sym (key-difference (s *ℤ entry (row_at t.whole i) (column d.others.items j)) (row_at t.whole l) (s *ℤ entry (row_at t.whole l) (column d.others.items j)) (row_at t.whole i) c) ∙ z)
        (key_later (row_at t.whole i) c hc ∙ t.tableau.tableau.solved i l wi wl ne) hi
        (subst (λ u. pos 0 <ℤ u) (sym (key_later (row_at t.whole l) c hc)) (t.tableau.tableau.positive l wl))

    two_own : column d.basis.items i ≡ column d.basis.items l → ⊥
    two_own q =
        let a = t.tableau.tableau.positive i wi in
        let b = subst (λ c. entry (row_at t.whole i) c ≡ pos 0) (sym q) (t.tableau.tableau.solved i l wi wl ne) in
        omega (arith, ints)

-- what a test of two rows says
pub key_below_as : (d : Dictionary) (i l j c : ℕ) (a f b g : Ratio) → a ≡ key_of d i c → f ≡ at (rows_of d) i j → b ≡ key_of d l c → g ≡ at (rows_of d) l j → IsQuotientBelow a f b g → IsKeyBelow d i l j c
key_below_as d i l j c a f b g ea ef eb eg h = subst (λ u. IsQuotientBelow u (at (rows_of d) i j) (key_of d l c) (at (rows_of d) l j)) ea
    (subst (λ u. IsQuotientBelow a u (key_of d l c) (at (rows_of d) l j)) ef (subst (λ u. IsQuotientBelow a f u (at (rows_of d) l j)) eb (subst (λ u. IsQuotientBelow a f b u) eg h)))

pub key_below_to : (d : Dictionary) (i l j c : ℕ) (a f b g : Ratio) → a ≡ key_of d i c → f ≡ at (rows_of d) i j → b ≡ key_of d l c → g ≡ at (rows_of d) l j → IsKeyBelow d i l j c → IsQuotientBelow a f b g
key_below_to d i l j c a f b g ea ef eb eg h = subst (λ u. IsQuotientBelow u f b g) (sym ea)
    (subst (λ u. IsQuotientBelow (key_of d i c) u b g) (sym ef) (subst (λ u. IsQuotientBelow (key_of d i c) (at (rows_of d) i j) u g) (sym eb) (subst (λ u. IsQuotientBelow (key_of d i c) (at (rows_of d) i j) (key_of d l c) u) (sym eg) h)))
