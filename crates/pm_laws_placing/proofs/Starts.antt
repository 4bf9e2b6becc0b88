-- The first cell: the rays among the rows that enlarge the span.
use Rattle.pm_vector.proofs.ConeLaws.{in_line, in_same}
use Rattle.pm_vector.proofs.Lists.{All_among, Among, Any_among, among_append_left, here, there}
use Rattle.pm_vector.proofs.Ring.{ring}
use Rattle.pm_vector.proofs.RowLaws.{entry-difference, entry-plus, entry-times}
use Rattle.pm_vector.specs.Cones.{InCone, InSpan, combination}
use Rattle.pm_vector.specs.Rows.{Row, entry}
use Rattle.pm_vector.proofs.Spans.{span_difference, span_divide, span_of}
use Rattle.pm_laws_placing.proofs.CellSteps.{Carried}
use Rattle.pm_laws_placing.proofs.CellMasks.{At, among_holds, among_rows_at, at_among, at_has, at_here, at_of, at_there, has_at, length_rows_at, mask}
use Rattle.pm_laws_placing.proofs.LeastSums.{combination-over, entry-over, length-over}
use Rattle.pm_laws_placing.proofs.PlacingStep.{past}
use Rattle.pm_laws_placing.specs.LeastSums.{IsLeast, IsLeastCell, IsLexNegative, Within, at, has, over}
use Rattle.pm_geom.specs.Triangulations.{IsIndependentModulo, rows_at}
use Rattle.pm_geom.proofs.Independent.{decide_zero}
use Rattle.pm_geom.specs.Faces.{ray}
use Rattle.std.specs.Prelude.{ℕ, zero, suc, ◌<◌, ◌≤◌, ◌≡◌, Bool, false, List, [], ◌∷◌, ◌++◌, length}
use Rattle.std.specs.List.{AllByRecursion}
use Rattle.std.proofs.Common.{arith, ap, refl, sym, ◌∙◌, inl, inr}
use Rattle.std.proofs.lemmas.Bool.{cases_lt}
use Rattle.std.proofs.lemmas.Int.{ints}
use lib.IntN.{ℤ, pos}
use lib.Signed.{◌≤ℤ◌}

-- ---- rows of which none is in the span of the lines and those before it
unfoldable pub Free : List Row → List Row → Type 0
Free L [] = Unit {0}
Free L (x ∷ X) = ¬ (InSpan L x) × Free (x ∷ L) X

nothing : (c : List ℤ) (X : List Row) → ((j : ℕ) → j < length X → entry c j ≡ pos 0) → (e : ℕ) → entry (combination c X) e ≡ pos 0
nothing [] X z e = refl
nothing (b ∷ c) [] z e = refl
nothing (b ∷ c) (y ∷ X) z e = let z0 = z 0 (omega arith) in let r = nothing c X (λ j l. z (suc j) (omega arith)) e in simp (entry-plus, entry-times, z0, r, ring)

module _ (L : List Row) (x : Row) (X : List Row) (out : ¬ (InSpan L x)) (free : IsIndependentModulo (x ∷ L) X) (k : ℤ) (c : List ℤ) (h : InSpan L (combination (k ∷ c) (x ∷ X))) where
  -- the sum of the later rows is in the span of x and the lines
  later : InSpan (x ∷ L) (combination c X)
  later = in_same (record { at = λ e. simp (entry-difference, entry-plus, entry-times, ring) (omega (arith, ints)) })
      (span_difference (pos 1) k (span_of (x ∷ L) L (λ r j. in_line (there j)) h) (in_line here))

  zero_first : k ≡ pos 0
  zero_first = elim (decide_zero k) [ inl z ↦ z | inr nz ↦ absurd (out (span_divide nz (in_same (record { at = λ e. let n = nothing c X (free c later) e in simp (entry-plus, entry-times, n) (omega (arith, ints)) }) h))) ]

  all_zero : (j : ℕ) → j < length (x ∷ X) → entry (k ∷ c) j ≡ pos 0
  all_zero zero m = zero_first
  all_zero (suc j) m = free c later j (omega arith)

pub free_independent : (L X : List Row) → Free L X → IsIndependentModulo L X
unfolding Free
free_independent L [] f c h i l = absurd (omega arith)
free_independent L (x ∷ X) f [] h i l = refl
free_independent L (x ∷ X) f (k ∷ c) h i l = all_zero L x X f.0 (free_independent (x ∷ L) X f.1) k c h i l

-- ---- the one cell of independent rows
ones : List ℕ → List ℤ
ones [] = []
ones (p ∷ P) = pos 1 ∷ ones P

length-ones : (G : List Row) (P : List ℕ) → length (ones P) ≡ length (rows_at G P)
unfolding ones
length-ones G [] = refl
length-ones G (p ∷ P) = ap suc (length-ones G P)

nonneg-ones : (P : List ℕ) → AllByRecursion (λ k. pos 0 ≤ℤ k) (ones P)
unfolding ones
nonneg-ones [] = tt
nonneg-ones (p ∷ P) = (omega (arith, ints), nonneg-ones P)

at-ones : {p : ℕ} {q : ℕ} {P : List ℕ} → At p q P → at (ones P) q ≡ pos 1
unfolding ones
at-ones at_here = refl
at-ones (at_there a) = at-ones a

lex_zero : (d : List ℤ) → ((j : ℕ) → at d j ≡ pos 0) → ¬ (IsLexNegative d)
lex_zero [] z h = h
lex_zero (a ∷ d) z (inl h) = let e = z 0 in omega (arith, ints)
lex_zero (a ∷ d) z (inr h) = lex_zero d (λ j. z (suc j)) h.1

module _ (G L : List Row) (P : List ℕ) (free : IsIndependentModulo L (rows_at G P)) where
  ones_least : IsLeast (rows_at G P) L (ones P)
  ones_least = record {
    as_many = length-ones G P;
    not_negative = nonneg-ones P;
    least = λ m c hm lc nc flat neg. lex_zero (over c m (ones P)) (zero_at m c lc flat) neg;
  }
    where
      zero_at : (m : ℤ) (c : List ℤ) → length c ≡ length (rows_at G P) → InCone [] L (over (combination c (rows_at G P)) m (combination (ones P) (rows_at G P))) → (j : ℕ) → at (over c m (ones P)) j ≡ pos 0
      zero_at m c lc flat j = elim (cases_lt j (length (rows_at G P))) [
        | inl l ↦ free (over c m (ones P)) (in_same (record { at = λ i. entry-over (combination c (rows_at G P)) m (combination (ones P) (rows_at G P)) i ∙ sym (combination-over c m (ones P) (rows_at G P) i) }) flat) j l
        | inr l ↦ past (over c m (ones P)) j (let e = length-over (length (rows_at G P)) c m (ones P) lc (length-ones G P) in omega arith)
      ]

  -- the mask of all places
  set_at : (q : ℕ) → has (mask P P) q ≡ false → length P ≤ q
  set_at q h = elim (cases_lt q (length P)) [
    | inr l ↦ l
    | inl l ↦ absurd (let w = at_of P q l in let e = at_has P w.1 ∙ among_holds P w.0 (at_among w.1) in cc)
  ]

  pub carried_first : Carried G L P (P ∷ [])
  carried_first = record {
    least = record {
      cells = All_among (λ m. IsLeastCell (rows_at G P) L m) (mask P P ∷ []) each;
      all = λ c lc. Any_among (λ m. Within m c) (here {xs = []}) (λ j h. past c j (let l = set_at j h in let e = lc.as_many in let g = length_rows_at G P in omega arith));
    };
    inside = inside;
    spans = spans;
  }
    where
      each : (m : List Bool) → Among m (mask P P ∷ []) → IsLeastCell (rows_at G P) L m
      each m here = record { c = ones P; is_least = ones_least; positive = λ j h. let w = has_at P P j h in let e = at-ones w.1 in omega (arith, ints) }
      each m (there i) = elim i [ ]

      inside : (s : List ℕ) → Among s (P ∷ []) → (j : ℕ) → Among j s → Among j P
      inside s here j i = i
      inside s (there k) j i = elim k [ ]

      spans : (s : List ℕ) → Among s (P ∷ []) → (p : ℕ) → Among p P → InSpan (rows_at G s ++ L) (ray G p)
      spans s here p i = in_line (among_append_left L (among_rows_at G P p i))
      spans s (there k) p i = elim k [ ]
