-- The rows that the marks of full zero sets take: those on which every inequality vanishes.
use Rattle.std.specs.Prelude.{ℕ, suc, ◌^◌, ◌≡◌, ◌<◌, ◌≤◌, ◌&&◌, Bool, true, false, IsTrue, List, [], ◌∷◌, ◌++◌, filter, get_or, length, unsigned_abs}
use Rattle.std.proofs.Common.{ap, arith, eqb, inl, refl, subst, sym, ◌∙◌}
use Rattle.std.proofs.lemmas.Bool.{eq-eqb, eqb-true}
use Rattle.std.proofs.lemmas.Int.{ints}
use Rattle.std.proofs.lemmas.List.{length-append}
use Rattle.pm_vector.specs.Rows.{HasCols, Row, dot}
use Rattle.pm_vector.proofs.Lists.{Among, all_append, here, there}
use Rattle.pm_vector.specs.Bases.{row_at}
use Rattle.pm_dd.proofs.Marks.{marked_lengths}
use Rattle.pm_dd.proofs.StepLaws.{at_place, place_of}
use Rattle.pm_vector.specs.EliminationSteps.{EliminationStep}
use Rattle.pm_vector.specs.Evidence.{IsEvidence}
use Rattle.pm_geom.specs.StatedOrder.{rows_marked}
use Rattle.pm_incidence.specs.Thinning.{AreZeroSets, IsWideReduction, MarkFull, flat_group, is_flat}
use lib.IntN.{ℤ, pos}

pub flat_from : (A : List Row) (g : Row) → ((a : Row) → Among a A → dot a g ≡ pos 0) → is_flat A g ≡ true
flat_from [] g f = refl
flat_from (a ∷ A) g f = rw (eq-eqb (unsigned_abs (dot a g)) 0 (ap unsigned_abs (f a here)), flat_from A g (λ b i. f b (there i))) refl

zero_of : (k : ℤ) → eqb (unsigned_abs k) 0 ≡ true → k ≡ pos 0
zero_of k e = let h = eqb-true (unsigned_abs k) 0 e in omega (arith, ints)

and_first : (a b : Bool) → (a && b) ≡ true → a ≡ true
and_first true b e = refl
and_first false b e = e

and_second : (a b : Bool) → (a && b) ≡ true → b ≡ true
and_second true b e = e
and_second false b e = absurd (let f : false ≡ true = e in cc)

pub flat_to : (A : List Row) (g : Row) → is_flat A g ≡ true → (a : Row) → Among a A → dot a g ≡ pos 0
flat_to [] g e a i = elim i [ ]
flat_to (a ∷ A) g e b here = zero_of (dot b g) (and_first (eqb (unsigned_abs (dot b g)) 0) (is_flat A g) e)
flat_to (a ∷ A) g e b (there i) = flat_to A g (and_second (eqb (unsigned_abs (dot a g)) 0) (is_flat A g) e) b i

same_truth : (a b : Bool) → (IsTrue a → IsTrue b) → (IsTrue b → IsTrue a) → a ≡ b
same_truth true true f g = refl
same_truth false false f g = refl
same_truth true false f g = sym (f refl)
same_truth false true f g = g refl

marked_is_filter : (p : Row → Bool) (marks : List Bool) (G : List Row) → length marks ≡ length G → ((k : ℕ) → k < length G → get_or marks k false ≡ p (row_at G k)) → rows_marked true marks G ≡ filter p G
marked_is_filter p [] [] e f = refl
marked_is_filter p [] (x ∷ G) e f = absurd (omega arith)
marked_is_filter p (m ∷ marks) [] e f = absurd (omega arith)
marked_is_filter p (true ∷ marks) (x ∷ G) e f = let h : true ≡ p x = f 0 (omega arith) in rw (sym h, marked_is_filter p marks G (omega arith) (λ k l. f (suc k) (omega arith))) refl
marked_is_filter p (false ∷ marks) (x ∷ G) e f = let h : false ≡ p x = f 0 (omega arith) in rw (sym h, marked_is_filter p marks G (omega arith) (λ k l. f (suc k) (omega arith))) refl

marked_cols : (n : ℕ) (marks : List Bool) (G : List Row) → HasCols n G → HasCols n (rows_marked true marks G)
marked_cols n [] G h = tt
marked_cols n (m ∷ marks) [] h = tt
marked_cols n (true ∷ marks) (x ∷ G) h = (h.0, marked_cols n marks G h.1)
marked_cols n (false ∷ marks) (x ∷ G) h = marked_cols n marks G h.1

module _ (G A : List Row) (Z : List (List Bool)) (marks : List Bool) (z : AreZeroSets A G Z) (m : MarkFull Z marks) where
  marked_to_flat : (k : ℕ) → k < length G → IsTrue (get_or marks k false) → IsTrue (is_flat A (row_at G k))
  marked_to_flat k l t = flat_from A (row_at G k) (λ a i.
      let w = place_of i in
      let many = (z.each k l).as_many in
      let within = w.1 in
      let all = m.full k (let e = z.as_many in omega arith) t in
      subst (λ (b : Row). dot b (row_at G k) ≡ pos 0) w.2 (((z.each k l).exact w.0).0 (all w.0 (omega arith))).1)

  flat_to_marked : (k : ℕ) → k < length G → IsTrue (is_flat A (row_at G k)) → IsTrue (get_or marks k false)
  flat_to_marked k l t = m.not_full k (let e = z.as_many in omega arith) (λ p q.
      let many = (z.each k l).as_many in
      let within : p < length A = omega arith in
      ((z.each k l).exact p).1 (within, flat_to A (row_at G k) t (row_at A p) (at_place A p within)))

  pub marked_is_flat : rows_marked true marks G ≡ filter (is_flat A) G
  marked_is_flat = marked_is_filter (is_flat A) marks G (m.as_many ∙ z.as_many) (λ k l. same_truth (get_or marks k false) (is_flat A (row_at G k)) (marked_to_flat k l) (flat_to_marked k l))

  pub group_is : (L X : List Row) → X ≡ L ++ rows_marked true marks G → X ≡ flat_group G L A
  group_is L X e = e ∙ ap (λ (Y : List Row). L ++ Y) marked_is_flat

  pub group_cols : (n : ℕ) (L X : List Row) → HasCols n G → HasCols n L → X ≡ L ++ rows_marked true marks G → HasCols n X
  group_cols n L X hG hL e = rw e (all_append (λ (x : Row). length x ≡ n) L (rows_marked true marks G) hL (marked_cols n marks G hG))

  pub group_few : (L X : List Row) → length G ≤ 2 ^ 30 → length L < 2 ^ 30 → X ≡ L ++ rows_marked true marks G → length X < 2 ^ 32
  group_few L X fG fL e =
      let many = marked_lengths marks G (m.as_many ∙ z.as_many) in
      rw (e, length-append L (rows_marked true marks G)) (omega arith)

  pub wide_group : (n : ℕ) (L X : List Row) (e : EliminationStep) → X ≡ L ++ rows_marked true marks G → IsEvidence n X e → IsWideReduction n G L A e
  wide_group n L X e q s = record { rows = X; listed = inl (group_is L X q); shown = s }
