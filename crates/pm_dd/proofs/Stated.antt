-- The stated order of a list begins with as many independent rows as its rank says.
use Rattle.std.specs.Prelude.{ℕ, suc, ◌+◌, ◌≡◌, ◌<◌, ◌⊎◌, ◌↔◌, Bool, true, false, cond, IsTrue, List, [], ◌∷◌, ◌++◌, length, take, drop}
use Rattle.std.specs.Bool.{beq}
use Rattle.std.proofs.Common.{arith, refl, sym, subst, ap, ◌∙◌, inl, inr}
use Rattle.std.proofs.lemmas.Bool.{cases_lt}
use Rattle.std.proofs.lemmas.Int.{ints}
use Rattle.std.proofs.lemmas.List.{append_assoc, get_or-drop, get_or-take, get_or_default, length-append}
use Rattle.pm_vector.specs.Rows.{Row, entry, HasCols}
use Rattle.pm_vector.specs.Cones.{InSpan, IsIndependent, combination}
use Rattle.pm_vector.proofs.Ring.{ring}
use Rattle.pm_vector.proofs.Lists.{Among, here, there, all_append, all_from, among_append, among_append_left, among_append_right, among_Contains}
use Rattle.pm_vector.proofs.RowLaws.{entry-plus, entry-times}
use Rattle.pm_vector.proofs.ConeLaws.{combination_none, in_line}
use Rattle.pm_vector.specs.Bases.{IsRank, SameSpan, row_at}
use Rattle.pm_vector.proofs.Rank.{rank_is_determined}
use Rattle.pm_vector.proofs.Spans.{same_span, same_span_refl, same_span_sym, same_span_trans, span_of}
use Rattle.pm_bits.specs.Sets.{has}
use Rattle.pm_vector.specs.Enlarging.{MarkEnlarging}
use Rattle.pm_geom.specs.Cones.{CutOut, SameModulo}
use Rattle.pm_geom.specs.Faces.{ray}
use Rattle.pm_geom.proofs.Independent.{combination_append, independent_more}
use Rattle.pm_geom.proofs.Polar.{cols_at, membership_decided}
use Rattle.pm_geom.specs.StatedOrder.{rows_marked}
use Rattle.pm_dd.specs.Stated.{AdjacentInAll, StatedOrderSpans, StepFailShows}
use Rattle.pm_dd.proofs.Thin.{over_alike}
use lib.IntN.{ℤ, pos, ◌*ℤ◌}

-- ---- one more row at the end
single : (d : List ℤ) (x : Row) (e : ℕ) → entry (combination d (x ∷ [])) e ≡ entry d 0 *ℤ entry x e
single [] x e = simp ring
single (k ∷ d) x e = let n = combination_none d e in simp (entry-plus, entry-times, n) (omega (arith, ints))

pub independent_last : (B : List Row) (x : Row) → IsIndependent B → ¬ (InSpan B x) → IsIndependent (B ++ x ∷ [])
independent_last B x free out c z i l = elim (cases_lt i (length B)) [
  | inl less ↦ sym (get_or-take (length B) c i (pos 0) less) ∙ more (suc i) (omega arith)
  | inr at ↦ let g = length-append B (x ∷ []) in let e : i ≡ length B = omega arith in ap (λ (k : ℕ). entry c k) e ∙ more 0 (omega arith)
]
  where
    whole : (e : ℕ) → entry (combination (entry c (length B) ∷ take (length B) c) (x ∷ B)) e ≡ pos 0
    whole e =
        let a = combination_append B (x ∷ []) c e in
        let b = single (drop (length B) c) x e in
        let h : entry (drop (length B) c) 0 ≡ entry c (length B) = get_or-drop (length B) c 0 (pos 0) ∙ (let q : length B + 0 ≡ length B = omega arith in ap (λ (k : ℕ). entry c k) q) in
        let w = z e in
        let b' : entry (combination (drop (length B) c) (x ∷ [])) e ≡ entry c (length B) *ℤ entry x e = b ∙ ap (λ (k : ℤ). k *ℤ entry x e) h in
        simp (entry-plus, entry-times) (omega (arith, ints))

    more : (j : ℕ) → j < suc (length B) → entry (entry c (length B) ∷ take (length B) c) j ≡ pos 0
    more j m = independent_more B x free out (entry c (length B) ∷ take (length B) c) whole j m

-- ---- the enlarging rows, after a prefix P with a basis B
record Enlarged (B P : List Row) (marks : List Bool) (X : List Row) : Type 0 where
  free : IsIndependent (B ++ rows_marked true marks X)
  span : SameSpan (B ++ rows_marked true marks X) (P ++ X)

end_in : (X : List Row) (x : Row) → InSpan (X ++ x ∷ []) x
end_in X x = in_line (among_append_right X here)

one_more : (B P : List Row) (x : Row) → SameSpan B P → SameSpan (B ++ x ∷ []) (P ++ x ∷ [])
one_more B P x s = same_span (B ++ x ∷ []) (P ++ x ∷ []) (λ r i. go B P s r (among_append B (x ∷ []) i)) (λ r i. go P B (same_span_sym s) r (among_append P (x ∷ []) i))
  where
    last : (P : List Row) (r : Row) → Among r (x ∷ []) → InSpan (P ++ x ∷ []) r
    last P r here = end_in P x
    last P r (there j) = elim j [ ]

    go : (B P : List Row) → SameSpan B P → (r : Row) → Among r B ⊎ Among r (x ∷ []) → InSpan (P ++ x ∷ []) r
    go B P s r (inl i) = span_of (P ++ x ∷ []) P (λ g j. in_line (among_append_left (x ∷ []) j)) ((s.same r).0 (in_line i))
    go B P s r (inr i) = last P r i

absorbed : (B P : List Row) (x : Row) → SameSpan B P → InSpan P x → SameSpan B (P ++ x ∷ [])
absorbed B P x s h = same_span_trans s (same_span P (P ++ x ∷ []) (λ r i. in_line (among_append_left (x ∷ []) i)) (λ r i. elim (among_append P (x ∷ []) i) [ inl j ↦ in_line j | inr j ↦ last r j ]))
  where
    last : (r : Row) → Among r (x ∷ []) → InSpan P r
    last r here = h
    last r (there j) = elim j [ ]

longer : (n : ℕ) (P : List Row) (x : Row) → HasCols n P → length x ≡ n → HasCols n (P ++ x ∷ [])
longer n P x hP hx = all_append (λ (z : Row). length z ≡ n) P (x ∷ []) hP (hx, tt)

outside : (B P : List Row) (x : Row) → SameSpan B P → ¬ (InSpan (P ++ []) x) → ¬ (InSpan B x)
outside B P x s out h = out (span_of (P ++ []) P (λ g j. in_line (among_append_left [] j)) ((s.same x).0 h))

inside : (n : ℕ) (P : List Row) (x : Row) → HasCols n P → length x ≡ n → (¬ (InSpan (P ++ []) x) → ⊥) → InSpan P x
inside n P x hP hx f = elim (membership_decided n [] P tt hP x hx) [
  | inl h ↦ h
  | inr out ↦ absurd (f (λ h. out (span_of P (P ++ []) (λ g j. elim (among_append P [] j) [ inl k ↦ in_line k | inr k ↦ elim k [ ] ]) h)))
]

later : (P : List Row) (x : Row) (marks : List Bool) (X : List Row) → ((i : ℕ) → i < length X → IsTrue (has marks i) ↔ ¬ (InSpan (P ++ x ∷ take i X) (row_at X i))) → (i : ℕ) → i < length X → IsTrue (has marks i) ↔ ¬ (InSpan ((P ++ x ∷ []) ++ take i X) (row_at X i))
later P x marks X f i l = subst (λ (Z : List Row). IsTrue (has marks i) ↔ ¬ (InSpan Z (row_at X i))) (sym (append_assoc P (x ∷ []) (take i X))) (f i l)

took : (B P : List Row) (marks : List Bool) (x : Row) (X : List Row) → Enlarged (B ++ x ∷ []) (P ++ x ∷ []) marks X → Enlarged B P (true ∷ marks) (x ∷ X)
took B P marks x X r = record {
  free = subst (λ (Z : List Row). IsIndependent Z) (append_assoc B (x ∷ []) (rows_marked true marks X)) r.free;
  span = subst (λ (Z : List Row). SameSpan (B ++ x ∷ rows_marked true marks X) Z) (append_assoc P (x ∷ []) X) (subst (λ (Z : List Row). SameSpan Z ((P ++ x ∷ []) ++ X)) (append_assoc B (x ∷ []) (rows_marked true marks X)) r.span);
}

left : (B P : List Row) (marks : List Bool) (x : Row) (X : List Row) → Enlarged B (P ++ x ∷ []) marks X → Enlarged B P (false ∷ marks) (x ∷ X)
left B P marks x X r = record { free = r.free; span = subst (λ (Z : List Row). SameSpan (B ++ rows_marked true marks X) Z) (append_assoc P (x ∷ []) X) r.span }

enlarged : (n : ℕ) (B P : List Row) (marks : List Bool) (X : List Row) → HasCols n P → HasCols n X → IsIndependent B → SameSpan B P → length marks ≡ length X → ((i : ℕ) → i < length X → IsTrue (has marks i) ↔ ¬ (InSpan (P ++ take i X) (row_at X i))) → Enlarged B P marks X
enlarged n B P [] [] hP hX free s e f = record { free = subst (λ (Z : List Row). IsIndependent Z) (sym (append-nil B)) free; span = subst (λ (Z : List Row). SameSpan (B ++ []) Z) (sym (append-nil P)) (subst (λ (Z : List Row). SameSpan Z P) (sym (append-nil B)) s) }
  where
    append-nil : (Z : List Row) → Z ++ [] ≡ Z
    append-nil [] = refl
    append-nil (z ∷ Z) = ap (λ (W : List Row). z ∷ W) (append-nil Z)
enlarged n B P [] (x ∷ X) hP hX free s e f = absurd (omega arith)
enlarged n B P (m ∷ marks) [] hP hX free s e f = absurd (omega arith)
enlarged n B P (true ∷ marks) (x ∷ X) hP hX free s e f = took B P marks x X (enlarged n (B ++ x ∷ []) (P ++ x ∷ []) marks X (longer n P x hP hX.0) hX.1 (independent_last B x free (outside B P x s ((f 0 (omega arith)).0 refl))) (one_more B P x s) (omega arith) (later P x marks X (λ i l. f (suc i) (omega arith))))
enlarged n B P (false ∷ marks) (x ∷ X) hP hX free s e f = left B P marks x X (enlarged n B (P ++ x ∷ []) marks X (longer n P x hP hX.0) hX.1 free (absorbed B P x s (inside n P x hP hX.0 (λ h. let t = (f 0 (omega arith)).1 h in cc))) (omega arith) (later P x marks X (λ i l. f (suc i) (omega arith))))

among_cond : (q : Bool) (x : Row) (T X : List Row) → ((z : Row) → Among z T → Among z X) → (r : Row) → Among r (cond q (x ∷ T) T) → Among r (x ∷ X)
among_cond true x T X f r here = here
among_cond true x T X f r (there j) = there (f r j)
among_cond false x T X f r j = there (f r j)

pub among_rows : (b : Bool) (marks : List Bool) (X : List Row) {r : Row} → Among r (rows_marked b marks X) → Among r X
among_rows b [] X i = elim i [ ]
among_rows b (m ∷ marks) [] i = elim i [ ]
among_rows b (m ∷ marks) (x ∷ X) {r} i = among_cond (beq b m) x (rows_marked b marks X) X (λ z j. among_rows b marks X j) r i

module _ (n : ℕ) (X : List Row) (hX : HasCols n X) (marks : List Bool) (m : MarkEnlarging X marks) where
  enlarging : Enlarged [] [] marks X
  enlarging = enlarged n [] [] marks X tt hX (λ c z i l. absurd (omega arith)) (same_span_refl []) m.as_many m.exact

  pub marked_free : IsIndependent (rows_marked true marks X)
  marked_free = enlarging.free

  pub marked_span : SameSpan (rows_marked true marks X) X
  marked_span = enlarging.span

  pub marked_rank : IsRank X (length (rows_marked true marks X))
  marked_rank = record { basis = rows_marked true marks X; independent = enlarging.free; span = enlarging.span; as_many = refl }

pub stated_order_spans : StatedOrderSpans
stated_order_spans n X Y hX s d r = (cols, span, record { basis = r.basis; independent = r.independent; span = same_span_trans r.span (same_span_sym span); as_many = r.as_many }, independent)
  where
    among_all : (x : Row) → Among x Y → Among x X
    among_all x i = elim (among_append (rows_marked true s.marks X) (rows_marked false s.marks X) (subst (λ (Z : List Row). Among x Z) s.ordered i)) [ inl j ↦ among_rows true s.marks X j | inr j ↦ among_rows false s.marks X j ]

    cols : HasCols n Y
    cols = all_from (λ (x : Row). length x ≡ n) Y (λ x i. cols_at (among_all x i) hX)

    span : SameSpan Y X
    span = same_span Y X (λ x i. in_line (among_all x i)) (λ x i. span_of Y (rows_marked true s.marks X) (λ g j. in_line (subst (λ (Z : List Row). Among g Z) (sym s.ordered) (among_append_left (rows_marked false s.marks X) j))) (((marked_span n X hX s.marks s.enlarging).same x).1 (in_line i)))

    count : length (rows_marked true s.marks X) ≡ d
    count = rank_is_determined X (length (rows_marked true s.marks X)) d (marked_rank n X hX s.marks s.enlarging) r

    front : (A B : List Row) → take (length A) (A ++ B) ≡ A
    front [] B = refl
    front (a ∷ A) B = ap (λ (Z : List Row). a ∷ Z) (front A B)

    independent : IsIndependent (take d Y)
    independent = subst (λ (Z : List Row). IsIndependent (take d Z)) (sym s.ordered) (subst (λ (k : ℕ). IsIndependent (take k (rows_marked true s.marks X ++ rows_marked false s.marks X))) count (subst (λ (Z : List Row). IsIndependent Z) (sym (front (rows_marked true s.marks X) (rows_marked false s.marks X))) (marked_free n X hX s.marks s.enlarging)))

-- ---- adjacency among all extreme rays
pub adjacent_in_all : AdjacentInAll
adjacent_in_all n A V o i j li lj adj = record {
  third = λ t e f.
      let w = o.all t e in
      let k = w.0 in
      let same : ray V w.0 ≡ w.1 = sym (get_or_default V w.0 w.1 [] w.2) ∙ w.3 in
      let m = subst (λ (v : Row). SameModulo n (CutOut A) t v) (sym same) w.4 in
      elim (adj.third w.0 w.2 (λ b c zi zj. over_alike n A m b (among_Contains A c) (f b c zi zj))) [
        | inl q ↦ inl (subst (λ (p : ℕ). SameModulo n (CutOut A) t (ray V p)) q m)
        | inr q ↦ inr (subst (λ (p : ℕ). SameModulo n (CutOut A) t (ray V p)) q m)
      ];
}

pub step_fail_shows : StepFailShows
step_fail_shows n X Y f s more V o canonical = (
  λ k l wide. record { ordered = Y; stated = s; more = more; first = canonical k l; second = canonical k l; wide = inl wide },
  λ i j c w. record {
    ordered = Y;
    stated = s;
    more = more;
    first = canonical i w.source.0;
    second = canonical j w.source.1;
    wide = record { up = w.source.2; down = w.source.3; adjacent = adjacent_in_all n (take f Y) V o i j w.source.0 w.source.1 w.source.4; combination = w.combination };
  },
)
