-- The faces of rank 1 and 2.
use Rattle.pm_vector.proofs.ConeLaws.{in_line, in_of, line_to_after, lines_opposite}
use Rattle.pm_vector.proofs.Lists.{Among, among_append, among_append_left, among_append_right, here, there}
use Rattle.pm_vector.proofs.Ring.{ring}
use Rattle.pm_vector.proofs.RowLaws.{entry-difference, entry-opposite, length-difference, length-opposite}
use Rattle.pm_vector.proofs.Signs.{mul_pos}
use Rattle.pm_vector.specs.Cones.{InCone, InSpan}
use Rattle.pm_vector.specs.Rows.{HasCols, Row, difference, dot, entry, opposite}
use Rattle.pm_vector.proofs.Spans.{at_place, same_span, same_span_trans, span_from, span_of, span_to}
use Rattle.pm_vector.specs.Bases.{IsRank, SameSpan}
use Rattle.pm_geom.proofs.Independent.{independent_more}
use Rattle.pm_geom.specs.Cones.{InLineality, IsExtreme, IsOrder}
use Rattle.pm_geom.specs.Faces.{HasRank, IsFace, IsStrictlyIn, ray}
use Rattle.pm_ranks.proofs.Alike.{like_one, line_of, on_line_alike}
use Rattle.pm_ranks.proofs.Chosen.{chosen_from, chosen_to}
use Rattle.pm_ranks.proofs.Edges.{two_steps}
use Rattle.pm_ranks.proofs.Ranks.{few_by_rank, rank_from, rank_to}
use Rattle.pm_ranks.proofs.Rays.{alone, distinct, extreme_in}
use Rattle.pm_ranks.specs.Chosen.{chosen}
use Rattle.std.proofs.Common.{arith, inl, inr, refl, subst, sym, ◌∙◌}
use Rattle.std.proofs.lemmas.Bool.{cases_eq}
use Rattle.std.proofs.lemmas.Int.{ints}
use Rattle.std.specs.Prelude.{Bool, IsTrue, List, [], length, suc, ℕ, ◌++◌, ◌+◌, ◌<◌, ◌↔◌, ◌∷◌, ◌≡◌, ◌≤◌, ◌⊎◌}
use lib.IntN.{pos, ℤ, ◌*ℤ◌, ◌+ℤ◌, ◌-ℤ◌}
use lib.Signed.{◌<ℤ◌}

pub rank_more : (X : List Row) (e : ℕ) (v : Row) → IsRank X e → ¬ (InSpan X v) → IsRank (v ∷ X) (suc e)
rank_more X e v r out = record { basis = v ∷ r.basis; independent = independent_more r.basis v r.independent (λ h. out (span_to r.span h)); span = same_span (v ∷ r.basis) (v ∷ X) to from; as_many = let q = r.as_many in omega arith }
  where
    later : (Y : List Row) {x : Row} → InSpan Y x → InSpan (v ∷ Y) x
    later Y h = span_of (v ∷ Y) Y (λ s j. in_line (there j)) h

    to : (x : Row) → Among x (v ∷ r.basis) → InSpan (v ∷ X) x
    to x here = in_line here
    to x (there i) = later X (span_to r.span (in_line i))

    from : (x : Row) → Among x (v ∷ X) → InSpan (v ∷ r.basis) x
    from x here = in_line here
    from x (there i) = later r.basis (span_from r.span (in_line i))

pub rank_same : (X Y : List Row) (e : ℕ) → SameSpan X Y → IsRank X e → IsRank Y e
rank_same X Y e s r = record { basis = r.basis; independent = r.independent; span = same_span_trans r.span s; as_many = r.as_many }

-- a row of the span of t and X, taken apart
record OnSpan (n : ℕ) (t : Row) (X : List Row) (v : Row) : Type 0 where
  p : ℤ
  k : ℤ
  w : Row
  cols : length w ≡ n
  positive : pos 0 <ℤ p
  inside : InSpan X w
  same : (i : ℕ) → p *ℤ entry v i ≡ k *ℤ entry t i +ℤ entry w i

on_span : (n : ℕ) (t : Row) (X : List Row) (v : Row) → length t ≡ n → length v ≡ n → InSpan (t ∷ X) v → OnSpan n t X v
on_span n t X v lt lv h = let a = line_to_after [] X t v h in let b = a.rest in record {
  p = b.p *ℤ a.p;
  k = b.q -ℤ b.p *ℤ a.q;
  w = difference b.p (difference a.p v a.q (opposite t)) b.q t;
  cols = length-difference n b.p (difference a.p v a.q (opposite t)) b.q t (length-difference n a.p v a.q (opposite t) lv (length-opposite t ∙ lt)) lt;
  positive = mul_pos b.positive a.positive;
  inside = b.rest;
  same = λ i. simp (entry-difference, entry-opposite, ring) (omega (arith, ints));
}

module _ (n : ℕ) (V K : List Row) (hv : HasCols n V) (hk : HasCols n K) (o : IsOrder n (InCone V K) V) (l : ℕ) (rl : IsRank K l) where
  at : (i : ℕ) → i < length V → IsExtreme n (InCone V K) (ray V i)
  at i li = extreme_in n V K hv hk o (ray V i) (at_place V i li)

  span_in : {x : Row} → InSpan K x → InCone V K x
  span_in h = in_of V [] K (λ g j. elim j [ ]) h

  -- rays of different places are independent, modulo the lineality
  one_out : (i : ℕ) → i < length V → ¬ (InSpan K (ray V i))
  one_out i li h = (at i li).not_line (span_in (lines_opposite K (ray V i) h))

  pub two_out : (i j : ℕ) → i < length V → j < length V → ¬ (i ≡ j) → ¬ (InSpan (ray V j ∷ K) (ray V i))
  two_out i j li lj ne h =
      let line : InLineality (InCone V (ray V j ∷ K)) (ray V i) = record { inside = in_of V [] (ray V j ∷ K) (λ g q. elim q [ ]) h; opposed = in_of V [] (ray V j ∷ K) (λ g q. elim q [ ]) (lines_opposite (ray V j ∷ K) (ray V i) h) } in
      let t = on_line_alike n V K (ray V j) (at j lj) (ray V i) (at i li).not_line (line_of n V K (ray V j) (at j lj) (ray V i) (at i li).cols line) in
      ne (sym (distinct n V K hv hk o j i lj li t))

  three_out : (i j x : ℕ) → i < length V → j < length V → x < length V → ¬ (x ≡ i) → ¬ (x ≡ j) → ¬ (InSpan (ray V i ∷ ray V j ∷ K) (ray V x))
  three_out i j x li lj lx ni nj h =
      let s = on_span n (ray V i) (ray V j ∷ K) (ray V x) (at i li).cols (at x lx).cols h in
      let u = on_span n (ray V j) K s.w (at j lj).cols s.cols s.inside in
      elim (like_one n V K (u.p *ℤ s.p) (u.p *ℤ s.k) u.k (ray V x) (ray V i) (ray V j) u.w (mul_pos u.positive s.positive) (at x lx) (at i li) (at j lj) u.cols (record { inside = span_in u.inside; opposed = span_in (lines_opposite K u.w u.inside) })
      (λ e. two_steps s.p u.p s.k u.k (entry (ray V x) e) (entry (ray V i) e) (entry s.w e) (entry (ray V j) e) (entry u.w e) (s.same e) (u.same e))) [
        | inl t ↦ ni (distinct n V K hv hk o x i lx li t)
        | inr t ↦ nj (distinct n V K hv hk o x j lx lj t)
      ]

  one_rank : (i : ℕ) → i < length V → IsRank (ray V i ∷ K) (suc l)
  one_rank i li = rank_more K l (ray V i) rl (one_out i li)

  two_rank : (i j : ℕ) → i < length V → j < length V → ¬ (i ≡ j) → IsRank (ray V i ∷ ray V j ∷ K) (suc (suc l))
  two_rank i j li lj ne = rank_more (ray V j ∷ K) (suc l) (ray V i) (one_rank j lj) (two_out i j li lj ne)

  three_rank : (i j x : ℕ) → i < length V → j < length V → x < length V → ¬ (i ≡ j) → ¬ (x ≡ i) → ¬ (x ≡ j) → IsRank (ray V x ∷ ray V i ∷ ray V j ∷ K) (suc (suc (suc l)))
  three_rank i j x li lj lx ne ni nj = rank_more (ray V i ∷ ray V j ∷ K) (suc (suc l)) (ray V x) (two_rank i j li lj ne) (three_out i j x li lj lx ni nj)

  -- rows of the span of a face have no greater rank
  rank_in : (f : ℕ → Bool) (X : List Row) (d e : ℕ) → IsRank X d → IsRank (chosen f V ++ K) e → ((x : Row) → Among x X → InSpan (chosen f V ++ K) x) → d ≤ e
  rank_in f X d e r s g = let q = r.as_many in let p = few_by_rank (chosen f V ++ K) e s r.basis r.independent (λ b i. span_of (chosen f V ++ K) X g (span_to r.span (in_line i))) in omega arith

  module _ (f : ℕ → Bool) where
    ray_in : (i : ℕ) → i < length V → IsTrue (f i) → InSpan (chosen f V ++ K) (ray V i)
    ray_in i li t = in_line (among_append_left K (chosen_from f V i li t))

    line_in : {x : Row} → Among x K → InSpan (chosen f V ++ K) x
    line_in i = in_line (among_append_right (chosen f V) i)

    one_in : (i : ℕ) → i < length V → IsTrue (f i) → (x : Row) → Among x (ray V i ∷ K) → InSpan (chosen f V ++ K) x
    one_in i li t x here = ray_in i li t
    one_in i li t x (there k) = line_in k

    two_in : (i j : ℕ) → i < length V → IsTrue (f i) → j < length V → IsTrue (f j) → (x : Row) → Among x (ray V i ∷ ray V j ∷ K) → InSpan (chosen f V ++ K) x
    two_in i j li ti lj tj x here = ray_in i li ti
    two_in i j li ti lj tj x (there k) = one_in j lj tj x k

    three_in : (i j y : ℕ) → i < length V → IsTrue (f i) → j < length V → IsTrue (f j) → y < length V → IsTrue (f y) → (x : Row) → Among x (ray V y ∷ ray V i ∷ ray V j ∷ K) → InSpan (chosen f V ++ K) x
    three_in i j y li ti lj tj ly ty x here = ray_in y ly ty
    three_in i j y li ti lj tj ly ty x (there k) = two_in i j li ti lj tj x k

    -- ---- rank 1
    pub first_to : HasRank n V K V f 1 → (i : ℕ) × (i < length V) × ((x : ℕ) → x < length V → IsTrue (f x) ↔ (x ≡ i))
    first_to r =
        let s = r.chain.2 in
        let d = rank_to n V K hv hk (extreme_in n V K hv hk o) l rl f 1 r in (
          s.j,
          s.below,
          λ x lx. (
            λ t. elim (cases_eq x s.j) [
              | inl e ↦ e
              | inr ne ↦ let p = rank_in f (ray V x ∷ ray V s.j ∷ K) (suc (suc l)) (1 + l) (two_rank x s.j lx s.below ne) d (two_in x s.j lx t s.below s.has) in absurd (omega arith)
            ],
            λ e. subst (λ z. IsTrue (f z)) (sym e) s.has,
          ),
        )

    single_face : (i : ℕ) → i < length V → ((x : ℕ) → x < length V → IsTrue (f x) ↔ (x ≡ i)) → IsFace n V K V f
    single_face i li e =
        let b = alone n V K hv hk o i li in
        record {
          a = b.a;
          valid = b.valid;
          places = λ x lx. (
            λ t. subst (λ z. dot b.a (ray V z) ≡ pos 0) (sym ((e x lx).0 t)) b.zero_at,
            λ z. elim (b.others (ray V x) (at_place V x lx)) [ inl t ↦ (e x lx).1 (sym (distinct n V K hv hk o i x li lx t)) | inr up ↦ absurd (omega (arith, ints)) ],
          );
        }

    pub first_from : (i : ℕ) → i < length V → ((x : ℕ) → x < length V → IsTrue (f x) ↔ (x ≡ i)) → HasRank n V K V f 1
    first_from i li e = rank_from n V K hv hk (extreme_in n V K hv hk o) l rl f 1 (single_face i li e) (subst (λ z. IsRank (chosen f V ++ K) z) (omega arith) (rank_same (ray V i ∷ K) (chosen f V ++ K) (suc l) (same_span (ray V i ∷ K) (chosen f V ++ K) (one_in i li ((e i li).1 refl)) back) (one_rank i li)))
      where
        back : (x : Row) → Among x (chosen f V ++ K) → InSpan (ray V i ∷ K) x
        back x q = elim (among_append (chosen f V) K q) [
          | inl k ↦ let w = chosen_to f V k in subst (λ u. InSpan (ray V i ∷ K) u) (subst (λ z. ray V z ≡ x) ((e w.0 w.1).0 w.2) w.3) (in_line here)
          | inr k ↦ in_line (there k)
        ]

    -- ---- rank 2
    pub second_to : HasRank n V K V f 2 → (i : ℕ) × (j : ℕ) × (i < length V) × (j < length V) × ¬ (i ≡ j) × ((x : ℕ) → x < length V → IsTrue (f x) ↔ ((x ≡ i) ⊎ (x ≡ j)))
    second_to r = (t.j, s.j, t.below, s.below, apart, λ x lx. (to x lx, from x))
      where
        g : ℕ → Bool
        g = r.chain.0

        s : IsStrictlyIn (length V) g f
        s = r.chain.2

        t : IsStrictlyIn (length V) r.chain.3.0 g
        t = r.chain.3.2

        apart : ¬ (t.j ≡ s.j)
        apart e = s.lacks (subst (λ z. IsTrue (g z)) e t.has)

        to : (x : ℕ) → x < length V → IsTrue (f x) → (x ≡ t.j) ⊎ (x ≡ s.j)
        to x lx h = elim (cases_eq x t.j) [
          | inl e ↦ inl e
          | inr ni ↦ elim (cases_eq x s.j) [
            | inl e ↦ inr e
            | inr nj ↦
                let d = rank_to n V K hv hk (extreme_in n V K hv hk o) l rl f 2 r in
                let p = rank_in f (ray V x ∷ ray V t.j ∷ ray V s.j ∷ K) (suc (suc (suc l))) (2 + l) (three_rank t.j s.j x t.below s.below lx apart ni nj) d (three_in t.j s.j x t.below (s.included t.j t.below t.has) s.below s.has lx h) in
                absurd (omega arith)
          ]
        ]

        from : (x : ℕ) → (x ≡ t.j) ⊎ (x ≡ s.j) → IsTrue (f x)
        from x (inl e) = subst (λ z. IsTrue (f z)) (sym e) (s.included t.j t.below t.has)
        from x (inr e) = subst (λ z. IsTrue (f z)) (sym e) s.has

    pub second_from : IsFace n V K V f → (i j : ℕ) → i < length V → j < length V → ¬ (i ≡ j) → ((x : ℕ) → x < length V → IsTrue (f x) ↔ ((x ≡ i) ⊎ (x ≡ j))) → HasRank n V K V f 2
    second_from face i j li lj ne e = rank_from n V K hv hk (extreme_in n V K hv hk o) l rl f 2 face (subst (λ z. IsRank (chosen f V ++ K) z) (omega arith) (rank_same (ray V i ∷ ray V j ∷ K) (chosen f V ++ K) (suc (suc l)) (same_span (ray V i ∷ ray V j ∷ K) (chosen f V ++ K) (two_in i j li ((e i li).1 (inl refl)) lj ((e j lj).1 (inr refl))) back) (two_rank i j li lj ne)))
      where
        at_ray : (x : Row) (y : ℕ) → ray V y ≡ x → (y ≡ i) ⊎ (y ≡ j) → InSpan (ray V i ∷ ray V j ∷ K) x
        at_ray x y q (inl h) = subst (λ u. InSpan (ray V i ∷ ray V j ∷ K) u) (subst (λ z. ray V z ≡ x) h q) (in_line here)
        at_ray x y q (inr h) = subst (λ u. InSpan (ray V i ∷ ray V j ∷ K) u) (subst (λ z. ray V z ≡ x) h q) (in_line (there here))

        back : (x : Row) → Among x (chosen f V ++ K) → InSpan (ray V i ∷ ray V j ∷ K) x
        back x q = elim (among_append (chosen f V) K q) [
          | inl k ↦ let w = chosen_to f V k in at_ray x w.0 w.3 ((e w.0 w.1).0 w.2)
          | inr k ↦ in_line (there (there k))
        ]
