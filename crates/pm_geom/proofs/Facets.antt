-- Any order will do; and facet rows, which are the extreme rows among the valid ones.
use Rattle.pm_vector.proofs.ConeLaws.{dot_in, in_cone_set, in_generator, in_line, in_line_opposite, in_of, in_through, lines_opposite}
use Rattle.pm_vector.proofs.Lists.{All_among, Among, all_append, among_All, among_append, among_append_left, among_append_right, here, there}
use Rattle.pm_vector.proofs.Ring.{neg_one_mul}
use Rattle.pm_vector.proofs.RowLaws.{dot-times, dot_comm, length-opposite, times-dot}
use Rattle.pm_vector.specs.Cones.{InCone}
use Rattle.pm_vector.specs.Rows.{HasCols, Row, dot, opposite}
use Rattle.pm_geom.proofs.Polar.{bipolar, cols_at, cut_at, cut_from, cut_is_generated}
use Rattle.pm_geom.proofs.Reduce.{alike_in, extreme_as, extremes_generate, same_modulo_as}
use Rattle.pm_geom.specs.Cones.{CutOut, InLineality, IsExtreme, IsOrder, IsValid, SameModulo, Vanishes}
use Rattle.pm_geom.specs.Laws.{FacetRowsCutOut, OrderGenerates}
use Rattle.std.proofs.Common.{arith, inl, inr, refl, subst, sym, ◌∙◌}
use Rattle.std.proofs.lemmas.Int.{ints}
use Rattle.std.specs.List.{Any}
use Rattle.std.specs.Prelude.{List, [], length, suc, zero, ℕ, ◌++◌, ◌↔◌, ◌∷◌, ◌≡◌}
use lib.IntN.{neg_ℤ, negsuc, pos}
use lib.Signed.{◌≤ℤ◌}

pub opposite-dot : (a x : Row) → dot (opposite a) x ≡ neg_ℤ (dot a x)
unfolding opposite
opposite-dot a x = times-dot (negsuc 0) a x ∙ neg_one_mul (dot a x)

pub dot-opposite : (a x : Row) → dot a (opposite x) ≡ neg_ℤ (dot a x)
unfolding opposite
dot-opposite a x = dot-times a (negsuc 0) x ∙ neg_one_mul (dot a x)

-- ---- an order of the same set under another name
pub order_as : (n : ℕ) (S S' : Row → Type 0) → ((x : Row) → length x ≡ n → S x → S' x) → ((x : Row) → length x ≡ n → S' x → S x) → {V : List Row} → IsOrder n S V → IsOrder n S' V
order_as n S S' to from o = record {
  each = λ k d l. extreme_as n S S' to from (o.each k d l);
  all = λ r e. let w = o.all r (extreme_as n S' S from to e) in (w.0, w.1, w.2, w.3, same_modulo_as n S S' to from w.4);
  once = λ i j d l m t. o.once i j d l m (same_modulo_as n S' S from to t);
}

-- ---- any order will do
Any_among_back : {X : Type 0} (P : X → Type 0) (xs : List X) → Any P xs → (x : X) × Among x xs × P x
Any_among_back P [] w = absurd (let l = w.2 in omega arith)
Any_among_back P (y ∷ xs) (zero, x, l, e, p) = (x, subst (λ z. Among x (z ∷ xs)) (sym e) here, p)
Any_among_back P (y ∷ xs) (suc k, x, l, e, p) = let r = Any_among_back P xs (k, x, omega arith, e, p) in (r.0, there r.1, r.2)

pub order_generates : OrderGenerates
order_generates n G L hg hl V K hk o line x l = (to, from)
  where
    to : InCone G L x → InCone V K x
    to h =
        let (V0, K0, hk0, o0, line0, gen0) = extremes_generate n G L hg hl in
        in_through V K V0 K0
        (λ v i. let w = Any_among_back (λ u. SameModulo n (InCone G L) v u) V (o.all v (among_All (λ u. IsExtreme n (InCone G L) u) i o0.each)) in
        alike_in n (InCone G L) (in_cone_set G L) K hk (λ y ly hy. (line y ly).0 hy) V v w.0 w.1 w.2)
        (λ k i. let s = (line k (cols_at i hk0)).0 ((line0 k (cols_at i hk0)).1 (in_line i)) in
        (in_of V [] K (λ g j. elim j [ ]) s, in_of V [] K (λ g j. elim j [ ]) (lines_opposite K k s)))
        ((gen0 x l).0 h)

    from : InCone V K x → InCone G L x
    from h = in_through G L V K
        (λ v i. (among_All (λ u. IsExtreme n (InCone G L) u) i o.each).inside)
        (λ k i. let s = (line k (cols_at i hk)).1 (in_line i) in (s.inside, s.opposed))
        h

-- ---- the valid rows
module _ (n : ℕ) (G L : List Row) (hg : HasCols n G) (hl : HasCols n L) where
  opposites : List Row → List Row
  opposites [] = []
  opposites (l ∷ X) = opposite l ∷ opposites X

  opposites_cols : (X : List Row) → HasCols n X → HasCols n (opposites X)
  unfolding opposites
  opposites_cols [] h = tt
  opposites_cols (l ∷ X) h = (length-opposite l ∙ h.0, opposites_cols X h.1)

  opposites_at : {l : Row} {X : List Row} → Among l X → Among (opposite l) (opposites X)
  unfolding opposites
  opposites_at here = here
  opposites_at (there i) = there (opposites_at i)

  opposites_back : (X : List Row) {l : Row} → Among l (opposites X) → (k : Row) × Among k X × (l ≡ opposite k)
  unfolding opposites
  opposites_back [] i = elim i [ ]
  opposites_back (k ∷ X) here = (k, here, refl)
  opposites_back (k ∷ X) (there i) = let r = opposites_back X i in (r.0, there r.1, r.2)

  -- the generators, and the lines both ways
  ways : List Row
  ways = G ++ (L ++ opposites L)

  ways_cols : HasCols n ways
  unfolding ways
  ways_cols = all_append (λ (x : Row). length x ≡ n) G (L ++ opposites L) hg (all_append (λ (x : Row). length x ≡ n) L (opposites L) hl (opposites_cols L hl))

  pub valid_by_products : (a : Row) → length a ≡ n → ((g : Row) → Among g G → pos 0 ≤ℤ dot a g) → ((l : Row) → Among l L → dot a l ≡ pos 0) → IsValid n G L a
  valid_by_products a la f e = record { cols = la; holds = λ x lx h. dot_in a G L f e h }

  valid_to_cut : (a : Row) → IsValid n G L a → CutOut ways a
  unfolding ways
  valid_to_cut a v = cut_from (G ++ (L ++ opposites L)) a (λ b i. rw dot_comm (each b i))
    where
      each : (b : Row) → Among b (G ++ (L ++ opposites L)) → pos 0 ≤ℤ dot a b
      each b i = elim (among_append G (L ++ opposites L) i) [
        | inl j ↦ v.holds b (cols_at j hg) (in_generator j)
        | inr j ↦ elim (among_append L (opposites L) j) [
          | inl k ↦ v.holds b (cols_at k hl) (in_line k)
          | inr k ↦ let r = opposites_back L k in rw r.2 (v.holds (opposite r.0) (length-opposite r.0 ∙ cols_at r.1 hl) (in_line_opposite r.1))
        ]
      ]

  valid_from_cut : (a : Row) → length a ≡ n → CutOut ways a → IsValid n G L a
  unfolding ways
  valid_from_cut a la c = valid_by_products a la
      (λ g i. rw dot_comm (cut_at a (among_append_left (L ++ opposites L) i) c))
      (λ l i.
      let p = cut_at a (among_append_right G (among_append_left (opposites L) i)) c in
      let q = rw opposite-dot at (cut_at a (among_append_right G (among_append_right L (opposites_at i))) c) in
      dot_comm a l ∙ omega (arith, ints))

  -- the valid rows are a generated cone
  unfoldable pub Duals : Type 0
  Duals = (D : List Row) × HasCols n D × ((a : Row) → length a ≡ n → InCone D [] a ↔ IsValid n G L a)

  pub duals : Duals
  unfolding Duals ways
  duals = let (D, hd, eq) = cut_is_generated n ways ways_cols in (D, hd, λ a la. (λ h. valid_from_cut a la ((eq a la).0 h), λ v. (eq a la).1 (valid_to_cut a v)))

  pub vanishes_line : (a : Row) → length a ≡ n → Vanishes n G L a ↔ InLineality (IsValid n G L) a
  vanishes_line a la = (
    λ v. record {
      inside = record { cols = la; holds = λ x lx h. let e = v.holds x lx h in omega (arith, ints) };
      opposed = record { cols = length-opposite a ∙ la; holds = λ x lx h. let e = v.holds x lx h in rw opposite-dot (omega (arith, ints)) };
    },
    λ l. record { cols = la; holds = λ x lx h. let p = l.inside.holds x lx h in let q = rw opposite-dot at (l.opposed.holds x lx h) in omega (arith, ints) },
  )

pub facet_rows_cut_out : FacetRowsCutOut
unfolding Duals
facet_rows_cut_out n G L hg hl =
    let (D, hd, eq) = duals n G L hg hl in
    let (F, E, he, o, line, gen) = extremes_generate n D [] hd tt in
    let to : (a : Row) → length a ≡ n → InCone D [] a → IsValid n G L a = λ a la. (eq a la).0 in
    let from : (a : Row) → length a ≡ n → IsValid n G L a → InCone D [] a = λ a la. (eq a la).1 in
    let of = order_as n (InCone D []) (IsValid n G L) to from o in
    let vanish : (a : Row) → length a ≡ n → Vanishes n G L a ↔ InCone [] E a = λ a la. (
      λ v. let s = (vanishes_line n G L hg hl a la).0 v in (line a la).0 (record { inside = from a la s.inside; opposed = from (opposite a) (length-opposite a ∙ la) s.opposed }),
      λ h. let s = (line a la).1 h in (vanishes_line n G L hg hl a la).1 (record { inside = to a la s.inside; opposed = to (opposite a) (length-opposite a ∙ la) s.opposed }),
    ) in
    let valid : (a : Row) → length a ≡ n → IsValid n G L a ↔ InCone F E a = λ a la. (λ v. (gen a la).0 (from a la v), λ h. to a la ((gen a la).1 h)) in (
      F,
      E,
      he,
      of,
      vanish,
      valid,
      λ x lx. (
        λ h. (cut_from F x (λ b i. (among_All (λ a. IsExtreme n (IsValid n G L) a) i of.each).inside.holds x lx h), All_among (λ e. dot e x ≡ pos 0) E (λ e i. ((vanish e (cols_at i he)).1 (in_line i)).holds x lx h)),
        λ c. bipolar n G L hg hl x lx (λ a v. rw dot_comm (dot_in x F E (λ b i. rw dot_comm (cut_at x i c.0)) (λ e i. dot_comm x e ∙ among_All (λ e. dot e x ≡ pos 0) i c.1) ((valid a v.cols).0 v))),
      ),
    )
