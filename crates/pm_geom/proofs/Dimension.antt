-- The dimension of the span of a cone: there is one, it is n less the number of rows of a basis of those that vanish, and it is 0 for {0} alone.
use Rattle.pm_vector.proofs.ConeLaws.{in_generator, in_line, in_line_opposite, in_zero, none_to_zero}
use Rattle.pm_vector.proofs.Lists.{Among, all_append, all_at, all_from, among_append, among_append_left, among_append_right, here, there}
use Rattle.pm_vector.proofs.RowLaws.{dot-nil, dot-same, dot_comm, length-opposite}
use Rattle.pm_vector.specs.Cones.{InCone, InSpan, IsIndependent}
use Rattle.pm_vector.specs.Rows.{HasCols, IsZero, Row, dot, entry, opposite}
use Rattle.pm_vector.proofs.Rank.{independent_are_few, rank_is_determined}
use Rattle.pm_vector.proofs.Spans.{at_place, same_span, same_span_refl, span_at, span_from, span_of, span_to}
use Rattle.pm_vector.specs.Bases.{IsRank, SameSpan, row_at}
use Rattle.pm_vector.proofs.DotLaws.{dot_span_zero}
use Rattle.pm_geom.proofs.Facets.{dot-opposite}
use Rattle.pm_geom.proofs.Independent.{decide_zero, in_units, independent_both, independent_more, self_zero, units, units_cols, units_independent, units_length}
use Rattle.pm_geom.proofs.Polar.{bipolar, cols_at, membership_decided}
use Rattle.pm_geom.proofs.Spans.{cone_in_span, vanishing_is_null}
use Rattle.pm_geom.specs.Cones.{IsValid}
use Rattle.pm_geom.specs.Laws.{NotZeroByRank, RankExists, RankIsLeft}
use Rattle.std.proofs.Common.{arith, inl, inr, refl, subst, ◌∙◌}
use Rattle.std.proofs.lemmas.Int.{ints}
use Rattle.std.proofs.lemmas.List.{length-append}
use Rattle.std.specs.Prelude.{List, [], length, suc, zero, ℕ, ◌++◌, ◌+◌, ◌↔◌, ◌∷◌, ◌≡◌, ◌≤◌, ◌⊎◌}
use lib.IntN.{pos}

-- ---- some rows are a basis
pub record SomeBasis (n : ℕ) (X : List Row) : Type 0 where
  pub rows : List Row
  pub cols : HasCols n rows
  pub independent : IsIndependent rows
  pub span : SameSpan rows X

module _ (n : ℕ) (x : Row) (X : List Row) (lx : length x ≡ n) (b : SomeBasis n X) where
  later : {r : Row} → InSpan X r → InSpan (x ∷ X) r
  later h = span_of (x ∷ X) X (λ r i. in_line (there i)) h

  basis_same : InSpan b.rows x → SomeBasis n (x ∷ X)
  basis_same h = record { rows = b.rows; cols = b.cols; independent = b.independent; span = same_span b.rows (x ∷ X) (λ r i. later (span_to b.span (in_line i))) each }
    where
      each : (r : Row) → Among r (x ∷ X) → InSpan b.rows r
      each r here = h
      each r (there i) = span_from b.span (in_line i)

  basis_more : ¬ (InSpan b.rows x) → SomeBasis n (x ∷ X)
  basis_more out = record { rows = x ∷ b.rows; cols = (lx, b.cols); independent = independent_more b.rows x b.independent out; span = same_span (x ∷ b.rows) (x ∷ X) to from }
    where
      to : (r : Row) → Among r (x ∷ b.rows) → InSpan (x ∷ X) r
      to r here = in_line here
      to r (there i) = later (span_to b.span (in_line i))

      from : (r : Row) → Among r (x ∷ X) → InSpan (x ∷ b.rows) r
      from r here = in_line here
      from r (there i) = span_of (x ∷ b.rows) b.rows (λ s j. in_line (there j)) (span_from b.span (in_line i))

pub some_basis : (n : ℕ) (X : List Row) → HasCols n X → SomeBasis n X
some_basis n [] h = record { rows = []; cols = tt; independent = λ c z i l. absurd (omega arith); span = same_span_refl [] }
some_basis n (x ∷ X) h =
    let b = some_basis n X h.1 in
    elim (membership_decided n [] b.rows tt b.cols x h.0) [ inl s ↦ basis_same n x X h.0 b s | inr out ↦ basis_more n x X h.0 b out ]

basis_rank : (n : ℕ) (X : List Row) (b : SomeBasis n X) → IsRank X (length b.rows)
basis_rank n X b = record { basis = b.rows; independent = b.independent; span = b.span; as_many = refl }

pub rank_exists : RankExists
rank_exists n X h = let b = some_basis n X h in (length b.rows, basis_rank n X b)

-- ---- the rows of a list and those with product 0 with each of them
module _ (n : ℕ) (B E : List Row) (hb : HasCols n B) (he : HasCols n E) (free : IsIndependent B) (free' : IsIndependent E) (null : (a : Row) → length a ≡ n → ((b : Row) → Among b B → dot a b ≡ pos 0) ↔ InSpan E a) where
  cols : HasCols n (B ++ E)
  cols = all_append (λ (x : Row). length x ≡ n) B E hb he

  apart : (b e : Row) → Among b B → Among e E → dot b e ≡ pos 0
  apart b e i j = dot_comm b e ∙ (null e (cols_at j he)).1 (in_line j) b i

  at_most : length (B ++ E) ≤ n
  at_most =
      let few = independent_are_few (B ++ E) (units n) (independent_both B E free free' apart) (λ i l. in_units n (row_at (B ++ E) i) (cols_at (at_place (B ++ E) i l) cols)) in
      let e = units_length n in
      omega arith

  -- a row with product 0 with all of them is 0
  null_zero : (a : Row) → length a ≡ n → ((r : Row) → Among r (B ++ E) → dot a r ≡ pos 0) → IsZero a
  null_zero a la z = self_zero a (dot_span_zero a E a (λ e j. z e (among_append_right B j)) ((null a la).0 (λ b i. z b (among_append_left E i))))

  valid_null : (a : Row) → IsValid n [] (B ++ E) a → (r : Row) → Among r (B ++ E) → dot a r ≡ pos 0
  valid_null a v r i =
      let p = v.holds r (cols_at i cols) (in_line i) in
      let q = rw dot-opposite at (v.holds (opposite r) (length-opposite r ∙ cols_at i cols) (in_line_opposite i)) in
      omega (arith, ints)

  all_spanned : (x : Row) → length x ≡ n → InSpan (B ++ E) x
  all_spanned x lx = bipolar n [] (B ++ E) tt cols x lx (λ a v.
      let z = dot_comm a x ∙ dot-same x a [] (null_zero a v.cols (valid_null a v)) ∙ dot-nil x in
      omega (arith, ints))

  at_least : n ≤ length (B ++ E)
  at_least =
      let few = independent_are_few (units n) (B ++ E) (units_independent n) (λ i l. all_spanned (row_at (units n) i) (cols_at (at_place (units n) i l) (units_cols n))) in
      let e = units_length n in
      omega arith

  pub null_count : length E + length B ≡ n
  null_count = let p = at_most in let q = at_least in let s = length-append B E in omega arith

pub rank_is_left : RankIsLeft
rank_is_left n G L hg hl E he free vanish d = (to, from)
  where
    b : SomeBasis n (G ++ L)
    b = some_basis n (G ++ L) (all_append (λ (x : Row). length x ≡ n) G L hg hl)

    null : (a : Row) → length a ≡ n → ((r : Row) → Among r b.rows → dot a r ≡ pos 0) ↔ InSpan E a
    null a la =
        let v = vanishing_is_null n G L hg hl b.rows b.span a la in (
          λ z. (vanish a la).0 (v.1 (all_from (λ (r : Row). dot r a ≡ pos 0) b.rows (λ r i. dot_comm r a ∙ z r i))),
          λ h r i. dot_comm a r ∙ all_at (λ (r : Row). dot r a ≡ pos 0) i (v.0 ((vanish a la).1 h)),
        )

    count : length E + length b.rows ≡ n
    count = null_count n b.rows E b.cols he b.independent free null

    to : IsRank (G ++ L) d → length E + d ≡ n
    to r = let e = rank_is_determined (G ++ L) d (length b.rows) r (basis_rank n (G ++ L) b) in let c = count in omega arith

    from : length E + d ≡ n → IsRank (G ++ L) d
    from e = let c = count in let same : length b.rows ≡ d = omega arith in subst (λ k. IsRank (G ++ L) k) same (basis_rank n (G ++ L) b)

-- ---- {0}
decide_zero_row : (x : Row) → IsZero x ⊎ ¬ (IsZero x)
decide_zero_row [] = inl (λ i. refl)
decide_zero_row (a ∷ x) = elim (decide_zero a) [
  | inr ne ↦ inr (λ z. ne (z 0))
  | inl e ↦ elim (decide_zero_row x) [ inr ne ↦ inr (λ z. ne (λ i. z (suc i))) | inl f ↦ inl (both e f) ]
]
  where
    both : a ≡ pos 0 → IsZero x → (i : ℕ) → entry (a ∷ x) i ≡ pos 0
    both e f zero = e
    both e f (suc i) = f i

all_zero_or_some : (X : List Row) → ((r : Row) → Among r X → IsZero r) ⊎ ((r : Row) × Among r X × ¬ (IsZero r))
all_zero_or_some [] = inl (λ r i. elim i [ ])
all_zero_or_some (x ∷ X) = elim (decide_zero_row x) [
  | inr ne ↦ inr (x, here, ne)
  | inl z ↦ elim (all_zero_or_some X) [ inr w ↦ inr (w.0, there w.1, w.2) | inl f ↦ inl (both z f) ]
]
  where
    both : IsZero x → ((r : Row) → Among r X → IsZero r) → (r : Row) → Among r (x ∷ X) → IsZero r
    both z f r here = z
    both z f r (there i) = f r i

zero_rank : (X : List Row) (d : ℕ) → IsRank X d → ((r : Row) → Among r X → IsZero r) → d ≡ 0
zero_rank X d k f =
    let few = independent_are_few k.basis [] k.independent (λ i l. span_of [] X (λ r j. in_zero (f r j)) (span_to k.span (span_at i l))) in
    let e = k.as_many in
    omega arith

rank_zero : (X : List Row) → IsRank X 0 → (x : Row) → InSpan X x → IsZero x
rank_zero X k x h = none_to_zero x (no_rows k.basis k.as_many (span_from k.span h))
  where
    no_rows : (B : List Row) → length B ≡ 0 → InSpan B x → InSpan [] x
    no_rows [] e s = s
    no_rows (b ∷ B) e s = absurd (omega arith)

pub not_zero_by_rank : NotZeroByRank
not_zero_by_rank n G L hg hl d k = (to, from)
  where
    to : ((x : Row) × (length x ≡ n) × InCone G L x × ¬ (IsZero x)) → ¬ (d ≡ 0)
    to w e = w.3 (rank_zero (G ++ L) (subst (λ m. IsRank (G ++ L) m) e k) w.0 (cone_in_span G L w.2))

    from : ¬ (d ≡ 0) → (x : Row) × (length x ≡ n) × InCone G L x × ¬ (IsZero x)
    from ne = elim (all_zero_or_some (G ++ L)) [
      | inl f ↦ absurd (ne (zero_rank (G ++ L) d k f))
      | inr w ↦ (w.0, cols_at w.1 (all_append (λ (x : Row). length x ≡ n) G L hg hl), elim (among_append G L w.1) [ inl j ↦ in_generator j | inr j ↦ in_line j ], w.2)
    ]
