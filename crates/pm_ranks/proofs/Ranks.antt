-- The rank of a face is the dimension of its span less that of the lineality.
use Rattle.pm_vector.proofs.ConeLaws.{in_line, in_line_opposite}
use Rattle.pm_vector.proofs.Lists.{Among, all_append, all_from, among_All, among_append, among_append_left, among_append_right, here, there}
use Rattle.pm_vector.specs.Cones.{InCone, InSpan, IsIndependent}
use Rattle.pm_vector.specs.Rows.{HasCols, Row, dot}
use Rattle.pm_vector.proofs.Rank.{independent_are_few, rank_is_determined}
use Rattle.pm_vector.proofs.Spans.{at_place, span_from, span_of, span_to}
use Rattle.pm_vector.specs.Bases.{IsRank, row_at}
use Rattle.pm_vector.proofs.DotLaws.{dot_span_zero}
use Rattle.pm_geom.proofs.Dimension.{rank_exists}
use Rattle.pm_geom.proofs.Facets.{order_as, order_generates}
use Rattle.pm_geom.proofs.Independent.{independent_more}
use Rattle.pm_geom.proofs.Polar.{cols_at}
use Rattle.pm_geom.proofs.Spans.{order_cols}
use Rattle.pm_geom.specs.Cones.{IsExtreme}
use Rattle.pm_geom.specs.Faces.{HasChain, HasRank, IsFace, IsStrictlyIn, ray}
use Rattle.pm_ranks.proofs.Below.{down}
use Rattle.pm_ranks.proofs.Chosen.{chosen_from, chosen_some, chosen_to}
use Rattle.pm_ranks.proofs.Sharp.{valid_line}
use Rattle.pm_ranks.specs.Chosen.{chosen}
use Rattle.pm_ranks.specs.Laws.{RanksAreDimensions}
use Rattle.std.proofs.Common.{arith, inl, inr, refl, subst, sym}
use Rattle.std.proofs.lemmas.Bool.{cases_lt}
use Rattle.std.specs.Prelude.{Bool, List, [], length, suc, zero, ℕ, ◌++◌, ◌+◌, ◌-◌, ◌<◌, ◌∷◌, ◌≡◌, ◌≤◌, ◌⊎◌}
use lib.IntN.{pos}

some_or_none : (X : List Row) → ((x : Row) × Among x X) ⊎ (X ≡ [])
some_or_none [] = inr refl
some_or_none (x ∷ X) = inl (x, here)

shorter : (n : ℕ) (G L V : List Row) (k : ℕ) (f : ℕ → Bool) → HasChain n G L V (suc k) f → HasChain n G L V k f
shorter n G L V zero f c = tt
shorter n G L V (suc k) f c = (c.0, c.1, c.2, shorter n G L V k c.0 c.3)

pub shorten : (n : ℕ) (G L V : List Row) (d k m : ℕ) (f : ℕ → Bool) → m ≡ d + k → HasChain n G L V m f → HasChain n G L V k f
shorten n G L V zero k m f e c = let same : m ≡ k = omega arith in subst (λ z. HasChain n G L V z f) same c
shorten n G L V (suc d) k m f e c =
    let next : m ≡ suc (d + k) = omega arith in
    shorten n G L V d k (d + k) f refl (shorter n G L V (d + k) f (subst (λ z. HasChain n G L V z f) next c))

-- independent rows of the span of a list are no more than its rank
pub few_by_rank : (X : List Row) (e : ℕ) → IsRank X e → (B : List Row) → IsIndependent B → ((b : Row) → Among b B → InSpan X b) → length B ≤ e
few_by_rank X e r B free f =
    let h = independent_are_few B r.basis free (λ i l. span_from r.span (f (row_at B i) (at_place B i l))) in
    let q = r.as_many in
    omega arith

module _ (n : ℕ) (V K : List Row) (hv : HasCols n V) (hk : HasCols n K) (ex : (v : Row) → Among v V → IsExtreme n (InCone V K) v) (l : ℕ) (rl : IsRank K l) where
  pub dimension : (f : ℕ → Bool) → (e : ℕ) × IsRank (chosen f V ++ K) e
  dimension f = rank_exists n (chosen f V ++ K) (all_append (λ (x : Row). length x ≡ n) (chosen f V) K (all_from (λ (x : Row). length x ≡ n) (chosen f V) (λ v i. cols_at (chosen_some f V i) hv)) hk)

  lines_in : (f : ℕ → Bool) {x : Row} → InSpan K x → InSpan (chosen f V ++ K) x
  lines_in f h = span_of (chosen f V ++ K) K (λ r i. in_line (among_append_right (chosen f V) i)) h

  pub at_least_lines : (f : ℕ → Bool) (e : ℕ) → IsRank (chosen f V ++ K) e → l ≤ e
  at_least_lines f e r =
      let q = rl.as_many in
      let p = few_by_rank (chosen f V ++ K) e r rl.basis rl.independent (λ b i. lines_in f (span_to rl.span (in_line i))) in
      omega arith

  -- a face strictly in another spans less
  module _ (f g : ℕ → Bool) (face : IsFace n V K V g) (s : IsStrictlyIn (length V) g f) where
    out : ¬ (InSpan (chosen g V ++ K) (ray V s.j))
    out h = s.lacks ((face.places s.j s.below).1 (dot_span_zero face.a (chosen g V ++ K) (ray V s.j) each h))
      where
        each : (r : Row) → Among r (chosen g V ++ K) → dot face.a r ≡ pos 0
        each r i = elim (among_append (chosen g V) K i) [
          | inl j ↦ let w = chosen_to g V j in subst (λ u. dot face.a u ≡ pos 0) w.3 ((face.places w.0 w.1).0 w.2)
          | inr j ↦ valid_line n V K face.a face.valid r (cols_at j hk) (record { inside = in_line j; opposed = in_line_opposite j })
        ]

    wider : {y : Row} → InSpan (chosen g V ++ K) y → InSpan (chosen f V ++ K) y
    wider h = span_of (chosen f V ++ K) (chosen g V ++ K) each h
      where
        each : (r : Row) → Among r (chosen g V ++ K) → InSpan (chosen f V ++ K) r
        each r i = elim (among_append (chosen g V) K i) [
          | inl j ↦ let w = chosen_to g V j in subst (λ u. InSpan (chosen f V ++ K) u) w.3 (in_line (among_append_left K (chosen_from f V w.0 w.1 (s.included w.0 w.1 w.2))))
          | inr j ↦ in_line (among_append_right (chosen f V) j)
        ]

    pub spans_less : (e e' : ℕ) → IsRank (chosen f V ++ K) e → IsRank (chosen g V ++ K) e' → e' < e
    spans_less e e' r r' =
        let p = few_by_rank (chosen f V ++ K) e r (ray V s.j ∷ r'.basis) (independent_more r'.basis (ray V s.j) r'.independent (λ h. out (span_to r'.span h))) each in
        let q = r'.as_many in
        omega arith
      where
        each : (b : Row) → Among b (ray V s.j ∷ r'.basis) → InSpan (chosen f V ++ K) b
        each b here = in_line (among_append_left K (chosen_from f V s.j s.below s.has))
        each b (there i) = wider (span_to r'.span (in_line i))

  pub chain_bound : (k : ℕ) (f : ℕ → Bool) (e : ℕ) → HasChain n V K V k f → IsRank (chosen f V ++ K) e → k + l ≤ e
  chain_bound zero f e c r = let p = at_least_lines f e r in omega arith
  chain_bound (suc k) f e c r =
      let d = dimension c.0 in
      let p = chain_bound k c.0 d.0 c.3 d.1 in
      let q = spans_less f c.0 c.1 c.2 e d.0 r d.1 in
      omega arith

  pub chain_from : (k : ℕ) (f : ℕ → Bool) → IsFace n V K V f → IsRank (chosen f V ++ K) (k + l) → HasChain n V K V k f
  chain_from zero f face r = tt
  chain_from (suc k) f face r = elim (some_or_none (chosen f V)) [
    | inr e ↦ let p = rank_is_determined K (suc k + l) l (subst (λ X. IsRank (X ++ K) (suc k + l)) e r) rl in absurd (omega arith)
    | inl w ↦
        let b = down n V K hv hk ex f face w.0 w.1 (suc k + l) r in
        let e : b.rank ≡ k + l = (let q = b.less in omega arith) in
        (b.g, b.lower, b.strict, chain_from k b.g b.lower (subst (λ d. IsRank (chosen b.g V ++ K) d) e b.spans))
  ]

  pub rank_to : (f : ℕ → Bool) (k : ℕ) → HasRank n V K V f k → IsRank (chosen f V ++ K) (k + l)
  rank_to f k r =
      let d = dimension f in
      let p = chain_bound k f d.0 r.chain d.1 in
      elim (cases_lt (k + l) d.0) [
        | inl less ↦
            let more : (d.0 - l) + l ≡ d.0 = omega arith in
            let c = chain_from (d.0 - l) f r.face (subst (λ z. IsRank (chosen f V ++ K) z) (sym more) d.1) in
            absurd (r.greatest (shorten n V K V (d.0 - l - suc k) (suc k) (d.0 - l) f (omega arith) c))
        | inr not_less ↦ let same : d.0 ≡ k + l = omega arith in subst (λ z. IsRank (chosen f V ++ K) z) same d.1
      ]

  pub rank_from : (f : ℕ → Bool) (k : ℕ) → IsFace n V K V f → IsRank (chosen f V ++ K) (k + l) → HasRank n V K V f k
  rank_from f k face r = record { face = face; chain = chain_from k f face r; greatest = λ c. let p = chain_bound (suc k) f (k + l) c r in absurd (omega arith) }

-- ---- any generators
module _ (n : ℕ) (G L V K : List Row) (to : (x : Row) → length x ≡ n → InCone G L x → InCone V K x) (from : (x : Row) → length x ≡ n → InCone V K x → InCone G L x) where
  pub face_as : {f : ℕ → Bool} → IsFace n V K V f → IsFace n G L V f
  face_as w = record { a = w.a; valid = record { cols = w.valid.cols; holds = λ x lx h. w.valid.holds x lx (to x lx h) }; places = w.places }

  pub face_back : {f : ℕ → Bool} → IsFace n G L V f → IsFace n V K V f
  face_back w = record { a = w.a; valid = record { cols = w.valid.cols; holds = λ x lx h. w.valid.holds x lx (from x lx h) }; places = w.places }

  chain_as : (k : ℕ) (f : ℕ → Bool) → HasChain n V K V k f → HasChain n G L V k f
  chain_as zero f c = tt
  chain_as (suc k) f c = (c.0, face_as c.1, c.2, chain_as k c.0 c.3)

  chain_back : (k : ℕ) (f : ℕ → Bool) → HasChain n G L V k f → HasChain n V K V k f
  chain_back zero f c = tt
  chain_back (suc k) f c = (c.0, face_back c.1, c.2, chain_back k c.0 c.3)

  pub rank_as : (k : ℕ) (f : ℕ → Bool) → HasRank n V K V f k → HasRank n G L V f k
  rank_as k f r = record { face = face_as r.face; chain = chain_as k f r.chain; greatest = λ c. r.greatest (chain_back (suc k) f c) }

  pub rank_back : (k : ℕ) (f : ℕ → Bool) → HasRank n G L V f k → HasRank n V K V f k
  rank_back k f r = record { face = face_back r.face; chain = chain_back k f r.chain; greatest = λ c. r.greatest (chain_as (suc k) f c) }

pub ranks_are_dimensions : RanksAreDimensions
ranks_are_dimensions n G L hg hl V K hk o line l rl f face k = (λ r. rank_to n V K hv hk ex l rl f k (rank_back n G L V K to from k f r), λ r. rank_as n G L V K to from k f (rank_from n V K hv hk ex l rl f k (face_back n G L V K to from face) r))
  where
    to : (x : Row) → length x ≡ n → InCone G L x → InCone V K x
    to x lx = (order_generates n G L hg hl V K hk o line x lx).0

    from : (x : Row) → length x ≡ n → InCone V K x → InCone G L x
    from x lx = (order_generates n G L hg hl V K hk o line x lx).1

    hv : HasCols n V
    hv = order_cols n (InCone G L) V o

    ex : (v : Row) → Among v V → IsExtreme n (InCone V K) v
    ex v i = among_All (λ u. IsExtreme n (InCone V K) u) i (order_as n (InCone G L) (InCone V K) to from o).each
