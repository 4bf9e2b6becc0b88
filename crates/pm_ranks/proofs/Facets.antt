-- Facets, ridges and ranks of any cone.
use Rattle.pm_vector.proofs.ConeLaws.{in_line, in_line_opposite}
use Rattle.pm_vector.proofs.Lists.{among_All}
use Rattle.pm_vector.proofs.RowLaws.{dot-zeros, length-zeros, zeros}
use Rattle.pm_vector.specs.Cones.{InCone, InSpan}
use Rattle.pm_vector.specs.Rows.{HasCols, Row, dot}
use Rattle.pm_vector.proofs.Spans.{at_place, place_of}
use Rattle.pm_vector.specs.Bases.{IsRank}
use Rattle.pm_geom.proofs.Dimension.{rank_exists}
use Rattle.pm_geom.proofs.Facets.{facet_rows_cut_out, order_as}
use Rattle.pm_geom.proofs.Polar.{cols_at}
use Rattle.pm_geom.proofs.Reduce.{extremes_generate}
use Rattle.pm_geom.proofs.Spans.{order_cols}
use Rattle.pm_geom.specs.Cones.{IsExtreme, IsOrder, IsValid, Vanishes}
use Rattle.pm_geom.specs.Faces.{HasRank, ray}
use Rattle.pm_geom.specs.Graphs.{AreShared}
use Rattle.pm_ranks.proofs.Highest.{face_rank, facet_is_highest, highest_is_facet}
use Rattle.pm_ranks.proofs.PolarFaces.{facet_cols, own_facets}
use Rattle.pm_ranks.proofs.Ranks.{face_back, rank_as, rank_back}
use Rattle.pm_ranks.proofs.Ridges.{no_other_ridge, ridge_no_other}
use Rattle.pm_ranks.proofs.Sharp.{valid_line}
use Rattle.pm_ranks.proofs.Small.{two_out}
use Rattle.pm_ranks.proofs.Tests.{and_both, and_first, and_second, is_zero, is_zero_from, is_zero_to}
use Rattle.pm_ranks.proofs.Walls.{wall_span}
use Rattle.pm_ranks.proofs.Whole.{cone_from, cone_to, own_order}
use Rattle.pm_ranks.specs.Laws.{EachHasRank, FacetsAreHighest, FacetsDiffer, RidgesByFacets}
use Rattle.std.proofs.Common.{arith, inl, inr, refl, subst, sym}
use Rattle.std.proofs.lemmas.Bool.{cases_eq}
use Rattle.std.proofs.lemmas.Int.{ints}
use Rattle.std.specs.Prelude.{Bool, List, length, suc, true, ℕ, ◌&&◌, ◌+◌, ◌<◌, ◌↔◌, ◌∷◌, ◌≡◌}
use lib.IntN.{pos}

module _ (n : ℕ) (V K : List Row) (hv : HasCols n V) (hk : HasCols n K) (o : IsOrder n (InCone V K) V) (F E : List Row) (he : HasCols n E) (oF : IsOrder n (IsValid n V K) F) (vanish : (a : Row) → length a ≡ n → Vanishes n V K a ↔ InSpan E a) (m : ℕ) (rm : IsRank E m) where
  -- a facet row that is 0 where another is lies in the span of that one and the rows that vanish
  differ : (i k : ℕ) → i < length F → k < length F → ((j : ℕ) → j < length V → dot (ray F i) (ray V j) ≡ pos 0 → dot (ray F k) (ray V j) ≡ pos 0) → i ≡ k
  differ i k li lk h = elim (cases_eq k i) [
    | inl e ↦ sym e
    | inr ne ↦ absurd (two_out n F E (facet_cols n V K hv hk o F E he oF vanish) he (own_facets n V K hv hk o F E he oF vanish) m rm k i lk li ne within)
  ]
    where
      at : (x : ℕ) → x < length F → IsExtreme n (IsValid n V K) (ray F x)
      at x lx = among_All (λ a. IsExtreme n (IsValid n V K) a) (at_place F x lx) oF.each

      within : InSpan (ray F i ∷ E) (ray F k)
      within = wall_span n V K hv hk (ray F i) (at i li) (ray F k) (at k lk).cols
          (λ v q z. let u = place_of q in subst (λ y. dot (ray F k) y ≡ pos 0) u.2 (h u.0 u.1 (subst (λ y. dot (ray F i) y ≡ pos 0) (sym u.2) z)))
          (λ c q. valid_line n V K (ray F k) (at k lk).inside c (cols_at q hk) (record { inside = in_line q; opposed = in_line_opposite q }))
          E
          (λ e le v. (vanish e le).0 v)

-- ---- any generators
-- their extreme rays V with lines K generate the same, and the rows that vanish there are the span of E
record Described (n : ℕ) (G L V : List Row) : Type 0 where
  lines : List Row
  lines_cols : HasCols n lines
  own : IsOrder n (InCone V lines) V
  to : (x : Row) → length x ≡ n → InCone G L x → InCone V lines x
  from : (x : Row) → length x ≡ n → InCone V lines x → InCone G L x
  rank : ℕ
  has_rank : IsRank lines rank
  equations : List Row
  equations_cols : HasCols n equations
  vanish : (a : Row) → length a ≡ n → Vanishes n V lines a ↔ InSpan equations a
  count : ℕ
  has_count : IsRank equations count

described : (n : ℕ) (G L : List Row) → HasCols n G → HasCols n L → (V : List Row) → IsOrder n (InCone G L) V → Described n G L V
described n G L hg hl V o =
    let (V0, K, hk, o0, line, gen) = extremes_generate n G L hg hl in
    let (l, rl) = rank_exists n K hk in
    let (F0, E, he, oF0, vanish, valid, cut) = facet_rows_cut_out n V K (order_cols n (InCone G L) V o) hk in
    let (m, rm) = rank_exists n E he in
    record {
      lines = K;
      lines_cols = hk;
      own = own_order n G L hg hl V K hk o line;
      to = cone_to n G L hg hl V K hk o line;
      from = cone_from n G L hg hl V K hk o line;
      rank = l;
      has_rank = rl;
      equations = E;
      equations_cols = he;
      vanish = vanish;
      count = m;
      has_count = rm;
    }

pub each_has_rank : EachHasRank
each_has_rank n G L hg hl V o f face =
    let s = described n G L hg hl V o in
    let r = face_rank n V s.lines (order_cols n (InCone G L) V o) s.lines_cols s.own s.rank s.has_rank f (face_back n G L V s.lines s.to s.from face) in
    (r.0, rank_as n G L V s.lines s.to s.from r.0 f r.1)

valid_order : (n : ℕ) (G L V K F : List Row) → ((x : Row) → length x ≡ n → InCone G L x → InCone V K x) → ((x : Row) → length x ≡ n → InCone V K x → InCone G L x) → IsOrder n (IsValid n G L) F → IsOrder n (IsValid n V K) F
valid_order n G L V K F to from o = order_as n (IsValid n G L) (IsValid n V K)
    (λ a la v. record { cols = la; holds = λ x lx h. v.holds x lx (from x lx h) })
    (λ a la v. record { cols = la; holds = λ x lx h. v.holds x lx (to x lx h) })
    o

pub facets_are_highest : FacetsAreHighest
facets_are_highest n G L hg hl V F oV oF k r' f =
    let s = described n G L hg hl V oV in
    let hv = order_cols n (InCone G L) V oV in
    let oF' = valid_order n G L V s.lines F s.to s.from oF in
    let top = rank_back n G L V s.lines s.to s.from (suc k) (λ j. true) r' in (
      λ r. highest_is_facet n V s.lines hv s.lines_cols s.own s.rank s.has_rank F s.equations s.equations_cols oF' s.vanish s.count s.has_count (λ j. true) (λ j lj. refl) (suc k) top f k refl (rank_back n G L V s.lines s.to s.from k f r),
      λ c. rank_as n G L V s.lines s.to s.from k f (facet_is_highest n V s.lines hv s.lines_cols s.own s.rank s.has_rank F s.equations s.equations_cols oF' s.vanish s.count s.has_count (λ j. true) (λ j lj. refl) (suc k) top f k refl c.0 c.1 c.2),
    )

-- the set of the places at which two rows of F both vanish
both_zero : List Row → List Row → ℕ → ℕ → ℕ → Bool
both_zero V F i k j = is_zero (dot (ray F i) (ray V j)) && is_zero (dot (ray F k) (ray V j))

both_zero_is : (V F : List Row) (i k : ℕ) → AreShared V F i k (both_zero V F i k)
unfolding both_zero
both_zero_is V F i k j l = (
  λ t. (is_zero_to (dot (ray F i) (ray V j)) (and_first (is_zero (dot (ray F i) (ray V j))) (is_zero (dot (ray F k) (ray V j))) t), is_zero_to (dot (ray F k) (ray V j)) (and_second (is_zero (dot (ray F i) (ray V j))) (is_zero (dot (ray F k) (ray V j))) t)),
  λ z. and_both (is_zero (dot (ray F i) (ray V j))) (is_zero (dot (ray F k) (ray V j))) (is_zero_from (dot (ray F i) (ray V j)) z.0) (is_zero_from (dot (ray F k) (ray V j)) z.1),
)

whole_ranked : (n : ℕ) (G L : List Row) → HasCols n G → HasCols n L → (V : List Row) → IsOrder n (InCone G L) V → (k : ℕ) × HasRank n G L V (λ j. true) k
whole_ranked n G L hg hl V o = each_has_rank n G L hg hl V o (λ j. true) (record { a = zeros n; valid = record { cols = length-zeros n; holds = λ x lx h. simp dot-zeros (omega (arith, ints)) }; places = λ j l. (λ t. dot-zeros n (ray V j), λ e. refl) })

pub ridges_by_facets : RidgesByFacets
ridges_by_facets n G L hg hl V F oV oF i k =
    let s = described n G L hg hl V oV in
    let hv = order_cols n (InCone G L) V oV in
    let oF' = valid_order n G L V s.lines F s.to s.from oF in
    let top = whole_ranked n G L hg hl V oV in (
      λ r. (r.first, r.second, r.apart, ridge_no_other n V s.lines hv s.lines_cols s.own s.rank s.has_rank F s.equations s.equations_cols oF' s.vanish s.count s.has_count (λ j. true) (λ j lj. refl) (r.rank + 2) (rank_back n G L V s.lines s.to s.from (r.rank + 2) (λ j. true) r.whole) i k r.first r.second r.apart r.shared r.places r.rank refl (rank_back n G L V s.lines s.to s.from r.rank r.shared r.face)),
      λ h.
          let r = no_other_ridge n V s.lines hv s.lines_cols s.own s.rank s.has_rank F s.equations s.equations_cols oF' s.vanish s.count s.has_count (λ j. true) (λ j lj. refl) top.0 (rank_back n G L V s.lines s.to s.from top.0 (λ j. true) top.1) i k h.0 h.1 h.2 (both_zero V F i k) (both_zero_is V F i k) h.3 in
          record {
            first = h.0;
            second = h.1;
            apart = h.2;
            shared = both_zero V F i k;
            places = both_zero_is V F i k;
            rank = r.0;
            face = rank_as n G L V s.lines s.to s.from r.0 (both_zero V F i k) r.2;
            whole = subst (λ z. HasRank n G L V (λ j. true) z) (sym r.1) top.1;
          },
    )

pub facets_differ : FacetsDiffer
facets_differ n G L hg hl V F oV oF i k li lk h =
    let s = described n G L hg hl V oV in
    differ n V s.lines (order_cols n (InCone G L) V oV) s.lines_cols s.own F s.equations s.equations_cols (valid_order n G L V s.lines F s.to s.from oF) s.vanish s.count s.has_count i k li lk h
