-- The rank of the whole, and the faces of rank 1 and 2 of any cone.
use Rattle.pm_vector.proofs.ConeLaws.{in_line}
use Rattle.pm_vector.proofs.Lists.{Among, among_append, among_append_left, among_append_right}
use Rattle.pm_vector.proofs.RowLaws.{dot-zeros, length-zeros, zeros}
use Rattle.pm_vector.specs.Cones.{InCone, InSpan}
use Rattle.pm_vector.specs.Rows.{HasCols, Row}
use Rattle.pm_vector.proofs.Spans.{place_of, same_span, same_span_sym, same_span_trans}
use Rattle.pm_vector.specs.Bases.{IsRank, SameSpan}
use Rattle.pm_geom.proofs.Dimension.{rank_exists}
use Rattle.pm_geom.proofs.Facets.{order_as, order_generates}
use Rattle.pm_geom.proofs.Reduce.{extremes_generate}
use Rattle.pm_geom.proofs.Spans.{order_cols, order_spans}
use Rattle.pm_geom.specs.Cones.{InLineality, IsOrder}
use Rattle.pm_geom.specs.Faces.{HasRank, IsFace, ray}
use Rattle.pm_ranks.proofs.Chosen.{chosen_from, chosen_some}
use Rattle.pm_ranks.proofs.Ranks.{face_back, rank_as, rank_back, ranks_are_dimensions}
use Rattle.pm_ranks.proofs.Small.{first_from, first_to, rank_same, second_from, second_to}
use Rattle.pm_ranks.specs.Chosen.{chosen}
use Rattle.pm_ranks.specs.Laws.{FirstRank, SecondRank, WholeHasRank}
use Rattle.std.proofs.Common.{arith, inl, inr, refl, subst}
use Rattle.std.proofs.lemmas.Int.{ints}
use Rattle.std.specs.Prelude.{Bool, IsTrue, List, length, true, ℕ, ◌++◌, ◌+◌, ◌<◌, ◌↔◌, ◌≡◌}

-- the whole is a face: the row of zeros vanishes on it
pub whole_is_face : (n : ℕ) (G L V : List Row) → IsFace n G L V (λ j. true)
whole_is_face n G L V = record { a = zeros n; valid = record { cols = length-zeros n; holds = λ x lx h. simp dot-zeros (omega (arith, ints)) }; places = λ j l. (λ t. dot-zeros n (ray V j), λ e. refl) }

module _ (n : ℕ) (G L : List Row) (hg : HasCols n G) (hl : HasCols n L) (V K : List Row) (hk : HasCols n K) (o : IsOrder n (InCone G L) V) (line : (x : Row) → length x ≡ n → InLineality (InCone G L) x ↔ InSpan K x) where
  pub cone_to : (x : Row) → length x ≡ n → InCone G L x → InCone V K x
  cone_to x lx = (order_generates n G L hg hl V K hk o line x lx).0

  pub cone_from : (x : Row) → length x ≡ n → InCone V K x → InCone G L x
  cone_from x lx = (order_generates n G L hg hl V K hk o line x lx).1

  pub own_order : IsOrder n (InCone V K) V
  own_order = order_as n (InCone G L) (InCone V K) cone_to cone_from o

  whole : (l : ℕ) → IsRank K l → (f : ℕ → Bool) → ((j : ℕ) → j < length V → IsTrue (f j)) → (k : ℕ) → HasRank n G L V f k ↔ IsRank (G ++ L) (k + l)
  whole l rl f all k =
      let r = ranks_are_dimensions n G L hg hl V K hk o line l rl f face k in
      (λ h. rank_same (chosen f V ++ K) (G ++ L) (k + l) spans (r.0 h), λ h. r.1 (rank_same (G ++ L) (chosen f V ++ K) (k + l) (same_span_sym spans) h))
    where
      face : IsFace n G L V f
      face = record { a = zeros n; valid = record { cols = length-zeros n; holds = λ x lx h. simp dot-zeros (omega (arith, ints)) }; places = λ j l. (λ t. dot-zeros n (ray V j), λ e. all j l) }

      every : (x : Row) → Among x (V ++ K) → InSpan (chosen f V ++ K) x
      every x i = elim (among_append V K i) [
        | inl j ↦ let w = place_of j in subst (λ u. InSpan (chosen f V ++ K) u) w.2 (in_line (among_append_left K (chosen_from f V w.0 w.1 (all w.0 w.1))))
        | inr j ↦ in_line (among_append_right (chosen f V) j)
      ]

      some : (x : Row) → Among x (chosen f V ++ K) → InSpan (V ++ K) x
      some x i = elim (among_append (chosen f V) K i) [ inl j ↦ in_line (among_append_left K (chosen_some f V j)) | inr j ↦ in_line (among_append_right V j) ]

      spans : SameSpan (chosen f V ++ K) (G ++ L)
      spans = same_span_trans (same_span (chosen f V ++ K) (V ++ K) some every) (order_spans n G L hg hl V K hk o line)

pub whole_has_rank : WholeHasRank
whole_has_rank n G L hg hl V K hk o line l rl k = whole n G L hg hl V K hk o line l rl (λ j. true) (λ j lj. refl) k

pub first_rank : FirstRank
first_rank n G L hg hl V o f =
    let (V0, K, hk, o0, line, gen) = extremes_generate n G L hg hl in
    let (l, rl) = rank_exists n K hk in
    let hv = order_cols n (InCone G L) V o in
    let own = own_order n G L hg hl V K hk o line in
    let to = cone_to n G L hg hl V K hk o line in
    let from = cone_from n G L hg hl V K hk o line in
    (λ r. first_to n V K hv hk own l rl f (rank_back n G L V K to from 1 f r), λ w. rank_as n G L V K to from 1 f (first_from n V K hv hk own l rl f w.0 w.1 w.2))

pub second_rank : SecondRank
second_rank n G L hg hl V o f =
    let (V0, K, hk, o0, line, gen) = extremes_generate n G L hg hl in
    let (l, rl) = rank_exists n K hk in
    let hv = order_cols n (InCone G L) V o in
    let own = own_order n G L hg hl V K hk o line in
    let to = cone_to n G L hg hl V K hk o line in
    let from = cone_from n G L hg hl V K hk o line in
    (λ r. (r.face, second_to n V K hv hk own l rl f (rank_back n G L V K to from 2 f r)), λ w. rank_as n G L V K to from 2 f (second_from n V K hv hk own l rl f (face_back n G L V K to from w.0) w.1.0 w.1.1 w.1.2 w.1.3 w.1.4 w.1.5))
