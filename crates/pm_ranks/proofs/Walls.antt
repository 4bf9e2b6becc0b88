-- The rows of a list on which a facet row is 0 span one dimension less than the list.
use Rattle.pm_vector.proofs.ConeLaws.{in_generator, in_line, in_line_opposite, in_same}
use Rattle.pm_vector.proofs.Lists.{Among, all_from, here, there}
use Rattle.pm_vector.proofs.Ring.{ring}
use Rattle.pm_vector.proofs.RowLaws.{dot_comm, entry-difference, entry-opposite, entry-plus, entry-times, length-difference, length-opposite, length-plus, plus-dot}
use Rattle.pm_vector.specs.Cones.{InCone, InSpan, IsIndependent}
use Rattle.pm_vector.specs.Rows.{HasCols, Row, difference, dot, opposite, plus}
use Rattle.pm_vector.proofs.Spans.{span_difference, span_divide, span_from, span_of, span_to}
use Rattle.pm_vector.specs.Bases.{IsRank}
use Rattle.pm_vector.proofs.DotLaws.{dot_span_zero}
use Rattle.pm_geom.proofs.Dimension.{rank_is_left, some_basis}
use Rattle.pm_geom.proofs.Faces.{difference-dot}
use Rattle.pm_geom.proofs.Facets.{dot-opposite, facet_rows_cut_out, opposite-dot, valid_by_products, vanishes_line}
use Rattle.pm_geom.proofs.Independent.{independent_more}
use Rattle.pm_geom.proofs.Polar.{cols_at}
use Rattle.pm_geom.proofs.ValidRows.{null_in}
use Rattle.pm_geom.specs.Cones.{IsExtreme, IsValid, MultipleModulo, Vanishes}
use Rattle.pm_ranks.proofs.Chosen.{Large, large_on}
use Rattle.std.proofs.Common.{arith, ◌∙◌}
use Rattle.std.proofs.lemmas.Int.{ints}
use Rattle.std.specs.Prelude.{List, length, suc, ℕ, ◌++◌, ◌↔◌, ◌∷◌, ◌≡◌}
use lib.IntN.{pos, ℤ, ◌*ℤ◌, ◌+ℤ◌, ◌-ℤ◌}
use lib.Signed.{◌<ℤ◌}

pub positive_some : {k : ℤ} → pos 0 <ℤ k → ¬ (k ≡ pos 0)
positive_some h e = omega (arith, ints)

-- ---- a facet row a of cone(W) + span(K): the rows that vanish where it does
module _ (n : ℕ) (W K : List Row) (hw : HasCols n W) (hk : HasCols n K) (a : Row) (ea : IsExtreme n (IsValid n W K) a) where
  pub wall_null : (k : Row) → Among k K → (b : Row) → IsValid n W K b → dot b k ≡ pos 0
  wall_null k i b v =
      let p = v.holds k (cols_at i hk) (in_line i) in
      let q = rw dot-opposite at (v.holds (opposite k) (length-opposite k ∙ cols_at i hk) (in_line_opposite i)) in
      omega (arith, ints)

  -- some multiple of a with b, one way and the other, is valid
  module _ (b : Row) (lb : length b ≡ n) (on_rays : (v : Row) → Among v W → dot a v ≡ pos 0 → dot b v ≡ pos 0) (on_lines : (k : Row) → Among k K → dot b k ≡ pos 0) where
    valid_less : (c : Row) → length c ≡ n → ((k : Row) → Among k K → dot c k ≡ pos 0) → (N : Large W a c) → IsValid n W K (difference N.N a (pos 1) c)
    valid_less c lc f N = valid_by_products n W K hw hk (difference N.N a (pos 1) c) (length-difference n N.N a (pos 1) c ea.cols lc)
        (λ v i. let h = N.at v i in let e = simp ring at (difference-dot N.N a (pos 1) c v) in omega (arith, ints))
        (λ k i. let x = wall_null k i a ea.inside in let y = f k i in difference-dot N.N a (pos 1) c k ∙ simp (x, y, ring))

    less : Large W a b
    less = large_on W a b (λ v i. ea.inside.holds v (cols_at i hw) (in_generator i)) (λ v i e. let q = on_rays v i e in omega (arith, ints))

    more : Large W a (opposite b)
    more = large_on W a (opposite b) (λ v i. ea.inside.holds v (cols_at i hw) (in_generator i)) (λ v i e. let q = on_rays v i e in rw opposite-dot (omega (arith, ints)))

    opposite_lines : (k : Row) → Among k K → dot (opposite b) k ≡ pos 0
    opposite_lines k i = let q = on_lines k i in opposite-dot b k ∙ omega (arith, ints)

    lo : Row
    lo = difference less.N a (pos 1) b

    hi : Row
    hi = difference more.N a (pos 1) (opposite b)

    -- their sum is a multiple of a; one more a makes it positive
    first : MultipleModulo n (IsValid n W K) a (plus a lo)
    unfolding lo hi
    first = (ea.summands (pos 1 +ℤ (less.N +ℤ more.N)) (plus a lo) hi
        (let p = less.not_negative in let q = more.not_negative in omega (arith, ints))
        (length-plus n a lo ea.cols vlo.cols) vhi.cols (plus_valid a lo ea.inside vlo) vhi
        (record { at = λ i. simp (entry-times, entry-plus, entry-difference, entry-opposite, ring) (omega (arith, ints)) })).0
      where
        vlo : IsValid n W K lo
        vlo = valid_less b lb on_lines less

        vhi : IsValid n W K hi
        vhi = valid_less (opposite b) (length-opposite b ∙ lb) opposite_lines more

        plus_valid : (x y : Row) → IsValid n W K x → IsValid n W K y → IsValid n W K (plus x y)
        plus_valid x y vx vy = record { cols = length-plus n x y vx.cols vy.cols; holds = λ z lz h. let p = vx.holds z lz h in let q = vy.holds z lz h in simp plus-dot (omega (arith, ints)) }

    -- so b is a combination of a and rows that vanish
    pub wall_span : (E : List Row) → ((e : Row) → length e ≡ n → Vanishes n W K e → InSpan E e) → InSpan (a ∷ E) b
    unfolding lo
    wall_span E f =
        let m = first in
        let w : InSpan (a ∷ E) m.w = span_of (a ∷ E) E (λ r i. in_line (there i)) (f m.w m.cols ((vanishes_line n W K hw hk m.w m.cols).1 m.line)) in
        let A : InSpan (a ∷ E) a = in_line here in
        span_divide (positive_some m.positive) (in_same (record { at = λ i. let q = simp (entry-times, entry-plus, entry-difference, ring) at (m.same.at i) in simp (entry-times, entry-difference, ring) (omega (arith, ints)) }) (span_difference (m.p +ℤ m.p *ℤ less.N -ℤ m.k) (pos 1) A w))

  -- the rows W' of W on which a is 0 span with K one dimension less
  module _ (W' : List Row) (some : (v : Row) → Among v W' → Among v W × (dot a v ≡ pos 0)) (all : (v : Row) → Among v W → dot a v ≡ pos 0 → Among v W') where
    hw' : HasCols n W'
    hw' = all_from (λ (x : Row). length x ≡ n) W' (λ v i. cols_at (some v i).0 hw)

    module _ (E : List Row) (he : HasCols n E) (free : IsIndependent E) (vanish : (b : Row) → length b ≡ n → Vanishes n W K b ↔ InSpan E b) where
      more_vanish : (b : Row) → length b ≡ n → Vanishes n W' K b ↔ InSpan (a ∷ E) b
      more_vanish b lb = (to, from)
        where
          to : Vanishes n W' K b → InSpan (a ∷ E) b
          to v = wall_span b lb (λ x i z. v.holds x (cols_at i hw) (in_generator (all x i z))) (λ k i. v.holds k (cols_at i hk) (in_line i)) E (λ e le ve. (vanish e le).0 ve)

          row_null : (x : Row) → length x ≡ n → InCone W K x → dot a x ≡ pos 0 → (g : Row) → Among g (a ∷ E) → dot x g ≡ pos 0
          row_null x lx hx z g here = dot_comm x a ∙ z
          row_null x lx hx z g (there i) = dot_comm x g ∙ ((vanish g (cols_at i he)).1 (in_line i)).holds x lx hx

          from : InSpan (a ∷ E) b → Vanishes n W' K b
          from h = record {
            cols = lb;
            holds = λ x lx hx. null_in b W' K
                (λ v i. dot_comm b v ∙ dot_span_zero v (a ∷ E) b (row_null v (cols_at i hw') (in_generator (some v i).0) (some v i).1) h)
                (λ k i. dot_comm b k ∙ dot_span_zero k (a ∷ E) b (row_null k (cols_at i hk) (in_line i) (wall_null k i a ea.inside)) h)
                hx;
          }

      needed : ¬ (InSpan E a)
      needed h = let l = (vanishes_line n W K hw hk a ea.cols).0 ((vanish a ea.cols).1 h) in ea.not_line l.opposed

      wall_count : (e e' : ℕ) → IsRank (W ++ K) e → IsRank (W' ++ K) e' → suc e' ≡ e
      wall_count e e' r r' =
          let p = (rank_is_left n W K hw hk E he free vanish e).0 r in
          let q = (rank_is_left n W' K hw' hk (a ∷ E) (ea.cols, he) (independent_more E a free needed) more_vanish e').0 r' in
          omega arith

    pub wall_rank : (e e' : ℕ) → IsRank (W ++ K) e → IsRank (W' ++ K) e' → suc e' ≡ e
    wall_rank e e' r r' =
        let (F, E, he, oF, vanish, valid, cut) = facet_rows_cut_out n W K hw hk in
        let b = some_basis n E he in
        wall_count b.rows b.cols b.independent (λ x lx. (λ v. span_from b.span ((vanish x lx).0 v), λ h. (vanish x lx).1 (span_to b.span h))) e e' r r'
