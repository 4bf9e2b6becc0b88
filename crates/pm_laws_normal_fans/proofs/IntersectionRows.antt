-- The rows of an intersection of two cones: from facet rows of both to generators in canonical form.
use Rattle.pm_vector.proofs.ConeLaws.{in_line}
use Rattle.pm_vector.proofs.Lists.{All_among, Among, all_at, all_from, among_All, among_append, among_append_left, among_append_right}
use Rattle.pm_vector.proofs.RowLaws.{length-opposite}
use Rattle.pm_vector.specs.Cones.{InSpan}
use Rattle.pm_vector.specs.Rows.{HasCols, Row, dot, opposite}
use Rattle.pm_vector.proofs.Spans.{same_span}
use Rattle.pm_vector.proofs.Unique.{echelon_is_unique}
use Rattle.pm_geom.proofs.Facets.{order_as, vanishes_line}
use Rattle.pm_geom.proofs.Lineality.{facet_order_cuts_out}
use Rattle.pm_geom.proofs.Polar.{cols_at, cut_at, cut_from}
use Rattle.pm_geom.specs.Cones.{CutOut}
use Rattle.pm_geom.specs.Generators.{AreGenerators}
use Rattle.pm_laws_normal_fans.proofs.Refinements.{line_of_both, place_cols, span_in}
use Rattle.pm_laws_normal_fans.specs.Fans.{Fan, InIntersection, InPlace, IsFan, cone_at}
use Rattle.pm_laws_normal_fans.specs.Refinements.{CutsFromFacets, InHalfSpaces, Intersection, IsCutAt, IsIntersection, OneLineality}
use Rattle.std.proofs.Common.{inl, inr, ◌∙◌}
use Rattle.std.specs.List.{All}
use Rattle.std.specs.Prelude.{List, length, ℕ, ◌++◌, ◌↔◌, ◌≡◌}
use lib.IntN.{pos}

-- the facet rows of a cone and the rows that vanish on it cut it out
pub cuts_from_facets : CutsFromFacets
cuts_from_facets n f i F E ff li are x lx = (
  λ h. let c = (cut x lx).0 h in (all_from (λ e. dot e x ≡ pos 0) E (λ e ie. among_All (λ e. dot e x ≡ pos 0) ie c.1), c.0),
  λ h. (cut x lx).1 (h.1, All_among (λ e. dot e x ≡ pos 0) E (λ e ie. all_at (λ e. dot e x ≡ pos 0) ie h.0)),
)
  where
    hg : HasCols n (cone_at f i)
    hg = place_cols n f ff i li

    hl : HasCols n f.lines
    hl = ff.lines

    cut : (x : Row) → length x ≡ n → InPlace f i x ↔ (CutOut F x × All (λ e. dot e x ≡ pos 0) E)
    cut = (facet_order_cuts_out n (cone_at f i) f.lines hg hl F E are.basis.echelon.basis.cols are.order (λ a la. (
      λ v. (are.basis.lines a la).0 ((vanishes_line n (cone_at f i) f.lines hg hl a la).0 v),
      λ h. (vanishes_line n (cone_at f i) f.lines hg hl a la).1 ((are.basis.lines a la).1 h),
    ))).1

-- generators of one set of rows are those of another with the same rows of n entries
pub generators_as : (n : ℕ) (S T : Row → Type 0) (V K : List Row) → ((x : Row) → length x ≡ n → S x ↔ T x) → AreGenerators n S V K → AreGenerators n T V K
generators_as n S T V K same are = record {
  pivots = are.pivots;
  basis = record {
    echelon = are.basis.echelon;
    lines = λ x lx. (
      λ l. (are.basis.lines x lx).0 (record { inside = (same x lx).1 l.inside; opposed = (same (opposite x) (length-opposite x ∙ lx)).1 l.opposed }),
      λ h. let l = (are.basis.lines x lx).1 h in record { inside = (same x lx).0 l.inside; opposed = (same (opposite x) (length-opposite x ∙ lx)).0 l.opposed },
    );
  };
  order = order_as n S T (λ x lx h. (same x lx).0 h) (λ x lx h. (same x lx).1 h) are.order;
  primitive = are.primitive;
  reduced = are.reduced;
  ascending = are.ascending;
}

-- rows that cut out two cones, together cut out the intersection
pub cut_both : (n : ℕ) (f g : Fan) (i j : ℕ) (F E H D : List Row) → IsCutAt n f i F E → IsCutAt n g j H D → (x : Row) → length x ≡ n → InHalfSpaces (F ++ H) (E ++ D) x ↔ InIntersection f g i j x
cut_both n f g i j F E H D cf cg x lx = (
  λ h. (
    (cf x lx).1 (all_from (λ e. dot e x ≡ pos 0) E (λ e ie. all_at (λ e. dot e x ≡ pos 0) (among_append_left D ie) h.0), cut_from F x (λ a ia. cut_at x (among_append_left H ia) h.1)),
    (cg x lx).1 (all_from (λ e. dot e x ≡ pos 0) D (λ e ie. all_at (λ e. dot e x ≡ pos 0) (among_append_right E ie) h.0), cut_from H x (λ a ia. cut_at x (among_append_right F ia) h.1)),
  ),
  λ h. let p = (cf x lx).0 h.0 in let q = (cg x lx).0 h.1 in (
    all_from (λ e. dot e x ≡ pos 0) (E ++ D) (λ e ie. elim (among_append E D ie) [ inl k ↦ all_at (λ e. dot e x ≡ pos 0) k p.0 | inr k ↦ all_at (λ e. dot e x ≡ pos 0) k q.0 ]),
    cut_from (F ++ H) x (λ a ia. elim (among_append F H ia) [ inl k ↦ cut_at x k p.1 | inr k ↦ cut_at x k q.1 ]),
  ),
)

-- all intersections have one lineality, and so one echelon basis of it
module _ (n : ℕ) (f g : Fan) (ff : IsFan n f) (fg : IsFan n g) where
  line_from_both : (a : Intersection) (K : List Row) → IsIntersection n f g K a → (x : Row) → length x ≡ n → InSpan f.lines x × InSpan g.lines x → InSpan K x
  line_from_both a K m x lx h = let p = span_in f a.first x h.0 in let q = span_in g a.second x h.1 in (m.generators.basis.lines x lx).0 (record { inside = (p.inside, q.inside); opposed = (p.opposed, q.opposed) })

  in_other : (a b : Intersection) (K L : List Row) → IsIntersection n f g K a → IsIntersection n f g L b → (k : Row) → Among k K → InSpan L k
  in_other a b K L m l k i = let lk = cols_at i m.generators.basis.echelon.basis.cols in line_from_both b L l k lk (line_of_both n f g ff fg a.first a.second m.first m.second a.rays K m.generators k lk (in_line i))

  pub same_basis : (a b : Intersection) (K L : List Row) → IsIntersection n f g K a → IsIntersection n f g L b → K ≡ L
  same_basis a b K L m l = (echelon_is_unique n K L m.generators.pivots l.generators.pivots m.generators.basis.echelon l.generators.basis.echelon (same_span K L (in_other a b K L m l) (in_other b a L K l m))).0

pub one_lineality : OneLineality
one_lineality n f g K L a b ff fg = same_basis n f g ff fg a b K L
