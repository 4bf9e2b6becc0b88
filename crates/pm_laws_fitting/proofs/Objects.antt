-- What a client's view of an object reads is what the object holds.
use Rattle.pm_client.proofs.ViewLaws.{has_listed}
use Rattle.pm_client.specs.Fails.{IfOutOfRange}
use Rattle.pm_client.specs.Sound.{AreRowsOf, are_parts}
use Rattle.pm_client.specs.declared.ClientFail.{ClientFail}
use Rattle.pm_object.proofs.Viewing.{only_source, shown_value}
use Rattle.pm_object.specs.Reading.{ViewSeen, view_for}
use Rattle.pm_object.specs.State.{State, read_at, value_of}
use Rattle.pm_props.proofs.Numbers.{number_is}
use Rattle.pm_props.specs.Properties.{number}
use Rattle.pm_props.specs.Sets.{has, set_of}
use Rattle.pm_props.specs.declared.kind.Kind.{Kind}
use Rattle.pm_props.specs.declared.property.PropId.{PropId}
use Rattle.pm_props.specs.declared.property.PropId.TheVariants.{AffineHull, Equations, Facets, Inequalities, InputLineality, LinealitySpace, Points, Vertices}
use Rattle.pm_standard.specs.Table.{standard_kind}
use Rattle.pm_standard.specs.declared.standard.StandardClient.TheVariants as client
use Rattle.pm_types.specs.Values.{PropertyValue, matrix}
use Rattle.pm_vector.proofs.Lists.{All_among, among_All}
use Rattle.pm_vector.specs.Rows.{HasCols, Row}
use Rattle.pm_minors.specs.Laws.{IsEnough}
use Rattle.pm_minors.specs.Minors.{IsAtMost}
use Rattle.pm_laws_fitting.specs.Objects.{DescriptionFits, HasAtMost, HasRows, OneBoundDoes}
use Rattle.pm_laws_fitting.specs.Sizes.{AreAtMost, BothAreAtMost, FitsBySize, FitsDoubled, PartsFit}
use Rattle.pm_laws_fitting.proofs.Views.{memory_alone, out_map, parts_fit, rows_fit}
use Rattle.std.proofs.Common.{ap, arith, eqb, inl, inr, refl, subst, sym, true≢false, ◌∙◌}
use Rattle.std.proofs.lemmas.Bool.{both_ways, eqb-true, or_cases}
use Rattle.std.specs.List.{All}
use Rattle.std.specs.Prelude.{Bool, IsTrue, List, None, Option, Some, [], false, true, ℕ, ◌<◌, ◌∷◌, ◌||◌, ◌≡◌, ◌≤◌, ◌⊎◌}

only_some : (b : Bool) (x : Option PropertyValue) (v : PropertyValue) → only_source b x ≡ Some v → (b ≡ true) × (x ≡ Some v)
only_some true x v h = (refl, h)
only_some false x v h = cc

-- a set of two names
one_of_two : (a b p : PropId) → (eqb (number a) (number p) || (eqb (number b) (number p) || false)) ≡ true → (p ≡ a) ⊎ (p ≡ b)
one_of_two a b p h = elim (or_cases (eqb (number a) (number p)) (eqb (number b) (number p) || false) h) [
  | inl e ↦ inl (sym (number_is a p (eqb-true (number a) (number p) e)))
  | inr r ↦ elim (or_cases (eqb (number b) (number p)) false r) [
    | inl e ↦ inr (sym (number_is b p (eqb-true (number b) (number p) e)))
    | inr e ↦ absurd (true≢false (sym e))
  ]
]

module _ (sub : Option ℕ) (o : State) (n : ℕ) (kind : Kind) where
  -- a row that is read is held, and its property is a source
  read_back : (p : PropId) (A : List Row) → AreRowsOf (view_for o sub kind n) p A → IsTrue (has kind.sources p) × HasRows sub o.held p A
  read_back p A r =
      let w = only_some (has kind.sources p) (value_of p (read_at sub o.held)) (matrix r.cols r.rows) (sym (shown_value sub kind p o.held) ∙ r.reads) in
      (w.0, record { cols = r.cols; rows = r.rows; value = w.1; primitive = r.primitive })

  more_at_most : (M K : ℕ) (A : List Row) → M ≤ K → All (IsAtMost M) A → All (IsAtMost K) A
  more_at_most M K A h a = All_among (IsAtMost K) A (λ x m i. let q = among_All (IsAtMost M) m a i in omega arith)

  held_at_most : (p : PropId) (M K : ℕ) → M ≤ K → HasAtMost sub o.held n M p → AreAtMost p K (view_for o sub kind n)
  held_at_most p M K l h = record { cols = λ A r. h.cols A (read_back p A r).1; size = λ A r. more_at_most M K A l (h.size A (read_back p A r).1) }

  module _ (first second : PropId) (d : DescriptionFits first second sub o.held n) where
    fits : FitsBySize first second (view_for o sub kind n)
    fits = record {
      most = d.basis;
      rows = record {
        some = (let l = d.grows in let s = d.some in omega arith);
        firsts = held_at_most first d.most d.basis d.grows d.firsts;
        seconds = held_at_most second d.most d.basis d.grows d.seconds;
      };
      size = d.size;
    }

    -- where only these two are read, all parts fit
    module _ (only : (p : PropId) → IsTrue (has kind.sources p) → (p ≡ second) ⊎ (p ≡ first)) (last : (q : PropId) → IsTrue (are_parts second q) → ⊥) where
      any_at_most : (p : PropId) → AreAtMost p d.most (view_for o sub kind n)
      any_at_most p = record {
        cols = λ A r. (by A (read_back p A r)).0;
        size = λ A r. (by A (read_back p A r)).1;
      }
        where
          by : (A : List Row) → IsTrue (has kind.sources p) × HasRows sub o.held p A → HasCols n A × All (IsAtMost d.most) A
          by A w = elim (only p w.0) [
            | inl e ↦ (let h = subst (λ (q : PropId). HasRows sub o.held q A) e w.1 in (d.seconds.cols A h, d.seconds.size A h))
            | inr e ↦ (let h = subst (λ (q : PropId). HasRows sub o.held q A) e w.1 in (d.firsts.cols A h, d.firsts.size A h))
          ]

      few_lines : (p q : PropId) → IsTrue (are_parts p q) → (L : List Row) → AreRowsOf (view_for o sub kind n) p L → IsEnough d.lines n L
      few_lines p q parts L r = by (read_back p L r)
        where
          by : IsTrue (has kind.sources p) × HasRows sub o.held p L → IsEnough d.lines n L
          by w = elim (only p w.0) [
            | inl e ↦ absurd (last q (subst (λ (s : PropId). IsTrue (are_parts s q)) e parts))
            | inr e ↦ d.few L (subst (λ (s : PropId). HasRows sub o.held s L) e w.1)
          ]

      all_parts : PartsFit (view_for o sub kind n)
      all_parts p q parts = record {
        most = d.most;
        rows = record { some = d.some; firsts = any_at_most p; seconds = any_at_most q };
        lines = d.lines;
        few = few_lines p q parts;
        basis = d.basis;
        minors = d.minors;
        grows = d.grows;
        size = d.size;
      }

-- the sources of a kind of two
two_sources : (kind : Kind) (a b : PropId) → kind.sources ≡ set_of (a ∷ b ∷ []) → (p : PropId) → IsTrue (has kind.sources p) → (p ≡ a) ⊎ (p ≡ b)
two_sources kind a b e p h = one_of_two a b p (sym (has_listed kind.sources (a ∷ b ∷ []) p e) ∙ h)

not_first : (b : Bool) → b ≡ false → IsTrue b → ⊥
not_first b e h = both_ways b e h

points_last : (q : PropId) → IsTrue (are_parts Points q) → ⊥
points_last q h = not_first false refl h

inequalities_last : (q : PropId) → IsTrue (are_parts Inequalities q) → ⊥
inequalities_last q h = not_first false refl h

vertices_last : (q : PropId) → IsTrue (are_parts Vertices q) → ⊥
vertices_last q h = not_first false refl h

facets_last : (q : PropId) → IsTrue (are_parts Facets q) → ⊥
facets_last q h = not_first false refl h

pub one_bound_does : OneBoundDoes
one_bound_does = record {
  points_facets = λ sub o n d f h. out_map f _ ⊥ (parts_fit _ (all_parts sub o n (standard_kind client.DdFacetsWide) InputLineality Points d (two_sources (standard_kind client.DdFacetsWide) Points InputLineality refl) points_last)) h.1;
  points_vertices = λ sub o n d f h. memory_alone f _ (rows_fit _ InputLineality Points Facets (fits sub o n (standard_kind client.ThinPointsFWide) InputLineality Points d)) h.1;
  inequalities_vertices = λ sub o n d f h. out_map f _ ⊥ (parts_fit _ (all_parts sub o n (standard_kind client.DdVerticesWide) Equations Inequalities d (two_sources (standard_kind client.DdVerticesWide) Inequalities Equations refl) inequalities_last)) h.1;
  inequalities_facets = λ sub o n d f h. out_map f _ ⊥ (rows_fit _ Equations Inequalities Vertices (fits sub o n (standard_kind client.ThinInequalitiesVWide) Equations Inequalities d)) h.1;
  vertices_facets = λ sub o n d f h. out_map f _ ⊥ (parts_fit _ (all_parts sub o n (standard_kind client.DdFacetsVWide) LinealitySpace Vertices d (two_sources (standard_kind client.DdFacetsVWide) Vertices LinealitySpace refl) vertices_last)) h.1;
  facets_vertices = λ sub o n d f h. out_map f _ ⊥ (parts_fit _ (all_parts sub o n (standard_kind client.DdVerticesFWide) AffineHull Facets d (two_sources (standard_kind client.DdVerticesFWide) Facets AffineHull refl) facets_last)) h.1;
}
