-- Where an elimination of the row list, double description of its two parts, thinning, a linear program, or finding rows from sets was given up, so is the client, with evidence that holds of the view.
use Rattle.pm_vector.proofs.Lists.{Contains_among, among_Contains, among_append, here, there}
use Rattle.pm_vector.specs.Rows.{IsZero, Row}
use Rattle.pm_client.proofs.ReadRows.{row_of}
use Rattle.pm_client.specs.Sound.{AreParts, ArePartsOf, AreRowsOf, AreSetsOf, TellLines, EliminatesIn, FailsRightly, HoldsOf, IsDoubleListOf, IsRowList, IsRowOf, IsWideElimination, IsWideFeasibility, added_rows, determining_rows, double_list, eliminated_by, enlarging_rows, fail_of, fail_of_double, fail_of_program, fail_of_thin, first_part, flat_basis_and_row, flat_rows, row_list, IsConeList, cone_rows, has_way, doubling, feasibility, products, determined_rays, determined_facets, facet_count}
use Rattle.pm_dd.specs.Refusals.{IsEliminationFail, IsShown, ShowsMany, ShowsWide}
use Rattle.pm_dd.specs.declared.fails.DdFail.{DdFail}
use Rattle.pm_dd.specs.declared.fails.DdFail.TheVariants as double
use Rattle.pm_elim.specs.Refusals.{IfWide}
use Rattle.pm_vector.specs.Evidence.{IsEvidence}
use Rattle.pm_elim.specs.declared.evidence.ElimFail.{ElimFail}
use Rattle.pm_vector.specs.declared.evidence.ElimList.{ElimList}
use Rattle.pm_elim.specs.declared.evidence.ElimFail.TheVariants.{Memory, Wide}
use Rattle.pm_geom.specs.StatedOrder.{rows_marked}
use Rattle.pm_geom.specs.declared.evidence.Evidence.{Evidence}
use Rattle.pm_geom.specs.declared.evidence.Evidence.TheVariants as evidence
use Rattle.pm_incidence.proofs.Products.{stays_turned, zero_stays}
use Rattle.pm_incidence.specs.FromSets.{IsSetsFail, IsTurnedSetsFail}
use Rattle.pm_incidence.specs.FromSets as from_sets
use Rattle.pm_incidence.specs.Thinning.{IsFacetsFail, IsThinFail, IsWideReduction, half_spaces}
use Rattle.pm_incidence.specs.declared.fails.ThinFail.{ThinFail}
use Rattle.pm_incidence.specs.declared.fails.ThinFail.TheVariants as thinning
use Rattle.pm_limits.specs.Limits.{most_rows}
use Rattle.pm_vector.specs.EliminationSteps.{EliminationStep}
use Rattle.pm_dd.specs.HullRefusals.{IsShownOnParts}
use Rattle.pm_object.specs.Reading.{ViewSeen}
use Rattle.pm_props.specs.Properties.{is_generator, is_half_space}
use Rattle.pm_object_type.specs.declared.object_type.ObjectType.TheVariants.{Cone, Fan, Polytope}
use Rattle.pm_object_type.specs.declared.object_type.ObjectType.{ObjectType}
use Rattle.pm_props.specs.declared.property.PropId.TheVariants.{AffineHull, Equations, Facets, Inequalities, InputLineality, LinealitySpace, Points, Vertices}
use Rattle.pm_props.specs.declared.property.PropId.{PropId}
use Rattle.pm_simplex.specs.Generated.{no_objective}
use Rattle.pm_simplex.specs.Answers.{ShowsProgram}
use Rattle.pm_simplex.specs.Fails as linear
use Rattle.pm_simplex.specs.declared.fails.LpFail.{LpFail}
use Rattle.pm_simplex.specs.declared.fails.LpFail.TheVariants as program
use Rattle.std.proofs.Common.{ap, inl, inr, refl, sym, true, ◌∙◌}
use Rattle.std.proofs.lemmas.List.{append-nil}
use Rattle.std.specs.List.{Contains}
use Rattle.std.specs.Prelude.{IsTrue, List, [], length, ℕ, ◌++◌, ◌∷◌, ◌≡◌, ◌≤◌, ◌⊎◌}

-- the client takes the row list
abbrev pub TakesRowList : ViewSeen → Type 0
TakesRowList v = Contains (eliminated_by v.kind) row_list

pub fails_by_list : (v : ViewSeen) (X : List Row) (f : ElimFail) → TakesRowList v → IsRowList v X → IfWide f (λ e. IsEvidence v.cols X e) → FailsRightly v (fail_of f)
fails_by_list v X (Wide e) takes listed h = inl (record { list = row_list; named = takes; rows = X; listed = listed; shown = h })
fails_by_list v X Memory takes listed h = tt

pub eliminates_in : (Lists : ElimList → Type 0) (f : ElimFail) → IfWide f (λ e. Lists e.list) → EliminatesIn Lists (fail_of f)
eliminates_in Lists (Wide e) h = h
eliminates_in Lists Memory h = tt

-- a cone's rows
pub fails_by_cone : (v : ViewSeen) (X : List Row) (f : ElimFail) → Contains (eliminated_by v.kind) cone_rows → IsConeList v X → IfWide f (λ e. IsEvidence v.cols X e) → FailsRightly v (fail_of f)
fails_by_cone v X (Wide e) takes listed h = inl (record { list = cone_rows; named = takes; rows = X; listed = listed; shown = h })
fails_by_cone v X Memory takes listed h = tt

-- ---- double description
module _ (v : ViewSeen) (named : IsTrue (has_way v.kind doubling)) (takes : eliminated_by v.kind ≡ first_part ∷ double_list ∷ enlarging_rows ∷ []) where
  first_taken : Contains (eliminated_by v.kind) first_part
  first_taken = rw takes (Contains_among (here {xs = double_list ∷ enlarging_rows ∷ []}))

  double_taken : Contains (eliminated_by v.kind) double_list
  double_taken = rw takes (Contains_among (there (here {xs = enlarging_rows ∷ []})))

  enlarging_taken : Contains (eliminated_by v.kind) enlarging_rows
  enlarging_taken = rw takes (Contains_among (there (there (here {xs = []}))))

  -- on the elimination of the first part
  fails_by_first : (L G : List Row) (f : DdFail) → AreParts v L G → IsEliminationFail v.cols L f → FailsRightly v (fail_of_double f)
  fails_by_first L G (double.Wide (evidence.E1 step)) read h = inl (record { list = first_part; named = first_taken; rows = L; listed = (G, read); shown = h })
  fails_by_first L G (double.Wide e) read h = absurd h
  fails_by_first L G (double.Many e) read h = absurd h
  fails_by_first L G double.Memory read h = tt

  -- on the double description list
  fails_wide : (D : List Row) (e : Evidence) → IsDoubleListOf v D → ShowsWide v.cols D e → FailsRightly v (fail_of_double (double.Wide e))
  fails_wide D (evidence.E1 step) listed (inl h) = inl (record { list = double_list; named = double_taken; rows = D; listed = listed; shown = h })
  fails_wide D (evidence.E1 step) listed (inr h) = inl (record {
    list = enlarging_rows;
    named = enlarging_taken;
    rows = rows_marked true h.marks D;
    listed = (D, listed, record { marks = h.marks; enlarging = h.enlarging; rows = refl });
    shown = h.evidence;
  })
  fails_wide D (evidence.E2 front first second column) listed h = inl (record { named = named; rows = D; listed = listed; shown = h })
  fails_wide D e listed h = absurd h

  fails_many : (D : List Row) (e : Evidence) → IsDoubleListOf v D → ShowsMany v.cols D e → FailsRightly v (fail_of_double (double.Many e))
  fails_many D (evidence.E5Rays front rays) listed h = inl (record { named = named; rows = D; listed = listed; shown = h })
  fails_many D e listed h = absurd h

  fails_by_double : (D : List Row) (f : DdFail) → IsDoubleListOf v D → IsShown v.cols D f → FailsRightly v (fail_of_double f)
  fails_by_double D (double.Wide e) listed h = fails_wide D e listed h
  fails_by_double D (double.Many e) listed h = fails_many D e listed h
  fails_by_double D double.Memory listed h = tt

  pub fails_by_parts : (L G : List Row) (f : DdFail) → AreParts v L G → IsShownOnParts v.cols L G f → FailsRightly v (fail_of_double f)
  fails_by_parts L G f read (inl h) = fails_by_first L G f read h
  fails_by_parts L G f read (inr (D, list, h)) = fails_by_double D f (record { lines = L; others = G; read = read; list = list }) h

-- ---- thinning
-- parts to which nothing is added
pub parts_of : (v : ViewSeen) (first second : PropId) (L G : List Row) → AreRowsOf v first L → AreRowsOf v second G → added_rows v.of v.cols second ≡ [] → ArePartsOf v first second L G
parts_of v first second L G l g none = record {
  first_cols = l.cols;
  second_cols = g.cols;
  first_rows = l.rows;
  second_rows = g.rows;
  reads_first = l.reads;
  reads_second = g.reads;
  ys = G;
  first_primitive = l.primitive;
  second_primitive = g.primitive;
  added = sym (append-nil G) ∙ ap (λ z. G ++ z) (sym none);
}

-- the half-spaces of a thing as they are taken are INEQUALITIES with what is added
halves_added : (of : ObjectType) (n : ℕ) (A : List Row) → half_spaces of n A ≡ A ++ added_rows of n Inequalities
halves_added Polytope n A = refl
halves_added Cone n A = sym (append-nil A)
halves_added Fan n A = sym (append-nil A)

-- so EQUATIONS, and the half-spaces as they are taken, are two parts
pub halves_read : (v : ViewSeen) (E A : List Row) → AreRowsOf v Equations E → AreRowsOf v Inequalities A → ArePartsOf v Equations Inequalities E (half_spaces v.of v.cols A)
halves_read v E A e a = record {
  first_cols = e.cols;
  second_cols = a.cols;
  first_rows = e.rows;
  second_rows = a.rows;
  reads_first = e.reads;
  reads_second = a.reads;
  ys = A;
  first_primitive = e.primitive;
  second_primitive = a.primitive;
  added = halves_added v.of v.cols A;
}

-- a row that was read
generator_row : (v : ViewSeen) (p : PropId) (X : List Row) (x : Row) → AreRowsOf v p X → IsTrue (is_generator p) → Contains X x → (IsZero x → ⊥) → IsRowOf v is_generator x
generator_row v p X x h kind c some = row_of v is_generator p h.cols h.rows X x h.reads kind h.primitive c some

half_space_row : (v : ViewSeen) (p : PropId) (X : List Row) (x : Row) → AreRowsOf v p X → IsTrue (is_half_space p) → Contains X x → (IsZero x → ⊥) → IsRowOf v is_half_space x
half_space_row v p X x h kind c some = row_of v is_half_space p h.cols h.rows X x h.reads kind h.primitive c some

-- one of two lists has the row
one_of : (A E : List Row) (x : Row) → Contains (A ++ E) x → Contains A x ⊎ Contains E x
one_of A E x c = elim (among_append A E (among_Contains (A ++ E) c)) [ inl i ↦ inl (Contains_among i) | inr i ↦ inr (Contains_among i) ]

module _ (v : ViewSeen) (thinning_takes : eliminated_by v.kind ≡ flat_rows ∷ flat_basis_and_row ∷ []) (takes_products : IsTrue (has_way v.kind products)) where
  -- on an elimination
  wide_reduction : (L G A : List Row) → TellLines v L G A → (e : EliminationStep) → IsWideReduction v.cols G L A e → IsWideElimination v e
  wide_reduction L G A told e h = elim h.listed [
    | inl flat ↦ record { list = flat_rows; named = rw thinning_takes (Contains_among (here {xs = flat_basis_and_row ∷ []})); rows = h.rows; listed = record { lines = L; rows = G; others = A; read = told; flat = flat }; shown = h.shown }
    | inr flat ↦ record { list = flat_basis_and_row; named = rw thinning_takes (Contains_among (there (here {xs = []}))); rows = h.rows; listed = record { lines = L; rows = G; others = A; read = told; flat = flat }; shown = h.shown }
  ]

  -- POINTS by FACETS
  pub fails_by_points : (L G A : List Row) (f : ThinFail) → AreRowsOf v InputLineality L → AreRowsOf v Points G → AreRowsOf v Facets A → added_rows v.of v.cols Points ≡ [] → IsThinFail v.cols G L A f → FailsRightly v (fail_of_thin f)
  fails_by_points L G A (thinning.Wide (evidence.E1 step)) l g a none h =
      inl (wide_reduction L G A (record { first = InputLineality; second = Points; other = Facets; parts = refl; told = refl; read = parts_of v InputLineality Points L G l g none; others = a }) step h)
  fails_by_points L G A (thinning.Wide (evidence.E4 x y)) l g a none h = inl (record {
    named = takes_products;
    generator = generator_row v Points G x g refl h.generator (λ z. h.wide (zero_stays x y z));
    half_space = half_space_row v Facets A y a refl h.inequality (λ z. h.wide (stays_turned y x (zero_stays y x z)));
    wide = h.wide;
  })
  fails_by_points L G A (thinning.Wide e) l g a none h = absurd h
  fails_by_points L G A (thinning.Many e) l g a none h = absurd h
  fails_by_points L G A thinning.Memory l g a none h = tt

  -- INEQUALITIES by VERTICES
  pub fails_by_inequalities : IsTrue (has_way v.kind facet_count) → (E A V : List Row) (f : ThinFail) → AreRowsOf v Equations E → AreRowsOf v Inequalities A → AreRowsOf v Vertices V → length A ≤ most_rows → IsFacetsFail v.of v.cols A E V f → FailsRightly v (fail_of_thin f)
  fails_by_inequalities named E A V (thinning.Wide (evidence.E1 step)) e a g few h =
      inl (wide_reduction E (half_spaces v.of v.cols A) V
      (record { first = Equations; second = Inequalities; other = Vertices; parts = refl; told = refl; read = halves_read v E A e a; others = g })
      step h)
  fails_by_inequalities named E A V (thinning.Wide (evidence.E4 x y)) e a g few h =
      let some : IsZero y → ⊥ = λ z. h.wide (zero_stays y x z) in
      inl (record {
        named = takes_products;
        generator = generator_row v Vertices V x g refl h.inequality (λ z. h.wide (stays_turned x y (zero_stays x y z)));
        half_space = elim (one_of A E y h.generator) [ inl c ↦ half_space_row v Inequalities A y a refl c some | inr c ↦ half_space_row v Equations E y e refl c some ];
        wide = λ s. h.wide (stays_turned x y s);
      })
  fails_by_inequalities named E A V (thinning.Wide w) e a g few h = absurd h
  fails_by_inequalities named E A V (thinning.Many (evidence.E5Rows places)) e a g few h = record { named = named; equations = E; inequalities = A; reads_equations = e; reads_inequalities = a; shown = record { many = h.count; facets = h.among_few few } }
  fails_by_inequalities named E A V (thinning.Many w) e a g few h = absurd h
  fails_by_inequalities named E A V thinning.Memory e a g few h = tt

-- ---- linear programs
-- whether there is a point
module _ (v : ViewSeen) (named : IsTrue (has_way v.kind feasibility)) (E A : List Row) (e : AreRowsOf v Equations E) (a : AreRowsOf v Inequalities A) where
  pub wide_feasibility : (w : Evidence) → ShowsProgram (half_spaces v.of v.cols A) E (no_objective v.cols) w → IsWideFeasibility v w
  wide_feasibility w h = record {
    named = named;
    equations = E;
    inequalities = half_spaces v.of v.cols A;
    read = halves_read v E A e a;
    shown = h;
  }

  holds_feasibility : (w : Evidence) → ShowsProgram (half_spaces v.of v.cols A) E (no_objective v.cols) w → HoldsOf w v
  holds_feasibility (evidence.E3 basis enter leave row column) h = inr (inl (wide_feasibility (evidence.E3 basis enter leave row column) h))
  holds_feasibility w h = absurd h.shown

  pub fails_by_feasibility : (f : LpFail) → linear.IfWide f (ShowsProgram (half_spaces v.of v.cols A) E (no_objective v.cols)) → FailsRightly v (fail_of_program f)
  fails_by_feasibility (program.Wide w) h = holds_feasibility w h
  fails_by_feasibility program.Memory h = tt

-- ---- rows from sets
module _ (v : ViewSeen) (sets_take : eliminated_by v.kind ≡ row_list ∷ determining_rows ∷ []) where
  wide_by_sets : (first second : PropId) (E A : List Row) (in_sets : List (List ℕ)) → AreSetsOf v first second E A in_sets → added_rows v.of v.cols second ≡ [] → (e : EliminationStep) → from_sets.IsWideOfSets v.cols E A in_sets e → IsWideElimination v e
  wide_by_sets first second E A in_sets read none e h = elim h.listed [
    | inl both ↦ record {
      list = row_list;
      named = rw sets_take (Contains_among (here {xs = determining_rows ∷ []}));
      rows = h.rows;
      listed = record {
        first = first;
        second = second;
        parts = read.parts;
        list = record {
          first_cols = read.equations.cols;
          second_cols = read.inequalities.cols;
          first_rows = read.equations.rows;
          second_rows = read.inequalities.rows;
          reads_first = read.equations.reads;
          reads_second = read.inequalities.reads;
          xs = E;
          ys = A;
          first_primitive = read.equations.primitive;
          second_primitive = read.inequalities.primitive;
          listed = both ∙ sym (append-nil (E ++ A)) ∙ ap (λ z. E ++ A ++ z) (sym none);
        };
      };
      shown = h.shown;
    }
    | inr found ↦ record {
      list = determining_rows;
      named = rw sets_take (Contains_among (there (here {xs = []})));
      rows = h.rows;
      listed = record { first = first; second = second; equations = E; inequalities = A; in_sets = in_sets; read = read; determining = found };
      shown = h.shown;
    }
  ]

  pub fails_by_facet_sets : IsTrue (has_way v.kind determined_rays) → (E A : List Row) (in_sets : List (List ℕ)) (f : ThinFail) → AreSetsOf v AffineHull Facets E A in_sets → added_rows v.of v.cols Facets ≡ [] → IsSetsFail v.cols E A in_sets f → FailsRightly v (fail_of_thin f)
  fails_by_facet_sets named E A in_sets (thinning.Wide (evidence.E1 step)) read none h = inl (wide_by_sets AffineHull Facets E A in_sets read none step h)
  fails_by_facet_sets named E A in_sets (thinning.Wide (evidence.E4 x y)) read none h = inr (inl (inl (named, record { equations = E; inequalities = A; in_sets = in_sets; read = read; wide = h })))
  fails_by_facet_sets named E A in_sets (thinning.Wide e) read none h = absurd h
  fails_by_facet_sets named E A in_sets (thinning.Many e) read none h = absurd h
  fails_by_facet_sets named E A in_sets thinning.Memory read none h = tt

  pub fails_by_ray_sets : IsTrue (has_way v.kind determined_facets) → (E A : List Row) (in_sets : List (List ℕ)) (f : ThinFail) → AreSetsOf v LinealitySpace Vertices E A in_sets → added_rows v.of v.cols Vertices ≡ [] → IsTurnedSetsFail v.cols E A in_sets f → FailsRightly v (fail_of_thin f)
  fails_by_ray_sets named E A in_sets (thinning.Wide (evidence.E1 step)) read none h = inl (wide_by_sets LinealitySpace Vertices E A in_sets read none step h)
  fails_by_ray_sets named E A in_sets (thinning.Wide (evidence.E4 x y)) read none h = inr (inl (inr (named, record { equations = E; inequalities = A; in_sets = in_sets; read = read; wide = h })))
  fails_by_ray_sets named E A in_sets (thinning.Wide e) read none h = absurd h
  fails_by_ray_sets named E A in_sets (thinning.Many e) read none h = absurd h
  fails_by_ray_sets named E A in_sets thinning.Memory read none h = tt
