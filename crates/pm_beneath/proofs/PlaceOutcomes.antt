-- What the call answers and refuses, by the list that is taken.
use Rattle.pm_vector.proofs.Lists.{All_among, Any_among, Contains_among, among_All, among_Any, among_Contains}
use Rattle.pm_vector.proofs.Filters.{map_among}
use Rattle.pm_vector.specs.Cones.{InCone}
use Rattle.pm_vector.specs.Rows.{HasCols, Row}
use Rattle.pm_vector.proofs.Columns.{basis_is_independent}
use Rattle.pm_vector.proofs.Rank.{independent_are_few}
use Rattle.pm_vector.proofs.Spans.{span_at, span_to}
use Rattle.pm_beneath.proofs.DoubleLists.{double_list_triangulates}
use Rattle.pm_beneath.proofs.LeadLaws.{leads, signs_long, taken_arranged}
use Rattle.pm_beneath.proofs.NameLaws.{named_apart, named_ascending}
use Rattle.pm_beneath.proofs.PlaceLaws.{all_placed, run_places, stated_many}
use Rattle.pm_beneath.proofs.RunLaws.{names}
use Rattle.pm_beneath.proofs.SortedLaws.{ordered_apart}
use Rattle.pm_beneath.specs.Names.{AreNames, named}
use Rattle.pm_beneath.specs.Placed.{IsShownPlace, PlacedCellsTriangulate, fail_of_engine}
use Rattle.pm_beneath.proofs.FrontLaws.{all_within}
use Rattle.pm_beneath.specs.PlacedRuns.{FitsPlaces, IsPlaceFailOf, IsPlacedRun}
use Rattle.pm_beneath.specs.Runs.{IsCrowdedRun, IsListFail, IsRunTo}
use Rattle.pm_geom.specs.declared.evidence.Evidence.TheVariants.{E1, E2, E3, E4, E5Cells, E5Faces, E5Rays, E5Rows}
use Rattle.pm_beneath.specs.declared.fails.PlaceFail.{PlaceFail}
use Rattle.pm_beneath.specs.declared.fails.PlaceFail.TheVariants.{Many, Memory, Wide}
use Rattle.pm_beneath.specs.declared.run.RunFail.{RunFail}
use Rattle.pm_beneath.specs.declared.run.RunFail.TheVariants.{Crowd, Engine}
use Rattle.pm_beneath.specs.StatedLists.{IsStatedList}
use Rattle.pm_dd.specs.Arrangement.{IsArrangement}
use Rattle.pm_dd.specs.Fronts.{both_signs}
use Rattle.pm_dd.specs.Refusals.{IsShown, fail_of_elimination}
use Rattle.pm_dd.specs.declared.fails.DdFail.{DdFail}
use Rattle.pm_dd.specs.declared.fails.DdFail.TheVariants as dd
use Rattle.pm_vector.specs.Enlarging.{MarkEnlarging}
use Rattle.pm_elim.specs.Refusals.{IfWide}
use Rattle.pm_vector.specs.Evidence.{IsBasisOf, IsEvidence}
use Rattle.pm_elim.specs.declared.evidence.ElimFail.{ElimFail}
use Rattle.pm_elim.specs.declared.evidence.ElimFail.TheVariants as elimination
use Rattle.pm_geom.specs.Cones.{CutOut}
use Rattle.pm_geom.specs.FaceCounts.{IsLexBefore}
use Rattle.pm_geom.specs.Generators.{AreGenerators}
use Rattle.pm_geom.specs.Graphs.{IsAscending}
use Rattle.pm_dd.proofs.HullLaws.{facets_of, list_generators}
use Rattle.pm_dd.specs.HullRefusals.{IsDoubleList}
use Rattle.pm_dd.specs.Hulls.{AreFacets}
use Rattle.pm_laws_placing.proofs.Places.{length_stated}
use Rattle.pm_laws_placing.specs.PlacedCells.{AreCrowdedCells, HaveSameSets, IsPlacingTriangulation}
use Rattle.pm_laws_placing.specs.Placing.{places_marked, stated_places}
use Rattle.pm_geom.specs.Triangulations.{IsIndependentModulo, IsTriangulation, rows_at}
use Rattle.std.proofs.Common.{arith, ap, inl, inr, refl, subst, sym, ◌∙◌}
use Rattle.std.proofs.lemmas.List.{length-drop, length-map}
use Rattle.std.specs.List.{All, AllPairs}
use Rattle.std.specs.Prelude.{ℕ, ◌+◌, ◌*◌, ◌^◌, ◌<◌, ◌≤◌, ◌≡◌, Bool, true, List, [], ◌∷◌, ◌++◌, drop, length, map}
use Rattle.pm_limits.specs.Limits.{most_rows}

map_twice : {X Y Z : Type 0} (g : Y → Z) (f : X → Y) (xs : List X) → map g (map f xs) ≡ map (λ x. g (f x)) xs
map_twice g f [] = refl
map_twice {X} {Y} {Z} g f (x ∷ xs) = ap (λ (W : List Z). g (f x) ∷ W) (map_twice g f xs)

-- ---- triangulations have no order
pub triangulation_same : (n : ℕ) (G L : List Row) (S T : List (List ℕ)) → HaveSameSets S T → IsTriangulation n G L T → IsTriangulation n G L S
triangulation_same n G L S T same t = record {
  independent = All_among (λ s. IsIndependentModulo L (rows_at G s)) S (λ s i. among_All (λ s. IsIndependentModulo L (rows_at G s)) (among_Contains T ((same s).0 (Contains_among i))) t.independent);
  covers = λ x lx h. let w = among_Any (λ s. InCone (rows_at G s) L x) T (t.covers x lx h) in Any_among (λ s. InCone (rows_at G s) L x) (among_Contains S ((same w.0).1 (Contains_among w.1))) w.2;
  meets = λ s u cs cu. t.meets s u ((same s).0 cs) ((same u).0 cu);
}

pub placed_cells_triangulate : PlacedCellsTriangulate
placed_cells_triangulate n L G T hL hG p =
    let w = p.1 in
    triangulation_same n G L T w.cells w.same (double_list_triangulates n L G p.0 w.pivots hL hG w.is_basis w.cells w.placing)

-- ---- refusals of the eliminations
pub basis_fail : (n : ℕ) (L G : List Row) (f : ElimFail) → IfWide f (λ e. IsEvidence n L e) → IsShownPlace n L G (fail_of_engine (fail_of_elimination f))
basis_fail n L G (elimination.Wide e) h = inl h
basis_fail n L G elimination.Memory h = tt

pub marks_fail : (n : ℕ) (L G D : List Row) → IsDoubleList n L G D → (f : ElimFail) → IfWide f (λ e. IsEvidence n D e) → IsShownPlace n L G (fail_of_engine (fail_of_elimination f))
marks_fail n L G D d (elimination.Wide e) h = inr (D, d, inl h)
marks_fail n L G D d elimination.Memory h = tt

pub list_fail : (n : ℕ) (L G D : List Row) → IsDoubleList n L G D → (f : DdFail) → IsShown n D f → IsShownPlace n L G (fail_of_engine f)
list_fail n L G D d (dd.Wide e) h = inr (D, d, h)
list_fail n L G D d (dd.Many e) h = inl (inr (D, d, h))
list_fail n L G D d dd.Memory h = tt

-- ---- the list that is taken
own_many : (B G : List Row) (marks : List Bool) → length marks ≡ length (both_signs B ++ G) → length (drop (2 * length B) marks) ≡ length G
own_many B G marks e = length-drop (2 * length B) marks ∙ (let h = signs_long B G in omega arith)

pub stated_made : (n : ℕ) (L G B D J : List Row) (P : List ℕ) (marks : List Bool) (places : List ℕ) (start : ℕ) → IsBasisOf n L B P → D ≡ both_signs B ++ G → MarkEnlarging D marks → places ≡ stated_places (drop (2 * length B) marks) → J ≡ rows_at G (stated_places (drop (2 * length B) marks)) → start ≡ length (places_marked true (drop (2 * length B) marks) 0) → IsStatedList n L G B D J places start
stated_made n L G B D J P marks places start b d m e r s =
    let en : MarkEnlarging (both_signs B ++ G) marks = subst (λ (Z : List Row). MarkEnlarging Z marks) d m in
    record { pivots = P; is_basis = b; list = d; marks = marks; enlarging = en; leads = leads n L B G P marks b en; places_are = e; rows_are = r; start_is = s }

pub marks_many : (B G D : List Row) (marks : List Bool) → D ≡ both_signs B ++ G → length marks ≡ length D → length (drop (2 * length B) marks) ≡ length G
marks_many B G D marks d e = own_many B G marks (e ∙ ap length d)

module _ (n : ℕ) (L G B D J : List Row) (places : List ℕ) (start : ℕ) (hL : HasCols n L) (hG : HasCols n G) (t : IsStatedList n L G B D J places start) where
  abbrev own : List Bool
  own = drop (2 * length B) t.marks

  pub is_double : IsDoubleList n L G D
  is_double = record { basis = B; pivots = t.pivots; is_basis = t.is_basis; list = t.list }

  pub arranged : IsArrangement D B J start
  arranged = rw (t.list, t.rows_are, t.start_is) (taken_arranged B G t.marks t.enlarging t.leads)

  pub basis_few : length B ≤ length L
  basis_few = independent_are_few B L (basis_is_independent n B t.pivots t.is_basis.echelon.basis) (λ i l. span_to t.is_basis.span (span_at i l))

  pub rows_many : length J ≡ length G
  rows_many = ap length t.rows_are ∙ stated_many n L G B t.pivots t.marks hL hG t.is_basis t.enlarging t.leads

  pub places_many : length places ≡ length G
  places_many = ap length t.places_are ∙ length_stated (drop (2 * length B) t.marks) ∙ own_many B G t.marks t.enlarging.as_many

  pub facets : (F H : List Row) → AreGenerators n (CutOut D) F H → AreFacets n G L F H
  facets F H g = facets_of n G L hG hL (list_generators n L G D is_double g)

  cell_names : AreNames (length G) (stated_places (drop (2 * length B) t.marks))
  cell_names = names n L G B t.pivots (drop (2 * length B) t.marks) hL hG t.is_basis (subst (λ (Z : List Bool). MarkEnlarging (both_signs B ++ G) Z) t.leads.marked t.enlarging)

  pub apart : (f : ℕ) → f ≤ length J → (T : List (List ℕ)) → All (IsAscending f) T → AllPairs IsLexBefore T → AllPairs (λ s t. ¬ (s ≡ t)) (map (named (length G) places) T)
  apart f l T up o = rw t.places_are (named_apart (length G) (stated_places (drop (2 * length B) t.marks)) cell_names f (let a = rows_many in let b = places_many in let e = ap length t.places_are in omega arith) T up (ordered_apart T o))

  rising : (T S : List (List ℕ)) → HaveSameSets S (map (named (length G) places) T) → All (IsAscending (length G)) S
  rising T S same = All_among (IsAscending (length G)) S (λ s i. let r = map_among (named (length G) places) T (among_Contains (map (named (length G) places) T) ((same s).0 (Contains_among i))) in subst (λ (z : List ℕ). IsAscending (length G) z) (sym r.2) (named_ascending (length G) places r.0))

  pub answered : (T S : List (List ℕ)) → IsRunTo n B J start (length J) T → HaveSameSets S (map (named (length G) places) T) → AllPairs IsLexBefore S → IsPlacingTriangulation n L G S
  answered T S r same o = (
    B,
    record {
      pivots = t.pivots;
      is_basis = t.is_basis;
      cells = map (named (length G) places) T;
      placing = rw t.places_are (all_placed n L G B t.pivots t.marks hL hG t.is_basis t.enlarging t.leads T (rw (t.rows_are, t.start_is) at r));
      same = same;
      ascending = rising T S same;
      ordered = o;
    },
  )

  pub crowded : (f : ℕ) (T S : List (List ℕ)) → IsCrowdedRun n B J start f T → HaveSameSets S (map (named (length G) places) T) → AllPairs IsLexBefore S → most_rows < length S → AreCrowdedCells n L G (f + 2 * length B) S
  crowded f T S r same o many = (
    (
      B,
      record {
        pivots = t.pivots;
        is_basis = t.is_basis;
        cells = map (named (length G) places) T;
        placing =
            let e : 2 * length B + f ≡ f + 2 * length B = omega arith in
            let run = r.run in
            rw t.places_are (rw e at (run_places n L G B t.pivots t.marks hL hG t.is_basis t.enlarging t.leads f (let a = rows_many in let b = r.within in omega arith) T (rw (t.rows_are, t.start_is) at run)));
        same = same;
        ascending = rising T S same;
        ordered = o;
      },
    ),
    many,
  )

  -- ---- places of cells
  pub fits : (f : RunFail) → length G < 2 ^ 30 → length L < 2 ^ 30 → (lead : ℕ) → lead ≡ 2 * length B → IsListFail n D B J start f → FitsPlaces (length places) lead f
  fits (Engine e) lg ll lead le h = tt
  fits (Crowd f cells) lg ll lead le h = (
    all_within (λ s. s.items) cells.items f (length places) (let a = h.within in let b = rows_many in let d = places_many in omega arith) h.ascending,
    (let a = h.within in let b = rows_many in let d = basis_few in omega arith),
  )

  pub shown : (f : RunFail) (p : PlaceFail) (lead : ℕ) → lead ≡ 2 * length B → IsListFail n D B J start f → IsPlaceFailOf (length G) lead places f p → IsShownPlace n L G p
  shown (Engine e) p lead le h q = rw q (list_fail n L G D is_double e h)
  shown (Crowd f cells) (Wide e) lead le h q = absurd q
  shown (Crowd f cells) (Many (E5Cells g made)) lead le h q =
      let same : HaveSameSets made (map (named (length G) places) (map (λ s. s.items) cells.items)) = subst (λ (Z : List (List ℕ)). HaveSameSets made Z) (sym (map_twice (named (length G) places) (λ s. s.items) cells.items)) q.1 in
      let differ = apart f (let a = h.within in omega arith) (map (λ s. s.items) cells.items) h.ascending h.ordered in
      let many : length made ≡ length (map (λ s. named (length G) places s.items) cells.items) = q.3 (subst (λ (Z : List (List ℕ)). AllPairs (λ s t. ¬ (s ≡ t)) Z) (map_twice (named (length G) places) (λ s. s.items) cells.items) differ) in
      let m = h.many in
      let e1 = length-map cells.items (λ s. s.items) in
      let e2 = length-map cells.items (λ s. named (length G) places s.items) in
      inr (subst (λ (k : ℕ). AreCrowdedCells n L G k made) (sym (q.0 ∙ ap (λ (z : ℕ). f + z) le)) (crowded f (map (λ s. s.items) cells.items) made h same q.2 (omega arith)))
  shown (Crowd f cells) (Many (E1 a)) lead le h q = absurd q
  shown (Crowd f cells) (Many (E2 a b d e)) lead le h q = absurd q
  shown (Crowd f cells) (Many (E3 a b d e g)) lead le h q = absurd q
  shown (Crowd f cells) (Many (E4 a b)) lead le h q = absurd q
  shown (Crowd f cells) (Many (E5Rays a b)) lead le h q = absurd q
  shown (Crowd f cells) (Many (E5Rows a)) lead le h q = absurd q
  shown (Crowd f cells) (Many (E5Faces a)) lead le h q = absurd q
  shown (Crowd f cells) Memory lead le h q = tt

pub placed_cells : {A : Type 0} (items : A → List ℕ) (n : ℕ) (L G : List Row) (places : List ℕ) (cells : List A) (S : List (List ℕ)) → HasCols n L → HasCols n G → IsPlacedRun n L G places (map items cells) → HaveSameSets S (map (λ s. named (length G) places (items s)) cells) → AllPairs IsLexBefore S → IsPlacingTriangulation n L G S
placed_cells items n L G places cells S hL hG r same o = answered n L G r.basis r.list r.rows places r.start hL hG r.stated (map items cells) S r.run (subst (λ (Z : List (List ℕ)). HaveSameSets S Z) (sym (map_twice (named (length G) places) items cells)) same) o
