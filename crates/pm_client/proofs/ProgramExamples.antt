-- The examples of linear programs hold.
use Rattle.pm_client.proofs.NoRows.{none_primitive}
use Rattle.pm_vector.proofs.ConeLaws.{dot_in}
use Rattle.pm_vector.proofs.Lists.{Among, Contains_among, here, there}
use Rattle.pm_vector.specs.Cones.{InCone}
use Rattle.pm_vector.specs.Rows.{Row, dot, opposite}
use Rattle.pm_vector.specs.Bases.{row_at}
use Rattle.pm_client.proofs.ThinningExamples.{no_end, no_others}
use Rattle.pm_client.specs.Examples.{ProgramsAreRead, no_rows, single, without_rows}
use Rattle.pm_client.specs.Sound.{AreParts, ArePartsOf, IsLineList, IsWideFeasibility, IsWideOptimum, IsWideProgramOf, IsWideThinningOf, are_parts, finds_optimum}
use Rattle.pm_dd.proofs.ZeroRows.{no_basis}
use Rattle.pm_vector.specs.Evidence.{IsBasisOf}
use Rattle.pm_geom.specs.declared.evidence.Evidence.{Evidence}
use Rattle.pm_geom.specs.declared.evidence.Evidence.TheVariants.{E3}
use Rattle.pm_props.specs.declared.property.PropId.TheVariants.{AffineHull, Equations, Facets, Inequalities, InputLineality, LinealitySpace}
use Rattle.pm_props.specs.declared.property.PropId.{PropId}
use Rattle.pm_simplex.specs.Generated.{IsWideThinning, no_objective}
use Rattle.pm_simplex.specs.Lineality.{MarkLines, line_group}
use Rattle.pm_simplex.specs.Answers.{ShowsProgram}
use Rattle.pm_simplex.specs.declared.sense.Sense.TheVariants.{Maximal, Minimal}
use Rattle.pm_simplex.specs.declared.sense.Sense.{Sense}
use Rattle.std.proofs.Common.{ap, arith, false, inl, inr, refl, subst, suc, sym, true, true≢false, zero, ◌∙◌}
use Rattle.std.proofs.lemmas.Int.{ints}
use Rattle.std.specs.Option.{is_some}
use Rattle.std.specs.Prelude.{Bool, IsTrue, List, [], codes, get_or, length, ℕ, ◌++◌, ◌<◌, ◌∷◌, ◌≡◌, ◌↔◌}
use lib.IntN.{pos}
use lib.Signed.{le_z_yes, ◌≤ℤ◌}

-- ---- what was read
read_parts : (name : List ℕ) → ArePartsOf (without_rows name) Equations Inequalities [] (single 1 ∷ [])
read_parts name = record {
  first_cols = 0;
  second_cols = 0;
  first_rows = [];
  second_rows = [];
  reads_first = refl;
  reads_second = refl;
  ys = [];
  first_primitive = none_primitive;
  second_primitive = none_primitive;
  added = refl;
}

both_parts : (name : List ℕ) → AreParts (without_rows name) [] (single 1 ∷ [])
both_parts name = record { first = Equations; second = Inequalities; parts = refl; read = read_parts name }

these_parts : (name : List ℕ) (E A : List Row) → ArePartsOf (without_rows name) Equations Inequalities E A → (E ≡ []) × (A ≡ single 1 ∷ [])
these_parts name E A h =
    let y : h.ys ≡ [] = no_others (without_rows name) Inequalities h.second_cols h.second_rows h.ys refl h.reads_second h.second_primitive in
    (no_others (without_rows name) Equations h.first_cols h.first_rows E refl h.reads_first h.first_primitive, h.added ∙ ap (λ z. z ++ single 1 ∷ []) y)

no_other_parts : (name : List ℕ) (p q : PropId) (L G : List Row) → ArePartsOf (without_rows name) p q L G → are_parts p q ≡ true → (L ≡ []) × (G ≡ single 1 ∷ [])
no_other_parts name Equations Inequalities L G h parts = these_parts name L G h
no_other_parts name InputLineality q L G h parts = absurd (true≢false (sym (ap is_some h.reads_first)))
no_other_parts name LinealitySpace q L G h parts = absurd (true≢false (sym (ap is_some h.reads_first)))
no_other_parts name AffineHull q L G h parts = absurd (true≢false (sym (ap is_some h.reads_first)))
no_other_parts name p q L G h parts = absurd (true≢false (sym parts))

only_parts : (name : List ℕ) (L G : List Row) → AreParts (without_rows name) L G → (L ≡ []) × (G ≡ single 1 ∷ [])
only_parts name L G h = no_other_parts name h.first h.second L G h.read h.parts

-- ---- the lineality
not_behind : ¬ (InCone (single 1 ∷ []) [] (opposite (single 1)))
unfolding opposite
not_behind h = let p = dot_in (single 1) (single 1 ∷ []) [] (λ k i. up k i) (λ l i. elim i [ ]) h in omega (arith, ints)
  where
    up : (k : Row) → Among k (single 1 ∷ []) → pos 0 ≤ℤ dot (single 1) k
    up k here = le_z_yes tt
    up k (there i) = elim i [ ]

unmarked : MarkLines (single 1 ∷ []) [] (false ∷ [])
unmarked = record { as_many = refl; each = each }
  where
    each : (i : ℕ) → i < 1 → IsTrue (get_or (false ∷ []) i false) ↔ InCone (single 1 ∷ []) [] (opposite (row_at (single 1 ∷ []) i))
    each zero l = (λ t. absurd (true≢false (sym t)), λ h. absurd (not_behind h))
    each (suc i) l = absurd (omega arith)

no_line : (marks : List Bool) → MarkLines (single 1 ∷ []) [] marks → line_group (single 1 ∷ []) [] marks ≡ []
no_line [] h = refl
no_line (true ∷ marks) h = absurd (not_behind ((h.each 0 (omega arith)).0 refl))
no_line (false ∷ []) h = refl
no_line (false ∷ b ∷ marks) h = absurd (let k = h.as_many in omega arith)

no_lines : (name : List ℕ) (X : List Row) → IsLineList (without_rows name) X → X ≡ []
no_lines name X h =
    let r = only_parts name h.lines h.rows h.read in
    let m : MarkLines (single 1 ∷ []) [] h.marks = subst (λ G. MarkLines G [] h.marks) r.1 (subst (λ L. MarkLines h.rows L h.marks) r.0 h.marked) in
    h.group ∙ ap (λ G. line_group G h.lines h.marks) r.1 ∙ ap (λ L. line_group (single 1 ∷ []) L h.marks) r.0 ∙ no_line h.marks m

empty_basis : IsBasisOf 1 [] [] []
empty_basis = record { echelon = no_basis 1; span = record { same = λ x. (λ h. h, λ h. h) } }

-- ---- programs
thinned_rows : (name : List ℕ) (e : Evidence) → IsWideThinningOf (without_rows name) e → IsWideThinning 1 (single 1 ∷ []) [] e
thinned_rows name e h =
    let r = only_parts name h.lines h.rows h.read in
    subst (λ G. IsWideThinning 1 G [] e) r.1 (subst (λ L. IsWideThinning 1 h.rows L e) r.0 h.shown)

feasible_rows : (name : List ℕ) (e : Evidence) → IsWideFeasibility (without_rows name) e → ShowsProgram (single 1 ∷ []) [] (no_objective 1) e
feasible_rows name e h =
    let r = these_parts name h.equations h.inequalities h.read in
    subst (λ A. ShowsProgram A [] (no_objective 1) e) r.1 (subst (λ E. ShowsProgram h.inequalities E (no_objective 1) e) r.0 h.shown)

-- double description finds no optimum
pub finds_none : (sense : Sense) (p : PropId) → finds_optimum no_rows.kind sense p ≡ false
finds_none Maximal Facets = refl
finds_none Maximal Inequalities = refl
finds_none Maximal p = refl
finds_none Minimal Facets = refl
finds_none Minimal Inequalities = refl
finds_none Minimal p = refl

pub no_optimum : (e : Evidence) → ¬ (IsWideOptimum no_rows e)
no_optimum e h = true≢false (sym h.named ∙ finds_none h.sense h.second)

no_program : (e : Evidence) → ¬ (IsWideProgramOf no_rows e)
no_program e h = elim h [
  | inl w ↦ true≢false (sym w.named)
  | inr w ↦ elim w [ inl f ↦ true≢false (sym f.named) | inr f ↦ no_optimum e f ]
]

pub programs_are_read : ProgramsAreRead
programs_are_read = record {
  thinning_client = refl;
  not_thinning = refl;
  of_thinning = refl;
  thins_rows = refl;
  thins_points = refl;
  lines = record { lines = []; rows = single 1 ∷ []; read = both_parts (codes "dd_vertices"); marks = false ∷ []; marked = unmarked; group = refl };
  not_lines = λ h. let e = ap length (no_lines (codes "dd_vertices") (single 1 ∷ []) h) in omega arith;
  basis_and_row = record {
    lines = [];
    rows = single 1 ∷ [];
    read = both_parts (codes "dd_vertices");
    marks = false ∷ [];
    marked = unmarked;
    last = record { basis = []; pivots = []; is_basis = empty_basis; row = single 1; listed = Contains_among (here {xs = []}); rows = refl };
  };
  no_basis_and_row = λ h. no_end h.last.basis h.last.row h.last.rows;
  thinned = λ e h. record { named = refl; lines = []; rows = single 1 ∷ []; read = both_parts (codes "thin_inequalities_lp"); shown = h };
  these_rows = λ e h. thinned_rows (codes "thin_inequalities_lp") e h;
  feasible = λ e h. record { named = refl; equations = []; inequalities = single 1 ∷ []; read = read_parts (codes "feasible_lp"); shown = h };
  this_program = λ e h. feasible_rows (codes "feasible_lp") e h;
  held = λ basis enter leave row column h. inr (inl (record { named = refl; equations = []; inequalities = single 1 ∷ []; read = read_parts (codes "feasible_lp"); shown = h }));
  not_held = λ basis enter leave row column h. no_program (E3 basis enter leave row column) h;
  other_client = no_program;
  product = λ name h. elim h [ inl w ↦ w.shown.shown.shown | inr w ↦ elim w [ inl f ↦ f.shown.shown | inr f ↦ f.shown.shown ] ];
  crowded = λ places h. record {
    named = refl;
    equations = [];
    inequalities = [];
    reads_equations = record { cols = 0; rows = []; reads = refl; primitive = none_primitive };
    reads_inequalities = record { cols = 0; rows = []; reads = refl; primitive = none_primitive };
    shown = h;
  };
  wide = λ e. refl;
  memory = refl;
}
