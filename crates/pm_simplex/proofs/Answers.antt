-- What the two phases end with is right for the program.
use Rattle.pm_vector.specs.Numbers.{Ratio}
use Rattle.pm_vector.specs.Rows.{Row, entry}
use Rattle.pm_vector.specs.Bases.{column, row_at}
use Rattle.pm_fraction.specs.Fractions.{ratio_of}
use Rattle.pm_geom.specs.Programs.{IsInfeasible, IsOptimal, IsUnbounded}
use Rattle.pm_programs.specs.Dictionaries.{at, row_of}
use Rattle.pm_simplex.proofs.Arranged.{at_objective, enters_no_help, enters_no_residual}
use Rattle.pm_simplex.proofs.Certificates.{optimal_gives_dual}
use Rattle.pm_simplex.proofs.Directions.{unbounded_gives_direction}
use Rattle.pm_simplex.proofs.EvidenceLaws.{feasible}
use Rattle.pm_simplex.proofs.Infeasible.{contradiction_excludes, least_auxiliary_excludes}
use Rattle.pm_simplex.proofs.KeyColumns.{in_other}
use Rattle.pm_simplex.proofs.Listed.{listed}
use Rattle.pm_simplex.proofs.Phases.{phase_is_bounded, phase_is_least}
use Rattle.pm_simplex.proofs.Points.{feasible_gives_point}
use Rattle.pm_simplex.proofs.Solutions.{at_basic, at_other, sorted}
use Rattle.pm_simplex.specs.Answers.{IsProgram, IsReady, IsStuck, Program}
use Rattle.pm_simplex.specs.Comparisons.{direction, key_of, rows_of}
use Rattle.pm_simplex.specs.OptimalDuals.{IsDictionaryDual}
use Rattle.pm_simplex.specs.ProgramLaws.{AreMultipliersOf, IsSystem, dual_of, signed_by}
use Rattle.pm_simplex.specs.Phases.{IsPhaseSystem}
use Rattle.pm_simplex.specs.Running.{IsArranged, IsContradiction, IsOptimalAt, IsResidualColumn, IsState, IsUnboundedAt, IsWithoutHelp}
use Rattle.pm_simplex.specs.Solutions.{IsSettled, Lists, solution, solution_at, turned}
use Rattle.pm_simplex.specs.States.{auxiliary, columns_of, key_found, upward}
use Rattle.pm_simplex.specs.declared.dictionary.Dictionary.{Dictionary}
use Rattle.pm_simplex.specs.declared.entering.Entering.{Entering}
use Rattle.pm_simplex.specs.declared.layout.Layout.{Layout}
use Rattle.std.proofs.Common.{ap, ap₂, arith, inl, inr, refl, subst, sym, ◌∙◌}
use Rattle.std.proofs.lemmas.Int.{by_lt_z, ints}
use Rattle.std.proofs.lemmas.List.{length-map}
use Rattle.std.specs.Prelude.{Bool, IfNone, IfSome, IsTrue, List, MatchOption, None, Option, Some, [], false, length, map, suc, true, zero, ℕ, ◌+◌, ◌<◌, ◌∷◌, ◌≡◌, ◌≤◌, ◌↔◌}
use lib.IntN.{neg_ℤ, negsuc, pos, ℤ, ◌*ℤ◌}
use lib.Signed.{◌<ℤ◌}

-- ---- the auxiliary variable and the residuals are 0 in the solution of a column that is none of them
module _ (y : Layout) (A B : List Row) (C : Row) (k : ℤ) (S : List Row) (sys : IsSystem y A B C k S) (d : Dictionary) (z : ℕ) (st : IsState y S d z) (arr : IsArranged y d) (out : IsWithoutHelp y d) (p : ℕ) (lp : p < length d.others.items)
    (no_residual : ¬ (IsResidualColumn y (column d.others.items p))) (no_help : ¬ (column d.others.items p ≡ auxiliary y)) where
  count : length (rows_of d) ≡ length d.basis.items
  count = length-map d.rows.items (λ r. r.items) ∙ st.shaped.rectangular.count

  width : (i c : ℕ) → i < length S → ¬ (c < columns_of y) → entry (row_at S i) c ≡ pos 0
  width i c li n = sys.end i c (omega arith)

  pub settled : IsSettled y d p
  settled = record {
    auxiliary_zero = ap (λ (r : Ratio). r.num) (at_other S d.basis.items d.others.items (rows_of d) (columns_of y) p st.dictionary count st.apart lp st.shaped.cover width (auxiliary y) (λ e. no_help (sym e)) out.absent);
    residuals_zero = λ j lj. elim (sorted S d.basis.items d.others.items (rows_of d) (columns_of y) p st.dictionary count st.apart lp st.shaped.cover width (y.cols + y.slacks + j)) [
      | inl e ↦ absurd (no_residual (subst (λ c. IsResidualColumn y c) e (omega arith, omega arith)))
      | inr (inl (i, li, e)) ↦
          subst (λ c. (solution_at (column d.others.items p) p d.basis.items (rows_of d) c).num ≡ pos 0) e
          (ap (λ (r : Ratio). r.num) (at_basic S d.basis.items d.others.items (rows_of d) (columns_of y) p st.dictionary count st.apart lp st.shaped.cover width i li)
          ∙ (arr.settled i li (subst (λ c. IsResidualColumn y c) (sym e) (omega arith, omega arith))).zero p lp no_residual)
      | inr (inr q) ↦ ap (λ (r : Ratio). r.num) q
    ];
  }

-- ---- lists by signs
signed_turned : (up : Bool) (f : ℕ → Ratio) (N : List ℕ) → map (λ c. signed_by up (f c)) N ≡ turned (direction up) (map f N)
signed_turned up f [] = refl
signed_turned up f (n ∷ N) = ap₂ cons (one up (f n)) (signed_turned up f N)
  where
    cons : Ratio → List Ratio → List Ratio
    cons a b = a ∷ b

    one : (up : Bool) (r : Ratio) → signed_by up r ≡ ratio_of (direction up *ℤ r.num) r.den
    one true r = ap (λ n. ratio_of n r.den) (sym (single r.num))
      where
        single : (n : ℤ) → pos 1 *ℤ n ≡ n
        single n = omega (arith, ints)
    one false r = ap (λ n. ratio_of n r.den) (sym (minus r.num))
      where
        minus : (n : ℤ) → negsuc 0 *ℤ n ≡ neg_ℤ n
        minus n = omega (arith, ints)

map_as : (f g : ℕ → Ratio) (n m : ℕ) → ((j : ℕ) → n ≤ j → j < n + m → f j ≡ g j) → map f (upward n m) ≡ map g (upward n m)
map_as f g n zero h = refl
map_as f g n (suc m) h = ap₂ cons (h n (omega arith) (omega arith)) (map_as f g (n + 1) m (λ j l u. h j (omega arith) (omega arith)))
  where
    cons : Ratio → List Ratio → List Ratio
    cons a b = a ∷ b

-- ---- the answers
module _ (y : Layout) (g : Program) (d : Dictionary) (pr : IsProgram y g) (st : IsState y g.system d (y.slacks + y.residuals)) (arr : IsArranged y d) (out : IsWithoutHelp y d) where
  settled_at : (p : ℕ) → p < length d.others.items → ¬ (IsResidualColumn y (column d.others.items p)) → ¬ (column d.others.items p ≡ auxiliary y) → IsSettled y d p
  settled_at p lp nr nh = settled y g.inequalities g.equations pr.equations.objective pr.equations.k g.system pr.equations.system d (y.slacks + y.residuals) st arr out p lp nr nh

  first_settled : IsSettled y d 0
  first_settled = settled_at 0 st.some (λ r. (let a = r.0 in let c = st.constant in let b = y.some in omega arith)) (λ e. (let c = st.constant in let b = y.some in omega arith))

  module _ (point : List Ratio) (lists : Lists (λ c. signed_by true (solution_at (column d.others.items 0) 0 d.basis.items (rows_of d) c)) 0 y.cols point) where
    point_is : point ≡ solution 0 0 d.basis.items (rows_of d) y.cols
    point_is = listed _ 0 y.cols point lists ∙ ap (λ n. map (solution_at n 0 d.basis.items (rows_of d)) (upward 0 y.cols)) st.constant

    point_cols : length point ≡ length g.objective
    point_cols = lists.count ∙ sym pr.cols

    dual_listed : (dual : List Ratio) → Lists (λ c. signed_by true (key_of d (y.slacks + y.residuals) c)) y.cols (y.slacks + y.residuals) dual → dual ≡ dual_of y d (y.slacks + y.residuals)
    dual_listed dual ld =
        listed _ y.cols (y.slacks + y.residuals) dual ld
        ∙ map_as (λ c. key_of d (y.slacks + y.residuals) c) (λ c. key_found c d.others.items (row_of (rows_of d) (y.slacks + y.residuals))) y.cols (y.slacks + y.residuals)
        (λ j l u. in_other (column d.basis.items (y.slacks + y.residuals)) d.others.items (row_of (rows_of d) (y.slacks + y.residuals)) j (λ e. (let o = arr.objective in omega arith)))

    -- it is the dual of an optimal dictionary
    pub dictionary_dual : IsOptimalAt y d (y.slacks + y.residuals) → (dual : List Ratio) → Lists (λ c. signed_by true (key_of d (y.slacks + y.residuals) c)) y.cols (y.slacks + y.residuals) dual → IsDictionaryDual y g.system dual
    dictionary_dual opt dual ld = record {
      basis = d.basis.items;
      others = d.others.items;
      fractions = rows_of d;
      row = y.slacks + y.residuals;
      optimal = record {
        dictionary = st.dictionary;
        constant = st.constant;
        within = st.within;
        objective = arr.objective;
        feasible = feasible y g.system d (y.slacks + y.residuals) st;
        without = out.absent;
        settled = λ i k li lk r n. (arr.settled i li r).zero k lk n;
        free = opt.free;
        slack = opt.slack;
      };
      is = dual_listed dual ld;
    }

    pub optimal : IsOptimalAt y d (y.slacks + y.residuals) → (dual : List Ratio) → Lists (λ c. signed_by true (key_of d (y.slacks + y.residuals) c)) y.cols (y.slacks + y.residuals) dual
        → IsOptimal g.inequalities g.equations g.objective (at (rows_of d) (y.slacks + y.residuals) 0) point dual
    optimal opt dual ld =
        let facts = feasible_gives_point y g.inequalities g.equations g.objective pr.equations.objective pr.equations.k g.system d (y.slacks + y.residuals) pr.equations.times pr.equations.system st arr.objective first_settled in
        let dual_is = dual_listed dual ld in
        subst (λ q. IsOptimal g.inequalities g.equations g.objective (at (rows_of d) (y.slacks + y.residuals) 0) q dual) (sym point_is)
        (subst (λ q. IsOptimal g.inequalities g.equations g.objective (at (rows_of d) (y.slacks + y.residuals) 0) (solution 0 0 d.basis.items (rows_of d) y.cols) q) (sym dual_is)
        (record {
          cols = ap length (sym point_is) ∙ point_cols;
          point = facts.0;
          value = facts.1;
          dual = optimal_gives_dual y g.inequalities g.equations g.objective pr.equations.objective pr.equations.k g.system d (y.slacks + y.residuals) pr.equations.times pr.equations.system st arr.objective opt;
        }))

    pub unbounded : (e : Entering) → IsUnboundedAt y d (y.slacks + y.residuals) e → (along : List Ratio) → Lists (λ c. signed_by e.up (solution_at (column d.others.items e.place) e.place d.basis.items (rows_of d) c)) 0 y.cols along
        → IsUnbounded g.inequalities g.equations g.objective point along
    unbounded e un along la =
        let facts = feasible_gives_point y g.inequalities g.equations g.objective pr.equations.objective pr.equations.k g.system d (y.slacks + y.residuals) pr.equations.times pr.equations.system st arr.objective first_settled in
        let along_is : along ≡ turned (direction e.up) (solution (column d.others.items e.place) e.place d.basis.items (rows_of d) y.cols) =
        listed _ 0 y.cols along la ∙ signed_turned e.up (solution_at (column d.others.items e.place) e.place d.basis.items (rows_of d)) (upward 0 y.cols) in
        let ray = unbounded_gives_direction y g.inequalities g.equations g.objective pr.equations.objective pr.equations.k g.system d (y.slacks + y.residuals) e pr.equations.times pr.equations.system st arr.objective
        (settled_at e.place un.entering.within (enters_no_residual y _ e.up un.entering.may_enter) (enters_no_help y _ e.up un.entering.may_enter)) un in
        subst (λ q. IsUnbounded g.inequalities g.equations g.objective q along) (sym point_is)
        (subst (λ q. IsUnbounded g.inequalities g.equations g.objective (solution 0 0 d.basis.items (rows_of d) y.cols) q) (sym along_is)
        (record {
          point_cols = ap length (sym point_is) ∙ point_cols;
          direction_cols = ap length (sym along_is) ∙ la.count ∙ sym pr.cols;
          point = facts.0;
          direction = ray.0;
          rate = ratio_of (direction e.up *ℤ (at (rows_of d) (y.slacks + y.residuals) e.place).num) (at (rows_of d) (y.slacks + y.residuals) e.place).den;
          value = ray.1;
          improves = ray.2;
        }))

-- ---- no point
multipliers_as : (y : Layout) (d : Dictionary) (r : ℕ) (up : Bool) (m : List Ratio) → Lists (λ c. signed_by up (key_of d r c)) y.cols (y.slacks + y.residuals) m → AreMultipliersOf y d r up m
multipliers_as y d r up m h = record { count = h.count; each = h.each }

pub stuck_excludes : (y : Layout) (g : Program) (d : Dictionary) (r : ℕ) (m : List Ratio) → IsProgram y g → IsStuck y g.system d r → Lists (λ c. signed_by false (key_of d r c)) y.cols (y.slacks + y.residuals) m → IsInfeasible g.inequalities g.equations m
stuck_excludes y g d r m pr st h =
    least_auxiliary_excludes y g.inequalities g.equations pr.equations.objective pr.equations.k g.system d (y.slacks + y.residuals + 1) (y.slacks + y.residuals) r m pr.equations.system st.state
    (let a = st.arranged.count in omega arith) st.arranged.objective st.least (multipliers_as y d r false m h)

pub contradiction_has_none : (y : Layout) (g : Program) (d : Dictionary) (r : ℕ) (up : Bool) (m : List Ratio) → IsProgram y g → IsContradiction y g.system d r → (direction up *ℤ (at (rows_of d) r 0).num) <ℤ pos 0 → Lists (λ c. signed_by up (key_of d r c)) y.cols (y.slacks + y.residuals) m → IsInfeasible g.inequalities g.equations m
contradiction_has_none y g d r up m pr c sign h = contradiction_excludes y g.inequalities g.equations pr.equations.objective pr.equations.k g.system d r up m pr.equations.system c sign (multipliers_as y d r up m h)

-- ---- the first phase
pub ready_from : (y : Layout) (S : List Row) (d : Dictionary) (z : ℕ) → IsState y S d z → IsArranged y d → IsWithoutHelp y d → IsReady y S d
ready_from y S d z st a o = record { state = at_objective y S d z st a; arranged = a; without = o }

pub stuck_from : (y : Layout) (S : List Row) (d : Dictionary) (r : ℕ) → IsPhaseSystem y S → IsState y S d (y.slacks + y.residuals + 1) → IsArranged y d → IsOptimalAt y d (y.slacks + y.residuals + 1) → r < length d.basis.items → column d.basis.items r ≡ y.cols + y.slacks + y.residuals → IsStuck y S d r
stuck_from y S d r ph st a opt lr e = record { state = st; arranged = a; least = phase_is_least y S d (y.slacks + y.residuals + 1) r ph st a.phase lr e opt }

pub never_unbounded : (y : Layout) (S : List Row) (d : Dictionary) (e : Entering) → IsPhaseSystem y S → IsState y S d (y.slacks + y.residuals + 1) → IsArranged y d → IsUnboundedAt y d (y.slacks + y.residuals + 1) e → ⊥
never_unbounded y S d e ph st a un = phase_is_bounded y S d (y.slacks + y.residuals + 1) e ph st a.phase un

-- the sign of a constant that is not 0
pub sign_of : (b : Bool) (r x : Ratio) → (IsTrue b ↔ (r.num <ℤ pos 0)) → r ≡ x → ¬ (x.num ≡ pos 0) → (direction b *ℤ x.num) <ℤ pos 0
sign_of true r x h e n = let p = subst (λ (z : Ratio). z.num <ℤ pos 0) e (h.0 refl) in omega (arith, ints)
sign_of false r x h e n =
    by_lt_z x.num (pos 0)
    (λ l. absurd (no (h.1 (subst (λ (z : Ratio). z.num <ℤ pos 0) (sym e) l))))
    (λ l. let m : ¬ (x.num ≡ pos 0) = n in omega (arith, ints))
  where
    no : false ≡ true → ⊥
    no q = cc

pub phase_end : (y : Layout) (S : List Row) (d : Dictionary) (o : Option ℕ) → IsPhaseSystem y S → IsState y S d (y.slacks + y.residuals + 1) → IsArranged y d → IsOptimalAt y d (y.slacks + y.residuals + 1)
    → IfSome o (λ i. i < length d.basis.items) → IfSome o (λ i. column d.basis.items i ≡ y.cols + y.slacks + y.residuals) → IfNone o ((i : ℕ) → i < length d.basis.items → ¬ (column d.basis.items i ≡ y.cols + y.slacks + y.residuals))
    → MatchOption o (IsReady y S d) (IsStuck y S d)
phase_end y S d None ph st a opt lr e none = ready_from y S d (y.slacks + y.residuals + 1) st a (record { absent = none })
phase_end y S d (Some r) ph st a opt lr e none = stuck_from y S d r ph st a opt lr e
