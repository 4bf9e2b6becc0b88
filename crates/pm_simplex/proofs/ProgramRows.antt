-- Programs of matrices.
use Rattle.pm_vector.specs.Numbers.{Ratio}
use Rattle.pm_vector.specs.Rows.{HasCols, Row}
use Rattle.pm_fraction.specs.FractionRows.{ArePrimitiveRowsOf}
use Rattle.pm_fraction.specs.Matrices.{FractionMatrix, IsMatrix}
use Rattle.pm_simplex.proofs.EvidenceLaws.{wide_as}
use Rattle.pm_simplex.proofs.Points.{all_places}
use Rattle.pm_simplex.specs.Answers.{ShowsProgram}
use Rattle.pm_simplex.specs.Evidence.{IsShownBy}
use Rattle.pm_simplex.specs.Fails.{IfWide}
use Rattle.pm_simplex.specs.OptimalDuals.{HasDictionaryDual, IsDictionaryAnswer}
use Rattle.pm_simplex.specs.Systems.{equations_of}
use Rattle.pm_dual.specs.declared.answer.LpAnswer.TheVariants.{Infeasible, Optimal, Unbounded}
use Rattle.pm_dual.specs.declared.answer.LpAnswer.{LpAnswer}
use Rattle.pm_simplex.specs.declared.fails.LpFail.{LpFail}
use Rattle.pm_simplex.specs.declared.layout.Layout.{Layout}
use Rattle.std.proofs.Common.{arith, ◌∙◌}
use Rattle.std.specs.Prelude.{Err, IfErr, IfOk, List, [], Ok, Result, length, ◌≡◌}

pub primitive_cols : (m : FractionMatrix) (xs : List Row) → IsMatrix m → ArePrimitiveRowsOf m.rows xs → HasCols m.cols xs
primitive_cols m xs is are = all_places (λ x. length x ≡ m.cols) xs (λ i li. let l = are.count in (are.multiple i (omega arith)).cols ∙ is.shape i [] (omega arith))

pub has_dual : (y : Layout) (A B : List Row) (c : List Ratio) → y.cols ≡ length c → y.slacks ≡ length A → y.residuals ≡ length B → (r : Result LpAnswer LpFail) → IfOk r (IsDictionaryAnswer y (equations_of y A B c)) → IfOk r (HasDictionaryDual A B c)
has_dual y A B c nc na nb (Ok (Optimal value point dual)) h = record { layout = y; cols = nc; slacks = na; residuals = nb; dual = h }
has_dual y A B c nc na nb (Ok (Unbounded point direction)) h = tt
has_dual y A B c nc na nb (Ok (Infeasible multipliers)) h = tt
has_dual y A B c nc na nb (Err f) h = h

pub shows_program : (y : Layout) (A B : List Row) (c : List Ratio) → y.cols ≡ length c → y.slacks ≡ length A → y.residuals ≡ length B → (r : Result LpAnswer LpFail) → IfErr r (λ f. IfWide f (IsShownBy y (equations_of y A B c))) → IfErr r (λ f. IfWide f (ShowsProgram A B c))
shows_program y A B c nc na nb (Ok a) h = h
shows_program y A B c nc na nb (Err f) h = wide_as f (IsShownBy y (equations_of y A B c)) (ShowsProgram A B c) (λ e s. record { layout = y; cols = nc; slacks = na; residuals = nb; shown = s }) h
