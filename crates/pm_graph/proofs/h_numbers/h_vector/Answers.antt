use Rattle.pm_geom.specs.FaceCounts.{h_of}
use Rattle.pm_graph.proofs.HNumbers.{none_for, numbers_for, unsigned_is}
use Rattle.pm_graph.proofs.h_numbers.h_vector.Goals as goal
use Rattle.pm_graph.specs.HVectors.{HaveFit}
use Rattle.std.proofs.Common.{[], pos, ◌≡◌}
use Rattle.std.proofs.lemmas.Int.{to_z-of_z}
use Rattle.std.proofs.lemmas.Result.{IfOk-weaker}
use mir.Syntax.{w64}

pub returns-in-Ok-clause-numbers : goal.returns-in-Ok-clause-numbers
returns-in-Ok-clause-numbers c =
    let k = to_z-of_z w64 c.args.d c.ranges.d in
    let w = rw k at c.in-Ok.ensures in
    let e : pos c.in-Ok.dim ≡ c.args.d = unsigned_is c.args.d c.in-Ok.dim w.0 w.1 in
    IfOk-weaker c.numbers.result (λ h. HaveFit c.args.f.now c.in-Ok.dim → h.items ≡ h_of c.args.f.now c.in-Ok.dim) _ (λ h g. numbers_for c.args.f.now c.args.d c.in-Ok.dim h.items e g) c.numbers.ensures.numbers

pub returns-in-Ok-clause-none : goal.returns-in-Ok-clause-none
returns-in-Ok-clause-none c =
    let k = to_z-of_z w64 c.args.d c.ranges.d in
    let w = rw k at c.in-Ok.ensures in
    let e : pos c.in-Ok.dim ≡ c.args.d = unsigned_is c.args.d c.in-Ok.dim w.0 w.1 in
    IfOk-weaker c.numbers.result (λ h. ¬ (HaveFit c.args.f.now c.in-Ok.dim) → h.items ≡ []) _ (λ h g. none_for c.args.f.now c.args.d c.in-Ok.dim h.items e c.if-dim-le-MOST_DIMENSIONS.true c.if-f-dim.true g) c.numbers.ensures.none
