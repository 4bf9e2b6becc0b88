use Rattle.pm_vector.specs.Cones.{InCone}
use Rattle.pm_incidence.proofs.Described.{if_ok, vertices_of_thin, zero_cone, zero_generators}
use Rattle.pm_incidence.proofs.by_incidence.vertices_by_incidence.Goals as goal
use Rattle.pm_incidence.specs.Thinning.{HasPointAmong}
use Rattle.std.proofs.Common.{false, true, ◌≡◌}

pub returns-then-not-has_point-clause-generators : goal.returns-then-not-has_point-clause-generators
returns-then-not-has_point-clause-generators c = λ hH cut.
    let G = c.args.g.now.rays.items in
    let L = c.args.g.now.lineality.items in
    let none : ¬ (HasPointAmong c.args.of G) = λ p. let e : false ≡ true = rw c.if-not-has_point.true at (c.has_point.ensures.1 (rw c.deref.ensures.value p)) in cc in
    rw (c.new.ensures.items, c.new-then-not-has_point.ensures.items) (zero_generators c.args.cols (InCone G L) (zero_cone c.args.cols c.requires.some_columns G L c.args.f.now.facets.items c.args.f.now.hull.items c.requires.ray_cols c.requires.line_cols c.args.of none cut))

pub returns-clause-generators : goal.returns-clause-generators
returns-clause-generators c = if_ok c.thin.result
    (λ r f hH cut. vertices_of_thin c.args.cols c.requires.some_columns c.args.g.now.rays.items c.args.g.now.lineality.items c.args.f.now.facets.items c.args.f.now.hull.items c.requires.ray_cols c.requires.line_cols hH c.args.of
    (rw c.deref.ensures.value at (c.has_point.ensures.0 c.if-not-has_point.false)) cut r.rays.items r.lineality.items f)
    (rw (c.deref-3.ensures.value, c.deref-4.ensures.value, c.deref-5.ensures.value, c.in_ok-cuts.ensures, c.deref-2.ensures.value) at c.thin.ensures.generators)
