use Rattle.pm_plan.proofs.Tagged.{blocked_is}
use Rattle.pm_plan.proofs.tags.TagSets.blocked.Goals as goal

pub returns : goal.returns
returns c =
    let rays = c.blocked_by-rays.ensures in
    let facets = c.blocked_by-facets.ensures in
    let generators = c.blocked_by-generators.ensures in
    let half_spaces = c.blocked_by-half_spaces.ensures in
    rw (c.union-3.ensures.value, c.union-2.ensures.value, c.union.ensures.value, rays, facets, generators, half_spaces)
    (blocked_is c.args.kind.now)
