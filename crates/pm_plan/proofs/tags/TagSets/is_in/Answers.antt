use Rattle.pm_plan.proofs.Tagged.{some_by_test}
use Rattle.pm_plan.proofs.tags.TagSets.is_in.Goals as goal

pub returns : goal.returns
returns c =
    let members = c.intersection.ensures.members in
    some_by_test c.args.tag c.args.set c.tagged.result c.intersection.result c.tagged.ensures members
    c.is_empty.result c.is_empty.ensures.none
