-- Where the rows are short their products stay in the range.
use Rattle.pm_incidence.proofs.ShortRows.{AllStay-short}
use Rattle.pm_incidence.proofs.sets.places_by.Goals as goal

pub returns-then-short-clause-stays : goal.returns-then-short-clause-stays
returns-then-short-clause-stays c = λ narrow.
    let short = c.requires.short c.if-short.true in
    AllStay-short c.args.facet.now c.args.vertices.now short.0 short.1
