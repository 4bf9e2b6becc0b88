use Rattle.pm_props.proofs.Ascii.{ascii_by_test}
use Rattle.pm_standard.proofs.standard.StandardClient.row.Goals as goal

pub finding-requires-clause-ascii : goal.finding-requires-clause-ascii
finding-requires-clause-ascii c = ascii_by_test _ c.entry-entry.ensures.ascii
