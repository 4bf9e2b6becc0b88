-- The file that was read is whole.
use Rattle.pm_filing.proofs.load.load_object.Goals as goal

pub load_file-requires : goal.load_file-requires
load_file-requires c = record { whole = c.in_ok-file.ensures.whole; objectives = c.in_ok-file.ensures.objectives }
