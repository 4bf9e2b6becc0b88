use Rattle.std.proofs.Common.{refl}
use Rattle.pm_filing.proofs.SiteTurns.{objectives_fit}
use Rattle.pm_filing.specs.ReadingViews.{objectives_seen}
use Rattle.pm_types.specs.Views.{view_of}
use Rattle.pm_filing.proofs.tests_of_parts.fits_part.Goals as goal

pub returns-in-Programs : goal.returns-in-Programs
returns-in-Programs c = rw (c.in-Programs.is, objectives_fit (objectives_seen c.in-Programs.field-0.items) c.args.p (view_of c.args.v.now)) refl
