use Rattle.std.proofs.Common.{◌≡◌, drop, map}
use Rattle.pm_types.specs.Views.{view_of}
use Rattle.pm_filing.specs.FileReadings.{fits_sites, named_values}
use Rattle.pm_filing.specs.ReadingViews.{part_seen}
use Rattle.pm_filing.proofs.tests_of_parts.fits_sites.Given as goal

-- what is left decides
abbrev pub invariant-loop-part : goal.invariant-loop-part
invariant-loop-part l = fits_sites (named_values l.of (map part_seen l.tied)) l.p (view_of l.v) ≡ fits_sites (named_values l.of (map part_seen (drop l.part-index l.tied))) l.p (view_of l.v)
