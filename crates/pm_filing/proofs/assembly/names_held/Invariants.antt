-- What is left is added to what is held.
use Rattle.std.proofs.Common.{◌≡◌, drop, map}
use Rattle.std.specs.Prelude.{fold}
use Rattle.pm_props.specs.Sets.{only, union}
use Rattle.pm_filing.specs.Profiles.{names_held, values_in}
use Rattle.pm_filing.specs.ReadingViews.{part_seen}
use Rattle.pm_filing.proofs.assembly.names_held.Given as goal

abbrev pub invariant-loop-part : goal.invariant-loop-part
invariant-loop-part l = names_held (map part_seen l.parts) ≡ fold (λ s p. union s (only p)) l.held (map (λ x. x.0) (values_in (map part_seen (drop l.part-index l.parts))))
