-- What is left decides.
use Rattle.std.proofs.Common.{◌≡◌, drop, bytes_eq}
use Rattle.std.specs.List.{list_any}
use Rattle.pm_filing.specs.ReadingViews.{marks_seen}
use Rattle.pm_filing.proofs.profile.has_label.Given as goal

abbrev pub invariant-loop-mark : goal.invariant-loop-mark
invariant-loop-mark l = list_any (λ m. bytes_eq m.0 l.label) (marks_seen l.marks) ≡ list_any (λ m. bytes_eq m.0 l.label) (marks_seen (drop l.mark-index l.marks))
