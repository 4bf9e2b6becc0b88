-- What is left is put after what was put.
use Rattle.std.proofs.Common.{◌≡◌, drop, map}
use Rattle.pm_types.specs.Views.{view_of}
use Rattle.serde_json.specs.View.{members_view}
use Rattle.pm_files.specs.Files.{with_values}
use Rattle.pm_files.proofs.write.put_values.Given as goal

abbrev pub invariant-loop-value : goal.invariant-loop-value
invariant-loop-value l = with_values l.of (map (λ v. (v.0, view_of v.1)) l.values) (members_view l.fn.members.entries) ≡ with_values l.of (map (λ v. (v.0, view_of v.1)) (drop l.value-index l.values)) (members_view l.members.entries)
