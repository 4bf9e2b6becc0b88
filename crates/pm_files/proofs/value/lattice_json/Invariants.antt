-- As many ranks as were read stand in the list.
use Rattle.std.proofs.Common.{◌≡◌, map, take}
use Rattle.serde_json.specs.View.{view}
use Rattle.pm_types.specs.Lists.{lists_of}
use Rattle.pm_files.specs.ValueJson.{edges_json}
use Rattle.pm_files.proofs.value.lattice_json.Given as goal

abbrev pub invariant-loop-faces : goal.invariant-loop-faces
invariant-loop-faces l = map view l.items.items ≡ take l.faces-index (map (λ faces. edges_json (lists_of faces)) l.ranks)
