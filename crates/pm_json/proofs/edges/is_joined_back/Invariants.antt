-- What is left decides.
use Rattle.std.proofs.Common.{◌≡◌, drop, map}
use Rattle.std.specs.List.{list_all}
use Rattle.pm_types.specs.Forms.{joins}
use Rattle.pm_json.proofs.edges.is_joined_back.Given as goal

abbrev pub invariant-loop-j : goal.invariant-loop-j
invariant-loop-j l = list_all (joins (map (λ set. set.items) l.rows) l.i) l.row ≡ list_all (joins (map (λ set. set.items) l.rows) l.i) (drop l.j-index l.row)
