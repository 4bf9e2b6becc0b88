-- What is left decides.
use Rattle.std.proofs.Common.{◌≡◌, drop, map}
use Rattle.pm_types.specs.Forms.{are_joined_back}
use Rattle.pm_json.proofs.edges.are_joined_back.Given as goal

abbrev pub invariant-loop-i : goal.invariant-loop-i
invariant-loop-i l =
    are_joined_back (map (λ set. set.items) l.rows) 0 (map (λ set. set.items) l.rows)
    ≡ are_joined_back (map (λ set. set.items) l.rows) l.i (map (λ set. set.items) (drop l.i l.rows))
