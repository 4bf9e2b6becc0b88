-- What the standard clients may eliminate, by their rows.
use Rattle.pm_vector.proofs.Lists.{Contains_among, here}
use Rattle.pm_client.specs.Sound.{eliminated_by, row_list}
use Rattle.pm_object.specs.Reading.{ViewSeen}
use Rattle.pm_standard.specs.Table.{standard_kind}
use Rattle.pm_props.specs.declared.kind.Kind.{Kind}
use Rattle.pm_standard.specs.declared.standard.StandardClient.{StandardClient}
use Rattle.std.proofs.Common.{subst, sym}
use Rattle.std.specs.List.{Contains}
use Rattle.std.specs.Prelude.{[], ◌∷◌, ◌≡◌}
use Rattle.pm_client.proofs.Failing.{TakesRowList}

-- a client whose name says so
pub takes_alone : (v : ViewSeen) → eliminated_by v.kind ≡ row_list ∷ [] → TakesRowList v
takes_alone v alone = subst (λ ls. Contains ls row_list) (sym alone) (Contains_among (here {xs = []}))

-- a standard client whose name says so
pub takes_row_list : (v : ViewSeen) (c : StandardClient) → v.kind ≡ standard_kind c → eliminated_by (standard_kind c) ≡ row_list ∷ [] → TakesRowList v
takes_row_list v c kind alone = subst (λ (k : Kind). Contains (eliminated_by k) row_list) (sym kind) (subst (λ ls. Contains ls row_list) (sym alone) (Contains_among (here {xs = []})))
