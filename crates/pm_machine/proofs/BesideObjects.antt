-- What changes objects is the same beside any store.
use Rattle.pm_rounds.specs.Events.{Configuration}
use Rattle.pm_machine.specs.Machines.{Becomes, Gains, Loses, Machine, Stays, Store}
use Rattle.pm_machine.specs.Steps.{Unloads}
use Rattle.pm_object.specs.State.{State}
use Rattle.std.proofs.Common.{refl}
use Rattle.std.specs.Prelude.{List, ℕ}

-- the machine beside another store
abbrev pub beside : Store → Machine → Machine
beside k m = record m { store = k }

pub stays_beside : (k : Store) (old new : Machine) → Stays old new → Stays (beside k old) (beside k new)
stays_beside k old new s = record { names = s.names; objects = s.objects; clients = s.clients; store = refl }

pub becomes_beside : (k : Store) (name : List ℕ) (c : Configuration) (old new : Machine) → Becomes name c old new → Becomes name c (beside k old) (beside k new)
becomes_beside k name c old new b = record { names = b.names; object = b.object; others = b.others; clients = b.clients; store = refl }

pub gains_beside : (k : Store) (name : List ℕ) (o : State) (old new : Machine) → Gains name o old new → Gains name o (beside k old) (beside k new)
gains_beside k name o old new g = record { names = g.names; object = g.object; others = g.others; clients = g.clients; store = refl }

pub loses_beside : (k : Store) (name : List ℕ) (old new : Machine) → Loses name old new → Loses name (beside k old) (beside k new)
loses_beside k name old new l = record { names = l.names; object = l.object; others = l.others; clients = l.clients; store = refl }

pub unloads_beside : (k : Store) (name : List ℕ) (old new : Machine) → Unloads name old new → Unloads name (beside k old) (beside k new)
unloads_beside k name old new u = record { names = u.names; objects = u.objects; clients = u.clients; store = refl }
