-- The examples of counts hold.
use Rattle.pm_clients_graph.specs.Examples.{CountsAreRead}
use Rattle.std.proofs.Common.{refl}

pub counts_are_read : CountsAreRead
counts_are_read = record { of_path = refl; of_none = refl; not_itself = λ e. cc; once = refl; not_twice = λ e. cc }
