use Rattle.std.proofs.Common.{ap, ℕ}
use Rattle.std.proofs.lemmas.List.{length-map}
use Rattle.std.specs.Prelude.{nat_eq, not}
use Rattle.pm_object.proofs.object.Object.has_rounds.Goals as goal

pub returns : goal.returns
returns c = rw (c.is_empty.ensures, ← c.self.view_is, length-map) (ap (λ (n : ℕ). not (nat_eq n 0)) c.self.inside.rounds.ok.0)
