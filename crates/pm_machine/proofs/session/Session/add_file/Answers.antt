-- The bytes are refused for the fault that reading found.
use Rattle.std.proofs.Common.{refl}
use Rattle.pm_filing.specs.ReadingViews.{fault_of}
use Rattle.pm_machine.proofs.Faults.{fault_is_known}
use Rattle.pm_machine.specs.Steps.{IsFault, bad_file}
use Rattle.pm_machine.proofs.session.Session.add_file.Goals as goal

pub returns-in-Some-clause-read : goal.returns-in-Some-clause-read
returns-in-Some-clause-read c =
    let is : IsFault c.in-Some.why (fault_of c.in-Err.fail) = c.in-Some.ensures in
    rw c.refused.ensures
    (bad_file (fault_of c.in-Err.fail) (c.in-Err.ensures.fault (fault_is_known c.in-Some.why (fault_of c.in-Err.fail) is)) is (record { names = refl; objects = λ q. refl; clients = refl; store = refl }))
