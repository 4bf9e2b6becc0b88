use Rattle.pm_object.proofs.tests_of_values.agrees.Goals as goal

pub returns-in-Some : goal.returns-in-Some
returns-in-Some c = rw c.in-Some.is c.agrees_with.ensures
