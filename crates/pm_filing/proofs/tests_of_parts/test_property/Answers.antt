-- The one value of the part passes its tests, or is the first that does not.
use Rattle.std.proofs.Common.{inl}
use Rattle.std.proofs.lemmas.Result.{err_from_is_err_and}
use Rattle.pm_filing.proofs.tests_of_parts.test_property.Goals as goal

pub returns-clause-cols : goal.returns-clause-cols
returns-clause-cols c = c.cols_after.ensures

pub returns-clause-ok : goal.returns-clause-ok
returns-clause-ok c = (c.in_ok-test_value.ensures.ok, tt)

pub returns-clause-entries : goal.returns-clause-entries
returns-clause-entries c = (c.in_ok-test_value.ensures.entries, tt)

pub returns-in_err-test_value-clause-fault : goal.returns-in_err-test_value-clause-fault
returns-in_err-test_value-clause-fault c =
    let p = err_from_is_err_and c.from_residual.result c.from_residual.ensures.1 in
    rw (p.1, p.2) (λ other. let f = c.in_err-test_value.ensures.fault other in (c.name_in.result.now, f.0, inl (c.name_in.ensures, f.1)))
