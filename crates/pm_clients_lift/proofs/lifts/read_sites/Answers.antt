-- What is read has the columns of the view, and is of sites.
use Rattle.pm_clients_lift.proofs.FoundLifted.{few_sites, sites_read}
use Rattle.pm_clients_lift.proofs.lifts.read_sites.Goals as goal

pub primitive_rows-requires-clause-few : goal.primitive_rows-requires-clause-few
primitive_rows-requires-clause-few c = few_sites c.args.view.now.of c.args.view.now.cols c.matrix_of.result.now.cols c.matrix_of.result.now.rows c.matrix_of.ensures.forms

pub returns-clause-read : goal.returns-clause-read
returns-clause-read c =
    sites_read c.args.view.now c.matrix_of.result.now.cols c.matrix_of.result.now.rows c.in_ok-sites.sites.items c.matrix_of.ensures.value c.matrix_of.ensures.forms c.in_ok-sites.ensures.rows
