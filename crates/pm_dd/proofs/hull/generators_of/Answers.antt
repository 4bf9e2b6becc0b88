use Rattle.pm_dd.proofs.hull.generators_of.Goals as goal

pub returns-in-Polytope-clause-generators : goal.returns-in-Polytope-clause-generators
returns-in-Polytope-clause-generators c = rw c.in-Polytope.is c.polytope_generators.ensures.generators

pub returns-in-Cone-clause-generators : goal.returns-in-Cone-clause-generators
returns-in-Cone-clause-generators c = rw c.in-Cone.is c.cone_generators.ensures.generators

pub returns-in-Polytope-clause-shown : goal.returns-in-Polytope-clause-shown
returns-in-Polytope-clause-shown c = rw c.in-Polytope.is c.polytope_generators.ensures.shown

pub returns-in-Polytope-clause-lost : goal.returns-in-Polytope-clause-lost
returns-in-Polytope-clause-lost c = rw c.in-Polytope.is c.polytope_generators.ensures.lost

pub returns-in-Cone-clause-shown : goal.returns-in-Cone-clause-shown
returns-in-Cone-clause-shown c = rw c.in-Cone.is c.cone_generators.ensures.shown

pub returns-in-Cone-clause-lost : goal.returns-in-Cone-clause-lost
returns-in-Cone-clause-lost c = rw c.in-Cone.is c.cone_generators.ensures.lost
