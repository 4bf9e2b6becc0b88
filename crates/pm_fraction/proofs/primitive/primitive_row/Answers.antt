use Rattle.pm_fraction.proofs.Numerators.{Stands-from_primitive, zero_or_primitive}
use Rattle.pm_fraction.proofs.primitive.primitive_row.Goals as goal

pub returns-clause-multiple : goal.returns-clause-multiple
returns-clause-multiple c =
    let d = c.in_ok-least.ensures in
    Stands-from_primitive c.args.row.now c.in_ok-least.least d.least d.positive d.reduced c.primitive.new.v (rw c.in_ok-numerators.ensures.value at c.primitive.ensures.primitive)

pub returns-clause-value : goal.returns-clause-value
returns-clause-value c = record {
  denominator = c.in_ok-least.least;
  least = c.in_ok-least.ensures.least;
  primitive = rw c.in_ok-numerators.ensures.value at c.primitive.ensures.primitive;
}

pub returns-clause-primitive : goal.returns-clause-primitive
returns-clause-primitive c = zero_or_primitive c.in_ok-numerators.numerators c.primitive.new.v c.primitive.ensures.primitive

pub returns-clause-stays : goal.returns-clause-stays
returns-clause-stays c = record {
  denominator = c.in_ok-least.least;
  least = c.in_ok-least.ensures.least;
  denominators = c.in_ok-least.ensures.stays;
  numerators = c.in_ok-numerators.ensures.stays;
}
