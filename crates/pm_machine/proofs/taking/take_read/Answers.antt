-- Each answer of the object's own call is the answer here.
use Rattle.std.proofs.Common.{refl}
use Rattle.pm_types.specs.Views.{view_of}
use Rattle.pm_machine.proofs.Refused.{columns, not_a_thing, not_held, not_of_type, not_sealed}
use Rattle.pm_machine.specs.Steps.{is_computed, other_columns, takes, wrong_row}
use Rattle.pm_machine.proofs.taking.take_read.Goals as goal

pub returns-in-Ok-clause-ok : goal.returns-in-Ok-clause-ok
returns-in-Ok-clause-ok c = (view_of c.args.v, takes refl c.in-Ok.ensures.ok, c.in-Ok.ensures.added)

pub returns-in-Err-NotOfType-clause-ok : goal.returns-in-Err-NotOfType-clause-ok
returns-in-Err-NotOfType-clause-ok c =
    (is_computed (not_of_type c.args.object.now.state c.args.sub c.args.p (view_of c.args.v) c.in-Err-NotOfType.field-0 c.in-Err-NotOfType.field-0-is c.in-Err-NotOfType.ensures.refused), c.in-Err-NotOfType.ensures.unchanged)

pub returns-in-Err-Columns-clause-ok : goal.returns-in-Err-Columns-clause-ok
returns-in-Err-Columns-clause-ok c =
    (other_columns (columns c.args.object.now.state c.args.sub c.args.p (view_of c.args.v) c.in-Err-Columns.field-0 c.in-Err-Columns.field-0-is c.in-Err-Columns.ensures.refused), c.in-Err-Columns.ensures.unchanged)

pub returns-in-Err-NotAThing-clause-ok : goal.returns-in-Err-NotAThing-clause-ok
returns-in-Err-NotAThing-clause-ok c =
    (wrong_row (not_a_thing c.args.object.now.state c.args.sub c.args.p (view_of c.args.v) c.in-Err-NotAThing.field-0 c.in-Err-NotAThing.field-0-is c.in-Err-NotAThing.ensures.refused), c.in-Err-NotAThing.ensures.unchanged)

pub unreachable-requires : goal.unreachable-requires
unreachable-requires c =
    not_held c.args.object.now.state c.args.sub c.args.p (view_of c.args.v)
    c.in-Err-AlreadyHeld.field-0 c.in-Err-AlreadyHeld.field-0-is c.in-Err-AlreadyHeld.ensures.refused c.requires.missing

pub unreachable-requires-in-Err-Sealed : goal.unreachable-requires-in-Err-Sealed
unreachable-requires-in-Err-Sealed c =
    not_sealed c.args.object.now.state c.args.sub c.args.p (view_of c.args.v)
    c.in-Err-Sealed.field-0 c.in-Err-Sealed.field-0-is c.in-Err-Sealed.ensures.refused c.requires.open
