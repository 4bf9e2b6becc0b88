use Rattle.std.proofs.Common.{◌≡◌, ◌∙◌, sym, ap, Bool, true, false, Option, Some, None, List, if◌then◌else◌, filter, ℕ}
use Rattle.pm_object_type.specs.declared.object_type.ObjectType.{ObjectType}
use Rattle.pm_props.specs.declared.property.PropId.{PropId}
use Rattle.pm_props.specs.declared.set.PropSet.{PropSet}
use Rattle.pm_props.specs.Properties.{every_property, is_in_use}
use Rattle.pm_props.specs.Sets.{set_of}
use Rattle.pm_check.specs.Questions.{names_in_use}
use Rattle.pm_check.proofs.plan.names_in_use.Goals as goal

-- what is in use of the whole list are the names in use
in_use_of_all : (of : ObjectType) (program : Bool) (at : Bool) (list : List PropId) (r : PropSet) → program ≡ at → list ≡ every_property
    → r ≡ set_of (filter (is_in_use (if at then Some 0 else None) of) list) → r ≡ names_in_use of program
in_use_of_all of program at list r p l e =
    e ∙ ap (λ x. set_of (filter (is_in_use (if at then Some 0 else None) of) x)) l ∙ ap (names_in_use of) (sym p)

pub returns-then-program : goal.returns-then-program
returns-then-program c = in_use_of_all c.args.of c.args.program true c.every.result c.among.result c.if-program.true c.every.ensures c.among.ensures

pub returns-else-program : goal.returns-else-program
returns-else-program c =
    in_use_of_all c.args.of c.args.program false c.every-else-program.result c.among-else-program.result c.if-program.false c.every-else-program.ensures c.among-else-program.ensures
