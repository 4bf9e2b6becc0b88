-- The code's held values and rounds, as contracts see them.
use Rattle.pm_types.specs.Views.{view_of}
use Rattle.pm_object.specs.State.{HeldValue, RoundSeen}
use Rattle.pm_props.specs.declared.property.PropId.{PropId}
use Rattle.pm_types.specs.declared.value.Value.{Value}
use Rattle.pm_object.specs.Reading.{Put}
use Rattle.pm_object.specs.declared.held.Held.{Held}
use Rattle.pm_object.specs.declared.held.Round.{Round}

abbrev pub held_seen : Held → HeldValue
held_seen h = record { place = h.place; property = h.id; value = view_of h.value; origin = h.origin }

abbrev pub round_seen : Round → RoundSeen
round_seen r = record { sub = r.sub; weight = r.weight; chain = r.chain.items; end = r.end }

abbrev pub put_seen : PropId × Value → Put
put_seen x = record { property = x.0; value = view_of x.1 }
