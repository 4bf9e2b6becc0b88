-- Clients that find both halves of a pair.
use Rattle.pm_object_type.specs.declared.object_type.ObjectType.TheVariants.{Fan}
use Rattle.pm_object.specs.Reading.{ViewSeen, fact_of}
use Rattle.pm_props.specs.declared.property.PropId.{PropId}
use Rattle.std.specs.Prelude.{None, ◌≡◌}

-- the view is of no fan, and has no value of either property
pub record LacksPair (v : ViewSeen) (first second : PropId) : Type 0 where
  pub no_fan : ¬ (v.of ≡ Fan)
  pub no_first : fact_of first v.facts ≡ None
  pub no_second : fact_of second v.facts ≡ None
