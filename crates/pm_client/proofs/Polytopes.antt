-- Where a client's kind names a property that polytopes alone have, its view is of a polytope.
use Rattle.pm_object.specs.Reading.{IsView, ViewSeen}
use Rattle.pm_props.specs.Kinds.{names_of}
use Rattle.pm_props.specs.Properties.{has_program, is_in_use, of_cones, of_fans, row}
use Rattle.pm_props.specs.Sets.{has}
use Rattle.pm_object_type.specs.declared.object_type.ObjectType.TheVariants.{Cone, Fan, Polytope}
use Rattle.pm_object_type.specs.declared.object_type.ObjectType.{ObjectType}
use Rattle.pm_props.specs.declared.property.PropId.{PropId}
use Rattle.std.proofs.Common.{false, refl, sym, true, true≢false, ◌∙◌}
use Rattle.std.specs.Option.{is_some}
use Rattle.std.specs.Prelude.{Bool, ◌&&◌, ◌||◌, ◌≡◌}

-- false or b and false
neither : (a b c : Bool) → a ≡ false → c ≡ false → (a || b && c) ≡ false
neither a b c e k = rw (e, k) (no b)
  where
    no : (b : Bool) → (false || b && false) ≡ false
    no true = refl
    no false = refl

pub polytope_view : (v : ViewSeen) (p : PropId) → IsView v → has (names_of v.kind) p ≡ true → of_cones (row p).tables ≡ false → of_fans (row p).tables ≡ false → has_program p ≡ false → v.of ≡ Polytope
polytope_view v p view named no_cone no_fan alone = by v.of (view.in_use p named)
  where
    by : (of : ObjectType) → is_in_use v.sub of p ≡ true → of ≡ Polytope
    by Polytope h = refl
    by Cone h = absurd (true≢false (sym h ∙ neither (of_cones (row p).tables) (is_some v.sub) (has_program p) no_cone alone))
    by Fan h = absurd (true≢false (sym h ∙ neither (of_fans (row p).tables) (is_some v.sub) (has_program p) no_fan alone))
