-- Given values stand where they may stand.
use Rattle.pm_object.proofs.Formed.{backed_own, place_none}
use Rattle.pm_object.specs.Formed.{IsBacked, IsFormedIn, is_placed}
use Rattle.pm_object.specs.State.{HeldValue, agrees, given_at, is_given_at}
use Rattle.pm_props.proofs.Places.{same_property_is}
use Rattle.pm_props.specs.Places.{place_of, same_property}
use Rattle.pm_props.specs.Properties.{has, has_program, of_programs, of_type, row}
use Rattle.pm_object_type.specs.declared.object_type.ObjectType.{ObjectType}
use Rattle.pm_object_type.specs.declared.object_type.ObjectType.TheVariants.{Polytope, Cone, Fan}
use Rattle.pm_props.specs.declared.property.PropId.{PropId}
use Rattle.pm_props.specs.declared.property.PropId.TheVariants.{LinearObjective}
use Rattle.pm_props.specs.declared.property.Tables.{Tables}
use Rattle.pm_props.specs.declared.property.Tables.TheVariants as tables
use Rattle.pm_types.specs.Forms.{AreFractions, HavePrimitiveRows, are_rows, is_formed}
use Rattle.pm_types.specs.Values.{PropertyValue}
use Rattle.std.proofs.Common.{ap, arith, false, refl, subst, sym, true, true≢false, ◌∙◌}
use Rattle.std.specs.Prelude.{Bool, IfSome, IsTrue, List, None, Option, Some, nat_lt, not, ℕ, ◌<◌, ◌≡◌}

-- no type of objects has a property of linear programs in its table
no_type : (of : ObjectType) (t : Tables) → of_type of t ≡ true → not (of_programs t) ≡ true
no_type Polytope tables.Programs h = absurd (true≢false (sym h))
no_type Cone tables.Programs h = absurd (true≢false (sym h))
no_type Fan tables.Programs h = absurd (true≢false (sym h))
no_type of t h = refl

pub own_only : (of : ObjectType) (p : PropId) → has of p ≡ true → not (has_program p) ≡ true
own_only of p h = no_type of (row p).tables h

less : (s k : ℕ) → s < k → nat_lt s k ≡ true
less s k h = grind arith

given_placed : (of : ObjectType) (k : ℕ) (sub : Option ℕ) (p : PropId) → IfSome sub (λ s. s < k) → is_given_at of sub p ≡ true → is_placed k p (place_of sub p) ≡ true
given_placed of k None p w h = subst (λ place. is_placed k p place ≡ true) (sym (place_none p)) (own_only of p h)
given_placed of k (Some s) p w h = subst (λ q. is_placed k q (place_of (Some s) q) ≡ true) (same_property_is LinearObjective p h) (less s k w)

given_table : (of : ObjectType) (sub : Option ℕ) (p : PropId) → is_given_at of sub p ≡ true → place_of sub p ≡ None → has of p ≡ true
given_table of None p h e = h
given_table of (Some s) p h e = absurd (somewhere (subst (λ q. place_of (Some s) q ≡ None) (sym (same_property_is LinearObjective p h)) e))
  where
    somewhere : {n : ℕ} → Some n ≡ None → ⊥
    somewhere e = cc

-- an objective speaks of no order
pub given_backed : (of : ObjectType) (sub : Option ℕ) (p : PropId) (held : List HeldValue) → is_given_at of sub p ≡ true → IsBacked p held
given_backed of None p held h = backed_own p held (is_not (has_program p) (own_only of p h))
  where
    is_not : (b : Bool) → not b ≡ true → b ≡ false
    is_not true e = absurd (true≢false (sym e))
    is_not false e = refl
given_backed of (Some s) p held h = subst (λ q. IsBacked q held) (same_property_is LinearObjective p h) (λ e. absurd (true≢false (sym e)))

pub given_fits : (of : ObjectType) (n : Option ℕ) (k : ℕ) (sub : Option ℕ) (p : PropId) (v : PropertyValue) → IfSome sub (λ s. s < k) → is_given_at of sub p ≡ true
    → is_formed p v ≡ true → agrees n p v ≡ true → are_rows of p v ≡ true → AreFractions v → HavePrimitiveRows p v → IsFormedIn of n k (given_at sub p v)
given_fits of n k sub p v w h formed columns rows entries primitive = record { formed = formed; columns = columns; rows = rows; entries = entries; primitive = primitive; placed = given_placed of k sub p w h; table = given_table of sub p h }
