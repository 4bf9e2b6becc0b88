-- What is so of the values of every object.
use Rattle.std.specs.Prelude.{ℕ, ◌≡◌, ◌&&◌, Bool, true, not, IsTrue, List, [], ◌∷◌, None, Some, Option, length, nat_le, nat_lt}
use Rattle.std.specs.List.{Contains, list_all, list_any}
use Rattle.std.specs.Str.{bytes_eq}
use Rattle.pm_props.specs.NameWords.{is_name}
use Rattle.pm_props.specs.Places.{same_place, same_property}
use Rattle.pm_props.specs.Properties.{has, has_program, rays_tag}
use Rattle.pm_object_type.specs.declared.object_type.ObjectType.{ObjectType}
use Rattle.pm_props.specs.declared.property.PropId.{PropId}
use Rattle.pm_types.specs.Forms.{AreFractions, HavePrimitiveRows, is_formed, are_rows}
use Rattle.pm_props.specs.declared.property.PropId.TheVariants.{ConeAmbientDim}
use Rattle.pm_object.specs.Honest.{has_tag}
use Rattle.pm_object.specs.State.{HeldValue, State, agrees, cols_of, has_rounds, have_as_many_sites, is_given, is_held, is_polytope, read_at}
use Rattle.pm_object.specs.declared.held.Excluded.{Excluded}
use Rattle.pm_object.specs.declared.held.Why.{Why}
use Rattle.pm_object.specs.declared.held.Why.TheVariants as why
use Rattle.pm_limits.specs.Limits.{most_programs}

-- a value of the property stands at the place
abbrev pub stands_at : Option ℕ → PropId → List HeldValue → Bool
stands_at place p held = list_any (λ h. same_property p h.property && same_place h.place place) held

-- no two values of one property stand at one place
abbrev pub are_once : List HeldValue → Bool
are_once [] = true
are_once (h ∷ held) = not (stands_at h.place h.property held) && are_once held

-- the evidence of a failure in an earlier run is of a number from 1 to 5
abbrev pub is_numbered : Why → Bool
is_numbered (why.Stored k) = nat_le 1 k && nat_le k 5
is_numbered reason = true

-- where a value of the property stands in an object with k linear programs: in the object itself, or, where it is one
-- of programs, in one of them
abbrev pub is_placed : ℕ → PropId → Option ℕ → Bool
is_placed k p None = not (has_program p)
is_placed k p (Some s) = has_program p && nat_lt s k

-- a held value of an object of this type with k programs, whose column count is n if it is known: it stands where
-- values of its property may stand, one of the object itself is of the type's table, it has its form, agrees with n,
-- its rows pass their tests, its entries are fractions, and its primitive rows are made within the range
pub record IsFormedIn (of : ObjectType) (n : Option ℕ) (k : ℕ) (h : HeldValue) : Type 0 where
  pub formed : IsTrue (is_formed h.property h.value)
  pub columns : IsTrue (agrees n h.property h.value)
  pub rows : IsTrue (are_rows of h.property h.value)
  pub entries : AreFractions h.value
  pub primitive : HavePrimitiveRows h.property h.value
  pub placed : IsTrue (is_placed k h.property h.place)
  pub table : h.place ≡ None → IsTrue (has of h.property)

-- no two of the names are the same
abbrev pub are_different : List (List ℕ) → Bool
are_different [] = true
are_different (name ∷ names) = not (list_any (bytes_eq name) names) && are_different names

-- the names of the programs of an object of this type: at most four, each a word that may be a name, no two the same,
-- and none but in a polytope
pub record ArePrograms (of : ObjectType) (names : List (List ℕ)) : Type 0 where
  pub few : IsTrue (nat_le (length names) most_programs)
  pub words : IsTrue (list_all is_name names)
  pub different : IsTrue (are_different names)
  pub polytope : IsTrue (nat_lt 0 (length names)) → IsTrue (is_polytope of)

-- some value of the object itself speaks of the order of its rays
abbrev pub speaks_of_rays : List HeldValue → Bool
speaks_of_rays held = has_tag rays_tag (read_at None held)

-- a value of the property may join these: where it is one of programs and speaks of the order of the rays, one of the
-- object itself does
abbrev pub IsBacked : PropId → List HeldValue → Type 0
IsBacked p held = IsTrue (has_program p && rays_tag p) → IsTrue (speaks_of_rays held)

-- two values that were given: where one is of SITES and the other of SITE_HEIGHTS, there are as many rows as heights
abbrev pub HaveAsManySites : HeldValue → HeldValue → Type 0
HaveAsManySites g h = IsTrue (is_given g.origin && is_given h.origin)
    → IsTrue (have_as_many_sites g.property g.value h.property h.value)

-- all held values are so, no two of them are of one property at one place, a program's value speaks of the order of
-- the rays only where one of the object itself does, the numbers of evidence are such, the programs are such, and an
-- object for which a round was started knows its dimension, and given sites have as many heights
pub record IsFormed (o : State) : Type 0 where
  pub each : (h : HeldValue) → Contains o.held h → IsFormedIn o.of (cols_of o.held) (length o.programs) h
  pub once : IsTrue (are_once o.held)
  pub backed : IsTrue (has_tag rays_tag o.held) → IsTrue (speaks_of_rays o.held)
  pub numbered : (e : Excluded) → Contains o.excluded e → IsTrue (is_numbered e.why)
  pub programs : ArePrograms o.of o.programs
  pub dimension : has_rounds o ≡ true → IsTrue (is_held ConeAmbientDim o.held)
  pub sites : (g h : HeldValue) → Contains o.held g → Contains o.held h → HaveAsManySites g h
