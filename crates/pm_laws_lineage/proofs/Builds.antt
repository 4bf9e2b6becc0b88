-- What commands make is right for what they are said to make.
use Rattle.pm_build.specs.Conditions.{cyclic_refusal, is_cyclic_size}
use Rattle.pm_build.specs.Objects.{cross_of, cube_of, cyclic_of, polar_of, product_of, pyramid_of, simplex_of}
use Rattle.pm_command.specs.Commands.{ShapeSeen, cross_shape, cube_shape, cyclic_shape, simplex_shape}
use Rattle.pm_command.specs.declared.building.Binary.{Binary}
use Rattle.pm_command.specs.declared.building.Binary.TheVariants.{Minkowski, Product, Refine}
use Rattle.pm_command.specs.declared.building.Builder.TheVariants.{One, Two}
use Rattle.pm_command.specs.declared.building.Unary.{Unary}
use Rattle.pm_command.specs.declared.building.Unary.TheVariants.{FaceFan, NormalFan, Polar, Pyramid}
use Rattle.pm_files.specs.Files.{SavedFile}
use Rattle.pm_geom.specs.Things.{Orders}
use Rattle.pm_laws_things.specs.BuildingLaws.{CrossIsDescribed, CubeIsDescribed, CyclicIsDescribed, Describes, PolarIsDescribed, ProductIsDescribed, PyramidIsDescribed, ReadRight, SimplexIsDescribed, SumIsDescribed, settled_facts}
use Rattle.pm_laws_things.specs.FanLaws.{FaceFanIsDescribed, NormalFanIsDescribed, ReadRightFan, RefinementIsDescribed}
use Rattle.pm_laws_lineage.specs.Lineages.{IsOneOf, IsShape, IsTwoOf}
use Rattle.pm_limits.specs.Limits.{most_dimensions, most_rows}
use Rattle.pm_making.specs.Rows.{Makes, row_of, shape_condition, shape_file}
use Rattle.pm_object.specs.State.{State}
use Rattle.pm_object.specs.declared.held.Condition.{Condition}
use Rattle.pm_object.specs.declared.held.Condition.TheVariants as condition
use Rattle.pm_object_type.specs.declared.object_type.ObjectType.TheVariants.{Fan, Polytope}
use Rattle.pm_refine.specs.ObjectFans.{refine_reads}
use Rattle.pm_types.specs.Right.{RightAll}
use Rattle.pm_types.specs.Things.{AreOrders, IsThing, Thing}
use Rattle.std.proofs.Common.{ap, arith, false, refl, subst, suc, sym, true, true≢false, ◌∙◌}
use Rattle.std.proofs.lemmas.Bool.{and_parts, leb-true}
use Rattle.std.specs.Option.{is_some}
use Rattle.std.specs.Prelude.{Bool, List, None, Some, [], if◌then◌else◌, nat_le, nat_lt, ℕ, ◌&&◌, ◌<◌, ◌≤◌, ◌^◌, ◌∷◌, ◌≡◌}

-- what is proved of new objects
pub record BuildLaws : Type 0 where
  pub cube : CubeIsDescribed
  pub simplex : SimplexIsDescribed
  pub cross : CrossIsDescribed
  pub cyclic : CyclicIsDescribed
  pub polar : PolarIsDescribed
  pub pyramid : PyramidIsDescribed
  pub product : ProductIsDescribed
  pub sum : SumIsDescribed
  pub normal : NormalFanIsDescribed
  pub face : FaceFanIsDescribed
  pub refinement : RefinementIsDescribed
  pub orders : (t : Thing) → IsThing t → (o : Orders) × AreOrders t o

-- the values, with what goes without saying, are right for u in some orders
abbrev pub IsRightFor : SavedFile → Thing → Type 0
IsRightFor f u = (u.of ≡ f.of) × (p : Orders) × RightAll (settled_facts f) u p

-- ---- sizes
none_if : (b : Bool) (c : Condition) → (if b then None else Some c) ≡ None → b ≡ true
none_if true c e = refl
none_if false c e = absurd (true≢false (ap is_some e))

some_points : (d n : ℕ) → cyclic_refusal d n ≡ None → 0 < n
some_points d n e =
    let all = none_if (is_cyclic_size d n) condition.Size e in
    let first = and_parts (nat_le d most_dimensions && nat_le (suc d) n && nat_le n most_rows) (nat_lt (n ^ d) (2 ^ 127)) all in
    let second = and_parts (nat_le d most_dimensions && nat_le (suc d) n) (nat_le n most_rows) first.0 in
    let third = and_parts (nat_le d most_dimensions) (nat_le (suc d) n) second.0 in
    at_least d n (leb-true (suc d) n third.1)
  where
    at_least : (d n : ℕ) → suc d ≤ n → 0 < n
    at_least d n h = omega arith

module _ (laws : BuildLaws) where
  polytope_right : (f : SavedFile) (u : Thing) → f.of ≡ Polytope → u.of ≡ Polytope → IsThing u → Describes f u → IsRightFor f u
  polytope_right f u fof of thing d = let (p, orders) = laws.orders u thing in (of ∙ sym fof, p, d p thing orders)

  pub shape_right : (s : ShapeSeen) (u : Thing) → shape_condition s ≡ None → IsThing u → IsShape s u → IsRightFor (shape_file s) u
  shape_right (cube_shape d) u fits thing h = polytope_right (cube_of d) u refl h.of thing (laws.cube d u h)
  shape_right (simplex_shape d) u fits thing h = polytope_right (simplex_of d) u refl h.of thing (laws.simplex d u h)
  shape_right (cross_shape d) u fits thing h = polytope_right (cross_of d) u refl h.of thing (laws.cross d u h)
  shape_right (cyclic_shape d n) u fits thing h = polytope_right (cyclic_of d n) u refl h.of thing (laws.cyclic d n u (some_points d n fits) h)

  pub one_right : (b : Unary) (a : State) (f : SavedFile) (t : Thing) (p : Orders) (u : Thing) → Makes (One b) (a ∷ []) f → ReadRight (row_of (One b)).reads a t p → IsThing u → IsOneOf b t u → IsRightFor f u
  one_right Polar a f t p u (fits, is) read thing h = subst (λ z. IsRightFor z u) (sym is) (polytope_right (polar_of a) u refl h.of thing (laws.polar a t p u read fits h))
  one_right Pyramid a f t p u (fits, is) read thing h = subst (λ z. IsRightFor z u) (sym is) (polytope_right (pyramid_of a) u refl h.of thing (laws.pyramid a t p u read h))
  one_right NormalFan a f t p u (fits, is) read thing h = subst (λ z. IsRightFor z u) (sym is) (let (q, r) = laws.normal a t p u read fits thing h in (h.of, q, r))
  one_right FaceFan a f t p u (fits, is) read thing h = subst (λ z. IsRightFor z u) (sym is) (let (q, r) = laws.face a t p u read fits thing h in (h.of, q, r))

  pub two_right : (b : Binary) (a c : State) (f : SavedFile) (t : Thing) (p : Orders) (s : Thing) (q : Orders) (u : Thing) → Makes (Two b) (a ∷ c ∷ []) f
      → (row_of (Two b)).of ≡ Polytope → ReadRight (row_of (Two b)).reads a t p → ReadRight (row_of (Two b)).reads c s q → IsThing u → IsTwoOf b t s u → IsRightFor f u
  two_right Product a c f t p s q u (fits, is) poly read other thing h = subst (λ z. IsRightFor z u) (sym is) (polytope_right (product_of a c) u refl h.of thing (laws.product a c t p s q u read other h))
  two_right Minkowski a c f t p s q u (fits, is) poly read other thing h = polytope_right f u (ap (λ (z : SavedFile). z.of) is.file) h.of thing (laws.sum a c t p s q u f read other fits is h)
  two_right Refine a c f t p s q u (fits, is) poly read other thing h = absurd (apart poly)
    where
      apart : Fan ≡ Polytope → ⊥
      apart e = cc

  pub refined_right : (a c : State) (f : SavedFile) (t : Thing) (p : Orders) (s : Thing) (q : Orders) (u : Thing) → Makes (Two Refine) (a ∷ c ∷ []) f
      → ReadRightFan refine_reads a t p → ReadRightFan refine_reads c s q → IsThing u → IsTwoOf Refine t s u → f.of ≡ Fan → IsRightFor f u
  refined_right a c f t p s q u (fits, is) read other thing h of = let (o, r) = laws.refinement a c t p s q u f read other is thing h in (h.of ∙ sym of, o, r)

-- ---- how many objects
pub one_operand : (b : Unary) (os : List State) (f : SavedFile) → Makes (One b) os f → (a : State) × (os ≡ a ∷ [])
one_operand Polar (a ∷ []) f m = (a, refl)
one_operand Pyramid (a ∷ []) f m = (a, refl)
one_operand NormalFan (a ∷ []) f m = (a, refl)
one_operand FaceFan (a ∷ []) f m = (a, refl)
one_operand b os f m = absurd m

pub two_operands : (b : Binary) (os : List State) (f : SavedFile) → Makes (Two b) os f → (a : State) × (c : State) × (os ≡ a ∷ c ∷ [])
two_operands Product (a ∷ c ∷ []) f m = (a, c, refl)
two_operands Minkowski (a ∷ c ∷ []) f m = (a, c, refl)
two_operands Refine (a ∷ c ∷ []) f m = (a, c, refl)
two_operands b os f m = absurd m
