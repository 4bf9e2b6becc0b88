-- A client that finds both halves of a pair, POINTS with INPUT_LINEALITY or INEQUALITIES with EQUATIONS, and reads no half of it: when its draft is sound.
use Rattle.pm_vector.proofs.Lists.{Among, Contains_among, among_Contains, among_append, here, there}
use Rattle.pm_client.proofs.Drafts.{fact_put, put}
use Rattle.pm_client.proofs.Puts.{ArePut, FoundIn, sound_puts}
use Rattle.pm_client.proofs.ViewLaws.{none_among}
use Rattle.pm_client.specs.Sound.{IsSound}
use Rattle.pm_geom.specs.Things.{Orders}
use Rattle.pm_types.specs.Things.{Thing}
use Rattle.pm_object.specs.Reading.{DraftSeen, ViewSeen, fact_of}
use Rattle.pm_types.specs.Canonical.{IsCanonical}
use Rattle.pm_types.specs.Forms.{FormsIn}
use Rattle.pm_types.specs.Right.{Right, RightAll, RightFact, RightPair, RightTogether, objective_of}
use Rattle.pm_props.specs.Places.{place_of}
use Rattle.pm_types.specs.Runs.{states_rows}
use Rattle.pm_types.specs.Values.{Fact, PropertyValue, matrix}
use Rattle.pm_props.specs.declared.kind.Kind.{Kind}
use Rattle.pm_props.specs.declared.property.PropId.{PropId}
use Rattle.pm_props.specs.declared.property.PropId.TheVariants.{Equations, Inequalities, InputLineality, Points}
use Rattle.std.proofs.Common.{false, inl, inr, refl, subst, sym, true, true≢false}
use Rattle.std.specs.List.{Contains}
use Rattle.std.specs.Prelude.{Bool, IsTrue, List, None, [], ◌++◌, ◌∷◌, ◌≡◌, ◌⊎◌}

one_of_two : {X : Type 0} {x y z : X} → Among x (y ∷ z ∷ []) → (x ≡ y) ⊎ (x ≡ z)
one_of_two here = inl refl
one_of_two (there here) = inr refl
one_of_two (there (there i)) = elim i [ ]

-- a value is right with every other value of its own property
pair_itself : (t : Thing) (p : PropId) (v w : PropertyValue) → RightPair p v p w t
pair_itself t Points (matrix n rows) w = tt
pair_itself t Inequalities (matrix n rows) w = tt
pair_itself t p v w = tt

-- the value v of p is right with the value w of q, in either order
pub record RightBoth (t : Thing) (p : PropId) (v : PropertyValue) (q : PropId) (w : PropertyValue) : Type 0 where
  pub before : RightPair p v q w t
  pub after : RightPair q w p v t

-- where facts are right, so are they with two more that are right together and with each of these
module _ (read : List Fact) (f g : Fact) (t : Thing) (o : Orders) (right : RightAll read t o) (right_f : RightFact f t o) (right_g : RightFact g t o) (pair : RightBoth t f.property f.value g.property g.value)
    (with_f : (x : Fact) → Contains read x → RightBoth t x.property x.value f.property f.value) (with_g : (x : Fact) → Contains read x → RightBoth t x.property x.value g.property g.value) where
  parted : (x : Fact) → Contains (read ++ f ∷ g ∷ []) x → Contains read x ⊎ ((x ≡ f) ⊎ (x ≡ g))
  parted x c = elim (among_append read (f ∷ g ∷ []) (among_Contains (read ++ f ∷ g ∷ []) c)) [
    | inl i ↦ inl (Contains_among i)
    | inr i ↦ inr (one_of_two i)
  ]

  each : (x : Fact) → Contains read x ⊎ ((x ≡ f) ⊎ (x ≡ g)) → RightFact x t o
  each x (inl c) = right.each x c
  each x (inr (inl e)) = subst (λ z. RightFact z t o) (sym e) right_f
  each x (inr (inr e)) = subst (λ z. RightFact z t o) (sym e) right_g

  -- x and y, of which one is the fact u
  first_is : (u x y : Fact) → x ≡ u → RightTogether t u y → RightTogether t x y
  first_is u x y e h = subst (λ z. RightTogether t z y) (sym e) h

  second_is : (u x y : Fact) → y ≡ u → RightTogether t x u → RightTogether t x y
  second_is u x y e h = subst (λ z. RightTogether t x z) (sym e) h

  together : (x y : Fact) → Contains read x ⊎ ((x ≡ f) ⊎ (x ≡ g)) → Contains read y ⊎ ((y ≡ f) ⊎ (y ≡ g)) → RightTogether t x y
  together x y (inl c) (inl d) = right.together x y c d
  together x y (inl c) (inr (inl e)) = second_is f x y e (with_f x c).before
  together x y (inl c) (inr (inr e)) = second_is g x y e (with_g x c).before
  together x y (inr (inl a)) (inl d) = first_is f x y a (with_f y d).after
  together x y (inr (inl a)) (inr (inl e)) = first_is f x y a (second_is f f y e (pair_itself t f.property f.value f.value))
  together x y (inr (inl a)) (inr (inr e)) = first_is f x y a (second_is g f y e pair.before)
  together x y (inr (inr a)) (inl d) = first_is g x y a (with_g y d).after
  together x y (inr (inr a)) (inr (inl e)) = first_is g x y a (second_is f g y e pair.after)
  together x y (inr (inr a)) (inr (inr e)) = first_is g x y a (second_is g g y e (pair_itself t g.property g.value g.value))

  right_with_two : RightAll (read ++ f ∷ g ∷ []) t o
  right_with_two = record { thing = right.thing; orders = right.orders; each = λ x c. each x (parted x c); together = λ x y c d. together x y (parted x c) (parted y d) }

-- ---- the halves of a pair
-- p and q are the two halves of a pair, in this order
abbrev pub are_halves : PropId → PropId → Bool
are_halves Points InputLineality = true
are_halves Inequalities Equations = true
are_halves p q = false

-- a half is right with what is not the other half
module _ (t : Thing) where
  before_points : (p : PropId) (v x : PropertyValue) → RightPair p v Points x t
  before_points Points (matrix n rows) x = tt
  before_points Inequalities (matrix n rows) x = tt
  before_points p v x = tt

  after_points : (p : PropId) (v x : PropertyValue) → ¬ (p ≡ InputLineality) → RightPair Points x p v t
  after_points InputLineality v x other = absurd (other refl)
  after_points p v (matrix n rows) other = tt
  after_points p v x other = tt

  before_lines : (p : PropId) (v x : PropertyValue) → ¬ (p ≡ Points) → RightPair p v InputLineality x t
  before_lines Points v x other = absurd (other refl)
  before_lines Inequalities (matrix n rows) x other = tt
  before_lines p v x other = tt

  before_inequalities : (p : PropId) (v x : PropertyValue) → RightPair p v Inequalities x t
  before_inequalities Points (matrix n rows) x = tt
  before_inequalities Inequalities (matrix n rows) x = tt
  before_inequalities p v x = tt

  after_inequalities : (p : PropId) (v x : PropertyValue) → ¬ (p ≡ Equations) → RightPair Inequalities x p v t
  after_inequalities Equations v x other = absurd (other refl)
  after_inequalities p v (matrix n rows) other = tt
  after_inequalities p v x other = tt

  before_equations : (p : PropId) (v x : PropertyValue) → ¬ (p ≡ Inequalities) → RightPair p v Equations x t
  before_equations Inequalities v x other = absurd (other refl)
  before_equations Points (matrix n rows) x other = tt
  before_equations p v x other = tt

  with_first : (p q : PropId) → are_halves p q ≡ true → (r : PropId) (v x : PropertyValue) → ¬ (r ≡ q) → RightBoth t r v p x
  with_first Points InputLineality h r v x other = record { before = before_points r v x; after = after_points r v x other }
  with_first Inequalities Equations h r v x other = record { before = before_inequalities r v x; after = after_inequalities r v x other }
  with_first p q h r v x other = absurd (true≢false (sym h))

  with_second : (p q : PropId) → are_halves p q ≡ true → (r : PropId) (v x : PropertyValue) → ¬ (r ≡ p) → RightBoth t r v q x
  with_second Points InputLineality h r v x other = record { before = before_lines r v x other; after = tt }
  with_second Inequalities Equations h r v x other = record { before = before_equations r v x other; after = tt }
  with_second p q h r v x other = absurd (true≢false (sym h))

  both_ways : (p q : PropId) (x y : PropertyValue) → are_halves p q ≡ true → RightPair p x q y t → RightBoth t p x q y
  both_ways Points InputLineality x y h pair = record { before = pair; after = tt }
  both_ways Inequalities Equations x y h pair = record { before = pair; after = tt }
  both_ways p q x y h pair = absurd (true≢false (sym h))

  -- each right half is canonical
  halves_canonical : (kind : Kind) (p q : PropId) (x y : PropertyValue) → are_halves p q ≡ true → IsCanonical kind p x t × IsCanonical kind q y t
  halves_canonical kind Points InputLineality x y h = (tt, tt)
  halves_canonical kind Inequalities Equations x y h = (tt, tt)
  halves_canonical kind p q x y h = absurd (true≢false (sym h))

-- what a client shows of the two halves
pub record AreRightHalves (v : ViewSeen) (p q : PropId) (x y : PropertyValue) : Type 0 where
  pub halves : are_halves p q ≡ true
  pub no_first : fact_of p v.facts ≡ None
  pub no_second : fact_of q v.facts ≡ None
  pub first_formed : FormsIn v.of v.cols p x × IsTrue (states_rows x)
  pub second_formed : FormsIn v.of v.cols q y × IsTrue (states_rows y)
  pub right : (t : Thing) (o : Orders) → t.of ≡ v.of → t.cols ≡ v.cols → RightAll v.facts t o
      → Right p x t o (objective_of t (place_of v.sub p)) × Right q y t o (objective_of t (place_of v.sub q)) × RightPair p x q y t

found_pair : (v : ViewSeen) (p q : PropId) (x y : PropertyValue) → AreRightHalves v p q x y → (t : Thing) (o : Orders) → t.of ≡ v.of → t.cols ≡ v.cols → RightAll v.facts t o → FoundIn v (put p x ∷ put q y ∷ []) t o
found_pair v p q x y h t o of cols read =
    let w = h.right t o of cols read in
    let k = halves_canonical t v.kind p q x y h.halves in
    record {
      orders = o;
      keeps = record { rays = λ n. refl; facets = λ n. refl; cones = λ n. refl };
      right = right_with_two v.facts (fact_put v.sub (put p x)) (fact_put v.sub (put q y)) t o read w.0 w.1 (both_ways t p q x y h.halves w.2)
          (λ f c. with_first t p q h.halves f.property f.value x (none_among q v.facts h.no_second f c)) (λ f c. with_second t p q h.halves f.property f.value y (none_among p v.facts h.no_first f c));
      canonical = (k.0, (k.1, tt));
    }

pub sound_pair : (v : ViewSeen) (p q : PropId) (x y : PropertyValue) (new : DraftSeen) → ArePut v (put p x ∷ put q y ∷ []) new → AreRightHalves v p q x y → IsSound v new
sound_pair v p q x y new h k = sound_puts v (put p x ∷ put q y ∷ []) new h (k.first_formed, (k.second_formed, tt)) (λ t o of cols read meets. found_pair v p q x y k t o of cols read)
