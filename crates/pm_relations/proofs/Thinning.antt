-- What one description of a thing and another of the other sort are to each other: what cuts out what the other generates, which is what thinning asks for.
use Rattle.pm_vector.proofs.Lists.{All_among, all_at, all_from, among_All}
use Rattle.pm_vector.specs.Cones.{InCone}
use Rattle.pm_vector.specs.Numbers.{Ratio}
use Rattle.pm_vector.specs.Rows.{Row, dot}
use Rattle.pm_dd.specs.Fronts.{HalfSpaces}
use Rattle.pm_object_type.specs.declared.object_type.ObjectType.TheVariants.{Cone, Fan, Polytope}
use Rattle.pm_object_type.specs.declared.object_type.ObjectType.{ObjectType}
use Rattle.pm_relations.proofs.Hulls.{stand_cut}
use Rattle.pm_types.specs.Right.{CutsOutOf, InSet, PairCutsOut, Solves, StandFor, empty, proper}
use Rattle.pm_types.specs.Things.{Thing}
use Rattle.std.specs.Prelude.{List, length, ℕ, ◌↔◌, ◌≡◌}
use lib.IntN.{pos}

pub solves_as : (A E : List Row) (x : Row) → Solves A E x ↔ HalfSpaces E A x
solves_as A E x = (
  λ s. (all_from (λ (e : Row). dot e x ≡ pos 0) E (λ e i. among_All (λ (e : Row). dot e x ≡ pos 0) i s.equations), s.inequalities),
  λ h. record { inequalities = h.1; equations = All_among (λ (e : Row). dot e x ≡ pos 0) E (λ e i. all_at (λ (e : Row). dot e x ≡ pos 0) i h.0) },
)

-- where rows generate a thing and others cut it out, the latter cut out as a cone what the former generate
pub cuts_cone : (t : Thing) (G L A E : List Row) → ((x : Row) → length x ≡ t.cols → InSet t x ↔ InCone G L x) → ((x : Row) → length x ≡ t.cols → InSet t x ↔ HalfSpaces E A x) → CutsOutOf Cone t.cols (InCone G L) A E
cuts_cone t G L A E generated bound x lx = (
  λ h. (solves_as A E x).1 ((bound x lx).0 ((generated x lx).1 h)),
  λ s. (generated x lx).0 ((bound x lx).1 ((solves_as A E x).0 s)),
)

-- what cuts out a set cuts out one with the same rows, and so do rows with the same solutions
cuts_as : (of : ObjectType) (n : ℕ) (S S' : Row → Type 0) (A E A' E' : List Row) → ((x : Row) → length x ≡ n → S x ↔ S' x) → ((x : Row) → Solves A' E' x ↔ Solves A E x) → CutsOutOf of n S A' E' → CutsOutOf of n S' A E
cuts_as Polytope n S S' A E A' E' set same (proper x lx sx up eq) =
    proper x lx ((same x).0 sx) up (λ y ly. (
      λ s. let w = (eq y ly).0 ((set y ly).1 s) in ((same y).0 w.0, w.1),
      λ h. (set y ly).0 ((eq y ly).1 ((same y).1 h.0, h.1)),
    ))
cuts_as Polytope n S S' A E A' E' set same (empty no_point eq) =
    empty (λ x lx s. no_point x lx ((same x).1 s)) (λ y ly. (λ s. (eq y ly).0 ((set y ly).1 s), λ z. (set y ly).0 ((eq y ly).1 z)))
cuts_as Cone n S S' A E A' E' set same cuts = λ y ly. (λ s. (same y).0 ((cuts y ly).0 ((set y ly).1 s)), λ h. (set y ly).0 ((cuts y ly).1 ((same y).1 h)))
cuts_as Fan n S S' A E A' E' set same cuts = cuts

-- INEQUALITIES and EQUATIONS that are right together cut out what rows generate that generate the thing
pub rows_cut : (t : Thing) (inequalities equations : List (List Ratio)) → PairCutsOut t inequalities equations → (xs es : List Row) → StandFor inequalities xs → StandFor equations es
    → (G L : List Row) → ((x : Row) → length x ≡ t.cols → InSet t x ↔ InCone G L x) → CutsOutOf t.of t.cols (InCone G L) xs es
rows_cut t inequalities equations pair xs es sx se G L generated =
    cuts_as t.of t.cols (InSet t) (InCone G L) xs es pair.as' pair.es generated
    (λ x. let c = stand_cut inequalities equations pair.as' xs pair.es es pair.inequalities_stand sx pair.equations_stand se x in (λ s. (solves_as xs es x).1 (c.0 s), λ s. c.1 ((solves_as xs es x).0 s)))
    pair.cuts_out
