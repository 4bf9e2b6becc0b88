-- Polytopes that are given by generators and lines, or by the rows that cut them out: they are things, and have orders.
use Rattle.pm_vector.proofs.ConeLaws.{none_to_zero}
use Rattle.pm_vector.specs.Rows.{HasCols, Row, dot, entry}
use Rattle.pm_vector.specs.Numbers.{Ratio}
use Rattle.pm_build.proofs.PaddedRows.{nothing, nothing_dot, zeros_at}
use Rattle.pm_build.specs.Objects.{zeros}
use Rattle.pm_geom.proofs.Facets.{facet_rows_cut_out}
use Rattle.pm_geom.proofs.Polar.{cut_is_generated}
use Rattle.pm_geom.proofs.Reduce.{extremes_generate}
use Rattle.pm_geom.specs.Cones.{CutOut}
use Rattle.pm_geom.specs.Things.{IsPolytopeThing}
use Rattle.pm_laws_things.specs.Built.{HasPoints}
use Rattle.pm_laws_things.specs.Existence.{SomeThing}
use Rattle.pm_object_type.specs.declared.object_type.ObjectType.TheVariants.{Polytope}
use Rattle.pm_relations.proofs.Sites.{no_sites}
use Rattle.pm_types.specs.Things.{AreObjectives, Thing}
use Rattle.pm_types.specs.Views.{over_one}
use Rattle.std.proofs.Common.{arith, inl, inr, refl, subst, sym}
use Rattle.std.proofs.lemmas.Int.{ints}
use Rattle.std.proofs.lemmas.List.{length-replicate}
use Rattle.std.specs.Prelude.{List, [], length, ℕ, ◌-◌, ◌≤◌, ◌↔◌, ◌∷◌, ◌≡◌}
use lib.IntN.{pos, ℤ}
use lib.Signed.{◌<ℤ◌, ◌≤ℤ◌}
use Rattle.pm_limits.specs.Limits.{most_columns}

-- the polytope of these generators and lines, with 0 as the objective of each program
abbrev pub polytope_of : ℕ → List Row → List Row → Thing
polytope_of n G L = record { of = Polytope; cols = n; generators = G; lines = L; cones = []; objective = λ s. zeros n; sites = []; heights = [] }

pub no_objectives : (n : ℕ) → AreObjectives n (λ s. zeros n)
no_objectives n = record {
  cols = λ s. length-replicate n (over_one (pos 0));
  denominators = λ s i l. subst (λ (q : Ratio). pos 0 <ℤ q.den) (sym (zeros_at n i)) (omega (arith, ints));
}

-- by generators and lines
pub some_polytope : (P : Thing → Type 0) (n : ℕ) (G L : List Row) → 1 ≤ n → n ≤ most_columns → IsPolytopeThing n G L → P (polytope_of n G L) → SomeThing P
some_polytope P n G L some few polytope holds =
    let (V, K, hk, rays, line, gen) = extremes_generate n G L polytope.cone.generators polytope.cone.lines in
    let (F, E, he, facets, null, valid, cut) = facet_rows_cut_out n G L polytope.cone.generators polytope.cone.lines in
    record {
      thing = polytope_of n G L;
      is_thing = record { some_cols = some; few_cols = few; kind = (polytope, refl); programs = no_objectives n; sites = no_sites _ };
      orders = record { rays = V; facets = F; cones = [] };
      are_orders = record { rays = rays; facets = facets; cones = refl };
      holds = holds;
    }

-- ---- by rows that cut out
-- (1, 0, .., 0), the point 0
abbrev pub origin : ℕ → Row
origin n = pos 1 ∷ nothing (n - 1)

pub origin_cols : (n : ℕ) → 1 ≤ n → length (origin n) ≡ n
origin_cols n h = let e = length-replicate (n - 1) (pos 0) in omega arith

pub origin_dot : (n : ℕ) (x : Row) → dot (origin n) x ≡ entry x 0
origin_dot n [] = refl
origin_dot n (b ∷ x) = let q = nothing_dot (n - 1) x in omega (arith, ints)

-- the points with P are those that A cuts out, and p is one
pub some_cut : (P : Row → Type 0) (n : ℕ) → 1 ≤ n → n ≤ most_columns → (A : List Row) → HasCols n A → ((x : Row) → length x ≡ n → pos 0 <ℤ entry x 0 → P x ↔ CutOut A x)
    → (p : Row) → length p ≡ n → pos 0 <ℤ entry p 0 → CutOut A p → SomeThing (λ u. HasPoints u n P)
some_cut P n some few A cols points p lp up cp =
    let (G, hg, same) = cut_is_generated n (origin n ∷ A) (origin_cols n some, cols) in
    some_polytope (λ u. HasPoints u n P) n G [] some few
    (record {
      cone = record { generators = hg; lines = tt };
      first = λ x lx h. subst (λ z. pos 0 ≤ℤ z) (origin_dot n x) ((same x lx).0 h).0;
      proper = inr (p, lp, (same p lp).1 (first_of p up, cp), up);
    })
    (record {
      of = refl;
      cols = refl;
      points = λ x lx ux. (λ h. (points x lx ux).1 ((same x lx).0 h).1, λ h. (same x lx).1 (first_of x ux, (points x lx ux).0 h));
    })
  where
    up_to : (z : ℤ) → pos 0 <ℤ z → pos 0 ≤ℤ z
    up_to z h = omega (arith, ints)

    first_of : (x : Row) → pos 0 <ℤ entry x 0 → pos 0 ≤ℤ dot (origin n) x
    first_of x ux = subst (λ z. pos 0 ≤ℤ z) (sym (origin_dot n x)) (up_to (entry x 0) ux)

-- ---- without points
not_positive : (z : ℤ) → z ≡ pos 0 → ¬ (pos 0 <ℤ z)
not_positive z e h = omega (arith, ints)

-- no point has P
pub some_empty : (P : Row → Type 0) (n : ℕ) → 1 ≤ n → n ≤ most_columns → ((x : Row) → length x ≡ n → pos 0 <ℤ entry x 0 → ¬ (P x)) → SomeThing (λ u. HasPoints u n P)
some_empty P n some few none =
    some_polytope (λ u. HasPoints u n P) n [] [] some few
    (record {
      cone = record { generators = tt; lines = tt };
      first = λ x lx h. not_below (entry x 0) (none_to_zero x h 0);
      proper = inl (λ x lx h. none_to_zero x h);
    })
    (record { of = refl; cols = refl; points = λ x lx ux. (λ h. absurd (not_positive (entry x 0) (none_to_zero x h 0) ux), λ h. absurd (none x lx ux h)) })
  where
    not_below : (z : ℤ) → z ≡ pos 0 → pos 0 ≤ℤ z
    not_below z e = omega (arith, ints)
