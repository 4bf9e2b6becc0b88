-- The lineality of a polytope has first entry 0.
use Rattle.pm_vector.proofs.RowLaws.{entry-opposite, length-opposite}
use Rattle.pm_vector.specs.Rows.{Row, entry, opposite}
use Rattle.pm_types.specs.Things.{IsOfType, IsThing, Thing}
use Rattle.pm_object_type.specs.declared.object_type.ObjectType.TheVariants.{Cone, Fan, Polytope}
use Rattle.pm_object_type.specs.declared.object_type.ObjectType.{ObjectType}
use Rattle.pm_types.specs.Right.{InLines, InLinesOf}
use Rattle.std.proofs.Common.{arith, ◌∙◌}
use Rattle.std.proofs.lemmas.Int.{ints}
use Rattle.std.specs.Prelude.{List, length, ℕ, ◌≡◌}
use lib.IntN.{neg_ℤ, pos, ℤ}
use lib.Signed.{◌≤ℤ◌}

both_ways : (a b : ℤ) → pos 0 ≤ℤ a → pos 0 ≤ℤ b → b ≡ neg_ℤ a → a ≡ pos 0
both_ways a b p q e = omega (arith, ints)

-- a row of the lineality and its opposite lie in the cone, so neither has a negative first entry
lineality_first_of : (of : ObjectType) (n : ℕ) (G L : List Row) (Gs : List (List Row)) → IsOfType of n G L Gs → of ≡ Polytope → (x : Row) → length x ≡ n → InLinesOf of G L x → entry x 0 ≡ pos 0
lineality_first_of Polytope n G L Gs h e x lx s = both_ways (entry x 0) (entry (opposite x) 0) (h.0.first x lx s.inside) (h.0.first (opposite x) (length-opposite x ∙ lx) s.opposed) (entry-opposite x 0)
lineality_first_of Cone n G L Gs h e x lx s = cc
lineality_first_of Fan n G L Gs h e x lx s = cc

pub polytope_lineality_first : (t : Thing) → IsThing t → t.of ≡ Polytope → (x : Row) → length x ≡ t.cols → InLines t x → entry x 0 ≡ pos 0
polytope_lineality_first t thing e x lx s = lineality_first_of t.of t.cols t.generators t.lines t.cones thing.kind e x lx s
