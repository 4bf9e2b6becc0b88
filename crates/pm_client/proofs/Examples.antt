-- The examples of what is eliminated hold.
use Rattle.pm_client.proofs.NoRows.{parts_without_rows}
use Rattle.pm_vector.proofs.ConeLaws.{in_line_times, none_to_zero}
use Rattle.pm_vector.proofs.Lists.{here}
use Rattle.pm_vector.specs.Cones.{InSpan}
use Rattle.pm_vector.specs.Rows.{Row}
use Rattle.pm_vector.specs.Bases.{row_at}
use Rattle.pm_client.specs.Examples.{DoublesAreRead, no_rows, single}
use Rattle.pm_client.specs.Sound.{AreParts, ArePartsOf, IsDoubleListOf, are_parts}
use Rattle.pm_dd.proofs.ZeroRows.{no_basis}
use Rattle.pm_vector.specs.Enlarging.{MarkEnlarging}
use Rattle.pm_geom.specs.StatedOrder.{rows_marked}
use Rattle.pm_props.specs.declared.property.PropId.TheVariants.{AffineHull, Equations, Facets, Inequalities, InputLineality, LinealitySpace}
use Rattle.pm_props.specs.declared.property.PropId.{PropId}
use Rattle.std.proofs.Common.{ap, arith, false, refl, suc, sym, true, true≢false, zero, ◌∙◌}
use Rattle.std.proofs.lemmas.Int.{ints}
use Rattle.std.proofs.lemmas.List.{length-append}
use Rattle.std.specs.Option.{is_some}
use Rattle.std.specs.Prelude.{Bool, IsTrue, List, [], length, slice_index_or, take, ℕ, ◌++◌, ◌<◌, ◌∷◌, ◌≡◌, ◌↔◌}
use lib.IntN.{pos}

-- ---- the view without rows
parts_of : ArePartsOf no_rows Equations Inequalities [] (single 1 ∷ [])
parts_of = parts_without_rows no_rows Equations Inequalities (single 1 ∷ []) refl refl refl

parts : AreParts no_rows [] (single 1 ∷ [])
parts = record { first = Equations; second = Inequalities; parts = refl; read = parts_of }

-- the second part is not empty
no_empty : (ys : List Row) → [] ≡ ys ++ single 1 ∷ [] → ⊥
no_empty ys e = let l = ap length e ∙ length-append ys (single 1 ∷ []) in omega arith

not_added : ArePartsOf no_rows Equations Inequalities [] [] → ⊥
not_added h = no_empty h.ys h.added

not_read : ArePartsOf no_rows AffineHull Facets [] [] → ⊥
not_read h = true≢false (sym (ap is_some h.reads_first))

-- ---- its double description list
list : IsDoubleListOf no_rows (single 1 ∷ [])
list = record {
  lines = [];
  others = single 1 ∷ [];
  read = parts;
  list = record { basis = []; pivots = []; is_basis = record { echelon = no_basis 1; span = record { same = λ x. (λ h. h, λ h. h) } }; list = refl };
}

empty_parts : (p q : PropId) (L G : List Row) → ArePartsOf no_rows p q L G → are_parts p q ≡ true → G ≡ [] → ⊥
empty_parts Equations Inequalities L G h parts e = no_empty h.ys (sym e ∙ h.added)
empty_parts InputLineality q L G h parts e = true≢false (sym (ap is_some h.reads_first))
empty_parts LinealitySpace q L G h parts e = true≢false (sym (ap is_some h.reads_first))
empty_parts AffineHull q L G h parts e = true≢false (sym (ap is_some h.reads_first))
empty_parts p q L G h parts e = true≢false (sym parts)

not_list : IsDoubleListOf no_rows [] → ⊥
not_list h = empty_parts h.read.first h.read.second h.lines h.others h.read.read h.read.parts (rest _ h.others h.list.list)
  where
    rest : (xs ys : List Row) → [] ≡ xs ++ ys → ys ≡ []
    rest [] ys e = sym e
    rest (x ∷ xs) ys e = absurd (let l = ap length e in omega arith)

-- ---- rows that enlarge the span
spanned : InSpan (single 1 ∷ []) (single 2)
spanned = in_line_times (pos 2) (here {xs = []})

marks : MarkEnlarging (single 1 ∷ single 2 ∷ []) (true ∷ false ∷ [])
marks = record { as_many = refl; exact = exact }
  where
    not_zero : InSpan [] (single 1) → ⊥
    not_zero h = let e = none_to_zero (single 1) h 0 in omega (arith, ints)

    exact : (i : ℕ) → i < 2 → IsTrue (slice_index_or (true ∷ false ∷ []) i false) ↔ ¬ (InSpan (take i (single 1 ∷ single 2 ∷ [])) (row_at (single 1 ∷ single 2 ∷ []) i))
    exact zero l = (λ t h. not_zero h, λ n. refl)
    exact (suc zero) l = (λ t. absurd (true≢false (sym t)), λ n. absurd (n spanned))
    exact (suc (suc i)) l = absurd (omega arith)

-- of these two rows the second is never marked
not_marked : (ms : List Bool) → MarkEnlarging (single 1 ∷ single 2 ∷ []) ms → (X : List Row) → X ≡ rows_marked true ms (single 1 ∷ single 2 ∷ []) → length X ≡ 2 → ⊥
not_marked [] h X e l = let k = h.as_many in omega arith
not_marked (a ∷ []) h X e l = let k = h.as_many in omega arith
not_marked (a ∷ true ∷ ms) h X e l = ((h.exact 1 (omega arith)).0 refl) spanned
not_marked (true ∷ false ∷ []) h X e l = let k = ap length e in omega arith
not_marked (false ∷ false ∷ []) h X e l = let k = ap length e in omega arith
not_marked (a ∷ false ∷ b ∷ ms) h X e l = let k = h.as_many in omega arith

pub doubles_are_read : DoublesAreRead
doubles_are_read = record {
  parts = parts;
  not_added = not_added;
  not_read = not_read;
  list = list;
  not_list = not_list;
  enlarging = record { marks = true ∷ false ∷ []; enlarging = marks; rows = refl };
  not_enlarging = λ h. not_marked h.marks h.enlarging (single 1 ∷ single 2 ∷ []) h.rows refl;
  first = (single 1 ∷ [], parts);
  double = list;
  not_double = not_list;
}
