-- The values that are read of a polytope, as right rows.
use Rattle.pm_vector.specs.Numbers.{Ratio}
use Rattle.pm_object.specs.Known.{held_rows, rows_at}
use Rattle.pm_types.specs.Parts.{truth_in}
use Rattle.pm_geom.specs.Things.{Orders}
use Rattle.pm_vector.proofs.Lists.{Among, among_All}
use Rattle.pm_laws_things.specs.BuildingLaws.{ReadRight}
use Rattle.pm_object.specs.State.{State, is_held, read_at, value_of}
use Rattle.pm_props.specs.declared.property.PropId.TheVariants.{AffineHull, Facets, LinealitySpace, Vertices}
use Rattle.pm_props.specs.declared.property.PropId.{PropId}
use Rattle.pm_types.specs.Right.{Right}
use Rattle.pm_types.specs.Things.{Thing}
use Rattle.pm_types.specs.Values.{PropertyValue, matrix, truth}
use Rattle.std.proofs.Common.{ap, refl, subst, sym, true, true≢false, ◌∙◌}
use Rattle.std.specs.Option.{is_some}
use Rattle.std.specs.Prelude.{IsTrue, List, None, Option, Some, [], ℕ, ◌≡◌}

pub record IsMatrixValue (v : PropertyValue) : Type 0 where
  pub n : ℕ
  pub rows : List (List Ratio)
  pub is : v ≡ matrix n rows

pub right_vertices : (t : Thing) (o : Orders) (v : PropertyValue) → Right Vertices v t o [] → IsMatrixValue v
right_vertices t o (matrix n rows) h = record { n = n; rows = rows; is = refl }
right_vertices t o v h = absurd h

pub right_lines : (t : Thing) (o : Orders) (v : PropertyValue) → Right LinealitySpace v t o [] → IsMatrixValue v
right_lines t o (matrix n rows) h = record { n = n; rows = rows; is = refl }
right_lines t o v h = absurd h

pub right_facets : (t : Thing) (o : Orders) (v : PropertyValue) → Right Facets v t o [] → IsMatrixValue v
right_facets t o (matrix n rows) h = record { n = n; rows = rows; is = refl }
right_facets t o v h = absurd h

pub right_hull : (t : Thing) (o : Orders) (v : PropertyValue) → Right AffineHull v t o [] → IsMatrixValue v
right_hull t o (matrix n rows) h = record { n = n; rows = rows; is = refl }
right_hull t o v h = absurd h

-- the rows that are read are right, in some column count
pub record RightRows (p : PropId) (a : State) (t : Thing) (o : Orders) : Type 0 where
  pub n : ℕ
  pub right : Right p (matrix n (rows_at p a)) t o []

pub right_rows : (p : PropId) (a : State) (t : Thing) (o : Orders) → ((v : PropertyValue) → Right p v t o [] → IsMatrixValue v) → is_some (value_of p (read_at None a.held)) ≡ true → ((v : PropertyValue) → value_of p (read_at None a.held) ≡ Some v → Right p v t o [])
    → RightRows p a t o
right_rows p a t o is_matrix held values = by (value_of p (read_at None a.held)) refl held
  where
    by : (x : Option PropertyValue) → value_of p (read_at None a.held) ≡ x → is_some x ≡ true → RightRows p a t o
    by None e h = absurd (true≢false (sym h))
    by (Some v) e h =
        let g = values v e in
        let w = is_matrix v g in
        record { n = w.n; right = subst (λ z. Right p (matrix w.n z) t o []) (sym (ap held_rows (e ∙ ap Some w.is))) (subst (λ z. Right p z t o []) w.is g) }

pub read_value : (ps : List PropId) (p : PropId) (a : State) (t : Thing) (o : Orders) → Among p ps → ReadRight ps a t o → (v : PropertyValue) → value_of p (read_at None a.held) ≡ Some v → Right p v t o []
read_value ps p a t o i r = among_All (λ q. (v : PropertyValue) → value_of q (read_at None a.held) ≡ Some v → Right q v t o []) i r.values

pub read_rows : (ps : List PropId) (p : PropId) (a : State) (t : Thing) (o : Orders) → Among p ps → ReadRight ps a t o → ((v : PropertyValue) → Right p v t o [] → IsMatrixValue v) → RightRows p a t o
read_rows ps p a t o i r is_matrix = right_rows p a t o is_matrix (among_All (λ q. IsTrue (is_held q (read_at None a.held))) i r.known.held) (read_value ps p a t o i r)

-- ---- truth values
pub true_value : (x : Option PropertyValue) → truth_in x ≡ true → x ≡ Some (truth true)
true_value (Some (truth true)) h = refl
true_value x h = absurd (true≢false (sym h))
