-- The examples of the rows that span a maximal cone.
use Rattle.pm_vector.proofs.Lists.{Among, Contains_among, among_Contains, here, there}
use Rattle.pm_vector.specs.Numbers.{Ratio}
use Rattle.pm_vector.specs.Rows.{Row}
use Rattle.pm_client.specs.Examples.{ConesAreRead, SpansCone, of_fan}
use Rattle.pm_client.specs.Sound.{IsConeList}
use Rattle.pm_geom.specs.Faces.{ray}
use Rattle.pm_types.specs.Values.{sets}
use Rattle.std.proofs.Common.{ap, refl, subst, sym, true≢false, ◌∙◌}
use Rattle.std.specs.Option.{is_some}
use Rattle.std.specs.Prelude.{List, Some, [], map, ℕ, ◌++◌, ◌∷◌, ◌≡◌}

cone : (rays lines : List (List Ratio)) (X : List Row) → SpansCone rays lines X → IsConeList (of_fan rays lines) X
cone rays lines X h = record {
  lines = h.L;
  rays = h.V;
  reads_lines = h.reads_lines;
  reads_rays = h.reads_rays;
  index = record { rows = (1 ∷ []) ∷ []; cols = 2 };
  reads = refl;
  set = 1 ∷ [];
  listed = Contains_among (here {xs = []});
  rows = h.rows;
}

same_rows : {R S : List (List ℕ)} {m n : ℕ} → Some (sets R m) ≡ Some (sets S n) → R ≡ S
same_rows h = cc

only : (set : List ℕ) → Among set ((1 ∷ []) ∷ []) → set ≡ 1 ∷ []
only set here = refl
only set (there i) = elim i [ ]

only_cone : (rays lines : List (List Ratio)) (X : List Row) → IsConeList (of_fan rays lines) X → SpansCone rays lines X
only_cone rays lines X h =
    let rows : (1 ∷ []) ∷ [] ≡ h.index.rows = same_rows h.reads in
    let set = only h.set (subst (Among h.set) (sym rows) (among_Contains h.index.rows h.listed)) in
    record { V = h.rays; L = h.lines; reads_rays = h.reads_rays; reads_lines = h.reads_lines; rows = h.rows ∙ ap (λ s. h.lines ++ map (ray h.rays) s) set }

pub cones_are_read : ConesAreRead
cones_are_read = record {
  cone = cone;
  only_cone = only_cone;
  none_read = λ X h. true≢false (sym (ap is_some h.reads));
  of_cones = refl;
  not_of_cones = refl;
}
