-- Where thinning by linear programs was given up, so is the client, with evidence that holds of the view.
use Rattle.pm_vector.proofs.Lists.{Contains_among, here, there}
use Rattle.pm_vector.specs.Rows.{Row}
use Rattle.pm_client.proofs.Failing.{halves_read}
use Rattle.pm_client.specs.Sound.{AreParts, AreRowsOf, FailsRightly, HoldsOf, IsWideElimination, eliminated_by, fail_of_thin, line_basis_and_row, line_rows, has_way, thinning_programs, facet_count}
use Rattle.pm_vector.specs.EliminationSteps.{EliminationStep}
use Rattle.pm_geom.specs.declared.evidence.Evidence.{Evidence}
use Rattle.pm_geom.specs.declared.evidence.Evidence.TheVariants as evidence
use Rattle.pm_incidence.specs.Thinning.{half_spaces}
use Rattle.pm_incidence.specs.declared.fails.ThinFail.{ThinFail}
use Rattle.pm_incidence.specs.declared.fails.ThinFail.TheVariants as thinning
use Rattle.pm_object.specs.Reading.{ViewSeen}
use Rattle.pm_props.specs.declared.property.PropId.TheVariants.{Equations, Inequalities}
use Rattle.pm_redund.specs.Redundancy.{IsRowsFail, IsRedundancyFail, IsWideRedundancy}
use Rattle.pm_simplex.specs.Generated.{IsWideThinning}
use Rattle.std.proofs.Common.{inl, inr, refl}
use Rattle.std.specs.Prelude.{IsTrue, List, [], ◌∷◌, ◌≡◌}

-- a client of this kind thins by them
module _ (v : ViewSeen) (by_programs : IsTrue (has_way v.kind thinning_programs)) (alone : eliminated_by v.kind ≡ line_rows ∷ line_basis_and_row ∷ []) (L G : List Row) (read : AreParts v L G) where
  -- on an elimination
  wide_lines : (e : EliminationStep) → IsWideRedundancy v.cols G L e → IsWideElimination v e
  wide_lines e h = elim h.listed [
    | inl group ↦ record {
      list = line_rows;
      named = rw alone (Contains_among (here {xs = line_basis_and_row ∷ []}));
      rows = h.rows;
      listed = record { lines = L; rows = G; read = read; marks = h.lines; marked = h.marked; group = group };
      shown = h.shown;
    }
    | inr last ↦ record {
      list = line_basis_and_row;
      named = rw alone (Contains_among (there (here {xs = []})));
      rows = h.rows;
      listed = record { lines = L; rows = G; read = read; marks = h.lines; marked = h.marked; last = last };
      shown = h.shown;
    }
  ]

  -- on a program
  wide_program : (e : Evidence) → IsWideThinning v.cols G L e → HoldsOf e v
  wide_program (evidence.E3 basis enter leave row column) h = inl (record { named = by_programs; lines = L; rows = G; read = read; shown = h })
  wide_program e h = absurd h.shown.shown

-- POINTS
pub fails_by_thin_rays : (v : ViewSeen) → IsTrue (has_way v.kind thinning_programs) → eliminated_by v.kind ≡ line_rows ∷ line_basis_and_row ∷ [] → (L G : List Row) → AreParts v L G → (f : ThinFail) → IsRedundancyFail v.cols G L f → FailsRightly v (fail_of_thin f)
fails_by_thin_rays v programs alone L G read (thinning.Wide (evidence.E1 step)) h = inl (wide_lines v programs alone L G read step h)
fails_by_thin_rays v programs alone L G read (thinning.Wide e) h = wide_program v programs alone L G read e h
fails_by_thin_rays v programs alone L G read (thinning.Many e) h = absurd h
fails_by_thin_rays v programs alone L G read thinning.Memory h = tt

-- INEQUALITIES
module _ (v : ViewSeen) (programs : IsTrue (has_way v.kind thinning_programs)) (alone : eliminated_by v.kind ≡ line_rows ∷ line_basis_and_row ∷ []) (counts : IsTrue (has_way v.kind facet_count)) (E A : List Row) (e : AreRowsOf v Equations E) (a : AreRowsOf v Inequalities A) where
  both_read : AreParts v E (half_spaces v.of v.cols A)
  both_read = record { first = Equations; second = Inequalities; parts = refl; read = halves_read v E A e a }

  pub fails_by_thin_rows : (f : ThinFail) → IsRowsFail v.of v.cols A E f → FailsRightly v (fail_of_thin f)
  fails_by_thin_rows (thinning.Wide (evidence.E1 step)) h = inl (wide_lines v programs alone E (half_spaces v.of v.cols A) both_read step h)
  fails_by_thin_rows (thinning.Wide w) h = wide_program v programs alone E (half_spaces v.of v.cols A) both_read w h
  fails_by_thin_rows (thinning.Many (evidence.E5Rows places)) h = record {
    named = counts;
    equations = E;
    inequalities = A;
    reads_equations = e;
    reads_inequalities = a;
    shown = h;
  }
  fails_by_thin_rows (thinning.Many w) h = absurd h
  fails_by_thin_rows thinning.Memory h = tt
