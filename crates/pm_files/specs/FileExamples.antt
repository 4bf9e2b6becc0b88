-- Files: what is written, and what is not.
use Rattle.std.specs.Prelude.{[], ◌∷◌, ◌++◌, None, Some, codes, true, false, ◌≡◌, ◌≢◌}
use Rattle.pm_fraction.specs.Fractions.{ratio_of}
use Rattle.pm_props.specs.Sets.{only}
use Rattle.pm_object_type.specs.declared.object_type.ObjectType.TheVariants.{Cone, Polytope}
use Rattle.pm_props.specs.declared.property.PropId.TheVariants.{ConeDim, Points, Vertices}
use Rattle.pm_types.specs.Values.{matrix, whole}
use Rattle.serde_json.specs.Written.{compact_text}
use Rattle.pm_files.specs.Files.{SavedFile, SavedProgram, file_bytes, is_stored, mark_json, program_json}
use lib.IntN.{pos}

-- a polytope with one point, whose dimension was computed and for which a rule failed
abbrev pub one_point : SavedFile
one_point = record {
  of = Polytope;
  values = (ConeDim, whole (pos 1)) ∷ (Points, matrix 1 ((ratio_of (pos 1) (pos 1) ∷ []) ∷ [])) ∷ [];
  stored = only ConeDim;
  failed = (codes "dd_facets", 2) ∷ [];
  programs = [];
  ignored = [];
}

-- a cone without values
abbrev pub empty_cone : SavedFile
empty_cone = record { of = Cone; values = []; stored = 0; failed = []; programs = []; ignored = [] }

abbrev pub maximum : SavedProgram
maximum = record {
  name = Some (codes "top");
  objective = Some ((ratio_of (pos 0) (pos 1) ∷ []) ∷ []);
  failed = (codes "lp_max", 3) ∷ [];
}

pub record FilesAreWritten : Type 0 where
  -- keys are in byte order, whatever the order of the values
  pub point : file_bytes one_point
      ≡ codes "{\"CONE_DIM\":1,\"POINTS\":[[\"1\"]],\"_computed\":[\"CONE_DIM\"],\"_excluded\":[[\"dd_facets\",\"E2\"]],\"_profile\":2,\"_type\":\"polytope::Polytope<Rational>\"}" ++ 10 ∷ []
  pub turned : file_bytes
      (record one_point {
        values = (Points, matrix 1 ((ratio_of (pos 1) (pos 1) ∷ []) ∷ []))
            ∷ (ConeDim, whole (pos 1)) ∷ [];
      }) ≡ file_bytes one_point
  pub cone : file_bytes empty_cone
      ≡ codes "{\"_computed\":[],\"_excluded\":[],\"_profile\":2,\"_type\":\"polytope::Cone<Rational>\"}"
      ++ 10 ∷ []
  -- a cone's rays are stored under their own name
  pub rays : is_stored Cone (only Vertices) (codes "RAYS") ≡ true
  pub no_vertices : is_stored Cone (only Vertices) (codes "VERTICES") ≡ false
  pub another : is_stored Polytope (only Vertices) (codes "POINTS") ≡ false
  -- a mark is a pair
  pub mark : compact_text (mark_json (codes "faces", 5)) ≡ codes "[\"faces\",\"E5\"]"
  pub no_number : compact_text (mark_json (codes "faces", 5)) ≢ codes "[\"faces\",5]"
  -- a program has its name, its objective and its marks, where it has them
  pub program : compact_text (program_json maximum)
      ≡ codes "{\"LINEAR_OBJECTIVE\":[\"0\"],\"_excluded\":[[\"lp_max\",\"E3\"]],\"_name\":\"top\"}"
  pub nameless : compact_text (program_json (record { name = None; objective = None; failed = [] }))
      ≡ codes "{\"_excluded\":[]}"
  pub with_program
      : file_bytes (record one_point { values = []; stored = 0; failed = []; programs = maximum ∷ [] })
      ≡ codes "{\"LP\":[{\"LINEAR_OBJECTIVE\":[\"0\"],\"_excluded\":[[\"lp_max\",\"E3\"]],\"_name\":\"top\"}],\"_computed\":[],\"_excluded\":[],\"_profile\":2,\"_type\":\"polytope::Polytope<Rational>\"}" ++ 10 ∷ []
