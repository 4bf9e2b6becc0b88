-- Files: what is read, and what is not.
use Rattle.std.specs.Prelude.{ℕ, List, [], ◌∷◌, Option, None, Some, Ok, Err, codes, true, false, ◌≡◌}
use Rattle.pm_fraction.specs.Fractions.{ratio_of}
use Rattle.pm_json.specs.declared.fail.ValueFail.TheVariants.{Shape, Number, Limit}
use Rattle.pm_props.specs.Sets.{only, union}
use Rattle.pm_object_type.specs.declared.object_type.ObjectType.TheVariants.{Cone, Fan, Polytope}
use Rattle.pm_props.specs.declared.property.PropId.TheVariants.{ConeAmbientDim, ConeDim, Facets, Graph, HasseDiagram, LinearObjective, Points, SiteHeights, Sites, Vertices}
use Rattle.pm_types.specs.Values.{matrix, whole}
use Rattle.serde_json.specs.Data.{Data, Members, Items, object, no_members, no_items, null}
use Rattle.serde_json.specs.Find.{as_array, as_object}
use Rattle.serde_json.specs.Read.{read}
use Rattle.pm_filing.specs.FileParts.{value, programs, bad_property, bad_profile, data_in, ignored_in, is_hidden, is_other_form, is_programs_key, json_in, members_in, no_type, not_json, objectives_of, part_at, parts_in, property_at, type_in, unknown_type}
use Rattle.pm_filing.specs.Profiles.{evidence_of, is_profile_2, mark_of, marks_in, plain_names_from, profile_in, program_names, stored_by}
use Rattle.pm_props.specs.Properties.{name_in}
use Rattle.pm_props.specs.declared.property.PropId.{PropId}
use Rattle.pm_filing.specs.FileReadings.{ArePassed, IsFirstBad, Named, Passes, cols_after, finds_sites, named_values}
use lib.IntN.{pos}

abbrev data_or_null : Option Data → Data
data_or_null None = null
data_or_null (Some d) = d

-- the JSON of a text
abbrev pub json : List ℕ → Data
json text = data_or_null (read text)

abbrev members_or_none : Option Members → Members
members_or_none None = no_members
members_or_none (Some ms) = ms

-- the members of an object's text
abbrev pub members : List ℕ → Members
members text = members_or_none (as_object (json text))

abbrev items_or_none : Option Items → Items
items_or_none None = no_items
items_or_none (Some ds) = ds

-- the elements of an array's text
abbrev pub items : List ℕ → Items
items text = items_or_none (as_array (json text))

pub record TypesAreRead : Type 0 where
  -- JSON is UTF-8
  pub empty : json_in (codes "{}") ≡ Some (object no_members)
  pub unclosed : json_in (codes "{") ≡ None
  pub no_utf8 : json_in (34 ∷ 255 ∷ 34 ∷ []) ≡ None
  pub no_bytes : data_in [] ≡ Err not_json
  -- white space may stand behind
  pub line_feed : json_in (123 ∷ 125 ∷ 10 ∷ []) ≡ Some (object no_members)
  -- the type is a text of the top
  pub cone : type_in (json (codes "{\"_type\":\"polytope::Cone<Rational>\"}")) ≡ Ok Cone
  pub polytope : type_in (json (codes "{\"_type\":\"polytope::Polytope<Rational>\"}")) ≡ Ok Polytope
  pub fan : type_in (json (codes "{\"_type\":\"fan::PolyhedralFan<Rational>\"}")) ≡ Ok Fan
  pub unknown : type_in (json (codes "{\"_type\":\"topaz::SimplicialComplex\"}")) ≡ Err unknown_type
  pub no_text : type_in (json (codes "{\"_type\":3}")) ≡ Err no_type
  pub none : type_in (json (codes "{}")) ≡ Err no_type
  pub no_object : members_in (json (codes "[]")) ≡ Err no_type

pub record KeysAreRead : Type 0 where
  pub hidden : is_hidden (codes "_ns") ≡ true
  pub shown : is_hidden (codes "N_POINTS") ≡ false
  pub no_key : is_hidden [] ≡ false
  -- polytopes have linear programs
  pub lp : is_programs_key Polytope (codes "LP") ≡ true
  pub cones_have_none : is_programs_key Cone (codes "LP") ≡ false
  -- names are those of the type
  pub rays : property_at Cone (codes "RAYS") null ≡ Some Vertices
  pub no_vertices : property_at Cone (codes "VERTICES") null ≡ None
  -- graphs and lattices may be objects of another form
  pub graph : property_at Polytope (codes "GRAPH") (json (codes "{}")) ≡ None
  pub lattice : is_other_form HasseDiagram (json (codes "{}")) ≡ true
  pub lists : is_other_form Graph (json (codes "[]")) ≡ false
  pub points : property_at Polytope (codes "POINTS") (json (codes "{}")) ≡ Some Points
  -- what is read over is named in byte order, and what programs have behind it, each once
  pub named : ignored_in Polytope
      (members (codes "{\"N_POINTS\":3,\"GRAPH\":{},\"_ns\":1,\"LP\":[],\"POINTS\":[]}"))
      (items (codes "[{\"Z\":1,\"_a\":1},{\"A\":1,\"Z\":2,\"LINEAR_OBJECTIVE\":[]}]"))
      ≡ codes "GRAPH" ∷ codes "N_POINTS" ∷ codes "LP.A" ∷ codes "LP.Z" ∷ []
  pub none_named : ignored_in Polytope (members (codes "{\"GRAPH\":[],\"_ns\":1}")) no_items ≡ []

pub record PartsAreRead : Type 0 where
  -- in byte order of keys, whatever their order in the file
  pub both : parts_in Polytope (members (codes "{\"POINTS\":[[1]],\"_ns\":1,\"CONE_DIM\":1}"))
      ≡ Ok (value ConeDim (whole (pos 1)) ∷ value Points (matrix 1 ((ratio_of (pos 1) (pos 1) ∷ []) ∷ []))
      ∷ [])
  -- the first key with a fault counts
  pub first : parts_in Polytope (members (codes "{\"POINTS\":1,\"CONE_DIM\":[]}"))
      ≡ Err (bad_property (codes "CONE_DIM") Shape)
  pub second : parts_in Polytope (members (codes "{\"POINTS\":[[1.5]],\"CONE_DIM\":1}"))
      ≡ Err (bad_property (codes "POINTS") Number)
  pub no_table : parts_in Polytope (members (codes "{\"N_POINTS\":[]}")) ≡ Ok []
  -- one program, or up to four
  pub one : objectives_of (json (codes "{\"LINEAR_OBJECTIVE\":[1]}"))
      ≡ Ok (Some (matrix 1 ((ratio_of (pos 1) (pos 1) ∷ []) ∷ [])) ∷ [])
  pub two : objectives_of (json (codes "[{},{\"LINEAR_OBJECTIVE\":[1]}]"))
      ≡ Ok (None ∷ Some (matrix 1 ((ratio_of (pos 1) (pos 1) ∷ []) ∷ [])) ∷ [])
  pub five : objectives_of (json (codes "[{},{},{},{},{}]")) ≡ Err Limit
  pub no_program : objectives_of (json (codes "[1]")) ≡ Err Shape
  pub no_list : objectives_of (json (codes "1")) ≡ Err Shape
  pub fault : part_at Polytope (codes "LP") (json (codes "{\"LINEAR_OBJECTIVE\":[]}"))
      ≡ Err (bad_property (codes "LP") Limit)
  pub cones : part_at Cone (codes "LP") (json (codes "1")) ≡ Ok []

pub record ProfilesAreRead : Type 0 where
  pub two : is_profile_2 (json (codes "{\"_profile\":2}")) ≡ true
  pub no_whole : is_profile_2 (json (codes "{\"_profile\":2.0}")) ≡ false
  pub no_text : is_profile_2 (json (codes "{\"_profile\":\"2\"}")) ≡ false
  pub no_profile : is_profile_2 null ≡ false
  -- stored values are named once, and were read
  pub stored : stored_by Cone (union (only ConeDim) (only Vertices)) (Some (json (codes "[\"RAYS\"]")))
      ≡ Some (only Vertices)
  pub no_stored : stored_by Cone (only Vertices) None ≡ Some 0
  pub twice : stored_by Cone (only Vertices) (Some (json (codes "[\"RAYS\",\"RAYS\"]"))) ≡ None
  pub unread : stored_by Cone (only Vertices) (Some (json (codes "[\"CONE_DIM\"]"))) ≡ None
  pub no_names : stored_by Cone (only Vertices) (Some (json (codes "{}"))) ≡ None
  -- marks are pairs of a label and E1 to E5
  pub evidence : evidence_of (codes "E5") ≡ Some 5
  pub no_evidence : evidence_of (codes "E6") ≡ None
  pub mark : mark_of (json (codes "[\"faces\",\"E5\"]")) ≡ Some (codes "faces", 5)
  pub no_label : mark_of (json (codes "[\"a.b\",\"E5\"]")) ≡ None
  pub no_pair : mark_of (json (codes "[\"faces\",\"E5\",1]")) ≡ None
  pub marks : marks_in (json (codes "{\"_excluded\":[[\"b\",\"E1\"],[\"a\",\"E1\"]]}"))
      ≡ Some ((codes "b", 1) ∷ (codes "a", 1) ∷ [])
  pub label_twice : marks_in (json (codes "{\"_excluded\":[[\"a\",\"E1\"],[\"a\",\"E2\"]]}")) ≡ None
  -- programs have names, each another
  pub names : program_names (items (codes "[{\"_name\":\"top\"},{\"_name\":\"low\"}]"))
      ≡ Some (codes "top" ∷ codes "low" ∷ [])
  pub name_twice : program_names (items (codes "[{\"_name\":\"top\"},{\"_name\":\"top\"}]")) ≡ None
  pub nameless : program_names (items (codes "[{}]")) ≡ None
  pub no_name : program_names (items (codes "[{\"_name\":\"_a\"}]")) ≡ None
  pub plain : plain_names_from 0 (items (codes "[{},{}]")) ≡ codes "lp0" ∷ codes "lp1" ∷ []
  -- in profile 1 nothing is stored
  pub older : profile_in Polytope 0 (json (codes "{\"_computed\":1}")) no_items
      ≡ Ok (record { stored = 0; failed = []; names = []; marks = [] })
  pub newer : profile_in Polytope 0
      (json (codes "{\"_profile\":2,\"_computed\":1,\"_excluded\":1}")) no_items
      ≡ Err (bad_profile (codes "_computed"))
  pub programs_last : profile_in Polytope 0 (json (codes "{\"_profile\":2}"))
      (items (codes "[{\"_excluded\":1}]")) ≡ Err (bad_profile (codes "_excluded"))
  pub name_last : profile_in Polytope 0 (json (codes "{\"_profile\":2}")) (items (codes "[{}]"))
      ≡ Err (bad_profile (codes "_name"))

-- a matrix without rows that states n columns, under the name of a polytope's property
abbrev pub columns : PropId → ℕ → Named
columns p n = record { name = name_in Polytope p; property = p; value = matrix n [] }

-- no site, and one height
abbrev pub site_and_height : List Named
site_and_height = columns Sites 2 ∷ record {
  name = codes "SITE_HEIGHTS";
  property = SiteHeights;
  value = matrix 1 ((ratio_of (pos 0) (pos 1) ∷ []) ∷ []);
} ∷ []

pub record RowsAreTested : Type 0 where
  pub dimension : cols_after None ConeAmbientDim (whole (pos 3)) ≡ Some 3
  pub of_matrix : cols_after None Points (matrix 2 []) ≡ Some 2
  pub first_counts : cols_after (Some 2) Points (matrix 3 []) ≡ Some 2
  pub other_number : cols_after None ConeDim (whole (pos 3)) ≡ None
  -- objectives are tested at LP's place
  pub objective : named_values Polytope (programs (None ∷ Some (matrix 2 []) ∷ [])
      ∷ value Points (matrix 2 []) ∷ []) ≡ record {
        name = codes "LP";
        property = LinearObjective;
        value = matrix 2 [];
      } ∷ columns Points 2 ∷ []
  pub same_columns : ArePassed Polytope [] None (columns Facets 2 ∷ columns Points 2 ∷ [])
  pub other_columns : IsFirstBad Polytope [] None
      (columns Facets 2 ∷ columns Points 3 ∷ columns Vertices 4 ∷ []) (codes "POINTS")
  pub not_later
      : ¬ (IsFirstBad Polytope [] None (columns Facets 2 ∷ columns Points 3 ∷ columns Vertices 4 ∷ [])
      (codes "VERTICES"))
  -- a zero row is no ray
  pub zero_ray : ¬ (Passes Cone [] None Vertices (matrix 1 ((ratio_of (pos 0) (pos 1) ∷ []) ∷ [])))
  -- columns are not tested before the rows of another key
  pub in_one_pass : IsFirstBad Polytope [] None
      (record {
        name = codes "FACETS";
        property = Facets;
        value = matrix 2 ((ratio_of (pos 0) (pos 1) ∷ ratio_of (pos 0) (pos 1) ∷ []) ∷ []);
      } ∷ columns Points 3
      ∷ []) (codes "FACETS")
  -- heights are held against the sites to which they are tied
  pub heights : IsFirstBad Polytope site_and_height None site_and_height (codes "SITE_HEIGHTS")
  pub untied : ArePassed Polytope [] None site_and_height
  -- which none are in a file of profile 2 whose list has one of their names
  pub found : finds_sites Polytope (json (codes "{\"_profile\":2,\"_computed\":[\"SITES\"]}")) ≡ true
  pub found_heights : finds_sites Polytope
      (json (codes "{\"_profile\":2,\"_computed\":[1,\"SITE_HEIGHTS\"]}")) ≡ true
  pub none_found : finds_sites Polytope (json (codes "{\"_profile\":2,\"_computed\":[\"POINTS\"]}")) ≡ false
  pub no_list : finds_sites Polytope (json (codes "{\"_profile\":2,\"_computed\":\"SITES\"}")) ≡ false
  pub in_profile_1 : finds_sites Polytope (json (codes "{\"_computed\":[\"SITES\"]}")) ≡ false
