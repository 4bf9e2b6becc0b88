-- The examples of reading, computed.
use Rattle.std.proofs.Common.{refl, sym, true≢false, inl, inr, None, List, [], ◌∷◌, ℕ, ◌≡◌, ◌∙◌, bytes_eq, codes, false}
use Rattle.std.proofs.lemmas.List.Elements.{All-nil}
use Rattle.std.proofs.lemmas.Slice.Eq.{bytes_eq-Decides}
use Rattle.std.specs.Fmt.{digits}
use Rattle.std.specs.Str.{chars, is_utf8}
use Rattle.serde_json.proofs.OnLiterals.{serde_json_on_literals}
use Rattle.pm_props.specs.Sets.{has, only, union}
use Rattle.pm_object_type.specs.declared.object_type.ObjectType.TheVariants.{Polytope}
use Rattle.pm_props.specs.declared.property.PropId.TheVariants.{Facets, Points, Vertices}
use Rattle.pm_types.specs.Forms.{HasPrimitiveRow}
use Rattle.pm_filing.specs.FileReadings.{IsFirstBad}
use Rattle.pm_examples_objects.specs.Reading.{KeysAreRead, PartsAreRead, ProfilesAreRead, RowsAreTested, TypesAreRead, columns}

pub types : TypesAreRead
unfolding serde_json_on_literals is_utf8 chars
types = record {
  empty = refl;
  unclosed = refl;
  no_utf8 = refl;
  no_bytes = refl;
  line_feed = refl;
  cone = refl;
  polytope = refl;
  fan = refl;
  unknown = refl;
  no_text = refl;
  none = refl;
  no_object = refl;
}

pub keys : KeysAreRead
unfolding serde_json_on_literals
keys = record {
  hidden = refl;
  shown = refl;
  no_key = refl;
  lp = refl;
  cones_have_none = refl;
  rays = refl;
  no_vertices = refl;
  graph = refl;
  lattice = refl;
  lists = refl;
  points = refl;
  named = refl;
  none_named = refl;
}

pub parts : PartsAreRead
unfolding serde_json_on_literals
parts = record {
  both = refl;
  first = refl;
  second = refl;
  no_table = refl;
  one = refl;
  two = refl;
  five = refl;
  no_program = refl;
  no_list = refl;
  fault = refl;
  cones = refl;
}

pub profiles : ProfilesAreRead
unfolding digits has only union serde_json_on_literals
profiles = record {
  two = refl;
  no_whole = refl;
  no_text = refl;
  no_profile = refl;
  stored = refl;
  no_stored = refl;
  twice = refl;
  unread = refl;
  no_names = refl;
  evidence = refl;
  no_evidence = refl;
  mark = refl;
  no_label = refl;
  no_pair = refl;
  marks = refl;
  label_twice = refl;
  names = refl;
  name_twice = refl;
  nameless = refl;
  no_name = refl;
  plain = refl;
  older = refl;
  newer = refl;
  programs_last = refl;
  name_last = refl;
}

-- ---- the tests of columns and rows
unlike : (xs ys : List ℕ) → bytes_eq xs ys ≡ false → xs ≡ ys → ⊥
unlike xs ys h e = true≢false (sym ((bytes_eq-Decides xs ys).1 e) ∙ h)

not_vertices : IsFirstBad Polytope [] None (columns Facets 2 ∷ columns Points 3 ∷ columns Vertices 4 ∷ []) (codes "VERTICES") → ⊥
not_vertices (inl (e, fails)) = unlike (codes "VERTICES") (codes "FACETS") refl e
not_vertices (inr (p, inl (e, fails))) = unlike (codes "VERTICES") (codes "POINTS") refl e
not_vertices (inr (p, inr (q, h))) = true≢false (sym q.columns)

pub rows : RowsAreTested
unfolding digits serde_json_on_literals
rows = record {
  dimension = refl;
  of_matrix = refl;
  first_counts = refl;
  other_number = refl;
  objective = refl;
  same_columns = (record { columns = refl; sites = refl; rows = refl; primitive = All-nil HasPrimitiveRow }, (record { columns = refl; sites = refl; rows = refl; primitive = All-nil HasPrimitiveRow }, tt));
  other_columns = inr (record { columns = refl; sites = refl; rows = refl; primitive = All-nil HasPrimitiveRow }, inl (refl, λ p. true≢false (sym p.columns)));
  not_later = not_vertices;
  zero_ray = λ p. true≢false (sym p.rows);
  in_one_pass = inl (refl, λ p. true≢false (sym p.rows));
  heights = inr (record { columns = refl; sites = refl; rows = refl; primitive = All-nil HasPrimitiveRow }, inl (refl, λ p. true≢false (sym p.sites)));
  untied = (record { columns = refl; sites = refl; rows = refl; primitive = All-nil HasPrimitiveRow }, (record { columns = refl; sites = refl; rows = refl; primitive = tt }, tt));
  found = refl;
  found_heights = refl;
  none_found = refl;
  no_list = refl;
  in_profile_1 = refl;
}
