-- A file has no float, and nests five levels at most.
use Rattle.std.proofs.Common.{refl, arith, ◌≡◌, ◌≤◌, ℕ, List, [], ◌∷◌, map, false, Option, Some, None, Ordering, Less, Equal, Greater, nat_cmp}
use Rattle.std.proofs.lemmas.Bool.{or_parts}
use Rattle.std.specs.Cmp.Lexicographic.{slice_cmp}
use Rattle.std.specs.Prelude.{codes}
use Rattle.std.specs.Ordering.{match_ordering}
use Rattle.pm_vector.specs.Numbers.{Ratio}
use Rattle.pm_props.specs.Properties.{name_in}
use Rattle.pm_object_type.specs.declared.object_type.ObjectType.{ObjectType}
use Rattle.pm_props.specs.declared.property.PropId.{PropId}
use Rattle.pm_types.specs.Values.{PropertyValue}
use Rattle.serde_json.specs.Data.{Data, Members, no_members, member, put, depth, members_depth, string, number, unsigned}
use Rattle.serde_json.specs.Written.{has_float, members_have_float}
use Rattle.pm_files.proofs.Plain.{each_depth, each_whole, objective_depth, objective_whole, value_depth, value_whole}
use Rattle.pm_files.specs.Files.{Mark, SavedFile, SavedProgram, contents, file_json, heading, mark_json, marks_json, program_json, stored_keys, type_text, with_name, with_objective, with_programs, with_values}
use Rattle.pm_files.specs.ValueJson.{array_of, json_of, objective_json}

put_whole : (k : List ℕ) (d : Data) (ms : Members) → has_float d ≡ false → members_have_float ms ≡ false → members_have_float (put k d ms) ≡ false
put_whole k d no_members h g = rw h refl
put_whole k d (member l e ms) h g =
    let p = or_parts (has_float e) (members_have_float ms) g in
    by (slice_cmp nat_cmp k l) p.0 p.1 (put_whole k d ms h p.1)
  where
    by : (o : Ordering) → has_float e ≡ false → members_have_float ms ≡ false → members_have_float (put k d ms) ≡ false
        → members_have_float (match_ordering o (member k d (member l e ms)) (member l d ms) (member l e (put k d ms))) ≡ false
    by Less first later rest = rw h g
    by Equal first later rest = rw h later
    by Greater first later rest = rw first rest

marks_whole : (ms : List Mark) → has_float (marks_json ms) ≡ false
marks_whole ms = each_whole mark_json (λ m. refl) ms

name_whole : (name : Option (List ℕ)) (ms : Members) → members_have_float ms ≡ false → members_have_float (with_name name ms) ≡ false
name_whole None ms h = h
name_whole (Some name) ms h = put_whole (codes "_name") (string name) ms refl h

objective_put : (rows : Option (List (List Ratio))) (ms : Members) → members_have_float ms ≡ false → members_have_float (with_objective rows ms) ≡ false
objective_put None ms h = h
objective_put (Some rows) ms h = put_whole (codes "LINEAR_OBJECTIVE") (objective_json rows) ms (objective_whole rows) h

program_whole : (p : SavedProgram) → has_float (program_json p) ≡ false
program_whole p =
    let marks = put (codes "_excluded") (marks_json p.failed) no_members in
    objective_put p.objective (with_name p.name marks) (name_whole p.name marks (put_whole (codes "_excluded") (marks_json p.failed) no_members (marks_whole p.failed) refl))

programs_whole : (ps : List SavedProgram) (ms : Members) → members_have_float ms ≡ false → members_have_float (with_programs ps ms) ≡ false
programs_whole [] ms h = h
programs_whole (p ∷ ps) ms h = put_whole (codes "LP") (array_of (map program_json (p ∷ ps))) ms (each_whole program_json program_whole (p ∷ ps)) h

values_whole : (of : ObjectType) (vs : List (PropId × PropertyValue)) (ms : Members) → members_have_float ms ≡ false → members_have_float (with_values of vs ms) ≡ false
values_whole of [] ms h = h
values_whole of (v ∷ vs) ms h = values_whole of vs (put (name_in of v.0) (json_of v.0 v.1) ms) (put_whole (name_in of v.0) (json_of v.0 v.1) ms (value_whole v.0 v.1) h)

heading_whole : (f : SavedFile) → members_have_float (heading f) ≡ false
heading_whole f =
    put_whole (codes "_excluded") (marks_json f.failed) (put (codes "_profile") (number (unsigned 2)) (put (codes "_type") (string (type_text f.of)) no_members)) (marks_whole f.failed) refl

contents_whole : (f : SavedFile) → members_have_float (contents f) ≡ false
contents_whole f = programs_whole f.programs (with_values f.of f.values (heading f)) (values_whole f.of f.values (heading f) (heading_whole f))

pub file_whole : (f : SavedFile) → has_float (file_json f) ≡ false
file_whole f =
    let keys = stored_keys f.of f.stored (contents f) in
    put_whole (codes "_computed") (array_of (map string keys)) (contents f) (each_whole string (λ k. refl) keys) (contents_whole f)

-- ---- nesting
put_depth : (n : ℕ) (k : List ℕ) (d : Data) (ms : Members) → depth d ≤ n → members_depth ms ≤ n → members_depth (put k d ms) ≤ n
put_depth n k d no_members h g = omega arith
put_depth n k d (member l e ms) h g =
    let first : depth e ≤ n = omega arith in
    let later : members_depth ms ≤ n = omega arith in
    by (slice_cmp nat_cmp k l) first later (put_depth n k d ms h later)
  where
    by : (o : Ordering) → depth e ≤ n → members_depth ms ≤ n → members_depth (put k d ms) ≤ n
        → members_depth (match_ordering o (member k d (member l e ms)) (member l d ms) (member l e (put k d ms))) ≤ n
    by Less first later rest = omega arith
    by Equal first later rest = omega arith
    by Greater first later rest = omega arith

marks_depth : (ms : List Mark) → depth (marks_json ms) ≤ 2
marks_depth ms = let e = each_depth mark_json 1 (λ m. omega arith) ms in omega arith

name_depth : (name : Option (List ℕ)) (ms : Members) → members_depth ms ≤ 3 → members_depth (with_name name ms) ≤ 3
name_depth None ms h = h
name_depth (Some name) ms h = put_depth 3 (codes "_name") (string name) ms (omega arith) h

objective_put_depth : (rows : Option (List (List Ratio))) (ms : Members) → members_depth ms ≤ 3 → members_depth (with_objective rows ms) ≤ 3
objective_put_depth None ms h = h
objective_put_depth (Some rows) ms h = put_depth 3 (codes "LINEAR_OBJECTIVE") (objective_json rows) ms (objective_depth rows) h

program_depth : (p : SavedProgram) → depth (program_json p) ≤ 4
program_depth p =
    let marks = put (codes "_excluded") (marks_json p.failed) no_members in
    let few = marks_depth p.failed in
    let first : members_depth marks ≤ 3 = put_depth 3 (codes "_excluded") (marks_json p.failed) no_members (omega arith) (omega arith) in
    let e = objective_put_depth p.objective (with_name p.name marks) (name_depth p.name marks first) in
    omega arith

programs_depth : (ps : List SavedProgram) (ms : Members) → members_depth ms ≤ 5 → members_depth (with_programs ps ms) ≤ 5
programs_depth [] ms h = h
programs_depth (p ∷ ps) ms h =
    let e = each_depth program_json 4 program_depth (p ∷ ps) in
    put_depth 5 (codes "LP") (array_of (map program_json (p ∷ ps))) ms (omega arith) h

values_depth : (of : ObjectType) (vs : List (PropId × PropertyValue)) (ms : Members) → members_depth ms ≤ 5 → members_depth (with_values of vs ms) ≤ 5
values_depth of [] ms h = h
values_depth of (v ∷ vs) ms h =
    let e = value_depth v.0 v.1 in
    values_depth of vs (put (name_in of v.0) (json_of v.0 v.1) ms) (put_depth 5 (name_in of v.0) (json_of v.0 v.1) ms (omega arith) h)

heading_depth : (f : SavedFile) → members_depth (heading f) ≤ 5
heading_depth f =
    let few = marks_depth f.failed in
    put_depth 5 (codes "_excluded") (marks_json f.failed) (put (codes "_profile") (number (unsigned 2)) (put (codes "_type") (string (type_text f.of)) no_members)) (omega arith)
    (put_depth 5 (codes "_profile") (number (unsigned 2)) (put (codes "_type") (string (type_text f.of)) no_members) (omega arith) (omega arith))

pub file_depth : (f : SavedFile) → depth (file_json f) ≤ 6
file_depth f =
    let keys = stored_keys f.of f.stored (contents f) in
    let few = each_depth string 0 (λ k. omega arith) keys in
    let whole = programs_depth f.programs (with_values f.of f.values (heading f)) (values_depth f.of f.values (heading f) (heading_depth f)) in
    let e = put_depth 5 (codes "_computed") (array_of (map string keys)) (contents f) (omega arith) whole in
    omega arith
