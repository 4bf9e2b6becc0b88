-- The object has the values, the profile, the programs and the names of what was read.
use Rattle.std.proofs.Common.{Ok, ap, map, string_bytes, subst, sym, true, ◌∙◌, ◌≡◌, List}
use Rattle.std.specs.List.{list_all}
use Rattle.std.specs.Prelude.{Option}
use Rattle.std.proofs.lemmas.Result.{err_from_is_err_and}
use Rattle.pm_props.specs.declared.property.PropId.{PropId}
use Rattle.pm_types.specs.Values.{PropertyValue}
use Rattle.pm_types.specs.Views.{view_of}
use Rattle.serde_json.specs.View.{view}
use Rattle.pm_filing.specs.FileParts.{ignored_in, then_read}
use Rattle.pm_filing.specs.Profiles.{file_with, members_of, names_held, objectives_in, profile_in, programs_in, programs_with, values_in}
use Rattle.pm_filing.specs.ReadingViews.{all_marks_seen, are_formed_values, is_formed_objective, marks_seen, part_seen}
use Rattle.pm_files.specs.Views.{program_of}
use Rattle.pm_filing.proofs.FileParts.{objectives-formed, same-file, values-formed}
use Rattle.pm_filing.proofs.assembly.file_in.Goals as goal

pub returns-in_err-profile-clause-fault : goal.returns-in_err-profile-clause-fault
returns-in_err-profile-clause-fault c =
    let of = c.args.of in
    let json = view c.args.json.now in
    let parts = map part_seen c.args.parts.items in
    let held = c.names_held.ensures ∙ ap (λ ps. names_held (map part_seen ps)) c.deref.ensures.value in
    let same = ap (λ h. profile_in of h json (programs_in of json)) (sym held) ∙ ap (λ ds. profile_in of c.names_held.result json ds) (sym c.programs_in-list.ensures) in
    let p = err_from_is_err_and c.from_residual.result c.from_residual.ensures.1 in
    rw (p.1, p.2) (λ other. ap (λ r. then_read r (λ profile. Ok (file_with of json parts profile))) (same ∙ c.in_err-profile.ensures.fault other))

pub programs_with-requires : goal.programs_with-requires
programs_with-requires c = record {
  formed = subst (λ (os : List (Option PropertyValue)). list_all is_formed_objective os ≡ true) (sym c.in_ok-sorted.ensures.objectives) (objectives-formed (map part_seen c.args.parts.items) c.requires.formed);
}

pub returns-clause-ok : goal.returns-clause-ok
returns-clause-ok c =
    let of = c.args.of in
    let json = view c.args.json.now in
    let parts = map part_seen c.args.parts.items in
    let profile = c.in_ok-profile.profile in
    let names = map string_bytes profile.names.items in
    let marks = all_marks_seen profile.marks.items in
    let held = c.names_held.ensures ∙ ap (λ ps. names_held (map part_seen ps)) c.deref.ensures.value in
    let same = ap (λ h. profile_in of h json (programs_in of json)) (sym held) ∙ ap (λ ds. profile_in of c.names_held.result json ds) (sym c.programs_in-list.ensures) in
    ap (λ r. then_read r (λ profile. Ok (file_with of json parts profile))) (same ∙ c.in_ok-profile.ensures.ok)
    ∙ ap (λ f. Ok f) (same-file of profile.stored (marks_seen profile.failed.items)
    (values_in parts) (map (λ v. (v.0, view_of v.1)) c.in_ok-sorted.sorted.values.items)
    (programs_with (objectives_in parts) names marks) (map program_of c.in_ok-programs_with.field-0.items)
    (ignored_in of (members_of json) (programs_in of json)) (map string_bytes c.in_ok-ignored.ignored.items)
    (sym c.in_ok-sorted.ensures.values)
    (ap (λ os. programs_with os names marks) (sym c.in_ok-sorted.ensures.objectives) ∙ sym c.in_ok-programs_with.ensures.made)
    (ap (λ ds. ignored_in of (members_of json) ds) (sym c.programs_in-list.ensures) ∙ sym c.in_ok-ignored.ensures))

pub returns-clause-formed : goal.returns-clause-formed
returns-clause-formed c = subst (λ (vs : List (PropId × PropertyValue)). are_formed_values vs ≡ true) (sym c.in_ok-sorted.ensures.values) (values-formed (map part_seen c.args.parts.items) c.requires.formed)
