-- What was seen passed its tests, and is the file.
use Rattle.std.proofs.Common.{List, ap, map, subst, ◌∙◌}
use Rattle.serde_json.specs.View.{view}
use Rattle.pm_filing.specs.FileParts.{then_read}
use Rattle.pm_filing.specs.FileReadings.{ArePassedIn, Seen, named_values, seen_in}
use Rattle.pm_filing.specs.ReadingViews.{part_seen}
use Rattle.pm_filing.specs.declared.parts.FilePart.{FilePart}
use Rattle.pm_files.specs.Views.{file_of}
use Rattle.pm_filing.proofs.DataRead.{if_ok}
use Rattle.pm_filing.proofs.Wholeness.{read_whole}
use Rattle.pm_filing.specs.ReadingViews.{HaveFractions}
use Rattle.pm_filing.proofs.read.read_object.Goals as goal

pub returns-clause-reads : goal.returns-clause-reads
returns-clause-reads c =
    let of = c.in_ok-of.of in
    let s : Seen = record { of = of; top = view c.in_ok-json.json; parts = map part_seen c.in_ok-of.parts.items } in
    let passed = subst (λ (ps : List FilePart). ArePassedIn (record { of = of; top = view c.in_ok-json.json; parts = map part_seen ps })) c.deref.ensures.value c.in_ok-test_all.ensures.ok in
    if_ok c.file_in.result (λ f h. (s, ap (λ r. then_read r seen_in) c.in_ok-json.ensures.ok ∙ c.in_ok-of.ensures.ok, (passed, h))) c.file_in.ensures.ok

pub returns-clause-whole : goal.returns-clause-whole
returns-clause-whole c =
    let of = c.in_ok-of.of in
    let s : Seen = record { of = of; top = view c.in_ok-json.json; parts = map part_seen c.in_ok-of.parts.items } in
    let passed = subst (λ (ps : List FilePart). ArePassedIn (record { of = of; top = view c.in_ok-json.json; parts = map part_seen ps })) c.deref.ensures.value c.in_ok-test_all.ensures.ok in
    let entries = subst (λ (ps : List FilePart). HaveFractions (named_values of (map part_seen ps))) c.deref.ensures.value c.in_ok-test_all.ensures.entries in
    if_ok c.file_in.result (λ f h. read_whole c.args.bytes.now s (file_of f) (ap (λ r. then_read r seen_in) c.in_ok-json.ensures.ok ∙ c.in_ok-of.ensures.ok) (passed, h) c.in_ok-of.ensures.formed entries) c.file_in.ensures.ok
