-- The values, then the marks and the programs, which fit, then what goes without saying.
use Rattle.std.proofs.Common.{ap, subst, sym, ◌++◌, ◌≡◌, ◌∙◌}
use Rattle.pm_files.specs.Views.{file_of, program_of}
use Rattle.pm_filing.specs.Filing.{loaded_value, mark_read, unsettled_object, with_programs}
use Rattle.pm_filing.specs.Views.{value_seen}
use Rattle.pm_filing.specs.ReadingViews.{marks_seen}
use Rattle.pm_object.specs.State.{State, empty_object, settling, with_held}
use Rattle.std.specs.Prelude.{None, flat_map, map}
use Rattle.pm_filing.proofs.ProgramsFit.{ProgramsFit, programs_of_file}
use Rattle.pm_filing.proofs.Wholeness.{marks_of_all, own_suit}
use Rattle.pm_filing.proofs.load.put_file.Goals as goal
use Rattle.pm_filing.proofs.load.put_file.Goals.{In_ok-mark_rules}

pub add_values-requires-clause-suit : goal.add_values-requires-clause-suit
add_values-requires-clause-suit c = rw c.requires.empty (own_suit (file_of c.args.file) c.requires.whole)

pub add_values-requires-clause-sites : goal.add_values-requires-clause-sites
add_values-requires-clause-sites c = c.requires.whole.sites

-- what the object holds before its programs
marked : (c : In_ok-mark_rules) → c.mark_rules.new.object.state ≡ record (empty_object c.args.file.of) { held = map (loaded_value c.args.file.stored) (map value_seen c.args.file.values.items); excluded = flat_map (mark_read c.args.book.now None) (marks_seen c.args.file.failed.items) }
marked c =
    let held = map (loaded_value c.args.file.stored) (map value_seen c.args.file.values.items) in
    let marks = flat_map (mark_read c.args.book.now None) (marks_seen c.args.file.failed.items) in
    (rw c.deref.ensures.value at c.in_ok-mark_rules.ensures.ok) ∙ ap (λ (z : State). record z { excluded = z.excluded ++ marks }) (c.in_ok-add_values.ensures.ok ∙ ap (λ (z : State). record z { held = held }) c.requires.empty)

pub add_programs-requires : goal.add_programs-requires
add_programs-requires c =
    let f = file_of c.args.file in
    let fit = subst (λ (z : State). ProgramsFit z f.programs) (sym (marked (goal.at.add_programs-requires c).In_ok-mark_rules)) (programs_of_file f (flat_map (mark_read c.args.book.now None) f.failed) c.requires.whole) in
    record {
      names = fit.names;
      formed = c.requires.objectives;
      suit = fit.suit;
      placed = fit.placed;
      rounds = fit.rounds;
      marks = marks_of_all f.programs c.requires.whole.marks_of_programs;
    }

pub returns-clause-object : goal.returns-clause-object
returns-clause-object c =
    let unsettled : c.add_programs.new.object.state ≡ unsettled_object c.args.book.now (file_of c.args.file) =
    c.in_ok-add_programs.ensures.ok ∙ ap (λ z. with_programs c.args.book.now z (map program_of c.args.file.programs.items)) (marked (goal.at.returns-clause-object c).In_ok-mark_rules) in
    c.in_ok-settle.ensures.ok ∙ ap (λ (z : State). with_held z (settling z)) unsettled
