-- The next program fits; it is added, and the others are left.
use Rattle.std.proofs.Common.{ap, subst, sym, true, ◌≡◌, ◌∙◌, ◌∷◌, List}
use Rattle.std.proofs.lemmas.Bool.{and_parts}
use Rattle.std.specs.List.{list_all}
use Rattle.std.specs.Prelude.{map}
use Rattle.pm_files.specs.Files.{SavedProgram}
use Rattle.pm_files.specs.Views.{program_of}
use Rattle.pm_files.specs.declared.file.FileProgram.{FileProgram}
use Rattle.pm_filing.proofs.Objectives.{first_program}
use Rattle.pm_filing.proofs.ProgramsFit.{ProgramsFit, objective_is_taken, others_fit, program_is_free, program_is_named}
use Rattle.pm_filing.specs.Filing.{with_programs}
use Rattle.pm_filing.specs.ReadingViews.{has_formed_objective}
use Rattle.pm_filing.specs.Whole.{is_mark}
use Rattle.pm_filing.proofs.load.add_programs.Goals as goal
use Rattle.pm_filing.proofs.load.add_programs.Goals.{In-Some}

-- the next program and the others
record Next (c : In-Some) : Type 0 where
  fit : ProgramsFit c.loop-program.object.state (program_of c.in-Some.program ∷ map program_of c.next.new.self.rest.items)
  formed : (has_formed_objective c.in-Some.program ≡ true) × (list_all has_formed_objective c.next.new.self.rest.items ≡ true)
  marks : (list_all is_mark (program_of c.in-Some.program).failed ≡ true) × (list_all (λ p. list_all is_mark p.failed) (map program_of c.next.new.self.rest.items) ≡ true)

next : (c : In-Some) → Next c
next c =
    let i = c.loop-program.invariant in
    let p = c.in-Some.program in
    let rest = c.next.new.self.rest.items in
    let all : c.loop-program.program-iterator.rest.items ≡ p ∷ rest = c.in-Some.ensures.steps.0 in
    record {
      fit = subst (λ (ps : List FileProgram). ProgramsFit c.loop-program.object.state (map program_of ps)) all i.1;
      formed = and_parts (has_formed_objective p) (list_all has_formed_objective rest) (subst (λ (ps : List FileProgram). list_all has_formed_objective ps ≡ true) all i.2);
      marks = and_parts (list_all is_mark (program_of p).failed) (list_all (λ (q : SavedProgram). list_all is_mark q.failed) (map program_of rest))
          (subst (λ (ps : List FileProgram). list_all (λ (q : SavedProgram). list_all is_mark q.failed) (map program_of ps) ≡ true) all i.3);
    }

pub add_program-requires : goal.add_program-requires
add_program-requires c =
    let old = c.loop-program.object.state in
    let p = c.in-Some.program in
    let others = map program_of c.next.new.self.rest.items in
    let n = next (goal.at.add_program-requires c).In-Some in
    record {
      name = program_is_named old (program_of p) others n.fit;
      formed = n.formed.0;
      free = program_is_free old (program_of p) others n.fit;
      taken = objective_is_taken old p others n.fit n.formed.0;
      marks = n.marks.0;
    }

pub loop-program-preserved : goal.loop-program-preserved
loop-program-preserved c =
    let book = c.args.book.now in
    let old = c.loop-program.object.state in
    let p = program_of c.in-Some.program in
    let others = map program_of c.next.new.self.rest.items in
    let n = next (goal.at.loop-program-preserved c).In-Some in (
      ap (λ z. with_programs book z others) c.in_ok-add_program.ensures.ok
          ∙ first_program book old p others
          ∙ ap (λ (ps : List FileProgram). with_programs book old (map program_of ps)) (sym c.in-Some.ensures.steps.0)
          ∙ c.loop-program.invariant.0,
      subst (λ z. ProgramsFit z others) (sym c.in_ok-add_program.ensures.ok) (others_fit book old p others n.fit),
      n.formed.1,
      n.marks.1,
    )
