-- The object of the name is written through its reference; the others stay.
use Rattle.std.proofs.Common.{refl, sym, true, ◌∙◌, ◌≡◌}
use Rattle.pm_machine.proofs.Names.{program_done, program_refused, stays_with, written}
use Rattle.pm_machine.proofs.Refused.{full, not_polytope, taken_name}
use Rattle.pm_machine.specs.Steps.{is_program_word, is_taken, no_room, other_type, is_refused}
use Rattle.pm_machine.proofs.session.Session.do_new_program.Goals as goal

pub returns-in-Ok-clause-step : goal.returns-in-Ok-clause-step
returns-in-Ok-clause-step g c =
    let o = c.in-Some.object.now in
    let o' = c.add_program.new.self in
    let w = written c.args.self.now.objects (c.get_mut.follows.lender o') _ c.args.name.now o o' refl c.in-Some.ensures.value (c.get_mut.follows.holds o').1 (c.get_mut.follows.holds o').3 in
    let word : is_program_word c.args.of.now ≡ true = sym c.is_program_word.ensures ∙ c.if-not-is_program_word.false in
    rw c.done.ensures (program_done w _ c.args.sub.now c.args.of.now word c.in-Ok.ensures.ok c.in-Ok.ensures.added)

pub returns-in-Err-NotPolytope-clause-step : goal.returns-in-Err-NotPolytope-clause-step
returns-in-Err-NotPolytope-clause-step g c =
    let o = c.in-Some.object.now in
    let o' = c.add_program.new.self in
    let w = written c.args.self.now.objects (c.get_mut.follows.lender o') _ c.args.name.now o o' refl c.in-Some.ensures.value (c.get_mut.follows.holds o').1 (c.get_mut.follows.holds o').3 in
    let word : is_program_word c.args.of.now ≡ true = sym c.is_program_word.ensures ∙ c.if-not-is_program_word.false in
    rw c.refused-in-Err-NotPolytope.ensures (is_refused (other_type word (program_refused w c.args.sub.now _ (not_polytope o.state c.args.sub.now c.in-Err-NotPolytope.field-0 c.in-Err-NotPolytope.field-0-is c.in-Err-NotPolytope.ensures.refused))) (stays_with w _ c.in-Err-NotPolytope.ensures.unchanged))

pub returns-in-Err-NameTaken-clause-step : goal.returns-in-Err-NameTaken-clause-step
returns-in-Err-NameTaken-clause-step g c =
    let o = c.in-Some.object.now in
    let o' = c.add_program.new.self in
    let w = written c.args.self.now.objects (c.get_mut.follows.lender o') _ c.args.name.now o o' refl c.in-Some.ensures.value (c.get_mut.follows.holds o').1 (c.get_mut.follows.holds o').3 in
    let word : is_program_word c.args.of.now ≡ true = sym c.is_program_word.ensures ∙ c.if-not-is_program_word.false in
    rw c.refused-in-Err-NameTaken.ensures (is_refused (is_taken word (program_refused w c.args.sub.now _ (taken_name o.state c.args.sub.now c.in-Err-NameTaken.field-0 c.in-Err-NameTaken.field-0-is c.in-Err-NameTaken.ensures.refused))) (stays_with w _ c.in-Err-NameTaken.ensures.unchanged))

pub returns-in-Err-Full-clause-step : goal.returns-in-Err-Full-clause-step
returns-in-Err-Full-clause-step g c =
    let o = c.in-Some.object.now in
    let o' = c.add_program.new.self in
    let w = written c.args.self.now.objects (c.get_mut.follows.lender o') _ c.args.name.now o o' refl c.in-Some.ensures.value (c.get_mut.follows.holds o').1 (c.get_mut.follows.holds o').3 in
    let word : is_program_word c.args.of.now ≡ true = sym c.is_program_word.ensures ∙ c.if-not-is_program_word.false in
    rw c.refused-in-Err-Full.ensures (is_refused (no_room word (program_refused w c.args.sub.now _ (full o.state c.args.sub.now c.in-Err-Full.field-0 c.in-Err-Full.field-0-is c.in-Err-Full.ensures.refused))) (stays_with w _ c.in-Err-Full.ensures.unchanged))

pub returns-in-Err-Memory-clause-err : goal.returns-in-Err-Memory-clause-err
returns-in-Err-Memory-clause-err g c =
    let o = c.in-Some.object.now in
    let o' = c.add_program.new.self in
    let w = written c.args.self.now.objects (c.get_mut.follows.lender o') _ c.args.name.now o o' refl c.in-Some.ensures.value (c.get_mut.follows.holds o').1 (c.get_mut.follows.holds o').3 in
    stays_with w _ c.in-Err-Memory.ensures.unchanged
