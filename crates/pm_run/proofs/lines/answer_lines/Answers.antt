-- One line more, and the ways in which the lines end.
use Rattle.std.proofs.Common.{ap, arith, refl, sym, ◌∙◌, ◌≡◌, ◌++◌, ◌∷◌, [], true, Ok, length}
use Rattle.std.proofs.lemmas.Result.{err_from_is_err_and}
use Rattle.pm_lines.specs.Coming.{ReaderSeen}
use Rattle.pm_machine.specs.Sessions.{book_of}
use Rattle.pm_run.proofs.Came.{came_breaking, came_failing, not_at_end}
use Rattle.pm_run.proofs.Reading.{read_next, read_none}
use Rattle.pm_run.proofs.Runs.{one_more, so_far_next, so_far_start}
use Rattle.pm_rounds.proofs.Narrowing.{narrows_itself, narrows_more}
use Rattle.pm_run.proofs.lines.answer_lines.Goals as goal

pub loop-reader-init : goal.loop-reader-init
loop-reader-init g c =
    let new = c.new-reader.ensures in
    record {
      book = refl;
      narrows = narrows_itself _;
      going = record {
        first = [];
        read = read_none _ c.new-reader.result (ap (λ (r : ReaderSeen). r.given) new) (ap (λ (r : ReaderSeen). r.read) new) (ap (λ (r : ReaderSeen). r.at_end) new);
        so_far = so_far_start _ (book_of c.args.session.now) _ _ _ c.requires.kept c.requires.stand;
      };
      few = let none : length c.new-reader.result.given ≡ 0 = ap (λ (r : ReaderSeen). length r.given) new in omega arith;
      bound = let none : c.new-reader.result.read ≡ 0 = ap (λ (r : ReaderSeen). r.read) new in omega arith;
      source_rises = omega arith;
      store_rises = omega arith;
      sink_rises = omega arith;
    }

pub loop-reader-preserved : goal.loop-reader-preserved
loop-reader-preserved g c =
    let i = c.loop-reader.invariant in
    let on = not_at_end c.loop-reader.reader.at_end c.advance.result (Ok true) (λ e. (c.advance.ensures.stays e).0) (c.in_ok-there.was ∙ ap Ok c.if-not-there.false) (λ h. cc) in
    record {
      book = c.in_ok-refused.ensures.book ∙ i.book;
      narrows = narrows_more _ _ _ i.narrows c.in_ok-refused.ensures.narrows;
      going = record {
        first = i.going.first ++ c.advance.new.self.line ∷ [];
        read = read_next _ _ _ i.going.first c.loop-reader.reader c.advance.new.self i.going.read on
            (c.in_ok-there.ensures.line c.if-not-there.false) (c.in_ok-there.ensures.last c.if-not-there.false) c.in_ok-there.ensures.bound;
        so_far = so_far_next _ (book_of c.args.session.now) (book_of c.loop-reader.session) c.args.trace _ _ _ _ _ _ i.going.first c.advance.new.self.line
            c.loop-reader.some_refused c.in_ok-refused.refused i.going.so_far i.book (one_more _ _ i.narrows _ _ _ _ _ _ _ _ (rw c.line.ensures at c.in_ok-refused.ensures.told));
      };
      few = c.in_ok-there.ensures.few;
      bound = c.in_ok-there.ensures.bound;
      source_rises = omega (arith, c.in_ok-there.ensures.never_falls, i.source_rises);
      store_rises = omega (arith, c.in_ok-refused.ensures.store_count, i.store_rises);
      sink_rises = omega (arith, c.in_ok-refused.ensures.never_falls, i.sink_rises);
    }

pub returns-in_err-there-clause-outcome : goal.returns-in_err-there-clause-outcome
returns-in_err-there-clause-outcome g c =
    let p = err_from_is_err_and c.from_residual.result c.from_residual.ensures.1 in
    let i = c.loop-reader.invariant in
    rw p.1 (came_breaking _ (book_of c.args.session.now) c.args.trace _ _ _ _ _ _ _ c.loop-reader.reader c.advance.new.self c.loop-reader.some_refused c.advance.result c.in_err-there.field-0.0 p.0
    i.going c.in_err-there.was p.2 (λ e. (c.advance.ensures.stays e).0) i.bound i.few c.advance.ensures.bound c.advance.ensures.fault c.advance.ensures.too_long)

pub returns-in_err-refused-clause-outcome : goal.returns-in_err-refused-clause-outcome
returns-in_err-refused-clause-outcome g c =
    let p = err_from_is_err_and c.from_residual-in_err-refused.result c.from_residual-in_err-refused.ensures.1 in
    let i = c.loop-reader.invariant in
    let on = not_at_end c.loop-reader.reader.at_end c.advance.result (Ok true) (λ e. (c.advance.ensures.stays e).0) (c.in_ok-there.was ∙ ap Ok c.if-not-there.false) (λ h. cc) in
    let read = read_next _ _ _ i.going.first c.loop-reader.reader c.advance.new.self i.going.read on
    (c.in_ok-there.ensures.line c.if-not-there.false) (c.in_ok-there.ensures.last c.if-not-there.false) c.in_ok-there.ensures.bound in
    rw p.1 (came_failing _ _ i.narrows (book_of c.args.session.now) (book_of c.loop-reader.session) c.args.trace _ _ _ _ _ _ _ _ c.advance.new.self i.going.first c.advance.new.self.line c.loop-reader.some_refused p.0
    c.in_ok-there.ensures.bound c.in_ok-there.ensures.few read i.going.so_far i.book (rw (sym p.2) at c.in_err-refused.ensures.which)
    (λ h. rw c.line.ensures at (c.answer_next.ensures.part (cc (c.in_err-refused.was, p.2, h))))
    (λ h. ap g.K.Sink.taken (c.answer_next.ensures.memory (cc (c.in_err-refused.was, p.2, h))))
    (λ h. rw c.line.ensures at (c.answer_next.ensures.hand (cc (c.in_err-refused.was, p.2, h)))))
