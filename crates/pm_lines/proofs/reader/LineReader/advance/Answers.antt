-- What was read so far, from the invariant, and what one step more makes of it.
use Rattle.std.proofs.Common.{◌≡◌, ℕ, suc, ◌<◌, ◌+◌, List, [], ◌∷◌, ◌++◌, length, length-append, ap, subst, sym, ◌∙◌, arith, Err, IsErrOf}
use Rattle.std.proofs.lemmas.Result.{err_from_is_err_and}
use Rattle.pm_lines.proofs.LineLaws.{clear_append, last_line}
use Rattle.pm_lines.proofs.SoFar.{no_whole, told_ended, told_exceeds, told_last, told_lets_go, told_more, told_off, told_over}
use Rattle.pm_lines.specs.Coming.{ReaderSeen}
use Rattle.pm_lines.specs.Whole.{HasNoBreak}
use Rattle.pm_lines.specs.declared.reader.LinesFail.TheVariants.{Fault, Memory, TooLong}
use Rattle.pm_command.specs.Lines.{Line}
use Rattle.pm_lines.proofs.reader.LineReader.advance.Goals as goal

abbrev line_of : ReaderSeen → Line
line_of r = r.line

abbrev given_of : ReaderSeen → List ℕ
given_of r = r.given

abbrev read_of : ReaderSeen → ℕ
read_of r = r.read

pub returns-then-there-clause-line : goal.returns-then-there-clause-line
returns-then-there-clause-line g c e =
    let had = c.loop-there.invariant in
    let ended = c.in_ok-there.ensures.ended c.if-there.true in
    told_ended (g.S.Source.left c.args.source.now) (g.S.Source.left c.loop-there.source) ended.0 c.args.self.now c.loop-there.self c.take_line.new.self
    had.told had.clear ended.1 c.in_ok-there.ensures.read

pub returns-then-there-clause-shrinks : goal.returns-then-there-clause-shrinks
returns-then-there-clause-shrinks g c there goes_on =
    let counted = c.loop-there.invariant.counted in
    let ended = c.in_ok-there.ensures.ended c.if-there.true in
    let taken : length c.loop-there.self.given ≡ length ended.0 + suc (length c.take_line.new.self.given) =
    ap length ended.1.given ∙ length-append ended.0 (10 ∷ c.take_line.new.self.given) in
    let read = c.in_ok-there.ensures.read in
    omega arith

pub returns-in_err-there-clause-memory : goal.returns-in_err-there-clause-memory
returns-in_err-there-clause-memory g c is =
    let had = c.loop-there.invariant in
    told_lets_go (g.S.Source.left c.args.source.now) (g.S.Source.left c.loop-there.source) c.args.self.now c.loop-there.self c.take_line.new.self
    had.told had.clear c.in_err-there.ensures.kept c.in_err-there.ensures.read

pub returns-in_err-there-clause-gone : goal.returns-in_err-there-clause-gone
returns-in_err-there-clause-gone g c =
    let p = err_from_is_err_and c.from_residual.result c.from_residual.ensures.1 in
    let given = p.1 in
    let same = p.2 in
    rw p.1 (λ other. absurd (other (let e = same in cc)))

pub returns-in_err-more-clause-memory : goal.returns-in_err-more-clause-memory
returns-in_err-more-clause-memory g c is =
    let p = err_from_is_err_and c.from_residual-in_err-more.result c.from_residual-in_err-more.ensures.1 in
    let given = p.1 in
    let same = p.2 in
    let was = c.in_err-more.was in
    let failed : c.refill.result ≡ Err Memory = cc in
    absurd (c.refill.ensures.needs_none failed)

pub returns-in_err-more-clause-ready : goal.returns-in_err-more-clause-ready
returns-in_err-more-clause-ready g c some =
    let had = c.loop-there.invariant in
    let clear = (c.in_ok-there.ensures.unended c.if-there.false).0 in
    absurd (some (no_whole c.args.self.now c.loop-there.self clear (had.quiet some).1))

pub returns-in_err-more-clause-fault : goal.returns-in_err-more-clause-fault
returns-in_err-more-clause-fault g c is =
    let had = c.loop-there.invariant in
    let clear = (c.in_ok-there.ensures.unended c.if-there.false).0 in
    let p = err_from_is_err_and c.from_residual-in_err-more.result c.from_residual-in_err-more.ensures.1 in
    let given = p.1 in
    let same = p.2 in
    let was = c.in_err-more.was in
    let failed : IsErrOf c.refill.result Fault = cc in
    let none : length c.refill.new.self.given ≡ 0 = ap length c.in_err-more.ensures.none in
    let refilled_read : c.refill.new.self.read ≡ c.take_line.new.self.read + length c.refill.new.self.given = ap read_of c.in_err-more.ensures.state in
    let took = c.in_ok-there.ensures.read in
    told_off (g.S.Source.left c.args.source.now) (g.S.Source.left c.loop-there.source) (g.S.Source.left c.refill.new.source)
    c.args.self.now c.loop-there.self c.refill.new.self had.told had.clear clear (c.refill.ensures.err failed) (omega arith)

pub returns-in_err-more-clause-too_long : goal.returns-in_err-more-clause-too_long
returns-in_err-more-clause-too_long g c is =
    let had = c.loop-there.invariant in
    let clear = (c.in_ok-there.ensures.unended c.if-there.false).0 in
    let p = err_from_is_err_and c.from_residual-in_err-more.result c.from_residual-in_err-more.ensures.1 in
    let given = p.1 in
    let same = p.2 in
    let was = c.in_err-more.was in
    let failed : IsErrOf c.refill.result TooLong = cc in
    told_exceeds (g.S.Source.left c.args.source.now) (g.S.Source.left c.loop-there.source) (g.S.Source.left c.refill.new.source)
    c.args.self.now c.loop-there.self had.told had.clear clear (sym c.in_ok-there.ensures.read ∙ c.refill.ensures.too_long failed) (c.refill.ensures.over failed)

pub returns-then-not-more-clause-line : goal.returns-then-not-more-clause-line
returns-then-not-more-clause-line g c there =
    let had = c.loop-there.invariant in
    let unended = c.in_ok-there.ensures.unended c.if-there.false in
    let end = c.in_ok-more.ensures.end c.if-not-more.true in
    let bytes = c.loop-there.self.line.bytes ++ c.loop-there.self.given in
    let refilled_line : c.refill.new.self.line ≡ last_line bytes = ap line_of c.in_ok-more.ensures.state ∙ ap line_of unended.1 in
    let line_is : c.finish.new.self.line ≡ last_line bytes = ap line_of c.finish.ensures.state ∙ refilled_line in
    let given_is : c.finish.new.self.given ≡ [] = ap given_of c.finish.ensures.state ∙ end.0 in
    let none : length c.refill.new.self.given ≡ 0 = ap length end.0 in
    let refilled_read : c.refill.new.self.read ≡ c.take_line.new.self.read + length c.refill.new.self.given = ap read_of c.in_ok-more.ensures.state in
    let finished_read : c.finish.new.self.read ≡ c.refill.new.self.read = ap read_of c.finish.ensures.state in
    let took = c.in_ok-there.ensures.read in
    let read_is : c.finish.new.self.read ≡ c.loop-there.self.read = omega arith in
    let some : 0 < length bytes = subst (λ (l : Line). 0 < length l.bytes) refilled_line (c.finish.ensures.line there) in
    told_last (g.S.Source.left c.args.source.now) (g.S.Source.left c.loop-there.source) (g.S.Source.left c.refill.new.source)
    c.args.self.now c.loop-there.self c.finish.new.self had.told end.1 end.2 some
    (clear_append c.loop-there.self.line.bytes c.loop-there.self.given had.clear unended.0) line_is given_is read_is

pub returns-then-not-more-clause-over : goal.returns-then-not-more-clause-over
returns-then-not-more-clause-over g c there began =
    let had = c.loop-there.invariant in
    let unended = c.in_ok-there.ensures.unended c.if-there.false in
    let end = c.in_ok-more.ensures.end c.if-not-more.true in
    let bytes = c.loop-there.self.line.bytes ++ c.loop-there.self.given in
    let refilled_line : c.refill.new.self.line ≡ last_line bytes = ap line_of c.in_ok-more.ensures.state ∙ ap line_of unended.1 in
    let none : bytes ≡ [] = subst (λ (l : Line). l.bytes ≡ []) refilled_line (c.finish.ensures.none there) in
    told_over (g.S.Source.left c.args.source.now) (g.S.Source.left c.loop-there.source) (g.S.Source.left c.refill.new.source)
    c.args.self.now c.loop-there.self had.told end.1 end.2 none

pub returns-then-not-more-clause-ready : goal.returns-then-not-more-clause-ready
returns-then-not-more-clause-ready g c some =
    let had = c.loop-there.invariant in
    let clear = (c.in_ok-there.ensures.unended c.if-there.false).0 in
    absurd (some (no_whole c.args.self.now c.loop-there.self clear (had.quiet some).1))

pub loop-there-preserved : goal.loop-there-preserved
loop-there-preserved g c =
    let had = c.loop-there.invariant in
    let unended = c.in_ok-there.ensures.unended c.if-there.false in
    let bytes = c.loop-there.self.line.bytes ++ c.loop-there.self.given in
    let took_line : c.take_line.new.self.line ≡ last_line bytes = ap line_of unended.1 in
    let refilled_line : c.refill.new.self.line ≡ c.take_line.new.self.line = ap line_of c.in_ok-more.ensures.state in
    let refilled_read : c.refill.new.self.read ≡ c.take_line.new.self.read + length c.refill.new.self.given = ap read_of c.in_ok-more.ensures.state in
    let took = c.in_ok-there.ensures.read in
    record {
      told = told_more (g.S.Source.left c.args.source.now) (g.S.Source.left c.loop-there.source) (g.S.Source.left c.refill.new.source)
          c.args.self.now c.loop-there.self c.take_line.new.self c.refill.new.self had.told
          (ap (λ (l : Line). l.bytes) took_line) took (ap (λ (l : Line). l.bytes) refilled_line) refilled_read
          (c.in_ok-more.ensures.more c.if-not-more.false);
      clear = subst (λ (l : Line). HasNoBreak l.bytes) (sym (refilled_line ∙ took_line))
          (clear_append c.loop-there.self.line.bytes c.loop-there.self.given had.clear unended.0);
      unended = ap (λ (l : Line). l.ended) (refilled_line ∙ took_line);
      goes_on = ap (λ (r : ReaderSeen). r.at_end) c.in_ok-more.ensures.state ∙ c.in_ok-there.ensures.at_end ∙ had.goes_on;
      began = had.began;
      quiet = λ some. absurd (some (no_whole c.args.self.now c.loop-there.self unended.0 (had.quiet some).1));
      bound = c.in_ok-more.ensures.bound;
      grows = let before = had.grows in omega arith;
      counted = let before = had.grows in omega arith;
      rises = let before = had.rises in omega (arith, c.in_ok-more.ensures.never_falls);
    }
