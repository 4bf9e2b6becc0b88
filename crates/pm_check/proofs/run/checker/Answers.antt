use Rattle.std.proofs.Common.{Err, List, ap, map, refl, string_bytes, subst, sym, ℕ}
use Rattle.std.specs.Prelude.{Option}
use Rattle.pm_check.specs.Words.{Asked, asked_by}
use Rattle.pm_check.specs.Ends.{Answers, Ended, IsBadAsked, Told, World}
use Rattle.pm_check.specs.declared.status.NoAnswer.{NoAnswer}
use Rattle.pm_check.specs.declared.status.Status.{Status}
use Rattle.pm_check.proofs.Ended.{ended_told, ended_why}
use Rattle.pm_check.proofs.Proved.{ended_proved}
use Rattle.pm_check.proofs.run.checker.Goals as goal

-- the line that answers was written, or the sink failed in it
pub returns-in-Ok-clause-run : goal.returns-in-Ok-clause-run
returns-in-Ok-clause-run g c =
    let line = string_bytes c.in-Ok.line in
    let had = g.K.Sink.taken c.args.sink.now in
    let has = g.K.Sink.taken c.written.new.sink in
    let given = g.S.Source.left c.args.source.now in
    let files = g.F.Store.files c.args.store.now in
    ended_told (asked_by (map string_bytes c.args.words.now)) (record { given = given; had = had; has = has; files = files }) line c.in-Ok.right c.written.result
    (subst (λ (asked : Option Asked). Answers asked given files line c.in-Ok.right) c.read_words.ensures c.in-Ok.ensures.found)
    (subst (λ (t : List ℕ). Told had has t c.in-Ok.right c.written.result) c.as_str.ensures.value c.written.ensures.told)

-- nothing was written
pub returns-in-Err-clause-run : goal.returns-in-Err-clause-run
returns-in-Err-clause-run g c =
    let had = g.K.Sink.taken c.args.sink.now in
    let given = g.S.Source.left c.args.source.now in
    let files = g.F.Store.files c.args.store.now in
    let asked = asked_by (map string_bytes c.args.words.now) in
    let w : World = record { given = given; had = had; has = had; files = files } in
    subst (λ (s : Status). Ended asked s w) (sym c.status.ensures)
    (ended_why asked w c.in-Err.why (λ bad. subst (λ (a : Option Asked). IsBadAsked a files) c.read_words.ensures (c.in-Err.ensures.bad_words (ap (λ (e : NoAnswer). Err e) bad))) refl)

-- a yes is true
pub returns-in-Ok-clause-proved : goal.returns-in-Ok-clause-proved
returns-in-Ok-clause-proved g c = λ right.
    let had = g.K.Sink.taken c.args.sink.now in
    let has = g.K.Sink.taken c.written.new.sink in
    let given = g.S.Source.left c.args.source.now in
    let files = g.F.Store.files c.args.store.now in
    let asked = asked_by (map string_bytes c.args.words.now) in
    let w : World = record { given = given; had = had; has = has; files = files } in
    ended_proved asked w (subst (λ (s : Status). Ended asked s w) right (returns-in-Ok-clause-run g c))

-- there is none without an answer
pub returns-in-Err-clause-proved : goal.returns-in-Err-clause-proved
returns-in-Err-clause-proved g c = λ right.
    let had = g.K.Sink.taken c.args.sink.now in
    let given = g.S.Source.left c.args.source.now in
    let files = g.F.Store.files c.args.store.now in
    let asked = asked_by (map string_bytes c.args.words.now) in
    let w : World = record { given = given; had = had; has = had; files = files } in
    ended_proved asked w (subst (λ (s : Status). Ended asked s w) right (returns-in-Err-clause-run g c))
