-- Target after target: what is still to be committed, with room for it.
use Rattle.std.proofs.Common.{ap, arith, subst, sym, ◌∙◌, ◌≡◌}
use Rattle.std.proofs.lemmas.List.{length-map}
use Rattle.std.specs.Prelude.{length, map}
use Rattle.pm_object.specs.Reading.{answer_at}
use Rattle.pm_object.specs.State.{with_held}
use Rattle.pm_object.specs.Honest.{facts}
use Rattle.pm_object.specs.Laws.{computed}
use Rattle.pm_object.specs.Views.{put_seen}
use Rattle.pm_props.specs.Sets.{members}
use Rattle.pm_props.specs.declared.property.PropId.TheVariants.{ConeAmbientDim}
use Rattle.pm_transact.proofs.Committing.{StillToCommit, all_committed, among_at, at_any, backed_at, drop_at, fits_at, next_to_commit, start_to_commit}
use Rattle.pm_transact.specs.Commits.{FitsObject}
use Rattle.pm_transact.specs.Transactions.{TransactionSeen}
use Rattle.pm_types.specs.Runs.{missing}
use Rattle.pm_transact.proofs.transaction.Transaction.commit.Goals as goal

pub loop-p-init : goal.loop-p-init
loop-p-init c =
    let t = c.self.inside in
    let o = c.args.object.now.state in
    let items : c.deref-p-items.result.now ≡ members t.kind.targets = c.deref-p-items.ensures.value ∙ c.self.invariant in
    let values : map put_seen t.values.items ≡ c.args.self.values = ap (λ (z : TransactionSeen). z.values) c.self.view_is in
    let many : length (map put_seen t.values.items) ≡ length c.args.self.values = ap length values in
    record {
      rest = subst (λ v. StillToCommit t.sub o v c.deref-p-items.result.now o (map put_seen t.values.items) 0) values
          (subst (λ ps. StillToCommit t.sub o (map put_seen t.values.items) ps o (map put_seen t.values.items) 0) (sym items) (start_to_commit t.sub o (map put_seen t.values.items) t.kind.targets));
      room = let n = length-map t.values.items put_seen in omega (arith, t.values.ok.0, c.requires.room);
    }

pub commit_one-requires-clause-fits : goal.commit_one-requires-clause-fits
commit_one-requires-clause-fits c =
    let t = c.self.inside in
    let xs = c.deref-p-items.result.now in
    let i = c.loop-p.p-index in
    let o = c.args.object.now.state in
    let items : xs ≡ members t.kind.targets = c.deref-p-items.ensures.value ∙ c.self.invariant in
    let kind : members t.kind.targets ≡ members c.args.self.kind.targets = ap (λ (z : TransactionSeen). members z.kind.targets) c.self.view_is in
    let sub : t.sub ≡ c.args.self.sub = ap (λ (z : TransactionSeen). z.sub) c.self.view_is in
    fits_at t.sub o c.args.self.values xs c.loop-p.object.state (map put_seen c.loop-p.values.items) i _
    (drop_at xs i _ c.loop-p-test.true (at_any xs i ConeAmbientDim c.loop-p-test.true)) (among_at xs i ConeAmbientDim c.loop-p-test.true)
    (subst (λ s. FitsObject o (answer_at s xs c.args.self.values)) (sym sub) (subst (λ ps. FitsObject o (answer_at c.args.self.sub ps c.args.self.values)) (sym (items ∙ kind)) c.requires.fits)) c.loop-p.invariant.rest

pub commit_one-requires-clause-backed : goal.commit_one-requires-clause-backed
commit_one-requires-clause-backed c =
    let t = c.self.inside in
    let xs = c.deref-p-items.result.now in
    let i = c.loop-p.p-index in
    let o = c.args.object.now.state in
    let items : xs ≡ members t.kind.targets = c.deref-p-items.ensures.value ∙ c.self.invariant in
    let kind : members t.kind.targets ≡ members c.args.self.kind.targets = ap (λ (z : TransactionSeen). members z.kind.targets) c.self.view_is in
    let sub : t.sub ≡ c.args.self.sub = ap (λ (z : TransactionSeen). z.sub) c.self.view_is in
    backed_at t.sub o c.args.self.values xs c.loop-p.object.state (map put_seen c.loop-p.values.items) i _
    (drop_at xs i _ c.loop-p-test.true (at_any xs i ConeAmbientDim c.loop-p-test.true)) (among_at xs i ConeAmbientDim c.loop-p-test.true)
    (subst (λ s. FitsObject o (answer_at s xs c.args.self.values)) (sym sub) (subst (λ ps. FitsObject o (answer_at c.args.self.sub ps c.args.self.values)) (sym (items ∙ kind)) c.requires.fits)) c.loop-p.invariant.rest

pub loop-p-preserved : goal.loop-p-preserved
loop-p-preserved c =
    let t = c.self.inside in
    let xs = c.deref-p-items.result.now in
    let i = c.loop-p.p-index in
    record {
      rest = next_to_commit t.sub c.args.object.now.state c.args.self.values xs c.loop-p.object.state (map put_seen c.loop-p.values.items) i _ c.commit_one.new.object.state (map put_seen c.commit_one.new.values.items)
          (drop_at xs i _ c.loop-p-test.true (at_any xs i ConeAmbientDim c.loop-p-test.true)) c.commit_one.ensures.added c.commit_one.ensures.cols c.commit_one.ensures.values c.loop-p.invariant.rest;
      room = c.commit_one.ensures.room;
    }

pub returns : goal.returns
returns c =
    let t = c.self.inside in
    let xs = c.deref-p-items.result.now in
    let o = c.args.object.now.state in
    let items : xs ≡ members t.kind.targets = c.deref-p-items.ensures.value ∙ c.self.invariant in
    let kind : members t.kind.targets ≡ members c.args.self.kind.targets = ap (λ (z : TransactionSeen). members z.kind.targets) c.self.view_is in
    let sub : t.sub ≡ c.args.self.sub = ap (λ (z : TransactionSeen). z.sub) c.self.view_is in
    let all = all_committed t.sub o c.args.self.values xs c.loop-p.object.state (map put_seen c.loop-p.values.items) c.loop-p.p-index (omega arith) c.loop-p.invariant.rest in
    all ∙ ap (λ ps. with_held o (computed (missing t.sub (facts o.held) (answer_at t.sub ps c.args.self.values)))) (items ∙ kind)
    ∙ ap (λ s. with_held o (computed (missing s (facts o.held) (answer_at s (members c.args.self.kind.targets) c.args.self.values)))) sub
