use Rattle.pm_object.specs.Views.{put_seen}
use Rattle.pm_transact.proofs.Committing.{StillToCommit}
use Rattle.std.specs.Prelude.{map, vec_len, ◌≤◌}
use Rattle.pm_transact.proofs.transaction.Transaction.commit.Given as goal

-- what is still to be committed, with room for it
abbrev pub invariant-loop-p : goal.invariant-loop-p
invariant-loop-p l = record {
  rest : StillToCommit l.sub l.fn.object.state l.fn.self.values l.p-items l.object.state (map put_seen l.values.items) l.p-index;
  room : vec_len l.values ≤ l.object.spare;
}
