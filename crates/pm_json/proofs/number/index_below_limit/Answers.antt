use Rattle.std.proofs.lemmas.Int.{to_z-of_z}
use Rattle.pm_json.proofs.SetTurns.{index_small}
use Rattle.pm_json.proofs.number.index_below_limit.Goals as goal

pub returns-then-k-lt-INDEX_LIMIT : goal.returns-then-k-lt-INDEX_LIMIT
returns-then-k-lt-INDEX_LIMIT c =
    let whole = to_z-of_z _ c.args.k c.ranges.k in
    rw whole (index_small c.args.k (rw whole at c.if-k-lt0.false) (rw whole at c.if-k-lt-INDEX_LIMIT.true))
