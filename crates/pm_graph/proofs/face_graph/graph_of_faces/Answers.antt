use Rattle.pm_graph.proofs.Pairs.{face_graph, one_rank_more}
use Rattle.pm_graph.proofs.Views.{view_in, written_back}
use Rattle.pm_bits.specs.Sets.{has, members}
use Rattle.pm_graph.proofs.face_graph.graph_of_faces.Goals as goal
use Rattle.pm_graph.specs.Edges.{IsPairAmong, IsPairInRanks, Joins, whole_of}
use Rattle.pm_graph.specs.Tables.{HaveLength}
use Rattle.pm_types.specs.Lists.{lists_of}
use Rattle.std.proofs.Common.{[], ap, arith, length, map, slice_index_or, subst, sym, take, ℕ, ◌+◌, ◌<◌, ◌∙◌}
use Rattle.std.proofs.lemmas.List.{length-map, take_all}
use Rattle.std.specs.Prelude.{IsTrue, ◌↔◌}

pub loop-faces-preserved : goal.loop-faces-preserved
loop-faces-preserved c =
    let l : c.loop-faces.faces-index < length c.ranks-faces-items.result.now = c.loop-faces-test.true in
    let len = c.join_all.auto.rows ∙ ap length c.deref_mut.ensures.value in
    let back = written_back c.loop-faces.rows.len c.join_all.new.rows c.loop-faces.rows.items len (omega arith) in
    let n = ap length c.deref_mut.ensures.value ∙ c.loop-faces.invariant.count in
    let joined = subst (λ o. Joins (IsPairAmong c.whole_len-len.result (map (λ face. face.items) c.deref.result.now)) o c.join_all.new.rows) c.deref_mut.ensures.value (subst (λ m. Joins (IsPairAmong m (map (λ face. face.items) c.deref.result.now)) c.deref_mut.result.now c.join_all.new.rows) n c.join_all.ensures.joined) in
    record {
      count = ap length back ∙ len ∙ c.loop-faces.invariant.count;
      lengths = subst (λ rs. HaveLength c.whole_len-len.result rs) (sym back) (subst (λ m. HaveLength m c.join_all.new.rows) n c.join_all.ensures.lengths);
      joined = subst (λ rs. (i j : ℕ) → i < c.whole_len-len.result → IsTrue (has (slice_index_or rs i []) j) ↔ IsPairInRanks c.whole_len-len.result (take (c.loop-faces.faces-index + 1) (map lists_of c.ranks-faces-items.result.now)) i j) (sym back)
          (one_rank_more c.whole_len-len.result c.loop-faces.faces-index (map lists_of c.ranks-faces-items.result.now) (lists_of c.faces-item.result) (map (λ face. face.items) c.deref.result.now) c.loop-faces.rows.items c.join_all.new.rows
          (let w = length-map c.ranks-faces-items.result.now lists_of in omega arith) (view_in lists_of c.ranks-faces-items.result.now c.loop-faces.faces-index c.faces-item.result (lists_of c.faces-item.result) l c.faces-item.is) (ap (map (λ face. face.items)) c.deref.ensures.value) c.loop-faces.invariant.count c.loop-faces.invariant.joined joined);
    }

pub returns-clause-graph : goal.returns-clause-graph
returns-clause-graph c =
    let all = take_all c.loop-faces.faces-index (map lists_of c.ranks-faces-items.result.now) (let w = length-map c.ranks-faces-items.result.now lists_of in omega arith) ∙ c.ranks-faces-items.ensures in
    let f = subst (λ rs. (i j : ℕ) → i < c.whole_len-len.result → IsTrue (has (slice_index_or c.loop-faces.rows.items i []) j) ↔ IsPairInRanks c.whole_len-len.result rs i j) all c.loop-faces.invariant.joined in
    face_graph c.whole_len-len.result c.args.l.now c.loop-faces.rows.items c.from_vec.result.rows (c.whole_len-len.ensures ∙ ap (λ rs. length (whole_of rs)) c.ranks.ensures) c.loop-faces.invariant.count c.loop-faces.invariant.lengths f (ap (λ g. g.rows) c.from_vec.ensures ∙ c.in_ok-lists.ensures ∙ ap (map members) c.deref-2.ensures.value)
