use Rattle.pm_vector.proofs.Lists.{among_All}
use Rattle.pm_vector.specs.Evidence.{NoEvidence}
use Rattle.pm_vector.specs.declared.evidence.ElimList.TheVariants.{Rows}
use Rattle.pm_fan.proofs.Turns.{cone_cols, cone_length, dims_next, rank_few, set_among, sets_more}
use Rattle.pm_fan.proofs.dims.cone_dims.Goals as goal
use Rattle.pm_fan.specs.Dimensions.{cone_rows}
use Rattle.std.proofs.Common.{ap, arith, length, ◌∙◌, ◌<◌, ◌≡◌}
use Rattle.std.proofs.lemmas.List.{length-map, take_all}
use Rattle.std.proofs.lemmas.List.Elements.{All-push}
use Rattle.std.specs.List.{All}
use Rattle.std.specs.Prelude.{List, map, take, ℕ, ◌+◌, ◌^◌}

pub cone_rows-requires : goal.cone_rows-requires
cone_rows-requires c =
    let i = set_among (λ s. s.items) c.rows-set-items.result.now c.args.cones.now.rows c.loop-set.set-index c.set-item.result c.rows-set-items.ensures c.loop-set-test.true c.set-item.is in
    rw c.deref.ensures.value (among_All (λ (set : List ℕ). All (λ j. j < length c.args.rays.now) set × (length c.args.lineality.now + length set < 2 ^ 30)) i c.requires.places).0

pub rank_by-requires-clause-columns : goal.rank_by-requires-clause-columns
rank_by-requires-clause-columns c =
    let i = set_among (λ s. s.items) c.rows-set-items.result.now c.args.cones.now.rows c.loop-set.set-index c.set-item.result c.rows-set-items.ensures c.loop-set-test.true c.set-item.is in
    let p = among_All (λ (set : List ℕ). All (λ j. j < length c.args.rays.now) set × (length c.args.lineality.now + length set < 2 ^ 30)) i c.requires.places in
    rw (c.deref-in-loop-set.ensures.value, c.in_ok-rows.ensures, c.deref.ensures.value) (cone_cols c.args.cols c.args.rays.now c.args.lineality.now c.set-item.result.items c.requires.rays c.requires.lineality p.0)

pub rank_by-requires-clause-few_rows : goal.rank_by-requires-clause-few_rows
rank_by-requires-clause-few_rows c =
    let i = set_among (λ s. s.items) c.rows-set-items.result.now c.args.cones.now.rows c.loop-set.set-index c.set-item.result c.rows-set-items.ensures c.loop-set-test.true c.set-item.is in
    let p = among_All (λ (set : List ℕ). All (λ j. j < length c.args.rays.now) set × (length c.args.lineality.now + length set < 2 ^ 30)) i c.requires.places in
    let m = cone_length c.args.rays.now c.args.lineality.now c.set-item.result.items in
    let few = p.1 in
    rw (c.deref-in-loop-set.ensures.value, c.in_ok-rows.ensures, c.deref.ensures.value) (omega arith)

pub overflow_cast-branch : goal.overflow_cast-branch
overflow_cast-branch c =
    let i = set_among (λ s. s.items) c.rows-set-items.result.now c.args.cones.now.rows c.loop-set.set-index c.set-item.result c.rows-set-items.ensures c.loop-set-test.true c.set-item.is in
    let p = among_All (λ (set : List ℕ). All (λ j. j < length c.args.rays.now) set × (length c.args.lineality.now + length set < 2 ^ 30)) i c.requires.places in
    let k = rank_few c.deref-in-loop-set.result.now c.in_ok-rank_by.field-0 c.in_ok-rank_by.ensures.rank in
    let n = ap length (c.deref-in-loop-set.ensures.value ∙ c.in_ok-rows.ensures ∙ ap (cone_rows c.args.rays.now c.args.lineality.now) c.deref.ensures.value) in
    let m = cone_length c.args.rays.now c.args.lineality.now c.set-item.result.items in
    let few = p.1 in
    omega arith

pub loop-set-preserved : goal.loop-set-preserved
loop-set-preserved c =
    let V = c.args.rays.now in
    let L = c.args.lineality.now in
    let I = c.rows-set-items.result.now in
    let set = c.set-item.result.items in
    let i = set_among (λ s. s.items) I c.args.cones.now.rows c.loop-set.set-index c.set-item.result c.rows-set-items.ensures c.loop-set-test.true c.set-item.is in
    let p = among_All (λ (s : List ℕ). All (λ j. j < length V) s × (length L + length s < 2 ^ 30)) i c.requires.places in
    let same = c.deref-in-loop-set.ensures.value ∙ c.in_ok-rows.ensures ∙ ap (cone_rows V L) c.deref.ensures.value in
    let rank = rw same at c.in_ok-rank_by.ensures.rank in
    let few = rank_few (cone_rows V L set) c.in_ok-rank_by.field-0 rank in
    let m = cone_length V L set in
    let small = p.1 in
    let more = sets_more (λ s. s.items) I c.loop-set.set-index c.set-item.result c.loop-set-test.true c.set-item.is in
    record {
      dims = dims_next V L (take c.loop-set.set-index (map (λ s. s.items) I)) (take (c.loop-set.set-index + 1) (map (λ s. s.items) I)) c.loop-set.dims.items c.push.new.self.items set c.in_ok-rank_by.field-0 c.loop-set.invariant.dims more c.in_ok-push.ensures.items (omega arith) rank;
      never = λ narrow. rw more (All-push (λ (s : List ℕ). NoEvidence c.args.cols (cone_rows V L s) Rows) (take c.loop-set.set-index (map (λ s. s.items) I)) set (c.loop-set.invariant.never narrow) (rw same at (c.in_ok-rank_by.ensures.never_wide narrow)));
    }

pub returns-clause-never_wide : goal.returns-clause-never_wide
returns-clause-never_wide c =
    let I = c.rows-set-items.result.now in
    let whole : take c.loop-set.set-index (map (λ s. s.items) I) ≡ c.args.cones.now.rows = take_all c.loop-set.set-index (map (λ s. s.items) I) (let e = length-map I (λ s. s.items) in let l = c.loop-set-test.false in omega arith) ∙ c.rows-set-items.ensures in
    λ narrow. rw whole at (c.loop-set.invariant.never narrow)
