use Rattle.pm_dd.proofs.pairs.combined.Goals as goal
use Rattle.pm_geom.specs.Faces.{ray}
use Rattle.std.proofs.Common.{[], refl, ◌≡◌}
use Rattle.std.proofs.lemmas.List.{get_or_read}

pub returns-in-Ok-clause-combination : goal.returns-in-Ok-clause-combination
returns-in-Ok-clause-combination c =
    let first : c.index.result.now ≡ ray c.args.rays.now.rows.items c.args.i = get_or_read c.args.rays.now.rows.items c.args.i c.index.result.now c.requires.first c.index.ensures [] in
    let second : c.index-2.result.now ≡ ray c.args.rays.now.rows.items c.args.j = get_or_read c.args.rays.now.rows.items c.args.j c.index-2.result.now c.requires.second c.index-2.ensures [] in
    rw (first, second) at c.in-Ok.ensures.combination

pub returns-in-Err-Column-clause-wide : goal.returns-in-Err-Column-clause-wide
returns-in-Err-Column-clause-wide c =
    let first : c.index.result.now ≡ ray c.args.rays.now.rows.items c.args.i = get_or_read c.args.rays.now.rows.items c.args.i c.index.result.now c.requires.first c.index.ensures [] in
    let second : c.index-2.result.now ≡ ray c.args.rays.now.rows.items c.args.j = get_or_read c.args.rays.now.rows.items c.args.j c.index-2.result.now c.requires.second c.index-2.ensures [] in
    (refl, refl, c.requires.pair, rw c.in-Err-Column.column-is (rw (c.in-Err-Column.field-0-is, first, second) at c.in-Err-Column.ensures.fail))

pub returns-in-Err-First-clause-lost : goal.returns-in-Err-First-clause-lost
returns-in-Err-First-clause-lost c =
    let first : c.index.result.now ≡ ray c.args.rays.now.rows.items c.args.i = get_or_read c.args.rays.now.rows.items c.args.i c.index.result.now c.requires.first c.index.ensures [] in
    let second : c.index-2.result.now ≡ ray c.args.rays.now.rows.items c.args.j = get_or_read c.args.rays.now.rows.items c.args.j c.index-2.result.now c.requires.second c.index-2.ensures [] in
    λ e. record { pair = c.requires.pair; lost = rw (c.in-Err-First.field-0-is, first, second) at (c.in-Err-First.ensures.lost e) }

pub returns-in-Err-Second-clause-lost : goal.returns-in-Err-Second-clause-lost
returns-in-Err-Second-clause-lost c =
    let first : c.index.result.now ≡ ray c.args.rays.now.rows.items c.args.i = get_or_read c.args.rays.now.rows.items c.args.i c.index.result.now c.requires.first c.index.ensures [] in
    let second : c.index-2.result.now ≡ ray c.args.rays.now.rows.items c.args.j = get_or_read c.args.rays.now.rows.items c.args.j c.index-2.result.now c.requires.second c.index-2.ensures [] in
    λ e. record { pair = c.requires.pair; lost = rw (c.in-Err-Second.field-0-is, first, second) at (c.in-Err-Second.ensures.lost e) }

pub returns-in-Err-Column-clause-lost : goal.returns-in-Err-Column-clause-lost
returns-in-Err-Column-clause-lost c =
    let first : c.index.result.now ≡ ray c.args.rays.now.rows.items c.args.i = get_or_read c.args.rays.now.rows.items c.args.i c.index.result.now c.requires.first c.index.ensures [] in
    let second : c.index-2.result.now ≡ ray c.args.rays.now.rows.items c.args.j = get_or_read c.args.rays.now.rows.items c.args.j c.index-2.result.now c.requires.second c.index-2.ensures [] in
    λ e. record { pair = c.requires.pair; lost = rw (c.in-Err-Column.field-0-is, first, second) at (c.in-Err-Column.ensures.lost e) }
