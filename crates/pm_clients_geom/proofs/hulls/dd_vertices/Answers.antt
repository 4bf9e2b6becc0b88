use Rattle.pm_client.specs.Fails.{IfOutOfRange}
use Rattle.pm_client.proofs.Failing.{fails_by_parts}
use Rattle.pm_client.specs.Sound.{FailsRightly}
use Rattle.pm_client.specs.declared.ClientFail.{ClientFail}
use Rattle.pm_clients_geom.proofs.FoundHulls.{by_halves, cut_no_fan, fresh_of_halves, halves_of_no_fan, lines_few, parts_of_halves, rays_few, rays_sound}
use Rattle.pm_clients_geom.proofs.LostParts.{parts_lost}
use Rattle.pm_clients_geom.proofs.RowLists.{first_source, second_source}
use Rattle.pm_clients_geom.proofs.hulls.dd_vertices.Goals as goal
use Rattle.pm_clients_geom.specs.Hulls.{ReadsLostParts, cut_type}
use Rattle.pm_dd.specs.Hulls.{half_spaces_of}
use Rattle.std.proofs.Common.{subst, sym}
use Rattle.std.proofs.lemmas.Result.{err_from_is_err_and}

pub generators_of-requires-clause-no_fan : goal.generators_of-requires-clause-no_fan
generators_of-requires-clause-no_fan c =
    let v = c.args.view.now in
    let kind = c.requires.kind in
    let none = halves_of_no_fan v c.args.first c.args.second c.of.ensures.view kind.sources kind.parts kind.half_spaces in
    rw (c.cut_type-of.ensures, c.of.ensures.value) (cut_no_fan c.args.second v.of none)

pub returns-in_err-found-clause-failed : goal.returns-in_err-found-clause-failed
returns-in_err-found-clause-failed c =
    let v = c.args.view.now in
    let kind = c.requires.kind in
    let none = halves_of_no_fan v c.args.first c.args.second c.cols.ensures.view kind.sources kind.parts kind.half_spaces in
    let w = err_from_is_err_and c.from_residual-in_err-found.result c.from_residual-in_err-found.ensures.1 in
    rw w.1 (subst (FailsRightly v) (sym w.2)
    (fails_by_parts v kind.doubles kind.lists c.in_ok-parts.parts.first.items (half_spaces_of (cut_type c.args.second v.of) v.cols c.in_ok-parts.parts.second.items) c.in_err-found.field-0.0
    (parts_of_halves v c.args.first c.args.second c.in_ok-parts.parts.first.items c.in_ok-parts.parts.second.items kind.parts kind.half_spaces none c.in_ok-parts.ensures.read)
    (rw (c.cut_type-of.ensures, c.of.ensures.value, c.deref.ensures.value, c.deref-2.ensures.value, c.cols.ensures.value) at c.in_err-found.ensures.shown)))

pub returns-in_err-found-clause-lost : goal.returns-in_err-found-clause-lost
returns-in_err-found-clause-lost c = λ e.
    let v = c.args.view.now in
    let kind = c.requires.kind in
    let none = halves_of_no_fan v c.args.first c.args.second c.cols.ensures.view kind.sources kind.parts kind.half_spaces in
    let w = err_from_is_err_and c.from_residual-in_err-found.result c.from_residual-in_err-found.ensures.1 in
    rw w.1 (subst (λ (f : ClientFail). IfOutOfRange f (ReadsLostParts v)) (sym w.2)
    (parts_lost v c.in_ok-parts.parts.first.items (half_spaces_of (cut_type c.args.second v.of) v.cols c.in_ok-parts.parts.second.items) c.in_err-found.field-0.0
    (parts_of_halves v c.args.first c.args.second c.in_ok-parts.parts.first.items c.in_ok-parts.parts.second.items kind.parts kind.half_spaces none c.in_ok-parts.ensures.read)
    (rw (c.cut_type-of.ensures, c.of.ensures.value, c.deref.ensures.value, c.deref-2.ensures.value, c.cols.ensures.value) at c.in_err-found.ensures.shown)
    (rw (c.cut_type-of.ensures, c.of.ensures.value, c.deref.ensures.value, c.deref-2.ensures.value, c.cols.ensures.value) at (c.in_err-found.ensures.lost e))))

pub put_generators-requires-clause-rays : goal.put_generators-requires-clause-rays
put_generators-requires-clause-rays c =
    let g = rw c.cols.ensures.value at c.in_ok-found.ensures.generators in
    rays_few c.args.view.now.cols _ c.in_ok-found.found.rays.items c.in_ok-found.found.lineality.items g c.in_ok-found.ensures.few

pub put_generators-requires-clause-lines : goal.put_generators-requires-clause-lines
put_generators-requires-clause-lines c =
    let g = rw c.cols.ensures.value at c.in_ok-found.ensures.generators in
    lines_few c.args.view.now c.cols.ensures.view _ c.in_ok-found.found.rays.items c.in_ok-found.found.lineality.items g

pub returns-clause-sound : goal.returns-clause-sound
returns-clause-sound c =
    let v = c.args.view.now in
    let view = c.cols.ensures.view in
    let kind = c.requires.kind in
    let none = halves_of_no_fan v c.args.first c.args.second view kind.sources kind.parts kind.half_spaces in
    let g = rw (c.cut_type-of.ensures, c.of.ensures.value, c.deref.ensures.value, c.deref-2.ensures.value, c.cols.ensures.value) at c.in_ok-found.ensures.generators in
    rays_sound v view kind.targets none (fresh_of_halves v.kind c.args.first c.args.second kind.targets kind.sources kind.parts kind.half_spaces) _ c.in_ok-found.found.rays.items c.in_ok-found.found.lineality.items
    (λ t o of cols right. (g, by_halves v c.in_ok-parts.parts.first.items c.in_ok-parts.parts.second.items t o of cols right none c.args.first c.args.second kind.parts kind.half_spaces c.in_ok-parts.ensures.read))
    c.put_generators.new.draft c.in_ok-put_generators.ensures.put

pub read_parts-requires-clause-first : goal.read_parts-requires-clause-first
read_parts-requires-clause-first c = first_source _ c.args.first c.args.second c.requires.kind.sources

pub read_parts-requires-clause-second : goal.read_parts-requires-clause-second
read_parts-requires-clause-second c = second_source _ c.args.first c.args.second c.requires.kind.sources
