use Rattle.pm_client.proofs.ViewLaws.{has_listed}
use Rattle.pm_clients_geom.proofs.Halves.{points_repeated, points_sound}
use Rattle.pm_clients_geom.proofs.rows.points_from_vertices.Goals as goal
use Rattle.pm_props.specs.declared.property.PropId.TheVariants.{Vertices, LinealitySpace, Points, InputLineality}
use Rattle.pm_props.specs.declared.property.PropId.{PropId}
use Rattle.std.proofs.Common.{ap, ◌∙◌}
use Rattle.std.specs.Prelude.{List, [], ◌∷◌}

abbrev sources : List PropId
sources = Vertices ∷ LinealitySpace ∷ []

abbrev targets : List PropId
targets = Points ∷ InputLineality ∷ []

pub reads_no_half-requires-clause-target : goal.reads_no_half-requires-clause-target
reads_no_half-requires-clause-target c = has_listed _ targets Points (ap (λ k. k.targets) c.requires.kind)

pub reads_no_half-requires-clause-no_first : goal.reads_no_half-requires-clause-no_first
reads_no_half-requires-clause-no_first c = has_listed _ sources Points (ap (λ k. k.sources) c.requires.kind)

pub reads_no_half-requires-clause-no_second : goal.reads_no_half-requires-clause-no_second
reads_no_half-requires-clause-no_second c = has_listed _ sources InputLineality (ap (λ k. k.sources) c.requires.kind)

pub matrix_of-requires-clause-source : goal.matrix_of-requires-clause-source
matrix_of-requires-clause-source c = has_listed _ sources Vertices (ap (λ k. k.sources) c.requires.kind)

pub matrix_of-requires-2-clause-source : goal.matrix_of-requires-2-clause-source
matrix_of-requires-2-clause-source c = has_listed _ sources LinealitySpace (ap (λ k. k.sources) c.requires.kind)

pub put_value-requires-clause-target : goal.put_value-requires-clause-target
put_value-requires-clause-target c = has_listed _ targets Points (ap (λ k. k.targets) (ap (λ d. d.kind) c.requires.empty ∙ c.requires.kind))

pub put_value-requires-2-clause-target : goal.put_value-requires-2-clause-target
put_value-requires-2-clause-target c = has_listed _ targets InputLineality (ap (λ k. k.targets) (ap (λ d. d.kind) c.in_ok-put_value.ensures.ok ∙ ap (λ d. d.kind) c.requires.empty ∙ c.requires.kind))

pub returns-clause-sound : goal.returns-clause-sound
returns-clause-sound c =
    points_sound c.args.view.now c.matrix_of.result.now.cols c.matrix_of-2.result.now.cols c.matrix_of.result.now.rows c.matrix_of-2.result.now.rows
    (record { first_read = c.matrix_of.ensures.value; second_read = c.matrix_of-2.ensures.value; first_forms = c.matrix_of.ensures.forms; second_forms = c.matrix_of-2.ensures.forms }) c.reads_no_half.ensures
    c.in_ok-points.points c.in_ok-lines.lines c.args.draft.now c.put_value.new.draft c.put_value-2.new.draft c.requires.kind c.in_ok-points.ensures.rows c.in_ok-lines.ensures.rows c.requires.empty
    c.in_ok-put_value.ensures.ok c.in_ok-put_value-2.ensures.ok

pub returns-clause-stays : goal.returns-clause-stays
returns-clause-stays c =
    points_repeated c.args.view.now c.matrix_of.result.now.cols c.matrix_of-2.result.now.cols c.matrix_of.result.now.rows c.matrix_of-2.result.now.rows
    (record { first_read = c.matrix_of.ensures.value; second_read = c.matrix_of-2.ensures.value; first_forms = c.matrix_of.ensures.forms; second_forms = c.matrix_of-2.ensures.forms }) c.reads_no_half.ensures
    c.in_ok-points.points c.in_ok-lines.lines c.args.draft.now c.put_value.new.draft c.put_value-2.new.draft c.in_ok-points.ensures.rows c.in_ok-lines.ensures.rows c.requires.empty
    c.in_ok-put_value.ensures.ok c.in_ok-put_value-2.ensures.ok
