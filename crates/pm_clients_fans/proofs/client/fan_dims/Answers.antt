use Rattle.pm_client.proofs.ViewLaws.{has_listed, target_named}
use Rattle.pm_client.proofs.Failing.{eliminates_in}
use Rattle.pm_vector.proofs.Lists.{Contains_among, here}
use Rattle.pm_client.proofs.Lost.{failed_lost}
use Rattle.pm_clients_fans.proofs.Fans.{fan_view}
use Rattle.pm_clients_fans.proofs.FoundFans.{dims_sound, fails_rightly, rows_cols}
use Rattle.pm_client.specs.Sound.{EliminatesRows, FailsRightly, cone_rows, eliminated_by}
use Rattle.pm_vector.specs.declared.evidence.ElimList.TheVariants as list
use Rattle.pm_clients_fans.proofs.client.fan_dims.Goals as goal
use Rattle.pm_object.specs.Reading.{IsView, ViewSeen}
use Rattle.pm_clients_fans.specs.Cones.{ConesStay, ConesStayBy, ReadsCones, ReadsLostCone}
use Rattle.pm_clients_fans.specs.Works.{FanFails, FindsDims}
use Rattle.pm_clients_fans.specs.declared.client.FanWork.TheVariants as work
use Rattle.pm_fan.specs.Dimensions.{IsLostCone}
use Rattle.pm_object_type.specs.declared.object_type.ObjectType.TheVariants.{Fan}
use Rattle.pm_props.specs.declared.property.PropId.TheVariants.{LinealitySpace, MaximalCones, MaximalConesDims, Vertices}
use Rattle.pm_props.specs.declared.property.PropId.{PropId}
use Rattle.std.proofs.Common.{[], ap, false, refl, rules, subst, sym, true, ◌∙◌, ◌∷◌, ◌≡◌}
use Rattle.std.proofs.lemmas.Result.{err_from_is_err_and}
use Rattle.std.specs.List.{Contains}
use Rattle.std.specs.Prelude.{Bool, List}

abbrev sources : List PropId
sources = Vertices ∷ LinealitySpace ∷ MaximalCones ∷ []

of_fan : (v : ViewSeen) → IsView v → FindsDims v.kind → v.of ≡ Fan
of_fan v view kind = fan_view v MaximalConesDims view (target_named v.kind MaximalConesDims (has_listed _ (MaximalConesDims ∷ []) MaximalConesDims kind.targets)) refl refl refl

stay_by : (wide : Bool) (v : ViewSeen) → (wide ≡ false → ConesStay v) → ConesStayBy wide v
stay_by false v h = h refl
stay_by true v h = tt

takes : (v : ViewSeen) → FindsDims v.kind → Contains (eliminated_by v.kind) cone_rows
takes v kind = rw kind.lists (Contains_among (here {xs = []}))

pub prove-unreachable-requires : goal.prove-unreachable-requires
prove-unreachable-requires c =
    let other : ¬ (c.of.result ≡ Fan) = search rules in
    other (c.of.ensures.value ∙ of_fan c.args.view.now c.of.ensures.view c.requires.kind)

pub put_value-requires-clause-target : goal.put_value-requires-clause-target
put_value-requires-clause-target c = has_listed _ (MaximalConesDims ∷ []) MaximalConesDims (ap (λ d. d.kind.targets) c.requires.empty ∙ c.requires.kind.targets)

pub matrix_of-requires-clause-source : goal.matrix_of-requires-clause-source
matrix_of-requires-clause-source c = has_listed _ sources Vertices c.requires.kind.sources

pub matrix_of-requires-2-clause-source : goal.matrix_of-requires-2-clause-source
matrix_of-requires-2-clause-source c = has_listed _ sources LinealitySpace c.requires.kind.sources

pub sets_of-cones-requires-clause-source : goal.sets_of-cones-requires-clause-source
sets_of-cones-requires-clause-source c = has_listed _ sources MaximalCones c.requires.kind.sources

pub dims_of-requires-clause-rays : goal.dims_of-requires-clause-rays
dims_of-requires-clause-rays c =
    let m = c.matrix_of.result.now in
    rw (c.deref.ensures.value, c.cols.ensures.value) (rows_cols c.args.view.now Vertices refl m.cols m.rows c.in_ok-rays.rays.items c.matrix_of.ensures.forms c.in_ok-rays.ensures.rows)

pub dims_of-requires-clause-lines : goal.dims_of-requires-clause-lines
dims_of-requires-clause-lines c =
    let m = c.matrix_of-2.result.now in
    rw (c.deref-2.ensures.value, c.cols.ensures.value) (rows_cols c.args.view.now LinealitySpace refl m.cols m.rows c.in_ok-lines.lines.items c.matrix_of-2.ensures.forms c.in_ok-lines.ensures.rows)

pub returns-in_err-dims-clause-failed : goal.returns-in_err-dims-clause-failed
returns-in_err-dims-clause-failed c =
    let v = c.args.view.now in
    let w = err_from_is_err_and c.from_residual-in_err-dims.result c.from_residual-in_err-dims.ensures.1 in
    rw w.1 (subst (FailsRightly v) (sym w.2)
    (fails_rightly v c.in_ok-rays.rays.items c.in_ok-lines.lines.items c.sets_of-cones.result.now c.in_err-dims.field-0.0 (takes v c.requires.kind)
    (record { rays = record { cols = c.matrix_of.result.now.cols; rows = c.matrix_of.result.now.rows; reads = c.matrix_of.ensures.value; primitive = c.in_ok-rays.ensures.rows }; lines = record { cols = c.matrix_of-2.result.now.cols; rows = c.matrix_of-2.result.now.rows; reads = c.matrix_of-2.ensures.value; primitive = c.in_ok-lines.ensures.rows }; reads = c.sets_of-cones.ensures.value })
    (rw (← c.deref.ensures.value, ← c.deref-2.ensures.value, ← c.cols.ensures.value) c.in_err-dims.ensures.wide)))

pub returns-clause-stays : goal.returns-clause-stays
returns-clause-stays c = stay_by c.args.wide c.args.view.now (λ narrow. record {
  V = c.in_ok-rays.rays.items;
  L = c.in_ok-lines.lines.items;
  index = c.sets_of-cones.result.now;
  read = record {
    rays = record { cols = c.matrix_of.result.now.cols; rows = c.matrix_of.result.now.rows; reads = c.matrix_of.ensures.value; primitive = c.in_ok-rays.ensures.rows };
    lines = record { cols = c.matrix_of-2.result.now.cols; rows = c.matrix_of-2.result.now.rows; reads = c.matrix_of-2.ensures.value; primitive = c.in_ok-lines.ensures.rows };
    reads = c.sets_of-cones.ensures.value;
  };
  stay = rw (← c.deref.ensures.value, ← c.deref-2.ensures.value, ← c.cols.ensures.value) (c.in_ok-dims.ensures.stay narrow);
})

pub returns-clause-sound : goal.returns-clause-sound
returns-clause-sound c =
    let v = c.args.view.now in
    let cones = c.sets_of-cones.result.now in
    dims_sound v (of_fan v c.of.ensures.view c.requires.kind) c.args.draft.now c.put_value.new.draft cones.rows cones.cols c.sets_of-cones.ensures.value c.sets_of-cones.ensures.forms c.in_ok-rays.rays.items c.in_ok-lines.lines.items
    (record { cols = c.matrix_of.result.now.cols; rows = c.matrix_of.result.now.rows; reads = c.matrix_of.ensures.value; primitive = c.in_ok-rays.ensures.rows })
    (record { cols = c.matrix_of-2.result.now.cols; rows = c.matrix_of-2.result.now.rows; reads = c.matrix_of-2.ensures.value; primitive = c.in_ok-lines.ensures.rows })
    c.in_ok-dims.dims.items c.in_ok-dims.ensures.form (rw (← c.deref.ensures.value, ← c.deref-2.ensures.value) c.in_ok-dims.ensures.dims)
    (record { targets = c.requires.kind.targets; empty = c.requires.empty; put = rw c.from_vec.ensures at c.in_ok-put_value.ensures.ok })

pub returns-in_err-dims-clause-fails : goal.returns-in_err-dims-clause-fails
returns-in_err-dims-clause-fails c =
    let v = c.args.view.now in
    let w = err_from_is_err_and c.from_residual-in_err-dims.result c.from_residual-in_err-dims.ensures.1 in
    rw w.1 (subst (λ e. FailsRightly v e × EliminatesRows e) (sym w.2) (
      fails_rightly v c.in_ok-rays.rays.items c.in_ok-lines.lines.items c.sets_of-cones.result.now c.in_err-dims.field-0.0 (takes v c.requires.kind)
          (record { rays = record { cols = c.matrix_of.result.now.cols; rows = c.matrix_of.result.now.rows; reads = c.matrix_of.ensures.value; primitive = c.in_ok-rays.ensures.rows }; lines = record { cols = c.matrix_of-2.result.now.cols; rows = c.matrix_of-2.result.now.rows; reads = c.matrix_of-2.ensures.value; primitive = c.in_ok-lines.ensures.rows }; reads = c.sets_of-cones.ensures.value })
          (rw (← c.deref.ensures.value, ← c.deref-2.ensures.value, ← c.cols.ensures.value) c.in_err-dims.ensures.wide),
      eliminates_in (λ l. l ≡ list.Rows) c.in_err-dims.field-0.0 c.in_err-dims.ensures.list,
    ))

pub returns-in_err-dims-clause-lost : goal.returns-in_err-dims-clause-lost
returns-in_err-dims-clause-lost c = λ wide.
    let v = c.args.view.now in
    let V = c.in_ok-rays.rays.items in
    let L = c.in_ok-lines.lines.items in
    let index = c.sets_of-cones.result.now in
    let f = c.in_err-dims.field-0.0 in
    let read : ReadsCones v V L index = record { rays = record { cols = c.matrix_of.result.now.cols; rows = c.matrix_of.result.now.rows; reads = c.matrix_of.ensures.value; primitive = c.in_ok-rays.ensures.rows }; lines = record { cols = c.matrix_of-2.result.now.cols; rows = c.matrix_of-2.result.now.rows; reads = c.matrix_of-2.ensures.value; primitive = c.in_ok-lines.ensures.rows }; reads = c.sets_of-cones.ensures.value } in
    let w = err_from_is_err_and c.from_residual-in_err-dims.result c.from_residual-in_err-dims.ensures.1 in
    rw w.1 (subst (FanFails work.FanDimsWide v) (sym w.2) (
      fails_rightly v V L index f (takes v c.requires.kind) read (rw (← c.deref.ensures.value, ← c.deref-2.ensures.value, ← c.cols.ensures.value) c.in_err-dims.ensures.wide),
      eliminates_in (λ l. l ≡ list.Rows) f c.in_err-dims.ensures.list,
      failed_lost f (IsLostCone v.cols V L index.rows) (ReadsLostCone v) (λ lost. record { V = V; L = L; index = index; read = read; lost = lost })
          (rw (c.deref.ensures.value, c.deref-2.ensures.value, c.cols.ensures.value) at (c.in_err-dims.ensures.lost wide)),
    ))
