-- Each turn puts one name more behind the others, unless it is among them.
use Rattle.std.proofs.Common.{ap, sym, ◌∙◌, ◌++◌, ◌∷◌, [], map, string_bytes, bytes_eq}
use Rattle.std.proofs.lemmas.List.{map-append}
use Rattle.std.specs.List.{list_any}
use Rattle.serde_json.specs.View.{items_view}
use Rattle.pm_filing.specs.Profiles.{program_name_of, program_names}
use Rattle.pm_filing.proofs.ItemTurns.{different-fresh, turn-item, turn-repeated}
use Rattle.pm_filing.proofs.profile.program_names.Goals as goal

pub returns-then-has_name-clause-fault : goal.returns-then-has_name-clause-fault
returns-then-has_name-clause-fault c =
    let names = map string_bytes c.loop-program.names.items in
    λ other. (
      c.bad_profile-then-has_name.ensures other,
      turn-repeated bytes_eq program_name_of c.args.list.now c.loop-program.program-index c.program-item.result names (program_names (items_view c.args.list.now)) c.loop-program-test.true c.program-item.is c.loop-program.invariant.0 c.in-Some.name.now (sym c.in-Some.ensures)
          (ap (λ ns. list_any (λ n. bytes_eq n c.in-Some.name.now) (map string_bytes ns)) (sym c.deref.ensures.value) ∙ sym c.has_name.ensures ∙ c.if-has_name.true),
    )

pub loop-program-preserved : goal.loop-program-preserved
loop-program-preserved c =
    let names = map string_bytes c.loop-program.names.items in
    let more = ap (map string_bytes) c.in_ok-push.ensures.items ∙ map-append string_bytes c.loop-program.names.items (c.in_ok-from_str.field-0 ∷ []) ∙ ap (λ n. names ++ n ∷ []) c.in_ok-from_str.ensures.ok in
    rw more (
      turn-item bytes_eq program_name_of c.args.list.now c.loop-program.program-index c.program-item.result names (program_names (items_view c.args.list.now)) c.loop-program-test.true c.program-item.is c.loop-program.invariant.0 c.in-Some.name.now (sym c.in-Some.ensures),
      different-fresh bytes_eq names c.in-Some.name.now c.loop-program.invariant.1
          (ap (λ ns. list_any (λ n. bytes_eq n c.in-Some.name.now) (map string_bytes ns)) (sym c.deref.ensures.value) ∙ sym c.has_name.ensures ∙ c.if-has_name.false),
    )
