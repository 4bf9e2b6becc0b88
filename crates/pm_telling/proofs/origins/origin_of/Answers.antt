-- The first value that is read there tells the origin.
use Rattle.std.proofs.Common.{ap, sym, ◌∙◌, ◌≡◌}
use Rattle.pm_telling.proofs.FirstHeld.{none_where_no_origin, origin_is}
use Rattle.pm_telling.specs.Telling.{origin_of}
use Rattle.pm_object.specs.State.{read_at}
use Rattle.pm_telling.proofs.origins.origin_of.Goals as goal

pub returns-clause-origin : goal.returns-clause-origin
returns-clause-origin c = c.first_origin.ensures ∙ sym (origin_is c.args.sub c.args.p c.held.result.now) ∙ ap (λ z. origin_of c.args.p (read_at c.args.sub z)) c.held.ensures.value

pub returns-clause-none : goal.returns-clause-none
returns-clause-none c =
    let told : c.first_origin.result ≡ origin_of c.args.p (read_at c.args.sub c.args.object.now.state.held) = c.first_origin.ensures ∙ sym (origin_is c.args.sub c.args.p c.held.result.now) ∙ ap (λ z. origin_of c.args.p (read_at c.args.sub z)) c.held.ensures.value in
    none_where_no_origin c.args.p (read_at c.args.sub c.args.object.now.state.held) c.first_origin.result told
