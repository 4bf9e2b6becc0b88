-- Where a name or a word names nothing, that is said; else the origin is told, or that nothing is held.
use Rattle.std.proofs.Common.{refl, sym, ◌∙◌}
use Rattle.pm_machine.proofs.Names.{named_as, named_of, none_mapped}
use Rattle.pm_machine.specs.Steps.{is_told, no_such_name, no_such_property, not_held, is_refused}
use Rattle.pm_machine.proofs.session.Session.do_origin.Goals as goal

pub returns-in_default : goal.returns-in_default
returns-in_default g c = rw c.refused.ensures (is_refused (no_such_name (none_mapped _ _ _ c.in_default.is c.find.ensures)) (record { names = refl; objects = λ q. refl; clients = refl; store = refl }))

pub returns-in_default-property_named : goal.returns-in_default-property_named
returns-in_default-property_named g c =
    rw c.refused-in_default-property_named.ensures (is_refused (no_such_property (named_of c.in-Some.object.now.state c.in-Some.sub) (sym c.in-Some.ensures) (named_as c.in-Some.sub c.args.prop.now c.of.ensures.value c.property_named.ensures c.in_default-property_named.is)) (record { names = refl; objects = λ q. refl; clients = refl; store = refl }))

pub returns-in-None : goal.returns-in-None
returns-in-None g c =
    let named = named_as c.in-Some.sub c.args.prop.now c.of.ensures.value c.property_named.ensures c.in-Some-property_named.is in
    not_held (named_of c.in-Some.object.now.state c.in-Some.sub) c.in-Some-property_named.p (sym c.in-Some.ensures) named (rw c.in-None.is at c.origin_of.ensures.none) (record { names = refl; objects = λ q. refl; clients = refl; store = refl })

pub returns-in-Some-origin_of : goal.returns-in-Some-origin_of
returns-in-Some-origin_of g c =
    let named = named_as c.in-Some.sub c.args.prop.now c.of.ensures.value c.property_named.ensures c.in-Some-property_named.is in
    is_told (named_of c.in-Some.object.now.state c.in-Some.sub) c.in-Some-property_named.p (sym c.in-Some.ensures) named (sym c.origin_of.ensures.origin ∙ c.in-Some-origin_of.is) (record { names = refl; objects = λ q. refl; clients = refl; store = refl })
