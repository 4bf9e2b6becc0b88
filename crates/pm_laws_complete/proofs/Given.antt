-- What is found of objects as they are given, and what happened where something is not.
use Rattle.std.proofs.Common.{refl, subst, sym, ◌∙◌}
use Rattle.std.proofs.lemmas.Bool.{or_left, or_right}
use Rattle.std.proofs.lemmas.List.Elements.{All-weaker}
use Rattle.std.proofs.lemmas.Option.{same_Some}
use Rattle.std.specs.Prelude.{IsTrue, List, None, Option, Some, [], false, true, ℕ, ◌&&◌, ◌++◌, ◌∷◌, ◌≡◌}
use Rattle.pm_machine.specs.Steps.{is_asked, is_refused, no_chain, property_at, property_named}
use Rattle.pm_object.specs.declared.held.Excluded.{Excluded}
use Rattle.pm_object_type.specs.declared.object_type.ObjectType.{ObjectType}
use Rattle.pm_props.proofs.NameLemmas.{named_in_exactly, program_named_exactly}
use Rattle.pm_props.specs.Properties.{has as has_property, has_program, is_in_use}
use Rattle.pm_props.specs.Sets.{has, only}
use Rattle.pm_props.specs.declared.property.PropId.{PropId}
use Rattle.pm_props.specs.declared.property.PropId.TheVariants.{LinearObjective}
use Rattle.pm_object.specs.State.{State}
use Rattle.pm_rounds.specs.Chains.{held_names}
use Rattle.pm_rounds.specs.Events.{after_event, configuration, settled, unsettled}
use Rattle.pm_laws_complete.proofs.Coming.{give_comes}
use Rattle.pm_laws_complete.proofs.Exclusions.{excludes_more, excludes_none, exclusions}
use Rattle.pm_laws_complete.proofs.LongerBooks.{longer_books_lead_now}
use Rattle.pm_laws_complete.proofs.Settled.{barred_stays, settled_has, settled_holds_alone}
use Rattle.pm_laws_complete.specs.Completeness.{HoldsNeeds, HoldsObjective, needs}
use Rattle.pm_laws_complete.specs.Given.{ExcludesMore, GivenLeadsNow, IsGivenBy, RefusedExcludesMore}
use Rattle.pm_machine.specs.Steps.{settled_object}
use Rattle.pm_standard.specs.Book.{standard_rules}

-- ---- as the object is settled
objective_stays : (sub : Option ℕ) (o : State) → HoldsObjective sub (held_names sub o) → HoldsObjective sub (held_names sub (settled_object o))
objective_stays None o h = tt
objective_stays (Some s) o h = settled_has (Some s) o LinearObjective h

needs_stay : (sub : Option ℕ) (o : State) (p : PropId) → HoldsNeeds p (held_names sub o) → HoldsNeeds p (held_names sub (settled_object o))
needs_stay sub o p h = All-weaker (λ q. IsTrue (has (held_names sub o) q)) (λ q. IsTrue (has (held_names sub (settled_object o)) q)) (settled_has sub o) (needs p) h

pub given_leads_now : GivenLeadsNow
given_leads_now more d sub c given p of_table needed =
    longer_books_lead_now more sub (after_event sub settled c) given.type d given.listed
    (settled_holds_alone sub c.object d given.listed given.no_rounds given.own given.described)
    (objective_stays sub c.object given.objective)
    (λ id rule at. barred_stays sub c.object rule c.clients id ∙ given.free id rule at) p of_table (needs_stay sub c.object p needed)

-- ---- `give`
used_where_named : (of : ObjectType) (sub : Option ℕ) (text : List ℕ) (p : PropId) → property_named of sub text ≡ Some p → is_in_use sub of p ≡ true
used_where_named of None text p e = or_left (has_property of p) (false && has_program p) ((named_in_exactly of text p).0 e).0
used_where_named of (Some s) text p e = or_right (has_property of p) (has_program p) ((program_named_exactly text p).0 e).0

pub refused_excludes_more : RefusedExcludesMore
refused_excludes_more more old new ref text _ (is_refused r s) x at d given p named needed = elim r [ ]
refused_excludes_more more old new ref text beside (is_asked (y, there, q, asked, c, no_chain e is_told, becomes)) x at d given p named needed =
    (c.object, becomes.object, subst (λ z. ExcludesMore (standard_rules ++ more) z.sub z.object c.object) same (by (exclusions e.reaches.events) refl))
  where
    same : y ≡ x
    same = same_Some y x (sym there ∙ at)

    given_there : IsGivenBy d y.sub (configuration y.object old.clients)
    given_there = subst (λ z. IsGivenBy d z.sub (configuration z.object old.clients)) (sym same) given

    same_property : q ≡ p
    same_property = same_Some q p (sym asked ∙ subst (λ z. property_at z text ≡ Some p) (sym same) named)

    needed_there : HoldsNeeds q (held_names y.sub y.object)
    needed_there = subst (λ z. HoldsNeeds q (held_names z.sub z.object)) (sym same) (subst (λ z. HoldsNeeds z (held_names x.sub x.object)) (sym same_property) needed)

    by : (xs : List Excluded) → exclusions e.reaches.events ≡ xs → ExcludesMore (standard_rules ++ more) y.sub y.object c.object
    by [] none =
        absurd (give_comes (standard_rules ++ more) old new ref text beside (is_asked (y, there, q, asked, c, no_chain e is_told, becomes)) (excludes_none e.reaches.events none)
        (given_leads_now more d y.sub (configuration y.object old.clients) given_there q (used_where_named y.object.of y.sub text q asked) needed_there))
    by (next ∷ others) are = excludes_more (standard_rules ++ more) y.sub (only q) unsettled (configuration y.object old.clients) c e.reaches next others are
