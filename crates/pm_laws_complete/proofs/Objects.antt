-- Where a chain leads to a property, none is wanting.
use Rattle.std.proofs.Common.{◌∙◌, sym}
use Rattle.std.proofs.lemmas.Bool.{and_parts}
use Rattle.std.specs.Prelude.{not}
use Rattle.pm_rounds.specs.Chains.{held_names}
use Rattle.pm_props.proofs.Every.{has-set_of_filter}
use Rattle.pm_props.proofs.Members.{has-difference}
use Rattle.pm_props.specs.Properties.{is_in_use}
use Rattle.pm_props.specs.Sets.{has, only}
use Rattle.pm_laws_complete.proofs.Complete.{book_is_complete}
use Rattle.pm_laws_complete.specs.Completeness.{BarsNone}
use Rattle.pm_laws_complete.specs.Objects.{SomeChainLeads}

pub some_chain_leads : SomeChainLeads
some_chain_leads sub c not_fan d listed alone objective nothing p of_table more lacking =
    let free : BarsNone lacking.barred = λ id rule at. lacking.are_barred.each id rule at ∙ nothing id rule at in
    let found = book_is_complete sub c.object.of not_fan d listed (held_names sub c.object) alone objective lacking.barred free p (has-set_of_filter (is_in_use sub c.object.of) p ∙ of_table) more in
    lacking.none.none found.0 (record {
      enabled = found.1.enabled;
      ends = λ q h. found.1.ends q (and_parts (has (only p) q) (not (has (held_names sub c.object) q)) (sym (has-difference (only p) (held_names sub c.object) q) ∙ h)).0;
    })
