-- A client of one's own: what it finds from what, what it puts, and what it says of itself.
use Rattle.std.specs.Prelude.{◌≡◌, [], ◌∷◌, codes}
use Rattle.pm_client.specs.Meanings.{Meanings}
use Rattle.pm_client.specs.declared.ClientFail.TheVariants.{Memory}
use Rattle.pm_object.specs.Reading.{DraftSeen}
use Rattle.pm_props.specs.Kinds.{finding}
use Rattle.pm_props.specs.declared.kind.Kind.{Kind}
use Rattle.pm_props.specs.declared.property.PropId.TheVariants.{Facets, Inequalities}
use Rattle.pm_types.specs.Values.{matrix}

-- the kind of the client: INEQUALITIES from FACETS
abbrev pub no_rows : Kind
no_rows = finding (codes "no_rows") (Inequalities ∷ []) (Facets ∷ [])

-- INEQUALITIES is put without rows, and nothing else is
abbrev pub HasNoRows : DraftSeen → Type 0
HasNoRows d = d.values ≡ record { property = Inequalities; value = matrix 0 [] } ∷ []

-- what the client says of itself: it answers no rows, and fails for want of memory alone
abbrev pub own : Meanings
own = record {
  Gives = λ v d. (no_rows ≡ v.kind) × HasNoRows d;
  Fails = λ v e. (no_rows ≡ v.kind) × (e ≡ Memory);
}
