-- What clients mean, read on small lists: what may be, and what may not.
use Rattle.std.specs.Prelude.{ℕ, None, List, [], ◌∷◌, ◌≡◌, codes}
use Rattle.pm_client.specs.Examples.{kind_named}
use Rattle.pm_client.specs.Meanings.{Meanings, Narrows, meanings, unsaid}
use Rattle.pm_client.specs.declared.ClientFail.{ClientFail}
use Rattle.pm_object.specs.Reading.{DraftSeen, ViewSeen}
use Rattle.pm_object_type.specs.declared.object_type.ObjectType.TheVariants.{Cone}
use Rattle.pm_props.specs.declared.kind.Kind.{Kind}

-- a view for a client of this name
abbrev pub view_of_name : List ℕ → ViewSeen
view_of_name name = record { of = Cone; cols = 1; kind = kind_named name; sub = None; facts = [] }

-- a draft into which nothing was put
abbrev pub bare : List ℕ → DraftSeen
bare name = record { kind = kind_named name; values = [] }

-- clients, each with a number, which may give anything where it is 1, and never fail
abbrev pub by_number : List (Kind × ℕ) → Meanings
by_number clients = meanings (λ b. b) (λ b v d. b.1 ≡ 1) (λ b v f. ⊥) clients

-- clients of the names a and b
abbrev pub a_client : Kind
a_client = kind_named (codes "a")

abbrev pub b_client : Kind
b_client = kind_named (codes "b")

-- these clients may give a draft where one of the name a is asked
abbrev pub MayGive : List (Kind × ℕ) → Type 0
MayGive clients = (by_number clients).Gives (view_of_name (codes "a")) (bare (codes "a"))

pub record MeaningsAreRead : Type 0 where
  -- one of the kind may give it, whichever it is
  pub one : MayGive ((a_client, 1) ∷ [])
  pub second : MayGive ((a_client, 2) ∷ (a_client, 1) ∷ [])
  -- not one that says it does not, not one of another kind, and not where there is none
  pub not_so : ¬ (MayGive ((a_client, 2) ∷ []))
  pub other_kind : ¬ (MayGive ((b_client, 1) ∷ []))
  pub none : ¬ (MayGive [])
  pub no_failure : (f : ClientFail) → ¬ ((by_number ((a_client, 1) ∷ [])).Fails (view_of_name (codes "a")) f)
  -- clients that say something say more than those that say nothing
  pub narrows : Narrows unsaid (by_number [])
  pub not_narrows : ¬ (Narrows (by_number []) unsaid)
