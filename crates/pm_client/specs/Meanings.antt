-- What clients say of themselves: what they may answer, and how they may fail.
use Rattle.std.specs.Prelude.{ℕ, ◌≡◌, ◌⊎◌, List, [], ◌∷◌, true}
use Rattle.pm_client.specs.Starts.{same_kind}
use Rattle.pm_client.specs.declared.ClientFail.{ClientFail}
use Rattle.pm_object.specs.Reading.{DraftSeen, ViewSeen}
use Rattle.pm_props.specs.declared.kind.Kind.{Kind}

-- which drafts may be given where a view is read, and which failures
pub record Meanings : Type 1 where
  pub Gives : ViewSeen → DraftSeen → Type 0
  pub Fails : ViewSeen → ClientFail → Type 0

-- nothing is said: anything may be given, and any failure
abbrev pub unsaid : Meanings
unsaid = record { Gives = λ v d. Unit {0}; Fails = λ v f. Unit {0} }

-- what may be later might be before
pub record Narrows (old new : Meanings) : Type 0 where
  pub gives : (v : ViewSeen) (d : DraftSeen) → new.Gives v d → old.Gives v d
  pub fails : (v : ViewSeen) (f : ClientFail) → new.Fails v f → old.Fails v f

-- P holds of one of these
abbrev pub OfOne : {B : Type 0} → (B → Type 0) → List B → Type 0
OfOne P [] = ⊥
OfOne P (b ∷ bs) = P b ⊎ OfOne P bs

-- What these clients mean, each of which says what it may give and how it may fail: one that is of the view's kind
-- may give the draft, or fail so. Where several are of a kind it is the first that is started.
module _ {B : Type 0} (tally : B → Kind × ℕ) (gives : B → ViewSeen → DraftSeen → Type 0)
    (fails : B → ViewSeen → ClientFail → Type 0) where
  abbrev pub meanings : List B → Meanings
  meanings clients = record {
    Gives = λ v d. OfOne (λ b. (same_kind (tally b).0 v.kind ≡ true) × gives b v d) clients;
    Fails = λ v f. OfOne (λ b. (same_kind (tally b).0 v.kind ≡ true) × fails b v f) clients;
  }
