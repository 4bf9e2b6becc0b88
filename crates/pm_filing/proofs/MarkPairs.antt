-- What has not two elements is no mark.
use Rattle.std.proofs.Common.{refl, ◌≡◌, ◌≢◌, List, [], ◌∷◌, length, None}
use Rattle.serde_json.specs.View.{items_view}
use Rattle.serde_json.specs.declared.value.Value.{Value}
use Rattle.pm_filing.specs.Profiles.{mark_among}

pub no_pair : (vs : List Value) → length vs ≢ 2 → mark_among (items_view vs) ≡ None
no_pair [] h = refl
no_pair (v ∷ []) h = refl
no_pair (v ∷ w ∷ []) h = absurd (h refl)
no_pair (v ∷ w ∷ x ∷ vs) h = refl
