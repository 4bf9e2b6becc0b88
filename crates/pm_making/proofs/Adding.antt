-- A value that has its form for the column count of those that are held may be added to them.
use Rattle.pm_filing.proofs.SuitLaws.{all_at}
use Rattle.pm_filing.proofs.Fitting.{agrees_now, apart_back, differ_later, in_middle, map_append, unheld_from}
use Rattle.pm_vector.proofs.Filters.{map_among}
use Rattle.pm_vector.proofs.Lists.{Among, among_All, among_append_left}
use Rattle.pm_filing.specs.Views.{value_seen, Suits}
use Rattle.pm_making.specs.Made.{AreFitting, given_values, is_of_sites}
use Rattle.pm_object.proofs.Formed.{others_agree}
use Rattle.pm_object.specs.State.{HeldValue, State, agrees, cols_of, file_value, is_held, read_at, sites_agree}
use Rattle.pm_object.specs.declared.held.Origin.TheVariants as origin
use Rattle.pm_props.specs.Places.{same_property}
use Rattle.pm_props.specs.Properties.{has}
use Rattle.pm_object_type.specs.declared.object_type.ObjectType.{ObjectType}
use Rattle.pm_props.specs.declared.property.PropId.{PropId}
use Rattle.pm_props.specs.declared.property.PropId.TheVariants.{SiteHeights, Sites}
use Rattle.pm_types.specs.Forms.{FormsIn}
use Rattle.pm_types.specs.Values.{PropertyValue}
use Rattle.pm_types.specs.Views.{view_of}
use Rattle.pm_types.specs.declared.value.Value.{Value}
use Rattle.std.proofs.Common.{ap, false, refl, subst, sym, true, true≢false, ◌∙◌}
use Rattle.std.specs.Prelude.{Bool, List, None, map, not, ℕ, ◌||◌, ◌++◌, ◌∷◌, ◌≡◌}

-- what has its form suits the column count
suits : (of : ObjectType) (n : ℕ) (p : PropId) (v : PropertyValue) → FormsIn of n p v → Suits of n p v
suits of n p v f = record { formed = f.formed; columns = f.columns; rows = f.rows; primitive = f.primitive }

-- ---- the next of several values, where those before it are held
pub record MayBeAdded (of : ObjectType) (held : List HeldValue) (p : PropId) (v : PropertyValue) : Type 0 where
  pub cols : ℕ
  pub forms : FormsIn of cols p v
  pub missing : is_held p (read_at None held) ≡ false
  pub table : has of p ≡ true
  pub columns : agrees (cols_of held) p v ≡ true
  pub sites : sites_agree held p v ≡ true

next_seen : (of : ObjectType) (xs : List (PropId × PropertyValue)) (x : PropId × PropertyValue) (ys : List (PropId × PropertyValue)) → AreFitting of (xs ++ x ∷ ys) → MayBeAdded of (given_values xs) x.0 x.1
next_seen of xs x ys fits = record {
  cols = fits.cols;
  forms = forms (in_middle xs x ys);
  missing = unheld_from x.0 (given_values xs) (λ h i.
      let (v, j, e) = map_among (λ (v : PropId × PropertyValue). file_value origin.Given v.0 v.1) xs i in
      subst (λ (z : HeldValue). same_property x.0 z.property ≡ false) (sym e) (apart_back x.0 v.0 (differ_later (λ (v u : PropId × PropertyValue). same_property v.0 u.0) xs x ys fits.different j)));
  table = all_at (λ (v : PropId × PropertyValue). has of v.0) (xs ++ x ∷ ys) fits.table (in_middle xs x ys);
  columns = agrees_now of fits.cols (given_values xs) x.0 x.1 (λ h i.
      let (v, j, e) = map_among (λ (v : PropId × PropertyValue). file_value origin.Given v.0 v.1) xs i in
      subst (λ (z : HeldValue). Suits of fits.cols z.property z.value) (sym e) (suits of fits.cols v.0 v.1 (forms (among_append_left (x ∷ ys) j))))
      (suits of fits.cols x.0 x.1 (forms (in_middle xs x ys)));
  sites = others_agree x.0 x.1 (given_values xs) no_sites.0 no_sites.1;
}
  where
    forms : {v : PropId × PropertyValue} → Among v (xs ++ x ∷ ys) → FormsIn of fits.cols v.0 v.1
    forms i = among_All (λ (v : PropId × PropertyValue). FormsIn of fits.cols v.0 v.1) i fits.forms

    neither : (a b : Bool) → not (a || b) ≡ true → (a ≡ false) × (b ≡ false)
    neither true b h = absurd (true≢false (sym h))
    neither false true h = absurd (true≢false (sym h))
    neither false false h = (refl, refl)

    no_sites : (same_property Sites x.0 ≡ false) × (same_property SiteHeights x.0 ≡ false)
    no_sites = neither (same_property Sites x.0) (same_property SiteHeights x.0) (all_at (λ (v : PropId × PropertyValue). not (is_of_sites v.0)) (xs ++ x ∷ ys) fits.no_sites (in_middle xs x ys))

-- the same, of the code's values
pub next_may : (of : ObjectType) (values xs ys : List (PropId × Value)) (p : PropId) (v : Value) (held : List HeldValue) → AreFitting of (map value_seen values) → xs ++ (p, v) ∷ ys ≡ values → held ≡ given_values (map value_seen xs)
    → MayBeAdded of held p (view_of v)
next_may of values xs ys p v held fits whole is =
    subst (λ z. MayBeAdded of z p (view_of v)) (sym is)
    (next_seen of (map value_seen xs) (p, view_of v) (map value_seen ys) (subst (AreFitting of) (sym (ap (map value_seen) whole) ∙ map_append value_seen xs ((p, v) ∷ ys)) fits))

-- the same, of an object of that type
pub may_of : (o : State) (of : ObjectType) (p : PropId) (v : PropertyValue) → o.of ≡ of → MayBeAdded of o.held p v → MayBeAdded o.of o.held p v
may_of o of p v is may = subst (λ z. MayBeAdded z o.held p v) (sym is) may
