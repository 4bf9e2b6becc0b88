-- SITES and SITE_HEIGHTS among the stored properties of a file: where its profile names one of them, it is stored, and the other way round.
use Rattle.std.proofs.lemmas.Option.{same_Some as some_is}
use Rattle.std.proofs.Common.{ap, inl, inr, refl, subst, sym, ◌∙◌, ◌≡◌, ◌||◌, ◌∷◌, ℕ, List, [], Option, Some, None, Ok, Bool, true, false, true≢false}
use Rattle.std.proofs.lemmas.Bool.{and_parts}
use Rattle.std.specs.List.{list_any}
use Rattle.std.specs.Prelude.{codes, if◌then◌else◌, option_and_then, option_map, ◌⊎◌}
use Rattle.pm_vector.proofs.Filters.{any_from, any_to}
use Rattle.pm_vector.proofs.Lists.{Among}
use Rattle.pm_filing.proofs.HeldSets.{set_of-has}
use Rattle.pm_filing.proofs.ReadSteps.{if_from, map_from, ok_from, ok_is, some_from, then_from}
use Rattle.pm_filing.specs.FileReadings.{any_names_sites, finds_sites, is_of_sites, list_names_sites, names_sites}
use Rattle.pm_filing.specs.Profiles.{Profile, are_different, different_read, each_read, full_profile, if_different, if_held, is_profile_2, list_read, marks_in, or_bad, plain_profile, profile_in, program_names, stored_by, stored_property}
use Rattle.pm_object_type.specs.declared.object_type.ObjectType.{ObjectType}
use Rattle.pm_props.proofs.Places.{same_property_is, same_property_refl}
use Rattle.pm_props.specs.Names.{property_named_in}
use Rattle.pm_props.specs.Places.{same_property}
use Rattle.pm_props.specs.Sets.{has, set_of}
use Rattle.pm_props.specs.declared.property.PropId.{PropId}
use Rattle.pm_props.specs.declared.property.PropId.TheVariants.{SiteHeights, Sites}
use Rattle.serde_json.specs.Data.{Data, Items, item, no_items}
use Rattle.serde_json.specs.Find.{as_array, as_str, get}

-- ---- the items of the list
site_name : (of : ObjectType) (held : ℕ) (d : Data) (p : PropId) → stored_property of held d ≡ Some p → names_sites of d ≡ is_of_sites (Some p)
site_name of held d p h =
    let (q, named, k) = then_from (if_held held) (option_and_then (property_named_in of) (as_str d)) p h in
    let (t, is) = if_from (has held q) (Some q) p k in
    ap is_of_sites (named ∙ is)

pub site_names : (of : ObjectType) (held : ℕ) (ds : Items) (ps : List PropId) → each_read (stored_property of held) ds ≡ Some ps → any_names_sites of ds ≡ list_any (λ p. is_of_sites (Some p)) ps
site_names of held no_items ps h = ap (list_any (λ p. is_of_sites (Some p))) (some_is [] ps h)
site_names of held (item d ds) ps h =
    let (p, first, more) = then_from (λ a. option_map (λ as'. a ∷ as') (each_read (stored_property of held) ds)) (stored_property of held d) ps h in
    let (rest, later, is) = map_from (λ as'. p ∷ as') (each_read (stored_property of held) ds) ps more in
    ap (λ b. b || any_names_sites of ds) (site_name of held d p first)
    ∙ ap (λ b. is_of_sites (Some p) || b) (site_names of held ds rest later)
    ∙ ap (list_any (λ q. is_of_sites (Some q))) is

-- ---- the set of the properties
pub sites_stored : (ps : List PropId) → list_any (λ p. is_of_sites (Some p)) ps ≡ true → (has (set_of ps) Sites ≡ true) ⊎ (has (set_of ps) SiteHeights ≡ true)
sites_stored ps h =
    let (q, i, s) = any_to (λ p. is_of_sites (Some p)) ps h in
    by q i (same_property Sites q) refl (same_property SiteHeights q) refl s
  where
    there_is : (p q : PropId) → Among q ps → same_property p q ≡ true → has (set_of ps) p ≡ true
    there_is p q i same = set_of-has ps p ∙ any_from (λ r. same_property r p) i (subst (λ r. same_property r p ≡ true) (same_property_is p q same) (same_property_refl p))

    by : (q : PropId) → Among q ps → (a : Bool) → same_property Sites q ≡ a → (b : Bool) → same_property SiteHeights q ≡ b → (a || b) ≡ true → (has (set_of ps) Sites ≡ true) ⊎ (has (set_of ps) SiteHeights ≡ true)
    by q i true e b f h = inl (there_is Sites q i e)
    by q i false e true f h = inr (there_is SiteHeights q i f)
    by q i false e false f h = absurd (true≢false (sym h))

pub stored_sites : (ps : List PropId) (p : PropId) → is_of_sites (Some p) ≡ true → has (set_of ps) p ≡ true → list_any (λ q. is_of_sites (Some q)) ps ≡ true
stored_sites ps p s h =
    let (q, i, same) = any_to (λ r. same_property r p) ps (sym (set_of-has ps p) ∙ h) in
    any_from (λ r. is_of_sites (Some r)) i (subst (λ r. is_of_sites (Some r) ≡ true) (sym (same_property_is q p same)) s)

-- ---- of a profile that was read
list_told : (of : ObjectType) (held : ℕ) (found : Option Data) (stored : ℕ) → stored_by of held found ≡ Some stored → list_names_sites of (option_and_then as_array found) ≡ true → (has stored Sites ≡ true) ⊎ (has stored SiteHeights ≡ true)
list_told of held None stored h n = absurd (true≢false (sym n))
list_told of held (Some d) stored h n =
    let (ps, l, is) = map_from set_of (list_read same_property (stored_property of held) (Some d)) stored h in
    let (ds, listed, k) = then_from (different_read same_property (stored_property of held)) (as_array d) ps l in
    let (ys, each, g) = then_from (if_different same_property) (each_read (stored_property of held) ds) ps k in
    let (different, same) = if_from (are_different same_property ys) (Some ys) ps g in
    let named : any_names_sites of ds ≡ true = sym (ap (list_names_sites of) listed) ∙ n in
    let all : ys ≡ ps = some_is ys ps same in
    subst (λ s. (has s Sites ≡ true) ⊎ (has s SiteHeights ≡ true)) is (sites_stored ps (sym (ap (list_any (λ p. is_of_sites (Some p))) all) ∙ sym (site_names of held ds ys each) ∙ named))

pub found_sites : (of : ObjectType) (held : ℕ) (d : Data) (ds : Items) (p : Profile) → profile_in of held d ds ≡ Ok p → finds_sites of d ≡ true → (has p.stored Sites ≡ true) ⊎ (has p.stored SiteHeights ≡ true)
found_sites of held d ds p h f =
    let b = and_parts (is_profile_2 d) (list_names_sites of (option_and_then as_array (get (codes "_computed") d))) f in
    full (subst (λ (t : Bool). (if t then full_profile of held d ds else Ok (plain_profile ds)) ≡ Ok p) b.0 h) b.1
  where
    full : full_profile of held d ds ≡ Ok p → list_names_sites of (option_and_then as_array (get (codes "_computed") d)) ≡ true → (has p.stored Sites ≡ true) ⊎ (has p.stored SiteHeights ≡ true)
    full g n =
        let (stored, s, g1) = ok_from (or_bad (codes "_computed") (stored_by of held (get (codes "_computed") d))) _ p g in
        let (failed, m, g2) = ok_from (or_bad (codes "_excluded") (marks_in d)) _ p g1 in
        let (marks, k, g3) = ok_from (or_bad (codes "_excluded") (each_read marks_in ds)) _ p g2 in
        let (names, o, g4) = ok_from (or_bad (codes "_name") (program_names ds)) _ p g3 in
        let is = ok_is _ p g4 in
        let told = list_told of held (get (codes "_computed") d) stored (some_from _ (stored_by of held (get (codes "_computed") d)) stored s) n in
        subst (λ (z : Profile). (has z.stored Sites ≡ true) ⊎ (has z.stored SiteHeights ≡ true)) is told
