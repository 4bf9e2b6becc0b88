-- When the client that counts the rays may run, and when it may not; and one that finds them from points.
use Rattle.pm_vector.proofs.Lists.{Among, Contains_among, among_Contains, here, there}
use Rattle.pm_examples_values.proofs.OneTarget.{chooses, free_of, has_none, none_of, not_free, one_of, third_of}
use Rattle.pm_examples_values.specs.RunExamples.{RunsMayBegin, columns, counting, from_one, of_pointed, own, pointed, points, rays}
use Rattle.pm_props.proofs.Every.{has-set_of}
use Rattle.pm_props.specs.Places.{same_property}
use Rattle.pm_props.specs.Properties.{facets_tag, generators_tag, half_spaces_tag, rays_tag}
use Rattle.pm_props.specs.Sets.{has, set_of}
use Rattle.pm_props.specs.declared.kind.Kind.{Kind}
use Rattle.pm_props.specs.declared.property.PropId.{PropId}
use Rattle.pm_props.specs.declared.property.PropId.TheVariants.{ConeAmbientDim, Facets, InputLineality, MaximalFace, NVertices, Pointed, Points, Vertices}
use Rattle.pm_types.specs.Forms.{states}
use Rattle.pm_types.specs.Runs.{Holds, IsFree, IsPlaced, MayRun, is_named}
use Rattle.pm_types.specs.Values.{Fact, PropertyValue, counts, matrix, truth, whole}
use Rattle.std.proofs.Common.{ap, refl, subst, sym, true, true≢false, ◌∙◌}
use Rattle.std.specs.Prelude.{Bool, IsTrue, List, None, Some, [], false, ◌&&◌, ◌∷◌, ◌≡◌}
use lib.IntN.{pos}

-- ---- values that stand where they may
own_placed : (f : Fact) → f.place ≡ None → IsPlaced f
own_placed f e = record { alone = λ h. e }

both_placed : (p q : Fact) → p.place ≡ None → q.place ≡ None → (f : Fact) → Among f (p ∷ q ∷ []) → IsPlaced f
both_placed p q e h f here = own_placed p e
both_placed p q e h f (there here) = own_placed q h
both_placed p q e h f (there (there i)) = elim i [ ]

with_third : (p q r : Fact) → p.place ≡ None → q.place ≡ None → IsPlaced r → (f : Fact) → Among f (p ∷ q ∷ r ∷ []) → IsPlaced f
with_third p q r e h k f here = own_placed p e
with_third p q r e h k f (there here) = own_placed q h
with_third p q r e h k f (there (there here)) = k
with_third p q r e h k f (there (there (there i))) = elim i [ ]

-- ---- a client without conditions that finds p from q, of which neither pair is chosen
runs_from : (kind : Kind) (p q : PropId) (held : List Fact) → kind.targets ≡ set_of (p ∷ []) → kind.sources ≡ set_of (q ∷ []) → kind.must_not ≡ 0 → generators_tag p ≡ false → half_spaces_tag p ≡ false
    → ((f : Fact) → Among f held → IsPlaced f) → Among columns held → is_named held None q ≡ true → ((r : PropId) → IsTrue (has kind.must r) → Holds held None r (truth true))
    → IsFree rays_tag kind held → IsFree facets_tag kind held → MayRun kind None 2 held
runs_from kind p q held targets sources no_must_not generators half_spaces placed ambient named must rays_free facets_free = record {
  placed = λ f c. placed f (among_Contains held c);
  ambient = Contains_among ambient;
  sources = λ r h. ap (λ z. is_named held None z) (sym (one_of q r (subst (λ s. IsTrue (has s r)) sources h))) ∙ named;
  must = must;
  must_not = λ r h. absurd (none_of r (subst (λ s. IsTrue (has s r)) no_must_not h));
  rays = rays_free;
  facets = facets_free;
  generators = free_of generators_tag kind p held targets generators;
  half_spaces = free_of half_spaces_tag kind p held targets half_spaces;
}

counts_where : (kind : Kind) (held : List Fact) → kind.targets ≡ set_of (NVertices ∷ []) → kind.sources ≡ set_of (Vertices ∷ []) → kind.must_not ≡ 0
    → ((f : Fact) → Among f held → IsPlaced f) → Among columns held → is_named held None Vertices ≡ true → ((r : PropId) → IsTrue (has kind.must r) → Holds held None r (truth true)) → MayRun kind None 2 held
counts_where kind held targets sources no_must_not placed ambient named must =
    runs_from kind NVertices Vertices held targets sources no_must_not refl refl placed ambient named must (free_of rays_tag kind NVertices held targets refl) (free_of facets_tag kind NVertices held targets refl)

-- ---- conditions
pointed_held : (r : PropId) → IsTrue (has of_pointed.must r) → Holds (columns ∷ rays ∷ pointed ∷ []) None r (truth true)
pointed_held r h = subst (λ z. Holds (columns ∷ rays ∷ pointed ∷ []) None z (truth true)) (one_of Pointed r h) (third_of columns rays pointed [])

abbrev is_false : PropertyValue → Bool
is_false (truth false) = true
is_false v = false

-- ---- the order of the rays, chosen
rays_chosen : (held : List Fact) → ((f : Fact) → Among f held → rays_tag f.property ≡ false) → IsFree rays_tag (from_one Vertices Points) held
rays_chosen held none = record { none = λ fresh f c. none f (among_Contains held c) }

no_rays_tag : (f : Fact) → Among f (columns ∷ points ∷ []) → rays_tag f.property ≡ false
no_rays_tag f here = refl
no_rays_tag f (there here) = refl
no_rays_tag f (there (there i)) = elim i [ ]

pub runs_may_begin : RunsMayBegin
runs_may_begin = record {
  may_run = counts_where counting (columns ∷ rays ∷ []) refl refl refl (both_placed columns rays refl refl) here refl (λ r h. absurd (none_of r h));
  no_columns = λ m. has_none (λ (f : Fact). same_property ConeAmbientDim f.property) (rays ∷ []) columns refl refl m.ambient;
  other_columns = λ m. has_none (λ (f : Fact). same_property ConeAmbientDim f.property && states 3 f.value) (columns ∷ rays ∷ []) (record { place = None; property = ConeAmbientDim; value = whole (pos 3) }) refl refl m.ambient;
  no_rays = λ m. true≢false (sym (m.sources Vertices (has-set_of (Vertices ∷ []) Vertices)));
  misplaced = λ m. let e : Some 0 ≡ None = (m.placed (record { place = Some 0; property = Pointed; value = truth true }) (third_of columns rays (record { place = Some 0; property = Pointed; value = truth true }) [])).alone refl in cc;
  of_a_program = counts_where counting (columns ∷ rays ∷ record { place = Some 0; property = MaximalFace; value = counts [] } ∷ []) refl refl refl
      (with_third columns rays (record { place = Some 0; property = MaximalFace; value = counts [] }) refl refl (record { alone = λ h. absurd (true≢false h) })) here refl (λ r h. absurd (none_of r h));
  condition = counts_where of_pointed (columns ∷ rays ∷ pointed ∷ []) refl refl refl (with_third columns rays pointed refl refl (own_placed pointed refl)) here refl pointed_held;
  not_held = λ m. has_none (λ (f : Fact). same_property Pointed f.property) (columns ∷ rays ∷ []) pointed refl refl (m.must Pointed (has-set_of (Pointed ∷ []) Pointed));
  held_true = λ m. has_none (λ (f : Fact). same_property Pointed f.property && is_false f.value) (columns ∷ rays ∷ pointed ∷ []) (record { place = None; property = Pointed; value = truth false }) refl refl
      (m.must_not Pointed (has-set_of (Pointed ∷ []) Pointed));
  chosen = runs_from (from_one Vertices Points) Vertices Points (columns ∷ points ∷ []) refl refl refl refl refl (both_placed columns points refl refl) here refl (λ r h. absurd (none_of r h))
      (rays_chosen (columns ∷ points ∷ []) no_rays_tag) (free_of facets_tag (from_one Vertices Points) Vertices (columns ∷ points ∷ []) refl refl);
  rays_speak = λ m. not_free rays_tag (from_one Vertices Points) (columns ∷ points ∷ rays ∷ []) rays
      (chooses rays_tag (from_one Vertices Points) Vertices Points (has-set_of (Vertices ∷ []) Vertices) refl refl refl) (third_of columns points rays []) refl m.rays;
  facets_speak = λ m. not_free facets_tag (from_one Facets Points) (columns ∷ points ∷ own Facets (matrix 0 []) ∷ []) (own Facets (matrix 0 []))
      (chooses facets_tag (from_one Facets Points) Facets Points (has-set_of (Facets ∷ []) Facets) refl refl refl) (third_of columns points (own Facets (matrix 0 [])) []) refl m.facets;
  generators_speak = λ m. not_free generators_tag (from_one InputLineality Vertices) (columns ∷ rays ∷ points ∷ []) points
      (chooses generators_tag (from_one InputLineality Vertices) InputLineality Vertices (has-set_of (InputLineality ∷ []) InputLineality) refl refl refl) (third_of columns rays points []) refl m.generators;
}
