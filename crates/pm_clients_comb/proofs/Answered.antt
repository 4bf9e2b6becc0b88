-- The sets that the client puts are right, and where it fails a product of rows that it read leaves the range.
use Rattle.pm_vector.specs.Numbers.{Ratio}
use Rattle.pm_vector.specs.Rows.{Row}
use Rattle.pm_client.proofs.PlainValues.{Follows, sound_plain}
use Rattle.pm_client.proofs.Puts.{IsPut}
use Rattle.pm_client.proofs.ReadRows.{row_of}
use Rattle.pm_client.proofs.ReadValues.{all_length, primitive_length, read_right}
use Rattle.pm_client.specs.Sound.{FailsRightly, IsSound, fail_of_incidence, has_way, products}
use Rattle.pm_props.specs.Properties.{is_generator, is_half_space}
use Rattle.pm_incidence.specs.declared.fails.IncFail.TheVariants.{Memory, Wide}
use Rattle.pm_incidence.specs.declared.fails.IncFail.{IncFail}
use Rattle.pm_geom.specs.declared.evidence.Evidence.TheVariants.{E4}
use Rattle.pm_fraction.specs.FractionRows.{ArePrimitiveRowsOf}
use Rattle.pm_incidence.proofs.Places.{incidence_form, incidence_is}
use Rattle.pm_incidence.proofs.Products.{stays_turned, zero_stays}
use Rattle.pm_incidence.specs.Incidence.{IsWideFor, incidence}
use Rattle.pm_object.specs.Reading.{DraftSeen, ViewSeen, fact_of}
use Rattle.pm_relations.proofs.Incidence.{incidence_is_right}
use Rattle.pm_types.proofs.PrimitiveRows.{few_rows}
use Rattle.pm_relations.proofs.PrimitiveStanding.{primitive_stand}
use Rattle.pm_types.specs.Forms.{FormsIn, is_formed}
use Rattle.pm_clients_comb.specs.Incidence.{FindsIncidence}
use Rattle.pm_types.specs.Values.{IndexSets, matrix, sets}
use Rattle.pm_props.specs.declared.property.PropId.TheVariants.{Facets, Vertices, VerticesInFacets}
use Rattle.std.proofs.Common.{ap, arith, get_or, inl, refl, subst, sym, true}
use Rattle.std.specs.List.{All}
use Rattle.std.specs.Prelude.{Bool, IsTrue, List, Some, false, [], length, ℕ, ◌++◌, ◌∷◌, ◌≡◌}

-- the view has these matrices, and these are the primitive rows of theirs
pub record Reads (v : ViewSeen) (m k : ℕ) (facets vertices : List (List Ratio)) (F V : List Row) : Type 0 where
  pub kind : FindsIncidence v.kind
  pub facets_read : fact_of Facets v.facts ≡ Some (matrix m facets)
  pub vertices_read : fact_of Vertices v.facts ≡ Some (matrix k vertices)
  pub facets_form : FormsIn v.of v.cols Facets (matrix m facets)
  pub vertices_form : FormsIn v.of v.cols Vertices (matrix k vertices)
  pub facet_rows : ArePrimitiveRowsOf facets F
  pub vertex_rows : ArePrimitiveRowsOf vertices V

pub vertex_lengths : (v : ViewSeen) (m k : ℕ) (facets vertices : List (List Ratio)) (F V : List Row) → FormsIn v.of v.cols Facets (matrix m facets) → FormsIn v.of v.cols Vertices (matrix k vertices)
    → ArePrimitiveRowsOf facets F → ArePrimitiveRowsOf vertices V → All (λ f. All (λ x. length x ≡ length f) V) F
vertex_lengths v m k facets vertices F V g h p q = λ i d below.
    let own : length (get_or F i d) ≡ v.cols = all_length v.cols F (primitive_length m v.cols facets F g.formed g.columns p) i d below in
    subst (λ n. All (λ x. length x ≡ n) V) (sym own) (all_length v.cols V (primitive_length k v.cols vertices V h.formed h.columns q))

-- ---- the answer
formed : (v : ViewSeen) (m k : ℕ) (facets vertices : List (List Ratio)) (F V : List Row) → Reads v m k facets vertices F V → is_formed VerticesInFacets (sets (incidence F V) (length V)) ≡ true
formed v m k facets vertices F V h = incidence_form F V
    (let few = few_rows m facets h.facets_form.formed in let count = h.facet_rows.count in omega arith)
    (let few = few_rows k vertices h.vertices_form.formed in let count = h.vertex_rows.count in omega arith)

follows : (v : ViewSeen) (m k : ℕ) (facets vertices : List (List Ratio)) (F V : List Row) → Reads v m k facets vertices F V → Follows v VerticesInFacets (sets (incidence F V) (length V))
follows v m k facets vertices F V h t o of cols right c =
    let (s, rv) = read_right Vertices v.facts (matrix k vertices) t o h.vertices_read right in
    let (r, rf) = read_right Facets v.facts (matrix m facets) t o h.facets_read right in
    incidence_is_right t o right.orders k m vertices facets V F (incidence F V) rv rf (primitive_stand vertices V h.vertex_rows) (primitive_stand facets F h.facet_rows) (incidence_is F V)

pub sets_sound : (v : ViewSeen) (m k : ℕ) (facets vertices : List (List Ratio)) (F V : List Row) (s : IndexSets) (old new : DraftSeen) → Reads v m k facets vertices F V → s ≡ record { rows = incidence F V; cols = length V } → old ≡ record { kind = v.kind; values = [] }
    → new ≡ record old { values = old.values ++ record { property = VerticesInFacets; value = sets s.rows s.cols } ∷ [] } → IsSound v new
sets_sound v m k facets vertices F V s old new h e empty put =
    sound_plain v VerticesInFacets (sets (incidence F V) (length V)) old new refl refl (formed v m k facets vertices F V h)
    (subst (λ z. IsPut v VerticesInFacets (sets z.rows z.cols) old new) e (record { targets = h.kind.targets; empty = empty; put = put })) (follows v m k facets vertices F V h)

-- ---- the evidence
pub fails_rightly : (v : ViewSeen) (m k : ℕ) (facets vertices : List (List Ratio)) (F V : List Row) (e : IncFail) → IsTrue (has_way v.kind products) → fact_of Facets v.facts ≡ Some (matrix m facets) → fact_of Vertices v.facts ≡ Some (matrix k vertices)
    → ArePrimitiveRowsOf facets F → ArePrimitiveRowsOf vertices V → IsWideFor F V e → FailsRightly v (fail_of_incidence e)
fails_rightly v m k facets vertices F V Memory kind g h p q w = tt
fails_rightly v m k facets vertices F V (Wide (E4 a x)) kind g h p q w =
    inl (record {
      named = kind;
      generator = row_of v is_generator Vertices k vertices V a h refl q w.0 (λ z. w.2 (zero_stays a x z));
      half_space = row_of v is_half_space Facets m facets F x g refl p w.1 (λ z. w.2 (stays_turned x a (zero_stays x a z)));
      wide = w.2;
    })
fails_rightly v m k facets vertices F V (Wide e) kind g h p q w = absurd w

pub fails_either : (v : ViewSeen) (m k : ℕ) (facets vertices : List (List Ratio)) (F V : List Row) (e : IncFail) (wide : Bool) → (wide ≡ true → e ≡ Memory) → (wide ≡ false → IsTrue (has_way v.kind products)) → fact_of Facets v.facts ≡ Some (matrix m facets) → fact_of Vertices v.facts ≡ Some (matrix k vertices)
    → ArePrimitiveRowsOf facets F → ArePrimitiveRowsOf vertices V → IsWideFor F V e → FailsRightly v (fail_of_incidence e)
fails_either v m k facets vertices F V e true exact named g h p q w = subst (λ x. FailsRightly v (fail_of_incidence x)) (sym (exact refl)) tt
fails_either v m k facets vertices F V e false exact named g h p q w = fails_rightly v m k facets vertices F V e (named refl) g h p q w
