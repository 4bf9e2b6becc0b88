-- Values that are no matrices: whole numbers, truth values, sets. A client that puts one for its target is sound where it is right wherever what was read is.
use Rattle.pm_vector.specs.Numbers.{Ratio}
use Rattle.pm_client.proofs.Machine.{small_bits}
use Rattle.pm_client.proofs.Puts.{IsPut, is_alone, sound_one}
use Rattle.pm_client.specs.Sound.{IsSound}
use Rattle.pm_geom.specs.Things.{Orders}
use Rattle.pm_types.specs.Things.{Thing}
use Rattle.pm_object_type.specs.declared.object_type.ObjectType.{ObjectType}
use Rattle.pm_fraction.specs.Matrices.{IsFraction}
use Rattle.pm_object.specs.Reading.{DraftSeen, ViewSeen}
use Rattle.pm_types.specs.Canonical.{IsCanonical}
use Rattle.pm_types.specs.Forms.{AreFractions, FormsIn, HasPrimitiveRow, HavePrimitiveRows, agrees_with, are_rows, has_64_bits, is_counts_form, is_formed}
use Rattle.pm_props.specs.Properties.{is_ambient, is_columned, is_of_counts, is_of_truth_values, is_of_whole_numbers, value_kind}
use Rattle.pm_types.specs.Right.{Right, RightAll, objective_of}
use Rattle.pm_props.specs.Places.{place_of}
use Rattle.pm_types.specs.Runs.{states_rows}
use Rattle.pm_types.specs.Values.{PropertyValue, counts, extended, matrix, truth, whole}
use Rattle.pm_props.specs.declared.kind.Kind.{Kind}
use Rattle.pm_props.specs.declared.property.PropId.TheVariants.{AffineHull, ConeAmbientDim, Equations, Facets, Inequalities, InputLineality, LinealitySpace, Points, SiteHeights, Vertices}
use Rattle.pm_props.specs.declared.property.PropId.{PropId}
use Rattle.std.proofs.Common.{false, refl, subst, sym, to_z, true, true≢false, w64}
use Rattle.std.proofs.lemmas.Bool.{and_from, and_parts}
use Rattle.std.proofs.lemmas.Int.{to_z_pos}
use Rattle.std.proofs.lemmas.List.Elements.{All-nil}
use Rattle.std.specs.List.{All}
use Rattle.std.specs.Prelude.{Bool, List, if◌then◌else◌, nat_eq, not, ℕ, ◌&&◌, ◌<◌, ◌^◌, ◌||◌, ◌≡◌}
use lib.IntN.{pos, ℤ}

-- x is right as the value of p wherever what was read is right
abbrev pub Follows : ViewSeen → PropId → PropertyValue → Type 0
Follows v p x = (t : Thing) (o : Orders) → t.of ≡ v.of → t.cols ≡ v.cols → RightAll v.facts t o → (c : List Ratio) → Right p x t o c

-- the value has no fractions: it is no matrix and no number
abbrev pub is_plain : PropertyValue → Bool
is_plain (matrix n rows) = false
is_plain (extended x) = false
is_plain v = true

-- ---- such values
plain_states : (x : PropertyValue) → is_plain x ≡ true → states_rows x ≡ true
plain_states (matrix n rows) h = absurd (true≢false (sym h))
plain_states x h = refl

plain_rows : (of : ObjectType) (p : PropId) (x : PropertyValue) → is_plain x ≡ true → are_rows of p x ≡ true
plain_rows of p (matrix n rows) h = absurd (true≢false (sym h))
plain_rows of p x h = refl

plain_entries : (x : PropertyValue) → is_plain x ≡ true → AreFractions x
plain_entries (matrix n rows) h = absurd (true≢false (sym h))
plain_entries (extended x) h = absurd (true≢false (sym h))
plain_entries x h = All-nil (All IsFraction)

plain_primitive : (p : PropId) (x : PropertyValue) → is_plain x ≡ true → HavePrimitiveRows p x
plain_primitive SiteHeights x h = tt
plain_primitive p (matrix n rows) h = absurd (true≢false (sym h))
plain_primitive p x h = All-nil HasPrimitiveRow

no_columns : (b : Bool) (n : ℕ) → (nat_eq (if b then 0 else 0) 0 || nat_eq (if b then 0 else 0) n) ≡ true
no_columns true n = refl
no_columns false n = refl

plain_columns : (n : ℕ) (p : PropId) (x : PropertyValue) → is_plain x ≡ true → is_ambient p ≡ false → agrees_with n p x ≡ true
plain_columns n ConeAmbientDim x h other = absurd (true≢false other)
plain_columns n p (matrix m rows) h other = absurd (true≢false (sym h))
plain_columns n p x h other = no_columns (is_columned p) n

pub plain_form : (of : ObjectType) (n : ℕ) (p : PropId) (x : PropertyValue) → is_plain x ≡ true → is_ambient p ≡ false → is_formed p x ≡ true → FormsIn of n p x
plain_form of n p x plain other formed = record { formed = formed; columns = plain_columns n p x plain other; rows = plain_rows of p x plain; entries = plain_entries x plain; primitive = plain_primitive p x plain }

plain_canonical : (kind : Kind) (p : PropId) (x : PropertyValue) (t : Thing) → is_plain x ≡ true → IsCanonical kind p x t
plain_canonical kind Vertices (matrix n rows) t h = absurd (true≢false (sym h))
plain_canonical kind LinealitySpace (matrix n rows) t h = absurd (true≢false (sym h))
plain_canonical kind Facets (matrix n rows) t h = absurd (true≢false (sym h))
plain_canonical kind AffineHull (matrix n rows) t h = absurd (true≢false (sym h))
plain_canonical kind p x t h = tt

-- the halves of pairs are matrices
plain_alone : (p : PropId) (x : PropertyValue) → is_plain x ≡ true → is_formed p x ≡ true → is_alone p ≡ true
plain_alone Points (matrix n rows) plain h = absurd (true≢false (sym plain))
plain_alone Points x plain h = absurd (true≢false (sym h))
plain_alone InputLineality (matrix n rows) plain h = absurd (true≢false (sym plain))
plain_alone InputLineality x plain h = absurd (true≢false (sym h))
plain_alone Inequalities (matrix n rows) plain h = absurd (true≢false (sym plain))
plain_alone Inequalities x plain h = absurd (true≢false (sym h))
plain_alone Equations (matrix n rows) plain h = absurd (true≢false (sym plain))
plain_alone Equations x plain h = absurd (true≢false (sym h))
plain_alone p x plain h = refl

-- ---- sound drafts
-- a value that is no matrix
pub sound_plain : (v : ViewSeen) (p : PropId) (x : PropertyValue) (old new : DraftSeen) → is_plain x ≡ true → is_ambient p ≡ false → is_formed p x ≡ true → IsPut v p x old new → Follows v p x → IsSound v new
sound_plain v p x old new plain other formed put follows =
    sound_one v p x old new put (plain_alone p x plain formed) (plain_form v.of v.cols p x plain other formed) (plain_states x plain)
    (λ t o of cols right. (follows t o of cols right (objective_of t (place_of v.sub p)), plain_canonical v.kind p x t plain))

-- the values of p are whole numbers of 64 bits
abbrev pub is_of_64_bits : PropId → Bool
is_of_64_bits p = is_of_whole_numbers (value_kind p) && not (is_ambient p)

whole_formed : (p : PropId) (z : ℤ) → is_of_64_bits p ≡ true → has_64_bits z ≡ true → is_formed p (whole z) ≡ true
whole_formed ConeAmbientDim z h bits = absurd (true≢false (sym h))
whole_formed p z h bits = and_from (is_of_whole_numbers (value_kind p)) (has_64_bits z) (and_parts (is_of_whole_numbers (value_kind p)) (not (is_ambient p)) h).0 bits

not_ambient : (p : PropId) → is_of_64_bits p ≡ true → is_ambient p ≡ false
not_ambient ConeAmbientDim h = absurd (true≢false (sym h))
not_ambient p h = refl

-- a whole number w of the machine, which is z
pub sound_whole : (v : ViewSeen) (p : PropId) (w z : ℤ) (old new : DraftSeen) → is_of_64_bits p ≡ true → w ≡ z → has_64_bits z ≡ true → IsPut v p (whole w) old new → Follows v p (whole z) → IsSound v new
sound_whole v p w z old new whole_numbers same bits put follows =
    sound_plain v p (whole z) old new refl (not_ambient p whole_numbers) (whole_formed p z whole_numbers bits) (subst (λ y. IsPut v p (whole y) old new) same put) follows

-- a natural number, cast to a whole number of the machine
pub sound_count : (v : ViewSeen) (p : PropId) (k : ℕ) (old new : DraftSeen) → is_of_64_bits p ≡ true → k < 2 ^ 63 → IsPut v p (whole (to_z w64 k)) old new → Follows v p (whole (pos k)) → IsSound v new
sound_count v p k old new whole_numbers small put follows = sound_whole v p (to_z w64 k) (pos k) old new whole_numbers (to_z_pos w64 k small) (small_bits k small) put follows

truth_formed : (p : PropId) (b : Bool) → is_of_truth_values (value_kind p) ≡ true → is_formed p (truth b) ≡ true
truth_formed p b h = h

truth_not_ambient : (p : PropId) → is_of_truth_values (value_kind p) ≡ true → is_ambient p ≡ false
truth_not_ambient ConeAmbientDim h = absurd (true≢false (sym h))
truth_not_ambient p h = refl

-- a truth value
pub sound_truth : (v : ViewSeen) (p : PropId) (b : Bool) (old new : DraftSeen) → is_of_truth_values (value_kind p) ≡ true → IsPut v p (truth b) old new → Follows v p (truth b) → IsSound v new
sound_truth v p b old new truths put follows = sound_plain v p (truth b) old new refl (truth_not_ambient p truths) (truth_formed p b truths) put follows

counts_not_ambient : (p : PropId) → is_of_counts (value_kind p) ≡ true → is_ambient p ≡ false
counts_not_ambient ConeAmbientDim h = absurd (true≢false (sym h))
counts_not_ambient p h = refl

-- a list of whole numbers of 64 bits
pub sound_counts : (v : ViewSeen) (p : PropId) (ks : List ℤ) (old new : DraftSeen) → is_of_counts (value_kind p) ≡ true → is_counts_form ks ≡ true → IsPut v p (counts ks) old new → Follows v p (counts ks) → IsSound v new
sound_counts v p ks old new kind form put follows = sound_plain v p (counts ks) old new refl (counts_not_ambient p kind) (and_from (is_of_counts (value_kind p)) (is_counts_form ks) kind form) put follows
