-- Each reply is a block of lines: one that opens it, and later ones that open none.
use Rattle.std.proofs.Common.{ap, append-nil, append_assoc, eqb, refl, subst, sym, true≢false, zero, suc, ℕ, List, [], ◌∷◌, ◌++◌, Bool, true, false, ◌≡◌, ◌∙◌, Option, Some, None, if◌then◌else◌, codes, flat_map, length}
use Rattle.std.specs.List.{list_all, slice_get}
use Rattle.std.specs.Fmt.{decimal, digits}
use Rattle.std.specs.Prelude.{replicate, ◌-◌, ◌/◌, ◌%◌, ◌^◌}
use Rattle.std.proofs.lemmas.Bool.{and_parts}
use Rattle.pm_geom.specs.Evidence.{evidence_number}
use Rattle.pm_object.specs.State.{RoundSeen}
use Rattle.pm_object.specs.declared.held.Excluded.{Excluded}
use Rattle.pm_object.specs.declared.held.Origin.{Origin}
use Rattle.pm_object.specs.declared.held.Origin.TheVariants as origin
use Rattle.pm_object.specs.declared.held.RoundEnd.{RoundEnd}
use Rattle.pm_object.specs.declared.held.RoundEnd.TheVariants as end
use Rattle.pm_object.specs.declared.held.Why.{Why}
use Rattle.pm_object.specs.declared.held.Why.TheVariants as why
use Rattle.pm_object_type.specs.declared.object_type.ObjectType.{ObjectType}
use Rattle.pm_files.specs.EvidenceJson.{evidence_json, evidence_text}
use Rattle.pm_props.specs.Properties.{first_name}
use Rattle.pm_props.specs.declared.kind.RuleId.{RuleId}
use Rattle.pm_props.specs.declared.property.PropId.{PropId}
use Rattle.pm_props.specs.declared.set.PropSet.{PropSet}
use Rattle.pm_rules.specs.declared.table.TableRow.{TableRow}
use Rattle.pm_script.specs.Replies.{NamesSeen, Remarks, bar_text, barred_text, end_text, evidence_line, evidence_shown, excluded_text, exclusion_text, half_text, held_line, label_in, label_text, name_of_program, name_shown, origin_text, place_text, property_set_text, remarks_text, round_text, rule_text, spaced_label, table_row_text, weight_in, weight_text_of}
use Rattle.pm_script.specs.declared.names.Bar.{Bar}
use Rattle.pm_script.specs.declared.names.Bar.TheVariants as bar
use Rattle.pm_weights.specs.Weights.{cost_text, pair_text}
use Rattle.pm_weights.specs.declared.Cost.{Cost}
use Rattle.pm_weights.specs.declared.Weight.{Weight}
use Rattle.pm_laws_replies.specs.Told.{NamesAreOneLine, is_one_line}
use Rattle.pm_laws_replies.proofs.Lines.{Block, Later, a_line, no_line}
use Rattle.pm_laws_replies.proofs.OneLine.{low_decimal, low_either, low_first, plain_append, plain_decimal, plain_digits, plain_either, plain_first, plain_json, plain_map, plain_shown}

-- ---- parts of lines
plain_pair : (class minor : ℕ) → is_one_line (pair_text class minor) ≡ true
plain_pair class minor = plain_either (eqb class 0) (decimal minor) (decimal class ++ 46 ∷ decimal minor) (plain_decimal minor)
    (plain_append (decimal class) (46 ∷ decimal minor) (plain_decimal class) (plain_decimal minor))

pub low_append : (a b : List ℕ) → low_first a ≡ true → low_first (a ++ b) ≡ true
low_append [] b h = absurd (true≢false (sym h))
low_append (x ∷ a) b h = h

low_pair : (class minor : ℕ) → low_first (pair_text class minor) ≡ true
low_pair class minor = low_either (eqb class 0) (decimal minor) (decimal class ++ 46 ∷ decimal minor) (low_decimal minor) (low_append (decimal class) (46 ∷ decimal minor) (low_decimal class))

pub plain_cost : (c : Cost) → is_one_line (cost_text c) ≡ true
plain_cost c = plain_pair c.class c.minor

pub low_cost : (c : Cost) → low_first (cost_text c) ≡ true
low_cost c = low_pair c.class c.minor

plain_label_at : (rules : List (List ℕ × Weight)) (k : ℕ) → list_all (λ r. is_one_line r.0) rules ≡ true → is_one_line (label_in (slice_get rules k)) ≡ true
plain_label_at [] k h = refl
plain_label_at (r ∷ rules) zero h = (and_parts (is_one_line r.0) (list_all (λ r. is_one_line r.0) rules) h).0
plain_label_at (r ∷ rules) (suc k) h = plain_label_at rules k (and_parts (is_one_line r.0) (list_all (λ r. is_one_line r.0) rules) h).1

plain_weight_at : (rules : List (List ℕ × Weight)) (k : ℕ) → is_one_line (weight_in (slice_get rules k)) ≡ true
plain_weight_at [] k = refl
plain_weight_at (r ∷ rules) zero = plain_pair r.1.class r.1.minor
plain_weight_at (r ∷ rules) (suc k) = plain_weight_at rules k

plain_program_at : (names : List (List ℕ)) (k : ℕ) → list_all is_one_line names ≡ true → is_one_line (name_of_program (slice_get names k)) ≡ true
plain_program_at [] k h = refl
plain_program_at (n ∷ names) zero h = (and_parts (is_one_line n) (list_all is_one_line names) h).0
plain_program_at (n ∷ names) (suc k) h = plain_program_at names k (and_parts (is_one_line n) (list_all is_one_line names) h).1

abbrev pub round_line : NamesSeen → RoundSeen → List ℕ
round_line names r = codes "round " ++ cost_text r.weight ++ place_text names r.sub ++ codes ":" ++ flat_map (spaced_label names) r.chain ++ codes " -> " ++ end_text names r.end

module _ (names : NamesSeen) (lines : NamesAreOneLine names) where
  plain_label : (id : RuleId) → is_one_line (label_text names id) ≡ true
  plain_label id = plain_label_at names.rules id.0 lines.labels

  plain_spaced : (id : RuleId) → is_one_line (spaced_label names id) ≡ true
  plain_spaced id = plain_label id

  plain_place : (sub : Option ℕ) → is_one_line (place_text names sub) ≡ true
  plain_place None = refl
  plain_place (Some k) = plain_program_at names.programs k lines.programs

  plain_end : (e : RoundEnd) → is_one_line (end_text names e) ≡ true
  plain_end end.Done = refl
  plain_end (end.Failed id k) = plain_append ((codes "failed " ++ label_text names id) ++ codes " E") (decimal k) (plain_append (codes "failed " ++ label_text names id) (codes " E") (plain_label id) refl) (plain_decimal k)
  plain_end (end.False id p) = plain_append ((codes "false " ++ label_text names id) ++ codes " ") (first_name p) (plain_append (codes "false " ++ label_text names id) (codes " ") (plain_label id) refl) (plain_first p)

  plain_round : (r : RoundSeen) → is_one_line (round_line names r) ≡ true
  plain_round r =
      let a : is_one_line (codes "round " ++ cost_text r.weight) ≡ true = plain_cost r.weight in
      let b = plain_append (codes "round " ++ cost_text r.weight) (place_text names r.sub) a (plain_place r.sub) in
      let c = plain_append (codes "round " ++ cost_text r.weight ++ place_text names r.sub) (codes ":") b refl in
      let d = plain_append (codes "round " ++ cost_text r.weight ++ place_text names r.sub ++ codes ":") (flat_map (spaced_label names) r.chain) c (plain_map (spaced_label names) plain_spaced r.chain) in
      let e = plain_append (codes "round " ++ cost_text r.weight ++ place_text names r.sub ++ codes ":" ++ flat_map (spaced_label names) r.chain) (codes " -> ") d refl in
      plain_append (codes "round " ++ cost_text r.weight ++ place_text names r.sub ++ codes ":" ++ flat_map (spaced_label names) r.chain ++ codes " -> ") (end_text names r.end) e (plain_end r.end)

-- ---- lines
pub record IsLine (text : List ℕ) : Type 0 where
  pub line : List ℕ
  pub is : text ≡ line ++ 10 ∷ []
  pub one : is_one_line line ≡ true

module _ (names : NamesSeen) (lines : NamesAreOneLine names) where
  pub is_round : (r : RoundSeen) → IsLine (round_text names r)
  is_round r = record { line = round_line names r; is = refl; one = plain_round names lines r }

  plain_why : (w : Why) → is_one_line (exclusion_text w) ≡ true
  plain_why (why.Failed evidence) = plain_decimal (evidence_number evidence)
  plain_why (why.False p) = plain_first p
  plain_why (why.Stored k) = plain_decimal k

  pub is_excluded_line : (e : Excluded) → IsLine (excluded_text names e)
  is_excluded_line e = record {
    line = codes "excluded " ++ label_text names e.rule ++ codes " " ++ exclusion_text e.why ++ place_text names e.sub;
    is = refl;
    one =
        let a = plain_append (codes "excluded " ++ label_text names e.rule) (codes " ") (plain_label names lines e.rule) refl in
        let b = plain_append (codes "excluded " ++ label_text names e.rule ++ codes " ") (exclusion_text e.why) a (plain_why e.why) in
        plain_append (codes "excluded " ++ label_text names e.rule ++ codes " " ++ exclusion_text e.why) (place_text names e.sub) b (plain_place names lines e.sub);
  }

  plain_bar : (b : Bar) → is_one_line (bar_text b) ≡ true
  plain_bar (bar.Failed k) = plain_decimal k
  plain_bar (bar.False p) = plain_first p
  plain_bar bar.Disabled = refl
  plain_bar bar.NoClient = refl

  pub is_barred_line : (x : RuleId × Bar) → IsLine (barred_text names x)
  is_barred_line x = record {
    line = codes "barred " ++ label_text names x.0 ++ codes " " ++ bar_text x.1;
    is = refl;
    one = plain_append (codes "barred " ++ label_text names x.0 ++ codes " ") (bar_text x.1)
        (plain_append (codes "barred " ++ label_text names x.0) (codes " ") (plain_label names lines x.0) refl) (plain_bar x.1);
  }

  pub is_rule_line : (id : RuleId) → IsLine (rule_text names id)
  is_rule_line id = record {
    line = codes "rule " ++ label_text names id ++ codes " " ++ weight_text_of names id;
    is = refl;
    one = plain_append (codes "rule " ++ label_text names id ++ codes " ") (weight_text_of names id)
        (plain_append (codes "rule " ++ label_text names id) (codes " ") (plain_label names lines id) refl) (plain_weight_at names.rules id.0);
  }

  plain_evidence : (w : Why) → is_one_line (evidence_shown w) ≡ true
  plain_evidence (why.Failed evidence) =
      plain_append (codes "E" ++ decimal (evidence_number evidence) ++ codes " ") (evidence_text evidence)
      (plain_append (codes "E" ++ decimal (evidence_number evidence)) (codes " ") (plain_decimal (evidence_number evidence)) refl)
      (plain_json (evidence_json evidence))
  plain_evidence (why.False p) = plain_first p
  plain_evidence (why.Stored k) = plain_decimal k

  pub is_evidence_line : (e : Excluded) → IsLine (evidence_line names e)
  is_evidence_line e = record {
    line = codes "evidence " ++ label_text names e.rule ++ place_text names e.sub ++ codes " " ++ evidence_shown e.why;
    is = refl;
    one =
        let a = plain_append (codes "evidence " ++ label_text names e.rule) (place_text names e.sub) (plain_label names lines e.rule) (plain_place names lines e.sub) in
        let b = plain_append (codes "evidence " ++ label_text names e.rule ++ place_text names e.sub) (codes " ") a refl in
        plain_append (codes "evidence " ++ label_text names e.rule ++ place_text names e.sub ++ codes " ") (evidence_shown e.why) b (plain_evidence e.why);
  }

plain_zeros : (k : ℕ) → is_one_line (replicate k 48) ≡ true
plain_zeros zero = refl
plain_zeros (suc k) = plain_zeros k

plain_half : (n : ℕ) → is_one_line (half_text n) ≡ true
plain_half n = plain_append (replicate (16 - length (digits 16 false n)) 48) (digits 16 false n) (plain_zeros (16 - length (digits 16 false n))) (plain_digits 16 false n)

plain_set : (s : PropSet) → is_one_line (property_set_text s) ≡ true
plain_set s = plain_append (half_text (s / 2 ^ 64)) (half_text (s % 2 ^ 64)) (plain_half (s / 2 ^ 64)) (plain_half (s % 2 ^ 64))

pub is_row_line : (row : TableRow) → IsLine (table_row_text row)
is_row_line row = record {
  line = codes "row " ++ cost_text row.cost ++ codes " " ++ property_set_text row.set;
  is = refl;
  one = plain_append (codes "row " ++ cost_text row.cost ++ codes " ") (property_set_text row.set)
      (plain_append (codes "row " ++ cost_text row.cost) (codes " ") (plain_cost row.cost) refl) (plain_set row.set);
}

pub plain_origin : (o : Origin) → is_one_line (origin_text o) ≡ true
plain_origin origin.Given = refl
plain_origin origin.Stored = refl
plain_origin origin.Computed = refl

pub is_held_line : (of : ObjectType) (x : PropId × Origin) → IsLine (held_line of x)
is_held_line of x = record {
  line = name_shown of x.0 ++ codes " " ++ origin_text x.1;
  is = refl;
  one = plain_append (name_shown of x.0 ++ codes " ") (origin_text x.1) (plain_append (name_shown of x.0) (codes " ") (plain_shown of x.0) refl) (plain_origin x.1);
}

-- ---- lines of which none opens
pub later_map : {A : Type 0} (opens : List ℕ → Bool) (f : A → List ℕ) → ((x : A) → IsLine (f x)) → ((x : A) (rest : List ℕ) → opens (f x ++ rest) ≡ false) → (xs : List A) (tail : List ℕ) → Later opens tail
    → Later opens (flat_map f xs ++ tail)
later_map opens f h shut [] tail l = l
later_map opens f h shut (x ∷ xs) tail l =
    let one = h x in
    a_line one.line (flat_map f xs ++ tail)
    (append_assoc (f x) (flat_map f xs) tail ∙ ap (λ z. z ++ (flat_map f xs ++ tail)) one.is ∙ append_assoc one.line (10 ∷ []) (flat_map f xs ++ tail))
    one.one (ap opens (append_assoc (f x) (flat_map f xs) tail) ∙ shut x (flat_map f xs ++ tail)) (later_map opens f h shut xs tail l)

pub later_all : {A : Type 0} (opens : List ℕ → Bool) (f : A → List ℕ) → ((x : A) → IsLine (f x)) → ((x : A) (rest : List ℕ) → opens (f x ++ rest) ≡ false) → (xs : List A) → Later opens (flat_map f xs)
later_all opens f h shut xs = subst (Later opens) (append-nil (flat_map f xs)) (later_map opens f h shut xs [] (no_line refl))

pub later_if : (opens : List ℕ → Bool) (b : Bool) (t : List ℕ) → Later opens t → Later opens (if b then t else [])
later_if opens true t l = l
later_if opens false t l = no_line refl

-- a block from its text
pub block_of : (opens : List ℕ → Bool) (line rest : List ℕ) → is_one_line line ≡ true → opens (line ++ 10 ∷ [] ++ rest) ≡ true → Later opens rest → Block opens (line ++ 10 ∷ [] ++ rest)
block_of opens line rest one o l = record { line = line; rest = rest; whole = append_assoc line (10 ∷ []) rest; one = one; opening = o; later = l }

pub block_alone : (opens : List ℕ → Bool) (line : List ℕ) → is_one_line line ≡ true → opens (line ++ 10 ∷ []) ≡ true → Block opens (line ++ 10 ∷ [])
block_alone opens line one o = record { line = line; rest = []; whole = refl; one = one; opening = o; later = no_line refl }

pub block_refused : (opens : List ℕ → Bool) (trace : Bool) (text : List ℕ) (more : Remarks) → ((t : List ℕ) → opens (110 ∷ 111 ∷ 32 ∷ t) ≡ true) → is_one_line text ≡ true → Later opens (remarks_text trace more)
    → Block opens (codes "no " ++ text ++ codes "\n" ++ remarks_text trace more)
block_refused opens trace text more o one l = block_of opens (codes "no " ++ text) (remarks_text trace more) one (o (text ++ 10 ∷ [] ++ remarks_text trace more)) l
