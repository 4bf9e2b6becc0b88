-- The reasons for which rules are barred: they are plain text, and tell all rules in use that are barred.
use Rattle.std.proofs.Common.{◌≡◌, ◌∙◌, ℕ, zero, suc, ◌<◌, ◌||◌, ◌&&◌, Bool, true, false, IsTrue, Option, Some, None, List, [], ◌∷◌, ap, arith, decimal, eq-eqb, option_map, refl, subst, sym, Contains}
use Rattle.std.specs.Prelude.{codes, map, nat_eq, nat_le, if◌then◌else◌}
use Rattle.std.specs.List.{find}
use Rattle.std.specs.Option.{is_some}
use Rattle.std.proofs.lemmas.Bool.{and_from, eqb-true, false_from_ne_true, or_left, or_right}
use Rattle.std.proofs.lemmas.Bool.Decides.{nat_tests}
use Rattle.std.proofs.lemmas.List.Elements.{Contains-append_right}
use Rattle.std.proofs.lemmas.List.Folds.{list_all-append}
use Rattle.std.proofs.lemmas.Option.{slice_get_within}
use Rattle.pm_client.specs.Starts.{Clients, has_client}
use Rattle.pm_geom.specs.Evidence.{evidence_number}
use Rattle.pm_geom.specs.declared.evidence.Evidence.{Evidence}
use Rattle.pm_geom.specs.declared.evidence.Evidence.TheVariants.{E1, E2, E3, E4, E5Cells, E5Faces, E5Rays, E5Rows}
use Rattle.pm_object.specs.Formed.{IsFormed, is_numbered}
use Rattle.pm_object.specs.State.{State, is_disabled, read_at}
use Rattle.pm_object.specs.declared.held.Excluded.{Excluded}
use Rattle.pm_object.specs.declared.held.Why.{Why}
use Rattle.pm_object.specs.declared.held.Why.TheVariants as why
use Rattle.pm_props.proofs.Every.{all_properties}
use Rattle.pm_props.specs.Places.{same_place}
use Rattle.pm_props.specs.declared.kind.RuleId.{RuleId}
use Rattle.pm_props.specs.declared.property.PropId.{PropId}
use Rattle.pm_printed.specs.Printed.{IsBarred, is_plain}
use Rattle.pm_printed.proofs.Unread.{cost_is_plain}
use Rattle.pm_rounds.specs.Chains.{AreBarred, place_of_rule, table}
use Rattle.pm_rounds.specs.Reasons.{AreReasons, IsTold, excluded_as, first_reason, first_wrong, reason}
use Rattle.pm_rounds.proofs.BarredReasons.{barred_have_reasons}
use Rattle.pm_rules.specs.Rules.{IsInUse, is_barred, rule_at}
use Rattle.pm_rules.specs.declared.rule.Rule.{Rule}
use Rattle.pm_script.specs.Replies.{bar_text, failed_text, false_text}
use Rattle.pm_script.specs.declared.names.Bar.{Bar}
use Rattle.pm_script.specs.declared.names.Bar.TheVariants as bar
use Rattle.pm_laws_texts.proofs.OtherBars.{BarSame}

-- ---- truth values
both_false : (a b : Bool) → a ≡ false → b ≡ false → (a || b) ≡ false
both_false a b e f = ap (λ (x : Bool). x || b) e ∙ f

-- ---- plain text
evidence_small : (e : Evidence) → evidence_number e < 10
evidence_small (E1 e) = omega arith
evidence_small (E2 front first second column) = omega arith
evidence_small (E3 basis enter leave row column) = omega arith
evidence_small (E4 first second) = omega arith
evidence_small (E5Rays front rays) = omega arith
evidence_small (E5Rows rows) = omega arith
evidence_small (E5Faces faces) = omega arith
evidence_small (E5Cells front cells) = omega arith

pub record IsSmall (k : ℕ) : Type 0 where
  pub below : k < 10

abbrev pub IsSmallBar : Bar → Type 0
IsSmallBar (bar.Failed k) = IsSmall k
IsSmallBar (bar.False p) = Unit {0}
IsSmallBar bar.Disabled = Unit {0}
IsSmallBar bar.NoClient = Unit {0}

failed_is_plain : (k : ℕ) → k < 10 → is_plain (failed_text k) ≡ true
failed_is_plain k small =
    list_all-append (λ b. nat_le 32 b && nat_le b 126) (codes "failed E") (decimal k) ∙ and_from _ _ refl (cost_is_plain (record { class = 0; minor = k }) (record { class = omega arith; minor = omega arith }))

false_is_plain : (p : PropId) → is_plain (false_text p) ≡ true
false_is_plain p = all_properties (λ q. is_plain (false_text q)) refl p

pub why_is_plain : (w : Bar) → IsSmallBar w → is_plain (bar_text w) ≡ true
why_is_plain (bar.Failed k) small = failed_is_plain k small.below
why_is_plain (bar.False p) small = false_is_plain p
why_is_plain bar.Disabled small = refl
why_is_plain bar.NoClient small = refl

-- ---- the numbers of failures
abbrev IfNumbered : Option Why → Type 0
IfNumbered None = Unit {0}
IfNumbered (Some w) = IsTrue (is_numbered w)

few : (k : ℕ) → IsTrue (nat_le 1 k && nat_le k 5) → k < 10
few k h = grind (arith, nat_tests)

small_reason : (excluded : Option Why) (wrong : Option PropId) (disabled served : Bool) (w : Bar) → IfNumbered excluded → first_reason excluded wrong disabled served ≡ Some w → IsSmallBar w
small_reason (Some (why.Failed evidence)) wrong disabled served w numbered e = by w (let same : bar.Failed (evidence_number evidence) ≡ w = cc in same)
  where
    by : (x : Bar) → bar.Failed (evidence_number evidence) ≡ x → IsSmallBar x
    by x same = subst IsSmallBar same (record { below = evidence_small evidence })
small_reason (Some (why.Stored k)) wrong disabled served w numbered e = subst IsSmallBar (let same : bar.Failed k ≡ w = cc in same) (record { below = few k numbered })
small_reason (Some (why.False p)) (Some q) disabled served w numbered e = subst IsSmallBar (let same : bar.False q ≡ w = cc in same) tt
small_reason (Some (why.False p)) None disabled served w numbered e = subst IsSmallBar (let same : bar.False p ≡ w = cc in same) tt
small_reason None (Some q) disabled served w numbered e = subst IsSmallBar (let same : bar.False q ≡ w = cc in same) tt
small_reason None None true served w numbered e = subst IsSmallBar (let same : bar.Disabled ≡ w = cc in same) tt
small_reason None None false true w numbered e = cc
small_reason None None false false w numbered e = subst IsSmallBar (let same : bar.NoClient ≡ w = cc in same) tt

-- what is found is in the list
found_listed : (test : Excluded → Bool) (P : Excluded → Type 0) (xs : List Excluded) → ((x : Excluded) → Contains xs x → P x) → (e : Excluded) → find test xs ≡ Some e → P e
found_listed test P [] each e h = cc
found_listed test P (x ∷ xs) each e h = by (test x) refl (found_listed test P xs (λ y more. each y (Contains-append_right (x ∷ []) xs y more)) e) h
  where
    by : (b : Bool) → test x ≡ b → (find test xs ≡ Some e → P e) → (if b then Some x else find test xs) ≡ Some e → P e
    by true t inner same = subst P (let it : x ≡ e = cc in it) (each x (0, omega arith, refl))
    by false t inner same = inner same

excluded_numbered : (o : State) (id : RuleId) (place : Option ℕ) → IsFormed o → IfNumbered (excluded_as o.excluded id place)
excluded_numbered o id place formed =
    let test = λ (e : Excluded). nat_eq e.rule.0 id.0 && same_place e.sub place in
    by (find test o.excluded) (λ e h. found_listed test (λ (x : Excluded). IsTrue (is_numbered x.why)) o.excluded formed.numbered e h)
  where
    by : (x : Option Excluded) → ((e : Excluded) → x ≡ Some e → IsTrue (is_numbered e.why)) → IfNumbered (option_map (λ (e : Excluded). e.why) x)
    by None each = tt
    by (Some e) each = each e refl

-- ---- what is told
same_id : (a b : RuleId) → a.0 ≡ b.0 → a ≡ b
same_id a b e = ap (λ (n : ℕ). record { 0 = n }) e

-- a list has the number of a rule that it tells
any_here : (told : List (RuleId × Bar)) (id : RuleId) → (x : RuleId × Bar) × Contains told x × (x.0 ≡ id) → is_barred (map (λ x. x.0) told) id ≡ true
any_here [] id (x, here, same) = absurd (omega (arith, here.1))
any_here (y ∷ told) id (x, (zero, within, e), same) = or_left (nat_eq y.0.0 id.0) _ (eq-eqb y.0.0 id.0 (ap (λ (z : RuleId × Bar). z.0.0) e ∙ ap (λ (i : RuleId). i.0) same))
any_here (y ∷ told) id (x, (suc k, within, e), same) = or_right (nat_eq y.0.0 id.0) _ (any_here told id (x, (k, omega arith, e), same))

-- and that of no other
any_nowhere : (told : List (RuleId × Bar)) (id : RuleId) → ((x : RuleId × Bar) → Contains told x → x.0 ≡ id → ⊥) → is_barred (map (λ x. x.0) told) id ≡ false
any_nowhere [] id none = refl
any_nowhere (y ∷ told) id none =
    both_false (nat_eq y.0.0 id.0) _ (false_from_ne_true (nat_eq y.0.0 id.0) (λ t. none y (0, omega arith, refl) (same_id y.0 id (eqb-true y.0.0 id.0 t))))
    (any_nowhere told id (λ x here same. none x (Contains-append_right (y ∷ []) told x here) same))

module _ (book : List Rule) (clients : Clients) (o : State) (sub : Option ℕ) (formed : IsFormed o) (told : List (RuleId × Bar)) (are : AreReasons book clients o sub told) where
  told_is : (x : RuleId × Bar) → Contains told x → IsTold book clients o sub x.0 x.1
  told_is x here = (are.each x.0 x.1).0 here

  pub barred_may : (x : RuleId × Bar) → Contains told x → IsBarred book (x.0, bar_text x.1)
  barred_may x here =
      let is = told_is x here in
      record {
        rule = slice_get_within book x.0.0 is.rule is.is_rule;
        why = why_is_plain x.1 (small_reason (excluded_as o.excluded x.0 (place_of_rule sub is.rule)) (first_wrong is.rule (read_at sub o.held)) (is_disabled is.rule.label o.disabled) (has_client is.rule.kind clients) x.1
            (excluded_numbered o x.0 (place_of_rule sub is.rule) formed) is.is_reason);
      }

  -- the told rules in use are those that are barred
  some_told : (id : RuleId) (rule : Rule) → rule_at book id ≡ Some rule → IsInUse (table sub o.of) rule → is_barred (map (λ x. x.0) told) id ≡ is_some (reason clients o sub id rule)
  some_told id rule at in_use = by (reason clients o sub id rule) refl
    where
      by : (r : Option Bar) → reason clients o sub id rule ≡ r → is_barred (map (λ x. x.0) told) id ≡ is_some r
      by (Some w) e = any_here told id ((id, w), (are.each id w).1 (record { rule = rule; is_rule = at; in_use = in_use; is_reason = e }), refl)
      by None e = any_nowhere told id (λ x here same.
          let is = told_is x here in
          let there : rule_at book x.0 ≡ Some rule = subst (λ (i : RuleId). rule_at book i ≡ Some rule) (sym same) at in
          let rules : is.rule ≡ rule = (let first = is.is_rule in cc) in
          let reasons : reason clients o sub id rule ≡ Some x.1 = subst (λ (i : RuleId). reason clients o sub i rule ≡ Some x.1) same (subst (λ (r : Rule). reason clients o sub x.0 r ≡ Some x.1) rules is.is_reason) in
          cc)

  pub told_bar_same : (barred : List RuleId) (ids : List RuleId) → AreBarred book clients o sub barred → ids ≡ map (λ x. x.0) told → BarSame book (table sub o.of) barred ids
  told_bar_same barred ids bars e = record {
    each = λ id rule at in_use.
        bars.each id rule at ∙ sym (barred_have_reasons clients o sub id rule) ∙ sym (some_told id rule at in_use) ∙ sym (ap (λ (l : List RuleId). is_barred l id) e);
  }
