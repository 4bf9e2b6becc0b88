-- What was read is printed of a table, or the next line is the first that is not read.
use Rattle.std.proofs.Common.{◌≡◌, ℕ, zero, suc, ◌+◌, ◌<◌, ◌≤◌, Bool, true, false, true≢false, eqb, List, [], ◌∷◌, ◌++◌, length, refl, sym, ap, ◌∙◌, subst, arith, append_assoc, append-nil}
use Rattle.std.specs.Prelude.{All, codes, flat_map}
use Rattle.pm_props.specs.declared.kind.RuleId.{RuleId}
use Rattle.pm_weights.specs.declared.Cost.{Cost}
use Rattle.pm_rules.specs.declared.rule.Rule.{Rule}
use Rattle.pm_rules.specs.declared.table.TableRow.{TableRow}
use Rattle.pm_printed.specs.Cuts.{Lacks}
use Rattle.pm_printed.specs.Printed.{BeginsNone, IsBarred, IsCost, IsOfBook, IsPlanText, IsRefusalText, IsRow, IsUnread}
use Rattle.pm_printed.specs.Printed.IsUnread.{head, plan, refusal}
use Rattle.pm_printed.specs.Readings.{ReadsAll}
use Rattle.pm_printed.specs.Texts.{barred_text, head_line, head_text, plan_text, refusal_text, refused_line, refused_text, row_text, rule_text}
use Rattle.pm_printed.proofs.Lines.{line_with_end, none_by_line, none_without_line}
use Rattle.pm_printed.proofs.Plain.{plain_lacks_end}
use Rattle.pm_printed.proofs.Unread.{head_is_plain}
use Rattle.pm_printed.proofs.Values.{cut_same, no_cut}

pub not_empty : (b : Bool) (n : ℕ) → b ≡ eqb n 0 → b ≡ false → 0 < n
not_empty b zero e off = absurd (let same : true ≡ false = sym e ∙ off in true≢false same)
not_empty b (suc n) e off = omega arith

-- where no row was read, what is behind the rules is what is behind the rows
behind_none : {X : Type 0} (Is : X → Type 0) (line : X → List ℕ) (behind rest : List ℕ) (rows : List TableRow) → BeginsNone Is line behind → behind ≡ flat_map row_text rows ++ rest → rows ≡ [] → BeginsNone Is line rest
behind_none Is line behind rest rows none e absent =
    let same : behind ≡ rest = e ∙ ap (λ rs. flat_map row_text rs ++ rest) absent in
    subst (λ t. BeginsNone Is line t) same none

module _ (book : List Rule) where
  whole_plan : (weight : Cost) (chain : List RuleId) (rows : List TableRow) (text behind rest : List ℕ) → ReadsAll (IsOfBook book) (rule_text book) text chain behind
      → ReadsAll IsRow row_text behind rows rest → head_text weight ++ text ≡ plan_text book weight chain rows ++ rest
  whole_plan weight chain rows text behind rest first second =
      ap (λ t. head_text weight ++ t) (first.whole ∙ ap (λ t. flat_map (rule_text book) chain ++ t) second.whole)
      ∙ sym (append_assoc (head_text weight) (flat_map (rule_text book) chain) (flat_map row_text rows ++ rest))
      ∙ sym (append_assoc (head_text weight ++ flat_map (rule_text book) chain) (flat_map row_text rows) rest)

  pub plan_read : (weight : Cost) (chain : List RuleId) (rows : List TableRow) (text behind rest : List ℕ) → IsCost weight → ReadsAll (IsOfBook book) (rule_text book) text chain behind
      → ReadsAll IsRow row_text behind rows rest → rest ≡ [] → IsPlanText book (head_text weight ++ text) weight chain rows
  plan_read weight chain rows text behind rest is first second none = (
    record { cost = is; rules = first.each; table = second.each },
    whole_plan weight chain rows text behind rest first second ∙ ap (λ t. plan_text book weight chain rows ++ t) none ∙ append-nil (plan_text book weight chain rows),
  )

  pub plan_unread : (weight : Cost) (chain : List RuleId) (rows : List TableRow) (text behind rest : List ℕ) → IsCost weight → ReadsAll (IsOfBook book) (rule_text book) text chain behind
      → ReadsAll IsRow row_text behind rows rest → 0 < length rest → IsUnread book (head_text weight ++ text) (2 + length chain + length rows)
  plan_unread weight chain rows text behind rest is first second some =
      plan weight chain rows rest refl (record { cost = is; rules = first.each; table = second.each }) (whole_plan weight chain rows text behind rest first second) some
      second.no_more (behind_none (IsOfBook book) (rule_text book) behind rest rows first.no_more second.whole)

  whole_refusal : (told : List (RuleId × List ℕ)) (rows : List TableRow) (text behind rest : List ℕ) → ReadsAll (IsBarred book) (barred_text book) text told behind
      → ReadsAll IsRow row_text behind rows rest → refused_text ++ text ≡ refusal_text book told rows ++ rest
  whole_refusal told rows text behind rest first second =
      ap (λ t. refused_text ++ t) (first.whole ∙ ap (λ t. flat_map (barred_text book) told ++ t) second.whole)
      ∙ sym (append_assoc refused_text (flat_map (barred_text book) told) (flat_map row_text rows ++ rest))
      ∙ sym (append_assoc (refused_text ++ flat_map (barred_text book) told) (flat_map row_text rows) rest)

  pub refusal_read : (told : List (RuleId × List ℕ)) (rows : List TableRow) (text behind rest : List ℕ) → ReadsAll (IsBarred book) (barred_text book) text told behind
      → ReadsAll IsRow row_text behind rows rest → rest ≡ [] → IsRefusalText book (refused_text ++ text) told rows
  refusal_read told rows text behind rest first second none = (
    record { rules = first.each; table = second.each },
    whole_refusal told rows text behind rest first second ∙ ap (λ t. refusal_text book told rows ++ t) none ∙ append-nil (refusal_text book told rows),
  )

  pub refusal_unread : (told : List (RuleId × List ℕ)) (rows : List TableRow) (text behind rest : List ℕ) → ReadsAll (IsBarred book) (barred_text book) text told behind
      → ReadsAll IsRow row_text behind rows rest → 0 < length rest → IsUnread book (refused_text ++ text) (2 + length told + length rows)
  refusal_unread told rows text behind rest first second some =
      refusal told rows rest refl (record { rules = first.each; table = second.each }) (whole_refusal told rows text behind rest first second) some
      second.no_more (behind_none (IsBarred book) (barred_text book) behind rest rows first.no_more second.whole)

  head_lacks : (c : Cost) → IsCost c → Lacks 10 (head_line c)
  head_lacks c is = plain_lacks_end (head_line c) (head_is_plain c is)

  -- there is no line
  pub unread_without_line : (text : List ℕ) → Lacks 10 text → IsUnread book text 1
  unread_without_line text lacks = head refl (none_without_line IsCost head_line text lacks) (λ rest e. no_cut 10 text refused_line rest lacks (e ∙ append_assoc refused_line (10 ∷ []) rest))

  -- the first line is no head
  pub unread_head : (text line behind : List ℕ) → Lacks 10 line → text ≡ line ++ 10 ∷ behind → ((c : Cost) → IsCost c → line ≡ head_line c → ⊥) → (line ≡ refused_line → ⊥) → IsUnread book text 1
  unread_head text line behind lacks e none other = head refl (none_by_line IsCost head_line text line behind head_lacks lacks e none)
      (λ rest at. other (cut_same 10 line behind refused_line rest lacks (plain_lacks_end refused_line refl) (sym e ∙ at ∙ append_assoc refused_line (10 ∷ []) rest)).0)

pub head_with_end : (text line behind : List ℕ) (c : Cost) → text ≡ line ++ 10 ∷ behind → line ≡ head_line c → text ≡ head_text c ++ behind
head_with_end text line behind c e at = line_with_end text line behind (head_line c) e at

pub refused_with_end : (text line behind : List ℕ) → text ≡ line ++ 10 ∷ behind → line ≡ refused_line → text ≡ refused_text ++ behind
refused_with_end text line behind e at = line_with_end text line behind refused_line e at
