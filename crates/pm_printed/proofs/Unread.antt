-- A table is printed in one way, and what is printed is not unread.
use Rattle.std.proofs.Common.{◌≡◌, ◌≢◌, ℕ, zero, suc, ◌+◌, ◌<◌, ◌≤◌, ◌^◌, Bool, true, false, ◌&&◌, IsTrue, Some, List, [], ◌∷◌, ◌++◌, length, get_or, eqb, leb, ltb, refl, sym, ap, ap₂, ◌∙◌, subst, arith, append_assoc, append-nil, length-append, inl, inr}
use Rattle.std.specs.Prelude.{All, codes, flat_map, slice_get, slice_index}
use Rattle.std.specs.List.{list_all}
use Rattle.std.proofs.lemmas.Bool.{and_from, and_parts, le-leb, leb-true, ltb-true, ne_eqb}
use Rattle.std.proofs.lemmas.Option.{slice_get-get_or}
use Rattle.std.proofs.lemmas.List.Elements.{All-head}
use Rattle.pm_limits.specs.Limits.{most_weight}
use Rattle.pm_props.specs.declared.kind.RuleId.{RuleId}
use Rattle.pm_props.specs.declared.set.PropSet.{PropSet}
use Rattle.pm_props.specs.Properties.{count}
use Rattle.pm_weights.specs.declared.Cost.{Cost}
use Rattle.pm_weights.specs.Weights.{cost_text, weight_text}
use Rattle.pm_rules.specs.declared.rule.Rule.{Rule}
use Rattle.pm_rules.specs.declared.table.TableRow.{TableRow}
use Rattle.pm_rules.specs.Books.{IsBook, IsRule}
use Rattle.pm_rules.specs.Rules.{rule_at}
use Rattle.pm_rules.specs.Words.{is_word, is_word_byte}
use Rattle.pm_rules.proofs.Labels.{label_is_word}
use Rattle.pm_printed.specs.Cuts.{Lacks}
use Rattle.pm_printed.specs.Printed.{BeginsNone, IsBarred, IsCost, IsOfBook, IsPlan, IsPlanText, IsPrinted, IsRefusal, IsRefusalText, IsRow, IsUnread, is_plain}
use Rattle.pm_printed.specs.Printed.IsUnread.{head, plan, refusal}
use Rattle.pm_printed.specs.Texts.{barred_line, barred_text, head_line, head_text, label_in, plan_text, refusal_text, refused_text, row_line, row_text, rule_line, rule_text, set_text, weight_in}
use Rattle.pm_printed.proofs.Lines.{IsPrefixCode, code_of_lines, reads_same}
use Rattle.pm_printed.proofs.Plain.{all_join, cost_pass, lacks_what_fails, plain_lacks_end, set_pass, word_pass}
use Rattle.pm_printed.proofs.Values.{cost_text_injective, cut_same, set_text_injective}

-- ---- bytes of the parts
abbrev plain_byte : ℕ → Bool
plain_byte b = leb 32 b && leb b 126

abbrev no_space : ℕ → Bool
no_space b = leb 33 b

plain_at : (c : ℕ) → 32 ≤ c → c ≤ 126 → plain_byte c ≡ true
plain_at c low high = and_from (leb 32 c) (leb c 126) (le-leb 32 c low) (le-leb c 126 high)

solid_at : (c : ℕ) → 33 ≤ c → no_space c ≡ true
solid_at c low = le-leb 33 c low

small : (s : ℕ) → s < 2 ^ count → s < 2 ^ 64
small s h = omega arith

pub cost_lacks_space : (c : Cost) → IsCost c → Lacks 32 (cost_text c)
cost_lacks_space c is = lacks_what_fails no_space 32 (cost_text c) refl (cost_pass no_space (λ b low high. solid_at b (omega arith)) refl c is)

pub cost_is_plain : (c : Cost) → IsCost c → is_plain (cost_text c) ≡ true
cost_is_plain c is = cost_pass plain_byte (λ b low high. plain_at b (omega arith) (omega arith)) refl c is

set_is_plain : (s : ℕ) → s < 2 ^ count → is_plain (set_text s) ≡ true
set_is_plain s h = set_pass plain_byte (λ b low high. plain_at b (omega arith) (omega arith)) s (small s h)

-- ---- heads
pub head_is_plain : (c : Cost) → IsCost c → is_plain (head_line c) ≡ true
head_is_plain c is = all_join plain_byte (codes "plan ") (cost_text c) refl (cost_is_plain c is)

pub head_injective : (c d : Cost) → IsCost c → IsCost d → head_line c ≡ head_line d → c ≡ d
head_injective c d is js e = cost_text_injective c d is js (let same : cost_text c ≡ cost_text d = cc in same)

pub head_code : IsPrefixCode IsCost head_text
head_code = code_of_lines IsCost head_line (λ c is. plain_lacks_end (head_line c) (head_is_plain c is)) head_injective

-- ---- rows
pub row_parts : (row : TableRow) → row_line row ≡ codes "row" ++ 32 ∷ (cost_text row.cost ++ 32 ∷ set_text row.set)
row_parts row = append_assoc (codes "row " ++ cost_text row.cost) (32 ∷ []) (set_text row.set)

pub row_is_plain : (row : TableRow) → IsRow row → is_plain (row_line row) ≡ true
row_is_plain row is =
    all_join plain_byte (codes "row " ++ cost_text row.cost ++ codes " ") (set_text row.set)
    (all_join plain_byte (codes "row " ++ cost_text row.cost) (codes " ") (all_join plain_byte (codes "row ") (cost_text row.cost) refl (cost_is_plain row.cost is.cost)) refl)
    (set_is_plain row.set is.set)

made_row : (row other : TableRow) → row.set ≡ other.set → row.cost ≡ other.cost → row ≡ other
made_row row other s c = ap₂ (λ (a : PropSet) (b : Cost). let r : TableRow = record { set = a; cost = b } in r) s c

pub row_injective : (row other : TableRow) → IsRow row → IsRow other → row_line row ≡ row_line other → row ≡ other
row_injective row other is js e =
    let e₁ : codes "row" ++ 32 ∷ (cost_text row.cost ++ 32 ∷ set_text row.set) ≡ codes "row" ++ 32 ∷ (cost_text other.cost ++ 32 ∷ set_text other.set) = sym (row_parts row) ∙ e ∙ row_parts other in
    let e₂ : cost_text row.cost ++ 32 ∷ set_text row.set ≡ cost_text other.cost ++ 32 ∷ set_text other.set = cc in
    let same = cut_same 32 (cost_text row.cost) (set_text row.set) (cost_text other.cost) (set_text other.set) (cost_lacks_space row.cost is.cost) (cost_lacks_space other.cost js.cost) e₂ in
    made_row row other (set_text_injective row.set other.set (small row.set is.set) (small other.set js.set) same.1) (cost_text_injective row.cost other.cost is.cost js.cost same.0)

pub row_lacks_end : (row : TableRow) → IsRow row → Lacks 10 (row_line row)
row_lacks_end row is = plain_lacks_end (row_line row) (row_is_plain row is)

pub row_code : IsPrefixCode IsRow row_text
row_code = code_of_lines IsRow row_line row_lacks_end row_injective

-- ---- rules of a book
module _ (book : List Rule) (is : IsBook book) where
  pub rule_there : (id : RuleId) → IsOfBook book id → (rule : Rule) × (rule_at book id ≡ Some rule) × IsRule rule
  rule_there id h =
      let d : Rule = first_of book id h in
      let at : rule_at book id ≡ Some (get_or book id.0 d) = slice_get-get_or book id.0 d h in
      (get_or book id.0 d, at, is.each id.0 d h)
    where
      first_of : (rules : List Rule) (i : RuleId) → i.0 < length rules → Rule
      first_of [] i l = absurd (omega arith)
      first_of (r ∷ rs) i l = r

  label_of : RuleId → List ℕ
  label_of id = label_in (rule_at book id)

  pub label_word : (id : RuleId) → IsOfBook book id → is_word (label_in (rule_at book id)) ≡ true
  label_word id h = let there = rule_there id h in rw there.1 (label_is_word there.0.label there.2.label)

  pub label_lacks_space : (id : RuleId) → IsOfBook book id → Lacks 32 (label_in (rule_at book id))
  label_lacks_space id h = lacks_what_fails no_space 32 (label_in (rule_at book id)) refl (word_pass no_space (λ b low high. solid_at b (omega arith)) (label_in (rule_at book id)) (label_word id h))

  label_is_plain : (id : RuleId) → IsOfBook book id → is_plain (label_in (rule_at book id)) ≡ true
  label_is_plain id h = word_pass plain_byte (λ b low high. plain_at b (omega arith) (omega arith)) (label_in (rule_at book id)) (label_word id h)

  weight_is_plain : (id : RuleId) → IsOfBook book id → is_plain (weight_in (rule_at book id)) ≡ true
  weight_is_plain id h =
      let there = rule_there id h in
      let w = there.0.weight in
      let cost : Cost = record { class = w.class; minor = w.minor } in
      let fits : IsCost cost = record { class = (let low = there.2.weight.class in omega arith); minor = (let low = there.2.weight.minor in omega arith) } in
      rw there.1 (cost_is_plain cost fits)

  -- no two rules have one label
  pub label_injective : (id other : RuleId) (rule rule₂ : Rule) → rule_at book id ≡ Some rule → rule_at book other ≡ Some rule₂ → IsOfBook book id → IsOfBook book other → rule.label ≡ rule₂.label → id ≡ other
  label_injective id other rule rule₂ at at₂ h k e = numbered (same_place id.0 other.0 rule rule₂ at at₂ h k e)
    where
      numbered : id.0 ≡ other.0 → id ≡ other
      numbered n = ap (λ (i : ℕ). let r : RuleId = record { 0 = i } in r) n

      some_same : {X : Type 0} (x y : X) → Some x ≡ Some y → x ≡ y
      some_same x y p = cc

      same_place : (i j : ℕ) (a b : Rule) → slice_get book i ≡ Some a → slice_get book j ≡ Some b → i < length book → j < length book → a.label ≡ b.label → i ≡ j
      same_place i j a b p q l m same =
          let a_is : get_or book i a ≡ a = some_same (get_or book i a) a (sym (slice_get-get_or book i a l) ∙ p) in
          let b_is : get_or book j b ≡ b = some_same (get_or book j b) b (sym (slice_get-get_or book j b m) ∙ q) in
          let a_at : get_or book i b ≡ a = some_same (get_or book i b) a (sym (slice_get-get_or book i b l) ∙ p) in
          let b_at : get_or book j a ≡ b = some_same (get_or book j a) b (sym (slice_get-get_or book j a m) ∙ q) in
          let below : i < j → ⊥ = λ less. is.labels i j b less m (ap (λ (r : Rule). r.label) a_at ∙ same ∙ sym (ap (λ (r : Rule). r.label) b_is)) in
          let above : j < i → ⊥ = λ less. is.labels j i a less l (ap (λ (r : Rule). r.label) b_at ∙ sym same ∙ sym (ap (λ (r : Rule). r.label) a_is)) in
          omega arith

  pub same_label : (id other : RuleId) → IsOfBook book id → IsOfBook book other → label_in (rule_at book id) ≡ label_in (rule_at book other) → id ≡ other
  same_label id other h k e =
      let there = rule_there id h in
      let there₂ = rule_there other k in
      let labels : there.0.label ≡ there₂.0.label = sym (ap label_in there.1) ∙ e ∙ ap label_in there₂.1 in
      label_injective id other there.0 there₂.0 there.1 there₂.1 h k labels

  pub rule_parts : (id : RuleId) → rule_line book id ≡ codes "rule" ++ 32 ∷ (label_in (rule_at book id) ++ 32 ∷ weight_in (rule_at book id))
  rule_parts id = append_assoc (codes "rule " ++ label_in (rule_at book id)) (32 ∷ []) (weight_in (rule_at book id))

  pub rule_is_plain : (id : RuleId) → IsOfBook book id → is_plain (rule_line book id) ≡ true
  rule_is_plain id h =
      let label = label_in (rule_at book id) in
      all_join plain_byte (codes "rule " ++ label ++ codes " ") (weight_in (rule_at book id))
      (all_join plain_byte (codes "rule " ++ label) (codes " ") (all_join plain_byte (codes "rule ") label refl (label_is_plain id h)) refl) (weight_is_plain id h)

  pub rule_injective : (id other : RuleId) → IsOfBook book id → IsOfBook book other → rule_line book id ≡ rule_line book other → id ≡ other
  rule_injective id other h k e =
      let a = label_in (rule_at book id) in
      let b = label_in (rule_at book other) in
      let e₁ : codes "rule" ++ 32 ∷ (a ++ 32 ∷ weight_in (rule_at book id)) ≡ codes "rule" ++ 32 ∷ (b ++ 32 ∷ weight_in (rule_at book other)) = sym (rule_parts id) ∙ e ∙ rule_parts other in
      let e₂ : a ++ 32 ∷ weight_in (rule_at book id) ≡ b ++ 32 ∷ weight_in (rule_at book other) = cc in
      same_label id other h k (cut_same 32 a (weight_in (rule_at book id)) b (weight_in (rule_at book other)) (label_lacks_space id h) (label_lacks_space other k) e₂).0

  pub rule_lacks_end : (id : RuleId) → IsOfBook book id → Lacks 10 (rule_line book id)
  rule_lacks_end id h = plain_lacks_end (rule_line book id) (rule_is_plain id h)

  pub rule_code : IsPrefixCode (IsOfBook book) (rule_text book)
  rule_code = code_of_lines (IsOfBook book) (rule_line book) rule_lacks_end rule_injective

  -- ---- barred rules
  pub barred_parts : (x : RuleId × List ℕ) → barred_line book x ≡ codes "barred" ++ 32 ∷ (label_in (rule_at book x.0) ++ 32 ∷ x.1)
  barred_parts x = append_assoc (codes "barred " ++ label_in (rule_at book x.0)) (32 ∷ []) x.1

  pub barred_is_plain : (x : RuleId × List ℕ) → IsBarred book x → is_plain (barred_line book x) ≡ true
  barred_is_plain x h =
      let label = label_in (rule_at book x.0) in
      all_join plain_byte (codes "barred " ++ label ++ codes " ") x.1
      (all_join plain_byte (codes "barred " ++ label) (codes " ") (all_join plain_byte (codes "barred ") label refl (label_is_plain x.0 h.rule)) refl) h.why

  pub barred_injective : (x y : RuleId × List ℕ) → IsBarred book x → IsBarred book y → barred_line book x ≡ barred_line book y → x ≡ y
  barred_injective x y h k e =
      let a = label_in (rule_at book x.0) in
      let b = label_in (rule_at book y.0) in
      let e₁ : codes "barred" ++ 32 ∷ (a ++ 32 ∷ x.1) ≡ codes "barred" ++ 32 ∷ (b ++ 32 ∷ y.1) = sym (barred_parts x) ∙ e ∙ barred_parts y in
      let e₂ : a ++ 32 ∷ x.1 ≡ b ++ 32 ∷ y.1 = cc in
      let same = cut_same 32 a x.1 b y.1 (label_lacks_space x.0 h.rule) (label_lacks_space y.0 k.rule) e₂ in
      let rules : x.0 ≡ y.0 = same_label x.0 y.0 h.rule k.rule same.0 in
      let whys : x.1 ≡ y.1 = same.1 in
      ap₂ (λ (a : RuleId) (b : List ℕ). let p : RuleId × List ℕ = (a, b) in p) rules whys

  pub barred_lacks_end : (x : RuleId × List ℕ) → IsBarred book x → Lacks 10 (barred_line book x)
  barred_lacks_end x h = plain_lacks_end (barred_line book x) (barred_is_plain x h)

  pub barred_code : IsPrefixCode (IsBarred book) (barred_text book)
  barred_code = code_of_lines (IsBarred book) (barred_line book) barred_lacks_end barred_injective

-- ---- tables
differ : (a b : ℕ) → ltb a b ≡ true → a ≡ b → ⊥
differ a b below e = omega (arith, ltb-true a b below)

-- a row is no rule and no barred rule
nothing_begins : {X : Type 0} (Is : X → Type 0) (line : X → List ℕ) → ((x : X) → 0 < length (line x)) → BeginsNone Is line []
nothing_begins Is line some = λ x rest is e. omega (arith, some x, ap length e, length-append (line x) rest)

row_some : (row : TableRow) → 0 < length (row_text row)
row_some row = omega arith

rule_some : (book : List Rule) (id : RuleId) → 0 < length (rule_text book id)
rule_some book id = omega arith

barred_some : (book : List Rule) (x : RuleId × List ℕ) → 0 < length (barred_text book x)
barred_some book x = omega arith

rows_no_rule : (book : List Rule) (rows : List TableRow) (rest : List ℕ) → (rows ≡ [] → BeginsNone (IsOfBook book) (rule_text book) rest)
    → BeginsNone (IsOfBook book) (rule_text book) (flat_map row_text rows ++ rest)
rows_no_rule book [] rest h = h refl
rows_no_rule book (row ∷ rows) rest h = λ id more is e. differ 111 117 refl (ap (λ (l : List ℕ). get_or l 1 0) e)

rows_no_barred : (book : List Rule) (rows : List TableRow) (rest : List ℕ) → (rows ≡ [] → BeginsNone (IsBarred book) (barred_text book) rest)
    → BeginsNone (IsBarred book) (barred_text book) (flat_map row_text rows ++ rest)
rows_no_barred book [] rest h = h refl
rows_no_barred book (row ∷ rows) rest h = λ x more is e. differ 98 114 refl (sym (ap (λ (l : List ℕ). get_or l 0 0) e))

-- what is behind a table: no row, and no rule where no row came
pub record EndsPlan (book : List Rule) (rows : List TableRow) (rest : List ℕ) : Type 0 where
  pub no_row : BeginsNone IsRow row_text rest
  pub no_rule : rows ≡ [] → BeginsNone (IsOfBook book) (rule_text book) rest

pub record EndsRefusal (book : List Rule) (rows : List TableRow) (rest : List ℕ) : Type 0 where
  pub no_row : BeginsNone IsRow row_text rest
  pub no_barred : rows ≡ [] → BeginsNone (IsBarred book) (barred_text book) rest

pub plan_ends : (book : List Rule) (rows : List TableRow) → EndsPlan book rows []
plan_ends book rows = record { no_row = nothing_begins IsRow row_text row_some; no_rule = λ e. nothing_begins (IsOfBook book) (rule_text book) (rule_some book) }

pub refusal_ends : (book : List Rule) (rows : List TableRow) → EndsRefusal book rows []
refusal_ends book rows = record { no_row = nothing_begins IsRow row_text row_some; no_barred = λ e. nothing_begins (IsBarred book) (barred_text book) (barred_some book) }

pub record SamePlan (weight w : Cost) (chain c : List RuleId) (rows r : List TableRow) (rest s : List ℕ) : Type 0 where
  pub weights : weight ≡ w
  pub chains : chain ≡ c
  pub tables : rows ≡ r
  pub rests : rest ≡ s

pub plan_same : (book : List Rule) → IsBook book → (weight w : Cost) (chain c : List RuleId) (rows r : List TableRow) (rest s : List ℕ) → IsPlan book weight chain rows → IsPlan book w c r
    → EndsPlan book rows rest → EndsPlan book r s → plan_text book weight chain rows ++ rest ≡ plan_text book w c r ++ s → SamePlan weight w chain c rows r rest s
plan_same book is weight w chain c rows r rest s h k end end₂ e =
    let assoc : (v : Cost) (ids : List RuleId) (table : List TableRow) (more : List ℕ)
    → plan_text book v ids table ++ more ≡ head_text v ++ (flat_map (rule_text book) ids ++ (flat_map row_text table ++ more)) =
    λ v ids table more. append_assoc (head_text v ++ flat_map (rule_text book) ids) (flat_map row_text table) more
    ∙ append_assoc (head_text v) (flat_map (rule_text book) ids) (flat_map row_text table ++ more) in
    let heads = head_code weight w (flat_map (rule_text book) chain ++ (flat_map row_text rows ++ rest)) (flat_map (rule_text book) c ++ (flat_map row_text r ++ s)) h.cost k.cost
    (sym (assoc weight chain rows rest) ∙ e ∙ assoc w c r s) in
    let rules = reads_same (IsOfBook book) (rule_text book) (rule_code book is) chain c (flat_map row_text rows ++ rest) (flat_map row_text r ++ s) h.rules k.rules heads.1
    (rows_no_rule book rows rest end.no_rule) (rows_no_rule book r s end₂.no_rule) in
    let tables = reads_same IsRow row_text row_code rows r rest s h.table k.table rules.1 end.no_row end₂.no_row in
    record { weights = heads.0; chains = rules.0; tables = tables.0; rests = tables.1 }

pub record SameRefusal (told t : List (RuleId × List ℕ)) (rows r : List TableRow) (rest s : List ℕ) : Type 0 where
  pub barred : told ≡ t
  pub tables : rows ≡ r
  pub rests : rest ≡ s

same_front : (front xs ys : List ℕ) → front ++ xs ≡ front ++ ys → xs ≡ ys
same_front [] xs ys e = e
same_front (b ∷ front) xs ys e = same_front front xs ys (let rest : front ++ xs ≡ front ++ ys = cc in rest)

pub refusal_same : (book : List Rule) → IsBook book → (told t : List (RuleId × List ℕ)) (rows r : List TableRow) (rest s : List ℕ) → IsRefusal book told rows → IsRefusal book t r
    → EndsRefusal book rows rest → EndsRefusal book r s → refusal_text book told rows ++ rest ≡ refusal_text book t r ++ s → SameRefusal told t rows r rest s
refusal_same book is told t rows r rest s h k end end₂ e =
    let assoc : (ids : List (RuleId × List ℕ)) (table : List TableRow) (more : List ℕ)
    → refusal_text book ids table ++ more ≡ refused_text ++ (flat_map (barred_text book) ids ++ (flat_map row_text table ++ more)) =
    λ ids table more. append_assoc (refused_text ++ flat_map (barred_text book) ids) (flat_map row_text table) more
    ∙ append_assoc refused_text (flat_map (barred_text book) ids) (flat_map row_text table ++ more) in
    let bodies = same_front refused_text (flat_map (barred_text book) told ++ (flat_map row_text rows ++ rest)) (flat_map (barred_text book) t ++ (flat_map row_text r ++ s))
    (sym (assoc told rows rest) ∙ e ∙ assoc t r s) in
    let barred = reads_same (IsBarred book) (barred_text book) (barred_code book is) told t (flat_map row_text rows ++ rest) (flat_map row_text r ++ s) h.rules k.rules bodies
    (rows_no_barred book rows rest end.no_barred) (rows_no_barred book r s end₂.no_barred) in
    let tables = reads_same IsRow row_text row_code rows r rest s h.table k.table barred.1 end.no_row end₂.no_row in
    record { barred = barred.0; tables = tables.0; rests = tables.1 }

pub plan_no_refusal : (book : List Rule) (w : Cost) (c : List RuleId) (r : List TableRow) (t : List (RuleId × List ℕ)) (u : List TableRow) (rest s : List ℕ)
    → plan_text book w c r ++ rest ≡ refusal_text book t u ++ s → ⊥
plan_no_refusal book w c r t u rest s e = differ 110 112 refl (sym (ap (λ (l : List ℕ). get_or l 0 0) e))

some_not_none : (rest : List ℕ) → 0 < length rest → rest ≡ [] → ⊥
some_not_none rest some e = omega (arith, ap length e)

pub with_nil : (text whole : List ℕ) → text ≡ whole → text ≡ whole ++ []
with_nil text whole e = e ∙ sym (append-nil whole)

-- ---- what is printed is not unread
pub unread_unprinted : (book : List Rule) (text : List ℕ) (n : ℕ) → IsBook book → IsUnread book text n → IsPrinted book text → ⊥
unread_unprinted book text n is (head first none none₂) (inl p) =
    none p.0 (flat_map (rule_text book) p.1 ++ flat_map row_text p.2) p.3.0.cost (p.3.1 ∙ append_assoc (head_text p.0) (flat_map (rule_text book) p.1) (flat_map row_text p.2))
unread_unprinted book text n is (head first none none₂) (inr p) =
    none₂ (flat_map (barred_text book) p.0 ++ flat_map row_text p.1) (p.2.1 ∙ append_assoc refused_text (flat_map (barred_text book) p.0) (flat_map row_text p.1))
unread_unprinted book text n is (plan w c r rest at h e some no_row no_rule) (inl p) =
    some_not_none rest some (plan_same book is w p.0 c p.1 r p.2 rest [] h p.3.0 (record { no_row = no_row; no_rule = no_rule }) (plan_ends book p.2)
    (sym e ∙ with_nil text (plan_text book p.0 p.1 p.2) p.3.1)).rests
unread_unprinted book text n is (plan w c r rest at h e some no_row no_rule) (inr p) = plan_no_refusal book w c r p.0 p.1 rest [] (sym e ∙ with_nil text (refusal_text book p.0 p.1) p.2.1)
unread_unprinted book text n is (refusal t r rest at h e some no_row no_barred) (inl p) =
    plan_no_refusal book p.0 p.1 p.2 t r [] rest (sym (with_nil text (plan_text book p.0 p.1 p.2) p.3.1) ∙ e)
unread_unprinted book text n is (refusal t r rest at h e some no_row no_barred) (inr p) =
    some_not_none rest some (refusal_same book is t p.0 r p.1 rest [] h p.2.0 (record { no_row = no_row; no_barred = no_barred }) (refusal_ends book p.1)
    (sym e ∙ with_nil text (refusal_text book p.0 p.1) p.2.1)).rests
