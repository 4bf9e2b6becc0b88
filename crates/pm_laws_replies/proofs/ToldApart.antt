-- Replies can be told apart by their bytes.
use Rattle.std.proofs.Common.{ap, append-nil, append_assoc, eqb, ap₂, refl, subst, sym, true≢false, ℕ, List, [], ◌∷◌, ◌++◌, Bool, true, false, not, ◌≡◌, ◌∙◌, Option, Some, None, if◌then◌else◌, codes, inl, inr, length, map}
use Rattle.std.specs.Fmt.{decimal}
use Rattle.std.proofs.lemmas.Bool.{and_parts, cases_Bool}
use Rattle.std.proofs.lemmas.List.{append_cancel_left, append_cancel_right}
use Rattle.pm_books.specs.Writing.{text_of}
use Rattle.pm_command.specs.Commands.{Spoken, blank, give_value, look_up, show_rules}
use Rattle.pm_command.specs.Grammar.{ref_text}
use Rattle.pm_files.specs.ValueJson.{value_text}
use Rattle.pm_object_type.specs.declared.object_type.ObjectType.{ObjectType}
use Rattle.pm_props.specs.declared.property.PropId.{PropId}
use Rattle.pm_rules.specs.declared.rule.Rule.{Rule}
use Rattle.pm_script.specs.Replies.{Remarks, ReplySeen, name_shown, nothing, planned, refusal_text, refused, remarks_text, reply_text, rounds_text, told}
use Rattle.pm_script.specs.declared.refusal.Refusal.{Refusal}
use Rattle.pm_script.specs.declared.refusal.Refusal.TheVariants as refusal
use Rattle.pm_types.specs.Values.{PropertyValue}
use Rattle.pm_machine.specs.Run.{replies_text, text_if}
use Rattle.pm_laws_replies.specs.Told.{AreReplies, IsReply, IsReplyTo, RepliesToOneLineShowTheSame, RepliesAreToldApart, is_refused_after_rounds, may_begin_rounds, has_evidence, has_history, has_origin, has_well_formed_ref, tells_what_is_held, is_built, is_done, is_ensured, is_explained, is_listed, is_loaded, is_refused, is_done_in_one_line, is_shown, lists_book, is_looked_up, may_be_refused, has_no_origin, is_refused_by_plan, is_not_held, is_one_line, value_shown, value_shown_if}
use Rattle.pm_laws_replies.proofs.Lines.{Block, Whole, more, no_line, none, same_front, split_first, whole_append, whole_block}
use Rattle.pm_laws_replies.proofs.OneLine.{low_first, no_space, plain_decimal, unspaced_shown}
use Rattle.pm_laws_replies.proofs.Blocks.{block_refused, low_append}
use Rattle.pm_laws_replies.proofs.Opening.{low_not_high, named, not_named, not_named_line, opens_any, whole_book}
use Rattle.pm_laws_replies.proofs.Replied.{block, named_value, plain_ref, plain_value, unspaced_ref, value_line}

-- ---- a word before a space
abbrev apart : ℕ → Bool
apart b = not (eqb b 32)

first_apart : (c : ℕ) (xs ys zs : List ℕ) → no_space (c ∷ xs) ≡ true → 32 ∷ ys ≡ c ∷ zs → ⊥
first_apart c xs ys zs o e =
    let same : 32 ≡ c = cc in
    true≢false (sym (and_parts (apart c) (no_space xs) o).0 ∙ ap apart (sym same))

pub split_space : (a b x y : List ℕ) → no_space a ≡ true → no_space b ≡ true → a ++ 32 ∷ x ≡ b ++ 32 ∷ y → (a ≡ b) × (x ≡ y)
split_space [] [] x y o p e = (refl, cc)
split_space [] (c ∷ b) x y o p e = absurd (first_apart c b x (b ++ 32 ∷ y) p e)
split_space (c ∷ a) [] x y o p e = absurd (first_apart c a y (a ++ 32 ∷ x) o (sym e))
split_space (c ∷ a) (d ∷ b) x y o p e =
    let same : c ≡ d = cc in
    let tails : a ++ 32 ∷ x ≡ b ++ 32 ∷ y = cc in
    let r = split_space a b x y (and_parts (apart c) (no_space a) o).1 (and_parts (apart d) (no_space b) p).1 tails in
    let s = r.0 in
    (cc, r.1)

-- ---- which name is asked
abbrev asked : Spoken → List ℕ
asked (give_value ref text) = ref_text ref
asked (look_up ref text) = ref_text ref
asked c = []

abbrev is_asked : Spoken → Bool
is_asked (give_value ref text) = true
is_asked (look_up ref text) = true
is_asked c = false

unspaced_asked : (c : Spoken) → has_well_formed_ref c ≡ true → is_asked c ≡ true → no_space (asked c) ≡ true
unspaced_asked (give_value ref text) h a = unspaced_ref ref h
unspaced_asked (look_up ref text) h a = unspaced_ref ref h
unspaced_asked c h a = absurd (true≢false (sym a))

short_unasked : (c : Spoken) → is_done_in_one_line c ≡ true → is_asked c ≡ true → ⊥
short_unasked (give_value ref text) h a = true≢false (sym h)
short_unasked (look_up ref text) h a = true≢false (sym h)
short_unasked c h a = true≢false (sym a)

-- a reply shows a value, in its first line; or its text does not begin as such a line
data View (c : Spoken) (text : List ℕ) (seen : Option (List ℕ × List ℕ × List ℕ)) : Type 0 where
  a_value : (of : ObjectType) (p : PropId) (v : PropertyValue) (rest : List ℕ) → text ≡ value_line (asked c) of p v ++ codes "\n" ++ rest
      → is_one_line (value_line (asked c) of p v) ≡ true → seen ≡ Some (asked c, name_shown of p, value_text p v) → is_asked c ≡ true → View c text seen
  no_value : (is_asked c ≡ true → (behind : List ℕ) → named (asked c) (text ++ behind) ≡ false) → seen ≡ None → View c text seen

low_refusal : (why : Refusal) → low_first (refusal_text why) ≡ true
low_refusal refusal.BadCommand = refl
low_refusal refusal.UnknownName = refl
low_refusal refusal.NameTaken = refl
low_refusal refusal.UnknownType = refl
low_refusal refusal.UnknownProperty = refl
low_refusal (refusal.BadValue why) = refl
low_refusal refusal.AlreadyHeld = refl
low_refusal refusal.Sealed = refl
low_refusal refusal.ObjectsFull = refl
low_refusal refusal.NoChain = refl
low_refusal refusal.Crowded = refl
low_refusal refusal.StoreFault = refl
low_refusal (refusal.BadFile why) = refl
low_refusal refusal.NoSuchFile = refl
low_refusal refusal.LineTooLong = refl
low_refusal refusal.UnknownRule = refl
low_refusal (refusal.NotFit condition) = refl
low_refusal (refusal.NotMade why) = refl

view_refused : (c : Spoken) (trace : Bool) (why : Refusal) (beside : Remarks) → has_well_formed_ref c ≡ true → View c (reply_text trace (refused why beside)) None
view_refused c trace why beside h =
    let text = refusal_text why ++ codes "\n" ++ remarks_text trace beside in
    no_value (λ a behind. not_named (asked c) (codes "no") (text ++ behind) (unspaced_asked c h a) refl
    (low_not_high (text ++ behind) (low_append text behind
    (low_append (refusal_text why ++ codes "\n") (remarks_text trace beside) (low_append (refusal_text why) (codes "\n") (low_refusal why)))))) refl

view : (book : List Rule) (trace : Bool) {c : Spoken} {r : ReplySeen} → has_well_formed_ref c ≡ true → IsReply book c r → View c (reply_text trace r) (value_shown r)
view book trace {c = c} h (is_refused {why = why} k one) = view_refused c trace why nothing h
view book trace {c = c} h (is_refused_after_rounds {why = why} {always = always} {t = t} k one l) = view_refused c trace why (told always t) h
view book trace {c = c} h (is_refused_by_plan {why = why} {barred = barred} {rows = rows} {names = names} one l) = view_refused c trace why (planned barred rows names) h
view book trace {c = c} h (is_done k e) = no_value (λ a. absurd (short_unasked c k a)) refl
view book trace h (is_built l) = no_value (λ a. absurd (true≢false (sym a))) refl
view book trace h (is_shown {ref = ref} {of = of} {p = p} {v = v} {t = t} e l) =
    let rest = if trace then rounds_text t else [] in
    a_value of p v rest (ap (λ z. value_line z of p v ++ codes "\n" ++ rest) e) (plain_value (ref_text ref) of p v (plain_ref ref h)) (ap (λ z. Some (z, name_shown of p, value_text p v)) e) refl
view book trace h (is_looked_up {ref = ref} {of = of} {p = p} {v = v} {t = t} e n) =
    let rest = if trace then rounds_text t else [] in
    a_value of p v rest (ap (λ z. value_line z of p v ++ codes "\n" ++ rest) e) (plain_value (ref_text ref) of p v (plain_ref ref h)) (ap (λ z. Some (z, name_shown of p, value_text p v)) e) refl
view book trace h (is_not_held {ref = ref}) = no_value (λ a behind. not_named_line (ref_text ref) (codes "undef") behind (plain_ref ref h) refl) refl
view book trace h has_no_origin = no_value (λ a. absurd (true≢false (sym a))) refl
view book trace h has_origin = no_value (λ a. absurd (true≢false (sym a))) refl
view book trace h (is_ensured l) = no_value (λ a. absurd (true≢false (sym a))) refl
view book trace h (is_explained l) = no_value (λ a. absurd (true≢false (sym a))) refl
view book trace h (has_history l) = no_value (λ a. absurd (true≢false (sym a))) refl
view book trace h (is_listed n e) = no_value (λ a. absurd (true≢false (sym a))) refl
view book trace h is_loaded = no_value (λ a. absurd (true≢false (sym a))) refl
view book trace h (tells_what_is_held l) = no_value (λ a. absurd (true≢false (sym a))) refl
view book trace h (has_evidence l) = no_value (λ a. absurd (true≢false (sym a))) refl

onto_line : (t line rest x : List ℕ) → t ≡ line ++ codes "\n" ++ rest → t ++ x ≡ line ++ codes "\n" ++ (rest ++ x)
onto_line t line rest x e = ap (λ z. z ++ x) e ∙ append_assoc (line ++ codes "\n") rest x

clash : (c : Spoken) (of : ObjectType) (p : PropId) (v : PropertyValue) (rest t s x y : List ℕ) → t ≡ value_line (asked c) of p v ++ codes "\n" ++ rest → named (asked c) (s ++ y) ≡ false → t ++ x ≡ s ++ y → ⊥
clash c of p v rest t s x y e f g =
    let own = onto_line t (value_line (asked c) of p v) rest x e in
    true≢false (sym (ap (named (asked c)) (sym g ∙ own) ∙ named_value (asked c) of p v (rest ++ x)) ∙ f)

same_value : (name : List ℕ) (of og : ObjectType) (p q : PropId) (v w : PropertyValue) (rest tail : List ℕ) → is_one_line (value_line name of p v) ≡ true → is_one_line (value_line name og q w) ≡ true
    → value_line name of p v ++ codes "\n" ++ rest ≡ value_line name og q w ++ codes "\n" ++ tail → (name_shown of p ≡ name_shown og q) × (value_text p v ≡ value_text q w)
same_value name of og p q v w rest tail o k e =
    let lines = (split_first (value_line name of p v) (value_line name og q w) rest tail o k (sym (append_assoc (value_line name of p v) (codes "\n") rest) ∙ e ∙ append_assoc (value_line name og q w) (codes "\n") tail)).0 in
    let left : value_line name of p v ≡ name ++ (32 ∷ (name_shown of p ++ (32 ∷ value_text p v))) = simp append_assoc in
    let right : value_line name og q w ≡ name ++ (32 ∷ (name_shown og q ++ (32 ∷ value_text q w))) = simp append_assoc in
    let tails = append_cancel_left name (32 ∷ (name_shown of p ++ (32 ∷ value_text p v))) (32 ∷ (name_shown og q ++ (32 ∷ value_text q w))) (sym left ∙ lines ∙ right) in
    let inner : name_shown of p ++ (32 ∷ value_text p v) ≡ name_shown og q ++ (32 ∷ value_text q w) = cc in
    split_space (name_shown of p) (name_shown og q) (value_text p v) (value_text q w) (unspaced_shown of p) (unspaced_shown og q) inner

agree : (c : Spoken) (t s x y : List ℕ) (m n : Option (List ℕ × List ℕ × List ℕ)) → View c t m → View c s n → t ++ x ≡ s ++ y → m ≡ n
agree c t s x y m n (a_value of p v rest e o h a) (a_value og q w tail f k i b) g =
    let lines = sym (onto_line t (value_line (asked c) of p v) rest x e) ∙ g ∙ onto_line s (value_line (asked c) og q w) tail y f in
    let r = same_value (asked c) of og p q v w (rest ++ x) (tail ++ y) o k lines in
    let r0 = r.0 in
    let r1 = r.1 in
    h ∙ ap₂ (λ a b. Some (asked c, a, b)) r0 r1 ∙ sym i
agree c t s x y m n (a_value of p v rest e o h a) (no_value u i) g = absurd (clash c of p v rest t s x y e (u a y) g)
agree c t s x y m n (no_value u i) (a_value of p v rest e o h a) g = absurd (clash c of p v rest s t y x e (u a x) (sym g))
agree c t s x y m n (no_value u i) (no_value w j) g = i ∙ sym j

-- ---- one line
no_reply : (book : List Rule) {c : Spoken} {r : ReplySeen} → IsReply book c r → c ≡ blank → ⊥
no_reply book (is_refused k one) e = true≢false (sym k ∙ ap may_be_refused e)
no_reply book (is_refused_after_rounds k one l) e = true≢false (sym k ∙ ap may_begin_rounds e)
no_reply book (is_refused_by_plan one l) e = cc
no_reply book (is_done k n) e = true≢false (sym k ∙ ap is_done_in_one_line e)
no_reply book (is_built l) e = cc
no_reply book (is_shown n l) e = cc
no_reply book (is_looked_up n l) e = cc
no_reply book is_not_held e = cc
no_reply book has_no_origin e = cc
no_reply book has_origin e = cc
no_reply book (is_ensured l) e = cc
no_reply book (is_explained l) e = cc
no_reply book (has_history l) e = cc
no_reply book (is_listed n l) e = cc
no_reply book is_loaded e = cc
no_reply book (tells_what_is_held l) e = cc
no_reply book (has_evidence l) e = cc

is_blank : (book : List Rule) (c : Spoken) → IsReplyTo book (Some c) None → c ≡ blank
is_blank book blank h = refl
is_blank book c h = absurd h

refused_lists : (c : Spoken) → may_be_refused c ≡ true → lists_book c ≡ true → ⊥
refused_lists show_rules k e = true≢false (sym k)
refused_lists c k e = true≢false (sym e)

rounds_list : (c : Spoken) → may_begin_rounds c ≡ true → lists_book c ≡ true → ⊥
rounds_list show_rules k e = true≢false (sym k)
rounds_list c k e = true≢false (sym e)

short_lists : (c : Spoken) → is_done_in_one_line c ≡ true → lists_book c ≡ true → ⊥
short_lists show_rules k e = true≢false (sym k)
short_lists c k e = true≢false (sym e)

listed_text : (book : List Rule) (trace : Bool) {c : Spoken} {r : ReplySeen} → IsReply book c r → lists_book c ≡ true → reply_text trace r ≡ codes "rules " ++ decimal (length book) ++ codes "\n" ++ text_of book
listed_text book trace {c = c} (is_refused k one) e = absurd (refused_lists c k e)
listed_text book trace {c = c} (is_refused_after_rounds k one l) e = absurd (rounds_list c k e)
listed_text book trace (is_refused_by_plan one l) e = absurd (true≢false (sym e))
listed_text book trace {c = c} (is_done k n) e = absurd (short_lists c k e)
listed_text book trace (is_built l) e = absurd (true≢false (sym e))
listed_text book trace (is_shown n l) e = absurd (true≢false (sym e))
listed_text book trace (is_looked_up n l) e = absurd (true≢false (sym e))
listed_text book trace is_not_held e = absurd (true≢false (sym e))
listed_text book trace has_no_origin e = absurd (true≢false (sym e))
listed_text book trace has_origin e = absurd (true≢false (sym e))
listed_text book trace (is_ensured l) e = absurd (true≢false (sym e))
listed_text book trace (is_explained l) e = absurd (true≢false (sym e))
listed_text book trace (has_history l) e = absurd (true≢false (sym e))
listed_text book trace (is_listed n l) e = ap₂ (λ k t. codes "rules " ++ decimal k ++ codes "\n" ++ t) n l
listed_text book trace is_loaded e = absurd (true≢false (sym e))
listed_text book trace (tells_what_is_held l) e = absurd (true≢false (sym e))
listed_text book trace (has_evidence l) e = absurd (true≢false (sym e))

whole_listed : (book : List Rule) → Whole (codes "rules " ++ decimal (length book) ++ codes "\n" ++ text_of book)
whole_listed book = more (codes "rules " ++ decimal (length book)) (text_of book) (append_assoc (codes "rules " ++ decimal (length book)) (codes "\n") (text_of book)) (plain_decimal (length book)) (whole_book book)

-- what stands at the end of two texts of whole lines
abbrev SameEnd : List ℕ → List ℕ → Type 0
SameEnd t s = (a b : List ℕ) → Whole a → Whole b → a ++ t ≡ b ++ s → (a ≡ b) × (t ≡ s)

by_blocks : {opens : List ℕ → Bool} {t s : List ℕ} → Block opens t → Block opens s → SameEnd t s
by_blocks x y a b w v e = same_front w v x y e

by_equal : {t s : List ℕ} → t ≡ s → SameEnd t s
by_equal {t = t} {s = s} k a b w v e = (append_cancel_right a b s (ap (λ z. a ++ z) (sym k) ∙ e), k)

command_end : (book : List Rule) (trace : Bool) {c : Spoken} {r s : ReplySeen} → has_well_formed_ref c ≡ true → IsReply book c r → IsReply book c s → SameEnd (reply_text trace r) (reply_text trace s)
command_end book trace {c = c} h x y = elim (cases_Bool (lists_book c)) [
  | inl e ↦ by_equal (listed_text book trace x e ∙ sym (listed_text book trace y e))
  | inr e ↦ by_blocks (block book trace h e x) (block book trace h e y)
]

refused_block : (trace : Bool) (why : Refusal) (r : ReplySeen) → is_one_line (refusal_text why) ≡ true → r ≡ refused why nothing → Block opens_any (reply_text trace r)
refused_block trace why r one e = subst (λ z. Block opens_any (reply_text trace z)) (sym e) (block_refused opens_any trace (refusal_text why) nothing (λ t. refl) one (no_line refl))

blank_reply : (book : List Rule) (c : Spoken) (r : ReplySeen) → IsReplyTo book (Some c) None → IsReplyTo book (Some c) (Some r) → ⊥
blank_reply book c r n y = no_reply book y.1 (is_blank book c n)

line_end : (book : List Rule) (trace : Bool) (line : Option Spoken) (r s : Option ReplySeen) → IsReplyTo book line r → IsReplyTo book line s → SameEnd (text_if trace r) (text_if trace s)
line_end book trace None None s x y = absurd x
line_end book trace None (Some r) None x y = absurd y
line_end book trace None (Some r) (Some s) x y = by_blocks (refused_block trace x.0 r x.1 x.2) (refused_block trace y.0 s y.1 y.2)
line_end book trace (Some c) None None x y = by_equal refl
line_end book trace (Some c) None (Some s) x y = absurd (blank_reply book c s x y)
line_end book trace (Some c) (Some r) None x y = absurd (blank_reply book c r y x)
line_end book trace (Some c) (Some r) (Some s) x y = command_end book trace x.0 x.1 y.1

whole_command : (book : List Rule) (trace : Bool) {c : Spoken} {r : ReplySeen} → has_well_formed_ref c ≡ true → IsReply book c r → Whole (reply_text trace r)
whole_command book trace {c = c} h x = elim (cases_Bool (lists_book c)) [
  | inl e ↦ subst Whole (sym (listed_text book trace x e)) (whole_listed book)
  | inr e ↦ whole_block (block book trace h e x)
]

whole_reply : (book : List Rule) (trace : Bool) (line : Option Spoken) (r : Option ReplySeen) → IsReplyTo book line r → Whole (text_if trace r)
whole_reply book trace line None x = none refl
whole_reply book trace None (Some r) x = whole_block (refused_block trace x.0 r x.1 x.2)
whole_reply book trace (Some c) (Some r) x = whole_command book trace x.0 x.1

refused_shows : (why : Refusal) (r : ReplySeen) → r ≡ refused why nothing → value_shown r ≡ None
refused_shows why r e = ap value_shown e

pub one_reply : RepliesToOneLineShowTheSame
one_reply book trace None None s a b x y e = absurd x
one_reply book trace None (Some r) None a b x y e = absurd y
one_reply book trace None (Some r) (Some s) a b x y e = refused_shows x.0 r x.2 ∙ sym (refused_shows y.0 s y.2)
one_reply book trace (Some c) None None a b x y e = refl
one_reply book trace (Some c) None (Some s) a b x y e = absurd (blank_reply book c s x y)
one_reply book trace (Some c) (Some r) None a b x y e = absurd (blank_reply book c r y x)
one_reply book trace (Some c) (Some r) (Some s) a b x y e = agree c (reply_text trace r) (reply_text trace s) a b (value_shown r) (value_shown s) (view book trace x.0 x.1) (view book trace y.0 y.1) e

-- ---- all lines, from the last one backwards
record Apart (trace : Bool) (a b : List ℕ) (rs ss : List (Option ReplySeen)) : Type 0 where
  front : a ≡ b
  texts : map (text_if trace) rs ≡ map (text_if trace) ss
  seen : map value_shown_if rs ≡ map value_shown_if ss

all_apart : (book : List Rule) (trace : Bool) (lines : List (Option Spoken)) (rs ss : List (Option ReplySeen)) (a b : List ℕ) → AreReplies book lines rs → AreReplies book lines ss → Whole a → Whole b
    → a ++ replies_text trace rs ≡ b ++ replies_text trace ss → Apart trace a b rs ss
all_apart book trace [] [] [] a b x y w v e = record { front = sym (append-nil a) ∙ e ∙ append-nil b; texts = refl; seen = refl }
all_apart book trace [] [] (s ∷ ss) a b x y w v e = absurd y
all_apart book trace [] (r ∷ rs) ss a b x y w v e = absurd x
all_apart book trace (line ∷ lines) [] ss a b x y w v e = absurd x
all_apart book trace (line ∷ lines) (r ∷ rs) [] a b x y w v e = absurd y
all_apart book trace (line ∷ lines) (r ∷ rs) (s ∷ ss) a b x y w v e =
    let t = text_if trace r in
    let u = text_if trace s in
    let rest = all_apart book trace lines rs ss (a ++ t) (b ++ u) x.1 y.1 (whole_append w (whole_reply book trace line r x.0)) (whole_append v (whole_reply book trace line s y.0))
    (append_assoc a t (replies_text trace rs) ∙ e ∙ sym (append_assoc b u (replies_text trace ss))) in
    let here = line_end book trace line r s x.0 y.0 a b w v rest.front in
    let own = one_reply book trace line r s [] [] x.0 y.0 (ap (λ z. z ++ []) here.1) in
    record { front = here.0; texts = ap₂ (λ p q. p ∷ q) here.1 rest.texts; seen = ap₂ (λ p q. p ∷ q) own rest.seen }

pub told_apart : RepliesAreToldApart
told_apart book trace lines rs ss x y e = let r = all_apart book trace lines rs ss [] [] x y (none refl) (none refl) e in (r.texts, r.seen)
