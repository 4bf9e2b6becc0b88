-- What words say, read backwards.
use Rattle.std.proofs.Common.{◌≡◌, ℕ, true, false, List, Option, Some, None, refl, inl, inr, is_none, ◌&&◌}
use Rattle.std.proofs.lemmas.Bool.{and_parts, cases_Bool, cond-true, cond-false}
use Rattle.pm_store.specs.FileWords.{is_file_word}
use Rattle.pm_words.specs.Words.{WordsSeen, demo_number, with_demo, with_number, with_rules, with_trace}

-- words beside `--trace` do not say so
pub record TraceBeside (others : Option WordsSeen) (said : WordsSeen) : Type 0 where
  pub other : WordsSeen
  pub other_is : others ≡ Some other
  pub once : other.trace ≡ false
  pub said_is : said ≡ record other { trace = true }

pub trace_beside : (others : Option WordsSeen) (said : WordsSeen) → with_trace others ≡ Some said → TraceBeside others said
trace_beside None said e = cc
trace_beside (Some o) said e = elim (cases_Bool o.trace) [
  | inl h ↦ let none = cond-true o.trace None (Some (record o { trace = true })) h in cc
  | inr h ↦ let some = cond-false o.trace None (Some (record o { trace = true })) h in record { other = o; other_is = refl; once = h; said_is = cc }
]

-- words beside the rules of a file name none
pub record RulesBeside (name : List ℕ) (others : Option WordsSeen) (said : WordsSeen) : Type 0 where
  pub other : WordsSeen
  pub other_is : others ≡ Some other
  pub once : other.rules ≡ None
  pub named : is_file_word name ≡ true
  pub said_is : said ≡ record other { rules = Some name }

is_none-None : (o : Option (List ℕ)) → is_none o ≡ true → o ≡ None
is_none-None None e = refl
is_none-None (Some x) e = cc

pub rules_beside : (name : List ℕ) (others : Option WordsSeen) (said : WordsSeen) → with_rules name others ≡ Some said → RulesBeside name others said
rules_beside name None said e = cc
rules_beside name (Some o) said e = elim (cases_Bool (is_none o.rules && is_file_word name)) [
  | inl h ↦
      let some = cond-true (is_none o.rules && is_file_word name) (Some (record o { rules = Some name })) None h in
      let parts = and_parts (is_none o.rules) (is_file_word name) h in
      record { other = o; other_is = refl; once = is_none-None o.rules parts.0; named = parts.1; said_is = cc }
  | inr h ↦ let none = cond-false (is_none o.rules && is_file_word name) (Some (record o { rules = Some name })) None h in cc
]

-- words beside a demo ask for none, and the demo has a number
pub record DemoBeside (text : List ℕ) (others : Option WordsSeen) (said : WordsSeen) : Type 0 where
  pub other : WordsSeen
  pub other_is : others ≡ Some other
  pub once : other.demo ≡ None
  pub number : ℕ
  pub numbered : demo_number text ≡ Some number
  pub said_is : said ≡ record other { demo = Some number }

no_demo : (o : Option ℕ) → is_none o ≡ true → o ≡ None
no_demo None e = refl
no_demo (Some n) e = cc

number_beside : (text : List ℕ) (o said : WordsSeen) (n : Option ℕ) → demo_number text ≡ n → with_number n o ≡ Some said → DemoBeside text (Some o) said
number_beside text o said None is e = cc
number_beside text o said (Some n) is e = elim (cases_Bool (is_none o.demo)) [
  | inl h ↦
      let some = cond-true (is_none o.demo) (Some (record o { demo = Some n })) None h in
      record { other = o; other_is = refl; once = no_demo o.demo h; number = n; numbered = is; said_is = cc }
  | inr h ↦ let none = cond-false (is_none o.demo) (Some (record o { demo = Some n })) None h in cc
]

pub demo_beside : (text : List ℕ) (others : Option WordsSeen) (said : WordsSeen) → with_demo text others ≡ Some said → DemoBeside text others said
demo_beside text None said e = cc
demo_beside text (Some o) said e = number_beside text o said (demo_number text) refl e
