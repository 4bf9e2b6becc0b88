-- The examples, computed.
use Rattle.std.proofs.Common.{refl, sym, ap, ◌≡◌, ◌||◌, arith, ℕ, List, [], ◌∷◌, length, Ok, Bool, true, false, true≢false}
use Rattle.serde_json.proofs.OnLiterals.{serde_json_on_literals}
use Rattle.pm_json.proofs.GrammarReads.{read_of_text, read_set_is}
use Rattle.pm_json.specs.Examples.{MatricesHaveTexts, NumbersHaveTexts, SetsHaveTexts}
use Rattle.pm_json.specs.Readings.{Read}
use Rattle.pm_types.specs.Values.{PropertyValue, matrix, sets}

abbrev is_ok : Read PropertyValue → Bool
is_ok (Ok v) = true
is_ok r = false

-- the columns that were read
abbrev cols_of : Read PropertyValue → ℕ
cols_of (Ok (matrix n rows)) = n
cols_of (Ok (sets rows n)) = n
cols_of r = 99

abbrev length_of : Read (List ℕ) → ℕ
length_of (Ok set) = length set
length_of r = 99

swapped : (a b : Bool) → (a || (b || false)) ≡ (b || (a || false))
swapped true true = refl
swapped true false = refl
swapped false true = refl
swapped false false = refl

pub matrices : MatricesHaveTexts
unfolding serde_json_on_literals
matrices = record {
  row = record { text = record { items = _; array = refl; each = ((_, refl, (refl, (refl, tt))), tt); cols = tt }; formed = refl };
  stated = record { text = record { items = _; array = refl; each = ((_, refl, (refl, tt)), tt); cols = refl }; formed = refl };
  wrongly = λ j. absurd (true≢false (sym (ap is_ok (read_of_text _ _ _ j))));
  columns = record { text = record { items = _; array = refl; each = tt; cols = (refl, omega arith) }; formed = refl };
  nothing = record { text = record { items = _; array = refl; each = tt; cols = refl }; formed = refl };
  not_three = λ j. let n : 0 ≡ 3 = ap cols_of (read_of_text _ _ _ j) in absurd (omega arith);
  no_columns = λ j. absurd (true≢false (sym (ap is_ok (read_of_text _ _ _ j))));
  objective = record { text = (_, refl, (_, refl, (refl, tt))); formed = refl };
  not_in_rows = λ j. absurd (true≢false (sym (ap is_ok (read_of_text _ _ _ j))));
}

pub set_texts : SetsHaveTexts
unfolding serde_json_on_literals
set_texts = record {
  turned = record { indices = 2 ∷ 0 ∷ []; array = (_, refl, (refl, (refl, tt))); apart = refl; members = λ j. swapped _ _ };
  missing = λ s. let n : 2 ≡ 1 = ap length_of (read_set_is _ _ (0 ∷ []) refl s refl) in absurd (omega arith);
  twice = refl;
  stated = record { text = record { items = _; array = refl; each = (record { indices = 0 ∷ []; array = (_, refl, (refl, tt)); apart = refl; members = λ j. refl }, tt); cols = refl }; formed = refl };
  least = record { text = record { items = _; array = refl; each = (record { indices = 0 ∷ []; array = (_, refl, (refl, tt)); apart = refl; members = λ j. refl }, tt); cols = refl }; formed = refl };
  no_more = λ j. let n : 1 ≡ 3 = ap cols_of (read_of_text _ _ _ j) in absurd (omega arith);
  graph = record {
    text = (
      _,
      refl,
      (
        record { indices = 1 ∷ []; array = (_, refl, (refl, tt)); apart = refl; members = λ j. refl },
        (record { indices = 0 ∷ []; array = (_, refl, (refl, tt)); apart = refl; members = λ j. refl }, tt),
      ),
    );
    formed = refl;
  };
  no_columns = λ j. absurd (true≢false (sym j.formed));
  not_joined = λ j. absurd (true≢false (sym (ap is_ok (read_of_text _ _ _ j))));
}

pub numbers : NumbersHaveTexts
unfolding serde_json_on_literals
numbers = record {
  dimension = record { text = (_, refl, refl); formed = refl };
  too_many = λ j. absurd (true≢false (sym (ap is_ok (read_of_text _ _ _ j))));
  no_text = λ j. absurd (true≢false (sym (ap is_ok (read_of_text _ _ _ j))));
  bounded = record { text = refl; formed = refl };
  vector = record { text = (_, refl, (refl, (refl, tt))); formed = refl };
}
