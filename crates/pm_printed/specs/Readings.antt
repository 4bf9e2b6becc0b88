-- What a text is printed of, as it was read.
use Rattle.std.specs.Prelude.{◌≡◌, ℕ, List, [], ◌++◌, map, string_bytes, All}
use Rattle.std.specs.List.{flat_map}
use Rattle.pm_rules.specs.declared.rule.Rule.{Rule}
use Rattle.pm_printed.specs.declared.read.Reading.{Reading}
use Rattle.pm_printed.specs.declared.read.Reading.TheVariants as reading
use Rattle.pm_printed.specs.declared.print.Told.{Told}
use Rattle.pm_printed.specs.Printed.{BeginsNone, IsPlanText, IsRefusalText, IsUnread}
use Rattle.pm_props.specs.declared.kind.RuleId.{RuleId}

-- a barred rule and the reason as bytes
abbrev pub seen : Told → RuleId × List ℕ
seen x = (x.rule, string_bytes x.why)

-- the text begins with the lines of these, as many as there are, and rest is behind them
pub record ReadsAll {X : Type 0} (Is : X → Type 0) (line : X → List ℕ) (text : List ℕ) (xs : List X)
    (rest : List ℕ) : Type 0 where
  pub each : All Is xs
  pub whole : text ≡ flat_map line xs ++ rest
  pub no_more : BeginsNone Is line rest

-- the text is printed of this plan or refusal; or of none, and this is the first line that is not read
abbrev pub ReadAs : List Rule → List ℕ → Reading → Type 0
ReadAs book text (reading.Plan weight chain rows) = IsPlanText book text weight chain.items rows.items
ReadAs book text (reading.NoChain told rows) = IsRefusalText book text (map seen told.items) rows.items
ReadAs book text (reading.Unread n) = IsUnread book text n
