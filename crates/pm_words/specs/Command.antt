-- The program's command, as `clap` reads it.
use Rattle.std.specs.Prelude.{Bool, List, Some, true, codes, ℕ}
use Rattle.clap.specs.Words.{App, Rule, new_app, new_rule, takes, with_rule}
use Rattle.clap.specs.Simple.{on_top}
use Rattle.clap.specs.declared.builder.ArgAction.TheVariants.{Set, SetTrue}

abbrev pub rules_rule : Rule
rules_rule = record (new_rule (codes "rules")) { long = Some (codes "rules"); action = Some Set }

abbrev pub trace_rule : Rule
trace_rule = record (new_rule (codes "trace")) { long = Some (codes "trace"); action = Some SetTrue }

abbrev pub demo_rule : Rule
demo_rule = record (new_rule (codes "demo")) { long = Some (codes "demo"); action = Some Set }

-- no program's name before the words, no help and no version
abbrev pub bare_app : App
bare_app = on_top (λ s. record s {
  no_binary_name = true;
  disable_help_flag = true;
  disable_version_flag = true;
}) (new_app (codes "polymake"))

abbrev pub words_app : App
words_app = with_rule (with_rule (with_rule bare_app rules_rule) trace_rule) demo_rule

-- the command takes the words
unfoldable pub are_taken : List (List ℕ) → Bool
are_taken words = takes words_app words
