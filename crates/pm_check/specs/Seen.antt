-- What the code's words say.
use Rattle.std.specs.Prelude.{map, string_bytes}
use Rattle.std.specs.Option.{option_map}
use Rattle.pm_check.specs.declared.words.Asking.{Asking}
use Rattle.pm_check.specs.declared.words.Asking.TheVariants as asking
use Rattle.pm_check.specs.declared.words.PlanWords.{PlanWords}
use Rattle.pm_check.specs.Words.{Asked, PlanSaid}
use Rattle.pm_check.specs.Words.Asked.{of_plan, of_book}

abbrev pub seen_plan : PlanWords → PlanSaid
seen_plan words = record {
  program = words.program;
  book = option_map (λ name. name.now) words.book;
  of = words.of;
  held = map string_bytes words.held.now;
  asked = map string_bytes words.asked.now;
  barred = map string_bytes words.barred.now;
}

abbrev pub seen_asking : Asking → Asked
seen_asking (asking.Plan words) = of_plan (seen_plan words)
seen_asking (asking.Book name) = of_book name.now
