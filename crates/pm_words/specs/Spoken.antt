-- Words as callers see them.
use Rattle.std.specs.Prelude.{option_map, string_bytes}
use Rattle.pm_words.specs.Words.{WordsSeen}
use Rattle.pm_words.specs.declared.Words.{Words}
use Rattle.pm_words.specs.declared.grammar.Spoken.{Spoken}

abbrev pub seen_words : Words → WordsSeen
seen_words w = record { rules = option_map string_bytes w.rules; trace = w.trace; demo = w.demo }

abbrev pub seen_spoken : Spoken → WordsSeen
seen_spoken w = record { rules = option_map (λ name. name.now) w.rules; trace = w.trace; demo = w.demo }
