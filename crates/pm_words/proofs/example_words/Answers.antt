use Rattle.std.proofs.Common.{refl}
use Rattle.pm_words.proofs.example_words.Goals as goal

pub returns : goal.returns
returns c = record {
  say = record {
    nothing = refl;
    trace = refl;
    apart = refl;
    joined = refl;
    trace_apart = refl;
    apart_trace = refl;
    trace_joined = refl;
    joined_trace = refl;
    first_demo = refl;
    last_demo = refl;
    all_three = refl;
    all_apart = refl;
  };
  nothing = record {
    hyphens = refl;
    short_help = refl;
    help = refl;
    version = refl;
    stray = refl;
    empty_word = refl;
    value = refl;
    no_name = refl;
    empty_name = refl;
    empty_joined = refl;
    trace_as_name = refl;
    hyphen_name = refl;
    trace_twice = refl;
    rules_twice = refl;
    stray_after = refl;
    demo_0 = refl;
    demo_9 = refl;
    demo_12 = refl;
    no_demo = refl;
    empty_demo = refl;
    demo_twice = refl;
    stray_digit = refl;
    demo_of_rules = refl;
  };
}
