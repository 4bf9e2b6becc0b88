use Rattle.std.proofs.Common.{◌≡◌, true, subst, map, string_bytes, IfErr}
use Rattle.clap.specs.Words.{App, kind_of, takes}
use Rattle.clap.specs.declared.error.ErrorKind.TheVariants.{OutOfMemory}
use Rattle.pm_words.specs.Command.{are_taken}
use Rattle.pm_words.proofs.command.matches_of.Goals as goal

pub returns : goal.returns
unfolding are_taken
returns c =
    subst (λ (a : App). IfErr c.try_get_matches_from.result (λ e. takes a (map string_bytes c.args.words.now) ≡ true → kind_of e ≡ OutOfMemory))
    c.in_ok-command.ensures c.try_get_matches_from.ensures.passes
