-- What a line speaks names programs by names.
use Rattle.pm_command.specs.Commands.{Spoken, new_object}
use Rattle.pm_command.specs.Grammar.{Speaks, is_ref, is_sub}
use Rattle.pm_command.specs.Words.{is_name, is_type_word}
use Rattle.pm_machine.specs.Sessions.{MakesNamed}
use Rattle.std.proofs.lemmas.Bool.{and_parts}
use Rattle.std.specs.Prelude.{List, ℕ}

pub speaks_named : (text : List ℕ) (s : Spoken) → Speaks text s → MakesNamed s
speaks_named text (new_object ref of) line = (and_parts (is_name ref.name) (is_sub ref.sub) (and_parts (is_ref ref) (is_type_word of) line.allowed).0).1
speaks_named text s line = tt
