-- A session, as contracts see it.
use Rattle.indexmap.specs.IndexMap.{keys}
use Rattle.std.specs.HashMap.{get_by_text}
use Rattle.std.specs.Option.{option_map}
use Rattle.std.specs.Prelude.{ℕ, Bool, true, false, IsTrue, Option, Some, List, [], map, string_bytes}
use Rattle.pm_command.specs.Commands.{Spoken, new_object, look_up, tell_history, show_object, tell_evidence, show_rules, copy_object, tell_origin, make_object, build_object}
use Rattle.pm_command.specs.Grammar.{is_sub}
use Rattle.pm_client.specs.Starts.{Clients}
use Rattle.pm_machine.specs.Machines.{Files, Machine}
use Rattle.pm_machine.specs.declared.session.Session.{Session}
use Rattle.pm_rules.specs.declared.rule.Rule.{Rule}

-- the rules of its book
abbrev pub book_of : Session → List Rule
book_of s = s.book

-- the machine of the session and the clients, beside a store with these files, if it tells them, and this count of
-- faults
abbrev pub machine_at : Session → Clients → Option Files → ℕ → Machine
machine_at s clients files faults = record {
  names = map string_bytes (keys s.objects);
  object = λ q. option_map (λ o. o.state) (get_by_text s.objects q);
  clients = clients;
  store = record { files = files; faults = faults };
}

-- the same, beside a store without files
abbrev pub machine_of : Session → Clients → Machine
machine_of s clients = machine_at s clients (Some []) 0

-- memory ran out: the session answers nothing else
abbrev pub is_spent : Session → Bool
is_spent s = s.spent

-- the name of the linear program that the command makes, if it makes one, is a name
abbrev pub MakesNamed : Spoken → Type 0
MakesNamed (new_object ref text) = IsTrue (is_sub ref.sub)
MakesNamed command = Unit {0}

-- a command on no files that makes an object
abbrev pub makes_object : Spoken → Bool
makes_object (new_object ref text) = true
makes_object (copy_object name to) = true
makes_object (make_object to shape) = true
makes_object (build_object builder names to) = true
makes_object command = false

-- a command that tells, and changes nothing
abbrev pub only_tells : Spoken → Bool
only_tells (look_up ref text) = true
only_tells (tell_history name) = true
only_tells (show_object name) = true
only_tells (tell_evidence name label) = true
only_tells show_rules = true
only_tells (tell_origin ref text) = true
only_tells command = false
