-- The ways in which each command may end.
use Rattle.pm_machine.specs.Machines.{NameRefusal, NewNameRefusal}
use Rattle.pm_machine.specs.Steps.{CopyRefusal, CopyStep, DisableStep, Ensures, EnsureStep, EvidenceStep, ExplainStep, FileRead, GiveStep, Gives, HistoryStep, LoadRefusal, LoadStep, LookupStep, NewObjectRefusal, NewObjectStep, NewProgramRefusal, NewProgramStep, PropertiesRefusal, PropertyRefusal, RuleRefusal, RulesStep, SaveRefusal, SaveStep, ShowStep, TakeRefusal, TakeStep, TakeValue}

pub ruleset new_name_ways = (NewNameRefusal.is_taken, NewNameRefusal.no_room)

pub ruleset new_object_ways = (NewObjectStep.is_refused, NewObjectRefusal.no_such_type, NewObjectRefusal.no_new_name)

pub ruleset new_program_ways = (NewProgramStep.is_refused, NewProgramRefusal.other_word, NewProgramRefusal.no_such_name)

pub ruleset copy_ways = (CopyStep.is_refused, CopyRefusal.no_such_name, CopyRefusal.no_new_name, CopyStep.is_copied)

pub ruleset value_ways = (TakeValue.held_already, TakeValue.is_sealed, TakeValue.is_no_json, TakeValue.has_fault)

pub ruleset take_ways = (TakeStep.is_refused, TakeRefusal.no_property, PropertyRefusal.no_such_name)

pub ruleset giving_ways = (Gives.no_chain, Gives.is_crowded)

pub ruleset give_ways = (GiveStep.is_refused, PropertyRefusal.no_such_name)

pub ruleset ensuring_ways = (Ensures.no_chain, Ensures.is_crowded, Ensures.is_found)

pub ruleset ensure_ways = (EnsureStep.is_refused, PropertiesRefusal.no_such_name)

pub ruleset explain_ways = (ExplainStep.is_refused, PropertiesRefusal.no_such_name)

pub ruleset history_ways = (HistoryStep.is_refused, NameRefusal.no_such_name, HistoryStep.is_told)

pub ruleset show_ways = (ShowStep.is_refused, NameRefusal.no_such_name, ShowStep.is_told)

pub ruleset evidence_ways = (EvidenceStep.is_refused, RuleRefusal.no_such_name)

pub ruleset lookup_ways = (LookupStep.is_shown)

pub ruleset rules_ways = (RulesStep.is_listed)

pub ruleset disable_ways = (DisableStep.is_refused, RuleRefusal.no_such_name)

pub ruleset file_ways = (FileRead.is_loaded)

pub ruleset load_ways = (LoadStep.no_new_name, LoadStep.is_refused, LoadRefusal.store_failed)

pub ruleset save_ways = (SaveStep.is_refused, SaveRefusal.no_such_name)
