use Rattle.pm_client.specs.Meanings.{Narrows, meanings}
use Rattle.pm_machine.specs.Building.{wanted_of}
use Rattle.pm_machine.specs.Built.{TellsAll}
use Rattle.pm_machine.specs.Sessions.{book_of, is_spent, machine_of}
use Rattle.pm_rounds.specs.declared.round.Ending.TheVariants as ending
use Rattle.pm_object.specs.Views.{round_seen}
use Rattle.std.proofs.Common.{take, ◌≡◌}
use Rattle.std.specs.Prelude.{map}
use Rattle.pm_machine.proofs.session.Session.ensure_all.Given as goal

-- the first properties are ensured
abbrev pub invariant-loop-p : goal.invariant-loop-p
invariant-loop-p g l = record {
  told : TellsAll
      (meanings (λ b. (goal.Client-dyn g (b.vtable, b.value)).tally b.value) (λ b. (goal.Client-dyn g (b.vtable, b.value)).MayPut b.value) (λ b. (goal.Client-dyn g (b.vtable, b.value)).MayFail b.value) l.fn.clients.items)
      (book_of l.fn.self) (wanted_of l.name (take l.p-index l.ps)) ending.Found (map round_seen l.fn.rounds.items) (map round_seen l.rounds.items)
      (machine_of l.fn.self (map (λ b. (goal.Client-dyn g (b.vtable, b.value)).tally b.value) l.fn.clients.items))
      (machine_of l.self (map (λ b. (goal.Client-dyn g (b.vtable, b.value)).tally b.value) l.clients.items));
  narrows : Narrows (meanings (λ b. (goal.Client-dyn g (b.vtable, b.value)).tally b.value) (λ b. (goal.Client-dyn g (b.vtable, b.value)).MayPut b.value) (λ b. (goal.Client-dyn g (b.vtable, b.value)).MayFail b.value) l.fn.clients.items)
      (meanings (λ b. (goal.Client-dyn g (b.vtable, b.value)).tally b.value) (λ b. (goal.Client-dyn g (b.vtable, b.value)).MayPut b.value) (λ b. (goal.Client-dyn g (b.vtable, b.value)).MayFail b.value) l.clients.items);
  book : book_of l.self ≡ book_of l.fn.self;
  spent : is_spent l.self ≡ is_spent l.fn.self;
}
