use Rattle.pm_client.proofs.Started.{kind_map, some_is, started_set}
use Rattle.pm_client.proofs.Meant.{narrows_at, on_err, on_ok, one_so}
use Rattle.pm_client.proofs.boxes.run_at.Goals as goal
use Rattle.std.proofs.Common.{ap, sym, ◌∙◌}

pub run_box-requires-clause-kind : goal.run_box-requires-clause-kind
run_box-requires-clause-kind g c =
    some_is _ _ (sym c.requires.kind ∙ kind_map _ c.args.clients.now.items c.args.place _ c.requires.place c.index_mut.ensures.value)

pub returns-clause-started : goal.returns-clause-started
returns-clause-started g c =
    started_set _ c.args.clients.now.items c.args.place _ _ c.requires.place c.index_mut.ensures.value c.run_box.ensures.started

pub returns-clause-gives : goal.returns-clause-gives
returns-clause-gives g c =
    on_ok c.run_box.result (λ p. one_so (λ b. (goal.Client-dyn g (b.vtable, b.value)).tally b.value) c.args.view.now.kind _ c.args.clients.now.items c.args.place _ c.requires.place c.index_mut.ensures.value (some_is _ _ (sym (kind_map (λ b. (goal.Client-dyn g (b.vtable, b.value)).tally b.value) c.args.clients.now.items c.args.place _ c.requires.place c.index_mut.ensures.value) ∙ c.requires.kind)) p) c.run_box.ensures.gives

pub returns-clause-fails : goal.returns-clause-fails
returns-clause-fails g c =
    on_err c.run_box.result (λ e p. one_so (λ b. (goal.Client-dyn g (b.vtable, b.value)).tally b.value) c.args.view.now.kind _ c.args.clients.now.items c.args.place _ c.requires.place c.index_mut.ensures.value (some_is _ _ (sym (kind_map (λ b. (goal.Client-dyn g (b.vtable, b.value)).tally b.value) c.args.clients.now.items c.args.place _ c.requires.place c.index_mut.ensures.value) ∙ c.requires.kind)) p) c.run_box.ensures.fails

pub returns-clause-narrows : goal.returns-clause-narrows
returns-clause-narrows g c =
    narrows_at (λ b. (goal.Client-dyn g (b.vtable, b.value)).tally b.value) _ _ c.args.clients.now.items c.args.place _ _ c.requires.place c.index_mut.ensures.value (ap (λ t. t.0) c.run_box.ensures.started) c.run_box.ensures.gives_later c.run_box.ensures.fails_later
