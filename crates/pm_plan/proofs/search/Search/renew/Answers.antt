use Rattle.std.proofs.Common.{◌≡◌, ◌∙◌, refl, ap, inl, Some}
use Rattle.pm_rules.specs.declared.table.TableRow.{TableRow}
use Rattle.pm_plan.specs.Searches.{cost_known}
use Rattle.pm_plan.proofs.Places.{other_set, waits_rest}
use Rattle.pm_plan.proofs.search.Search.renew.Goals as goal

pub returns : goal.returns
returns c =
    let old = c.args.self.now in
    let row = c.args.row.now in
    let had : c.copied-had.result ≡ cost_known old row.set = c.copied-had.ensures ∙ c.get.ensures.value in
    let waits = c.in_ok-wait.ensures in
    record {
      rows = refl {a = old.rows.items};
      links = refl {a = old.links.items};
      goal = refl {a = old.goal};
      known_here = c.in_ok-insert.ensures.updates.1;
      known_others = λ set apart. other_set old.known c.insert.new.self row.set set (Some row.cost) c.in_ok-insert.ensures.updates apart;
      here = waits.here;
      others = λ other apart. waits.others other (λ e. apart (ap (λ (r : TableRow). r.set) e)) (inl apart);
      gone = λ other apart same at. waits.gone other apart same (had ∙ at);
      rest = λ other apart same some. waits_rest old.waiting c.wait.new.waiting c.copied-had.result row other c.args.link waits apart same some;
    }
